-- The grammar of texts of strftime: what they are made of, how it is spelled, and what it means.
use Rattle.std.specs.Prelude.{◌≡◌, ℕ, Bool, true, false, ◌&&◌, codes, List, [], ◌∷◌, ◌++◌, Option, Some, None, option_map, if◌then◌else◌}
use Rattle.std.specs.List.{list_any}
use Rattle.time_below.specs.declared.format_description.modifier.Padding.{Padding}
use Rattle.time_below.specs.Tree.{Tree, of_component}
use Rattle.time_describe.specs.Conversions.{byte, flag_named, width, number, items_of, fraction, offset}
use Rattle.time_describe.specs.Literal.{literal_of}
use Rattle.time_describe.specs.Strftime.{is_percent, colon}

-- what stands behind a `%`: a letter; a flag and a letter; a colon and `z`; a digit and `N`
pub data Conversion : Type 0 where
  letter : ℕ → Conversion
  flag_and_letter : ℕ → ℕ → Conversion
  colon_and_z : Conversion
  digit_and_n : ℕ → Conversion

-- a text is literals and conversions
pub data SpelledPart : Type 0 where
  literal : List ℕ → SpelledPart
  converted : Conversion → SpelledPart

abbrev pub behind_percent : Conversion → List ℕ
behind_percent (letter c) = c ∷ []
behind_percent (flag_and_letter f c) = f ∷ c ∷ []
behind_percent colon_and_z = colon ∷ byte (codes "z") ∷ []
behind_percent (digit_and_n d) = d ∷ byte (codes "N") ∷ []

abbrev pub part_spelling : SpelledPart → List ℕ
part_spelling (literal bytes) = bytes
part_spelling (converted v) = byte (codes "%") ∷ behind_percent v

abbrev pub spelling : List SpelledPart → List ℕ
spelling [] = []
spelling (p ∷ ps) = part_spelling p ++ spelling ps

-- ---- what they mean

-- a number of this letter, where there is a flag
abbrev pub numbered : ℕ → Option Padding → Option (List Tree)
numbered c None = None
numbered c (Some p) = option_map (λ x. of_component x ∷ []) (number c (Some p))

abbrev pub meaning : Conversion → Option (List Tree)
meaning (letter c) = items_of c
meaning (flag_and_letter f c) = numbered c (flag_named f)
meaning colon_and_z = Some (offset true)
meaning (digit_and_n d) = option_map (λ n. fraction (Some n) ∷ []) (width d)

-- a literal has bytes, and no percent sign
abbrev pub part_meaning : SpelledPart → Option (List Tree)
part_meaning (literal []) = None
part_meaning (literal (b ∷ bs)) = if list_any is_percent (b ∷ bs) then None else Some (literal_of (b ∷ bs) ∷ [])
part_meaning (converted v) = meaning v

-- two literals side by side are one
abbrev pub begins_with_literal : List SpelledPart → Bool
begins_with_literal [] = false
begins_with_literal (literal bytes ∷ ps) = true
begins_with_literal (converted v ∷ ps) = false

abbrev pub is_literal : SpelledPart → Bool
is_literal (literal bytes) = true
is_literal (converted v) = false

-- these items, after others
abbrev pub Means : List Tree → List SpelledPart → List Tree → Type 0
Means before [] all = before ≡ all
Means before (p ∷ ps) all =
    (items : List Tree) × (part_meaning p ≡ Some items) × ((is_literal p && begins_with_literal ps) ≡ false)
    × Means (before ++ items) ps all
