-- What a text in the syntax of strftime describes, or the first fault that is met.
use Rattle.std.specs.Prelude.{ℕ, zero, suc, ◌+◌, ◌==◌, nat_le, Bool, true, codes, List, [], ◌∷◌, ◌++◌, length, Option, Some, None, is_some, option_map, Result, Ok, Err, if◌then◌else◌}
use Rattle.std.specs.List.{before_first}
use Rattle.time_below.specs.declared.format_description.modifier.Padding.{Padding}
use Rattle.time_below.specs.declared.format_description.modifier.SubsecondDigits.{SubsecondDigits}
use Rattle.time_below.specs.Tree.{Tree, of_component}
use Rattle.time_describe.specs.Conversions.{byte, flag_named, width, number, items_of, refusal, refusal_behind_flag, fraction, offset}
use Rattle.time_describe.specs.Limit.{most_items}
use Rattle.time_describe.specs.Literal.{literal_of}
use Rattle.time_describe.specs.declared.fault.Fault.{Fault}
use Rattle.time_describe.specs.declared.strftime.reason.StrftimeReason.{StrftimeReason}
use Rattle.time_describe.specs.declared.strftime.reason.StrftimeReason.TheVariants.{Unfinished, UnknownConversion, FieldWidth, TooManyItems}

abbrev pub is_percent : ℕ → Bool
is_percent b = b == 37

abbrev pub colon : ℕ
colon = byte (codes ":")

-- a fault, and how many bytes are left from its own to the end of the text
abbrev pub fails : {A : Type 0} → StrftimeReason → ℕ → Result A (Fault StrftimeReason)
fails reason left = Err (record { reason = reason; left = left })

-- the front of a text: its items, and how many bytes belong to it behind the first one
pub record Front : Type 0 where
  pub items : List Tree
  pub behind : ℕ

abbrev pub front : List Tree → ℕ → Result Front (Fault StrftimeReason)
front items behind = Ok (record { items = items; behind = behind })

-- what a letter stands for, so many bytes behind the `%`
abbrev pub or_fault : Option (List Tree) → ℕ → StrftimeReason → ℕ → Result Front (Fault StrftimeReason)
or_fault None behind reason left = fails reason left
or_fault (Some items) behind reason left = front items behind

-- behind a flag: a letter of a number
unfoldable pub flagged : Option Padding → List ℕ → Result Front (Fault StrftimeReason)
flagged flag [] = fails Unfinished 2
flagged flag (c ∷ bs) = or_fault (option_map (λ x. of_component x ∷ []) (number c flag)) 2 (refusal_behind_flag c) (length bs + 1)

-- behind a colon: `z`
unfoldable pub with_colon : List ℕ → Result Front (Fault StrftimeReason)
with_colon [] = fails (UnknownConversion colon) 1
with_colon (c ∷ bs) = if c == byte (codes "z") then front (offset true) 2 else fails (UnknownConversion colon) (length bs + 2)

-- behind a digit that is a width: `N`
unfoldable pub with_width : ℕ → Option SubsecondDigits → List ℕ → Result Front (Fault StrftimeReason)
with_width d digits [] = fails (FieldWidth d) 1
with_width d digits (c ∷ bs) = if c == byte (codes "N") then front (fraction digits ∷ []) 2 else fails (FieldWidth d) (length bs + 2)

-- behind a `%`: a letter, or a flag and a letter, or a colon and `z`, or a width and `N`
unfoldable pub conversion : List ℕ → Result Front (Fault StrftimeReason)
conversion [] = fails Unfinished 1
conversion (c ∷ bs) =
    if is_some (flag_named c) then flagged (flag_named c) bs
    else (if c == colon then with_colon bs
    else (if is_some (width c) then with_width c (width c) bs
    else or_fault (items_of c) 1 (refusal c) (length bs + 1)))

-- the first part of a text: a conversion, or else the literal of all bytes before the next `%`
unfoldable pub first_part : List ℕ → Result Front (Fault StrftimeReason)
first_part [] = front [] 0
first_part (b ∷ bs) =
    if is_percent b then conversion bs
    else (let run = before_first is_percent bs in front (literal_of (b ∷ run) ∷ []) (length run))

infixl 10 ◌>>=◌
abbrev pub ◌>>=◌ : {A B : Type 0} → Result A (Fault StrftimeReason) → (A → Result B (Fault StrftimeReason)) → Result B (Fault StrftimeReason)
(Ok x) >>= f = f x
(Err e) >>= f = Err e

-- items, if they are not too many; the part of the last ones begins where so many bytes are left
unfoldable pub bounded : List Tree → ℕ → Result (List Tree) (Fault StrftimeReason)
bounded items left = if nat_le (length items) most_items then Ok items else fails TooManyItems left

-- A text is read part by part. These are the items so far, and so many of the next bytes belong to the last part.
unfoldable pub read : List Tree → ℕ → List ℕ → Result (List Tree) (Fault StrftimeReason)
read before passed [] = Ok before
read before (suc n) (b ∷ bs) = read before n bs
read before zero (b ∷ bs) =
    first_part (b ∷ bs) >>= λ f. bounded (before ++ f.items) (length (b ∷ bs)) >>= λ items. read items f.behind bs

-- the items of a text
abbrev pub described : List ℕ → Result (List Tree) (Fault StrftimeReason)
described text = read [] 0 text
