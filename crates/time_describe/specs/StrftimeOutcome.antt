-- What calls return that read the syntax of strftime.
use Rattle.std.specs.Prelude.{◌≡◌, ℕ, ◌+◌, ◌==◌, false, List, [], ◌∷◌, length, take, drop, Some, Result, Ok, Err}
use Rattle.time_below.specs.Tree.{Tree, of_component}
use Rattle.time_describe.specs.Conversions.{component_of, offset, composed}
use Rattle.time_describe.specs.Literal.{literal_of}
use Rattle.time_describe.specs.Strftime.{Front, read}
use Rattle.time_describe.specs.declared.fault.Fault.{Fault}
use Rattle.time_describe.specs.declared.items.Parted.{Parted}
use Rattle.time_describe.specs.declared.strftime.reason.StrftimeReason.{StrftimeReason}
use Rattle.time_describe.specs.declared.strftime.part.StrftimePart.{StrftimePart}
use Rattle.time_describe.specs.declared.strftime.part.StrftimePart.TheVariants as part

-- the items of a part to which these bytes belong
abbrev pub items_of_part : List ℕ → StrftimePart → List Tree
items_of_part own part.Literal = literal_of own ∷ []
items_of_part own (part.Byte b) = literal_of (b ∷ []) ∷ []
items_of_part own (part.Component c) = of_component c ∷ []
items_of_part own (part.Offset with_colon) = offset with_colon
items_of_part own (part.Composition text) = composed text.now

-- the part at the front of a text and how many bytes belong to it behind its first one, or its fault
abbrev pub front_of : List ℕ → Result (StrftimePart × ℕ) (Fault StrftimeReason) → Result Front (Fault StrftimeReason)
front_of text (Ok x) = Ok (record { items = items_of_part (take (x.1 + 1) text) x.0; behind = x.1 })
front_of text (Err fault) = Err fault

-- a text begins with the conversions of three components, and between them with bytes that are no percent signs
pub record BeginsParted (text : List ℕ) (p : Parted) : Type 0 where
  pub one : ℕ
  pub two : ℕ
  pub three : ℕ
  pub rest : List ℕ
  pub spelled : text ≡ 37 ∷ one ∷ p.before_second ∷ 37 ∷ two ∷ p.before_third ∷ 37 ∷ three ∷ rest
  pub first : component_of one ≡ Some p.first
  pub second : component_of two ≡ Some p.second
  pub third : component_of three ≡ Some p.third
  pub second_plain : (p.before_second == 37) ≡ false
  pub third_plain : (p.before_third == 37) ≡ false

-- a list holds the items so far, which are so many, and reading goes on at a place of the text
abbrev pub IsAt : List ℕ → ℕ → ℕ → (List Tree → Type 0) → Result (List Tree) (Fault StrftimeReason) → Type 0
IsAt text at count Holds reading = (items : List Tree) × (count ≡ length items) × Holds items × (reading ≡ read items 0 (drop at text))
