-- The first place at which a text is none of a rule.
use Rattle.std.specs.Prelude.{◌≡◌, ◌↔◌, ℕ, ◌+◌, ◌⊎◌, List, [], ◌∷◌, ◌++◌, slice_get, Some}
use Rattle.std.specs.Int.{IsInRange}
use Rattle.time_known.specs.Rules.{Rule}
use Rattle.time_read.specs.declared.fault.Expected.{Expected}
use Rattle.time_read.specs.declared.fault.Expected.TheVariants as expected
use Rattle.time_read.specs.declared.fault.Profile.{Profile}
use Rattle.time_read.specs.declared.fault.Profile.TheVariants as profile

-- a capital letter, or its small form where the profile is lenient
abbrev pub IsLetter : Profile → ℕ → ℕ → Type 0
IsLetter profile.Strict letter b = b ≡ letter
IsLetter profile.Lenient letter b = (b ≡ letter) ⊎ (b ≡ letter + 32)

-- `Z`, `+` or `-`
abbrev pub BeginsOffset : Profile → ℕ → Type 0
BeginsOffset p b = IsLetter p 90 b ⊎ ((b ≡ 43) ⊎ (b ≡ 45))

-- a text spells some value
pub record SpellsSome {V : Type 0} (Spells : V → Rule) (text : List ℕ) : Type 0 where
  pub value : V
  pub spelled : Spells value text

-- a text of the rule begins with these bytes
pub record Begins (P : Rule) (front : List ℕ) : Type 0 where
  pub more : List ℕ
  pub whole : P (front ++ more)

-- a byte is one of those that could have come, where a byte was expected
abbrev pub Allows : Expected → ℕ → Type 0
Allows (expected.Digit first last) b = IsInRange (48 + first) (48 + last) b
Allows (expected.Byte wanted) b = b ≡ wanted
Allows (expected.Letter letter p) b = IsLetter p letter b
Allows (expected.Offset p) b = BeginsOffset p b
Allows (expected.PointOrOffset p) b = (b ≡ 46) ⊎ BeginsOffset p b
Allows (expected.DigitOrOffset p) b = IsInRange 48 57 b ⊎ BeginsOffset p b
Allows expected.End b = ⊥
Allows expected.Sign b = (b ≡ 43) ⊎ (b ≡ 45)
Allows (expected.Mail part) b = ⊥
Allows (expected.Plan mismatch) b = ⊥

-- The right bytes begin a text of the rule. With one more they do so exactly if it is expected, and none
-- that is expected follows.
pub record IsFirstFault (P : Rule) (right rest : List ℕ) (e : Expected) : Type 0 where
  pub begins : Begins P right
  pub expected : (b : ℕ) → Begins P (right ++ b ∷ []) ↔ Allows e b
  pub found : (b : ℕ) (after : List ℕ) → rest ≡ b ∷ after → ¬ Allows e b

-- second 60 stands there, in a text whose seconds stand at this place
pub record IsSecond60 (seconds at : ℕ) (text : List ℕ) : Type 0 where
  pub place : at ≡ seconds
  pub tens : slice_get text seconds ≡ Some 54
  pub units : slice_get text (seconds + 1) ≡ Some 48
