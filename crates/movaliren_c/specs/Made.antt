-- What a call leaves that makes a description of a text.
use Rattle.std.specs.Prelude.{ℕ, ◌≡◌, ◌<◌, ◌≤◌, ◌-◌, ◌⊎◌, List, length, take, Result, Ok, Err, MatchResult}
use Rattle.movaliren_c.specs.Described.{DescribeNothing, Leaves, long}
use Rattle.movaliren_c.specs.declared.answers.reason.Reason.{Reason}
use Rattle.movaliren_c.specs.declared.answers.reason.Reason.TheVariants as reason
use Rattle.movaliren_c.specs.declared.described.item.Item.{Item}
use Rattle.movaliren_c.specs.declared.described.syntax.ParseError.{ParseError}
use Rattle.movaliren_c.specs.declared.description.Description.{Description}
use Rattle.time_below.specs.Tree.{Tree}

-- the items of a description, which are at the start of its array
abbrev pub items_of : Description → List Item
items_of d = take (64 - d.unused) d.items

-- what their literals lie in
abbrev pub texts_of : Description → List ℕ
texts_of d = take d.texts_len d.texts

-- the description has these items of its array, and the text; or it describes nothing
abbrev pub Keeps : List ℕ → Result ℕ Reason → Result ℕ Reason → Description → Type 0
Keeps text counted answer d =
    MatchResult counted (λ count. (answer ≡ Ok 0) × (items_of d ≡ take count d.items) × (texts_of d ≡ text))
    (λ r. (answer ≡ Err r) × DescribeNothing (items_of d))

-- the items of a text were described, or why they were not
pub record IsKept (text : List ℕ) (described : Result (List Tree) ParseError) (answer : Result ℕ Reason) (d : Description)
    (old new : ParseError) : Type 0 where
  pub counted : Result ℕ Reason
  pub leaves : Leaves text described counted d.items old new
  pub keeps : Keeps text counted answer d

-- a text of more than 512 bytes is refused
pub record IsTooLong (answer : Result ℕ Reason) (d : Description) (new : ParseError) : Type 0 where
  pub refused : answer ≡ Err reason.BufferTooSmall
  pub nothing : DescribeNothing (items_of d)
  pub fault : new ≡ long 512

-- The description is that of the text, and the error is unchanged; or it describes nothing, and the error says why.
pub record IsMade (text : List ℕ) (described : Result (List Tree) ParseError) (answer : Result ℕ Reason) (d : Description)
    (old new : ParseError) : Type 0 where
  pub made : length text ≤ 512 → IsKept text described answer d old new
  pub too_long : 512 < length text → IsTooLong answer d new
