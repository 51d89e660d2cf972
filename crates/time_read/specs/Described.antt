-- Texts at the front of other texts.
use Rattle.std.specs.Prelude.{◌≡◌, ℕ, List, ◌++◌}
use Rattle.time_fmt.specs.Outcome.{Outcome, done}

-- a text begins with the complete text of an outcome, and this follows it
pub record BeginsWith (outcome : Outcome) (text rest : List ℕ) : Type 0 where
  pub front : List ℕ
  pub is : outcome ≡ done front
  pub parts : text ≡ front ++ rest
