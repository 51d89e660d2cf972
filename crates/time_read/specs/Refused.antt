-- The place at which a text is refused.
use Rattle.std.specs.Prelude.{ℕ, ◌≤◌, ◌↔◌, IsTrue, List, length, take, drop}
use Rattle.time_known.specs.Rules.{Rule}
use Rattle.time_read.specs.Fault.{IsFirstFault, IsSecond60, SpellsSome}
use Rattle.time_read.specs.declared.fault.NotRead.{NotRead}

-- the text spells no value, and is refused at its first fault; its seconds stand at this place
pub record IsRefused {V : Type 0} (Spells : V → Rule) (seconds : ℕ) (text : List ℕ)
    (place : NotRead) : Type 0 where
  pub refused : (v : V) → ¬ Spells v text
  pub first : IsFirstFault (SpellsSome Spells)
      (take place.at text) (drop place.at text) place.expected
  pub within : place.at ≤ length text
  pub second_60 : IsTrue place.is_second_60 ↔ IsSecond60 seconds place.at text
