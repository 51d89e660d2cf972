-- What a text that spells a local date and time with its offset says of a value of another type.
use Rattle.std.specs.Prelude.{◌≡◌, ℕ, List}
use Rattle.time_below.specs.Moment.{OffsetDateAndTime}

-- the text spells a local date and time with its offset, whose value of the type is this one
pub record SpellsValue {V : Type 0} (Spells : OffsetDateAndTime → List ℕ → Type 0) (value_of : OffsetDateAndTime → V)
    (value : V) (text : List ℕ) : Type 0 where
  pub spelled : OffsetDateAndTime
  pub spells : Spells spelled text
  pub is : value ≡ value_of spelled
