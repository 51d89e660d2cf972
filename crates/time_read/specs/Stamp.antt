-- Stamps that are read.
use Rattle.std.specs.Prelude.{◌≡◌, ℕ, List}
use Rattle.time_below.specs.Moment.{DateAndTime}
use Rattle.time_known.specs.Stamps.{HasStamp, stamp_text}

-- the text is the stamp of the value
pub record IsStamp (v : DateAndTime) (text : List ℕ) : Type 0 where
  pub has : HasStamp v
  pub is : text ≡ stamp_text v
