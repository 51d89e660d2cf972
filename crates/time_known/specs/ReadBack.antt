-- What a completed text of a well-known format says of the value that was formatted.
use Rattle.std.specs.Prelude.{◌≡◌, ℕ, List, Some}
use Rattle.time_known.specs.Laws.{IsValue}
use Rattle.time_known.specs.Rules.{Rule}
use Rattle.time_known.specs.Values.{Facts, date_facts, OffsetDateAndTime}

-- The facts are those of a local date, a time and an offset, all in their ranges; the text spells what
-- is kept of them, and it is the canonical text.
pub record ReadsAs (kept : OffsetDateAndTime → OffsetDateAndTime) (Spells Canonical : OffsetDateAndTime → Rule)
    (f : Facts) (text : List ℕ) : Type 0 where
  pub value : OffsetDateAndTime
  pub fits : IsValue value
  pub date : f.date ≡ Some (date_facts value.date)
  pub time : f.time ≡ Some value.time
  pub offset : f.offset ≡ Some value.offset
  pub spelled : Spells (kept value) text
  pub canonical : Canonical (kept value) text
