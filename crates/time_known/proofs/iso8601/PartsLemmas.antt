-- The parts that are written, one after another, give the outcome and the width of the choices.
use Rattle.std.proofs.Common.{◌≡◌, ◌≢◌, ℕ, ◌+◌, Bool, append_assoc, length-append, arith, Result, Ok}
use Rattle.std.proofs.lemmas.Grind.{common_steps}
use Rattle.time_fmt.specs.Ends.{Ends}
use Rattle.time_fmt.specs.Outcome.{Outcome, join}
use Rattle.time_fmt.specs.Sink.{Buffer}
use Rattle.time_fmt.specs.declared.refused.Refused.{Refused}
use Rattle.time_known.specs.Config.{Choices, has_date, has_time, has_offset}
use Rattle.time_known.specs.Groups.{AreAllSupplied, at_groups}
use Rattle.time_known.specs.Iso8601.{iso8601_outcome, iso_of_groups, iso_date, iso_time, iso_offset, part_if}
use Rattle.time_known.specs.Iso8601Parts.{SuppliesParts}
use Rattle.time_known.specs.Iso8601Width.{iso8601_width, iso_date_width, iso_time_width, iso_offset_width, width_if}
use Rattle.time_provide.specs.Laws.{Supplies}
use Rattle.time_known.specs.UsualText.{choices_of}
use Rattle.time_known.specs.Values.{Facts, the_date, the_time, the_offset}
use Rattle.time_known.specs.declared.iso8601.config.FormattedComponents.TheVariants as components
use Rattle.time_known.specs.declared.iso8601.config.Usual.{Usual}

-- ---- all parts

-- three parts that are put, one after another, of which the last alone may be refused
puts_three : {i j k : ℕ} {old mid last new : Buffer} {answer : Result Unit Refused} {d t o : Outcome}
    → Ends i old mid (Ok tt) d → Ends j mid last (Ok tt) t → Ends k last new answer o
    → Ends (i + j + k) old new answer (join d (join t o))
puts_three p q r = grind (arith, common_steps, append_assoc, length-append)

-- a part is put, if it is written
abbrev PutsPart : Bool → ℕ → Buffer → Buffer → Result Unit Refused → Outcome → Type 0
PutsPart is_written width old new answer o =
    Ends (width_if is_written width) old new answer (part_if is_written o)

-- where their groups are supplied, the parts give the outcome
parts_are : {date time offset moment : Bool} (c : Choices) (f : Facts) → c.formatted_components ≢ components.None
    → SuppliesParts c date time offset → Supplies date time offset moment f
    → iso8601_outcome c f ≡ at_groups (iso_of_groups c.formatted_components c) f
parts_are c f some supplied groups = grind (arith, common_steps)

-- parts that are put as they are written give the outcome
pub put_by_choice : {old mid last new : Buffer} {answer : Result Unit Refused} {date time offset moment : Bool}
    (c : Choices) (f : Facts) → c.formatted_components ≢ components.None → SuppliesParts c date time offset
    → Supplies date time offset moment f
    → PutsPart (has_date c.formatted_components) (iso_date_width c) old mid (Ok tt) (iso_date c (the_date f))
    → PutsPart (has_time c.formatted_components) (iso_time_width c) mid last (Ok tt) (iso_time c (the_time f))
    → PutsPart (has_offset c.formatted_components) (iso_offset_width c) last new answer (iso_offset c (the_offset f))
    → Ends (iso8601_width c) old new answer (iso8601_outcome c f)
put_by_choice c f some supplied groups p q r = rw (parts_are c f some supplied groups) (puts_three p q r)

-- ---- usual texts

-- all three, by the choices of a usual text
pub all_parts : {date time offset moment : Bool} (c : Choices) (f : Facts) (u : Usual) → c ≡ choices_of u
    → AreAllSupplied date time offset → Supplies date time offset moment f
    → iso8601_outcome c f ≡ at_groups (iso_of_groups components.DateTimeOffset c) f
all_parts c f u e supplied groups = grind (arith, common_steps)
