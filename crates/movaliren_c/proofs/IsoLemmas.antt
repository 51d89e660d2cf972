-- Values of which no configuration of ISO 8601 refuses anything.
use Rattle.std.proofs.Common.{◌≡◌, ◌≢◌, Bool, ℕ, ℤ, List, IfErr, IfOk, Ok, Result, arith, refl, None}
use Rattle.std.proofs.lemmas.Grind.{common_steps}
use Rattle.movaliren_c.specs.Answer.{IsRefusedFor, IsWritten}
use Rattle.movaliren_c.specs.Chosen.{HavePlaces}
use Rattle.movaliren_c.specs.declared.answers.reason.Reason.{Reason}
use Rattle.time_below.specs.Facts.{date_facts}
use Rattle.time_fmt.specs.Outcome.{Outcome, join}
use Rattle.time_known.specs.Config.{Choices, has_date, has_offset, has_time}
use Rattle.time_known.specs.Iso8601.{iso8601_of, iso_date, iso_offset, iso_time, iso_of_groups, part_if, year_of_kind}
use Rattle.time_known.specs.Values.{DateFacts, Offset, OffsetDateAndTime}
use Rattle.time_known.specs.declared.iso8601.config.FormattedComponents.TheVariants as components

-- a year of four digits is not refused
date_whole : (c : Choices) (d : DateFacts) (y : ℤ) (o : Offset) → y ≡ year_of_kind c.date_kind d
    → HavePlaces c.offset_precision y o → (iso_date c d).refusal ≡ None
date_whole c d y o e place = grind (arith, common_steps)

-- an offset that is written whole is not refused
offset_whole : (c : Choices) (y : ℤ) (o : Offset) → HavePlaces c.offset_precision y o
    → (iso_offset c o).refusal ≡ None
offset_whole c y o place = grind (arith, common_steps)

-- three outcomes of which none is refused are not refused together
joined_whole : (a b c : Outcome) (first second third : Bool) → a.refusal ≡ None → b.refusal ≡ None → c.refusal ≡ None
    → (join (part_if first a) (join (part_if second b) (part_if third c))).refusal ≡ None
joined_whole a b c first second third p q r = grind (arith, common_steps)

-- a value with a date, a time and an offset supplies all that is written, and its text is that of the parts
parts_of_value : (c : Choices) (v : OffsetDateAndTime) → c.formatted_components ≢ components.None
    → iso8601_of c v ≡ iso_of_groups c.formatted_components c (date_facts v.date) v.time v.offset
parts_of_value c v some = grind (arith, common_steps)

-- a value whose year and offset have places is not refused
pub nothing_refused : (c : Choices) (v : OffsetDateAndTime) (y : ℤ) → c.formatted_components ≢ components.None
    → y ≡ year_of_kind c.date_kind (date_facts v.date) → HavePlaces c.offset_precision y v.offset
    → (iso8601_of c v).refusal ≡ None
nothing_refused c v y some e place =
    rw (parts_of_value c v some)
    (joined_whole (iso_date c (date_facts v.date)) (iso_time c v.time) (iso_offset c v.offset)
    (has_date c.formatted_components) (has_time c.formatted_components) (has_offset c.formatted_components)
    (date_whole c (date_facts v.date) y v.offset e place) refl (offset_whole c y v.offset place))

-- what is not refused is written, if each reason is that of the refusal
pub whole_written : (answer : Result ℕ Reason) (o : Outcome) (before after : List ℕ) → o.refusal ≡ None
    → IfOk answer (λ n. IsWritten (Ok n) o before after) → IfErr answer (λ r. IsRefusedFor r o)
    → IsWritten answer o before after
whole_written answer o before after whole text refused = grind arith
