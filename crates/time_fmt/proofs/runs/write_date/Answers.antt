use Rattle.std.proofs.Common.{ap, arith, false, length}
use Rattle.std.specs.Prelude.{ℤ}
use Rattle.time_below.specs.declared.format_description.modifier.Padding.TheVariants as padding
use Rattle.time_fmt.specs.Kind.{kind_text, extended_year}
use Rattle.time_fmt.specs.Sink.{Block}
use Rattle.time_fmt.proofs.RunLemmas.{length-year}
use Rattle.std.proofs.lemmas.Grind.{common_steps}
use Rattle.time_fmt.proofs.runs.write_date.Goals as goal

pub fmt_calendar_year_full_extended_range-count-requires : goal.fmt_calendar_year_full_extended_range-count-requires
fmt_calendar_year_full_extended_range-count-requires g c =
    record { room = omega (arith, c.requires.room, length-year c.calendar_year-year.result c.calendar_year-year.ensures.range) }

pub write_two_after-requires : goal.write_two_after-requires
write_two_after-requires g c =
    let long = length-year c.calendar_year-year.result c.calendar_year-year.ensures.range in
    let year = c.fmt_calendar_year_full_extended_range-count.ensures.writes in
    record { room = omega (arith, c.requires.room, year.grown, ap (λ (b : Block). b.capacity) year.block, long) }

pub overflow_add-result : goal.overflow_add-result
overflow_add-result g c =
    let long = length-year c.calendar_year-year.result c.calendar_year-year.ensures.range in
    omega (arith, c.fmt_calendar_year_full_extended_range-count.ensures.writes.counted, c.write_two_after.ensures.count, long)

pub returns-clause-most : goal.returns-clause-most
returns-clause-most g c =
    let long = length-year c.calendar_year-year.result c.calendar_year-year.ensures.range in
    omega (arith, c.fmt_calendar_year_full_extended_range-count.ensures.writes.counted, c.write_two_after.ensures.count, long)

pub returns-clause-beside_year : goal.returns-clause-beside_year
returns-clause-beside_year g c =
    let same = ap (λ (year : ℤ). length (kind_text (extended_year padding.Zero false year))) c.calendar_year-year.ensures.value in
    omega (arith, same, c.fmt_calendar_year_full_extended_range-count.ensures.writes.counted, c.write_two_after.ensures.count)

pub returns-clause-writes : goal.returns-clause-writes
returns-clause-writes g c = grind (arith, common_steps)
