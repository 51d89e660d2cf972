use Rattle.std.proofs.Common.{◌≡◌, ◌∙◌, ap}
use Rattle.jiff.proofs.ZoneFacts.{shows-fixed_zone}
use Rattle.jiff.specs.ZonedView.{plain_zoned, zoned_nanos}
use Rattle.jiff_core.specs.declared.timestamp.Timestamp.{Timestamp}
use Rattle.time_below.specs.Moment.{DateAndTime}
use Rattle.time_below.specs.Offset.{offset_seconds}
use Rattle.time_jiff.specs.Same.{local_nanoseconds}
use Rattle.time_jiff.proofs.CalendarLemmas.{same_clock}
use Rattle.time_jiff.proofs.MomentLemmas.{one_offset}
use Rattle.time_jiff.proofs.in_fixed_zone.Goals as goal

pub returns-clause-offset : goal.returns-clause-offset
returns-clause-offset c =
    let zoned = plain_zoned c.to_zoned.result in
    one_offset _ _ zoned.offset.seconds c.jiff_offset.result.seconds zoned.shows
    (shows-fixed_zone zoned c.jiff_offset.result (c.to_zoned.ensures.zone ∙ c.fixed.ensures))
    ∙ c.jiff_offset.ensures ∙ ap offset_seconds c.offset.ensures

pub returns-clause-date : goal.returns-clause-date
returns-clause-date c =
    let moment : zoned_nanos c.to_zoned.result ≡ local_nanoseconds c.args.moment =
    ap (λ (t : Timestamp). t.nanosecond) c.to_zoned.ensures.instant ∙ c.requires.instant in
    ap (λ (t : DateAndTime). t.date)
    (same_clock c.to_zoned.result c.args.moment c.requires.date c.requires.time moment (returns-clause-offset c))

pub returns-clause-time : goal.returns-clause-time
returns-clause-time c =
    let moment : zoned_nanos c.to_zoned.result ≡ local_nanoseconds c.args.moment =
    ap (λ (t : Timestamp). t.nanosecond) c.to_zoned.ensures.instant ∙ c.requires.instant in
    ap (λ (t : DateAndTime). t.time)
    (same_clock c.to_zoned.result c.args.moment c.requires.date c.requires.time moment (returns-clause-offset c))

pub returns-clause-zone : goal.returns-clause-zone
returns-clause-zone c =
    (c.jiff_offset.result, c.jiff_offset.ensures ∙ ap offset_seconds c.offset.ensures, c.to_zoned.ensures.zone ∙ c.fixed.ensures)
