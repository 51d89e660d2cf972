use Rattle.std.proofs.Common.{◌≡◌, ◌<◌, ap, arith, unsigned_abs}
use Rattle.std.proofs.lemmas.Grind.{common_steps}
use Rattle.std.proofs.lemmas.Result.{err_from_is_err_and}
use Rattle.time_known.specs.Fields.{Shown}
use Rattle.time_known.specs.ImfFixdate.{imf_fixdate_text}
use Rattle.time_known.specs.Values.{Offset, the_date, the_time, the_offset}
use Rattle.time_known.proofs.ImfFixdateLemmas.{minute_refused, refused_in_utc}
use Rattle.time_known.proofs.imf_fixdate.ImfFixdateText.accepted.Goals as goal

pub returns-in_err-fields-clause-refused : goal.returns-in_err-fields-clause-refused
returns-in_err-fields-clause-refused g c =
    let f = g.V.ComponentProvider.facts c.args.value.now in
    let p = err_from_is_err_and c.from_residual.result c.from_residual.ensures.1 in
    rw (p.1, p.2) (refused_in_utc (the_date f) (the_time f) (the_offset f) _
    (c.in_err-fields.ensures.refused (imf_fixdate_text (the_date f) (the_time f))))

pub returns-then-as_hms-ne0-clause-refused : goal.returns-then-as_hms-ne0-clause-refused
returns-then-as_hms-ne0-clause-refused g c =
    let f = g.V.ComponentProvider.facts c.args.value.now in
    let offset : ◌≡◌ {A = Offset} c.in_ok-fields.fields.offset (the_offset f) =
    ap (λ (s : Shown). s.offset) c.in_ok-fields.ensures.fields in
    let minute : 0 < unsigned_abs (the_offset f).minutes = grind (arith, common_steps) in
    minute_refused (the_date f) (the_time f) (the_offset f) minute
    (c.in_ok-fields.ensures.accepted (imf_fixdate_text (the_date f) (the_time f)))
