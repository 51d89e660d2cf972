use Rattle.std.proofs.Common.{ap, sym, ◌∙◌, unsigned_abs}
use Rattle.time_fmt.specs.Outcome.{Outcome}
use Rattle.time_known.specs.Fields.{Shown}
use Rattle.time_known.specs.Groups.{at_groups}
use Rattle.time_known.specs.Rfc2822.{rfc2822_of_groups, rfc2822_text}
use Rattle.time_known.specs.Values.{the_date, the_offset}
use Rattle.time_known.proofs.AcceptedLemmas.{any_hour, appended_as}
use Rattle.time_known.proofs.GuaranteeLemmas.{rfc2822_utf8}
use Rattle.time_known.proofs.LawLemmas.{completed_are_canonical}
use Rattle.time_known.proofs.ReadBackLemmas.{are_all, reads_as}
use Rattle.time_known.proofs.Rfc2822Lemmas.{rfc2822_is_written}
use Rattle.time_known.proofs.rfc2822.Rfc2822Formattable.write_into.Goals as goal

pub weekday-weekday-requires-clause-supplied : goal.weekday-weekday-requires-clause-supplied
weekday-weekday-requires-clause-supplied g c =
    (are_all _ _ _ (sym c.are_supplied_by.ensures.supplied ∙ c.if-not-are_supplied_by.false)).0

pub returns : goal.returns
returns g c =
    let value = c.args.value.now in
    let f = g.V.ComponentProvider.facts value in
    let all = c.are_supplied_by.ensures.there value ∙ c.if-not-are_supplied_by.false in
    let text = at_groups rfc2822_text f in
    let hours = any_hour 1900 (the_date f).year (unsigned_abs (the_offset f).hours)
    (unsigned_abs (the_offset f).seconds) text c.accepted_fields.ensures.offset.0.0 in
    let put = appended_as (λ (s : Shown). rfc2822_text (record s.date { weekday = (the_date f).weekday }) s.time s.offset)
    c.in_ok-fields.ensures.fields (rw c.weekday-weekday.ensures.value at c.append.ensures.appends) in
    record {
      appends = rw (all, sym hours ∙ c.in_ok-fields.ensures.accepted text) put.appends;
      spelled = rw all (reads_as rfc2822_of_groups (completed_are_canonical rfc2822_is_written) f all c.in_ok-fields.ensures.real
          (ap (λ (o : Outcome). o.refusal) (sym hours ∙ c.in_ok-fields.ensures.accepted text)));
      within = put.within;
      text = λ _. rfc2822_utf8 f;
      agrees = c.weekday-weekday.ensures.agrees.agrees;
    }

pub returns-in_err-fields-clause-text : goal.returns-in_err-fields-clause-text
returns-in_err-fields-clause-text g c = λ _. rfc2822_utf8 (g.V.ComponentProvider.facts c.args.value.now)
