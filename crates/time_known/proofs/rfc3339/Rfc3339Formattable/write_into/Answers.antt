use Rattle.std.proofs.Common.{ap, ◌∙◌}
use Rattle.time_fmt.specs.Outcome.{Outcome}
use Rattle.time_known.specs.Groups.{at_groups}
use Rattle.time_known.specs.Rfc3339.{rfc3339_of_groups, rfc3339_text}
use Rattle.time_known.proofs.GuaranteeLemmas.{rfc3339_utf8}
use Rattle.time_known.proofs.LawLemmas.{completed_are_canonical}
use Rattle.time_known.proofs.ReadBackLemmas.{reads_as}
use Rattle.time_known.proofs.Rfc3339Lemmas.{rfc3339_is_written}
use Rattle.time_known.proofs.rfc3339.Rfc3339Formattable.write_into.Goals as goal

pub returns-clause-spelled : goal.returns-clause-spelled
returns-clause-spelled g c =
    let value = c.args.value.now in
    let f = g.V.ComponentProvider.facts value in
    let all = c.are_supplied_by.ensures.there value ∙ c.if-not-are_supplied_by.false in
    rw all (reads_as rfc3339_of_groups (completed_are_canonical rfc3339_is_written) f all c.in_ok-fields.ensures.real
    (ap (λ (o : Outcome). o.refusal) {x = at_groups rfc3339_of_groups f} (c.in_ok-fields.ensures.accepted (at_groups rfc3339_text f))))

pub returns-clause-text : goal.returns-clause-text
returns-clause-text g c = λ _. rfc3339_utf8 (g.V.ComponentProvider.facts c.args.value.now)

pub returns-in_err-fields-clause-text : goal.returns-in_err-fields-clause-text
returns-in_err-fields-clause-text g c = λ _. rfc3339_utf8 (g.V.ComponentProvider.facts c.args.value.now)
