use Rattle.std.proofs.Common.{ap, ◌∙◌}
use Rattle.time_fmt.specs.Outcome.{Outcome}
use Rattle.time_known.specs.Groups.{at_groups}
use Rattle.time_known.specs.ImfFixdate.{imf_fixdate_of_groups}
use Rattle.time_known.proofs.GuaranteeLemmas.{imf_fixdate_utf8}
use Rattle.time_known.proofs.ImfFixdateLemmas.{imf_fixdate_is_written}
use Rattle.time_known.proofs.LawLemmas.{completed_are_canonical}
use Rattle.time_known.proofs.ReadBackLemmas.{reads_as}
use Rattle.time_known.proofs.imf_fixdate.ImfFixdateFormattable.write_into.Goals as goal

pub returns-clause-spelled : goal.returns-clause-spelled
returns-clause-spelled g c =
    let value = c.args.value.now in
    let f = g.V.ComponentProvider.facts value in
    let all = c.are_supplied_by.ensures.there value ∙ c.if-not-are_supplied_by.false in
    rw all (reads_as imf_fixdate_of_groups (completed_are_canonical imf_fixdate_is_written) f all c.in_ok-text.ensures.real
    (ap (λ (o : Outcome). o.refusal) {x = at_groups imf_fixdate_of_groups f} c.in_ok-text.ensures.accepted))

pub returns-clause-text : goal.returns-clause-text
returns-clause-text g c = λ _. imf_fixdate_utf8 (g.V.ComponentProvider.facts c.args.value.now)

pub returns-in_err-text-clause-text : goal.returns-in_err-text-clause-text
returns-in_err-text-clause-text g c = λ _. imf_fixdate_utf8 (g.V.ComponentProvider.facts c.args.value.now)
