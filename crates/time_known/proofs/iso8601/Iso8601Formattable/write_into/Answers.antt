use Rattle.std.proofs.Common.{ap, sym, ◌∙◌}
use Rattle.time_known.specs.declared.groups.Groups.{Groups}
use Rattle.time_known.specs.Groups.{has_groups}
use Rattle.time_known.proofs.GuaranteeLemmas.{iso8601_utf8}
use Rattle.time_known.proofs.iso8601.ReadBackLemmas.{completed_reads}
use Rattle.time_known.proofs.iso8601.Iso8601Formattable.write_into.Goals as goal

pub returns-clause-spelled : goal.returns-clause-spelled
returns-clause-spelled g c =
    let value = c.args.value.now in
    let f = g.V.ComponentProvider.facts value in
    let there = ap (λ (needed : Groups). has_groups needed f) (sym c.groups.ensures)
    ∙ c.are_supplied_by.ensures.there value ∙ c.if-not-are_supplied_by.false in
    completed_reads c.append_text.result c.self.inside.config c.args.self.now f c.self.view_is there
    c.append_text.ensures.real c.append_text.ensures.appends.appends

pub returns-clause-text : goal.returns-clause-text
returns-clause-text g c = λ _. iso8601_utf8 c.args.self.now (g.V.ComponentProvider.facts c.args.value.now)
