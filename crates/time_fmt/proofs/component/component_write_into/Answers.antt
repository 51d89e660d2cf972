use Rattle.time_fmt.proofs.GuaranteeLemmas.{text_of_component}
use Rattle.time_fmt.proofs.component.component_write_into.Goals as goal

pub returns-clause-text : goal.returns-clause-text
returns-clause-text g c = text_of_component c.args.component.now (g.V.ComponentProvider.facts c.args.value.now)

pub returns-in_err-write_component-clause-text : goal.returns-in_err-write_component-clause-text
returns-in_err-write_component-clause-text g c = text_of_component c.args.component.now (g.V.ComponentProvider.facts c.args.value.now)
