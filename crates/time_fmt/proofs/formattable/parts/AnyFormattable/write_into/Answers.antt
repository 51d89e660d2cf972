use Rattle.time_fmt.proofs.formattable.parts.AnyFormattable.write_into.Goals as goal
use Rattle.time_fmt.proofs.GuaranteeLemmas.{text_of_component}

pub returns-clause-text : goal.returns-clause-text
returns-clause-text g c = λ _. text_of_component (g.M.Modifier.component_of c.args.self.now) (g.V.ComponentProvider.facts c.args.value.now)

pub returns-in_err-write_part-clause-text : goal.returns-in_err-write_part-clause-text
returns-in_err-write_part-clause-text g c =
    λ _. text_of_component (g.M.Modifier.component_of c.args.self.now) (g.V.ComponentProvider.facts c.args.value.now)
