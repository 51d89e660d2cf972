use Rattle.time_fmt.proofs.GuaranteeLemmas.{leaf_of_written}
use Rattle.time_fmt.proofs.formattable.engine.AnyWriteStepUnit.write_inline.Goals as goal

pub returns-in-Component-clause-appends : goal.returns-in-Component-clause-appends
returns-in-Component-clause-appends g c = rw (← c.in-Component.ensures.tree)
    (leaf_of_written c.write_component_inline.result c.in-Component.component (g.V.ComponentProvider.facts c.args.value.now)
    (g.S.Sink.buffer c.args.output.now) (g.S.Sink.buffer c.write_component_inline.new.output) c.write_component_inline.ensures.ends)
