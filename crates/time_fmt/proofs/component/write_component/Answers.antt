use Rattle.std.proofs.Common.{◌∙◌, ap, arith}
use Rattle.time_below.specs.Conversion.{current_component}
use Rattle.time_fmt.specs.Description.{current_outcome}
use Rattle.time_fmt.proofs.ConversionLemmas.{current_is_current, current_fits}
use Rattle.time_fmt.proofs.EndLemmas.{ends_within}
use Rattle.time_fmt.proofs.component.write_component.Goals as goal

pub write_supported-requires-clause-room : goal.write_supported-requires-clause-room
write_supported-requires-clause-room g c =
    let fits = rw (← c.current.ensures.converted) at (current_fits c.args.component) in omega (arith, c.requires.room, fits)

pub returns-clause-ends : goal.returns-clause-ends
returns-clause-ends g c =
    let current = c.current.ensures in
    let facts = g.V.ComponentProvider.facts c.args.value.now in
    let same = ap (λ d. current_outcome d facts) (ap current_component current.converted ∙ current_is_current c.args.component) in
    ends_within {new = g.S.Sink.buffer c.write_supported.new.output} (rw same at c.write_supported.ensures.ends) (rw (← current.converted) at (current_fits c.args.component))
