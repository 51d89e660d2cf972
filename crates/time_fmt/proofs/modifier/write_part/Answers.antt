use Rattle.std.proofs.Common.{◌∙◌, ap}
use Rattle.time_below.specs.Width.{group_of}
use Rattle.time_fmt.proofs.ConversionLemmas.{outcome_with_group}
use Rattle.time_fmt.proofs.modifier.write_part.Goals as goal

pub returns-clause-ends : goal.returns-clause-ends
returns-clause-ends g c =
    let group = c.group.ensures ∙ ap group_of c.component.ensures.component in
    let supplied = rw group at (c.if-not-supplies.ensures.values c.args.value.now) in
    let outcome = outcome_with_group _ _ c.component.ensures.current supplied in
    rw (← outcome) at c.write.ensures.ends
