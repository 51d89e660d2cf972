use Rattle.std.proofs.Common.{sym, ap, ◌∙◌}
use Rattle.time_describe.specs.Outcome.{lacks_list}
use Rattle.time_describe.proofs.FrameLemmas.{nested_lacks, nested_there}
use Rattle.time_describe.proofs.brackets.building.end_lists.Goals as goal

pub returns-then-lacks_list-clause-ended : goal.returns-then-lacks_list-clause-ended
returns-then-lacks_list-clause-ended g c = λ text fs before lists first held.
    nested_lacks c.args.kind lists c.args.left (ap (lacks_list c.args.kind) (sym first) ∙ sym c.if-lacks_list.ensures)

pub returns-clause-ended : goal.returns-clause-ended
returns-clause-ended g c = λ text fs before lists first held.
    let w = nested_there c.args.kind lists c.args.left (ap (lacks_list c.args.kind) (sym first) ∙ sym c.if-lacks_list.ensures) in
    (w.0, w.1, c.end_lists.ensures.ended text fs before lists c.args.left w.0 held w.1)
