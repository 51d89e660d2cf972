use Rattle.std.proofs.Common.{rules}
use Rattle.movaliren_c.proofs.JoinLemmas.{last_joined}
use Rattle.movaliren_c.proofs.described.join.join_last.Goals as goal

pub returns-in-Some-clause-same : goal.returns-in-Some-clause-same
returns-in-Some-clause-same c = λ within text all described.
    last_joined text c.args.items.now c.args.made c.in-Some.whole all (search rules) within (c.in-Some.ensures.joins text) described
