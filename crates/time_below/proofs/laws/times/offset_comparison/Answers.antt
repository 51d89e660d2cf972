use Rattle.std.proofs.Common.{rules}
use Rattle.time_below.proofs.OffsetLemmas.{parts_compare, same_offset}
use Rattle.time_below.proofs.laws.times.offset_comparison.Goals as goal

pub returns-clause-equal : goal.returns-clause-equal
returns-clause-equal c = same_offset c.args.a c.args.b

pub returns-clause-order : goal.returns-clause-order
returns-clause-order c = parts_compare c.args.a c.args.b (search rules) (search rules)
