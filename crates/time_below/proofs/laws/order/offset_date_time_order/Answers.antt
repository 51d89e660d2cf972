use Rattle.time_below.specs.Moment.{local_moment}
use Rattle.time_below.proofs.MomentOrderLemmas.{moment_equal, moment_less}
use Rattle.time_below.proofs.laws.order.offset_date_time_order.Goals as goal

pub returns-clause-equal : goal.returns-clause-equal
returns-clause-equal c = moment_equal (local_moment c.args.a) (local_moment c.args.b)

pub returns-clause-less : goal.returns-clause-less
returns-clause-less c = moment_less (local_moment c.args.a) (local_moment c.args.b)
