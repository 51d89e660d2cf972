use Rattle.time_below.proofs.MomentOrderLemmas.{date_and_time_equal}
use Rattle.time_below.proofs.laws.order.plain_date_time_equality.Goals as goal

pub returns : goal.returns
returns c = date_and_time_equal c.args.a c.args.b
