use Rattle.time_below.proofs.MomentOrderLemmas.{dates_and_times_in_order}
use Rattle.time_below.proofs.laws.order.utc_date_time_order.Goals as goal

pub returns : goal.returns
returns c = dates_and_times_in_order
