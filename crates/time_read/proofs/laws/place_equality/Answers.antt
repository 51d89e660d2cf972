use Rattle.time_read.proofs.FaultLemmas.{places_decide}
use Rattle.time_read.proofs.laws.place_equality.Goals as goal

pub returns : goal.returns
returns c = places_decide c.args.a c.args.b
