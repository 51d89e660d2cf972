use Rattle.std.proofs.Common.{arith}
use Rattle.time_fmt.proofs.RoomLemmas.{still_behind}
use Rattle.time_fmt.proofs.Steps.{steps}
use Rattle.time_fmt.proofs.slice_sink.SliceSinkSink.put_byte.Goals as goal

pub invariant_of-self : goal.invariant_of-self
invariant_of-self g c = grind (arith, still_behind)

pub invariant_of-self-2 : goal.invariant_of-self-2
invariant_of-self-2 g c = grind steps

pub returns : goal.returns
returns g c = grind steps
