use Rattle.std.proofs.Common.{arith}
use Rattle.time_fmt.proofs.RoomLemmas.{room_written}
use Rattle.time_known.proofs.sink.put_before.Goals as goal

pub returns-clause-text : goal.returns-clause-text
returns-clause-text g c = grind (arith, room_written)
