use Rattle.std.proofs.Common.{arith}
use Rattle.std.proofs.lemmas.Grind.{common_steps}
use Rattle.time_fmt.proofs.RoomLemmas.{room_written}
use Rattle.movaliren_c.proofs.formats.iso8601.put_at_once.Goals as goal

pub returns-clause-text : goal.returns-clause-text
returns-clause-text g c = grind (arith, common_steps, room_written)
