use Rattle.std.proofs.Common.{arith}
use Rattle.std.proofs.lemmas.Grind.{common_steps}
use Rattle.movaliren_c.proofs.DescribedLemmas.{no_room}
use Rattle.movaliren_c.proofs.described.write_value.Goals as goal

pub returns-in-Ok-3 : goal.returns-in-Ok-3
returns-in-Ok-3 g c = grind (arith, common_steps, no_room)
