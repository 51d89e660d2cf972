use Rattle.std.proofs.Common.{arith}
use Rattle.std.proofs.lemmas.Grind.{common_steps}
use Rattle.std.proofs.lemmas.Int.{to_z-of_z}
use Rattle.time_show.proofs.FieldsLemmas.{front_and-set}
use Rattle.time_show.proofs.fields.LineFields.numbers.Goals as goal

pub loop-i-preserved : goal.loop-i-preserved
loop-i-preserved g c = grind (arith, common_steps, to_z-of_z, front_and-set)
