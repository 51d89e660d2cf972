use Rattle.time_fmt.proofs.Steps.{steps}
use Rattle.time_fmt.proofs.writers.plain.write_each.Goals as goal

pub put_byte-requires : goal.put_byte-requires
put_byte-requires g c = grind steps

pub loop-byte-preserved : goal.loop-byte-preserved
loop-byte-preserved g c = grind steps

pub returns : goal.returns
returns g c = grind steps
