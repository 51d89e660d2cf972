use Rattle.time_fmt.proofs.Steps.{steps}
use Rattle.time_fmt.proofs.writers.plain.write_in_blocks.Goals as goal

pub push_four-requires : goal.push_four-requires
push_four-requires g c = grind steps

pub push_four-requires-in-len8-up : goal.push_four-requires-in-len8-up
push_four-requires-in-len8-up g c = grind steps

pub loop-rest-preserved : goal.loop-rest-preserved
loop-rest-preserved g c = grind steps

pub push_four-requires-in-len4-up : goal.push_four-requires-in-len4-up
push_four-requires-in-len4-up g c = grind steps

pub push_rest-requires : goal.push_rest-requires
push_rest-requires g c = grind steps

pub returns : goal.returns
returns g c = grind steps
