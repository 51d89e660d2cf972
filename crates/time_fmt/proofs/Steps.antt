-- What most answers need: arithmetic, and std's steps on lists, numbers and texts.
use Rattle.std.proofs.Common.{arith}
use Rattle.std.proofs.lemmas.Grind.{common_steps}

pub ruleset steps = (arith, common_steps)
