use Rattle.time_describe.proofs.StrftimeLaws.{composition_described}
use Rattle.time_describe.proofs.laws.what_a_composition_means.Goals as goal

pub returns : goal.returns
returns c = λ letter text is. composition_described letter text is
