use Rattle.std.proofs.Common.{arith}
use Rattle.std.proofs.lemmas.Grind.{common_steps}
use Rattle.std.proofs.lemmas.Int.{ints}
use Rattle.time_fmt.proofs.TextLemmas.{signed_lengths}
use Rattle.time_fmt.proofs.writers.century.ModifierIsoYearCenturyStandardRangeModifier.write.Goals as goal

pub returns-clause-ends : goal.returns-clause-ends
returns-clause-ends g c = grind (arith, common_steps, ints, signed_lengths)
