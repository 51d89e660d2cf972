use Rattle.std.proofs.Common.{arith}
use Rattle.std.proofs.lemmas.Grind.{common_steps}
use Rattle.time_known.proofs.iso8601.LengthLemmas.{date_lengths}
use Rattle.time_known.proofs.iso8601.date.put_day_of_year.Goals as goal

pub format_three_digits-requires : goal.format_three_digits-requires
format_three_digits-requires g c = grind (arith, common_steps, date_lengths)

pub returns : goal.returns
returns g c = grind (arith, common_steps, date_lengths)
