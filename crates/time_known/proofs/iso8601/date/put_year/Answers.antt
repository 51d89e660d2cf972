use Rattle.std.proofs.Common.{arith}
use Rattle.std.proofs.lemmas.Grind.{common_steps}
use Rattle.time_known.proofs.iso8601.LengthLemmas.{date_lengths}
use Rattle.time_known.proofs.iso8601.date.put_year.Goals as goal

pub format_six_digits_pad_zero-requires : goal.format_six_digits_pad_zero-requires
format_six_digits_pad_zero-requires g c = grind (arith, common_steps, date_lengths)

pub returns-then-is_six_digits : goal.returns-then-is_six_digits
returns-then-is_six_digits g c = grind (arith, common_steps, date_lengths)
