use Rattle.std.proofs.Common.{refl}
use Rattle.time_fmt.proofs.EndLemmas.{put_behind}
use Rattle.time_fmt.proofs.writers.century.write_two_digit_century.Goals as goal

pub returns : goal.returns
returns g c = record { writes = put_behind c.fmt_sign-sign.ensures.writes c.format_two_digits.ensures.writes refl }
