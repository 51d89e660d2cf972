use Rattle.std.proofs.Common.{refl}
use Rattle.time_fmt.proofs.EndLemmas.{put_behind}
use Rattle.time_fmt.proofs.writers.offset.fmt_offset_hour.Goals as goal

pub returns : goal.returns
returns g c = record { writes = put_behind c.fmt_sign-sign.ensures.writes (rw c.expand.ensures at c.write_magnitude.ensures.writes) refl }
