use Rattle.std.proofs.Common.{None, refl}
use Rattle.time_lines.proofs.unix.append_asked.Goals as goal

pub returns-in_default-clause-appended : goal.returns-in_default-clause-appended
returns-in_default-clause-appended g c =
    (c.args.line.now, c.in_ok-extend_from_slice.ensures.items, (None, c.in_default.ensures.from, refl))
