use Rattle.time_lines.specs.Described.{NoPastBefore}
use Rattle.time_lines.proofs.years.latest_moment.Given as goal

-- in no year before this one there is such a moment
abbrev pub invariant-loop-back : goal.invariant-loop-back
invariant-loop-back g l = NoPastBefore (g.Z.Zone.has_moment l.zone) l.until l.local l.back
