use Rattle.std.proofs.Common.{length}
use Rattle.time_lines.specs.Described.{ReadsOneOf}
use Rattle.time_lines.specs.declared.front.Front.{Front}
use Rattle.time_lines.proofs.described.read_forms.Given as goal

-- a text that one of the forms that are left reads is one that one of all reads
abbrev pub invariant-rows : goal.invariant-rows
invariant-rows g l =
    (front : Front) → ReadsOneOf (g.Z.Zone.has_moment l.zone) l.years l.left l.text front
    → ReadsOneOf (g.Z.Zone.has_moment l.zone) l.years l.forms l.text front

abbrev pub decreases-rows : goal.decreases-rows
decreases-rows g l = length l.left
