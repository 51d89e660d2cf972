use Rattle.std.proofs.Common.{◌≡◌, false, length}
use Rattle.time_lines.specs.Json.{ends_in_string}
use Rattle.time_lines.proofs.json.ends_in_string.Given as goal

-- the rest of the text ends where the whole of it does
abbrev pub invariant-loop-rest : goal.invariant-loop-rest
invariant-loop-rest l = ends_in_string l.inside false l.rest ≡ ends_in_string false false l.text

abbrev pub decreases-loop-rest : goal.decreases-loop-rest
decreases-loop-rest l = length l.rest
