use Rattle.std.proofs.Common.{◌≡◌, drop, false}
use Rattle.time_lines.specs.Json.{ends_in_string}
use Rattle.time_lines.proofs.json.ends_in_string_after.Given as goal

-- from here on the rest of the text ends where the whole of it does
abbrev pub invariant-loop-byte : goal.invariant-loop-byte
invariant-loop-byte l =
    ends_in_string l.inside l.escaped (drop l.byte-index l.text) ≡ ends_in_string l.begins_inside false l.text
