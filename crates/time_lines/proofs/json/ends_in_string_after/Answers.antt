use Rattle.std.proofs.Common.{sym, ◌∙◌}
use Rattle.std.proofs.lemmas.List.{at_drop_more}
use Rattle.time_lines.specs.Json.{ends_in_string}
use Rattle.time_lines.proofs.json.ends_in_string_after.Goals as goal

pub loop-byte-preserved : goal.loop-byte-preserved
loop-byte-preserved c =
    rw (c.inside_after-is_inside.ensures, c.escaped_after-is_escaped.ensures)
    (sym (at_drop_more (ends_in_string c.loop-byte.inside c.loop-byte.escaped) c.args.text.now c.loop-byte.byte-index 0
    c.loop-byte-test.true) ∙ c.loop-byte.invariant)
