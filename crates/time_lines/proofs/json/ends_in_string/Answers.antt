use Rattle.std.proofs.Common.{◌≡◌, ◌==◌, count_by, drop, false, sym, take, ap, ◌∙◌, arith}
use Rattle.std.proofs.lemmas.List.{take-append-drop}
use Rattle.line_streams.proofs.LinesLemmas.{slice-end}
use Rattle.time_lines.proofs.JsonLemmas.{behind_quotes}
use Rattle.time_lines.specs.Json.{ends_in_string}
use Rattle.time_lines.proofs.json.ends_in_string.Goals as goal

pub loop-rest-preserved : goal.loop-rest-preserved
loop-rest-preserved c =
    let rest = c.loop-rest.rest.now in
    let none : count_by (λ b. b == 92) (take 16 rest) ≡ 0 =
    omega (arith, c.count_in_lanes.ensures, c.if-count_in_lanes-eq0.true) in
    ap (ends_in_string c.inside_after_lanes-inside.result false) (slice-end 16 rest)
    ∙ ap (λ i. ends_in_string i false (drop 16 rest)) c.inside_after_lanes-inside.ensures
    ∙ sym (behind_quotes c.loop-rest.inside (take 16 rest) (drop 16 rest) none)
    ∙ ap (ends_in_string c.loop-rest.inside false) (take-append-drop 16 rest) ∙ c.loop-rest.invariant
