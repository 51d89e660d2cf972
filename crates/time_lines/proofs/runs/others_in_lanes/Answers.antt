use Rattle.std.proofs.Common.{◌≡◌, ◌+◌, ℕ, not, length, take, drop, cond, ltb, refl, arith}
use Rattle.std.specs.Char.{is_ascii_digit}
use Rattle.std.proofs.lemmas.Simd.{get_or-chunk, length-chunk, splat_is_map, zip2_of_maps, zip2_splat}
use Rattle.time_lines.proofs.RunLemmas.{run_of_lanes}
use Rattle.time_lines.proofs.runs.others_in_lanes.Goals as goal

pub returns : goal.returns
returns c =
    let bytes = take 16 (drop c.args.at c.args.text.now) in
    let long : length bytes ≡ 16 = length-chunk c.args.at 16 c.args.text.now c.requires in
    run_of_lanes (λ b. not (is_ascii_digit b)) _ bytes _ c.first_set.result long
    (λ k lt. rw (get_or-chunk c.args.at 16 c.args.text.now k 0 (omega (arith, lt, long))) (c.type_inv.text (c.args.at + k)).fits)
    c.first_set.ensures
    (zip2_of_maps (λ a b. cond (ltb a b) 255 0) _ _ bytes (zip2_splat {Y = ℕ} _ bytes 16 48 long) (splat_is_map bytes 16 10 long)) refl
