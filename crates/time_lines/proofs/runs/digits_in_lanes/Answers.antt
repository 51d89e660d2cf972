use Rattle.std.proofs.Common.{◌≡◌, ℕ, length, take, cond, leb, refl, arith}
use Rattle.std.specs.Char.{is_ascii_digit}
use Rattle.std.proofs.lemmas.List.{length-take, get_or-take}
use Rattle.std.proofs.lemmas.Simd.{splat_is_map, zip2_of_maps, zip2_splat}
use Rattle.time_lines.proofs.RunLemmas.{run_of_lanes}
use Rattle.time_lines.proofs.runs.digits_in_lanes.Goals as goal

pub returns : goal.returns
returns c =
    let bytes = take 16 c.args.text.now in
    let long : length bytes ≡ 16 = omega (arith, length-take 16 c.args.text.now, c.requires) in
    run_of_lanes is_ascii_digit _ bytes _ c.first_set.result long
    (λ k lt. rw (get_or-take 16 c.args.text.now k 0 (omega (arith, lt, long))) (c.type_inv.text k).fits) c.first_set.ensures
    (zip2_of_maps (λ a b. cond (leb a b) 255 0) _ _ bytes (splat_is_map bytes 16 10 long) (zip2_splat {Y = ℕ} _ bytes 16 48 long)) refl
