use Rattle.std.proofs.Common.{ℕ, ◌≡◌, ◌∙◌, length, take, cond, leb, refl, sym, arith}
use Rattle.std.proofs.lemmas.Bool.{eqb-true, eq-eqb}
use Rattle.std.proofs.lemmas.List.{length-take, get_or-take}
use Rattle.std.proofs.lemmas.Simd.{splat_is_map, zip2_of_maps, zip2_splat}
use Rattle.time_read.proofs.EightLemmas.{digits_of_lanes}
use Rattle.time_read.proofs.decimals.are_eight.Goals as goal

pub returns : goal.returns
returns c =
    let bytes = take 8 c.args.text.now in
    let long : length bytes ≡ 8 = omega (arith, length-take 8 c.args.text.now, c.requires) in
    let digits = digits_of_lanes _ bytes _ long
    (λ k lt. rw (get_or-take 8 c.args.text.now k 0 (omega (arith, lt, long))) (c.type_inv.text k).fits)
    (zip2_of_maps (λ a b. cond (leb a b) 255 0) _ _ bytes (splat_is_map bytes 8 10 long) (zip2_splat {Y = ℕ} _ bytes 8 48 long)) refl in (
      λ h. digits.0 (eqb-true _ 0 (sym c.is_clear.ensures ∙ h)),
      λ all. c.is_clear.ensures ∙ eq-eqb _ 0 (digits.1 all),
    )
