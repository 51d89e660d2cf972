use Rattle.std.proofs.Common.{take, ap, eqb, count_ones, w8, ◌∙◌, arith}
use Rattle.std.proofs.lemmas.List.{length-take}
use Rattle.std.proofs.lemmas.Simd.{bitmask_splat, ones-mask_l}
use Rattle.time_lines.proofs.runs.count_in_lanes.Goals as goal

pub returns : goal.returns
returns c =
    ap count_ones (bitmask_splat w8 eqb (take 16 c.args.text.now) 16 c.args.byte (omega (arith, length-take 16 c.args.text.now, c.requires)) (omega arith))
    ∙ ones-mask_l (λ b. eqb b c.args.byte) (take 16 c.args.text.now)
