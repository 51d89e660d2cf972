use Rattle.std.proofs.Common.{◌++◌, ◌-◌, ap, sym, ◌∙◌, arith}
use Rattle.std.proofs.lemmas.Grind.{common_steps}
use Rattle.time_digits.specs.Digits.{fixed}
use Rattle.time_digits.proofs.FractionLemmas.{nine_places}
use Rattle.time_known.proofs.LengthLemmas.{joined_lengths}
use Rattle.time_known.proofs.iso8601.LengthLemmas.{first_zeros}
use Rattle.time_known.proofs.iso8601.time.put_nine_and_more.Goals as goal

-- after the nine digits stand zeros
pub returns-then-digits-gt9 : goal.returns-then-digits-gt9
returns-then-digits-gt9 g c =
    let n = c.args.nanosecond in
    let d = c.args.digits in
    let zeros = c.piece_of.ensures.piece ∙ first_zeros (d - 9) (omega (arith, c.ranges.digits)) in
    let text = ap (λ text. fixed 9 n ++ text) zeros ∙ sym (nine_places n d c.requires.many) in
    record { puts = grind (arith, common_steps, text, joined_lengths) }
