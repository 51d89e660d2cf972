use Rattle.std.proofs.Common.{refl, arith}
use Rattle.std.proofs.Output.{has_written_append, has_written_of_eq}
use Rattle.std.proofs.lemmas.Grind.{common_steps}
use Rattle.time_below.proofs.TextLemmas.{decimals_more}
use Rattle.time_below.proofs.text.+write_decimals.Goals as goal

pub returns : goal.returns
returns g t c plain ok =
    let first = c.in_ok-write.ensures.writes plain refl in
    has_written_of_eq _ _ _ _ _ (grind (arith, common_steps, decimals_more))
    (has_written_append _ _ _ _ _ _ first (c.write_decimals.ensures first.plain ok))
