use Rattle.std.proofs.Common.{arith}
use Rattle.std.proofs.lemmas.Grind.{common_steps}
use Rattle.movaliren_c.proofs.values.moment.are_offset_parts.Goals as goal

pub returns-then-unsigned_abs-le59 : goal.returns-then-unsigned_abs-le59
returns-then-unsigned_abs-le59 c = λ yes.
    (grind (arith, common_steps), grind (arith, common_steps), grind (arith, common_steps), grind (arith, common_steps))
