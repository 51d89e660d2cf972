use Rattle.std.proofs.Common.{arith, inl, inr, refl, []}
use Rattle.time_read.proofs.Fields.{front_as}
use Rattle.time_read.proofs.MailTexts.{front_join}
use Rattle.time_read.proofs.feed.second.Goals as goal

pub returns-then-is_none-clause-read : goal.returns-then-is_none-clause-read
returns-then-is_none-clause-read c = record { front = []; whole = refl; is = inl (refl, refl) }

pub returns-clause-read : goal.returns-clause-read
returns-clause-read c =
    front_as (λ t s. inr (record { number = c.in-Ok-two.value.0; spelled = s; is = omega (arith, c.min.ensures) }))
    (front_join c.in-Ok-mark.ensures.read c.in-Ok-two.ensures.read)
