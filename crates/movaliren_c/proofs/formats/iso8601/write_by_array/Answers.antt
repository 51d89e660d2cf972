use Rattle.std.proofs.Common.{◌≡◌, ℕ, List, None, Result, arith}
use Rattle.std.proofs.lemmas.List.{take_at}
use Rattle.movaliren_c.specs.Answer.{IsWritten}
use Rattle.movaliren_c.specs.declared.answers.reason.Reason.{Reason}
use Rattle.time_fmt.specs.Outcome.{Outcome, done}
use Rattle.movaliren_c.proofs.formats.iso8601.write_by_array.Goals as goal

-- the bytes of a completed outcome, copied, are its text
copied_whole : (answer : Result ℕ Reason) (o : Outcome) (bytes before after : List ℕ) → bytes ≡ o.bytes
    → o.refusal ≡ None → IsWritten answer (done bytes) before after → IsWritten answer o before after
copied_whole answer o bytes before after same completed written = grind arith

pub returns-in-Ok : goal.returns-in-Ok
returns-in-Ok c = grind (arith, copied_whole, take_at)
