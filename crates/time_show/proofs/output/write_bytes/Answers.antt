use Rattle.std.proofs.Common.{◌≡◌, ◌≤◌, ℕ, List, ◌++◌, length, take, drop, ◌+◌, ◌-◌, arith, append-nil}
use Rattle.std.proofs.lemmas.Grind.{common_steps, pieces}
use Rattle.std.proofs.Math.Seq.{take-add}
use Rattle.std.proofs.KnownBytes.{Appends-trans, Appends-kept}
use Rattle.time_show.proofs.WritesLemmas.{AppendsStart-at}
use Rattle.time_show.proofs.output.write_bytes.Goals as goal

-- the bytes taken so far, and the next ones
taken-more : (bytes : List ℕ) (done n : ℕ) → done ≤ length bytes →
    take (done + n) bytes ≡ take done bytes ++ take n (take (length bytes - done) (drop done bytes))
taken-more bytes done n le = grind (arith, common_steps, pieces, take-add)

-- no more bytes are taken than are left
taken-fits : (bytes : List ℕ) (done n : ℕ) → done ≤ length bytes
    → n ≤ length (take (length bytes - done) (drop done bytes)) → done + n ≤ length bytes
taken-fits bytes done n le fits = grind (arith, common_steps, pieces)

pub returns-in-Ok-eq0 : goal.returns-in-Ok-eq0
returns-in-Ok-eq0 g c = grind (arith, AppendsStart-at, append-nil, Appends-trans)

pub loop-done-preserved : goal.loop-done-preserved
loop-done-preserved g c = grind (arith, taken-fits, taken-more, Appends-trans)

pub returns-in-Err : goal.returns-in-Err
returns-in-Err g c = grind (arith, AppendsStart-at, Appends-kept)
