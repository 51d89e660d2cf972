use Rattle.std.proofs.Common.{ℕ, Bor, List, []}
use Rattle.std.proofs.lemmas.Result.{err_from_is_err_and}
use Rattle.time_show.proofs.WritesLemmas.{Writes-part}
use Rattle.time_show.proofs.output.append_all.Goals as goal

pub returns-in_err-write_bytes : goal.returns-in_err-write_bytes
returns-in_err-write_bytes g c =
    let p = err_from_is_err_and c.from_residual.result c.from_residual.ensures.1 in
    let none : Bor (List ℕ) = record { ref_ptr = (0, 0); now = [] } in
    rw (p.1, p.2) (Writes-part _ c.args.parts.now c.loop-part.part-index none _ _ _ c.loop-part-test.true
    c.loop-part.invariant c.in_err-write_bytes.ensures)
