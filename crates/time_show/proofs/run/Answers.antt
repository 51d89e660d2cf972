use Rattle.std.proofs.Common.{[], Some, ◌≡◌, ◌≢◌, take, rules}
use Rattle.std.proofs.lemmas.Result.{err_from_is_err_and}
use Rattle.time_show.proofs.RunLemmas.{Ran-cut, Ran-ended, Ran-last, Ran-end_cut}
use Rattle.time_show.proofs.run.Goals as goal
use Rattle.time_show.proofs.run.Goals.{then-not-is_empty+in_ok-answer_line, else-not-is_empty}

pub returns-in_err-answer_line-clause-ran : goal.returns-in_err-answer_line-clause-ran
returns-in_err-answer_line-clause-ran g c =
    let p = err_from_is_err_and c.from_residual.result c.from_residual.ensures.1 in
    let end = rw c.if-count-eq0.true at c.in-Ok.ensures.bytes.0 in
    let ended = c.in-Ok.ensures.bytes.1 c.if-count-eq0.true (search rules) in
    let some : c.loop.line ≢ Some [] = search rules in
    rw (p.1, p.2) (Ran-end_cut _ _ _ _ _ _ _ _ c.loop.invariant end ended some c.in_err-answer_line.ensures)

pub returns-then-count-eq0-clause-ran : goal.returns-then-count-eq0-clause-ran
returns-then-count-eq0-clause-ran g c =
    let end = rw c.if-count-eq0.true at c.in-Ok.ensures.bytes.0 in
    elim c.if-not-is_empty.branch [
      | then-not-is_empty+in_ok-answer_line w ↦ let some : c.loop.line ≢ Some [] = search rules in
          rw w.output-is (Ran-last _ _ _ _ _ _ _ c.loop.invariant end some w.in_ok-answer_line.ensures)
      | else-not-is_empty w ↦ let none : c.loop.line ≡ Some [] = search rules in
          rw w.output-is (Ran-ended _ _ _ _ _ _ c.loop.invariant end none)
    ]

pub returns-in_err-feed-clause-ran : goal.returns-in_err-feed-clause-ran
returns-in_err-feed-clause-ran g c =
    let p = err_from_is_err_and c.from_residual-in_err-feed.result c.from_residual-in_err-feed.ensures.1 in
    rw (p.1, p.2) (Ran-cut _ _ _ _ _ _ _ _ _ (take c.in-Ok.count c.read.new.buf) c.loop.invariant
    c.in-Ok.ensures.bytes.0 c.in_err-feed.ensures)
