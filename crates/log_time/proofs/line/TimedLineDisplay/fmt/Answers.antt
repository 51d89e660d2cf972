use Rattle.log_time.proofs.LineLemmas.{written_line}
use Rattle.log_time.proofs.line.TimedLineDisplay.fmt.Goals as goal

pub returns-clause-writes : goal.returns-clause-writes
returns-clause-writes g c =
    written_line _ _ _ c.visit.new.visitor c.write.new.self _ _ _ _ _ _ _
    (rw (c.level.ensures, c.target.ensures) at c.in_ok-write_header.ensures)
    (rw c.spans.ensures at c.in_ok-visit.ensures)
    (rw c.args-2.ensures at c.in_ok-write.ensures.writes)
    (rw c.key_values.ensures at c.in_ok-write_pairs.ensures)
