use Rattle.std.proofs.Common.{arith}
use Rattle.time_lines.proofs.RunLemmas.{run_in_first, run_of_first}
use Rattle.time_lines.proofs.runs.digit_count.Goals as goal

pub digits_after-requires-2 : goal.digits_after-requires-2
digits_after-requires-2 c = omega (arith, c.digits_in_lanes-first.ensures, run_of_first 16 c.args.text.now)

pub returns-then-first-lt-LANES-clause-count : goal.returns-then-first-lt-LANES-clause-count
returns-then-first-lt-LANES-clause-count c =
    run_in_first 16 c.args.text.now c.digits_in_lanes-first.result (omega arith) c.digits_in_lanes-first.ensures c.if-first-lt-LANES.true

pub returns-then-first-lt-LANES-clause-inside : goal.returns-then-first-lt-LANES-clause-inside
returns-then-first-lt-LANES-clause-inside c = omega arith
