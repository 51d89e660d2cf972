use Rattle.std.proofs.Common.{◌≡◌, get_or, true, arith}
use Rattle.std.proofs.lemmas.List.Sums.{prefix_len-le-length}
use Rattle.std.specs.Char.{is_ascii_digit}
use Rattle.time_lines.proofs.RunLemmas.{run_ends, run_more}
use Rattle.time_lines.proofs.runs.digits_after.Goals as goal

pub loop-count-init : goal.loop-count-init
loop-count-init c = record {
  inside = omega (arith, c.requires, prefix_len-le-length is_ascii_digit c.args.text.now);
  digits = c.requires;
}

pub loop-count-preserved : goal.loop-count-preserved
loop-count-preserved c =
    let here : is_ascii_digit (get_or c.args.text.now c.loop-count.count 0) ≡ true = grind arith in
    record {
      inside = omega arith;
      digits = run_more c.args.text.now c.loop-count.count c.loop-count.invariant.digits (omega arith) here;
    }

pub returns-else-is_ascii_digit-clause-count : goal.returns-else-is_ascii_digit-clause-count
returns-else-is_ascii_digit-clause-count c =
    run_ends c.args.text.now c.loop-count.count c.loop-count.invariant.digits (λ _. grind arith)

pub returns-after-loop-count-clause-count : goal.returns-after-loop-count-clause-count
returns-after-loop-count-clause-count c =
    run_ends c.args.text.now c.loop-count.count c.loop-count.invariant.digits (λ lt. absurd (omega arith))
