use Rattle.std.proofs.Common.{inl, inr, arith}
use Rattle.std.proofs.lemmas.Bool.{cases_lt}
use Rattle.std.proofs.lemmas.Simd.{run_in_chunk_fails}
use Rattle.std.specs.Char.{is_ascii_digit}
use Rattle.time_lines.proofs.number.past_blocks.Goals as goal

pub returns-then-run-lt-LANES-clause-none : goal.returns-then-run-lt-LANES-clause-none
returns-then-run-lt-LANES-clause-none c = λ k from before. elim (cases_lt k c.loop-at.at) [
  | inl less ↦ c.loop-at.invariant.none k from less
  | inr more ↦
      run_in_chunk_fails is_ascii_digit c.args.line.now c.loop-at.at 16 c.others_in_lanes-run.result 0 (omega arith)
      c.others_in_lanes-run.ensures k more before
]

pub loop-at-preserved : goal.loop-at-preserved
loop-at-preserved c = record {
  after = omega (arith, c.loop-at.invariant.after);
  inside = omega arith;
  none = λ k from before. elim (cases_lt k c.loop-at.at) [
    | inl less ↦ c.loop-at.invariant.none k from less
    | inr more ↦
        run_in_chunk_fails is_ascii_digit c.args.line.now c.loop-at.at 16 c.others_in_lanes-run.result 0 (omega arith)
        c.others_in_lanes-run.ensures k more (omega (arith, before, c.if-run-lt-LANES.false))
  ];
}
