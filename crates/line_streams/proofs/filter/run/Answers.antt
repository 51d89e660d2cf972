use Rattle.std.proofs.Common.{refl, arith, ◌∙◌}
use Rattle.line_streams.proofs.LinesLemmas.{slice-end}
use Rattle.line_streams.proofs.FilterLemmas.{Stays-then}
use Rattle.line_streams.proofs.PromptLemmas.{Going-end_off, Going-ended, Going-from, Going-prompt, Going-read, Going-stopped, Going-waits, Reading-early_off, Reading-lines, Reading-off, Reading-passes, Reading-passes_off, on_error}
use Rattle.line_streams.proofs.filter.run.Goals as goal

pub read-requires : goal.read-requires
read-requires g c = record {
  prompt = Going-prompt c.args.longest (g.J.LineJob.becomes c.args.job.now) (g.J.LineJob.becomes c.loop.job) _ _ _ _
      c.loop.invariant.going c.loop.invariant.stays;
}

pub returns-in_err-count-clause-err : goal.returns-in_err-count-clause-err
returns-in_err-count-clause-err g c =
    on_error c.from_residual.result
    (Going-stopped c.args.longest (g.J.LineJob.becomes c.args.job.now) _ _ _ _ _ _ c.loop.invariant.going
    c.in_err-count.ensures.failed c.in_err-count.ensures.put)

pub returns-in_err-take_last-clause-err : goal.returns-in_err-take_last-clause-err
returns-in_err-take_last-clause-err g c =
    on_error c.from_residual-in_err-take_last.result
    (Going-end_off c.args.longest (g.J.LineJob.becomes c.args.job.now) (g.J.LineJob.becomes c.loop.job) _ _ _ _ _ _ _ _
    c.loop.invariant.stays c.loop.invariant.going (rw c.if-count-eq0.true at c.in_ok-count.ensures.got)
    c.in_err-take_last.ensures.got c.in_ok-count.ensures.put c.in_err-take_last.ensures.cut)

pub returns-then-count-eq0-clause-ok : goal.returns-then-count-eq0-clause-ok
returns-then-count-eq0-clause-ok g c =
    Going-ended c.args.longest (g.J.LineJob.becomes c.args.job.now) (g.J.LineJob.becomes c.loop.job) _ _ _ _ _ _ _ _
    c.loop.invariant.stays c.loop.invariant.going (rw c.if-count-eq0.true at c.in_ok-count.ensures.got)
    c.in_ok-take_last.ensures.got c.in_ok-count.ensures.put c.in_ok-take_last.ensures.written

pub returns-then-count-eq0-clause-ended : goal.returns-then-count-eq0-clause-ended
returns-then-count-eq0-clause-ended g c =
    c.in_ok-take_last.ensures.ended (c.in_ok-count.ensures.ended c.if-count-eq0.true (omega arith))

pub returns-in_err-from-clause-err : goal.returns-in_err-from-clause-err
returns-in_err-from-clause-err g c =
    let off = c.in_err-from.ensures.cut in
    on_error c.from_residual-in_err-from.result
    (Reading-passes_off c.args.longest (g.J.LineJob.becomes c.args.job.now) _ _ _ _ _ _ _ _
    (Going-read c.args.longest (g.J.LineJob.becomes c.args.job.now) _ _ _ _ _ _ _ c.loop.invariant.going
    c.in_ok-count.ensures.got c.in_ok-count.ensures.put)
    off.0 off.2 off.3 c.in_err-from.ensures.got)

pub loop-preserved-in_default : goal.loop-preserved-in_default
loop-preserved-in_default g c = record {
  going = Reading-passes c.args.longest (g.J.LineJob.becomes c.args.job.now) _ _ _ _ _ _ _
      (Going-read c.args.longest (g.J.LineJob.becomes c.args.job.now) _ _ _ _ _ _ _ c.loop.invariant.going
      c.in_ok-count.ensures.got c.in_ok-count.ensures.put)
      (rw c.in_default.is at c.in_ok-from.ensures.passed) c.in_ok-from.ensures.got;
  stays = c.loop.invariant.stays;
}

pub take_block-requires : goal.take_block-requires
take_block-requires g c = record {
  held = Going-waits _ _ _ _ _ _ c.loop.invariant.going;
}

pub returns-in_err-take_block-clause-err : goal.returns-in_err-take_block-clause-err
returns-in_err-take_block-clause-err g c =
    on_error c.from_residual-in_err-take_block.result
    (Reading-off c.args.longest (g.J.LineJob.becomes c.args.job.now) (g.J.LineJob.becomes c.loop.job) _ _ _ _ _ _
    (Going-from c.args.longest (g.J.LineJob.becomes c.args.job.now) _ _ _ _ _ _ _ _ _ _ c.in-Some.from
    c.loop.invariant.going c.in_ok-count.ensures.got c.in_ok-count.ensures.put
    (rw c.in-Some.is at c.in_ok-from.ensures.passed) c.in_ok-from.ensures.got (slice-end c.in-Some.from _))
    c.loop.invariant.stays c.in_err-take_block.ensures.cut c.in_err-take_block.ensures.got)

pub returns-in_err-is_passing-clause-err : goal.returns-in_err-is_passing-clause-err
returns-in_err-is_passing-clause-err g c =
    let off = c.in_err-is_passing.ensures.cut in
    on_error c.from_residual-in_err-is_passing.result
    (Reading-early_off c.args.longest (g.J.LineJob.becomes c.args.job.now) (g.J.LineJob.becomes c.loop.job) _ _ _ _ _ _ _ _
    (Going-from c.args.longest (g.J.LineJob.becomes c.args.job.now) _ _ _ _ _ _ _ _ _ _ c.in-Some.from
    c.loop.invariant.going c.in_ok-count.ensures.got c.in_ok-count.ensures.put
    (rw c.in-Some.is at c.in_ok-from.ensures.passed) c.in_ok-from.ensures.got (slice-end c.in-Some.from _))
    c.loop.invariant.stays c.in_ok-take_block.ensures.written c.in_ok-take_block.ensures.waits off.0 off.1
    (c.in_err-is_passing.ensures.got ∙ c.in_ok-take_block.ensures.got))

pub loop-preserved : goal.loop-preserved
loop-preserved g c =
    let early = c.in_ok-is_passing.ensures.early in
    record {
      going = Reading-lines c.args.longest (g.J.LineJob.becomes c.args.job.now) (g.J.LineJob.becomes c.loop.job) _ _ _ _ _ _ _ _ _ _ early.0
          (Going-from c.args.longest (g.J.LineJob.becomes c.args.job.now) _ _ _ _ _ _ _ _ _ _ c.in-Some.from
          c.loop.invariant.going c.in_ok-count.ensures.got c.in_ok-count.ensures.put
          (rw c.in-Some.is at c.in_ok-from.ensures.passed) c.in_ok-from.ensures.got (slice-end c.in-Some.from _))
          c.loop.invariant.stays c.in_ok-take_block.ensures.written c.in_ok-take_block.ensures.waits early.1 early.2
          (c.in_ok-is_passing.ensures.got ∙ c.in_ok-take_block.ensures.got);
      stays = Stays-then _ _ _ c.loop.invariant.stays
          (Stays-then _ _ _ c.in_ok-take_block.ensures.stays c.in_ok-is_passing.ensures.stays);
    }

pub returns-clause-err : goal.returns-clause-err
returns-clause-err g c =
    Going-stopped c.args.longest (g.J.LineJob.becomes c.args.job.now) _ _ _ _ _ _ c.loop.invariant.going refl refl
