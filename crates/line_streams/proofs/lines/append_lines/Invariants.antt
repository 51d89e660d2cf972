use Rattle.std.proofs.Common.{ℕ, List, [], ◌≡◌, ◌++◌, length}
use Rattle.line_streams.specs.Lines.{unended_of}
use Rattle.line_streams.specs.Filter.{within, Stays}
use Rattle.line_streams.proofs.FilterLemmas.{HasGone}
use Rattle.line_streams.proofs.lines.append_lines.Given as goal

abbrev pub invariant-loop-end : goal.invariant-loop-end
invariant-loop-end g l = record {
  ready : g.J.LineJob.is_ready l.job;
  gone : (fed : List ℕ) × (l.text ≡ fed ++ l.rest) × (unended_of fed ≡ [])
      × Stays (g.J.LineJob.becomes l.fn.job) (g.J.LineJob.becomes l.job)
      × HasGone (within l.longest (g.J.LineJob.becomes l.fn.job)) l.first l.text l.line l.rest l.fn.output.items l.output.items;
}

abbrev pub decreases-loop-end : goal.decreases-loop-end
decreases-loop-end g l = length l.rest
