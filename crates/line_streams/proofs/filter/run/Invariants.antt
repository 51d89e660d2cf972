use Rattle.line_streams.specs.Filter.{Stays}
use Rattle.line_streams.proofs.PromptLemmas.{Going}
use Rattle.line_streams.proofs.filter.run.Given as goal

abbrev pub invariant-loop : goal.invariant-loop
invariant-loop g l = record {
  going : Going l.longest (g.J.LineJob.becomes l.fn.job) (g.S.Exchange.got l.exchange) (g.S.Exchange.put l.exchange)
      l.is_passing l.pending.items;
  stays : Stays (g.J.LineJob.becomes l.fn.job) (g.J.LineJob.becomes l.job);
}
