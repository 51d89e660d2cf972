use Rattle.std.proofs.Common.{refl}
use Rattle.movaliren_c.proofs.DescribedLemmas.{array_put}
use Rattle.movaliren_c.proofs.described.write_whole.Goals as goal

pub returns-clause-put : goal.returns-clause-put
returns-clause-put g c =
    array_put c.args.shown (g.V.ComponentProvider.facts c.args.value.now) (g.S.Sink.buffer c.args.output.now)
    (g.S.Sink.buffer c.write_text.new.output) c.write_text.result c.in_ok-count.count _ _ c.in_ok-count.ensures.shows refl
    c.write_text.ensures
