use Rattle.std.proofs.Common.{rules}
use Rattle.log_time.proofs.LineLemmas.{known_pairs}
use Rattle.log_time.proofs.line.write_pairs.Goals as goal

pub returns : goal.returns
returns g c = known_pairs _ (g.K.Source.pairs c.args.source.now) _ c.visit.new.visitor _ c.in_ok-visit.ensures (search rules)
