use Rattle.time_lines.proofs.ShownLemmas.{now_stays}
use Rattle.time_lines.proofs.now.NowJobLineJob.prepare.Goals as goal

pub returns-clause-stays : goal.returns-clause-stays
returns-clause-stays g c = now_stays (g.S.Shows.shows c.args.self.now.shown) _ c.in_ok-put_stamp.ensures.same
