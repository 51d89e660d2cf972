use Rattle.time_lines.proofs.ReadLemmas.{read_stays}
use Rattle.time_lines.proofs.read.ReadJobLineJob.append.Goals as goal

pub returns-in_err-is_shown-clause-stays : goal.returns-in_err-is_shown-clause-stays
returns-in_err-is_shown-clause-stays g c =
    read_stays (g.R.Reads.reads c.args.self.now.reader) _ (g.S.Shows.shows c.args.self.now.shown) _
    c.in-Some.ensures.same c.in_err-is_shown.ensures.same

pub returns-in_err-note-2-clause-stays : goal.returns-in_err-note-2-clause-stays
returns-in_err-note-2-clause-stays g c =
    read_stays (g.R.Reads.reads c.args.self.now.reader) _ (g.S.Shows.shows c.args.self.now.shown) _
    c.in-Some.ensures.same c.in_ok-is_shown.ensures.same

pub returns-clause-stays : goal.returns-clause-stays
returns-clause-stays g c =
    read_stays (g.R.Reads.reads c.args.self.now.reader) _ (g.S.Shows.shows c.args.self.now.shown) _
    c.in-Some.ensures.same c.in_ok-is_shown.ensures.same
