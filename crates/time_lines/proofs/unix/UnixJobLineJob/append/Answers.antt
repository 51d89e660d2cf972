use Rattle.time_lines.proofs.ShownLemmas.{unix_stays}
use Rattle.time_lines.proofs.UnixLemmas.{unasked}
use Rattle.time_lines.proofs.unix.UnixJobLineJob.append.Goals as goal

pub returns-then-is_some-numbers-clause-stays : goal.returns-then-is_some-numbers-clause-stays
returns-then-is_some-numbers-clause-stays g c =
    unix_stays (g.S.Shows.shows c.args.self.now.shown) _ c.args.self.now.numbers c.args.self.now.after
    c.append_asked.ensures.same

pub returns-else-is_some-numbers-clause-stays : goal.returns-else-is_some-numbers-clause-stays
returns-else-is_some-numbers-clause-stays g c =
    unix_stays (g.S.Shows.shows c.args.self.now.shown) _ c.args.self.now.numbers c.args.self.now.after
    c.append_usual.ensures.same

pub returns-else-is_some-numbers-clause-appended : goal.returns-else-is_some-numbers-clause-appended
returns-else-is_some-numbers-clause-appended g c =
    unasked c.append_usual.result (g.S.Shows.shows c.args.self.now.shown) c.args.self.now.numbers c.args.self.now.after _ _ _
    c.args.line.now _ _ c.is_some.ensures c.if-is_some-numbers.false c.append_usual.ensures.appended
