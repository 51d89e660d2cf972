use Rattle.std.proofs.Common.{drop}
use Rattle.line_streams.proofs.LinesLemmas.{slice-end}
use Rattle.time_lines.proofs.ReadLemmas.{text_is_replaced}
use Rattle.time_lines.proofs.read.append_found.Goals as goal

pub returns-clause-appended : goal.returns-clause-appended
returns-clause-appended g c =
    let found = c.args.found.now in
    let line = c.args.line.now in
    text_is_replaced (g.S.Shows.shows c.args.shown.now found.front.decimals) line found.at found.front.count found.front.moment _ _ _ _ _
    (slice-end found.at line) (rw (slice-end found.at line) (slice-end found.front.count (drop found.at line)))
    c.append_replaced.ensures.appended
