use Rattle.time_lines.proofs.UnixLemmas.{first_alone}
use Rattle.time_lines.proofs.unix.append_usual.Goals as goal

pub returns-clause-appended : goal.returns-clause-appended
returns-clause-appended g c =
    first_alone (g.S.Shows.shows c.args.shown.now) (g.S.Shows.shows c.append_piece.new.shown) c.args.numbers.now
    c.args.line.now c.in-Some.start c.in_ok-first.first.end _ _ _ c.in_ok-first.ensures.same c.requires.first c.requires.text
    c.in-Some.ensures.place c.in_ok-first.ensures.end c.in_ok-first.ensures.appended
    c.in_ok-extend_from_slice.ensures.items
