use Rattle.std.proofs.Common.{ℕ, Bool, true}
use Rattle.std.specs.Prelude.{Result, Ok}
use Rattle.time_lines.proofs.UnixLemmas.{first_and_rest, timeless}
use Rattle.time_lines.proofs.unix.append_from.Goals as goal

pub returns-in_default-clause-appended : goal.returns-in_default-clause-appended
returns-in_default-clause-appended g c =
    timeless c.append_timeless.result (g.S.Shows.shows c.args.shown.now) c.args.numbers.now c.args.line.now c.args.from _ _
    c.in_default.ensures.place c.append_timeless.ensures

pub returns-clause-appended : goal.returns-clause-appended
returns-clause-appended g c =
    let r : Result Bool ℕ = Ok true in
    first_and_rest {E = ℕ} (g.S.Shows.shows c.args.shown.now) (g.S.Shows.shows c.append_piece.new.shown) c.args.numbers.now
    c.args.line.now c.args.from c.in-Some.start c.in_ok-first.first.end _ _ _ r
    c.in_ok-first.ensures.same c.in-Some.ensures.place c.in_ok-first.ensures.end c.in_ok-first.ensures.appended
    c.in_ok-stays.ensures.appended
