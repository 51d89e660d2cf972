use Rattle.std.proofs.Common.{◌≡◌, ◌-◌, arith}
use Rattle.time_lines.proofs.UnixLemmas.{done_all, done_more, none_left, none_more}
use Rattle.time_lines.proofs.unix.append_rest.Goals as goal

pub returns-in_default-clause-appended : goal.returns-in_default-clause-appended
returns-in_default-clause-appended g c =
    let shows = g.S.Shows.shows c.args.shown.now in
    let left = c.args.most - c.loop-round.round in
    done_all shows c.args.numbers.now c.args.most left c.args.line.now c.args.from c.loop-round.at _ _ _
    c.loop-round.invariant.done c.in_ok-extend_from_slice.ensures.items
    (none_left shows c.args.numbers.now left c.args.line.now c.loop-round.at c.loop-round.at c.in_default.ensures.place)

pub loop-round-preserved : goal.loop-round-preserved
loop-round-preserved g c =
    let before = c.loop-round.invariant.same in
    let more = c.in_ok-piece.ensures.same in
    record {
      inside = c.in_ok-piece.ensures.inside;
      same = λ d m t. (λ a. (more d m t).0 ((before d m t).0 a), λ b. (before d m t).1 ((more d m t).1 b));
      done = done_more (g.S.Shows.shows c.args.shown.now) (g.S.Shows.shows c.loop-round.shown) c.args.numbers.now c.args.most
          c.loop-round.round c.args.line.now c.args.from c.loop-round.at c.in-Some.start c.in_ok-piece.piece.end _ _ _ before
          c.loop-round-test.true c.in-Some.ensures.place c.in_ok-piece.ensures.end c.loop-round.invariant.done
          c.in_ok-piece.ensures.appended;
    }

pub returns-clause-appended : goal.returns-clause-appended
returns-clause-appended g c =
    let shows = g.S.Shows.shows c.args.shown.now in
    let left = c.args.most - c.loop-round.round in
    let none : left ≡ 0 = omega (arith, c.loop-round-test.false) in
    done_all shows c.args.numbers.now c.args.most left c.args.line.now c.args.from c.loop-round.at _ _ _
    c.loop-round.invariant.done c.in_ok-extend_from_slice-2.ensures.items
    (none_more shows c.args.numbers.now left c.args.line.now c.loop-round.at c.loop-round.at none)
