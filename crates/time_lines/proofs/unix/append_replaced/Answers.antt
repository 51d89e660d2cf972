use Rattle.std.proofs.Common.{sym, ap, length, ◌∙◌}
use Rattle.time_lines.proofs.NumberLemmas.{line_is_left, text_is_put}
use Rattle.time_lines.proofs.unix.append_replaced.Goals as goal

pub returns-then-branch-clause-appended : goal.returns-then-branch-clause-appended
returns-then-branch-clause-appended g c =
    let shown = c.in_ok-append.ensures.shown in
    rw c.in-Some.is (text_is_put (g.S.Shows.shows c.args.shown.now c.args.decimals) c.in-Some.moment c.args.before.now c.args.marks.now
    c.args.after.now _ _ _ _ _ _ _ shown.0 shown.1 (sym shown.2 ∙ c.if-branch.true) c.in_ok-append_bytes.ensures
    c.in_ok-append_bytes-2.ensures shown.3 c.in_ok-append_bytes-3.ensures c.in_ok-append_bytes-4.ensures)

pub returns-clause-appended : goal.returns-clause-appended
returns-clause-appended g c =
    let shown = c.in_ok-append.ensures.shown in
    rw c.in-Some.is (line_is_left (g.S.Shows.shows c.args.shown.now c.args.decimals) c.in-Some.moment c.args.before.now c.args.marks.now
    c.args.after.now c.args.own.now _ _ _ _ _ _ _ shown.0 shown.1 (sym shown.2 ∙ c.if-branch.false)
    c.in_ok-append_bytes.ensures (ap length c.as_slice-length.ensures.value) c.in_ok-append_bytes-2.ensures shown.3 c.truncate.ensures.items
    c.in_ok-extend_from_slice-2.ensures.items)
