use Rattle.std.proofs.Common.{refl}
use Rattle.time_lines.proofs.UnixLemmas.{piece_is_put}
use Rattle.time_lines.proofs.unix.append_piece.Goals as goal

pub returns-clause-appended : goal.returns-clause-appended
returns-clause-appended g c =
    let found = c.found_number_by_case-found in
    piece_is_put (g.S.Shows.shows c.args.shown.now) c.args.numbers.now c.args.line.now c.args.at c.args.start
    found.result.first found.result.end found.result.decimals found.result.is_value found.result.moment _ _ _ _ _ found.ensures.first
    found.ensures.end found.ensures.value c.between-before.ensures refl c.quotes_if-marks.ensures found.ensures.decimals
    found.ensures.some found.ensures.none c.in_ok-is_shown.ensures.appended
