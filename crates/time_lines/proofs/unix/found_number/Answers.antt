use Rattle.std.proofs.Common.{drop, ap}
use Rattle.time_lines.proofs.DigitLemmas.{digits_of-all}
use Rattle.time_lines.proofs.NumberLemmas.{digits_length, digits_of_number, rest_of_number}
use Rattle.time_lines.proofs.UnixLemmas.{named_time, no_time, stops_is}
use Rattle.time_lines.specs.Number.{unit_for}
use Rattle.time_lines.proofs.unix.found_number.Goals as goal

pub moment_unless-moment-requires-clause-digits : goal.moment_unless-moment-requires-clause-digits
moment_unless-moment-requires-clause-digits c =
    rw (digits_of_number c.args.line.now c.args.start c.args.count c.requires.count)
    (digits_of-all (drop c.args.start c.args.line.now))

pub returns-clause-some : goal.returns-clause-some
returns-clause-some c =
    let line = c.args.line.now in
    let start = c.args.start in
    named_time c.args.numbers.now line start _ _ _ _ _ _ _ (ap (unit_for c.args.numbers.now.unit) (digits_length c.args.line.now c.args.start c.args.count c.requires.digits c.requires.count))
    (digits_of_number line start c.args.count c.requires.count) c.has_minus-is_negative.ensures.tells
    (rest_of_number line start c.args.count c.requires.count) c.decimals_of-decimals.ensures.decimals (stops_is c.args.numbers.now line start c.args.count c.decimals_length.result c.decimals_of-decimals.result.now
    c.is_quoted-is_value.result _ c.requires.count c.decimals_of-decimals.ensures.decimals c.decimals_length.ensures
    c.is_quoted-is_value.ensures c.is_value_with_exponent-stays.ensures)
    c.moment_unless-moment.ensures.some

pub returns-clause-none : goal.returns-clause-none
returns-clause-none c =
    let line = c.args.line.now in
    let start = c.args.start in
    no_time c.args.numbers.now line start _ _ _ _ _ _ _ (ap (unit_for c.args.numbers.now.unit) (digits_length c.args.line.now c.args.start c.args.count c.requires.digits c.requires.count))
    (digits_of_number line start c.args.count c.requires.count) c.has_minus-is_negative.ensures.tells
    (rest_of_number line start c.args.count c.requires.count) c.decimals_of-decimals.ensures.decimals (stops_is c.args.numbers.now line start c.args.count c.decimals_length.result c.decimals_of-decimals.result.now
    c.is_quoted-is_value.result _ c.requires.count c.decimals_of-decimals.ensures.decimals c.decimals_length.ensures
    c.is_quoted-is_value.ensures c.is_value_with_exponent-stays.ensures)
    c.moment_unless-moment.ensures.none
