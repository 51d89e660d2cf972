use Rattle.std.proofs.Common.{◌≡◌, length, Some, rules, arith}
use Rattle.std.proofs.lemmas.Int.{to_z-of_z}
use Rattle.std.proofs.lemmas.Result.{err_from_is_err_and}
use Rattle.time_show.specs.Fields.{numbers_of}
use Rattle.time_show.proofs.ValueLemmas.{utc_date_time_of_seven}
use Rattle.time_show.proofs.value.utc_date_time_value.Goals as goal

pub returns-in_err-date : goal.returns-in_err-date
returns-in_err-date c =
    let p = err_from_is_err_and c.from_residual-in_err-date.result c.from_residual-in_err-date.ensures.1 in
    let spelled : numbers_of c.args.fields ≡ Some c.in_ok-y.field-0 = search rules in
    let seven : length c.in_ok-y.field-0 ≡ 7 = search rules in
    rw (p.1, p.2, utc_date_time_of_seven _ c.in_ok-y.field-0 spelled seven) (grind (arith, to_z-of_z))

pub returns-in_err-time : goal.returns-in_err-time
returns-in_err-time c =
    let p = err_from_is_err_and c.from_residual-in_err-time.result c.from_residual-in_err-time.ensures.1 in
    let spelled : numbers_of c.args.fields ≡ Some c.in_ok-y.field-0 = search rules in
    let seven : length c.in_ok-y.field-0 ≡ 7 = search rules in
    rw (p.1, p.2, utc_date_time_of_seven _ c.in_ok-y.field-0 spelled seven) (grind (arith, to_z-of_z))

pub returns : goal.returns
returns c =
    let spelled : numbers_of c.args.fields ≡ Some c.in_ok-y.field-0 = search rules in
    let seven : length c.in_ok-y.field-0 ≡ 7 = search rules in
    rw (utc_date_time_of_seven _ c.in_ok-y.field-0 spelled seven) (grind (arith, to_z-of_z))
