use Rattle.std.proofs.Common.{◌≡◌, length, Some, rules, arith}
use Rattle.std.proofs.lemmas.Int.{to_z-of_z}
use Rattle.std.proofs.lemmas.Result.{err_from_is_err_and}
use Rattle.time_show.specs.Fields.{numbers_of}
use Rattle.time_show.proofs.ValueLemmas.{date_time_of_ten}
use Rattle.time_show.proofs.value.date_time_value.Goals as goal

pub returns-in_err-date : goal.returns-in_err-date
returns-in_err-date c =
    let p = err_from_is_err_and c.from_residual-in_err-date.result c.from_residual-in_err-date.ensures.1 in
    let spelled : numbers_of c.args.fields ≡ Some c.in_ok-y.field-0 = search rules in
    let ten : length c.in_ok-y.field-0 ≡ 10 = search rules in
    rw (p.1, p.2, date_time_of_ten _ c.in_ok-y.field-0 spelled ten) (grind (arith, to_z-of_z))

pub returns-in_err-time : goal.returns-in_err-time
returns-in_err-time c =
    let p = err_from_is_err_and c.from_residual-in_err-time.result c.from_residual-in_err-time.ensures.1 in
    let spelled : numbers_of c.args.fields ≡ Some c.in_ok-y.field-0 = search rules in
    let ten : length c.in_ok-y.field-0 ≡ 10 = search rules in
    rw (p.1, p.2, date_time_of_ten _ c.in_ok-y.field-0 spelled ten) (grind (arith, to_z-of_z))

pub returns-in_err-offset : goal.returns-in_err-offset
returns-in_err-offset c =
    let p = err_from_is_err_and c.from_residual-in_err-offset.result c.from_residual-in_err-offset.ensures.1 in
    let spelled : numbers_of c.args.fields ≡ Some c.in_ok-y.field-0 = search rules in
    let ten : length c.in_ok-y.field-0 ≡ 10 = search rules in
    rw (p.1, p.2, date_time_of_ten _ c.in_ok-y.field-0 spelled ten) (grind (arith, to_z-of_z))

pub returns : goal.returns
returns c =
    let spelled : numbers_of c.args.fields ≡ Some c.in_ok-y.field-0 = search rules in
    let ten : length c.in_ok-y.field-0 ≡ 10 = search rules in
    rw (date_time_of_ten _ c.in_ok-y.field-0 spelled ten) (grind (arith, to_z-of_z))
