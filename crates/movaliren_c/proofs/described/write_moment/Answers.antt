use Rattle.std.proofs.Common.{◌≡◌, Ok, arith}
use Rattle.movaliren_c.proofs.DescribedLemmas.{no_value}
use Rattle.movaliren_c.proofs.StateLemmas.{moment_parts}
use Rattle.movaliren_c.specs.Value.{moment_value}
use Rattle.movaliren_c.proofs.described.write_moment.Goals as goal

pub date_state-requires-clause-month : goal.date_state-requires-clause-month
date_state-requires-clause-month c =
    let a = c.moment_value.ensures in
    let b = c.in-Ok.is in
    let is : moment_value c.args.moment.now ≡ Ok c.in-Ok.value = cc in
    let p = moment_parts c.args.moment.now c.in-Ok.value is in
    (p.first_month, p.last_month)

pub date_state-requires-clause-day : goal.date_state-requires-clause-day
date_state-requires-clause-day c =
    let a = c.moment_value.ensures in
    let b = c.in-Ok.is in
    let is : moment_value c.args.moment.now ≡ Ok c.in-Ok.value = cc in
    let p = moment_parts c.args.moment.now c.in-Ok.value is in
    (p.first_day, p.last_day)

pub write_value-requires : goal.write_value-requires
write_value-requires c =
    let a = c.moment_value.ensures in
    let b = c.in-Ok.is in
    let is : moment_value c.args.moment.now ≡ Ok c.in-Ok.value = cc in
    let p = moment_parts c.args.moment.now c.in-Ok.value is in
    record { agrees = c.date_state.ensures.agrees c.in-Ok.value.date p.month p.day }

pub returns-in-Err-clause-text : goal.returns-in-Err-clause-text
returns-in-Err-clause-text c = grind (arith, no_value)
