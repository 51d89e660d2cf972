use Rattle.std.proofs.Common.{refl, ◌∙◌, w8, rules, FitsSigned}
use Rattle.std.proofs.lemmas.Int.{to_z-of_z}
use Rattle.movaliren_cli.proofs.OffsetTextLemmas.{made}
use Rattle.movaliren_cli.proofs.offset.of_parts.Goals as goal

pub returns-in-Ok : goal.returns-in-Ok
returns-in-Ok c =
    let fits_h : FitsSigned w8 c.signed.result = search rules in
    let fits_m : FitsSigned w8 c.signed-2.result = search rules in
    let fits_s : FitsSigned w8 c.signed-3.result = search rules in
    rw (c.in_ok-hours.was, c.in_ok-minutes.was, c.in_ok-seconds.was)
    (made c.args.is_negative _ _ _ _ _ _ c.in-Ok.offset
    (to_z-of_z w8 c.signed.result fits_h ∙ c.signed.ensures)
    (to_z-of_z w8 c.signed-2.result fits_m ∙ c.signed-2.ensures)
    (to_z-of_z w8 c.signed-3.result fits_s ∙ c.signed-3.ensures)
    (c.in-Ok.ensures.accepted.0 refl)
    c.in-Ok.ensures.value)
