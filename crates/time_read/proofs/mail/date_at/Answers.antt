use Rattle.std.proofs.Common.{◌≡◌, ◌∙◌, ◌+◌, ◌*◌, Some, ap, arith, sym}
use Rattle.std.proofs.lemmas.Option.{same_Some}
use Rattle.time_read.proofs.MailBytes.{is_mail_date}
use Rattle.time_read.proofs.mail.date_at.Goals as goal

-- a text of fewer bytes is no date
pub returns-in_default : goal.returns-in_default
returns-in_default c = λ date front rest n is.
    let it = is_mail_date c.args.text.now front rest date n is in
    let no : ⊥ = omega (arith, it.long) in absurd no

-- the name is found
pub returns-in_err-place : goal.returns-in_err-place
returns-in_err-place c = λ date front rest n is.
    let it = is_mail_date c.args.text.now front rest date n is in
    let no : ⊥ = cc (c.in_err-place.ensures.right it.place it.exists it.name) in absurd no

pub returns : goal.returns
returns c = λ date front rest n is.
    let it = is_mail_date c.args.text.now front rest date n is in
    let place = same_Some _ _ (c.in_ok-place.ensures.right it.place it.exists it.name) in
    let high : c.two.result ≡ 10 * it.a + it.b = c.two.ensures it.a it.b it.a_fits it.b_fits it.at_12 it.at_13 in
    let low : c.two-2.result ≡ 10 * it.c + it.d = c.two-2.ensures it.c it.d it.c_fits it.d_fits it.at_14 it.at_15 in
    let day : c.two-3.result ≡ 10 * it.t + it.u = c.two-3.ensures it.t it.u it.t_fits it.u_fits it.at_5 it.at_6 in
    rw (high, low, day, place) at c.real_date.ensures (omega (arith, it)) it.fits ∙ ap Some (sym it.is)
