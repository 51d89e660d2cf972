use Rattle.std.proofs.Common.{◌≡◌, ◌∙◌, ◌+◌, ◌*◌, Some, ap, arith, sym}
use Rattle.time_below.specs.Offset.{signed_offset}
use Rattle.time_read.proofs.MailBytes.{is_mail_offset}
use Rattle.time_read.proofs.mail.offset_at.Goals as goal

-- the digits are those of an offset
pub returns-then-hours-gt25 : goal.returns-then-hours-gt25
returns-then-hours-gt25 c = λ offset o.
    let it = is_mail_offset c.args.text.now offset o in
    let hours : c.two-hours.result ≡ 10 * it.h + it.i = c.two-hours.ensures it.h it.i it.h_fits it.i_fits it.at_1 it.at_2 in
    let minutes : c.two-minutes.result ≡ 10 * it.m + it.n = c.two-minutes.ensures it.m it.n it.m_fits it.n_fits it.at_3 it.at_4 in
    let no : ⊥ = omega (arith, hours, minutes, it.hour_fits, it.minute_fits, c.then-hours-gt25.either) in absurd no

pub returns : goal.returns
returns c = λ offset o.
    let it = is_mail_offset c.args.text.now offset o in
    let hours : c.two-hours.result ≡ 10 * it.h + it.i = c.two-hours.ensures it.h it.i it.h_fits it.i_fits it.at_1 it.at_2 in
    let minutes : c.two-minutes.result ≡ 10 * it.m + it.n = c.two-minutes.ensures it.m it.n it.m_fits it.n_fits it.at_3 it.at_4 in
    let sign = ap (λ b. signed_offset b (10 * it.h + it.i) (10 * it.m + it.n)) it.at_0 in
    ap Some (c.signed_offset.ensures ∙ rw (hours, minutes) sign ∙ sym it.is)
