use Rattle.std.proofs.Common.{◌≡◌, ◌∙◌, Some, ap, arith, sym}
use Rattle.time_read.proofs.MailBytes.{is_mail_time, same_time}
use Rattle.time_read.proofs.mail.time_at.Goals as goal

-- the digits are those of a time of day
pub returns-then-hour-gt23-clause-reads : goal.returns-then-hour-gt23-clause-reads
returns-then-hour-gt23-clause-reads c = λ time front rest k zero is.
    let it = is_mail_time c.args.text.now front rest time k is in
    let hour : c.two-hour.result ≡ time.hour = c.two-hour.ensures it.h it.i it.h_fits it.i_fits it.at_0 it.at_1 ∙ sym it.hour in
    let minute : c.two-minute.result ≡ time.minute = c.two-minute.ensures it.m it.n it.m_fits it.n_fits it.at_3 it.at_4 ∙ sym it.minute in
    let second : c.two-second.result ≡ time.second = c.two-second.ensures it.s it.t it.s_fits it.t_fits it.at_6 it.at_7 ∙ sym it.second in
    let no : ⊥ = omega (arith, hour, minute, second, k.hour_fits, k.minute_fits, k.second_fits, c.then-hour-gt23.either) in absurd no

pub returns-clause-reads : goal.returns-clause-reads
returns-clause-reads c = λ time front rest k zero is.
    let it = is_mail_time c.args.text.now front rest time k is in
    let hour : c.two-hour.result ≡ time.hour = c.two-hour.ensures it.h it.i it.h_fits it.i_fits it.at_0 it.at_1 ∙ sym it.hour in
    let minute : c.two-minute.result ≡ time.minute = c.two-minute.ensures it.m it.n it.m_fits it.n_fits it.at_3 it.at_4 ∙ sym it.minute in
    let second : c.two-second.result ≡ time.second = c.two-second.ensures it.s it.t it.s_fits it.t_fits it.at_6 it.at_7 ∙ sym it.second in
    ap Some (c.from_valid_hms_nano.ensures ∙ same_time time _ _ _ hour minute second zero)
