use Rattle.std.proofs.Common.{◌∙◌, Some, ap}
use Rattle.std.proofs.lemmas.Option.{same_Some}
use Rattle.time_known.proofs.Rules.Parts.{same_value}
use Rattle.time_read.proofs.MailBytes.{is_mail_text}
use Rattle.time_read.proofs.mail.value_at.Goals as goal

-- each part of a text of a value is read
pub returns-then-text-ne-LENGTH-clause-reads : goal.returns-then-text-ne-LENGTH-clause-reads
returns-then-text-ne-LENGTH-clause-reads c = λ value s.
    absurd (c.if-text-ne-LENGTH.true (is_mail_text c.args.text.now value s).long)

pub returns-in_err-date-clause-reads : goal.returns-in_err-date-clause-reads
returns-in_err-date-clause-reads c = λ value s.
    let it = is_mail_text c.args.text.now value s in
    let no : ⊥ = cc (c.in_err-date.ensures value.date it.date_front it.date_rest it.date it.date_whole) in absurd no

pub returns-in_err-time-clause-reads : goal.returns-in_err-time-clause-reads
returns-in_err-time-clause-reads c = λ value s.
    let it = is_mail_text c.args.text.now value s in
    let no : ⊥ = cc (c.in_err-time.ensures.reads value.time it.time_front it.time_rest it.time s.1 it.time_whole) in absurd no

pub returns-in_err-offset-clause-reads : goal.returns-in_err-offset-clause-reads
returns-in_err-offset-clause-reads c = λ value s.
    let it = is_mail_text c.args.text.now value s in
    let no : ⊥ = cc (c.in_err-offset.ensures value.offset it.offset) in absurd no

pub returns-clause-reads : goal.returns-clause-reads
returns-clause-reads c = λ value s.
    let it = is_mail_text c.args.text.now value s in
    let date = same_Some _ _ (c.in_ok-date.ensures value.date it.date_front it.date_rest it.date it.date_whole) in
    let time = same_Some _ _ (c.in_ok-time.ensures.reads value.time it.time_front it.time_rest it.time s.1 it.time_whole) in
    let offset = same_Some _ _ (c.in_ok-offset.ensures value.offset it.offset) in
    ap Some (c.new_in_offset.ensures ∙ same_value date time offset)
