use Rattle.std.proofs.Common.{◌≡◌, sym, ap₂, ◌∙◌, rules, unsigned_abs, ℕ}
use Rattle.time_below.specs.Calendar.{weekday_of}
use Rattle.time_below.specs.Weekday.{days_from_monday}
use Rattle.time_fmt.specs.Outcome.{done}
use Rattle.time_known.specs.Fields.{Shown}
use Rattle.time_known.specs.Rfc2822.{rfc2822_of, rfc2822_text}
use Rattle.time_below.specs.Facts.{date_facts}
use Rattle.time_known.proofs.AcceptedLemmas.{any_hour}
use Rattle.time_read.proofs.mail.text_of.Goals as goal

pub returns-in-Ok-clause-text : goal.returns-in-Ok-clause-text
returns-in-Ok-clause-text c =
    let v = c.args.value.now in
    let text = rfc2822_text (date_facts v.date) v.time v.offset in
    let hours = any_hour 1900 v.date.year (unsigned_abs v.offset.hours) (unsigned_abs v.offset.seconds) text
    c.accepted_fields.ensures.offset.0.0 in
    let completed : rfc2822_of v ≡ done text = sym hours ∙ c.in-Ok.ensures.accepted text in
    let weekday : days_from_monday c.weekday-weekday.result ≡ weekday_of v.date = search rules in
    completed ∙ ap₂ (λ (w : ℕ) (s : Shown). done (rfc2822_text (record s.date { weekday = w }) s.time s.offset)) (sym weekday) (sym c.in-Ok.ensures.fields)
