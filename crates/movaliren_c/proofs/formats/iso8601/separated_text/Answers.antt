use Rattle.std.proofs.Common.{[], refl, sym, ap, ◌∙◌, true, rules}
use Rattle.time_below.specs.Facts.{date_facts}
use Rattle.time_fmt.specs.Outcome.{done}
use Rattle.time_known.specs.UsualText.{usual_choices, usual_text}
use Rattle.time_known.specs.Fields.{Shown}
use Rattle.time_known.proofs.AcceptedLemmas.{usual_accepted, usual_refused}
use Rattle.movaliren_c.proofs.formats.iso8601.separated_text.Goals as goal

pub returns-clause-text : goal.returns-clause-text
returns-clause-text c =
    let v = c.args.value.now in
    let u = c.args.usual.now in
    let choices = usual_choices true u.decimal_digits u.decimal_sign in
    usual_accepted choices true u.decimal_digits u.decimal_sign (date_facts v.date) v.time v.offset [] refl
    (c.in_ok-fields.ensures.accepted [])
    ∙ ap (λ (s : Shown). done (usual_text choices u.decimal_digits s.date s.time s.offset)) (sym c.in_ok-fields.ensures.fields)

pub returns-in_err-fields-clause-refused : goal.returns-in_err-fields-clause-refused
returns-in_err-fields-clause-refused c =
    let v = c.args.value.now in
    let u = c.args.usual.now in
    rw (usual_refused u.decimal_digits u.decimal_sign (date_facts v.date) v.time v.offset [] c.in_err-fields.field-0.0
    c.accepted_fields.ensures.offset.0.0 (c.in_err-fields.ensures.refused [])) (search rules)
