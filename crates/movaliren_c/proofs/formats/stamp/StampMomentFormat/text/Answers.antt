use Rattle.std.proofs.Common.{◌≡◌, [], Some, arith, refl, sym, ap, ◌∙◌, true}
use Rattle.time_below.specs.Facts.{date_facts}
use Rattle.time_below.specs.Offset.{utc}
use Rattle.time_fmt.specs.Outcome.{done}
use Rattle.time_known.specs.Config.{default_choices}
use Rattle.time_known.specs.Fields.{Shown}
use Rattle.time_known.specs.UsualText.{usual_text}
use Rattle.time_known.specs.declared.iso8601.config.DecimalSign.TheVariants as sign
use Rattle.time_known.proofs.AcceptedLemmas.{usual_accepted, usual_refused}
use Rattle.movaliren_c.proofs.formats.stamp.StampMomentFormat.text.Goals as goal

pub returns-clause-text : goal.returns-clause-text
returns-clause-text c =
    let v = c.args.value.now in
    let is : c.new-value.result ≡ record { date = v.date; time = v.time; offset = tt } =
    c.new-value.ensures ∙ rw (c.date.ensures, c.time.ensures) refl in
    usual_accepted default_choices true (Some 9) sign.Point (date_facts v.date) v.time utc [] refl
    (rw is at c.in_ok-fields.ensures.accepted [])
    ∙ ap (λ (s : Shown). done (usual_text default_choices (Some 9) s.date s.time utc)) (sym (rw is at c.in_ok-fields.ensures.fields))

pub returns-in_err-fields-clause-refused : goal.returns-in_err-fields-clause-refused
returns-in_err-fields-clause-refused c = grind (arith, usual_refused)
