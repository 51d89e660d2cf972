use Rattle.std.proofs.Common.{◌∙◌, [], Some, ap, arith, refl, subst, sym, true}
use Rattle.std.proofs.lemmas.Int.{ints}
use Rattle.time_below.specs.Facts.{date_facts}
use Rattle.time_below.specs.Offset.{utc}
use Rattle.time_fmt.specs.Outcome.{done}
use Rattle.time_known.specs.Config.{default_choices}
use Rattle.time_known.specs.Fields.{Shown}
use Rattle.time_known.specs.Stamps.{IsStampYear}
use Rattle.time_known.specs.UsualText.{usual_text}
use Rattle.time_known.specs.declared.iso8601.config.DecimalSign.TheVariants as sign
use Rattle.time_known.proofs.AcceptedLemmas.{usual_accepted}
use Rattle.time_known.proofs.OutcomeLemmas.{test_is_passed, year_is_within}
use Rattle.time_read.proofs.stamp.stamp_of.Goals as goal

pub returns-in-Ok-clause-text : goal.returns-in-Ok-clause-text
returns-in-Ok-clause-text c =
    let v = c.args.value.now in
    usual_accepted default_choices true (Some 9) sign.Point (date_facts v.date) v.time utc [] refl (c.in-Ok.ensures.accepted [])
    ∙ ap (λ (s : Shown). done (usual_text default_choices (Some 9) s.date s.time utc)) (sym c.in-Ok.ensures.fields)

-- the date and the time are real, and the year was accepted
pub returns-in-Ok-clause-has : goal.returns-in-Ok-clause-has
returns-in-Ok-clause-has c =
    let y = year_is_within 0 9_999 c.args.value.now.date.year (test_is_passed _ _ _ [] (c.in-Ok.ensures.accepted [])).right in
    record {
      date = c.in-Ok.ensures.real.date.date;
      year = subst IsStampYear (sym y.is) (omega (arith, ints), omega (arith, ints, y.high));
      time = c.in-Ok.ensures.real.time;
    }
