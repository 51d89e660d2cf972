use Rattle.std.proofs.Common.{◌≡◌, Ok, true, refl, sym, subst, ◌∙◌}
use Rattle.time_fmt.specs.Outcome.{AppendsUpTo, Outcome, done}
use Rattle.time_known.specs.Fields.{Shown}
use Rattle.time_known.specs.Groups.{at_groups}
use Rattle.time_known.specs.Iso8601.{iso8601_outcome}
use Rattle.time_known.specs.Iso8601Width.{iso8601_width}
use Rattle.time_known.specs.UsualText.{choices_of, usual_text}
use Rattle.time_known.specs.Values.{the_date, the_time, the_offset}
use Rattle.time_known.proofs.AcceptedLemmas.{appended_as, usual_accepted}
use Rattle.time_known.proofs.iso8601.PartsLemmas.{all_parts}
use Rattle.time_known.proofs.iso8601.usual_text.append_usual.Goals as goal

pub returns-in-Ok-clause-appends : goal.returns-in-Ok-clause-appends
returns-in-Ok-clause-appends g c =
    let f = g.V.ComponentProvider.facts c.args.value.now in
    let u = c.args.usual in
    let choices = choices_of u in
    let text = at_groups (usual_text choices u.decimal_digits) f in
    let same : iso8601_outcome choices f ≡ done text =
    all_parts choices f u refl c.requires.supplied (g.met.V.ComponentProvider.groups c.args.value.now)
    ∙ usual_accepted choices true u.decimal_digits u.decimal_sign (the_date f) (the_time f) (the_offset f) text refl
    (c.in-Ok.ensures.accepted text) in
    subst (λ (o : Outcome). AppendsUpTo (iso8601_width choices) c.args.output.now c.append.new.output (Ok c.append.result) o) (sym same)
    (appended_as (λ (s : Shown). usual_text choices u.decimal_digits s.date s.time s.offset) c.in-Ok.ensures.fields c.append.ensures.appends)
