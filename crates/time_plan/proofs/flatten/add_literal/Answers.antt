use Rattle.std.proofs.Common.{◌≡◌, ◌-◌, refl, ap, ◌∙◌, arith, rules}
use Rattle.std.proofs.lemmas.Str.{is_utf8-from_IsUtf8}
use Rattle.std.specs.Vec.{vec_len}
use Rattle.time_plan.specs.Literal.{literal_bytes}
use Rattle.time_plan.proofs.FlattenLemmas.{literal_in_place, literal_pushed, put_back}
use Rattle.time_plan.proofs.flatten.add_literal.Goals as goal
use Rattle.time_plan.proofs.flatten.add_literal.Goals.{in_default-via-in-Some+else-has_no_literal, in_default-via-in-None-1}

pub returns-in-Some : goal.returns-in-Some
returns-in-Some c =
    let nothing = c.if-has_no_literal.ensures refl in
    record {
      extends = literal_in_place c.args.steps.now.items (vec_len c.args.steps.now - 1) c.in-Some.last.now
          c.end_with.new.self _ _ (omega (arith, c.in-Some.ensures.variant.0 refl, c.args.steps.now.ok))
          (omega (arith, c.args.steps.now.ok)) c.in-Some.ensures.value c.end_with.ensures.shown nothing.0 nothing.1
          (ap literal_bytes c.end_with.ensures.literal ∙ c.in_ok-literal.ensures.bytes) c.end_with.ensures.is_text;
    }

pub invariant_of-push : goal.invariant_of-push
invariant_of-push c = record { utf8 = λ h. rw c.in_ok-literal.ensures.bytes (is_utf8-from_IsUtf8 _ (c.requires.utf8 h)) }

pub returns-in_ok-push-in_default : goal.returns-in_ok-push-in_default
returns-in_ok-push-in_default c =
    let same : c.in_default.steps.items ≡ c.args.steps.now.items = elim c.in_default.branch [
      | in_default-via-in-Some+else-has_no_literal w ↦ rw w.steps-is (put_back c.args.steps.now.items (vec_len c.args.steps.now - 1) w.in-Some.last.now w.in-Some.ensures.value)
      | in_default-via-in-None-1 w ↦ rw w.steps-is (search rules)
    ] in
    record {
      extends = rw (c.in_ok-push-in_default.ensures.items, same)
          (literal_pushed c.args.steps.now.items _ _ _ refl c.in_ok-literal.ensures.bytes refl);
    }
