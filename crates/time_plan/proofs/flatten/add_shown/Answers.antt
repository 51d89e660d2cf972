use Rattle.std.proofs.Common.{refl}
use Rattle.time_plan.proofs.FlattenLemmas.{shown_pushed}
use Rattle.time_plan.proofs.StepLemmas.{nothing_is_utf8}
use Rattle.time_plan.proofs.flatten.add_shown.Goals as goal

pub invariant_of-push : goal.invariant_of-push
invariant_of-push c = record { utf8 = λ _. rw c.new.ensures.items nothing_is_utf8 }

pub returns : goal.returns
returns c = record {
  extends = rw c.in_ok-push.ensures.items (shown_pushed c.args.steps.now.items _ c.new.ensures.items refl);
}
