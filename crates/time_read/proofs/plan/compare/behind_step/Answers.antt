use denote.Bor.{Bor}
use Rattle.std.proofs.Common.{◌≡◌, ℕ, List, ◌++◌, Result, Ok, Err}
use Rattle.std.specs.Prelude.{IfOk}
use Rattle.time_below.specs.Tree.{Trees, more}
use Rattle.time_fmt.specs.Description.{trees_outcome}
use Rattle.time_fmt.specs.Outcome.{done}
use Rattle.time_read.specs.Parts.{ref_bytes}
use Rattle.time_read.specs.declared.fault.Unexpected.{Unexpected}
use Rattle.time_read.proofs.StepLemmas.{step_before}
use Rattle.time_read.proofs.plan.compare.behind_step.Goals as goal

-- what holds of each value that may be there
if_ok : {A E : Type 0} (P Q : A → Type 0) (r : Result A E) → ((a : A) → P a → Q a) → IfOk r P → IfOk r Q
if_ok P Q (Ok a) f is = f a is
if_ok P Q (Err e) f is = is

-- the text of the step stands before that of the others
pub returns-clause-behind : goal.returns-clause-behind
returns-clause-behind g c =
    let f = g.V.ComponentProvider.facts c.args.value.now in
    let tree = g.T.ReadStep.tree_of c.args.texts.now c.args.step.now in
    let literal = ref_bytes c.parts-shown.result.literal in
    if_ok (λ (left : Bor (List ℕ)). c.in-Ok.value.now ≡ literal ++ left.now)
    (λ (left : Bor (List ℕ)).
    (others : Trees) → trees_outcome others f ≡ done left.now → trees_outcome (more tree others) f ≡ done c.args.text.now)
    c.behind_literal.result
    (λ left behind others others_is.
    step_before tree c.parts-shown.result others f c.args.text.now _ c.in-Ok.value.now left.now (c.parts-shown.ensures.tree f)
    c.in-Some.ensures.text c.in-Ok.ensures behind others_is)
    c.behind_literal.ensures
