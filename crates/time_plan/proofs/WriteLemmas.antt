-- Steps that are written one after another.
use Rattle.std.proofs.Common.{◌≡◌, ℕ, ◌+◌, ◌≤◌, ◌++◌, List, length, refl, sym, ap, ◌∙◌, arith, append_assoc, subst}
use Rattle.std.proofs.Common.{Ok, Err, length-append}
use Rattle.time_below.specs.Facts.{Facts}
use Rattle.time_below.specs.Width.{tree_width}
use Rattle.time_fmt.specs.declared.refused.Refused.{Refused}
use Rattle.time_fmt.specs.Description.{tree_outcome}
use Rattle.time_fmt.specs.Ends.{Ends, refusal_of}
use Rattle.time_fmt.specs.Guarantee.{AppendsTree}
use Rattle.time_fmt.specs.Outcome.{Outcome, done}
use Rattle.time_fmt.specs.Sink.{Buffer, Puts}
use Rattle.time_fmt.proofs.WriteLemmas.{join_refused, join_done}
use Rattle.time_plan.specs.Shown.{shown_tree}
use Rattle.time_plan.specs.Steps.{step_tree}
use Rattle.time_plan.specs.Literal.{literal_bytes}
use Rattle.time_plan.specs.declared.step.Step.{Step}
use Rattle.time_plan.proofs.StepLemmas.{step_outcome, step_width, step_text}

-- a text behind what ended without a refusal
pub text_behind : {u : Unit} {width greatest count : ℕ} {o : Outcome} {bs : List ℕ} {old mid new : Buffer}
    → Ends width old mid (Ok u) o → Puts mid new count bs → width + length bs ≤ greatest
    → Ends greatest old new (Ok tt) (done (o.bytes ++ bs))
text_behind {o = o} {bs = bs} {old = old} first second fits = record {
  appended = second.appended ∙ ap (λ (items : List ℕ). items ++ bs) first.appended
      ∙ append_assoc old.bytes o.bytes bs;
  refusal = refl;
  grown = omega (arith, first.grown, second.grown, length-append o.bytes bs);
  block = second.block ∙ first.block;
  within = omega (arith, first.within, second.grown, fits);
}

-- so is the literal of a step
pub step_ended : {more_count : ℕ} {u : Unit} (s : Step) (f : Facts) (old mid new : Buffer)
    → Ends (tree_width (shown_tree s.shown)) old mid (Ok u) (tree_outcome (shown_tree s.shown) f)
    → Puts mid new more_count (literal_bytes s.literal)
    → AppendsTree (step_tree s) f old new (Ok tt)
step_ended s f old mid new first second =
    let c = tree_outcome (shown_tree s.shown) f in
    let bs = literal_bytes s.literal in
    let is : tree_outcome (step_tree s) f ≡ done (c.bytes ++ bs) = step_outcome s f
    ∙ join_done c (done bs) (sym first.refusal) in
    let ends : Ends (tree_width (step_tree s)) old new (Ok tt) (done (c.bytes ++ bs)) =
    text_behind first second (omega (arith, step_width s)) in
    record {
      ends = subst (λ (o : Outcome). Ends (tree_width (step_tree s)) old new (Ok tt) o) (sym is) ends;
      text = step_text s f;
    }

-- a component that is refused
pub step_refused : {r : Refused} (s : Step) (f : Facts) (old new : Buffer)
    → Ends (tree_width (shown_tree s.shown)) old new (Err r) (tree_outcome (shown_tree s.shown) f)
    → AppendsTree (step_tree s) f old new (Err r)
step_refused {r = r} s f old new stopped =
    let c = tree_outcome (shown_tree s.shown) f in
    let is : tree_outcome (step_tree s) f ≡ c = step_outcome s f
    ∙ join_refused c (done (literal_bytes s.literal)) (refusal_of r) (sym stopped.refusal) in
    let ends : Ends (tree_width (step_tree s)) old new (Err r) c = record {
      appended = stopped.appended;
      refusal = stopped.refusal;
      grown = stopped.grown;
      block = stopped.block;
      within = omega (arith, stopped.within, step_width s);
    } in
    record {
      ends = subst (λ (o : Outcome). Ends (tree_width (step_tree s)) old new (Err r) o) (sym is) ends;
      text = step_text s f;
    }
