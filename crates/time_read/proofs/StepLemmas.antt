-- Steps by their parts: what a step of a plan means, and what a component or a literal alone does.
use Rattle.std.proofs.Common.{◌≡◌, ℕ, ◌+◌, ◌<◌, List, [], ◌∷◌, ◌++◌, append_assoc, drop, get_or, length, sym, ap, ◌∙◌}
use Rattle.std.proofs.lemmas.List.{drop_more}
use Rattle.time_below.specs.declared.format_description.component.Component.{Component}
use Rattle.time_below.specs.Facts.{Facts}
use Rattle.time_below.specs.Tree.{Tree, Trees, byte_literal, more, nothing, of_component}
use Rattle.time_fmt.specs.Description.{tree_outcome, trees_outcome}
use Rattle.time_fmt.specs.Outcome.{Outcome, done, join}
use Rattle.time_fmt.proofs.WriteLemmas.{join_nothing}
use Rattle.time_plan.proofs.StepLemmas.{step_outcome}
use Rattle.time_plan.specs.Literal.{literal_bytes}
use Rattle.time_plan.specs.Shown.{shown_tree}
use Rattle.time_plan.specs.Steps.{step_tree}
use Rattle.time_plan.specs.declared.shown.Shown.{Shown}
use Rattle.time_plan.specs.declared.shown.Shown.TheVariants as shown
use Rattle.time_plan.specs.declared.step.Step.{Step}
use Rattle.time_read.specs.Parts.{parts_tree, ref_bytes}
use Rattle.time_read.specs.declared.plan.any_step.StepParts.{StepParts}

-- parts give what is shown, and then the literal
pub parts_outcome : (p : StepParts) (f : Facts)
    → tree_outcome (parts_tree p) f ≡ join (tree_outcome (shown_tree p.shown) f) (done (ref_bytes p.literal))
parts_outcome p f =
    ap (λ (o : Outcome). join (tree_outcome (shown_tree p.shown) f) o) (join_nothing (done (ref_bytes p.literal)))

-- a step of a plan has its parts
pub step_is_same : (s : Step) (p : StepParts) (f : Facts) → p.shown ≡ s.shown → ref_bytes p.literal ≡ literal_bytes s.literal
    → tree_outcome (step_tree s) f ≡ tree_outcome (parts_tree p) f
step_is_same s p f is_shown is_literal =
    step_outcome s f
    ∙ ap (λ (it : Shown). join (tree_outcome (shown_tree it) f) (done (literal_bytes s.literal))) (sym is_shown)
    ∙ ap (λ (bytes : List ℕ). join (tree_outcome (shown_tree p.shown) f) (done bytes)) (sym is_literal)
    ∙ sym (parts_outcome p f)

-- a component with nothing behind it
pub component_alone : (c : Component) (p : StepParts) (f : Facts) → p.shown ≡ shown.Component c → ref_bytes p.literal ≡ []
    → tree_outcome (of_component c) f ≡ tree_outcome (parts_tree p) f
component_alone c p f is_shown is_literal = sym (parts_outcome p f
    ∙ ap (λ (bytes : List ℕ). join (tree_outcome (shown_tree p.shown) f) (done bytes)) is_literal
    ∙ join_nothing (tree_outcome (shown_tree p.shown) f)
    ∙ ap (λ (it : Shown). tree_outcome (shown_tree it) f) is_shown)

-- a literal with nothing before it
pub literal_alone : (bytes : List ℕ) (p : StepParts) (f : Facts) → p.shown ≡ shown.Nothing → ref_bytes p.literal ≡ bytes
    → tree_outcome (byte_literal bytes) f ≡ tree_outcome (parts_tree p) f
literal_alone bytes p f is_shown is_literal = sym (parts_outcome p f
    ∙ ap (λ (it : Shown). join (tree_outcome (shown_tree it) f) (done (ref_bytes p.literal))) is_shown
    ∙ ap (λ (text : List ℕ). done text) is_literal)

-- nothing at all
pub nothing_alone : (p : StepParts) (f : Facts) → p.shown ≡ shown.Nothing → ref_bytes p.literal ≡ []
    → tree_outcome nothing f ≡ tree_outcome (parts_tree p) f
nothing_alone p f is_shown is_literal = literal_alone [] p f is_shown is_literal

-- a step, and what is behind it
pub step_before : (t : Tree) (p : StepParts) (others : Trees) (f : Facts) (text a mid left : List ℕ)
    → tree_outcome t f ≡ tree_outcome (parts_tree p) f → tree_outcome (shown_tree p.shown) f ≡ done a → text ≡ a ++ mid
    → mid ≡ ref_bytes p.literal ++ left → trees_outcome others f ≡ done left → trees_outcome (more t others) f ≡ done text
step_before t p others f text a mid left same shown_is text_is mid_is others_is =
    ap (λ (o : Outcome). join o (trees_outcome others f)) (same ∙ parts_outcome p f
    ∙ ap (λ (o : Outcome). join o (done (ref_bytes p.literal))) shown_is)
    ∙ ap (λ (o : Outcome). join (done (a ++ ref_bytes p.literal)) o) others_is
    ∙ ap done (append_assoc a (ref_bytes p.literal) left ∙ ap (λ (it : List ℕ). a ++ it) (sym mid_is) ∙ sym text_is)

-- the element at an index, and those behind it
pub next_step : {T : Type 0} (steps : List T) (i : ℕ) (s : T) → i < length steps → s ≡ get_or steps i s
    → drop i steps ≡ s ∷ drop (i + 1) steps
next_step {T} steps i s within is = drop_more steps i s within ∙ ap (λ (t : T). t ∷ drop (i + 1) steps) (sym is)
