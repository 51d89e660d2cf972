-- What a step means, and what is known of its text.
use Rattle.std.proofs.Common.{◌≡◌, ℕ, ◌+◌, ◌≤◌, ◌<◌, get_or, ◌&&◌, Bool, true, false, List, [], ◌∷◌, length, refl, ap, ◌∙◌, arith}
use Rattle.std.proofs.lemmas.Str.{IsUtf8-from_is_utf8, is_utf8-from_IsUtf8}
use Rattle.std.specs.Str.{is_utf8}
use Rattle.time_below.specs.Facts.{Facts}
use Rattle.time_below.specs.Tree.{more, end}
use Rattle.time_below.specs.Width.{tree_width, is_guaranteed_text}
use Rattle.time_fmt.specs.Description.{tree_outcome}
use Rattle.time_fmt.specs.Guarantee.{IsTextIf}
use Rattle.time_fmt.specs.Outcome.{done, join}
use Rattle.time_fmt.specs.declared.runs.Run.TheVariants as run
use Rattle.time_fmt.proofs.GuaranteeLemmas.{text_of_component, text_more, empty_utf8}
use Rattle.time_fmt.proofs.RunLemmas.{run_text}
use Rattle.time_fmt.proofs.WriteLemmas.{join_nothing}
use Rattle.time_plan.specs.Literal.{literal_bytes, literal_tree}
use Rattle.time_plan.specs.Shown.{shown_tree}
use Rattle.time_plan.specs.Steps.{step_tree}
use Rattle.time_plan.specs.declared.shown.Shown.{Shown}
use Rattle.time_plan.specs.declared.shown.Shown.TheVariants as shown
use Rattle.time_plan.specs.declared.step.Step.{Step}

-- ---- literals

pub literal_outcome : (b : Bool) (bs : List ℕ) (f : Facts) → tree_outcome (literal_tree b bs) f ≡ done bs
literal_outcome true bs f = refl
literal_outcome false bs f = refl

pub literal_width : (b : Bool) (bs : List ℕ) → tree_width (literal_tree b bs) ≡ length bs
literal_width true bs = refl
literal_width false bs = refl

pub literal_text : (b : Bool) (bs : List ℕ) → is_guaranteed_text (literal_tree b bs) ≡ b
literal_text true bs = refl
literal_text false bs = refl

text_literal_is_text : (b : Bool) (bs : List ℕ) (f : Facts) → (b ≡ true → is_utf8 bs ≡ true)
    → IsTextIf (is_guaranteed_text (literal_tree b bs)) (tree_outcome (literal_tree b bs) f)
text_literal_is_text true bs f h = λ _. IsUtf8-from_is_utf8 bs (h refl)
text_literal_is_text false bs f h = λ no. let never : ⊥ = cc in absurd never

-- no bytes are a text
pub nothing_is_utf8 : is_utf8 [] ≡ true
nothing_is_utf8 = is_utf8-from_IsUtf8 [] empty_utf8

-- a list of one byte is that byte
pub one_byte : (bs : List ℕ) → 1 ≤ length bs → length bs < 2 → get_or bs 0 0 ∷ [] ≡ bs
one_byte [] some few = let no : ⊥ = omega arith in absurd no
one_byte (b ∷ []) some few = refl
one_byte (b ∷ c ∷ bs) some few = let no : ⊥ = omega arith in absurd no

-- ---- what is shown

-- what is shown is a text
shown_text : (s : Shown) (f : Facts) → IsTextIf (is_guaranteed_text (shown_tree s)) (tree_outcome (shown_tree s) f)
shown_text (shown.Component c) f = λ _. text_of_component c f
shown_text (shown.Run r) f = run_text r f
shown_text shown.Nothing f = λ _. empty_utf8

pub shown_guaranteed : (s : Shown) → is_guaranteed_text (shown_tree s) ≡ true
shown_guaranteed (shown.Component c) = refl
shown_guaranteed shown.Nothing = refl
shown_guaranteed (shown.Run (run.Date b)) = refl
shown_guaranteed (shown.Run (run.Time b)) = refl

-- ---- steps

-- a step gives what it shows, and then its literal
pub step_outcome : (s : Step) (f : Facts)
    → tree_outcome (step_tree s) f ≡ join (tree_outcome (shown_tree s.shown) f) (done (literal_bytes s.literal))
step_outcome s f =
    ap (λ o. join (tree_outcome (shown_tree s.shown) f) o)
    (ap (λ o. join o (done [])) (literal_outcome s.is_text (literal_bytes s.literal) f)
    ∙ join_nothing (done (literal_bytes s.literal)))

pub step_width : (s : Step)
    → tree_width (step_tree s) ≡ tree_width (shown_tree s.shown) + length (literal_bytes s.literal)
step_width s = omega (arith, literal_width s.is_text (literal_bytes s.literal))

pub and_true : (b : Bool) → (b && true) ≡ b
and_true true = refl
and_true false = refl

pub step_is_text : (s : Step) → is_guaranteed_text (step_tree s) ≡ s.is_text
step_is_text s =
    ap (λ b. b && (is_guaranteed_text (literal_tree s.is_text (literal_bytes s.literal)) && true))
    (shown_guaranteed s.shown)
    ∙ and_true (is_guaranteed_text (literal_tree s.is_text (literal_bytes s.literal)))
    ∙ literal_text s.is_text (literal_bytes s.literal)

-- the text of a step is UTF-8 under its guarantee
pub step_text : (s : Step) (f : Facts) → IsTextIf (is_guaranteed_text (step_tree s)) (tree_outcome (step_tree s) f)
step_text s f =
    text_more (shown_tree s.shown) (more (literal_tree s.is_text (literal_bytes s.literal)) end) f
    (shown_text s.shown f)
    (text_more (literal_tree s.is_text (literal_bytes s.literal)) end f
    (text_literal_is_text s.is_text (literal_bytes s.literal) f s.utf8) (λ _. empty_utf8))
