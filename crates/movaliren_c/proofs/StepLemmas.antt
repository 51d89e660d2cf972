-- What an item shows, as the step of a reader.
use Rattle.std.proofs.Common.{◌≡◌, ◌<◌, ℕ, List, [], ◌∷◌, true, refl, sym, ap, ◌∙◌}
use Rattle.std.proofs.lemmas.Bool.{lt-ltb}
use Rattle.std.proofs.lemmas.Str.{IsUtf8-from_ascii, is_utf8-from_IsUtf8}
use Rattle.std.specs.Str.{is_utf8}
use Rattle.time_below.specs.Facts.{Facts}
use Rattle.time_fmt.proofs.GuaranteeLemmas.{ascii_test}
use Rattle.time_fmt.proofs.WriteLemmas.{join_nothing}
use Rattle.time_fmt.specs.Description.{tree_outcome}
use Rattle.time_fmt.specs.Outcome.{done, join}
use Rattle.time_fmt.specs.Runs.{run_tree}
use Rattle.time_fmt.specs.declared.runs.Run.{Run}
use Rattle.time_read.proofs.StepLemmas.{parts_outcome}
use Rattle.time_plan.specs.Shown.{shown_tree}
use Rattle.time_plan.specs.declared.shown.Shown.{Shown}
use Rattle.time_plan.specs.declared.shown.Shown.TheVariants as shown
use Rattle.time_read.specs.Parts.{parts_tree, ref_bytes}
use Rattle.time_read.specs.declared.plan.any_step.StepParts.{StepParts}

-- ---- the bytes between the parts of a date or of a time of day

-- a byte of ASCII is a text
pub ascii_is_text : (b : ℕ) → b < 128 → is_utf8 (b ∷ []) ≡ true
ascii_is_text b small =
    is_utf8-from_IsUtf8 (b ∷ []) (IsUtf8-from_ascii (b ∷ []) (ascii_test (b ∷ []) (rw (lt-ltb b 128 small) refl)))

-- ---- what an item shows, with nothing behind it

-- a date or a time of day
pub run_alone : (r : Run) (p : StepParts) (f : Facts) → p.shown ≡ shown.Run r → ref_bytes p.literal ≡ []
    → tree_outcome (run_tree r) f ≡ tree_outcome (parts_tree p) f
run_alone r p f is_shown is_literal = sym (parts_outcome p f
    ∙ ap (λ (bytes : List ℕ). join (tree_outcome (shown_tree p.shown) f) (done bytes)) is_literal
    ∙ join_nothing (tree_outcome (shown_tree p.shown) f)
    ∙ ap (λ (it : Shown). tree_outcome (shown_tree it) f) is_shown)
