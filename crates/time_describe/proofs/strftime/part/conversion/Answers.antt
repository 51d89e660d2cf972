use Rattle.std.proofs.Common.{◌≡◌, ℕ, ◌+◌, List, ◌∷◌, length, false, None, sym, ap, ◌∙◌, refl, arith, ne_eqb}
use Rattle.std.specs.Prelude.{◌==◌, is_some}
use Rattle.time_describe.specs.Conversions.{flag_named, width, items_of, refusal}
use Rattle.time_describe.specs.Strftime.{conversion, fails}
use Rattle.time_describe.proofs.strftime.part.conversion.Goals as goal

not_there : (b : ℕ) (bs : List ℕ) → is_some (flag_named b) ≡ false → (b == 58) ≡ false → is_some (width b) ≡ false → items_of b ≡ None
    → conversion (b ∷ bs) ≡ fails (refusal b) (length bs + 1)
unfolding conversion
not_there b bs flag colon digits none = rw (flag, colon, digits, none) refl

pub returns-in-None-clause-part : goal.returns-in-None-clause-part
returns-in-None-clause-part c = λ text.
    let left : length c.in-Some.rest.now + 1 ≡ length c.args.bytes.now = omega (arith, ap length c.in-Some.ensures) in
    sym (ap conversion c.in-Some.ensures
    ∙ not_there c.in-Some.first c.in-Some.rest.now (ap is_some (sym c.in_default-flag_named.ensures)) (ne_eqb _ _ c.if-first-eq58.false)
    (ap is_some (sym c.in_default-width.ensures)) (sym (c.in-None.ensures text))
    ∙ ap (fails (refusal c.in-Some.first)) left
    ∙ ap (λ reason. fails reason (length c.args.bytes.now)) (sym c.refusal.ensures))
