-- What bytes without a backslash leave of a string of JSON.
use Rattle.std.proofs.Common.{ℕ, zero, suc, ◌≡◌, ◌+◌, ◌<◌, ◌%◌, ◌++◌, ◌&&◌, ◌==◌, Bool, true, false, not, cond, List, [], ◌∷◌, refl, sym, ap, ◌∙◌, arith}
use Rattle.std.specs.Prelude.{count_by, if◌then◌else◌}
use Rattle.std.proofs.lemmas.List.Sums.{sum_by-cons}
use Rattle.time_lines.specs.Json.{ends_in_string}

not_not : (b : Bool) → not (not b) ≡ b
not_not true = refl
not_not false = refl

-- one quote more
flips : (n r : ℕ) (inside : Bool) → r ≡ n % 2 → r < 2
    → (if (1 + n) % 2 == 1 then not inside else inside) ≡ (if n % 2 == 1 then not (not inside) else not inside)
flips n zero inside is lt = let odd : (1 + n) % 2 ≡ 1 = omega (arith, is) in rw (odd, sym is) refl
flips n (suc zero) inside is lt =
    let even : (1 + n) % 2 ≡ 0 = omega (arith, is) in rw (even, sym is) (sym (not_not inside))
flips n (suc (suc r)) inside is lt = absurd (omega (arith, lt))

one_more : (quote : Bool) (n : ℕ) (inside : Bool)
    → (if (cond quote 1 0 + n) % 2 == 1 then not inside else inside)
    ≡ (if n % 2 == 1 then not (if quote && true then not inside else inside) else (if quote && true then not inside else inside))
one_more true n inside = flips n (n % 2) inside refl (omega arith)
one_more false n inside = let same : 0 + n ≡ n = omega arith in rw same refl

none_here : (back : Bool) (n : ℕ) → cond back 1 0 + n ≡ 0 → (back ≡ false) × (n ≡ 0)
none_here true n none = absurd (omega (arith, none))
none_here false n none = (refl, omega (arith, none))

never_escaped : (inside back : Bool) → back ≡ false → (inside && (back && true)) ≡ false
never_escaped true back none = ap (λ b. b && true) none
never_escaped false back none = refl

-- bytes without a backslash change by their quotes alone whether the next one is inside
pub behind_quotes : (inside : Bool) (xs ys : List ℕ) → count_by (λ b. b == 92) xs ≡ 0
    → ends_in_string inside false (xs ++ ys)
    ≡ ends_in_string (if count_by (λ b. b == 34) xs % 2 == 1 then not inside else inside) false ys
behind_quotes inside [] ys none = refl
behind_quotes inside (b ∷ xs) ys none =
    let here = none_here (b == 92) (count_by (λ x. x == 92) xs) (sym (sum_by-cons (λ x. cond (x == 92) 1 0) b xs) ∙ none) in
    let next = if (b == 34) && true then not inside else inside in
    ap (λ e. ends_in_string next e (xs ++ ys)) (never_escaped inside (b == 92) here.0)
    ∙ behind_quotes next xs ys here.1
    ∙ ap (λ i. ends_in_string i false ys)
    (sym (one_more (b == 34) (count_by (λ x. x == 34) xs) inside)
    ∙ ap (λ n. if n % 2 == 1 then not inside else inside) (sym (sum_by-cons (λ x. cond (x == 34) 1 0) b xs)))
