-- The ends of texts.
use Rattle.std.proofs.Common.{◌≡◌, ◌+◌, ◌-◌, ◌<◌, ◌≤◌, ℕ, Bool, true, false, List, ◌∷◌, length, take, drop, refl, sym, ap, ◌∙◌, arith}
use Rattle.std.specs.Prelude.{nat_le, slice_range}
use Rattle.std.proofs.lemmas.Bool.{leb-true, leb-false}
use Rattle.std.proofs.lemmas.List.{drop-drop, length-drop, nil_from_length, take_all}
use Rattle.time_describe.specs.Outcome.{IsEnd}

pub end_cut : (s : List ℕ) (b : ℕ) (bs : List ℕ) → s ≡ b ∷ bs → IsEnd s bs
end_cut s b bs is = (1, sym (ap (drop 1) is))

pub end_more : (a b c : List ℕ) → IsEnd a b → IsEnd b c → IsEnd a c
end_more a b c h k = (h.0 + k.0, k.1 ∙ ap (drop k.0) h.1 ∙ drop-drop k.0 h.0 a)

place_by : (inside : Bool) (text rest : List ℕ) (n : ℕ) → nat_le n (length text) ≡ inside → rest ≡ drop n text → drop (length text - length rest) text ≡ rest
place_by true text rest n test is =
    let le : n ≤ length text = leb-true _ _ test in
    let long : length rest ≡ length text - n = ap length is ∙ length-drop n text in
    let at : length text - length rest ≡ n = omega arith in
    ap (λ (k : ℕ). drop k text) at ∙ sym is
place_by false text rest n test is =
    let lt : length text < n = leb-false _ _ test in
    let long : length rest ≡ length text - n = ap length is ∙ length-drop n text in
    let none : length rest ≡ 0 = omega arith in
    let dropped : length (drop (length text - length rest) text) ≡ 0 = omega (arith, length-drop (length text - length rest) text) in
    nil_from_length _ dropped ∙ sym (nil_from_length rest none)

-- where an end begins
pub end_place : (text rest : List ℕ) → IsEnd text rest → drop (length text - length rest) text ≡ rest
end_place text rest h = place_by (nat_le h.0 (length text)) text rest h.0 refl h.1

-- its first bytes, in the text
pub end_bytes : (text rest : List ℕ) (n : ℕ) → IsEnd text rest
    → slice_range text (length text - length rest) (length text - length rest + n) ≡ take n rest
end_bytes text rest n h =
    let count : length text - length rest + n - (length text - length rest) ≡ n = omega arith in
    ap (λ (k : ℕ). take k (drop (length text - length rest) text)) count ∙ ap (take n) (end_place text rest h)

-- a slice up to the end
pub end_slice : (s : List ℕ) (n : ℕ) → take (length s - n) (drop n s) ≡ drop n s
end_slice s n = take_all _ _ (omega (arith, length-drop n s))
