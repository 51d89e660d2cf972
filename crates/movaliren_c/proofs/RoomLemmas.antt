-- Texts that are copied to the start of a buffer.
use Rattle.std.proofs.Common.{◌≡◌, ℕ, ◌+◌, ◌-◌, ◌≤◌, List, ◌++◌, length, take, drop, sym, ap, ◌∙◌, length-drop, arith}
use Rattle.time_fmt.proofs.RoomLemmas.{still_behind}
use Rattle.std.proofs.lemmas.List.{length-take-le, take-append-drop, take-take, take_rest}

-- a text of which the first bytes were written, and then the last ones
joined_ends : (n k rest : ℕ) (text old mid new : List ℕ) → k ≤ n → rest ≤ k → take k mid ≡ take k text
    → drop k mid ≡ drop k old → take n new ≡ take rest mid ++ drop rest text → drop n new ≡ drop n mid
    → new ≡ text ++ drop n old
joined_ends n k rest text old mid new most half start behind end after =
    let first : take rest (take k mid) ≡ take rest mid = take-take rest k mid half in
    let of_text : take rest (take k text) ≡ take rest text = take-take rest k text half in
    let first : take rest mid ≡ take rest text = sym first ∙ (ap (take rest) start ∙ of_text) in
    let whole : take n new ≡ text = rw first at end ∙ take-append-drop rest text in
    let same : drop n new ≡ drop n old = after ∙ still_behind k n old mid behind most in
    sym (take-append-drop n new) ∙ (ap (λ (xs : List ℕ). xs ++ drop n new) whole ∙ ap (λ (xs : List ℕ). text ++ xs) same)

-- the same by what was written each time
pub ends_copied : (k : ℕ) (text old mid new : List ℕ) → k ≤ length text → length text ≤ k + k
    → (let first = take k text in take (0 + length first) mid ≡ take 0 old ++ first)
    → (let first = take k text in drop (0 + length first) mid ≡ drop (0 + length first) old)
    → (let rest = length text - k in let last = take (length text - rest) (drop rest text) in take (rest + length last) new ≡ take rest mid ++ last)
    → (let rest = length text - k in let last = take (length text - rest) (drop rest text) in drop (rest + length last) new ≡ drop (rest + length last) mid)
    → new ≡ text ++ drop (length text) old
ends_copied k text old mid new most half start behind end after =
    grind (arith, length-take-le, take_rest, length-drop, joined_ends)
