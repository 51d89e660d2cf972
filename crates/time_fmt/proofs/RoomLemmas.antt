-- A text at the start of a buffer, and what follows it.
use Rattle.std.proofs.Common.{◌≡◌, ℕ, ◌+◌, ◌-◌, ◌<◌, ◌≤◌, List, ◌++◌, length, take, drop, sym, ap, ◌∙◌, arith}
use Rattle.std.proofs.lemmas.List.{take-append-drop, drop-drop}
use Rattle.std.proofs.lemmas.Slice.{take-put_mid, drop-put_mid}
use Rattle.std.proofs.lemmas.Grind.{common_steps}

-- what follows the text is as it was before; of an empty buffer nothing does
pub room_written : (n : ℕ) (old now bytes : List ℕ) → bytes ≡ take n now → n ≡ length bytes → length now ≡ length old
    → (0 < length now → drop n now ≡ drop n old) → now ≡ bytes ++ drop (length bytes) old
room_written n old now bytes h k l p = grind (arith, common_steps, take-append-drop)

-- bytes that are written over others
pub ruleset written_over = (take-put_mid, drop-put_mid, drop-drop)

-- what is unchanged from a place on is unchanged from a later one on
pub still_behind : (m n : ℕ) (old new : List ℕ) → drop m new ≡ drop m old → m ≤ n → drop n new ≡ drop n old
still_behind m n old new same later =
    let at : m + (n - m) ≡ n = omega arith in
    let there : drop (n - m) (drop m new) ≡ drop n new = rw at at (drop-drop (n - m) m new) in
    let before : drop (n - m) (drop m old) ≡ drop n old = rw at at (drop-drop (n - m) m old) in
    sym there ∙ (ap (drop (n - m)) same ∙ before)
