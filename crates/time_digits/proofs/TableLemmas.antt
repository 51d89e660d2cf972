-- Constant tables.
use Rattle.std.proofs.Common.{◌≡◌, ℕ, ◌<◌, ◌≤◌, List, [], map, nat_lt, true, get_or, sym, ap, ◌∙◌, arith, IsAscii}
use Rattle.std.proofs.Common.{IsTrue, IsCharBoundary, length}
use Rattle.std.proofs.lemmas.List.FromFn.{get_or-map-range_with_len}
use Rattle.std.proofs.lemmas.Str.Ascii.{IsAscii-from_all}
use Rattle.std.proofs.lemmas.Str.{IsCharBoundary-from_ascii}
use Rattle.std.proofs.lemmas.Bool.{ltb-true}
use Rattle.std.proofs.lemmas.List.Sums.{AllPass-from_list_all}
use Rattle.std.proofs.lemmas.List.Elements.{All-weaker}
use Rattle.std.specs.List.{range_with_len, list_all}
use Rattle.time_digits.specs.Digits.{is_ascii}

-- two functions that agree on a list of all numbers below n agree at each
pub same_below : (f g : ℕ → List ℕ) (n : ℕ) → map f (range_with_len 0 n) ≡ map g (range_with_len 0 n) → (i : ℕ) → i < n
    → f i ≡ g i
same_below f g n e i h =
    sym (get_or-map-range_with_len f 0 n i i [] h (omega arith))
    ∙ ap (λ t. get_or t i []) e ∙ get_or-map-range_with_len g 0 n i i [] h (omega arith)

-- the test says that the bytes are ASCII
pub ascii_test : (bs : List ℕ) → list_all (λ b. nat_lt b 128) bs ≡ true → IsAscii bs
ascii_test bs h = grind (arith, IsAscii-from_all, All-weaker, ltb-true, AllPass-from_list_all)

-- an ASCII text may be cut at any place
pub ascii_boundary : (bs : List ℕ) (i : ℕ) → IsTrue (is_ascii bs) → i ≤ length bs → IsCharBoundary bs i
ascii_boundary bs i h = IsCharBoundary-from_ascii bs i (ascii_test bs h)
