-- White space and comments, byte by byte.
use Rattle.std.proofs.Common.{◌≡◌, ℕ, ◌+◌, ◌<◌, List, [], ◌∷◌, ◌++◌, length, get_or, take, refl, ap, ◌∙◌}
use Rattle.std.specs.Prelude.{Option, Some, None}
use Rattle.std.specs.Option.{option_and_then}
use Rattle.std.proofs.lemmas.List.{take_more}
use Rattle.time_read.specs.Space.{after_byte, depth_after}
use Rattle.time_read.specs.declared.space.Depth.{Depth}

abbrev pub then : List ℕ → Option Depth → Option Depth
then ys o = option_and_then (λ e. depth_after e ys) o

both_at : (xs ys : List ℕ) (o : Option Depth) → ((e : Depth) → depth_after e (xs ++ ys) ≡ then ys (depth_after e xs))
    → then (xs ++ ys) o ≡ then ys (then xs o)
both_at xs ys None h = refl
both_at xs ys (Some e) h = h e

-- the depth after two texts
pub after_both : (xs ys : List ℕ) (d : Depth) → depth_after d (xs ++ ys) ≡ then ys (depth_after d xs)
unfolding depth_after
after_both [] ys d = refl
after_both (b ∷ bs) ys d = both_at bs ys (after_byte d b) (λ e. after_both bs ys e)

-- no bytes
pub after_none : (d : Depth) → depth_after d [] ≡ Some d
unfolding depth_after
after_none d = refl

-- the depth after one byte more
pub after_more : (text : List ℕ) (at : ℕ) (d start next : Depth) → at < length text → depth_after start (take at text) ≡ Some d
    → after_byte d (get_or text at 0) ≡ Some next → depth_after start (take (at + 1) text) ≡ Some next
unfolding depth_after
after_more text at d start next h p q =
    ap (depth_after start) (take_more text at 0 h) ∙ after_both (take at text) (get_or text at 0 ∷ []) start
    ∙ ap (then (get_or text at 0 ∷ [])) p ∙ ap (option_and_then (λ e. depth_after e [])) q
