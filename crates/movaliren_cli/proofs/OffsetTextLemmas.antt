-- Parts of an offset that have one sign.
use Rattle.std.proofs.Common.{◌≡◌, ℕ, ◌≤◌, Bool, true, false, refl, arith, Some, ap, sym, ◌∙◌, ℤ, unsigned_abs}
use Rattle.std.proofs.lemmas.Bool.Decides.{nat_tests}
use Rattle.std.proofs.lemmas.Int.{ints}
use Rattle.std.proofs.lemmas.Grind.{common_steps}
use Rattle.time_below.specs.Offset.{Offset, AreOffsetParts, settled, signed, signed_like}
use Rattle.movaliren_cli.specs.OffsetText.{offset_of_parts}

-- the size of a part
signed_size : (is_negative : Bool) (n : ℕ) → unsigned_abs (signed is_negative n) ≡ n
signed_size false n = refl
signed_size true n = grind (arith, common_steps)

-- a part keeps its sign beside a larger one of the same sign
signed_like_signed : (is_negative : Bool) (a b : ℕ)
    → signed_like (signed is_negative a) (signed is_negative b) ≡ signed is_negative b
signed_like_signed false a b = grind (arith, ints, nat_tests, common_steps)
signed_like_signed true a b = grind (arith, ints, nat_tests, common_steps, signed_size true b)

-- parts of one sign are an offset as they are
settled_of_one_sign : (is_negative : Bool) (h m s : ℕ)
    → settled (signed is_negative h) (signed is_negative m) (signed is_negative s)
    ≡ record { hours = signed is_negative h; minutes = signed is_negative m; seconds = signed is_negative s }
settled_of_one_sign n h m s =
    rw (signed_like_signed n h m, signed_like_signed n m s, signed_like_signed n h s)

-- parts in their ranges have an offset
in_range : (is_negative : Bool) (h m s : ℕ) → h ≤ 25 → m ≤ 59 → s ≤ 59
    → offset_of_parts is_negative (Some h) (Some m) (Some s) ≡ Some (record {
      hours = signed is_negative h;
      minutes = signed is_negative m;
      seconds = signed is_negative s;
    })
in_range n h m s small_h small_m small_s = grind (arith, nat_tests)

-- what is made of parts with one sign is their offset
pub made : (is_negative : Bool) (h m s : ℕ) (x y z : ℤ) (o : Offset)
    → x ≡ signed is_negative h → y ≡ signed is_negative m → z ≡ signed is_negative s
    → AreOffsetParts x y z → o ≡ settled x y z
    → Some o ≡ offset_of_parts is_negative (Some h) (Some m) (Some s)
made n h m s x y z o is_h is_m is_s parts value =
    let small_h : h ≤ 25 = omega (arith, parts.0, ap unsigned_abs is_h, signed_size n h) in
    let small_m : m ≤ 59 = omega (arith, parts.1, ap unsigned_abs is_m, signed_size n m) in
    let small_s : s ≤ 59 = omega (arith, parts.2, ap unsigned_abs is_s, signed_size n s) in
    ap Some (rw (is_h, is_m, is_s) at value ∙ settled_of_one_sign n h m s)
    ∙ sym (in_range n h m s small_h small_m small_s)
