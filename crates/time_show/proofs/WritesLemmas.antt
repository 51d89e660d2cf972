-- Bytes that are written in part, and the parts of a text.
use Rattle.std.proofs.Common.{ℕ, suc, Bor, ◌≡◌, ◌≢◌, ◌<◌, ◌++◌, List, [], ◌∷◌, length, take, drop, get_or, Option, Err}
use Rattle.std.proofs.Common.{refl, ap, sym, append_assoc, arith, ◌∙◌}
use Rattle.std.proofs.Math.Seq.{drop-cons}
use Rattle.std.proofs.lemmas.Grind.{common_steps}
use Rattle.std.proofs.lemmas.List.{take-append-drop}
use Rattle.std.proofs.KnownBytes.{Appends-trans}
use Rattle.std.specs.Io.KnownBytes.{Appends}
use Rattle.time_digits.specs.Digits.{joined}
use Rattle.time_show.specs.declared.ShowError.{ShowError}
use Rattle.time_show.specs.declared.ShowError.TheVariants.{Read, Write}
use Rattle.time_show.specs.Run.{AppendsStart, Writes}

-- bytes are left after a place before the end
drop-some : (n : ℕ) (xs : List ℕ) → n < length xs → drop n xs ≢ []
drop-some n xs lt e = let len : length (drop n xs) ≡ length {A = ℕ} [] = ap length e in grind (arith, common_steps)

-- a list that begins with some bytes has some
append-some : (xs ys : List ℕ) → xs ≢ [] → xs ++ ys ≢ []
append-some [] ys some = absurd (some refl)
append-some (x ∷ xs) ys some = λ (e : x ∷ (xs ++ ys) ≡ []). cc

-- the first bytes were written, and bytes are left
pub AppendsStart-at : (a b : Option (List ℕ)) (bytes : List ℕ) (done : ℕ) → done < length bytes
    → Appends a b (take done bytes) → AppendsStart a b bytes
AppendsStart-at a b bytes done lt p = record {
  sent = take done bytes;
  missing = drop done bytes;
  went_out = p;
  in_order = sym (take-append-drop done bytes);
  unfinished = drop-some done bytes lt;
}

-- the parts of two lists, one after another
joined-append : (xs ys : List (Bor (List ℕ))) → joined (xs ++ ys) ≡ joined xs ++ joined ys
joined-append xs ys = grind (arith, common_steps, append_assoc)

-- the parts before a part, the part, and those after it
joined-at : (parts : List (Bor (List ℕ))) (i : ℕ) (d : Bor (List ℕ)) → i < length parts →
    joined parts ≡ joined (take i parts) ++ ((get_or parts i d).now ++ joined (drop (suc i) parts))
joined-at parts i d lt =
    let whole : take i parts ++ get_or parts i d ∷ drop (suc i) parts ≡ parts =
    rw (← drop-cons parts i d lt) (take-append-drop i parts) in
    sym (ap joined whole) ∙ joined-append (take i parts) (get_or parts i d ∷ drop (suc i) parts)

-- the parts up to a part were written, and a beginning of the part
AppendsStart-part : (parts : List (Bor (List ℕ))) (i : ℕ) (d : Bor (List ℕ)) (a b c : Option (List ℕ))
    → i < length parts → Appends a b (joined (take i parts)) → AppendsStart b c (get_or parts i d).now
    → AppendsStart a c (joined parts)
AppendsStart-part parts i d a b c lt p q = record {
  sent = joined (take i parts) ++ q.sent;
  missing = q.missing ++ joined (drop (suc i) parts);
  went_out = Appends-trans a b c (joined (take i parts)) q.sent p q.went_out;
  in_order = joined-at parts i d lt ∙ grind (arith, append_assoc);
  unfinished = append-some q.missing (joined (drop (suc i) parts)) q.unfinished;
}

-- the parts up to a part were written, and the write of the part failed
pub Writes-part : (e : ShowError) (parts : List (Bor (List ℕ))) (i : ℕ) (d : Bor (List ℕ)) (a b c : Option (List ℕ))
    → i < length parts → Appends a b (joined (take i parts)) → Writes (Err e) b c (get_or parts i d).now
    → Writes (Err e) a c (joined parts)
Writes-part Read parts i d a b c lt p q = q
Writes-part Write parts i d a b c lt p q = AppendsStart-part parts i d a b c lt p q
