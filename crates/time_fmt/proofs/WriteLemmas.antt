-- Texts that were written one after another are one text, and one text is what an outcome appends; so are
-- outcomes.
use Rattle.std.proofs.Common.{◌≡◌, ℕ, ◌+◌, ◌-◌, ◌++◌, length-append, append_assoc, refl, ap, arith, List, [], Option, Some, None}
use Rattle.std.proofs.Common.{IsSomeAnd, Result, Ok, Err, Vec, vec_len}
use Rattle.std.specs.Global.{Global}
use Rattle.std.proofs.lemmas.List.{append-nil}
use Rattle.time_fmt.specs.declared.error.Format.{Format}
use Rattle.time_fmt.specs.Outcome.{Outcome, Refusal, Appends, Adds, done, join}
use Rattle.std.proofs.lemmas.Grind.{common_steps}

-- an outcome is added if it is appended after a reservation
pub adds_after_room : {answer : Result ℕ Format} {o : Outcome} (old mid new : Vec ℕ Global) → mid.items ≡ old.items
    → vec_len mid ≡ vec_len old → Appends mid new answer o → Adds old new answer o
adds_after_room old mid new items len appends = grind arith

-- what is appended is as long as what the vector has grown by
pub counted_by_length : {count : ℕ} {o : Outcome} {old new : Vec ℕ Global} (begin end : ℕ) → Appends old new (Ok count) o
    → begin ≡ vec_len old → end ≡ vec_len new → Appends old new (Ok (end - begin)) o
counted_by_length begin end appends from to = grind arith

-- a refusal that is named is there
pub some_of : (P : Refusal → Type 0) (x : Option Refusal) → IsSomeAnd x P → (r : Refusal) × (x ≡ Some r)
some_of P x h = grind (arith, common_steps)

-- nothing follows what is refused
pub join_refused : (a b : Outcome) (r : Refusal) → a.refusal ≡ Some r → join a b ≡ a
join_refused a b r h = rw h refl

-- what follows is joined to what is completed
pub join_done : (a b : Outcome) → a.refusal ≡ None
    → join a b ≡ record { bytes = a.bytes ++ b.bytes; refusal = b.refusal }
join_done a b h = rw h refl

-- joining outcomes is associative
regrouped : (x : List ℕ) (r : Option Refusal) (y : List ℕ) (s : Option Refusal) (c : Outcome)
    → join (join (record { bytes = x; refusal = r }) (record { bytes = y; refusal = s })) c
    ≡ join (record { bytes = x; refusal = r }) (join (record { bytes = y; refusal = s }) c)
regrouped x (Some r) y s c = refl
regrouped x None y (Some s) c = refl
regrouped x None y None c = ap (λ (bs : List ℕ). record { bytes = bs; refusal = c.refusal }) (append_assoc x y c.bytes)

pub join_assoc : (a b c : Outcome) → join (join a b) c ≡ join a (join b c)
join_assoc a b c = regrouped a.bytes a.refusal b.bytes b.refusal c

nothing_behind : (x : List ℕ) (r : Option Refusal)
    → join (record { bytes = x; refusal = r }) (done []) ≡ record { bytes = x; refusal = r }
nothing_behind x (Some r) = refl
nothing_behind x None = ap (λ (bs : List ℕ). record { bytes = bs; refusal = None }) (append-nil x)

-- nothing changes an outcome behind it
pub join_nothing : (a : Outcome) → join a (done []) ≡ a
join_nothing a = nothing_behind a.bytes a.refusal

-- a refusal of the first of two outcomes is that of both
pub appends_first : {old new : Vec ℕ Global} {e : Format} (a b : Outcome) → Appends old new (Err e) a
    → Appends old new (Err e) (join a b)
appends_first a b first = grind (arith, some_of, join_refused)

-- both are completed
pub appends_both : {old mid new : Vec ℕ Global} {m n : ℕ} (a b : Outcome) → Appends old mid (Ok m) a
    → Appends mid new (Ok n) b
    → Appends old new (Ok (m + n)) (join a b)
appends_both a b first second = grind (arith, join_done, append_assoc, length-append)

-- the second is refused
pub appends_second : {old mid new : Vec ℕ Global} {m : ℕ} {e : Format} (a b : Outcome) → Appends old mid (Ok m) a
    → Appends mid new (Err e) b
    → Appends old new (Err e) (join a b)
appends_second a b first second = grind (arith, join_done, append_assoc, length-append)
