-- Outcomes: bytes, and perhaps a refusal after them.
use Rattle.std.specs.Prelude.{ℕ, ◌≡◌, ◌+◌, ◌≤◌, Bool, true, false, List, [], ◌++◌, length, Option, Some, None}
use Rattle.std.specs.Prelude.{Result, Err, IfOk, IfErr, IsSomeAnd}
use Rattle.std.specs.Prelude.{vec_len, vec_capacity, Vec}
use Rattle.std.specs.Global.{Global}
use Rattle.time_below.specs.ComponentRange.{RangeRefusal, range_refusal}
use Rattle.time_fmt.specs.declared.error.Format.{Format}
use Rattle.time_fmt.specs.declared.error.Format.TheVariants as error

-- what a description may refuse; being out of memory is no refusal
pub data Refusal : Type 0 where
  insufficient : Refusal
  invalid_component : List ℕ → Refusal
  out_of_range : RangeRefusal → Refusal

-- the error that names a refusal
abbrev pub Names : Format → Refusal → Type 0
Names error.InsufficientTypeInformation insufficient = Unit {0}
Names (error.InvalidComponent name) (invalid_component component) = name.now ≡ component
Names (error.ComponentRange range) (out_of_range refusal) = range_refusal range ≡ refusal
Names e r = ⊥

-- whether the error is that memory was refused
abbrev pub is_out_of_memory : Result ℕ Format → Bool
is_out_of_memory (Err error.OutOfMemory) = true
is_out_of_memory answer = false

pub record Outcome : Type 0 where
  pub bytes : List ℕ
  pub refusal : Option Refusal

abbrev pub done : List ℕ → Outcome
done text = record { bytes = text; refusal = None }

abbrev pub refused : Refusal → Outcome
refused r = record { bytes = []; refusal = Some r }

-- one after the other: nothing follows a refusal
abbrev pub join : Outcome → Outcome → Outcome
join a b = elim a.refusal [
  | None ↦ record { bytes = a.bytes ++ b.bytes; refusal = b.refusal }
  | Some r ↦ a
]

-- The bytes of the outcome are appended. The answer is their number, or names the refusal. The capacity is unchanged,
-- so that the spare capacity shrinks by the bytes appended.
pub record Appends (old new : Vec ℕ Global) (answer : Result ℕ Format) (o : Outcome) : Type 0 where
  pub appended : new.items ≡ old.items ++ o.bytes
  pub counted : IfOk answer (λ n. (o.refusal ≡ None) × (n ≡ length o.bytes))
  pub named : IfErr answer (λ e. IsSomeAnd o.refusal (Names e))
  pub grown : vec_len new ≡ vec_len old + length o.bytes
  pub capacity : vec_capacity new ≡ vec_capacity old

-- the bytes of the outcome are appended, and are at most this many
pub record AppendsUpTo (width : ℕ) (old new : Vec ℕ Global) (answer : Result ℕ Format) (o : Outcome) : Type 0 where
  pub appends : Appends old new answer o
  pub within : vec_len new ≤ vec_len old + width

-- the bytes of the outcome are appended, and the capacity may change
pub record Adds (old new : Vec ℕ Global) (answer : Result ℕ Format) (o : Outcome) : Type 0 where
  pub appended : new.items ≡ old.items ++ o.bytes
  pub counted : IfOk answer (λ n. (o.refusal ≡ None) × (n ≡ length o.bytes))
  pub named : IfErr answer (λ e. IsSomeAnd o.refusal (Names e))
  pub grown : vec_len new ≡ vec_len old + length o.bytes
