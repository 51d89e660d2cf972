-- What holds of each branch holds of a choice.
use Rattle.std.proofs.Common.{◌≡◌, Bool, true, false, cond, Result, Ok, Err, refl}
use Rattle.time_describe.specs.declared.brackets.reason.BracketReason.{BracketReason}
use Rattle.time_describe.specs.declared.fault.Fault.{Fault}
use Rattle.time_describe.specs.Reading.{◌>>=◌}

pub by_test : {A : Type 0} (P : A → Type 0) (t : Bool) (x y : A) → (t ≡ true → P x) → (t ≡ false → P y) → P (cond t x y)
by_test P true x y h g = h refl
by_test P false x y h g = g refl

pub by_result : {A B : Type 0} (P : Result B (Fault BracketReason) → Type 0) (r : Result A (Fault BracketReason)) (f : A → Result B (Fault BracketReason)) → ((x : A) → r ≡ Ok x → P (f x)) → ((e : Fault BracketReason) → r ≡ Err e → P (Err e)) → P (r >>= f)
by_result P (Ok x) f h g = h x refl
by_result P (Err e) f h g = g e refl
