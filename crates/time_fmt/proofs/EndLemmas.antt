-- How a text of the engine ends: by the text or the refusal of a component, and as the answer of a public call.
use Rattle.std.proofs.Common.{◌≡◌, ◌∙◌, ap, arith, append_assoc, length-append, ℕ, ◌+◌, ◌-◌, ◌++◌, ◌≤◌, List, length, Result, Ok, Err, Vec, vec_len}
use Rattle.std.proofs.lemmas.List.{append-nil}
use Rattle.std.specs.Global.{Global}
use Rattle.time_fmt.specs.declared.error.Format.{Format}
use Rattle.time_fmt.specs.declared.refused.Refused.{Refused}
use Rattle.time_fmt.specs.Ends.{Ends, refusal_of}
use Rattle.time_fmt.specs.Outcome.{Outcome, Names, Appends, done, refused}
use Rattle.time_fmt.specs.Sink.{Buffer, Puts, vec_buffer}

-- what ends within a width ends within a greater one
pub ends_within : {width greatest : ℕ} {answer : Result Unit Refused} {o : Outcome} {old new : Buffer}
    → Ends width old new answer o → width ≤ greatest → Ends greatest old new answer o
ends_within ends fits = grind arith

-- a text behind another
pub put_behind : {n m : ℕ} {a b text : List ℕ} {old mid new : Buffer} → Puts old mid n a → Puts mid new m b
    → a ++ b ≡ text → Puts old new (n + m) text
put_behind {a = a} {b = b} {old = old} first second is = record {
  appended = second.appended ∙ ap (λ bytes. bytes ++ b) first.appended ∙ append_assoc old.bytes a b
      ∙ ap (λ bytes. old.bytes ++ bytes) is;
  counted = omega (arith, first.counted, second.counted, length-append a b, ap length is);
  grown = omega (arith, first.grown, second.grown, length-append a b, ap length is);
  block = second.block ∙ first.block;
}

-- a text that was written ends complete
pub whole_text : {width n : ℕ} {text : List ℕ} {old new : Buffer} → Puts old new n text → length text ≤ width
    → Ends width old new (Ok tt) (done text)
whole_text w h = grind arith

-- what is refused has no bytes
pub ends_refused : {width : ℕ} (output : Buffer) (r : Refused)
    → Ends width output output (Err r) (refused (refusal_of r))
ends_refused output r = grind (arith, append-nil)

-- ---- what a public call answers

-- a text without a refusal is answered by its number of bytes
pub complete : {width : ℕ} {o : Outcome} {u : Unit} (old new : Vec ℕ Global)
    → Ends width (vec_buffer old) (vec_buffer new) (Ok u) o → Appends old new (Ok (vec_len new - vec_len old)) o
complete old new ends = grind arith

-- one with a refusal by the error of that name
pub stopped : {width : ℕ} {o : Outcome} {reason : Refused} (error : Format) (old new : Vec ℕ Global)
    → Ends width (vec_buffer old) (vec_buffer new) (Err reason) o → Names error (refusal_of reason) → Appends old new (Err error) o
stopped error old new ends names = grind arith

pub ruleset answered = (complete, stopped)
