-- Texts of descriptions at the front of others.
use Rattle.std.proofs.Common.{ℕ, ◌≡◌, ◌+◌, ◌-◌, ◌<◌, ◌≤◌, ◌∙◌, List, [], ◌∷◌, ◌++◌, Option, Some, None, inl, inr, length, take, sym, ap, subst, arith}
use Rattle.std.specs.Prelude.{IfSome}
use Rattle.std.proofs.Math.Seq.{take-append_seam}
use Rattle.std.proofs.lemmas.Bool.{cases_lt}
use Rattle.std.proofs.lemmas.List.{length-append}
use Rattle.time_below.specs.Moment.{DateAndTime, Moment}
use Rattle.time_fmt.specs.Outcome.{Outcome, done}
use Rattle.time_lines.specs.Described.{IsFront, NoPastBefore, NoPastIn, ReadsOneOf, tried_year}
use Rattle.time_lines.specs.declared.described.FormRow.{FormRow}
use Rattle.time_lines.specs.declared.front.Front.{Front}
use Rattle.time_lines.specs.declared.until.Until.{Until}
use Rattle.time_lines.specs.declared.until.Years.{Years}
use Rattle.time_read.specs.Described.{BeginsWith}

-- the text before the rest has the bytes that the rest does not have
pub front_before : (outcome : Outcome) (text rest : List ℕ) → BeginsWith outcome text rest
    → IsFront outcome text (length text - length rest)
front_before outcome text rest h =
    let whole : length text ≡ length h.front + length rest = ap length h.parts ∙ length-append h.front rest in
    let count : length text - length rest ≡ length h.front = omega (arith, whole) in
    let same : take (length text - length rest) text ≡ h.front =
    ap (λ n. take n text) count ∙ ap (take (length h.front)) h.parts ∙ take-append_seam h.front rest in
    (omega (arith, whole), h.is ∙ ap done (sym same))

-- a text that is read lies in the one that it begins
pub one_of_inside : (at : DateAndTime → Option Moment → Type 0) (years : Years) (rows : List FormRow) (text : List ℕ)
    (front : Front) → ReadsOneOf at years rows text front → front.count ≤ length text
one_of_inside at years [] text front h = absurd h
one_of_inside at years (row ∷ rows) text front (inl h) = subst (λ n. n ≤ length text) (sym h.4.count) h.3
one_of_inside at years (row ∷ rows) text front (inr h) = one_of_inside at years rows text front h

pub found_inside : (at : DateAndTime → Option Moment → Type 0) (years : Years) (rows : List FormRow) (text : List ℕ)
    (found : Option Front) → IfSome found (ReadsOneOf at years rows text) → IfSome found (λ front. front.count ≤ length text)
found_inside at years rows text None h = h
found_inside at years rows text (Some front) h = one_of_inside at years rows text front h

-- there is none in this year either
pub no_past_before_next : (at : DateAndTime → Option Moment → Type 0) (until : Until) (t : DateAndTime) (bound : ℕ)
    → NoPastBefore at until t bound → NoPastIn at until.second (tried_year until bound) t
    → NoPastBefore at until t (bound + 1)
no_past_before_next at until t bound before here back lt = elim (cases_lt back bound) [
  | inl less ↦ before back less
  | inr more ↦
      let same : back ≡ bound = omega (arith, lt, more) in
      subst (λ n. NoPastIn at until.second (tried_year until n) t) (sym same) here
]
