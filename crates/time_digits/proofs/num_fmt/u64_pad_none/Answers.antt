use Rattle.std.proofs.Common.{◌≡◌, ℕ, ◌≤◌, ◌/◌, ◌∙◌, subst, ap, length, drop, decimal, refl, arith, IsAscii}
use Rattle.std.proofs.lemmas.Fmt.{IsAscii-decimal, decimal_nonempty}
use Rattle.std.proofs.lemmas.Grind.{common_steps}
use Rattle.time_digits.proofs.TurnLemmas.{IsPending, nothing_written, places_left, more_written, last_place}
use Rattle.time_digits.proofs.TurnLemmas.{all_written, no_digit_left}
use Rattle.time_digits.proofs.num_fmt.u64_pad_none.Goals as goal
use Rattle.time_digits.proofs.num_fmt.u64_pad_none.Goals.{Joined-rest-gt9, Joined-rest-ne0, then-rest-gt9}
use Rattle.time_digits.proofs.num_fmt.u64_pad_none.Goals.{else-rest-gt9, then-rest-ne0, else-rest-ne0+else-value-eq0}

pub loop-rest-init : goal.loop-rest-init
loop-rest-init c = nothing_written c.args.value _ c.ranges.value.fits refl

pub overflow_sub-start : goal.overflow_sub-start
overflow_sub-start c =
    let l = c.loop-rest in
    places_left 3 c.args.value l.rest l.start l.bytes l.invariant c.loop-rest-test.true l.auto.rest-fits.fits

pub loop-rest-preserved : goal.loop-rest-preserved
loop-rest-preserved c =
    let l = c.loop-rest in
    more_written 3 c.args.value l.rest l.start l.bytes c.write_four_digits.new.buf l.invariant c.loop-rest-test.true
    l.auto.rest-fits.fits (grind (arith, common_steps))

pub overflow_sub-start-then-rest-gt9 : goal.overflow_sub-start-then-rest-gt9
overflow_sub-start-then-rest-gt9 c =
    let l = c.loop-rest in
    places_left 1 c.args.value l.rest l.start l.bytes l.invariant c.if-rest-gt9.true l.auto.rest-fits.fits

-- at most one digit is left after the pair, if there is one
one_left : (c : Joined-rest-gt9) → IsPending c.args.value c.if-rest-gt9.rest c.if-rest-gt9.start c.if-rest-gt9.bytes
    × (c.if-rest-gt9.rest ≤ 9)
one_left c =
    let l = c.loop-rest in
    elim c.if-rest-gt9.branch [
      | then-rest-gt9 w ↦
          let written = more_written 1 c.args.value l.rest l.start l.bytes w.write_two_digits.new.buf l.invariant
          w.if-rest-gt9.true l.auto.rest-fits.fits (grind (arith, common_steps)) in
          let quotient : c.if-rest-gt9.rest ≡ l.rest / 100 = grind (arith, common_steps) in
          (rw (w.bytes-is, w.start-is, quotient) written, omega arith)
      | else-rest-gt9 w ↦ (rw (w.bytes-is, w.start-is, w.rest-is) l.invariant, omega arith)
    ]

pub overflow_sub-start-then-rest-ne0 : goal.overflow_sub-start-then-rest-ne0
overflow_sub-start-then-rest-ne0 c =
    let left = one_left (goal.at.overflow_sub-start-then-rest-ne0 c).Joined-rest-gt9 in
    last_place c.args.value c.if-rest-gt9.rest c.if-rest-gt9.start c.if-rest-gt9.bytes left.0 left.1
    c.then-rest-ne0.either

-- all digits are written with the first one, if there is one
all_digits_written : (c : Joined-rest-ne0) → (drop c.if-rest-ne0.start c.if-rest-ne0.bytes ≡ decimal c.args.value)
    × (c.if-rest-ne0.start ≤ 20)
all_digits_written c =
    let j = c.if-rest-gt9 in
    let left = one_left c.before in
    let within = left.0.within in
    elim c.if-rest-ne0.branch [
      | then-rest-ne0 w ↦ (
        rw (w.bytes-is, w.start-is) (all_written c.args.value j.rest j.start j.bytes w.write_one_digit.new.buf left.0
            left.1 w.then-rest-ne0.either (grind (arith, common_steps))),
        omega arith,
      )
      | else-rest-ne0+else-value-eq0 w ↦
          let P : ℕ → Type 0 = λ r. IsPending c.args.value r j.start j.bytes in (
            rw (w.bytes-is, w.start-is) (no_digit_left c.args.value j.start j.bytes (subst P w.if-rest-ne0.false left.0)
                (omega arith)),
            omega arith,
          )
    ]

pub new-requires : goal.new-requires
new-requires c =
    let all = all_digits_written (goal.at.new-requires c).Joined-rest-ne0 in
    let ascii : IsAscii (drop c.if-rest-ne0.start c.if-rest-ne0.bytes) =
    rw all.0 (IsAscii-decimal c.args.value c.ranges.value.fits) in
    (omega arith, (omega arith, (all.1, ascii)))

pub returns-clause-text : goal.returns-clause-text
returns-clause-text c =
    let all = all_digits_written (goal.at.returns-clause-text c).Joined-rest-ne0 in
    c.new.ensures ∙ all.0

pub returns-clause-some : goal.returns-clause-some
returns-clause-some c =
    let all = all_digits_written (goal.at.returns-clause-some c).Joined-rest-ne0 in
    omega (arith, ap length (c.new.ensures ∙ all.0), decimal_nonempty c.args.value c.ranges.value.fits)
