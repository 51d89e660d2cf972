use Rattle.std.proofs.Common.{◌≡◌, ◌-◌, ◌∙◌, ap, sym, length, drop, false, arith}
use Rattle.line_streams.proofs.LinesLemmas.{slice-end}
use Rattle.time_lines.specs.Number.{begins, digit_count}
use Rattle.time_lines.specs.Window.{is_time_at}
use Rattle.time_lines.proofs.NumberLemmas.{begins-no_digit, first_place-past, first_place-past_run}
use Rattle.time_lines.proofs.number.number_from.Goals as goal

pub loop-at-init : goal.loop-at-init
loop-at-init c =
    let next = c.next_digit-at in
    let from = c.args.from in
    let line = c.args.line.now in
    let passes = is_time_at c.args.numbers.now c.args.line.now in
    record {
      inside = next.ensures.inside;
      start = first_place-past (begins passes line) (length line) (next.result - from) from next.result
          (omega (arith, next.ensures.after)) next.ensures.inside
          (λ k behind before. begins-no_digit passes line k (next.ensures.none k behind before));
    }

pub loop-at-preserved : goal.loop-at-preserved
loop-at-preserved c =
    let line = c.args.line.now in
    let at = c.loop-at.at in
    let next = c.next_digit-at-in-loop-at in
    let run = c.digit_count-count in
    let passes = is_time_at c.args.numbers.now c.args.line.now in
    let many : run.result ≡ digit_count (drop at line) = run.ensures.count ∙ ap digit_count (slice-end at line) in
    let none : begins passes line at ≡ false = sym c.is_number.ensures ∙ c.if-is_number.false in
    record {
      inside = next.ensures.inside;
      start = c.loop-at.invariant.start
          ∙ first_place-past_run passes line at run.result next.result many next.ensures.after next.ensures.inside none
          next.ensures.none;
    }
