use Rattle.std.proofs.Common.{◌≡◌, ◌+◌, ◌<◌, ◌∙◌, ap, get_or, length, false, arith}
use Rattle.std.specs.Char.{is_ascii_digit}
use Rattle.line_streams.proofs.LinesLemmas.{slice-end}
use Rattle.time_lines.specs.Number.{decimals_of}
use Rattle.time_lines.specs.Read.{tail_length, text_length}
use Rattle.time_lines.proofs.ReadLemmas.{no_text_digit, no_text_long, no_text_refused, no_text_short}
use Rattle.time_lines.proofs.read.text_here.Goals as goal

pub returns-then-text-lt20-clause-none : goal.returns-then-text-lt20-clause-none
returns-then-text-lt20-clause-none c = no_text_short c.args.text.now c.if-text-lt20.true

pub returns-then-not-is_ascii_digit-clause-none : goal.returns-then-not-is_ascii_digit-clause-none
returns-then-not-is_ascii_digit-clause-none c =
    let other : is_ascii_digit (get_or c.args.text.now 0 0) ≡ false = grind arith in
    no_text_digit c.args.text.now other

pub returns-then-count-text-clause-none : goal.returns-then-count-text-clause-none
returns-then-count-text-clause-none c =
    let told : 19 + c.tail_length-count.result ≡ text_length c.args.text.now =
    ap (λ n. 19 + n) (c.tail_length-count.ensures.value ∙ ap tail_length (slice-end 19 c.args.text.now)) in
    let long : length c.args.text.now < 19 + c.tail_length-count.result = omega arith in
    no_text_long c.args.text.now (omega (arith, told, long))

pub returns-in-Err-clause-none : goal.returns-in-Err-clause-none
returns-in-Err-clause-none c =
    let told : 19 + c.tail_length-count.result ≡ text_length c.args.text.now =
    ap (λ n. 19 + n) (c.tail_length-count.ensures.value ∙ ap tail_length (slice-end 19 c.args.text.now)) in
    no_text_refused c.args.text.now (19 + c.tail_length-count.result) told c.in-Err.ensures.refused

pub returns-in-Ok-clause-decimals : goal.returns-in-Ok-clause-decimals
returns-in-Ok-clause-decimals c =
    ap length (c.decimals_of.ensures.decimals ∙ ap decimals_of (slice-end 19 c.args.text.now))
