use Rattle.std.proofs.Common.{◌<◌, ◌∙◌, sym, get_or, length, take, subst, arith}
use Rattle.std.proofs.lemmas.Int.Digits.{digits_more}
use Rattle.std.proofs.lemmas.List.{get_or-take, length-take, take-take}
use Rattle.std.proofs.lemmas.Str.{digit_value_digit}
use Rattle.std.proofs.lemmas.Str.Parse.{digit_at}
use Rattle.std.specs.Str.Parse.{AllDigits}
use Rattle.time_read.proofs.EightLemmas.{digit_range, range_digit}
use Rattle.time_read.proofs.Fractions.{digits-take}
use Rattle.time_read.proofs.decimals.are_nine.Goals as goal

pub returns-then-are_eight : goal.returns-then-are_eight
returns-then-are_eight c =
    let text = c.args.text.now in (
      λ h.
          let range = digit_range (get_or text 8 0) (sym c.is_ascii_digit.ensures.value ∙ h) in
          let value = digit_value_digit (get_or text 8 0) range in
          digits_more 10 text 8 (omega (arith, c.requires)) (c.are_eight.ensures.0 c.if-are_eight.true) (omega (arith, range, value)),
      λ all.
          let ninth : 8 < length (take 9 text) = omega (arith, length-take 9 text, c.requires) in
          let range = digit_at (take 9 text) 8 all ninth in
          c.is_ascii_digit.ensures.value ∙ range_digit (get_or text 8 0) (rw (get_or-take 9 text 8 0 (omega arith)) at range),
    )

pub returns-else-are_eight : goal.returns-else-are_eight
returns-else-are_eight c =
    let text = c.args.text.now in (
      λ h. let no : ⊥ = cc in absurd no,
      λ all.
          let first = subst (AllDigits 10) (take-take 8 9 text (omega arith)) (digits-take 8 (take 9 text) all) in
          let is_eight = c.are_eight.ensures.1 first in
          let no : ⊥ = cc in
          absurd no,
    )
