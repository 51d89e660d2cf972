use Rattle.std.proofs.Common.{◌≡◌, ap, ◌∙◌, arith, unsigned_abs}
use Rattle.std.proofs.lemmas.Int.{ints}
use Rattle.std.specs.Fmt.{styled_decimal}
use Rattle.time_below.proofs.DateTextLemmas.{written_text, with_zeros, date_written}
use Rattle.time_below.proofs.date.Date.text.Goals as goal

pub returns : goal.returns
returns c =
    let size : c.unsigned_abs-size.result ≡ unsigned_abs c.args.self.year = omega (arith, ints) in
    written_text c.new-text.result c.write.new.self _ c.in_ok-write.ensures.writes c.new-text.ensures.intact c.new-text.ensures.text
    ∙ date_written c.args.self _ _ _ _ c.year_sign-sign.ensures
    (with_zeros 4 c.unsigned_abs-size.result _ _ (ap (λ options. styled_decimal options c.unsigned_abs-size.result) c.laid_out.ensures) size)
    (with_zeros 2 c.from-month.result _ _ (ap (λ options. styled_decimal options c.from-month.result) c.laid_out-2.ensures) (c.from-month.ensures.value ∙ c.to_calendar_date-year.ensures.month))
    (with_zeros 2 c.to_calendar_date-year.result.2 _ _ (ap (λ options. styled_decimal options c.to_calendar_date-year.result.2) c.laid_out-3.ensures) c.to_calendar_date-year.ensures.day)
