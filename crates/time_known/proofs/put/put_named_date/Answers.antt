use Rattle.std.proofs.Common.{ℕ, List, ◌++◌, Ok, arith, append_assoc}
use Rattle.std.specs.Prelude.{codes}
use Rattle.time_digits.specs.Digits.{zero_padded}
use Rattle.time_fmt.specs.DateText.{month_name, short_name}
use Rattle.time_fmt.proofs.EndLemmas.{ends_within}
use Rattle.time_fmt.specs.Ends.{Ends}
use Rattle.time_fmt.specs.Outcome.{done}
use Rattle.time_fmt.specs.Sink.{Buffer}
use Rattle.time_known.specs.Days.{month_and_day}
use Rattle.time_known.proofs.LengthLemmas.{counted, piece, puts_then}
use Rattle.time_known.proofs.put.put_named_date.Goals as goal

-- two of three texts, put at once
regrouped : {k : ℕ} {old new : Buffer} (a b c : List ℕ) → Ends k old new (Ok tt) (done (a ++ (b ++ c)))
    → Ends k old new (Ok tt) (done ((a ++ b) ++ c))
regrouped a b c p = rw append_assoc p

pub returns : goal.returns
returns g c =
    let date = month_and_day c.args.fields.now.date in
    let day = counted (rw c.digits.ensures.day at c.write-2.ensures.writes) in
    let day_and_month = regrouped (zero_padded 2 date.day) (codes " ") (short_name (month_name date.month))
    (puts_then day (counted c.put_month_name.ensures.puts)) in
    record {
      puts = ends_within (puts_then (puts_then (counted c.fmt_weekday_short.ensures.writes) (piece c.write.ensures.writes))
          (puts_then (puts_then day_and_month (piece c.write-3.ensures.writes))
          (counted c.format_four_digits_pad_zero.ensures.writes))) (omega arith);
    }
