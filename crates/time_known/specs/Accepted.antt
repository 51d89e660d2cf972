-- What of a value a format has no place for.
use Rattle.std.specs.Prelude.{ℕ, ℤ, List, codes, nat_lt}
use Rattle.time_fmt.specs.Outcome.{Outcome, done}
use Rattle.time_known.specs.WellKnown.{refused_if, is_outside}

-- the text, if the year is from the first to 9,999, and the offset has at most this many hours and no seconds
abbrev pub checked_text : ℕ → ℕ → ℤ → ℕ → ℕ → List ℕ → Outcome
checked_text first greatest_hour year hour second text =
    refused_if (is_outside first 9_999 year) (codes "year")
    (refused_if (nat_lt greatest_hour hour) (codes "offset_hour")
    (refused_if (nat_lt 0 second) (codes "offset_second") (done text)))
