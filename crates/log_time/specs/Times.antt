-- The texts of moments in the lines of a log.
use Rattle.std.specs.Prelude.{◌≡◌, ℕ, List, Option, None, Some}
use Rattle.jiff_tz.specs.declared.timezone.TimeZone.{TimeZone}
use Rattle.time_below.specs.Moment.{Moment, local_at}
use Rattle.time_below.specs.Offset.{Offset}
use Rattle.time_fmt.specs.Outcome.{Outcome}
use Rattle.time_jiff.specs.Clock.{HasOffset}
use Rattle.log_time.specs.declared.log_time.Decimals.{Decimals}
use Rattle.log_time.specs.LogText.{log_outcome}

-- the text of an outcome that is not refused
abbrev pub text_of : Outcome → Option (List ℕ)
text_of outcome = elim outcome.refusal [
  | None ↦ Some outcome.bytes
  | Some refusal ↦ None
]

-- what a moment has in the lines of a log at one offset: its text, or none where that is refused
abbrev pub IsTimeAt : Decimals → Offset → Moment → Option (List ℕ) → Type 0
IsTimeAt d o m text = text ≡ text_of (log_outcome d (local_at m o))

-- the same by the clock of a zone, at an offset that it may have at the moment
abbrev pub IsTimeIn : TimeZone → Decimals → Moment → Option (List ℕ) → Type 0
IsTimeIn zone d m text = (o : Offset) × HasOffset zone m.seconds o × IsTimeAt d o m text
