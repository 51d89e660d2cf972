-- Texts of RFC 3339 are UTF-8.
use Rattle.std.proofs.Common.{◌≡◌, ℕ, List, IsUtf8, ap, subst}
use Rattle.time_below.specs.Moment.{OffsetDateAndTime}
use Rattle.time_fmt.specs.Outcome.{Outcome, done}
use Rattle.time_known.proofs.GuaranteeLemmas.{rfc3339_utf8}
use Rattle.time_known.specs.Rfc3339.{rfc3339_of}
use Rattle.time_known.specs.Values.{facts_of_offset_date_time}

-- a completed text
pub utf8_of_completed : (t : OffsetDateAndTime) (text : List ℕ) → rfc3339_of t ≡ done text → IsUtf8 text
utf8_of_completed t text e = subst IsUtf8 (ap (λ (o : Outcome). o.bytes) e) (rfc3339_utf8 (facts_of_offset_date_time t))
