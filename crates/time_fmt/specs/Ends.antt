-- How a text of the engine ends.
use Rattle.std.specs.Prelude.{ℕ, ◌≡◌, ◌+◌, ◌≤◌, ◌++◌, length, Option, Some, None, Result, Ok, Err, codes}
use Rattle.time_below.specs.ComponentRange.{conditional_range}
use Rattle.time_fmt.specs.Outcome.{Outcome, Refusal, insufficient, invalid_component, out_of_range}
use Rattle.time_fmt.specs.Sink.{Buffer}
use Rattle.time_fmt.specs.declared.refused.Refused.{Refused}
use Rattle.time_fmt.specs.declared.refused.Refused.TheVariants as refused

-- what is refused
abbrev pub refusal_of : Refused → Refusal
refusal_of refused.Unsupplied = insufficient
refusal_of refused.YearOutOfRange = out_of_range (conditional_range (codes "year"))
refusal_of refused.InvalidYear = invalid_component (codes "year")
refusal_of refused.InvalidOffsetHour = invalid_component (codes "offset_hour")
refusal_of refused.InvalidOffsetMinute = invalid_component (codes "offset_minute")
refusal_of refused.InvalidOffsetSecond = invalid_component (codes "offset_second")

-- the refusal of an answer, if there is one
abbrev pub refusal_in : Result Unit Refused → Option Refusal
refusal_in (Ok u) = None
refusal_in (Err reason) = Some (refusal_of reason)

-- The bytes of the outcome are appended, and are at most this many. The answer has the refusal of the outcome. The
-- block is unchanged.
pub record Ends (width : ℕ) (old new : Buffer) (answer : Result Unit Refused) (o : Outcome) : Type 0 where
  pub appended : new.bytes ≡ old.bytes ++ o.bytes
  pub refusal : refusal_in answer ≡ o.refusal
  pub grown : new.len ≡ old.len + length o.bytes
  pub block : new.block ≡ old.block
  pub within : new.len ≤ old.len + width
