-- The result of a call.
use Rattle.std.specs.Prelude.{◌≡◌, ◌≢◌, ◌<◌, ◌++◌, ◌⊎◌, ℕ, ℤ, pos, neg_ℤ, List, length, drop, codes, None, Result, Ok}
use Rattle.std.specs.Prelude.{Err, IsSomeAnd, MatchResult}
use Rattle.movaliren_c.specs.Value.{with_value}
use Rattle.movaliren_c.specs.declared.answers.reason.Reason.{Reason}
use Rattle.movaliren_c.specs.declared.answers.reason.Reason.TheVariants as reason
use Rattle.time_fmt.specs.Outcome.{Outcome, Refusal, insufficient, invalid_component, out_of_range}
use Rattle.time_fmt.specs.declared.error.Format.{Format}
use Rattle.time_fmt.specs.declared.error.Format.TheVariants as error

-- ---- numbers

-- the number of each reason
abbrev pub reason_number : Reason → ℤ
reason_number reason.Year = neg_ℤ (pos 1)
reason_number reason.Month = neg_ℤ (pos 2)
reason_number reason.Day = neg_ℤ (pos 3)
reason_number reason.Hour = neg_ℤ (pos 4)
reason_number reason.Minute = neg_ℤ (pos 5)
reason_number reason.Second = neg_ℤ (pos 6)
reason_number reason.Nanosecond = neg_ℤ (pos 7)
reason_number reason.OffsetHours = neg_ℤ (pos 8)
reason_number reason.OffsetMinutes = neg_ℤ (pos 9)
reason_number reason.OffsetSeconds = neg_ℤ (pos 10)
reason_number reason.MomentSeconds = neg_ℤ (pos 11)
reason_number reason.FormatYear = neg_ℤ (pos 12)
reason_number reason.FormatOffsetHour = neg_ℤ (pos 13)
reason_number reason.FormatOffsetMinute = neg_ℤ (pos 14)
reason_number reason.FormatOffsetSecond = neg_ℤ (pos 15)
reason_number reason.Insufficient = neg_ℤ (pos 16)
reason_number reason.OutOfRange = neg_ℤ (pos 17)
reason_number reason.BadConfig = neg_ℤ (pos 18)
reason_number reason.BadItem = neg_ℤ (pos 19)
reason_number reason.BufferTooSmall = neg_ℤ (pos 20)
reason_number reason.OutOfMemory = neg_ℤ (pos 21)
reason_number reason.Other = neg_ℤ (pos 22)
reason_number reason.NotRead = neg_ℤ (pos 23)
reason_number reason.BadDescription = neg_ℤ (pos 24)
reason_number reason.ManyItems = neg_ℤ (pos 25)
reason_number reason.Undetermined = neg_ℤ (pos 26)

-- a count, or the number of a reason
abbrev pub answer_number : Result ℕ Reason → ℤ
answer_number (Ok n) = pos n
answer_number (Err r) = reason_number r

-- the number of a result of which this holds
abbrev pub Answers : ℤ → (Result ℕ Reason → Type 0) → Type 0
Answers number P = (answer : Result ℕ Reason) × (number ≡ answer_number answer) × P answer

-- each number is that of one result: a count, or one reason
abbrev pub NumbersAreToldApart : Type 0
NumbersAreToldApart = (a b : Result ℕ Reason) → answer_number a ≡ answer_number b → a ≡ b

-- ---- reasons

-- the reason for a refusal of a definition, by the name of the component that is refused
abbrev pub Refuses : Reason → Refusal → Type 0
Refuses reason.FormatYear (invalid_component name) = name ≡ codes "year"
Refuses reason.FormatOffsetHour (invalid_component name) = name ≡ codes "offset_hour"
Refuses reason.FormatOffsetMinute (invalid_component name) = name ≡ codes "offset_minute"
Refuses reason.FormatOffsetSecond (invalid_component name) = name ≡ codes "offset_second"
Refuses reason.Other (invalid_component name) =
    (name ≢ codes "year") × (name ≢ codes "offset_hour") × (name ≢ codes "offset_minute") × (name ≢
    codes "offset_second")
Refuses reason.Insufficient insufficient = Unit {0}
Refuses reason.OutOfRange (out_of_range range) = Unit {0}
Refuses r refusal = ⊥

-- the reason is that of the refusal that the outcome ends in
abbrev pub IsRefusedFor : Reason → Outcome → Type 0
IsRefusedFor r o = IsSomeAnd o.refusal (Refuses r)

-- the reason of an error: of each refusal that it names, or out of memory
abbrev pub IsReasonFor : Reason → Format → Type 0
IsReasonFor r error.InsufficientTypeInformation = r ≡ reason.Insufficient
IsReasonFor r (error.ComponentRange range) = r ≡ reason.OutOfRange
IsReasonFor r error.OutOfMemory = r ≡ reason.OutOfMemory
IsReasonFor r (error.InvalidComponent name) = Refuses r (invalid_component name.now)

-- the reason for no text of an outcome: the text is complete and longer than the buffer, or the definition refuses it
abbrev pub Explains : Reason → Outcome → ℕ → Type 0
Explains r o room = ((r ≡ reason.BufferTooSmall) × (o.refusal ≡ None) × (room < length o.bytes)) ⊎
    IsRefusedFor r o

-- ---- texts

-- A count is the length of the whole text, which is at the start of the buffer; the bytes after it are unchanged. A
-- reason leaves the whole buffer unchanged.
abbrev pub IsWritten : Result ℕ Reason → Outcome → List ℕ → List ℕ → Type 0
IsWritten (Ok n) o before after = (o.refusal ≡ None) × (n ≡ length o.bytes) × (after ≡ o.bytes ++
    drop n before)
IsWritten (Err r) o before after = (after ≡ before) × Explains r o (length before)

-- the outcome of a value, or the reason why there is no value
abbrev pub gives : {V : Type 0} → Result V Reason → (V → Outcome) → Result Outcome Reason
gives value outcome = with_value value (λ v. Ok (outcome v))

-- the text of an outcome is written; or the reason for no text is returned, and the buffer is unchanged
abbrev pub IsText : Result Outcome Reason → Result ℕ Reason → List ℕ → List ℕ → Type 0
IsText asked answer before after =
    MatchResult asked (λ o. IsWritten answer o before after) (λ r. (answer ≡ Err r) × (after ≡ before))

-- the number is that of such a result
abbrev pub IsAnswer : Result Outcome Reason → ℤ → List ℕ → List ℕ → Type 0
IsAnswer asked number before after = Answers number (λ answer. IsText asked answer before after)
