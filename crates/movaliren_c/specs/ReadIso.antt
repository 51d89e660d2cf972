-- What a call that reads a text of ISO 8601 leaves.
use Rattle.std.specs.Prelude.{◌≡◌, ◌≤◌, ◌⊎◌, ◌&&◌, ℕ, ℤ, true, IsTrue, List, length, Result, Ok, Err, MatchResult}
use Rattle.movaliren_c.specs.Answer.{reason_number}
use Rattle.movaliren_c.specs.Reading.{IsRead}
use Rattle.movaliren_c.specs.declared.answers.reason.Reason.{Reason}
use Rattle.movaliren_c.specs.declared.answers.reason.Reason.TheVariants as reason
use Rattle.movaliren_c.specs.declared.read.place.ReadError.{ReadError}
use Rattle.time_below.specs.Moment.{OffsetDateAndTime}
use Rattle.time_fmt.specs.Outcome.{done}
use Rattle.time_known.specs.Iso8601.{iso8601_of}
use Rattle.time_known.specs.Iso8601Parts.{SuppliesParts}
use Rattle.time_known.specs.Config.{Choices, has_date, has_offset, has_time}
use Rattle.time_read.specs.declared.fault.NotRead.{NotRead}

-- The configuration writes the value as this text; or the text is refused within it.
abbrev pub Iso8601Reads : Choices → List ℕ → Result OffsetDateAndTime NotRead → Type 0
Iso8601Reads c text (Ok v) = iso8601_of c v ≡ done text
Iso8601Reads c text (Err e) = e.at ≤ length text

-- the texts of the choices show a date, a time of day and an offset
abbrev pub TellsMoment : Choices → Type 0
TellsMoment c = SuppliesParts c true true true
    × IsTrue (has_date c.formatted_components && (has_time c.formatted_components && has_offset c.formatted_components))

-- the texts of the choices show a date and a time of day, which are those of UTC where there is no offset
abbrev pub TellsMomentInUtc : Choices → Type 0
TellsMomentInUtc c = SuppliesParts c true true true
    × IsTrue (has_date c.formatted_components && has_time c.formatted_components)

-- the choices do not tell a moment, or a number chooses nothing
abbrev pub IsWhy : (Choices → Type 0) → Result Choices Reason → Reason → Type 0
IsWhy Tells choices r = MatchResult choices (λ c. (r ≡ reason.Undetermined) × ¬ Tells c) (λ invalid. r ≡ invalid)

-- the choices tell a moment, and a text is read by them
pub record ReadsBy {M : Type 0} (Tells : Choices → Type 0) (choices : Result Choices Reason)
    (Holds : M → OffsetDateAndTime → Type 0) (text : List ℕ) (number : ℤ) (before after : M) (old new : ReadError)
    : Type 0 where
  pub by : Choices
  pub are : choices ≡ Ok by
  pub tell : Tells by
  pub read : IsRead (Iso8601Reads by) Holds text number before after old new

-- no text is read by the choices, for a reason, and all is unchanged
pub record ReadsNone {M : Type 0} (Tells : Choices → Type 0) (choices : Result Choices Reason) (number : ℤ)
    (before after : M) (old new : ReadError) : Type 0 where
  pub why : Reason
  pub is : IsWhy Tells choices why
  pub number_of : number ≡ reason_number why
  pub moment : after ≡ before
  pub place : new ≡ old

abbrev pub IsReadByChoices : {M : Type 0} → (Choices → Type 0) → Result Choices Reason → (M → OffsetDateAndTime → Type 0)
    → List ℕ → ℤ → M → M → ReadError → ReadError → Type 0
IsReadByChoices Tells choices Holds text number before after old new =
    ReadsBy Tells choices Holds text number before after old new ⊎ ReadsNone Tells choices number before after old new
