-- What a call that reads a text leaves.
use Rattle.std.specs.Prelude.{◌≡◌, ◌↔◌, ◌≤◌, ℕ, ℤ, pos, IsTrue, List, length, take, drop, Result, Ok, Err}
use Rattle.movaliren_c.specs.Answer.{reason_number}
use Rattle.movaliren_c.specs.Place.{place_of}
use Rattle.movaliren_c.specs.Value.{moment_value}
use Rattle.movaliren_c.specs.declared.values.moment.Moment.{Moment}
use Rattle.movaliren_c.specs.declared.values.moment.UtcMoment.{UtcMoment}
use Rattle.movaliren_c.specs.declared.read.place.ReadError.{ReadError}
use Rattle.movaliren_c.specs.declared.answers.reason.Reason.TheVariants as reason
use Rattle.time_below.specs.Moment.{OffsetDateAndTime, local_unix_seconds}
use Rattle.time_known.specs.Rfc2822Grammar.{Rfc2822Spells}
use Rattle.time_known.specs.Rules.{Rule}
use Rattle.time_read.specs.Fault.{IsFirstFault, IsSecond60, SpellsSome}
use Rattle.time_read.specs.MailLenient.{MailMeans}
use Rattle.time_read.specs.declared.fault.NotRead.{NotRead}

-- ---- texts

-- A text of RFC 3339 spells the value; or it spells none, and this is the first place where it is none.
abbrev pub Rfc3339Reads : (OffsetDateAndTime → Rule) → List ℕ → Result OffsetDateAndTime NotRead → Type 0
Rfc3339Reads Spells text (Ok v) = Spells v text
Rfc3339Reads Spells text (Err e) = ((v : OffsetDateAndTime) → ¬ Spells v text)
    × IsFirstFault (SpellsSome Spells) (take e.at text) (drop e.at text) e.expected
    × (e.at ≤ length text)
    × (IsTrue e.is_second_60 ↔ IsSecond60 17 e.at text)

-- A text of RFC 2822 spells the value; or it spells none, and is refused within it.
abbrev pub Rfc2822Reads : List ℕ → Result OffsetDateAndTime NotRead → Type 0
Rfc2822Reads text (Ok v) = Rfc2822Spells v text
Rfc2822Reads text (Err e) = ((v : OffsetDateAndTime) → ¬ Rfc2822Spells v text) × (e.at ≤ length text)

-- A text of mail means the value, or is refused within it. That no text with a meaning is refused is tested.
abbrev pub MailReads : List ℕ → Result OffsetDateAndTime NotRead → Type 0
MailReads text (Ok v) = MailMeans v text
MailReads text (Err e) = e.at ≤ length text

-- the parts of the moment are those of the value, as each call that formats takes them
abbrev pub IsByParts : Moment → OffsetDateAndTime → Type 0
IsByParts m v = moment_value m ≡ Ok v

-- the moment in UTC of the value: its seconds since 1970, and its nanosecond
pub record IsInUtc (m : UtcMoment) (v : OffsetDateAndTime) : Type 0 where
  pub seconds : m.seconds ≡ local_unix_seconds v
  pub nanosecond : m.nanosecond ≡ v.time.nanosecond

-- The number is 0, the moment has the value, and the place is unchanged; or the number is that of a text that is not read,
-- the moment is unchanged, and the place is that of the error.
abbrev pub Leaves : {M : Type 0} → (M → OffsetDateAndTime → Type 0) → Result OffsetDateAndTime NotRead → ℤ → M → M → ReadError
    → ReadError → Type 0
Leaves Holds (Ok v) number before after old new = (number ≡ pos 0) × Holds after v × (new ≡ old)
Leaves Holds (Err e) number before after old new = (number ≡ reason_number reason.NotRead) × (after ≡ before)
    × (new ≡ place_of e)

-- the text is read, or refused with the place of its error
pub record IsRead {M : Type 0} (Reads : List ℕ → Result OffsetDateAndTime NotRead → Type 0)
    (Holds : M → OffsetDateAndTime → Type 0) (text : List ℕ) (number : ℤ) (before after : M) (old new : ReadError) : Type 0 where
  pub reading : Result OffsetDateAndTime NotRead
  pub reads : Reads text reading
  pub leaves : Leaves Holds reading number before after old new
