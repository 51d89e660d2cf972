-- What a call that reads a text by a description leaves.
use Rattle.std.specs.Prelude.{◌≡◌, ◌≤◌, ◌⊎◌, ℕ, ℤ, pos, List, length, Result, Ok, Err, IsOk, IsOkAnd, MatchResult}
use Rattle.movaliren_c.specs.Answer.{reason_number}
use Rattle.movaliren_c.specs.Items.{item_tree}
use Rattle.movaliren_c.specs.Place.{place_of}
use Rattle.movaliren_c.specs.Reading.{IsInUtc}
use Rattle.movaliren_c.specs.Value.{moment_value}
use Rattle.movaliren_c.specs.declared.answers.reason.Reason.{Reason}
use Rattle.movaliren_c.specs.declared.answers.reason.Reason.TheVariants as reason
use Rattle.movaliren_c.specs.declared.described.item.Item.{Item}
use Rattle.movaliren_c.specs.declared.read.items.Unread.{Unread}
use Rattle.movaliren_c.specs.declared.read.items.Unread.TheVariants as unread
use Rattle.movaliren_c.specs.declared.read.place.ReadError.{ReadError}
use Rattle.movaliren_c.specs.declared.values.moment.Moment.{Moment}
use Rattle.movaliren_c.specs.declared.values.moment.UtcMoment.{UtcMoment}
use Rattle.time_below.specs.Facts.{Facts, facts_of_offset_date_time, facts_of_utc_date_time}
use Rattle.time_below.specs.Moment.{DateAndTime, OffsetDateAndTime, unix_seconds}
use Rattle.time_below.specs.Tree.{Tree, nothing, trees}
use Rattle.time_fmt.specs.Description.{trees_outcome}
use Rattle.time_fmt.specs.Outcome.{done}
use Rattle.time_read.specs.declared.fault.NotRead.{NotRead}

-- the tree, or that of nothing where there is none
abbrev pub tree_or_nothing : Result Tree Reason → Tree
tree_or_nothing (Ok t) = t
tree_or_nothing (Err r) = nothing

-- the tree of an item, or that of nothing where it is invalid
abbrev pub read_tree : List ℕ → Item → Tree
read_tree texts i = tree_or_nothing (item_tree texts i)

-- ---- what is read

-- there is a description, which writes these facts as this text
abbrev pub IsTextOf : Result (List Tree) Reason → Facts → List ℕ → Type 0
IsTextOf description f text = IsOkAnd description (λ ts. trees_outcome (trees ts) f ≡ done text)

-- the text by the description of a moment by its parts
pub record HasText (description : Result (List Tree) Reason) (text : List ℕ) (m : Moment) : Type 0 where
  pub value : OffsetDateAndTime
  pub is : moment_value m ≡ Ok value
  pub written : IsTextOf description (facts_of_offset_date_time value) text

-- the text by the description of a local date and time with its offset, of which this is the moment
pub record HasTextWithOffset (description : Result (List Tree) Reason) (text : List ℕ) (m : UtcMoment) : Type 0 where
  pub value : OffsetDateAndTime
  pub is : IsInUtc m value
  pub written : IsTextOf description (facts_of_offset_date_time value) text

-- the moment in UTC of a date and a time there
pub record IsOfUtc (m : UtcMoment) (v : DateAndTime) : Type 0 where
  pub seconds : m.seconds ≡ unix_seconds v
  pub nanosecond : m.nanosecond ≡ v.time.nanosecond

-- the text by the description of a date and a time in UTC, of which this is the moment
pub record HasTextInUtc (description : Result (List Tree) Reason) (text : List ℕ) (m : UtcMoment) : Type 0 where
  pub value : DateAndTime
  pub is : IsOfUtc m value
  pub written : IsTextOf description (facts_of_utc_date_time value) text

-- the text by the description of a moment, in UTC or with its offset
abbrev pub HasTextOfMoment : Result (List Tree) Reason → List ℕ → UtcMoment → Type 0
HasTextOfMoment description text m = HasTextInUtc description text m ⊎ HasTextWithOffset description text m

-- ---- why no moment is read

-- No text is read, since the first invalid item has this reason, or the texts of the description do not determine a
-- moment; or this text is not, at a place within it.
abbrev pub IsUnread : Result (List Tree) Reason → List ℕ → Unread → Type 0
IsUnread description text (unread.Never r) = MatchResult description (λ _. r ≡ reason.Undetermined) (λ invalid. r ≡ invalid)
IsUnread description text (unread.At e) = IsOk description × (e.at ≤ length text)

-- ---- what a call leaves

-- The number is 0, the moment is kept, and the place is unchanged; or the moment is unchanged, and the number is that of
-- the reason, or that of a text that is not read, whose place is set.
abbrev pub LeavesRead : {M : Type 0} → Result M Unread → ℤ → M → M → ReadError → ReadError → Type 0
LeavesRead (Ok m) number before after old new = (number ≡ pos 0) × (after ≡ m) × (new ≡ old)
LeavesRead (Err (unread.Never r)) number before after old new = (number ≡ reason_number r) × (after ≡ before) × (new ≡ old)
LeavesRead (Err (unread.At e)) number before after old new =
    (number ≡ reason_number reason.NotRead) × (after ≡ before) × (new ≡ place_of e)

-- a moment is read, or this is why none is
pub record IsReadBy {M : Type 0} (Is : M → Type 0) (Why : Unread → Type 0) (number : ℤ) (before after : M) (old new : ReadError)
    : Type 0 where
  pub read : Result M Unread
  pub right : MatchResult read Is Why
  pub leaves : LeavesRead read number before after old new
