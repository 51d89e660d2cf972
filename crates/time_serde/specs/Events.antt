-- What is written to a serializer, and what a format gave.
use Rattle.std.specs.Prelude.{◌≡◌, ℕ, List}
use Rattle.serde.specs.Event.{Event, Log, Logs, text}
use Rattle.time_below.specs.Moment.{OffsetDateAndTime}
use Rattle.time_fmt.specs.Outcome.{Outcome, done}

-- the outcome is completed, and its text is written
abbrev pub WritesText : Outcome → Log → Log → Type 0
WritesText outcome old new = (bytes : List ℕ) × (outcome ≡ done bytes) × Logs old new (text bytes)

-- a step of the format gave the text
abbrev pub IsGiven : {F : Type 0} → (F → List ℕ → Event → F → Type 0) → List ℕ → Type 0
IsGiven {F} gives bytes = (old new : F) × (input : List ℕ) × gives old input (text bytes) new

-- a step of the format gave a text that stands in this relation to a local date and time
abbrev pub IsReadFrom : {F : Type 0} → (F → List ℕ → Event → F → Type 0) → (OffsetDateAndTime → List ℕ → Type 0) → Type 0
IsReadFrom gives Means = (t : OffsetDateAndTime) × (bytes : List ℕ) × IsGiven gives bytes × Means t bytes
