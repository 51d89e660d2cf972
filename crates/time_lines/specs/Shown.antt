-- What is shown of a moment.
use Rattle.std.specs.Prelude.{ℕ, ◌≡◌, ◌↔◌, ◌++◌, ◌⊎◌, Bool, List, [], Option, Some, None, is_some, get_or, nat_le, if◌then◌else◌}
use Rattle.time_below.specs.Facts.{facts_of_offset_date_time}
use Rattle.time_below.specs.Moment.{Moment, IsMoment, local_at, moved}
use Rattle.time_below.specs.Offset.{Offset}
use Rattle.time_below.specs.Facts.{Facts}
use Rattle.time_fmt.specs.Outcome.{Outcome}
use Rattle.time_known.specs.Changes.{the_time, with_choice}
use Rattle.time_known.specs.Config.{Choices, default_choices}
use Rattle.time_known.specs.declared.iso8601.config.TimePrecision.TheVariants.{Second}
use Rattle.time_lines.specs.declared.descriptions.Descriptions.{Descriptions}

-- the same may be shown as before
abbrev pub SameShown : (ℕ → Moment → Option (List ℕ) → Type 0) → (ℕ → Moment → Option (List ℕ) → Type 0) → Type 0
SameShown old new = (decimals : ℕ) (m : Moment) (text : Option (List ℕ)) → old decimals m text ↔ new decimals m text

-- the description for a text with so many decimals of a second
abbrev pub description_for : {F : Type 0} → Descriptions F → ℕ → F
description_for descriptions decimals = get_or descriptions.by_decimals.items decimals descriptions.usual

-- ISO 8601 by the default choices, with so many decimals
abbrev pub with_decimals : ℕ → Choices
with_decimals decimals =
    with_choice the_time (Second (if nat_le 1 decimals then Some decimals else None)) default_choices

-- the bytes of a text, if there is one
abbrev pub bytes_of : Option (List ℕ) → List ℕ
bytes_of None = []
bytes_of (Some text) = text

-- what is shown of a moment was appended, and whether that is a text
abbrev pub AppendsShown : (Option (List ℕ) → Type 0) → List ℕ → List ℕ → Bool → Type 0
AppendsShown P old new has_text =
    (text : Option (List ℕ)) × P text × (has_text ≡ is_some text) × (new ≡ old ++ bytes_of text)

-- the text of an outcome that is not refused
abbrev pub text_of : Outcome → Option (List ℕ)
text_of outcome = elim outcome.refusal [
  | None ↦ Some outcome.bytes
  | Some refusal ↦ None
]

-- what a line becomes between two parts of which a moment stands, or none: what is shown of the moment takes its place, and
-- the line stays as it is where there is no moment or nothing is shown of it
abbrev pub IsReplaced : (Moment → Option (List ℕ) → Type 0) → Option Moment → List ℕ → List ℕ → List ℕ → List ℕ → Type 0
IsReplaced shows None before after line text = text ≡ line
IsReplaced shows (Some m) before after line text =
    ((shown : List ℕ) × shows m (Some shown) × (text ≡ before ++ (shown ++ after))) ⊎ (shows m None × (text ≡ line))

-- what a line becomes between two parts of which a moment is named, if it is one: what is shown of the moment takes its
-- place, and the line stays as it is where there is none or nothing is shown of it
abbrev pub Replaces : (Moment → Option (List ℕ) → Type 0) → Type 0 → Moment → List ℕ → List ℕ → List ℕ → List ℕ → Type 0
Replaces shows P m before after line text =
    (P × ((shown : List ℕ) × shows m (Some shown) × (text ≡ before ++ (shown ++ after))))
    ⊎ ((P → shows m None) × (text ≡ line))

-- what a description shows of a moment at an offset, which is nothing where the local year is out of range
abbrev pub ShowsAt : (Facts → Outcome) → Offset → Moment → Option (List ℕ) → Type 0
ShowsAt f o m text =
    (IsMoment (moved m o) → text ≡ text_of (f (facts_of_offset_date_time (local_at m o))))
    × (¬ IsMoment (moved m o) → text ≡ None)
