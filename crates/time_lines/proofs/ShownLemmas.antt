-- What is shown stays the same.
use Rattle.std.proofs.Common.{ℕ, zero, suc, ◌≡◌, ◌↔◌, Bool, true, false, List, Option, inl, inr, Some, None, is_some, refl, sym, subst, ◌∙◌, append-nil}
use Rattle.time_below.specs.Facts.{Facts, facts_of_offset_date_time}
use Rattle.time_below.specs.Moment.{Moment, OffsetDateAndTime, IsMoment, local_at, moved}
use Rattle.time_below.specs.Offset.{Offset}
use Rattle.time_fmt.specs.Outcome.{Outcome}
use Rattle.time_lines.specs.Now.{NowBecomes}
use Rattle.time_lines.specs.Shown.{AppendsShown, Replaces, SameShown, ShowsAt, text_of}
use Rattle.time_lines.specs.Unix.{FromBecomes, RestBecomes, UnixBecomes}
use Rattle.time_lines.specs.declared.number.Numbers.{Numbers}
use Rattle.line_streams.specs.Filter.{Stays}

-- a place that may have the same offsets shows the same
pub place_shows : (f : ℕ → Facts → Outcome) (has has' : Moment → Offset → Type 0)
    → ((m : Moment) (o : Offset) → has m o ↔ has' m o)
    → SameShown (λ d m text. (o : Offset) × has m o × ShowsAt (f d) o m text)
    (λ d m text. (o : Offset) × has' m o × ShowsAt (f d) o m text)
place_shows f has has' same d m text =
    (λ s. (s.0, (same m s.0).0 s.1, s.2), λ s. (s.0, (same m s.0).1 s.1, s.2))

pub replaces : (shows shows' : Moment → Option (List ℕ) → Type 0) (P : Type 0) (m : Moment) (before after line text : List ℕ)
    → ((m : Moment) (t : Option (List ℕ)) → shows m t → shows' m t) → Replaces shows P m before after line text
    → Replaces shows' P m before after line text
replaces shows shows' P m before after line text leads (inl b) = inl (b.0, (b.1.0, leads _ _ b.1.1, b.1.2))
replaces shows shows' P m before after line text leads (inr b) = inr (λ has. leads _ _ (b.0 has), b.1)

-- the rest of a line becomes the same where the same is shown
pub rest_becomes : (shows shows' : ℕ → Moment → Option (List ℕ) → Type 0) (numbers : Numbers) (most : ℕ) (line : List ℕ)
    (at from : ℕ) (text : List ℕ) → ((d : ℕ) (m : Moment) (t : Option (List ℕ)) → shows d m t → shows' d m t)
    → RestBecomes shows numbers most line at from text → RestBecomes shows' numbers most line at from text
rest_becomes shows shows' numbers zero line at from text leads b = b
rest_becomes shows shows' numbers (suc most) line at from text leads (inl b) = inl b
rest_becomes shows shows' numbers (suc most) line at from text leads (inr b) = inr (
  b.0,
  b.1,
  b.2,
  b.3,
  b.4,
  replaces (shows _) (shows' _) _ _ _ _ _ b.1 (leads _) b.5,
  rest_becomes shows shows' numbers most line _ _ b.2 leads b.6,
)

from_becomes : (shows shows' : ℕ → Moment → Option (List ℕ) → Type 0) (numbers : Numbers) (from : Option ℕ) (line text : List ℕ)
    → ((d : ℕ) (m : Moment) (t : Option (List ℕ)) → shows d m t → shows' d m t) → FromBecomes shows numbers from line text
    → FromBecomes shows' numbers from line text
from_becomes shows shows' numbers None line text leads b = b
from_becomes shows shows' numbers (Some from) line text leads b = rest_becomes shows shows' numbers _ line 0 from text leads b

-- a line becomes the same where the same is shown
pub unix_stays : (shows shows' : ℕ → Moment → Option (List ℕ) → Type 0) (numbers : Numbers) (after : Option (List ℕ))
    → SameShown shows shows' → Stays (UnixBecomes shows numbers after) (UnixBecomes shows' numbers after)
unix_stays shows shows' numbers after same line text = (
  λ b. (b.0, b.1, from_becomes shows shows' numbers b.0 line text (λ d m t. (same d m t).0) b.2),
  λ b. (b.0, b.1, from_becomes shows' shows numbers b.0 line text (λ d m t. (same d m t).1) b.2),
)

now_becomes : (shows shows' : ℕ → Moment → Option (List ℕ) → Type 0) (line text : List ℕ)
    → ((d : ℕ) (m : Moment) (t : Option (List ℕ)) → shows d m t → shows' d m t) → NowBecomes shows line text → NowBecomes shows' line text
now_becomes shows shows' line text leads b =
    (b.0, (b.1.0, (b.1.1.0, leads 3 b.1.0 b.1.1.0 b.1.1.1, b.1.1.2)), b.2)

-- the same stands before a line where the same is shown
pub now_stays : (shows shows' : ℕ → Moment → Option (List ℕ) → Type 0) → SameShown shows shows'
    → Stays (NowBecomes shows) (NowBecomes shows')
now_stays shows shows' same line text = (
  λ b. now_becomes shows shows' line text (λ d m t. (same d m t).0) b,
  λ b. now_becomes shows' shows line text (λ d m t. (same d m t).1) b,
)

none_of : (text : Option (List ℕ)) → is_some text ≡ false → text ≡ None
none_of None e = refl
none_of (Some text) e = absurd (let never : true ≡ false = e in cc)

-- what was appended of the local value of a moment is what is shown of the moment
pub shown_local : (f : Facts → Outcome) (m : Moment) (o : Offset) (v : OffsetDateAndTime) (old new : List ℕ) (has_text : Bool)
    → v ≡ local_at m o → (¬ IsMoment (moved m o) → has_text ≡ false)
    → AppendsShown (λ text. text ≡ text_of (f (facts_of_offset_date_time v))) old new has_text
    → AppendsShown (ShowsAt f o m) old new has_text
shown_local f m o v old new has_text value none h =
    let is = subst (λ w. h.0 ≡ text_of (f (facts_of_offset_date_time w))) value h.1 in
    (h.0, (λ _. is, λ out. none_of h.0 (sym h.2 ∙ none out)), h.2, h.3)

-- nothing is shown of a moment that has no local value
pub none_shown : (f : Facts → Outcome) (m : Moment) (o : Offset) (old : List ℕ) → ¬ IsMoment (moved m o)
    → AppendsShown (ShowsAt f o m) old old false
none_shown f m o old none = (None, (λ near. absurd (none near), λ _. refl), refl, sym (append-nil old))
