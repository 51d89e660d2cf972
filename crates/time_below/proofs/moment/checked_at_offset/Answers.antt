use Rattle.std.proofs.Common.{◌≡◌, ℕ, ℤ, ◌+ℤ◌, ◌∙◌, ap, refl, subst, sym}
use Rattle.time_below.proofs.MomentLemmas.{held_near_second, held_small, local_moment-local_at, same_moment}
use Rattle.time_below.proofs.moment.checked_at_offset.Goals as goal
use Rattle.time_below.specs.Moment.{Moment, IsMoment, moved}
use Rattle.time_below.specs.Offset.{offset_seconds}

-- the moment that is given
abbrev given : ℤ → ℕ → Moment
given s n = record { seconds = s; nanosecond = n }

-- the moment whose date and time are taken
shown_is : (c : goal.After-new_in_offset)
    → c.in-Ok.shown ≡ moved (given c.args.seconds c.args.nanosecond) c.args.offset
shown_is c =
    c.in-Ok.ensures.value
    ∙ same_moment _ _ _ c.args.nanosecond
    (held_small c.clock_seconds.result c.clock_seconds.ensures.range ∙ c.clock_seconds.ensures.value
    ∙ ap (λ s. s +ℤ offset_seconds c.args.offset) (held_near_second c.args.seconds c.requires.0))
    refl

in_years : (c : goal.After-new_in_offset) → IsMoment (moved (given c.args.seconds c.args.nanosecond) c.args.offset)
in_years c = subst IsMoment (sym c.in-Ok.ensures.value ∙ shown_is c) (c.in-Ok.ensures.accepted.0 refl)

pub returns-in-Ok-clause-accepted : goal.returns-in-Ok-clause-accepted
returns-in-Ok-clause-accepted c = (λ _. (in_years c).0, λ _. refl)

pub returns-in-Ok-clause-value : goal.returns-in-Ok-clause-value
returns-in-Ok-clause-value c = c.new_in_offset.ensures ∙ rw (c.date.ensures, c.time.ensures, shown_is c) refl

pub returns-in-Ok-clause-moment : goal.returns-in-Ok-clause-moment
returns-in-Ok-clause-moment c =
    rw (returns-in-Ok-clause-value c)
    (local_moment-local_at (given c.args.seconds c.args.nanosecond) c.args.offset (in_years c))
