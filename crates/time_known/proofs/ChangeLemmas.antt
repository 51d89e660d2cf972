-- Changes of different fields may be exchanged.
use Rattle.std.proofs.Common.{◌≡◌, ◌≢◌, refl}
use Rattle.time_known.specs.Changes.{Field, the_components, the_separators, the_year, the_date, the_time, the_offset}
use Rattle.time_known.specs.Changes.{the_sign, choice_of, with_choice}
use Rattle.time_known.specs.Config.{Choices}

-- the order of two changes does not matter: each of the two fields has its new choice, and the others are unchanged
pub changes_may_be_exchanged : (f g : Field) → f ≢ g → (x : choice_of f) (y : choice_of g) (c : Choices)
    → with_choice f x (with_choice g y c) ≡ with_choice g y (with_choice f x c)
changes_may_be_exchanged the_components the_components differ x y c = absurd (differ refl)
changes_may_be_exchanged the_separators the_separators differ x y c = absurd (differ refl)
changes_may_be_exchanged the_year the_year differ x y c = absurd (differ refl)
changes_may_be_exchanged the_date the_date differ x y c = absurd (differ refl)
changes_may_be_exchanged the_time the_time differ x y c = absurd (differ refl)
changes_may_be_exchanged the_offset the_offset differ x y c = absurd (differ refl)
changes_may_be_exchanged the_sign the_sign differ x y c = absurd (differ refl)
changes_may_be_exchanged f g differ x y c = refl
