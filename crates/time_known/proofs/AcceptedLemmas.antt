-- Formats that have a place for each hour of an offset, and what the usual texts of ISO 8601 have a place for.
use Rattle.std.proofs.Common.{◌≡◌, ℕ, ◌≤◌, Bool, true, false, List, refl, arith, ℤ, unsigned_abs, nat_lt, Option, Some, Result, Vec}
use Rattle.std.specs.Global.{Global}
use Rattle.time_fmt.specs.declared.error.Format.{Format}
use Rattle.time_fmt.specs.declared.refused.Refused.{Refused}
use Rattle.std.proofs.lemmas.Bool.Decides.{nat_tests}
use Rattle.std.proofs.lemmas.Grind.{common_steps}
use Rattle.std.specs.Prelude.{codes, if◌then◌else◌}
use Rattle.time_fmt.specs.Ends.{refusal_of}
use Rattle.time_fmt.specs.Outcome.{AppendsUpTo, Refusal, done, refused, join}
use Rattle.time_known.specs.Accepted.{checked_text}
use Rattle.time_known.specs.Config.{Choices, DecimalSign}
use Rattle.time_known.specs.Iso8601.{iso_of_groups}
use Rattle.time_known.specs.UsualText.{usual_choices, usual_text}
use Rattle.time_known.specs.Values.{DateFacts, Offset, TimeOfDay}
use Rattle.time_known.specs.WellKnown.{refused_if, is_outside}
use Rattle.time_known.specs.declared.iso8601.config.FormattedComponents.TheVariants as components
use Rattle.time_known.proofs.OutcomeLemmas.{above_not, test_is_passed}

-- no offset has more than 25 hours
pub any_hour : (first : ℕ) (year : ℤ) (hour second : ℕ) (text : List ℕ) → hour ≤ 25
    → checked_text first 25 year hour second text
    ≡ refused_if (is_outside first 9_999 year) (codes "year")
    (refused_if (nat_lt 0 second) (codes "offset_second") (done text))
any_hour first year hour second text h = rw (above_not 25 hour h) refl

-- an accepted year and offset complete the text of these choices
pub usual_accepted : (c : Choices) (has_separators : Bool) (digits : Option ℕ) (sign : DecimalSign)
    (d : DateFacts) (t : TimeOfDay) (o : Offset) (text : List ℕ)
    → c ≡ usual_choices has_separators digits sign
    → checked_text 0 25 d.year (unsigned_abs o.hours) (unsigned_abs o.seconds) text ≡ done text
    → iso_of_groups components.DateTimeOffset c d t o ≡ done (usual_text c digits d t o)
usual_accepted c has_separators digits sign d t o text e accepted = grind (arith, common_steps, test_is_passed)

-- the refusals of a text by these choices are those of its year and of the seconds of its offset
refusal_is : (outside zed seconds : Bool) (year after time zero hours minutes text : List ℕ) (r : Refusal)
    → (zed ≡ true → seconds ≡ false)
    → refused_if outside (codes "year") (refused_if seconds (codes "offset_second") (done text))
    ≡ refused r
    → (join (join (refused_if outside (codes "year") (done year)) (done after)) (join (done time)
    (if zed then done zero
    else refused_if seconds (codes "offset_second") (join (done hours) (done minutes))))).refusal
    ≡ Some r
refusal_is outside zed seconds year after time zero hours minutes text r h k = grind (arith, common_steps)

-- what is refused of the year and the offset is refused by the text with separators
pub usual_refused : (digits : Option ℕ) (sign : DecimalSign) (d : DateFacts) (t : TimeOfDay) (o : Offset)
    (text : List ℕ) (r : Refused) → unsigned_abs o.hours ≤ 25
    → checked_text 0 25 d.year (unsigned_abs o.hours) (unsigned_abs o.seconds) text ≡ refused (refusal_of r)
    → (iso_of_groups components.DateTimeOffset (usual_choices true digits sign) d t o).refusal
    ≡ Some (refusal_of r)
usual_refused digits sign d t o text r hour e = grind (arith, common_steps, nat_tests, refusal_is, any_hour)

-- what is appended by one value is appended by any that is equal
pub appended_as : {A : Type 0} {a b : A} {width : ℕ} {old new : Vec ℕ Global} {answer : Result ℕ Format}
    (text : A → List ℕ) → a ≡ b → AppendsUpTo width old new answer (done (text a))
    → AppendsUpTo width old new answer (done (text b))
appended_as text e w = grind arith
