-- What a call that reads by a configuration leaves.
use Rattle.std.proofs.Common.{◌≡◌, ℕ, ℤ, List, Result, Ok, refl, sym, subst, inr}
use Rattle.movaliren_c.specs.Answer.{reason_number}
use Rattle.movaliren_c.specs.ReadIso.{IsReadByChoices, IsWhy}
use Rattle.movaliren_c.specs.declared.answers.reason.Reason.{Reason}
use Rattle.movaliren_c.specs.declared.answers.reason.Reason.TheVariants as reason
use Rattle.movaliren_c.specs.declared.read.place.ReadError.{ReadError}
use Rattle.time_below.specs.Moment.{OffsetDateAndTime}
use Rattle.time_known.specs.Config.{Choices}

-- choices that do not tell a moment
pub undetermined_by : {M : Type 0} (Tells : Choices → Type 0) (choices : Result Choices Reason) (c : Choices)
    (Holds : M → OffsetDateAndTime → Type 0) (text : List ℕ) (number : ℤ) (m : M) (place : ReadError) → choices ≡ Ok c
    → ¬ Tells c → number ≡ reason_number reason.Undetermined
    → IsReadByChoices Tells choices Holds text number m m place place
undetermined_by Tells choices c Holds text number m place is none n = inr (record {
  why = reason.Undetermined;
  is = subst (λ (it : Result Choices Reason). IsWhy Tells it reason.Undetermined) (sym is) (refl, none);
  number_of = n;
  moment = refl;
  place = refl;
})
