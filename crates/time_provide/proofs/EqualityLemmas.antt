-- States of a date are equal exactly if each entry of the one is that of the other.
use Rattle.std.proofs.Common.{◌≡◌, ℕ, ℤ, Bool, refl, ap, Option, Some, None, eqb}
use Rattle.std.proofs.lemmas.Bool.Decides.{Decides-eqb, Decides-int_eq, Decides-and, Decides-like}
use Rattle.std.specs.Bool.{Decides}
use Rattle.std.specs.Option.{option_eq}
use Rattle.std.specs.Ordering.{int_eq}
use denote.Enum.Bare.{sameb, same_true, true_same}
use Rattle.time_below.specs.contracts.month.Month as month
use Rattle.time_below.specs.declared.month.Month.{Month}
use Rattle.time_provide.specs.contracts.date_state.DateStatePartialEq.TheImpl as of_state
use Rattle.time_provide.specs.declared.date_state.DateState.{DateState}

-- two values, each perhaps absent, are found equal exactly if they are the same, where two values are
options_decide : {T : Type 0} (E : T → T → Bool) → ((x y : T) → Decides (E x y) (x ≡ y)) → (a b : Option T)
    → Decides (option_eq E a b) (a ≡ b)
options_decide E decides None None = (λ h. refl, λ e. refl)
options_decide E decides None (Some y) = (λ h. cc, λ e. cc)
options_decide E decides (Some x) None = (λ h. cc, λ e. cc)
options_decide E decides (Some x) (Some y) =
    Decides-like (E x y) (λ e. ap Some e) (λ (e : Some x ≡ Some y). let same : x ≡ y = cc in same) (decides x y)

-- two months are found equal exactly if they are the same
months_decide : (a b : Month) → Decides (sameb month.the_type a b) (a ≡ b)
months_decide a b = (λ h. same_true month.the_type tt a b h, λ e. true_same month.the_type a b e)

-- a state by its entries
abbrev state_of_entries : Option ℕ → Option Month → Option ℕ → Option ℤ → DateState
state_of_entries day month week year = record { day = day; month = month; iso_week = week; iso_year = year }

same_entries : {d d' w w' : Option ℕ} {m m' : Option Month} {y y' : Option ℤ} → d ≡ d' → m ≡ m' → w ≡ w' → y ≡ y'
    → state_of_entries d m w y ≡ state_of_entries d' m' w' y'
same_entries p q r s = cc

-- two states are found equal exactly if they hold the same
pub states_decide : (a b : DateState) → Decides (of_state.ghosts.eq a b) (a ≡ b)
states_decide a b =
    let day = options_decide eqb Decides-eqb a.day b.day in
    let month = options_decide (sameb month.the_type) months_decide a.month b.month in
    let week = options_decide eqb Decides-eqb a.iso_week b.iso_week in
    let year = options_decide int_eq Decides-int_eq a.iso_year b.iso_year in
    Decides-like (of_state.ghosts.eq a b)
    (λ same. same_entries same.0 same.1.0 same.1.1.0 same.1.1.1)
    (λ (e : a ≡ b). (
      ap (λ (s : DateState). s.day) e,
      (
        ap (λ (s : DateState). s.month) e,
        (ap (λ (s : DateState). s.iso_week) e, ap (λ (s : DateState). s.iso_year) e),
      ),
    ))
    (Decides-and _ _ day (Decides-and _ _ month (Decides-and _ _ week year)))
