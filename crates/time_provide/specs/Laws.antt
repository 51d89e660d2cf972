-- What holds of each type of values that supply components, and of the states for them.
use Rattle.std.specs.Prelude.{◌≡◌, Bool}
use Rattle.std.specs.Prelude.{is_some}
use Rattle.time_below.specs.Facts.{Facts, DateFacts}

-- the groups that are there are those that the constants name
pub record Supplies (DATE TIME OFFSET TIMESTAMP : Bool) (f : Facts) : Type 0 where
  pub date : is_some f.date ≡ DATE
  pub time : is_some f.time ≡ TIME
  pub offset : is_some f.offset ≡ OFFSET
  pub timestamp : is_some f.moment ≡ TIMESTAMP

-- the cache of a state that agrees with the value holds nothing but components of its date, and where it grows by more of
-- them the state agrees
pub record States {State : Type 0} (CacheAgrees : State → DateFacts → Type 0) (Grows : State → State → DateFacts → Type 0)
    (Agrees : State → Type 0) (date : DateFacts) : Type 0 where
  pub held : (state : State) → Agrees state → CacheAgrees state date
  pub grown : (old new : State) → Agrees old → Grows old new date → Agrees new
