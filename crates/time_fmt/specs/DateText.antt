-- The texts of the components of a date.
use Rattle.std.specs.Prelude.{ℕ, ◌+◌, Bool, List, take, if◌then◌else◌}
pub use Rattle.time_below.specs.Names.{month_name, weekday_name}

-- the first three letters of a name
abbrev pub short_name : List ℕ → List ℕ
short_name name = take 3 name

-- a weekday from 0 or from 1 on
abbrev pub indexed : Bool → ℕ → ℕ
indexed one_indexed days = if one_indexed then days + 1 else days
