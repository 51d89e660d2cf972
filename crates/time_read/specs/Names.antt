-- Names of the days of the week and of the months.
use Rattle.std.specs.Prelude.{ℕ, List}
use Rattle.time_known.specs.Rfc2822Grammar.{day_names, month_names}
use Rattle.time_read.specs.declared.letters.Names.{Names}
use Rattle.time_read.specs.declared.letters.Names.TheVariants as names

abbrev pub list_of : Names → List (List ℕ)
list_of names.Weekday = day_names
list_of names.Month = month_names
