-- The groups of a value that a text is made of.
use Rattle.std.specs.Prelude.{Bool, true, ◌&&◌, ◌||◌, not, is_some, IsTrue}
use Rattle.time_known.specs.Values.{Facts, DateFacts, the_date, the_time, the_offset, Offset, TimeOfDay}
use Rattle.time_known.specs.declared.groups.Groups.{Groups}

-- whether each group that is needed is among those that a value has
abbrev pub are_supplied : Groups → Bool → Bool → Bool → Bool
are_supplied needed date time offset =
    (date || not needed.date) && (time || not needed.time) && (offset || not needed.offset)

-- whether a value with these facts has each group that is needed
abbrev pub has_groups : Groups → Facts → Bool
has_groups needed f = are_supplied needed (is_some f.date) (is_some f.time) (is_some f.offset)

-- all three are needed
abbrev pub all_groups : Groups
all_groups = record { date = true; time = true; offset = true }

-- what the date, the time and the offset of a value that has all three give
abbrev pub at_groups : {A : Type 0} → (DateFacts → TimeOfDay → Offset → A) → Facts → A
at_groups of_groups f = of_groups (the_date f) (the_time f) (the_offset f)

-- a date, a time and an offset are supplied
abbrev pub AreAllSupplied : Bool → Bool → Bool → Type 0
AreAllSupplied date time offset = IsTrue date × IsTrue time × IsTrue offset
