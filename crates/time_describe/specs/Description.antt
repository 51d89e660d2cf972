-- What a text is as a whole, and what is said of it, in any syntax.
use Rattle.std.specs.Prelude.{◌≡◌, ℕ, ◌-◌, ◌<◌, ◌≤◌, IsOk, List, Result, Ok, Err}
use Rattle.time_below.specs.Tree.{Tree, trees, all_of}
use Rattle.time_describe.specs.declared.fault.Fault.{Fault}
use Rattle.time_describe.specs.declared.fault.InvalidDescription.{InvalidDescription}
use Rattle.time_describe.specs.declared.fault.InvalidDescription.TheVariants as error

-- the tree of a text, or its fault
abbrev pub tree_of : {R : Type 0} → Result (List Tree) (Fault R) → Result Tree (Fault R)
tree_of (Ok items) = Ok (all_of (trees items))
tree_of (Err fault) = Err fault

-- the place of a fault, which is counted from the text's end, lies within so many bytes
abbrev pub LiesWithin : {R : Type 0} → ℕ → Fault R → Type 0
LiesWithin len fault = (0 < fault.left) × (fault.left ≤ len)

-- a list holds the items that were read
abbrev pub IsFound : {R : Type 0} → Result (List Tree) (Fault R) → (List Tree → Type 0) → Type 0
IsFound read Holds = (all : List Tree) × (read ≡ Ok all) × Holds all

-- an error says that memory ran out, or it says the fault, with its place counted from the text's beginning
abbrev pub Says : {R A : Type 0} → ℕ → Result A (Fault R) → InvalidDescription R → Type 0
Says len read error.OutOfMemory = Unit {0}
Says len read (error.Invalid reason index) = (left : ℕ) × (read ≡ Err (record { reason = reason; left = left })) × (index ≡ len - left)

-- the place that an error says lies within so many bytes
abbrev pub IsWithin : {R : Type 0} → ℕ → InvalidDescription R → Type 0
IsWithin len error.OutOfMemory = Unit {0}
IsWithin len (error.Invalid reason index) = index < len

-- an error of memory is said only where the text is a description, so what is wrong with another one is always said
abbrev pub SaysFault : {R A : Type 0} → Result A (Fault R) → InvalidDescription R → Type 0
SaysFault read error.OutOfMemory = IsOk read
SaysFault read (error.Invalid reason index) = Unit {0}
