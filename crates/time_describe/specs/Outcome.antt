-- What calls of this crate leave and return.
use Rattle.std.specs.Prelude.{◌≡◌, ℕ, Bool, false, List, [], ◌∷◌, ◌++◌, drop, map, reverse, Result, Ok, Err}
use Rattle.std.proofs.Common.{Bor}
use Rattle.time_below.specs.Tree.{Tree}
use Rattle.time_describe.specs.declared.fault.Fault.{Fault}
use Rattle.time_describe.specs.declared.brackets.reason.BracketReason.{BracketReason}
use Rattle.time_describe.specs.declared.brackets.frame.Frame as code
use Rattle.time_describe.specs.declared.items.ListKind.{ListKind}
use Rattle.time_describe.specs.declared.items.ListKind.TheVariants as kinds
use Rattle.time_describe.specs.Reading.{Frame, outside, read}

-- what is kept of a list that is not closed yet
abbrev pub kept : Frame → code.Frame
kept f = record { kind = f.kind; opened = f.opened; opened_list = f.opened_list }

-- this is kept of lists, of which the first is the innermost, and the last of what is kept
abbrev pub AreKept : List code.Frame → List Frame → Type 0
AreKept frames fs = map kept fs ≡ reverse frames

-- items are held in lists that are kept
abbrev pub AreOpen : (List Frame → List Tree → Type 0) → List code.Frame → List Frame → List Tree → Type 0
AreOpen Holds frames fs items = AreKept frames fs × Holds fs items

-- bytes at the end of others
abbrev pub IsEnd : List ℕ → List ℕ → Type 0
IsEnd bytes end = (n : ℕ) × (end ≡ drop n bytes)

-- an optional item has a list
abbrev pub lacks_list : ListKind → Bool → Bool
lacks_list kinds.First is_first = false
lacks_list kinds.Optional is_first = is_first

-- an item is held behind others
abbrev pub Ends : (List Tree → Type 0) → List Tree → Result Unit (Fault BracketReason) → Result Tree (Fault BracketReason) → Type 0
Ends Holds before (Ok u) item = (t : Tree) × (item ≡ Ok t) × Holds (before ++ t ∷ [])
Ends Holds before (Err fault) item = item ≡ Err fault

-- reading goes on behind what was read, in lists and behind items of which this is so
abbrev pub GoesOn : (List Frame → List Tree → Type 0) → Result (Bor (List ℕ)) (Fault BracketReason) → Result (List Tree) (Fault BracketReason) → Type 0
GoesOn Holds (Ok rest) reading = (fs : List Frame) × (items : List Tree) × Holds fs items × (reading ≡ read fs outside items [] rest.now)
GoesOn Holds (Err fault) reading = reading ≡ Err fault
