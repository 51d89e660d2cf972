-- What is taken from the front of a text.
use Rattle.std.specs.Prelude.{◌≡◌, ℕ, Bool, true, false, ◌||◌, ◌&&◌, ◌==◌, List, [], ◌∷◌, ◌++◌, None, Result, Ok, Err}
use Rattle.std.proofs.Common.{Bor}
use Rattle.time_below.specs.Tree.{Tree, of_component}
use Rattle.time_describe.specs.declared.brackets.reason.BracketReason.{BracketReason}
use Rattle.time_describe.specs.declared.fault.Fault.{Fault}
use Rattle.time_describe.specs.declared.brackets.pieces.Bracketed.{Bracketed}
use Rattle.time_describe.specs.declared.brackets.pieces.Bracketed.TheVariants as bracketed
use Rattle.time_describe.specs.Reading.{closing, is_special, Frame, outside, brackets, between, read}

-- what ends a literal, in lists of items or not
abbrev pub ends_literal : Bool → ℕ → Bool
ends_literal in_list b = is_special b || (in_list && b == closing)

abbrev pub is_nested : List Frame → Bool
is_nested [] = false
is_nested (f ∷ fs) = true

-- Reading in brackets goes on behind a component, or between lists; or it gives the fault.
abbrev pub InBrackets : ℕ → List ℕ → Result (Bracketed × Bor (List ℕ)) (Fault BracketReason) → Type 0
InBrackets opened bytes (Ok (bracketed.Component c, rest)) = (fs : List Frame) (items : List Tree)
    → read fs (brackets opened None []) items [] bytes ≡ read fs outside (items ++ of_component c ∷ []) [] rest.now
InBrackets opened bytes (Ok (bracketed.Lists n, rest)) = (fs : List Frame) (items : List Tree)
    → read fs (brackets opened None []) items [] bytes ≡ read fs (between n opened []) items [] rest.now
InBrackets opened bytes (Err f) = (fs : List Frame) (items : List Tree) → read fs (brackets opened None []) items [] bytes ≡ Err f
