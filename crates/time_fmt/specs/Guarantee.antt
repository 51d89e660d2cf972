-- The guarantee that the bytes of an outcome are UTF-8.
use Rattle.std.specs.Prelude.{Bool, IsTrue, IsUtf8, Result}
use Rattle.time_below.specs.Facts.{Facts}
use Rattle.time_below.specs.Tree.{Tree}
use Rattle.time_below.specs.Width.{tree_width, is_guaranteed_text}
use Rattle.time_fmt.specs.Description.{tree_outcome}
use Rattle.time_fmt.specs.Ends.{Ends}
use Rattle.time_fmt.specs.Outcome.{Outcome}
use Rattle.time_fmt.specs.Sink.{Buffer}
use Rattle.time_fmt.specs.declared.refused.Refused.{Refused}

-- all bytes are UTF-8 under the guarantee, also those before a refusal
abbrev pub IsTextIf : Bool → Outcome → Type 0
IsTextIf is_guaranteed o = IsTrue is_guaranteed → IsUtf8 o.bytes

-- what a tree gives is appended within its width, and is UTF-8 under its guarantee
pub record AppendsTree (t : Tree) (f : Facts) (old new : Buffer) (answer : Result Unit Refused)
    : Type 0 where
  pub ends : Ends (tree_width t) old new answer (tree_outcome t f)
  pub text : IsTextIf (is_guaranteed_text t) (tree_outcome t f)
