-- The literal behind a component.
use Rattle.std.specs.Prelude.{ℕ, List, [], ◌∷◌, Bool, true, false}
use Rattle.time_below.specs.Tree.{Tree, byte_literal, text_literal}
use Rattle.time_plan.specs.declared.literal.Literal.{Literal}
use Rattle.time_plan.specs.declared.literal.Literal.TheVariants as literal

-- its bytes
abbrev pub literal_bytes : Literal → List ℕ
literal_bytes (literal.Byte a) = a ∷ []
literal_bytes (literal.Bytes bytes) = bytes.items

-- a literal, as a text or as bytes
abbrev pub literal_tree : Bool → List ℕ → Tree
literal_tree true text = text_literal text
literal_tree false bytes = byte_literal bytes
