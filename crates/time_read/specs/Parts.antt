-- What a step shows, and the literal behind it.
use Rattle.std.specs.Prelude.{ℕ, List, [], ◌∷◌}
use Rattle.time_below.specs.Tree.{Tree, all_of, end, more, text_literal}
use Rattle.time_plan.specs.Shown.{shown_tree}
use Rattle.time_read.specs.declared.plan.any_step.LiteralRef.{LiteralRef}
use Rattle.time_read.specs.declared.plan.any_step.LiteralRef.TheVariants as literal
use Rattle.time_read.specs.declared.plan.any_step.StepParts.{StepParts}

-- the bytes of a literal
abbrev pub ref_bytes : LiteralRef → List ℕ
ref_bytes (literal.Byte byte) = byte ∷ []
ref_bytes (literal.Bytes bytes) = bytes.now

-- what is shown, and then the literal
abbrev pub parts_tree : StepParts → Tree
parts_tree parts = all_of (more (shown_tree parts.shown) (more (text_literal (ref_bytes parts.literal)) end))
