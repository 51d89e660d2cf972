use Rattle.std.proofs.lemmas.Str.{is_utf8-from_IsUtf8}
use Rattle.time_plan.specs.Literal.{literal_bytes}
use Rattle.time_plan.proofs.step.Step.end_with.Goals as goal

pub invariant_of-t-4 : goal.invariant_of-t-4
invariant_of-t-4 c = record { utf8 = λ h. is_utf8-from_IsUtf8 (literal_bytes c.args.literal) (c.requires.utf8 h) }
