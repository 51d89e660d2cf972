use Rattle.std.proofs.Common.{arith}
use Rattle.std.proofs.lemmas.Str.{is_utf8-from_IsUtf8}
use Rattle.time_plan.proofs.StepLemmas.{one_byte}
use Rattle.time_plan.proofs.runs.byte_of.Goals as goal

pub returns-in-len1-clause-text : goal.returns-in-len1-clause-text
returns-in-len1-clause-text g c =
    rw (one_byte c.as_bytes.result.now (omega (arith, c.in-len1.len_at_least)) (omega (arith, c.in-len1.len_below)))
    (is_utf8-from_IsUtf8 _ c.as_bytes.ensures.utf8)
