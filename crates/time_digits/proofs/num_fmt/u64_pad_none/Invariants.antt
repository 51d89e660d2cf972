use Rattle.time_digits.proofs.TurnLemmas.{IsPending}
use Rattle.time_digits.proofs.num_fmt.u64_pad_none.Given as goal

abbrev pub invariant-loop-rest : goal.invariant-loop-rest
invariant-loop-rest l = IsPending l.value l.rest l.start l.bytes

abbrev pub decreases-loop-rest : goal.decreases-loop-rest
decreases-loop-rest l = l.rest
