use Rattle.time_read.proofs.PartLemmas.{clock_first, clock_minute, clock_second, clock_front}
use Rattle.time_read.proofs.parts.clock.Goals as goal

pub returns-in-Err-clause-fault : goal.returns-in-Err-clause-fault
returns-in-Err-clause-fault c =
    clock_first c.args.text.now _ c.in-Err.ensures.fault

pub returns-in-Err-pair_after-clause-fault : goal.returns-in-Err-pair_after-clause-fault
returns-in-Err-pair_after-clause-fault c =
    clock_minute _ c.args.text.now _ _ c.in-Ok.ensures.read c.in-Err-pair_after.ensures.fault

pub returns-in-Err-pair_after-2-clause-fault : goal.returns-in-Err-pair_after-2-clause-fault
returns-in-Err-pair_after-2-clause-fault c =
    clock_second _ _ c.args.text.now _ _ _ c.in-Ok.ensures.read c.in-Ok-pair_after.ensures.read c.in-Err-pair_after-2.ensures.fault

pub returns-clause-read : goal.returns-clause-read
returns-clause-read c = clock_front _ _ _ c.args.text.now _ _ _ c.in-Ok.ensures.read c.in-Ok-pair_after.ensures.read c.in-Ok-pair_after-2.ensures.read
