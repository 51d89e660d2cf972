use Rattle.time_read.specs.Shapes.{Two}
use Rattle.time_read.proofs.Numbers.{begins_two, byte_then_after, byte_then_first, no_two_behind}
use Rattle.time_read.proofs.digits.pair_after_fault.Goals as goal

pub pair_fault-requires-clause-none : goal.pair_fault-requires-clause-none
pair_fault-requires-clause-none c =
    no_two_behind c.args.before c.args.least c.args.greatest c.args.text.now _ c.requires.none c.in-Ok.ensures.read

pub returns-in-Ok : goal.returns-in-Ok
returns-in-Ok c =
    byte_then_after (Two c.args.least c.args.greatest) c.args.before c.in-Ok.ensures.read c.pair_fault.ensures

pub returns-in-Err : goal.returns-in-Err
returns-in-Err c =
    byte_then_first 2 (Two c.args.least c.args.greatest) c.args.before
    (begins_two c.args.least c.args.greatest (c.requires.order, c.requires.pairs)) c.in-Err.ensures.fault
