use Rattle.time_fmt.proofs.WriteLemmas.{adds_after_room, counted_by_length}
use Rattle.time_fmt.proofs.formattable.parts.Tuple2Formattable.format_into.Goals as goal

pub returns-in-Ok-clause-appends : goal.returns-in-Ok-clause-appends
returns-in-Ok-clause-appends g c = λ _. rw c.put_back.ensures.put (adds_after_room c.args.output.now c.make_room.new.output
    c.write_into-written.new.output c.make_room.ensures.items c.make_room.ensures.len
    (rw c.take_out-taken.ensures.taken at (counted_by_length c.len-begin.result c.len-end.result c.in-Ok.ensures.appends c.len-begin.ensures c.len-end.ensures)))

pub returns-in-Err-clause-appends : goal.returns-in-Err-clause-appends
returns-in-Err-clause-appends g c = λ _. rw c.put_back.ensures.put (adds_after_room c.args.output.now c.make_room.new.output
    c.write_into-written.new.output c.make_room.ensures.items c.make_room.ensures.len
    (rw c.take_out-taken.ensures.taken at c.in-Err.ensures.appends))
