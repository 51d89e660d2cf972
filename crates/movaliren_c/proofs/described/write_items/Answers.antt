use Rattle.std.proofs.Common.{arith}
use Rattle.movaliren_c.proofs.DescribedLemmas.{put_shown, refusal_shown}
use Rattle.movaliren_c.specs.Items.{trees_of}
use Rattle.time_fmt.proofs.RoomLemmas.{room_written}
use Rattle.movaliren_c.proofs.described.write_items.Goals as goal

pub returns-in-Ok-clause-shown : goal.returns-in-Ok-clause-shown
returns-in-Ok-clause-shown g c = grind (arith, room_written, put_shown)

pub returns-in-Err-clause-shown : goal.returns-in-Err-clause-shown
returns-in-Err-clause-shown g c =
    rw c.first_reason.ensures (refusal_shown (trees_of c.args.texts.now c.args.items.now) _ _ _ _ _ _ c.in-Err.ensures.puts)
