use Rattle.std.proofs.Common.{refl}
use Rattle.movaliren_c.proofs.ItemLemmas.{cleared}
use Rattle.movaliren_c.proofs.MadeLemmas.{nothing_left}
use Rattle.movaliren_c.proofs.description.Description.clear.Goals as goal

pub returns : goal.returns
returns c =
    nothing_left 0 c.make_none.new.array refl
    (cleared c.args.self.now.items c.make_none.new.array c.make_none.ensures.stored c.make_none.ensures.len)
