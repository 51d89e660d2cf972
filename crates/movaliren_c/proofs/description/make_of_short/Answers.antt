use Rattle.std.proofs.Common.{Err, refl}
use Rattle.movaliren_c.proofs.MadeLemmas.{nothing_left, refused_nothing}
use Rattle.movaliren_c.specs.Described.{items_in}
use Rattle.movaliren_c.proofs.description.make_of_short.Goals as goal

pub returns-in-Err-clause-kept : goal.returns-in-Err-clause-kept
returns-in-Err-clause-kept g c =
    let text = c.args.text.now in
    let described = items_in g.S.Reason.Numbered.number text (g.S.Syntax.described text) in
    record {
      counted = Err c.in-Err.reason;
      leaves = c.in-Err.ensures.leaves;
      keeps = (
        refl,
        nothing_left 0 c.describe.new.items refl
            (refused_nothing text described c.in-Err.reason c.describe.new.items c.args.error.now c.describe.new.fault c.in-Err.ensures.leaves),
      );
    }
