use Rattle.std.proofs.Common.{◌≡◌, List, [], length}
use Rattle.time_below.specs.Tree.{Tree}
use Rattle.time_describe.specs.Outcome.{AreOpen, IsEnd}
use Rattle.time_describe.specs.Reading.{Frame, read, outside}
use Rattle.time_describe.proofs.brackets.put_items.Given as goal

abbrev pub invariant-steps : goal.invariant-steps
invariant-steps g l = record {
  end : IsEnd l.text l.rest;
  held : (fs : List Frame) × (items : List Tree) × AreOpen (λ gs. g.I.Items.Holds l.text gs l.items) l.frames.items fs items
      × (read [] outside [] [] l.text ≡ read fs outside items [] l.rest);
  lender : g.I.Items.lender l.items ≡ g.I.Items.lender l.fn.items;
}

abbrev pub decreases-steps : goal.decreases-steps
decreases-steps g l = length l.rest
