use Rattle.std.proofs.Common.{[], ◌≡◌, ◌≤◌, ◌-◌, length}
use Rattle.time_describe.specs.Limit.{most_items}
use Rattle.time_describe.specs.Strftime.{described}
use Rattle.time_describe.specs.StrftimeOutcome.{IsAt}
use Rattle.time_describe.proofs.strftime.StrftimeSyntax.put_all.Given as goal

abbrev pub invariant-parts : goal.invariant-parts
invariant-parts g l = record {
  within : l.at ≤ length l.text;
  few : l.count ≤ most_items;
  held : IsAt l.text l.at l.count (g.I.Items.Holds l.text [] l.items) (described l.text);
  lender : g.I.Items.lender l.items ≡ g.I.Items.lender l.fn.items;
}

abbrev pub decreases-parts : goal.decreases-parts
decreases-parts g l = length l.text - l.at
