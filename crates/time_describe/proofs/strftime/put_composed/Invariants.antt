use Rattle.std.proofs.Common.{[], ◌≡◌, ◌++◌, ℕ, List, length}
use Rattle.time_below.specs.Tree.{Tree}
use Rattle.time_describe.specs.Conversions.{composed}
use Rattle.time_describe.specs.Items.{Adds}
use Rattle.time_describe.proofs.strftime.put_composed.Given as goal

abbrev pub invariant-parts : goal.invariant-parts
invariant-parts g l = record {
  so_far : (added : List Tree) × (l.count ≡ length added) × (added ++ composed l.rest ≡ composed l.text)
      × ((of : List ℕ) → Adds (g.I.Items.Holds of []) l.fn.items l.items added);
  lender : g.I.Items.lender l.items ≡ g.I.Items.lender l.fn.items;
}

abbrev pub decreases-parts : goal.decreases-parts
decreases-parts g l = length l.rest
