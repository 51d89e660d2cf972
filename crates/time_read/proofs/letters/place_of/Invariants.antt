use Rattle.std.proofs.Common.{◌≡◌, ℕ, ◌<◌, ◌≤◌, ◌-◌, [], ◌∷◌, length}
use Rattle.std.specs.Prelude.{slice_index_or}
use Rattle.time_read.specs.Names.{list_of}
use Rattle.time_read.proofs.letters.place_of.Given as goal

-- no name before the place has these letters
abbrev pub invariant-loop-place : goal.invariant-loop-place
invariant-loop-place l = record {
  most : l.place ≤ length (list_of l.names);
  none : (k : ℕ) → k < l.place → slice_index_or (list_of l.names) k [] ≡ l.first ∷ l.second ∷ l.third ∷ [] → ⊥;
}

abbrev pub decreases-loop-place : goal.decreases-loop-place
decreases-loop-place l = length (list_of l.names) - l.place
