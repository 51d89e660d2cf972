use Rattle.std.proofs.Common.{◌≡◌, fold}
use Rattle.time_below.specs.Metadata.{of_nothing, of_both}
use Rattle.time_below.proofs.format_description.metadata.MetadataSum.sum.Given as goal

-- the sum so far
abbrev pub invariant-loop-metadata : goal.invariant-loop-metadata
invariant-loop-metadata g l = l.sum ≡ fold of_both of_nothing l.yielded
