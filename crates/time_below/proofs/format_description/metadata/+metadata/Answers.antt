use Rattle.time_below.proofs.NodeLemmas.{next_of, summed_more, smaller_rest}
use Rattle.time_below.proofs.format_description.metadata.+metadata.Goals as goal
use Rattle.time_below.proofs.format_description.metadata.+metadata.Goals.{metadata_of_nodes-in-Some}
use Rattle.time_below.proofs.format_description.metadata.+metadata.Goals.{metadata_of_nodes-in-None}
use Rattle.std.proofs.Common.{arith}

pub metadata_of_nodes-loop-node-preserved : goal.metadata_of_nodes-loop-node-preserved
metadata_of_nodes-loop-node-preserved g t c =
    grind (arith, next_of, smaller_rest, metadata_of_nodes-in-Some, metadata_of_nodes-in-None, summed_more)
