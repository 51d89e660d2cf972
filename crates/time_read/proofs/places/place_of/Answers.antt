use Rattle.time_read.specs.Profiles.{ReadsAs}
use Rattle.time_read.proofs.Wholes.{is_refused, left_within}
use Rattle.time_read.proofs.places.place_of.Goals as goal

pub place_of_fault-requires-clause-left : goal.place_of_fault-requires-clause-left
place_of_fault-requires-clause-left c = left_within c.args.text.now c.args.fault c.requires

pub returns : goal.returns
returns c =
    is_refused (ReadsAs c.args._profile) 17 c.args.text.now c.args.fault _ c.place_of_fault.ensures.at
    c.place_of_fault.ensures.expected c.place_of_fault.ensures.second_60 c.requires
