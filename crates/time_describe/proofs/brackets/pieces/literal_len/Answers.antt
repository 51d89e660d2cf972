use Rattle.std.proofs.Common.{None, refl}
use Rattle.time_describe.specs.Pieces.{ends_literal}
use Rattle.time_describe.proofs.PlaceLemmas.{no_place_found}
use Rattle.time_describe.proofs.brackets.pieces.literal_len.Goals as goal

pub returns-in-None-clause-place : goal.returns-in-None-clause-place
returns-in-None-clause-place c = no_place_found (ends_literal c.args.in_list) c.args.bytes.now None c.in-None.ensures refl
