use Rattle.std.proofs.Common.{None, refl}
use Rattle.time_describe.proofs.PlaceLemmas.{no_place_found}
use Rattle.time_describe.specs.Strftime.{is_percent}
use Rattle.time_describe.proofs.strftime.part.literal_len.Goals as goal

pub returns-in-None-clause-place : goal.returns-in-None-clause-place
returns-in-None-clause-place c = no_place_found is_percent c.args.bytes.now None c.in-None.ensures refl
