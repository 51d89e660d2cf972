use Rattle.std.proofs.Common.{None, refl}
use Rattle.time_describe.specs.Reading.{ends_word}
use Rattle.time_describe.proofs.PlaceLemmas.{no_place_found}
use Rattle.time_describe.proofs.brackets.pieces.word_len.Goals as goal

pub returns-in-None-clause-place : goal.returns-in-None-clause-place
returns-in-None-clause-place c = no_place_found ends_word c.args.bytes.now None c.in-None.ensures refl
