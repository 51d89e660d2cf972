use Rattle.std.proofs.Common.{◌==◌}
use Rattle.time_describe.proofs.PlaceLemmas.{after_place}
use Rattle.time_describe.proofs.brackets.pieces.key_and_value.Goals as goal

pub returns-in-Some-clause-value : goal.returns-in-Some-clause-value
returns-in-Some-clause-value c = after_place (λ b. b == 58) c.args.word.now c.split_at.result.1.now c.in-Some.place c.in-Some.ensures c.split_at.ensures.back
