use Rattle.std.proofs.Common.{arith}
use Rattle.std.proofs.lemmas.Grind.{common_steps}
use Rattle.time_known.proofs.iso8601.PartsLemmas.{put_by_choice}
use Rattle.time_known.proofs.iso8601.parts.put_parts.Goals as goal

pub returns-in_err-put_offset-clause-ends : goal.returns-in_err-put_offset-clause-ends
returns-in_err-put_offset-clause-ends g c =
    put_by_choice {mid = g.S.Sink.buffer c.if-has_date.output} {last = g.S.Sink.buffer c.if-has_time.output}
    c.args.config.now (g.V.ComponentProvider.facts c.args.value.now) c.requires.some c.requires.supplied
    (g.met.V.ComponentProvider.groups c.args.value.now) (grind (arith, common_steps)) (grind (arith, common_steps))
    (grind (arith, common_steps))

pub returns-in_ok-put_offset-clause-ends : goal.returns-in_ok-put_offset-clause-ends
returns-in_ok-put_offset-clause-ends g c =
    put_by_choice {mid = g.S.Sink.buffer c.if-has_date.output} {last = g.S.Sink.buffer c.if-has_time.output}
    c.args.config.now (g.V.ComponentProvider.facts c.args.value.now) c.requires.some c.requires.supplied
    (g.met.V.ComponentProvider.groups c.args.value.now) (grind (arith, common_steps)) (grind (arith, common_steps))
    (grind (arith, common_steps))

pub returns-else-has_offset-clause-ends : goal.returns-else-has_offset-clause-ends
returns-else-has_offset-clause-ends g c =
    put_by_choice {mid = g.S.Sink.buffer c.if-has_date.output} {last = g.S.Sink.buffer c.if-has_time.output}
    c.args.config.now (g.V.ComponentProvider.facts c.args.value.now) c.requires.some c.requires.supplied
    (g.met.V.ComponentProvider.groups c.args.value.now) (grind (arith, common_steps)) (grind (arith, common_steps))
    (grind (arith, common_steps))
