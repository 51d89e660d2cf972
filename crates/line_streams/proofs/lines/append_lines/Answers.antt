use Rattle.std.proofs.Common.{Some, None}
use Rattle.line_streams.specs.Lines.{EndsAt, IsOneLine}
use Rattle.line_streams.proofs.LinesLemmas.{line-found}
use Rattle.line_streams.proofs.FilterLemmas.{all_has_gone, line_has_gone, rest_of_text}
use Rattle.line_streams.proofs.lines.append_lines.Goals as goal

pub loop-end-preserved : goal.loop-end-preserved
loop-end-preserved g c =
    let i = c.loop-end.invariant.gone in
    let ends : EndsAt c.loop-end.rest.now c.in-Some.end = line-found c.loop-end.rest.now (Some c.in-Some.end)
    c.in-Some.ensures in
    record {
      ready = c.in_ok-append_line.ensures.ready;
      gone = line_has_gone c.args.longest (g.J.LineJob.becomes c.args.job.now) (g.J.LineJob.becomes c.loop-end.job)
          (g.J.LineJob.becomes c.append_line.new.job) c.args.first.now c.args.text.now c.loop-end.line.now i.0
          c.loop-end.rest.now c.in-Some.end _ _ _ i.1 i.2 i.3 i.4 ends c.in_ok-append_line.ensures.stays
          c.in_ok-append_line.ensures.appended;
    }

pub returns-in_default-clause-rest : goal.returns-in_default-clause-rest
returns-in_default-clause-rest g c =
    let i = c.loop-end.invariant.gone in
    let one : IsOneLine c.loop-end.rest.now = line-found c.loop-end.rest.now None c.in_default.ensures in
    rest_of_text _ i.0 c.loop-end.rest.now i.1 i.2 one

pub returns-in_default-clause-appended : goal.returns-in_default-clause-appended
returns-in_default-clause-appended g c =
    let i = c.loop-end.invariant.gone in
    let one : IsOneLine c.loop-end.rest.now = line-found c.loop-end.rest.now None c.in_default.ensures in
    all_has_gone c.args.longest (g.J.LineJob.becomes c.args.job.now) (g.J.LineJob.becomes c.loop-end.job) c.args.first.now
    c.args.text.now c.loop-end.line.now c.loop-end.rest.now _ _ _ i.3 i.4 one c.in_ok-append_line.ensures.appended
