use Rattle.std.proofs.Common.{refl, rules, ◌≡◌, []}
use Rattle.line_streams.specs.Filter.{within}
use Rattle.line_streams.proofs.PromptLemmas.{BreaksOff-none, BreaksOff-texts, Writes-texts, last_made, on_error}
use Rattle.line_streams.proofs.filter.take_last.Goals as goal

pub returns-in_err-prepare-clause-cut : goal.returns-in_err-prepare-clause-cut
returns-in_err-prepare-clause-cut g c =
    on_error c.from_residual.result (BreaksOff-none (within c.args.longest (g.J.LineJob.becomes c.args.job.now)) _ _ _ refl)

pub returns-in_err-append_lines-clause-cut : goal.returns-in_err-append_lines-clause-cut
returns-in_err-append_lines-clause-cut g c =
    on_error c.from_residual-in_err-append_lines.result (BreaksOff-none (within c.args.longest (g.J.LineJob.becomes c.args.job.now)) _ _ _ refl)

pub returns-clause-written : goal.returns-clause-written
returns-clause-written g c =
    let some : c.args.pending.now.items ≡ [] → ⊥ = search rules in
    Writes-texts c.args.longest (g.J.LineJob.becomes c.args.job.now) (g.J.LineJob.becomes c.prepare.new.self) _ _ _ _ _ _
    c.clear.ensures.items c.as_slice-2.ensures.value c.in_ok-prepare.ensures.stays
    (last_made (within c.args.longest (g.J.LineJob.becomes c.prepare.new.self)) c.args.pending.now.items c.as_slice.result.now _ _ some
    c.as_slice.ensures.value c.in_ok-append_lines.ensures.appended)
    c.in_ok-write_all.ensures.put

pub returns-in_err-write_all-clause-cut : goal.returns-in_err-write_all-clause-cut
returns-in_err-write_all-clause-cut g c =
    let some : c.args.pending.now.items ≡ [] → ⊥ = search rules in
    on_error c.from_residual-in_err-write_all.result
    (BreaksOff-texts c.args.longest (g.J.LineJob.becomes c.args.job.now) (g.J.LineJob.becomes c.prepare.new.self) _ _ _ _ _ _
    c.clear.ensures.items c.as_slice-2.ensures.value c.in_ok-prepare.ensures.stays
    (last_made (within c.args.longest (g.J.LineJob.becomes c.prepare.new.self)) c.args.pending.now.items c.as_slice.result.now _ _ some
    c.as_slice.ensures.value c.in_ok-append_lines.ensures.appended)
    c.in_err-write_all.ensures.cut)
