use Rattle.std.proofs.Common.{Some, None, refl, ◌∙◌}
use Rattle.line_streams.specs.Filter.{within}
use Rattle.line_streams.proofs.LinesLemmas.{line-found}
use Rattle.line_streams.proofs.FilterLemmas.{no_line_ends, one_line_waits}
use Rattle.line_streams.proofs.PromptLemmas.{BreaksOff-none, BreaksOff-texts, Writes-none, Writes-texts, on_error}
use Rattle.line_streams.proofs.filter.take_block.Goals as goal

pub returns-in_default-clause-waits : goal.returns-in_default-clause-waits
returns-in_default-clause-waits g c =
    c.in_ok-extend_from_slice.ensures.items
    ∙ one_line_waits c.args.pending.now.items c.args.block.now c.requires.held
    (line-found c.args.block.now None c.in_default.ensures)

pub returns-in_default-clause-written : goal.returns-in_default-clause-written
returns-in_default-clause-written g c =
    Writes-none (within c.args.longest (g.J.LineJob.becomes c.args.job.now)) _ _ _ refl
    (no_line_ends c.args.pending.now.items c.args.block.now c.requires.held
    (line-found c.args.block.now None c.in_default.ensures))

pub append_block-requires-clause-found : goal.append_block-requires-clause-found
append_block-requires-clause-found g c = line-found c.args.block.now (Some c.in-Some.end) c.in-Some.ensures

pub returns-clause-written : goal.returns-clause-written
returns-clause-written g c =
    Writes-texts c.args.longest (g.J.LineJob.becomes c.args.job.now) (g.J.LineJob.becomes c.prepare.new.self) _ _ _ _ _ _
    c.clear.ensures.items c.as_slice.ensures.value c.in_ok-prepare.ensures.stays c.in_ok-append_block.ensures.appended
    c.in_ok-write_all.ensures.put

pub returns-in_err-write_all-clause-cut : goal.returns-in_err-write_all-clause-cut
returns-in_err-write_all-clause-cut g c =
    on_error c.from_residual-in_err-write_all.result
    (BreaksOff-texts c.args.longest (g.J.LineJob.becomes c.args.job.now) (g.J.LineJob.becomes c.prepare.new.self) _ _ _ _ _ _
    c.clear.ensures.items c.as_slice.ensures.value c.in_ok-prepare.ensures.stays c.in_ok-append_block.ensures.appended
    c.in_err-write_all.ensures.cut)

pub returns-in_err-extend_from_slice-clause-cut : goal.returns-in_err-extend_from_slice-clause-cut
returns-in_err-extend_from_slice-clause-cut g c =
    on_error _ (BreaksOff-none (within c.args.longest (g.J.LineJob.becomes c.args.job.now)) _ _ _ refl)

pub returns-in_err-prepare-clause-cut : goal.returns-in_err-prepare-clause-cut
returns-in_err-prepare-clause-cut g c =
    on_error _ (BreaksOff-none (within c.args.longest (g.J.LineJob.becomes c.args.job.now)) _ _ _ refl)

pub returns-in_err-append_block-clause-cut : goal.returns-in_err-append_block-clause-cut
returns-in_err-append_block-clause-cut g c =
    on_error _ (BreaksOff-none (within c.args.longest (g.J.LineJob.becomes c.args.job.now)) _ _ _ refl)
