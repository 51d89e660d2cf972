use Rattle.std.proofs.Common.{◌∙◌, ◌+◌}
use Rattle.line_streams.specs.Filter.{within}
use Rattle.line_streams.proofs.LinesLemmas.{slice-end}
use Rattle.line_streams.proofs.FilterLemmas.{block_is_appended, block_waits}
use Rattle.line_streams.proofs.filter.append_block.Goals as goal

pub returns-clause-waits : goal.returns-clause-waits
returns-clause-waits g c =
    block_waits c.args.pending.now.items c.args.block.now _ _ _ c.args.end c.in_ok-whole.whole c.requires.held
    c.requires.found (slice-end (c.args.end + 1) c.args.block.now) c.in_ok-whole.ensures.rest c.clear.ensures.items
    c.in_ok-extend_from_slice-2.ensures.items

pub returns-clause-appended : goal.returns-clause-appended
returns-clause-appended g c =
    block_is_appended (within c.args.longest (g.J.LineJob.becomes c.args.job.now)) c.args.pending.now.items c.args.block.now
    c.as_slice.result.now _ c.args.end _ _ c.requires.held c.requires.found
    (c.as_slice.ensures.value ∙ c.in_ok-extend_from_slice.ensures.items) (slice-end (c.args.end + 1) c.args.block.now)
    c.in_ok-whole.ensures.appended
