use Rattle.std.proofs.Common.{◌++◌, ◌∙◌, append_assoc, refl}
use Rattle.time_lines.proofs.now.NowJobLineJob.append.Goals as goal

pub returns-clause-appended : goal.returns-clause-appended
returns-clause-appended g c =
    let stamp = c.args.self.now.stamp.items in (
      stamp ++ c.args.line.now,
      c.in_ok-extend_from_slice-2.ensures.items
          ∙ rw (c.in_ok-extend_from_slice.ensures.items, c.as_slice.ensures.value)
          (append_assoc c.args.output.now.items stamp c.args.line.now),
      (stamp, c.requires.ready, refl),
    )
