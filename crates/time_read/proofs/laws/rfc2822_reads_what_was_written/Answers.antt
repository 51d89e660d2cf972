use Rattle.time_known.proofs.LawLemmas.{completed_are_canonical}
use Rattle.time_known.proofs.Rfc2822Lemmas.{rfc2822_is_written, rfc2822_one_value}
use Rattle.time_read.proofs.laws.rfc2822_reads_what_was_written.Goals as goal

pub returns : goal.returns
returns c =
    let text = c.args.text.now in
    let law = completed_are_canonical rfc2822_is_written in
    let read = c.in-Ok.ensures.read in
    record {
      read = λ v fits e. rfc2822_one_value text _ _ read (law.completed text v fits e).0;
      written = (law.canonical text _ read).2;
    }

pub unreachable-requires : goal.unreachable-requires
unreachable-requires c = c.in-Err.ensures.refused c.requires.value c.requires.spelled
