use Rattle.time_read.proofs.IsoLemmas.{one_stamp}
use Rattle.time_read.proofs.laws.stamp_reads_what_was_written.Goals as goal

pub returns : goal.returns
returns c =
    let text = c.args.text.now in
    let read = c.in-Ok.ensures.read in
    record { read = λ v has e. one_stamp text _ v read (record { has = has; is = e }); written = read.is }

pub unreachable-requires : goal.unreachable-requires
unreachable-requires c = c.in-Err.ensures.refused c.requires.value c.requires.spelled
