use Rattle.std.proofs.Common.{arith}
use Rattle.time_known.specs.Iso8601.{iso8601_of}
use Rattle.movaliren_c.proofs.IsoLemmas.{nothing_refused, whole_written}
use Rattle.movaliren_c.proofs.formats.iso8601.write_parts.Goals as goal

pub returns-then-fits : goal.returns-then-fits
returns-then-fits c =
    let config = c.args.config.now in
    let value = c.args.value.now in
    whole_written c.put_at_once.result (iso8601_of config value) c.args.room.now c.put_at_once.new.room
    (nothing_refused config value c.shown_year-year.result (grind arith) c.shown_year-year.ensures.year (grind arith))
    c.put_at_once.ensures.text c.put_at_once.ensures.refused
