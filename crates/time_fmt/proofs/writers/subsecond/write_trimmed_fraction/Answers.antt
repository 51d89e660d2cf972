use Rattle.std.proofs.Common.{sym}
use Rattle.time_digits.proofs.WordLemmas.{last_eight_digits, kept_digits}
use Rattle.time_fmt.proofs.writers.subsecond.write_trimmed_fraction.Goals as goal

pub zeros_to_drop-dropped-requires : goal.zeros_to_drop-dropped-requires
zeros_to_drop-dropped-requires g c =
    let chunk = rw c.unwrap-last_eight.ensures at c.last_chunk.ensures.cases in
    record {
      digits = last_eight_digits c.args.nanosecond c.nine_digits-digits.result c.unwrap-last_eight.result.now
          c.from_le_bytes.result c.nine_digits-digits.ensures chunk.1.same c.from_le_bytes.ensures;
    }

pub write_bytes-requires : goal.write_bytes-requires
write_bytes-requires g c =
    let chunk = rw c.unwrap-last_eight.ensures at c.last_chunk.ensures.cases in
    let kept = kept_digits c.args.nanosecond c.nine_digits-digits.result c.unwrap-last_eight.result.now
    c.from_le_bytes.result c.zeros_to_drop-dropped.result c.nine_digits-digits.ensures chunk.1.same
    c.from_le_bytes.ensures c.zeros_to_drop-dropped.ensures.value in
    record { room = rw kept c.requires.room }

pub returns : goal.returns
returns g c =
    let chunk = rw c.unwrap-last_eight.ensures at c.last_chunk.ensures.cases in
    let kept = kept_digits c.args.nanosecond c.nine_digits-digits.result c.unwrap-last_eight.result.now
    c.from_le_bytes.result c.zeros_to_drop-dropped.result c.nine_digits-digits.ensures chunk.1.same
    c.from_le_bytes.ensures c.zeros_to_drop-dropped.ensures.value in
    record { writes = rw (sym kept) c.write_bytes.ensures.writes }
