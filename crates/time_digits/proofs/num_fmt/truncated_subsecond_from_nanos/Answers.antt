use Rattle.std.proofs.Common.{◌≡◌, ◌-◌, ◌∙◌, take, arith, IsAscii}
use Rattle.time_digits.specs.Fraction.{trimmed_fraction}
use Rattle.time_digits.proofs.FractionLemmas.{IsAscii-trimmed_fraction}
use Rattle.time_digits.proofs.WordLemmas.{last_eight_digits, kept_digits}
use Rattle.time_digits.proofs.num_fmt.truncated_subsecond_from_nanos.Goals as goal
use Rattle.time_digits.proofs.num_fmt.truncated_subsecond_from_nanos.Goals.{After-zeros_to_drop-dropped}

pub zeros_to_drop-dropped-requires : goal.zeros_to_drop-dropped-requires
zeros_to_drop-dropped-requires c =
    let chunk = rw c.unwrap-last_eight.ensures at c.last_chunk.ensures.cases in
    record {
      digits = last_eight_digits c.args.n c.nine_digits-bytes.result c.unwrap-last_eight.result.now c.from_le_bytes.result
          c.nine_digits-bytes.ensures chunk.1.same c.from_le_bytes.ensures;
    }

-- what is kept is the trimmed fraction
kept_is_trimmed_fraction : (c : After-zeros_to_drop-dropped) → take (9 - c.zeros_to_drop-dropped.result) c.nine_digits-bytes.result
    ≡ trimmed_fraction c.args.n
kept_is_trimmed_fraction c =
    let chunk = rw c.unwrap-last_eight.ensures at c.last_chunk.ensures.cases in
    kept_digits c.args.n c.nine_digits-bytes.result c.unwrap-last_eight.result.now c.from_le_bytes.result
    c.zeros_to_drop-dropped.result c.nine_digits-bytes.ensures chunk.1.same c.from_le_bytes.ensures
    c.zeros_to_drop-dropped.ensures.value

pub new-requires : goal.new-requires
new-requires c =
    let after = (goal.at.new-requires c).After-zeros_to_drop-dropped in
    let ascii : IsAscii (take (9 - c.zeros_to_drop-dropped.result) c.nine_digits-bytes.result) =
    rw (kept_is_trimmed_fraction after) (IsAscii-trimmed_fraction c.args.n) in
    (omega arith, (omega arith, (omega arith, ascii)))

pub returns-clause-text : goal.returns-clause-text
returns-clause-text c = c.new.ensures ∙ kept_is_trimmed_fraction (goal.at.returns-clause-text c).After-zeros_to_drop-dropped
