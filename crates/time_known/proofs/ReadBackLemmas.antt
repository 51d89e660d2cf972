-- A completed text spells the value whose groups were formatted.
use Rattle.std.proofs.Common.{◌≡◌, Bool, true, sym, ap, ◌∙◌, Some, None, arith}
use Rattle.std.proofs.lemmas.Bool.{and_parts}
use Rattle.std.proofs.lemmas.Grind.{common_steps}
use Rattle.time_fmt.specs.Outcome.{Outcome}
use Rattle.time_provide.specs.Real.{AreReal, date_in}
use Rattle.time_known.specs.Groups.{AreAllSupplied, are_supplied, has_groups, all_groups, at_groups}
use Rattle.time_known.specs.Laws.{IsValue, CompletedAreCanonical}
use Rattle.time_known.specs.ReadBack.{ReadsAs}
use Rattle.time_known.specs.Rules.{Rule}
use Rattle.time_known.specs.Values.{Facts, DateFacts, date_facts, the_date, the_time, the_offset, OffsetDateAndTime}
use Rattle.time_known.specs.Values.{Offset, TimeOfDay}
use Rattle.time_known.proofs.OutcomeLemmas.{completed_by_bytes}

-- all three are supplied, where all are needed and none is missing
pub are_all : (date time offset : Bool) → are_supplied all_groups date time offset ≡ true → AreAllSupplied date time offset
are_all date time offset h = grind (arith, common_steps, and_parts)

-- the groups of a value that is real are those of a local date, a time and an offset, and a completed
-- text spells them
pub reads_as : {kept : OffsetDateAndTime → OffsetDateAndTime} {Spells Canonical : OffsetDateAndTime → Rule}
    (of_groups : DateFacts → TimeOfDay → Offset → Outcome)
    → CompletedAreCanonical IsValue (λ v. of_groups (date_facts v.date) v.time v.offset) kept Spells Canonical
    → (f : Facts) → has_groups all_groups f ≡ true → AreReal f → (at_groups of_groups f).refusal ≡ None
    → ReadsAs kept Spells Canonical f (at_groups of_groups f).bytes
reads_as of_groups law f there real complete =
    let date : f.date ≡ Some (the_date f) = grind (arith, common_steps, and_parts) in
    let outcome = at_groups of_groups f in
    let value : OffsetDateAndTime = record { date = date_in (the_date f); time = the_time f; offset = the_offset f } in
    let fits : IsValue value = record { date = real.date.date; time = real.time; offset = real.offset } in
    let same : of_groups (date_facts value.date) value.time value.offset ≡ outcome =
    ap (λ d. of_groups d value.time value.offset) (sym real.date.components) in
    let read = law.completed outcome.bytes value fits (same ∙ completed_by_bytes outcome complete) in
    record {
      value = value;
      fits = fits;
      date = date ∙ ap Some real.date.components;
      time = grind (arith, common_steps, and_parts);
      offset = grind (arith, common_steps, and_parts);
      spelled = read.0;
      canonical = read.1;
    }
