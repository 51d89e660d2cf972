use Rattle.std.proofs.Common.{◌≡◌, length, take}
use Rattle.time_show.proofs.FieldsLemmas.{front_and}
use Rattle.time_show.proofs.fields.LineFields.numbers.Given as goal
use Rattle.time_show.specs.Fields.{numbers_of}

-- the numbers so far
abbrev pub invariant-loop-i : goal.invariant-loop-i
invariant-loop-i g l = record {
  size : length l.numbers ≡ l.i-end;
  so_far : numbers_of l.fn.self ≡ front_and (take l.i l.numbers) (numbers_of l.fields);
}
