use Rattle.std.proofs.Common.{◌≡◌, length, take}
use Rattle.std.specs.Str.Parse.{digits_value}
use Rattle.time.specs.Literals.{digits_of}
use Rattle.time.proofs.literals.number_of.Given as goal

-- the number of the digits so far, and how many they are
abbrev pub invariant-loop-byte : goal.invariant-loop-byte
invariant-loop-byte l = record {
  count : l.count ≡ length (digits_of (take l.byte-index l.literal));
  value : l.number ≡ digits_value 10 (take l.count (digits_of l.literal));
}
