use Rattle.std.proofs.Common.{◌≡◌, drop}
use Rattle.time_describe.specs.Values.{whole_number}
use Rattle.time_describe.proofs.brackets.values.whole_number.Given as goal

abbrev pub invariant-loop-digit : goal.invariant-loop-digit
invariant-loop-digit l = whole_number l.number (drop l.digit-index l.digits) ≡ whole_number 0 l.digits
