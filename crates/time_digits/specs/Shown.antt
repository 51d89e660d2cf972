-- The texts that short arrays show.
use Rattle.std.specs.Prelude.{ℕ, List, take, drop}
use Rattle.time_digits.specs.declared.stack_str.StackStr.{StackStr}
use Rattle.time_digits.specs.declared.stack_str.StackTrailingStr.{StackTrailingStr}

-- the first bytes of the array
abbrev pub shown : {n : ℕ} → StackStr n → List ℕ
shown text = take text.len text.bytes

-- the last bytes of the array
abbrev pub shown_end : {n : ℕ} → StackTrailingStr n → List ℕ
shown_end text = drop text.start text.bytes
