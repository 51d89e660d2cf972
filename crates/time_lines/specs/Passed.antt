-- The lines of a run, and the first of them that passed as it was.
use Rattle.std.specs.Prelude.{ℕ, ◌+◌, ◌%◌, ◌^◌, Option, Some, None}
use Rattle.time_lines.specs.declared.passed.FirstPassed.{FirstPassed}
use Rattle.time_lines.specs.declared.passed.Passed.{Passed}

-- one more, modulo 2^64
abbrev pub up : ℕ → ℕ
up count = (count + 1) % 2 ^ 64

-- what is kept where there is one more: the one that was kept before, if there is one
abbrev pub first_kept : Option FirstPassed → FirstPassed → Option FirstPassed
first_kept (Some kept) more = Some kept
first_kept None more = Some more

-- after one more line
abbrev pub begun : Passed → Passed
begun passed = record { lines = up passed.lines; count = passed.count; first = passed.first }
