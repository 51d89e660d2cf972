-- How many items a description from a text may have.
use Rattle.std.specs.Prelude.{ℕ}

abbrev pub most_items : ℕ
most_items = 65536
