-- The item of a run of bytes: a text where the bytes are UTF-8.
use Rattle.std.specs.Prelude.{ℕ, List, if◌then◌else◌}
use Rattle.std.specs.Str.{is_utf8}
use Rattle.time_below.specs.Tree.{Tree, byte_literal, text_literal}

unfoldable pub literal_of : List ℕ → Tree
literal_of bytes = if is_utf8 bytes then text_literal bytes else byte_literal bytes
