-- Texts in pieces, of characters or of bytes.
use Rattle.std.specs.Prelude.{ℕ, List, length, map}
use Rattle.std.specs.List.{flat_map}
use Rattle.std.specs.Borrow.{Bor}

-- pieces, read as one text, the first piece first
abbrev pub joined : List (Bor (List ℕ)) → List ℕ
joined pieces = flat_map (λ piece. piece.now) pieces

-- how many bytes each piece has
abbrev pub piece_lengths : List (Bor (List ℕ)) → List ℕ
piece_lengths pieces = map (λ piece. length piece.now) pieces
