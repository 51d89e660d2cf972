-- The bytes at which items begin.
use Rattle.std.specs.Prelude.{ℕ, suc, zero, ◌+◌, Bool, List, [], ◌∷◌, length, Option, Some, None, if◌then◌else◌}

-- how many bytes are left from the first one on that passes the test where so many before it do
unfoldable pub past : (ℕ → Bool) → ℕ → List ℕ → Option ℕ
past begins n [] = None
past begins zero (b ∷ bs) = if begins b then Some (length bs + 1) else past begins zero bs
past begins (suc n) (b ∷ bs) = if begins b then past begins n bs else past begins (suc n) bs
