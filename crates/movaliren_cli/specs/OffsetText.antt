-- The offset that a word of the command line is (ISO 8601-1:2019, 4.3.13).
use Rattle.std.specs.Prelude.{ℕ, ◌+◌, ◌-◌, ◌*◌, Bool, true, false, ◌&&◌, ◌||◌, ◌==◌, nat_le, List, [], ◌∷◌, Option, Some, None, if◌then◌else◌}
use Rattle.std.specs.Char.{is_ascii_digit}
use Rattle.time_below.specs.Offset.{Offset, signed, utc}

-- the number of two digits, if they are digits
abbrev pub pair : ℕ → ℕ → Option ℕ
pair tens ones =
    if is_ascii_digit tens && is_ascii_digit ones then Some ((tens - 48) * 10 + (ones - 48)) else None

-- the offset of parts with one sign, if each is in its range: at most 25:59:59
abbrev pub offset_of_parts : Bool → Option ℕ → Option ℕ → Option ℕ → Option Offset
offset_of_parts is_negative (Some h) (Some m) (Some s) =
    if nat_le h 25 && nat_le m 59 && nat_le s 59 then Some (record {
      hours = signed is_negative h;
      minutes = signed is_negative m;
      seconds = signed is_negative s;
    }) else None
offset_of_parts _ _ _ _ = None

-- the offset of `5`, `05`, `5:30`, `0530`, `05:30` or `05:30:15` with a sign
abbrev pub offset_of_digits : Bool → List ℕ → Option Offset
offset_of_digits sign (a ∷ []) = offset_of_parts sign (pair 48 a) (Some 0) (Some 0)
offset_of_digits sign (a ∷ b ∷ []) = offset_of_parts sign (pair a b) (Some 0) (Some 0)
offset_of_digits sign (a ∷ b ∷ c ∷ d ∷ []) =
    if b == 58 then offset_of_parts sign (pair 48 a) (pair c d) (Some 0)
    else offset_of_parts sign (pair a b) (pair c d) (Some 0)
offset_of_digits sign (a ∷ b ∷ x ∷ c ∷ d ∷ []) =
    if x == 58 then offset_of_parts sign (pair a b) (pair c d) (Some 0) else None
offset_of_digits sign (a ∷ b ∷ x ∷ c ∷ d ∷ y ∷ e ∷ f ∷ []) =
    if (x == 58) && (y == 58) then offset_of_parts sign (pair a b) (pair c d) (pair e f) else None
offset_of_digits _ _ = None

-- the offset of a word: `Z` or `z`, or a sign before the digits
abbrev pub offset_of_word : List ℕ → Option Offset
offset_of_word (x ∷ []) = if (x == 90) || (x == 122) then Some utc else None
offset_of_word (x ∷ rest) =
    if x == 43 then offset_of_digits false rest
    else (if x == 45 then offset_of_digits true rest else None)
offset_of_word [] = None
