-- The fields of a line, and the numbers that fields spell.
use Rattle.std.specs.Prelude.{ℕ, ℤ, pos, neg_ℤ, Option, Some, None, List, [], ◌∷◌, length, Bool, ◌==◌, ◌&&◌}
use Rattle.std.specs.Prelude.{nat_lt, nat_le, if◌then◌else◌, option_map}
use Rattle.std.specs.List.{slice_split, list_all}
use Rattle.std.proofs.Common.{Bor}
use Rattle.std.specs.Char.{is_ascii_digit}
use Rattle.std.specs.Str.Parse.{digits_value}

-- whether the byte stands between two fields
abbrev pub is_space : ℕ → Bool
is_space b = b == 32

-- what is between the spaces: two spaces in a row have an empty field between them
abbrev pub fields_of : List ℕ → List (List ℕ)
fields_of line = slice_split is_space line

-- the byte before the digits of a negative number
abbrev pub minus : ℕ
minus = 45

-- one to nine decimal digits
abbrev pub is_natural : List ℕ → Bool
is_natural field = nat_lt 0 (length field) && nat_le (length field) 9 && list_all is_ascii_digit field

-- the number that one to nine decimal digits spell
abbrev pub natural_of : List ℕ → Option ℕ
natural_of field = if is_natural field then Some (digits_value 10 field) else None

-- the number that a field spells: a minus sign may stand before its digits
abbrev pub number_of : List ℕ → Option ℤ
number_of [] = None
number_of (b ∷ digits) =
    if b == minus then option_map (λ n. neg_ℤ (pos n)) (natural_of digits) else option_map pos (natural_of (b ∷ digits))

-- the number before the others, where all of them are numbers
abbrev pub onto_numbers : Option ℤ → Option (List ℤ) → Option (List ℤ)
onto_numbers None numbers = None
onto_numbers (Some number) numbers = option_map (λ others. number ∷ others) numbers

-- the numbers that the fields spell, where each field spells one
abbrev pub numbers_of : List (List ℕ) → Option (List ℤ)
numbers_of [] = Some []
numbers_of (field ∷ fields) = onto_numbers (number_of field) (numbers_of fields)

-- the fields of what is left of a line
abbrev pub fields_left : Option (Bor (List ℕ)) → List (List ℕ)
fields_left None = []
fields_left (Some rest) = fields_of rest.now
