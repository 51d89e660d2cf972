-- Bytes read as text.
use Rattle.std.specs.Prelude.{ℕ, List, ◌⊎◌, IsSome, IsUtf8, encode_utf8_all}
use Rattle.bstr.specs.Utf8.{lossy_chars}
use Rattle.time_fmt.specs.Outcome.{Outcome}

-- the reading as UTF-8 in which each maximal part of an ill-formed sequence becomes one U+FFFD
-- (The Unicode Standard, Table 3-7); valid bytes are read as they are
abbrev pub lossy_text : List ℕ → List ℕ
lossy_text bytes = encode_utf8_all (lossy_chars bytes)

-- nothing is allocated for the reading of its bytes
abbrev pub IsRefusedOrText : Outcome → Type 0
IsRefusedOrText o = IsSome o.refusal ⊎ IsUtf8 o.bytes
