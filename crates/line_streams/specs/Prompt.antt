-- A filter that answers each line before it reads on.
use Rattle.std.specs.Prelude.{ℕ, ◌≡◌, ◌+◌, ◌<◌, ◌≤◌, ◌⊎◌, ◌++◌, List, [], Bool, true, false, Option, None, Some, ⊤, length, take}
use Rattle.line_streams.specs.Lines.{unended_of, EndsAt, IsOneLine}
use Rattle.line_streams.specs.Filter.{all_lines_of, ended_lines_of, within, Become}

-- these are the bytes, where they are known
abbrev pub Knows : Option (List ℕ) → List ℕ → Type 0
Knows None bytes = ⊤
Knows (Some known) bytes = known ≡ bytes

-- what is known grows by some bytes, and what is not known stays so
abbrev pub Grows : Option (List ℕ) → Option (List ℕ) → List ℕ → Type 0
Grows None new bytes = new ≡ None
Grows (Some known) new bytes = new ≡ Some (known ++ bytes)

-- what is known grows by a beginning of these bytes, perhaps by all of them
pub record GrowsInPart (old new : Option (List ℕ)) (bytes : List ℕ) : Type 0 where
  pub sent : List ℕ
  pub missing : List ℕ
  pub in_order : bytes ≡ sent ++ missing
  pub grown : Grows old new sent

-- what these lines became was written
abbrev pub Writes : (List ℕ → List ℕ → Type 0) → List (List ℕ) → Option (List ℕ) → Option (List ℕ) → Type 0
Writes R lines put put' = (text : List ℕ) × Grows put put' text × Become R lines text

-- nothing was read or written
abbrev pub IsFresh : Option (List ℕ) → Option (List ℕ) → Type 0
IsFresh got put = Knows got [] × Knows put []

-- what is written of a line before its end: all of it if it has more than so many bytes, and else nothing
abbrev pub IsEarly : ℕ → List ℕ → List ℕ → Type 0
IsEarly longest line text = (longest < length line → text ≡ line) × (length line ≤ longest → text ≡ [])

-- what was written is what the lines that were read to their ends became, and behind it a line that has not ended, if
-- it is too long to be held
pub record IsPrompt (longest : ℕ) (R : List ℕ → List ℕ → Type 0) (got put : Option (List ℕ)) : Type 0 where
  pub bytes : List ℕ
  pub text : List ℕ
  pub early : List ℕ
  pub read : Knows got bytes
  pub written : Knows put (text ++ early)
  pub became : Become (within longest R) (ended_lines_of bytes) text
  pub unended : IsEarly longest (unended_of bytes) early

-- what was written is what all lines that were read became
pub record HasFiltered (R : List ℕ → List ℕ → Type 0) (got put : Option (List ℕ)) : Type 0 where
  pub bytes : List ℕ
  pub text : List ℕ
  pub read : Knows got bytes
  pub written : Knows put text
  pub became : Become R (all_lines_of bytes) text

-- what was written is a beginning of what some first lines became
pub record HasBegun (R : List ℕ → List ℕ → Type 0) (got put : Option (List ℕ)) : Type 0 where
  pub bytes : List ℕ
  pub lines : List (List ℕ)
  pub others : List (List ℕ)
  pub sent : List ℕ
  pub missing : List ℕ
  pub read : Knows got bytes
  pub written : Knows put sent
  pub in_order : all_lines_of bytes ≡ lines ++ others
  pub became : Become R lines (sent ++ missing)

-- these lines come of a block: what was written of what some first ones became
pub record BreaksOff (R : List ℕ → List ℕ → Type 0) (all : List (List ℕ)) (put put' : Option (List ℕ)) : Type 0 where
  pub lines : List (List ℕ)
  pub others : List (List ℕ)
  pub text : List ℕ
  pub in_order : all ≡ lines ++ others
  pub became : Become R lines text
  pub cut : GrowsInPart put put' text

-- ---- a line that has not ended

-- what was written of it and what waits: the line waits, or it passes, and is written as far as it was read
abbrev pub Waits : ℕ → Bool → List ℕ → List ℕ → List ℕ → Type 0
Waits longest false line early pending = (length line ≤ longest) × (early ≡ []) × (pending ≡ line)
Waits longest true line early pending = (longest < length line) × (early ≡ line) × (pending ≡ [])

-- where lines begin again in a block, if they do: at its start, or behind the line that passes, which is written
abbrev pub PassesOn : Bool → List ℕ → Option ℕ → Option (List ℕ) → Option (List ℕ) → Type 0
PassesOn false block from put put' = (from ≡ Some 0) × (put' ≡ put)
PassesOn true block None put put' = IsOneLine block × Grows put put' block
PassesOn true block (Some from) put put' =
    (end : ℕ) × EndsAt block end × (from ≡ end + 1) × Grows put put' (take from block)

-- bytes of a line that passes: those of a block up to its first line feed, or all of them
abbrev pub IsPassed : List ℕ → List ℕ → Type 0
IsPassed block piece =
    (IsOneLine block × (piece ≡ block)) ⊎ ((end : ℕ) × EndsAt block end × (piece ≡ take (end + 1) block))
