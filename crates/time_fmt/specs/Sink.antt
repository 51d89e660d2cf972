-- What a sink holds, and what is put into it.
use base.Fml.{GName}
use Rattle.std.specs.Prelude.{ℕ, ◌≡◌, ◌+◌, ◌≤◌, ◌++◌, List, length, Option, None, vec_len, vec_capacity, Vec}
use Rattle.std.specs.Global.{Global}

-- how many bytes there may be, and what they are borrowed from
pub record Block : Type 0 where
  pub capacity : ℕ
  pub lender : Option GName

-- the bytes, their number, and the memory that they are in
pub record Buffer : Type 0 where
  pub bytes : List ℕ
  pub len : ℕ
  pub block : Block

-- that of a vector
abbrev pub vec_buffer : Vec ℕ Global → Buffer
vec_buffer v = record { bytes = v.items; len = vec_len v; block = record { capacity = vec_capacity v; lender = None } }

-- this many more bytes fit
abbrev pub Fits : Buffer → ℕ → Type 0
Fits buffer width = buffer.len + width ≤ buffer.block.capacity

-- The text was put after the bytes, and the count is its length. The block is unchanged, so that what fits
-- afterwards is less by the length of the text.
pub record Puts (old new : Buffer) (count : ℕ) (text : List ℕ) : Type 0 where
  pub appended : new.bytes ≡ old.bytes ++ text
  pub counted : count ≡ length text
  pub grown : new.len ≡ old.len + length text
  pub block : new.block ≡ old.block
