-- Spare capacity at the end of a vector of bytes, and what is written into it.
use Rattle.std.specs.Prelude.{ℕ, ◌≡◌, ◌+◌, ◌*◌, ◌<◌, ◌≤◌, Bool, true, false, max, vec_len, vec_capacity, Vec}
use Rattle.std.specs.Global.{Global}
use Rattle.time_fmt.specs.Sink.{Fits, vec_buffer}

-- the capacity leaves this many bytes after what is there
abbrev pub HasRoom : Vec ℕ Global → ℕ → Type 0
HasRoom output width = Fits (vec_buffer output) width

-- the capacity that one reservation of this many bytes makes: twice what it was, or what is needed if that is more
abbrev pub grown_capacity : Vec ℕ Global → ℕ → ℕ
grown_capacity output width = max (2 * vec_capacity output) (vec_len output + width)

-- One reservation of this many bytes leads to the capacity: the same one where they fit or where the memory was refused,
-- else what is needed, or twice what it was if that is more.
pub record Reserves (output : Vec ℕ Global) (width capacity : ℕ) (is_refused : Bool) : Type 0 where
  pub in_place : HasRoom output width → capacity ≡ vec_capacity output
  pub grown : vec_capacity output ≤ capacity
  pub bounded : capacity ≤ grown_capacity output width
  pub doubled : is_refused ≡ false → vec_capacity output < vec_len output + width → grown_capacity output width ≤ capacity
  pub refused : is_refused ≡ true → capacity ≡ vec_capacity output
