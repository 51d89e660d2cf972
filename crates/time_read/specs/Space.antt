-- White space and comments in mail (RFC 5322, sections 3.2.2 and 4.2).
use Rattle.std.specs.Prelude.{◌≡◌, ◌≢◌, ℕ, ◌+◌, ◌-◌, Bool, false, ◌||◌, ◌==◌, if◌then◌else◌}
use Rattle.std.specs.Prelude.{Option, Some, None, List, [], ◌∷◌}
use Rattle.std.specs.Option.{option_and_then}
use Rattle.time_known.specs.Rules.{Rule, Literal, ◌▹◌}
use Rattle.time_read.specs.declared.space.Depth.{Depth}

-- outside of comments
abbrev pub outside : Depth
outside = record { depth = 0; is_escaped = false }

-- a blank, a tab, or a byte of a line end
abbrev pub is_white : ℕ → Bool
is_white b = (b == 32) || ((b == 9) || ((b == 10) || (b == 13)))

-- the depth after one byte of white space or of a comment, which may nest; none where the byte is
-- neither
abbrev pub after_byte : Depth → ℕ → Option Depth
after_byte d b =
    if d.is_escaped then Some (record d { is_escaped = false })
    else (if b == 40 then Some (record d { depth = d.depth + 1 })
    else (if d.depth == 0 then (if is_white b then Some d else None)
    else (if b == 41 then Some (record d { depth = d.depth - 1 })
    else Some (record d { is_escaped = b == 92 }))))

-- the depth after these bytes, if each is of white space or of a comment
unfoldable pub depth_after : Depth → List ℕ → Option Depth
depth_after d [] = Some d
depth_after d (b ∷ bs) = option_and_then (λ e. depth_after e bs) (after_byte d b)

-- [CFWS]: white space and whole comments, or nothing
abbrev pub IsSpace : Rule
IsSpace text = depth_after outside text ≡ Some outside

-- CFWS, of one byte at least
abbrev pub IsGap : Rule
IsGap text = IsSpace text × (text ≢ [])

-- this byte, between white space and comments
abbrev pub Mark : ℕ → Rule
Mark byte = IsSpace ▹ Literal (byte ∷ []) ▹ IsSpace
