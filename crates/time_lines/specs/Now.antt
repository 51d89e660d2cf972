-- What a line becomes before which the moment stands at which it was read.
use Rattle.std.specs.Prelude.{ℕ, ◌≡◌, ◌-◌, ◌++◌, ◌==◌, List, [], ◌∷◌, Option, Some, None, length, get_or, if◌then◌else◌}
use Rattle.time_below.specs.Moment.{Moment}

-- the text with a space (32) behind it, unless it is empty or ends with one
abbrev pub spaced : List ℕ → List ℕ
spaced [] = []
spaced (b ∷ text) =
    if get_or (b ∷ text) (length (b ∷ text) - 1) 0 == 32 then b ∷ text else (b ∷ text) ++ 32 ∷ []

-- what stands before a line
abbrev pub stamp_of : Option (List ℕ) → List ℕ
stamp_of None = []
stamp_of (Some text) = spaced text

-- the stamp is what is shown of some moment, with three decimals of a second
abbrev pub IsStamp : (ℕ → Moment → Option (List ℕ) → Type 0) → List ℕ → Type 0
IsStamp shows stamp = (m : Moment) × ((shown : Option (List ℕ)) × shows 3 m shown × (stamp ≡ stamp_of shown))

-- the line with such a stamp before it
abbrev pub NowBecomes : (ℕ → Moment → Option (List ℕ) → Type 0) → List ℕ → List ℕ → Type 0
NowBecomes shows line text = (stamp : List ℕ) × IsStamp shows stamp × (text ≡ stamp ++ line)
