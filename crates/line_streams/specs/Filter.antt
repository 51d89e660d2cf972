-- What the lines of a text become, one after another.
use Rattle.std.specs.Prelude.{ℕ, ◌≡◌, ◌<◌, ◌≤◌, ◌↔◌, ◌++◌, List, [], ◌∷◌, length, map}
use Rattle.line_streams.specs.Lines.{whole_lines_of, unended_of, last_line_of, with_line_feed}

-- the lines that have ended, each with its line feed
abbrev pub ended_lines_of : List ℕ → List (List ℕ)
ended_lines_of bytes = map with_line_feed (whole_lines_of bytes)

-- all lines as they stand: each with its line feed, and a last one without
abbrev pub all_lines_of : List ℕ → List (List ℕ)
all_lines_of bytes = ended_lines_of bytes ++ last_line_of (unended_of bytes)

-- each line becomes a text, and these texts one after another are the text
abbrev pub Become : (List ℕ → List ℕ → Type 0) → List (List ℕ) → List ℕ → Type 0
Become R [] text = text ≡ []
Become R (line ∷ lines) text =
    (first : List ℕ) × (others : List ℕ) × (text ≡ first ++ others) × R line first × Become R lines others

-- a line of at most so many bytes, its line feed among them, becomes what it may, and a longer one stays as it is
abbrev pub within : ℕ → (List ℕ → List ℕ → Type 0) → List ℕ → List ℕ → Type 0
within longest R line text = (length line ≤ longest → R line text) × (longest < length line → text ≡ line)

-- a line may become the same as before
abbrev pub Stays : (List ℕ → List ℕ → Type 0) → (List ℕ → List ℕ → Type 0) → Type 0
Stays old new = (line text : List ℕ) → old line text ↔ new line text

-- a text for which this holds was appended
abbrev pub Adds : (List ℕ → Type 0) → List ℕ → List ℕ → Type 0
Adds P old new = (text : List ℕ) × (new ≡ old ++ text) × P text
