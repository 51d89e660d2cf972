-- One more byte of a text, and its lines.
use Rattle.std.proofs.Common.{ℕ, ◌≡◌, ◌++◌, List, [], ◌∷◌, false, inl, inr, refl, ap, arith}
use Rattle.std.proofs.lemmas.Bool.Decides.{eqb_tells}
use Rattle.std.proofs.lemmas.Grind.{common_steps}
use Rattle.std.specs.List.{slice_split, onto_first}
use Rattle.time_show.specs.Lines.{is_line_feed, ended_parts, last_part, whole_lines_of, unended_of}

-- the parts of a text
abbrev parts_of : List ℕ → List (List ℕ)
parts_of bytes = slice_split is_line_feed bytes

-- a list of parts that is not empty
record SomeParts (parts : List (List ℕ)) : Type 0 where
  first : List ℕ
  others : List (List ℕ)
  whole : parts ≡ first ∷ others

onto_first-some : (b : ℕ) (parts : List (List ℕ)) → SomeParts (onto_first b parts)
onto_first-some b [] = record { first = b ∷ []; others = []; whole = refl }
onto_first-some b (part ∷ parts) = record { first = b ∷ part; others = parts; whole = refl }

some_parts : (bytes : List ℕ) → SomeParts (parts_of bytes)
some_parts [] = record { first = []; others = []; whole = refl }
some_parts (b ∷ bytes) = elim (eqb_tells b 10) [
  | inl is ↦ rw is.0 (record { first = []; others = parts_of bytes; whole = refl })
  | inr other ↦ rw other.0 (onto_first-some b (parts_of bytes))
]

-- the text goes to the end of a part, and a text's parts go on from there
abbrev joined_parts : List ℕ → List (List ℕ) → List (List ℕ)
joined_parts rest [] = rest ∷ []
joined_parts rest (part ∷ parts) = (rest ++ part) ∷ parts

onto_first-joined : (b : ℕ) (parts more : List (List ℕ)) → SomeParts parts → SomeParts more →
    onto_first b (ended_parts parts ++ joined_parts (last_part parts) more)
    ≡ ended_parts (onto_first b parts) ++ joined_parts (last_part (onto_first b parts)) more
onto_first-joined b [] more some more_some = absurd (cc some.whole)
onto_first-joined b (part ∷ []) more some more_some = rw more_some.whole refl
onto_first-joined b (part ∷ next ∷ others) more some more_some = refl

after_line_feed : (parts more : List (List ℕ)) → SomeParts parts →
    [] ∷ (ended_parts parts ++ joined_parts (last_part parts) more)
    ≡ ended_parts ([] ∷ parts) ++ joined_parts (last_part ([] ∷ parts)) more
after_line_feed parts more some = rw some.whole refl

-- the parts of a longer text are those but the last, the last with the bytes that come, and the parts of these
parts_of-append : (bytes more : List ℕ) → parts_of (bytes ++ more)
    ≡ ended_parts (parts_of bytes) ++ joined_parts (last_part (parts_of bytes)) (parts_of more)
parts_of-append [] more = rw (some_parts more).whole refl
parts_of-append (b ∷ bytes) more = elim (eqb_tells b 10) [
  | inl is ↦ rw (is.0, parts_of-append bytes more) (after_line_feed (parts_of bytes) (parts_of more) (some_parts bytes))
  | inr other ↦ rw (other.0, parts_of-append bytes more)
      (onto_first-joined b (parts_of bytes) (parts_of more) (some_parts bytes) (some_parts more))
]

ended_parts-append : (parts : List (List ℕ)) (part : List ℕ) (more : List (List ℕ))
    → ended_parts (parts ++ part ∷ more) ≡ parts ++ ended_parts (part ∷ more)
ended_parts-append [] part more = refl
ended_parts-append (first ∷ []) part more = refl
ended_parts-append (first ∷ next ∷ parts) part more =
    ap (λ others. first ∷ others) (ended_parts-append (next ∷ parts) part more)

last_part-append : (parts : List (List ℕ)) (part : List ℕ) (more : List (List ℕ))
    → last_part (parts ++ part ∷ more) ≡ last_part (part ∷ more)
last_part-append [] part more = refl
last_part-append (first ∷ []) part more = refl
last_part-append (first ∷ next ∷ parts) part more = last_part-append (next ∷ parts) part more

-- a line feed ends the last line
pub whole_lines_of-ended : (bytes : List ℕ)
    → whole_lines_of (bytes ++ 10 ∷ []) ≡ whole_lines_of bytes ++ unended_of bytes ∷ []
whole_lines_of-ended bytes = grind (arith, common_steps, parts_of-append, ended_parts-append)

pub unended_of-ended : (bytes : List ℕ) → unended_of (bytes ++ 10 ∷ []) ≡ []
unended_of-ended bytes = grind (arith, common_steps, parts_of-append, last_part-append)

-- another byte goes to the end of the last line
pub whole_lines_of-byte : (bytes : List ℕ) (b : ℕ) → is_line_feed b ≡ false
    → whole_lines_of (bytes ++ b ∷ []) ≡ whole_lines_of bytes
whole_lines_of-byte bytes b other = grind (arith, common_steps, parts_of-append, ended_parts-append)

pub unended_of-byte : (bytes : List ℕ) (b : ℕ) → is_line_feed b ≡ false
    → unended_of (bytes ++ b ∷ []) ≡ unended_of bytes ++ b ∷ []
unended_of-byte bytes b other = grind (arith, common_steps, parts_of-append, last_part-append)

-- the lines of a text stay when more comes
pub whole_lines_of-more : (bytes more : List ℕ)
    → (others : List (List ℕ)) × (whole_lines_of (bytes ++ more) ≡ whole_lines_of bytes ++ others)
whole_lines_of-more bytes more =
    let some = some_parts more in (
      ended_parts ((unended_of bytes ++ some.first) ∷ some.others),
      rw (parts_of-append bytes more, some.whole)
          (ended_parts-append (whole_lines_of bytes) (unended_of bytes ++ some.first) some.others),
    )
