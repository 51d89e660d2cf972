-- More bytes of a text, and its lines.
use Rattle.std.proofs.Common.{ℕ, suc, ◌+◌, ◌-◌, ◌<◌, ◌≤◌, ◌==◌, ◌≡◌, ◌≢◌, ◌++◌, List, [], ◌∷◌, length, take, drop}
use Rattle.std.proofs.Common.{get_or, Option, Some, None, true, inl, inr, refl, ap, sym, ◌∙◌, add-one, append-nil}
use Rattle.std.proofs.Common.{append_assoc, arith}
use Rattle.std.proofs.Math.Seq.{drop-cons}
use Rattle.std.proofs.lemmas.Grind.{common_steps, pieces}
use Rattle.std.proofs.lemmas.List.{take_all, take_more, take-append-drop}
use Rattle.std.proofs.lemmas.List.Quantifiers.{position-Some}
use Rattle.std.proofs.lemmas.Bool.{cases_lt}
use Rattle.std.specs.Option.{MatchOption}
use Rattle.std.proofs.lemmas.Bool.Decides.{eqb_tells}
use Rattle.std.specs.List.{flat_map, AllByRecursion, onto_first, position, position_or_len}
use Rattle.line_streams.specs.Lines.{line_feed, lines_of, whole_lines_of, unended_of, onto_whole, onto_rest, last_line_of}
use Rattle.line_streams.specs.Lines.{with_line_feed, EndsAt, IsOneLine, LinesSpell}

-- the end of a list, as a slice gives it
pub slice-end : (i : ℕ) (xs : List ℕ) → take (length xs - i) (drop i xs) ≡ drop i xs
slice-end i xs = grind (arith, common_steps, pieces)

-- a byte that is no line feed goes to the front of the first line of a text whose whole lines and rest are these, and
-- of more bytes
onto_first-more : (b : ℕ) (lines : List (List ℕ)) (rest more : List ℕ) → b ≢ line_feed →
    onto_first b (lines ++ lines_of (rest ++ more)) ≡ onto_whole b lines ++ lines_of (onto_rest b lines rest ++ more)
onto_first-more b [] rest more ne = grind arith
onto_first-more b (line ∷ lines) rest more ne = refl

-- a byte that is no line feed goes to the front of the first whole line, also with more bytes
onto_whole-more : (b : ℕ) (lines : List (List ℕ)) (rest more : List ℕ) → b ≢ line_feed →
    onto_whole b (lines ++ whole_lines_of (rest ++ more)) ≡ onto_whole b lines ++ whole_lines_of
    (onto_rest b lines rest ++ more)
onto_whole-more b [] rest more ne = grind arith
onto_whole-more b (line ∷ lines) rest more ne = refl

-- a byte that is no line feed goes to the front of the rest, if there is no whole line, also with more bytes
onto_rest-more : (b : ℕ) (lines : List (List ℕ)) (rest more : List ℕ) → b ≢ line_feed →
    onto_rest b (lines ++ whole_lines_of (rest ++ more)) (unended_of (rest ++ more)) ≡ unended_of
    (onto_rest b lines rest ++ more)
onto_rest-more b [] rest more ne = grind arith
onto_rest-more b (line ∷ lines) rest more ne = refl

-- The lines of a longer text are the whole lines so far and those of the rest with more bytes.
pub lines_of-append : (bytes more : List ℕ)
    → lines_of (bytes ++ more) ≡ whole_lines_of bytes ++ lines_of (unended_of bytes ++ more)
lines_of-append [] more = refl
lines_of-append (b ∷ bytes) more = elim (eqb_tells b line_feed) [
  | inl t ↦ rw (t.0, lines_of-append bytes more)
  | inr t ↦ rw (t.0, lines_of-append bytes more) (onto_first-more b (whole_lines_of bytes) (unended_of bytes) more t.1)
]

-- The whole lines of a longer text are those so far and those of the rest with more bytes.
pub whole_lines_of-append : (bytes more : List ℕ) →
    whole_lines_of (bytes ++ more) ≡ whole_lines_of bytes ++ whole_lines_of (unended_of bytes ++ more)
whole_lines_of-append [] more = refl
whole_lines_of-append (b ∷ bytes) more = elim (eqb_tells b line_feed) [
  | inl t ↦ rw (t.0, whole_lines_of-append bytes more)
  | inr t ↦ rw (t.0, whole_lines_of-append bytes more)
      (onto_whole-more b (whole_lines_of bytes) (unended_of bytes) more t.1)
]

-- The bytes of a longer text after its last line feed are those of the rest with more bytes.
pub unended_of-append : (bytes more : List ℕ) → unended_of (bytes ++ more) ≡ unended_of (unended_of bytes ++ more)
unended_of-append [] more = refl
unended_of-append (b ∷ bytes) more = elim (eqb_tells b line_feed) [
  | inl t ↦ rw t.0 (unended_of-append bytes more)
  | inr t ↦ rw (t.0, whole_lines_of-append bytes more, unended_of-append bytes more)
      (onto_rest-more b (whole_lines_of bytes) (unended_of bytes) more t.1)
]

-- bytes with no line feed have no whole line
pub whole_lines_of-one : (line : List ℕ) → IsOneLine line → whole_lines_of line ≡ []
whole_lines_of-one [] p = refl
whole_lines_of-one (b ∷ line) p = grind (arith, whole_lines_of-one line p.1, p.0)

-- bytes with no line feed are those after the last line feed
pub unended_of-one : (line : List ℕ) → IsOneLine line → unended_of line ≡ line
unended_of-one [] p = refl
unended_of-one (b ∷ line) p = grind (arith, whole_lines_of-one line p.1, unended_of-one line p.1, p.0)

-- bytes with no line feed are one line, if there are any
pub lines_of-one : (line : List ℕ) → IsOneLine line → lines_of line ≡ last_line_of line
lines_of-one [] p = refl
lines_of-one (b ∷ []) p = grind (arith, p.0)
lines_of-one (b ∷ c ∷ line) p = grind (arith, lines_of-one (c ∷ line) p.1, p.0)

-- two pieces of one line are one line
pub IsOneLine-append : (xs ys : List ℕ) → IsOneLine xs → IsOneLine ys → IsOneLine (xs ++ ys)
IsOneLine-append [] ys p q = q
IsOneLine-append (b ∷ xs) ys p q = (p.0, IsOneLine-append xs ys p.1 q)

-- a byte that is no line feed keeps the rest free of them
onto_rest-one : (b : ℕ) (lines : List (List ℕ)) (rest : List ℕ) → b ≢ line_feed → IsOneLine rest
    → IsOneLine (onto_rest b lines rest)
onto_rest-one b [] rest ne p = (ne, p)
onto_rest-one b (line ∷ lines) rest ne p = p

-- a byte that is no line feed keeps the whole lines free of them
onto_whole-one : (b : ℕ) (lines : List (List ℕ)) → b ≢ line_feed → AllByRecursion IsOneLine lines
    → AllByRecursion IsOneLine (onto_whole b lines)
onto_whole-one b [] ne p = p
onto_whole-one b (line ∷ lines) ne p = ((ne, p.0), p.1)

-- no line feed comes after the last one
pub unended_of-is_one : (bytes : List ℕ) → IsOneLine (unended_of bytes)
unended_of-is_one [] = tt
unended_of-is_one (b ∷ bytes) = elim (eqb_tells b line_feed) [
  | inl t ↦ rw t.0 (unended_of-is_one bytes)
  | inr t ↦ rw t.0 (onto_rest-one b (whole_lines_of bytes) (unended_of bytes) t.1 (unended_of-is_one bytes))
]

-- no whole line has one inside
whole_lines_of-are_one : (bytes : List ℕ) → AllByRecursion IsOneLine (whole_lines_of bytes)
whole_lines_of-are_one [] = tt
whole_lines_of-are_one (b ∷ bytes) = elim (eqb_tells b line_feed) [
  | inl t ↦ rw t.0 (tt, whole_lines_of-are_one bytes)
  | inr t ↦ rw t.0 (onto_whole-one b (whole_lines_of bytes) t.1 (whole_lines_of-are_one bytes))
]

-- the lines are the whole ones and what comes after them
pub lines_of-rest : (bytes : List ℕ) → lines_of bytes ≡ whole_lines_of bytes ++ last_line_of (unended_of bytes)
lines_of-rest bytes =
    ap lines_of (sym (append-nil bytes)) ∙ lines_of-append bytes []
    ∙ rw (append-nil (unended_of bytes), lines_of-one (unended_of bytes) (unended_of-is_one bytes))

-- a line with its line feed is one whole line
pub whole_lines_of-ended : (line : List ℕ) → IsOneLine line → whole_lines_of (line ++ line_feed ∷ []) ≡ line ∷ []
whole_lines_of-ended [] p = refl
whole_lines_of-ended (b ∷ line) p = grind (arith, whole_lines_of-ended line p.1, p.0)

-- nothing comes after the line feed of one line
pub unended_of-ended : (line : List ℕ) → IsOneLine line → unended_of (line ++ line_feed ∷ []) ≡ []
unended_of-ended [] p = refl
unended_of-ended (b ∷ line) p = grind (arith, whole_lines_of-ended line p.1, unended_of-ended line p.1, p.0)

-- bytes up to a line feed complete the line that a text has begun
pub whole_lines_of-fed : (bytes line : List ℕ) → IsOneLine line →
    whole_lines_of (bytes ++ (line ++ line_feed ∷ [])) ≡ whole_lines_of bytes ++ (unended_of bytes ++ line) ∷ []
whole_lines_of-fed bytes line p =
    let one : IsOneLine (unended_of bytes ++ line) = IsOneLine-append (unended_of bytes) line (unended_of-is_one bytes)
    p in
    whole_lines_of-append bytes (line ++ line_feed ∷ [])
    ∙ rw (
      ← append_assoc (unended_of bytes) line (line_feed ∷ []),
      whole_lines_of-append (unended_of bytes ++ line)
          (line_feed ∷ []),
      whole_lines_of-one (unended_of bytes ++ line) one,
      unended_of-one (unended_of bytes ++ line) one,
    )
    (ap (λ lines. whole_lines_of bytes ++ lines) (whole_lines_of-ended (unended_of bytes ++ line) one))

-- nothing comes after the line feed that completes a line
pub unended_of-fed : (bytes line : List ℕ) → IsOneLine line → unended_of (bytes ++ (line ++ line_feed ∷ [])) ≡ []
unended_of-fed bytes line p =
    let one : IsOneLine (unended_of bytes ++ line) = IsOneLine-append (unended_of bytes) line (unended_of-is_one bytes)
    p in
    unended_of-append bytes (line ++ line_feed ∷ [])
    ∙ rw (← append_assoc (unended_of bytes) line (line_feed ∷ [])) (unended_of-ended (unended_of bytes ++ line) one)

-- one more than n is the successor of n
one_more : (n : ℕ) → 1 + n ≡ suc n
one_more n = omega arith

-- a byte that is no line feed, before some first bytes that are one line
one_line-cons : (b n : ℕ) (bytes : List ℕ) → b ≢ line_feed → IsOneLine (take n bytes)
    → IsOneLine (take (1 + n) (b ∷ bytes))
one_line-cons b n bytes ne p = rw (one_more n) (ne, p)

-- the bytes up to the first line feed are one line
one_line-front : (bytes : List ℕ) → IsOneLine (take (position_or_len (λ b. b == line_feed) bytes) bytes)
one_line-front [] = tt
one_line-front (b ∷ bytes) = elim (eqb_tells b line_feed) [
  | inl t ↦ rw t.0 tt
  | inr t ↦ rw t.0 (one_line-cons b (position_or_len (λ b. b == line_feed) bytes) bytes t.1 (one_line-front bytes))
]

-- bytes are one line if no line feed is found
one_line-none : (bytes : List ℕ) → length bytes ≤ position_or_len (λ b. b == line_feed) bytes → IsOneLine bytes
one_line-none bytes le = rw (take_all (position_or_len (λ b. b == line_feed) bytes) bytes le) at (one_line-front bytes)

-- a text round the place of a line feed
found-at : (bytes : List ℕ) (end : ℕ) → end < length bytes → get_or bytes end 0 ≡ line_feed
    → bytes ≡ take end bytes ++ line_feed ∷ drop (end + 1) bytes
found-at bytes end lt is =
    let rest : drop end bytes ≡ line_feed ∷ drop (suc end) bytes = rw (drop-cons bytes end 0 lt, is) in
    rw (add-one end) (sym (ap (λ more. take end bytes ++ more) (sym rest) ∙ take-append-drop end bytes))

-- the bytes before the first line feed are one line
ends-front : (bytes : List ℕ) (end : ℕ) → Some end ≡ position (λ b. b == line_feed) bytes → IsOneLine (take end bytes)
ends-front bytes end e = elim (cases_lt (position_or_len (λ b. b == line_feed) bytes) (length bytes)) [
  | inl t ↦ let same : end ≡ position_or_len (λ b. b == line_feed) bytes = grind arith in rw same (one_line-front bytes)
  | inr t ↦ absurd (grind arith)
]

-- what passes the test is a line feed
is_line_feed : (b : ℕ) → (b == line_feed) ≡ true → b ≡ line_feed
is_line_feed b h = grind arith

-- a search for a line feed finds the end of the first line, or shows that the text is one line
pub line-found : (bytes : List ℕ) (place : Option ℕ) → place ≡ position (λ b. b == line_feed) bytes →
    MatchOption place (IsOneLine bytes) (λ end. EndsAt bytes end)
line-found bytes None e = one_line-none bytes (grind arith)
line-found bytes (Some end) e =
    let found = position-Some (λ b. b == line_feed) bytes end 0 (sym e) in
    let feed : get_or bytes end 0 ≡ line_feed = is_line_feed (get_or bytes end 0) found.1 in
    record {
      inside = found.0;
      front = ends-front bytes end e;
      line = take_more bytes end 0 found.0 ∙ ap (λ b. take end bytes ++ b ∷ []) feed;
      whole =
          found-at bytes end found.0 feed ∙ sym (append_assoc (take end bytes) (line_feed ∷ []) (drop (end + 1) bytes));
    }

-- bytes with no line feed, after a text, leave its whole lines
pub whole_lines_of-more : (bytes more : List ℕ) → IsOneLine more → whole_lines_of (bytes ++ more) ≡ whole_lines_of bytes
whole_lines_of-more bytes more p =
    let one : IsOneLine (unended_of bytes ++ more) = IsOneLine-append (unended_of bytes) more (unended_of-is_one bytes)
    p in
    whole_lines_of-append bytes more
    ∙ rw (whole_lines_of-one (unended_of bytes ++ more) one) (append-nil (whole_lines_of bytes))

-- bytes with no line feed, after a text, come after its last line feed
pub unended_of-more : (bytes more : List ℕ) → IsOneLine more → unended_of (bytes ++ more) ≡ unended_of bytes ++ more
unended_of-more bytes more p =
    unended_of-append bytes more
    ∙ unended_of-one (unended_of bytes ++ more) (IsOneLine-append (unended_of bytes) more (unended_of-is_one bytes) p)

-- a byte at the front of the first line is at the front of the text that the lines spell
onto-spell : (b : ℕ) (lines : List (List ℕ)) (rest : List ℕ) →
    flat_map with_line_feed (onto_whole b lines) ++ onto_rest b lines rest ≡ b ∷ (flat_map with_line_feed lines ++ rest)
onto-spell b [] rest = refl
onto-spell b (line ∷ lines) rest = refl

-- the whole lines and their line feeds, and the rest, are the text
lines-spell : (bytes : List ℕ) → flat_map with_line_feed (whole_lines_of bytes) ++ unended_of bytes ≡ bytes
lines-spell [] = refl
lines-spell (b ∷ bytes) = grind (arith, lines-spell bytes, onto-spell)

-- the lines and their line feeds are the text, and no line has a line feed inside
pub LinesSpell-holds : (bytes : List ℕ) → LinesSpell bytes
LinesSpell-holds bytes = record {
  joined = lines-spell bytes;
  whole = whole_lines_of-are_one bytes;
  unended = unended_of-is_one bytes;
  last = lines_of-rest bytes;
}
