-- Lines that become something, one after another.
use Rattle.std.proofs.Common.{ℕ, ◌≡◌, ◌<◌, ◌+◌, ◌-◌, ◌++◌, List, [], ◌∷◌, length, take, drop, map, refl, ap, sym, subst, ◌∙◌, append_assoc, append-nil, length-append, arith}
use Rattle.std.proofs.Math.Seq.{drop-append_seam}
use Rattle.line_streams.specs.Lines.{line_feed, whole_lines_of, unended_of, last_line_of, with_line_feed, EndsAt, IsOneLine}
use Rattle.line_streams.specs.Filter.{ended_lines_of, within, Adds, Become, Stays}
use Rattle.line_streams.proofs.LinesLemmas.{IsOneLine-append, unended_of-one, whole_lines_of-one, slice-end, whole_lines_of-append, unended_of-append, whole_lines_of-fed, unended_of-fed, whole_lines_of-ended, unended_of-ended, unended_of-more}

-- what the lines of two lists become
pub Become-append : (R : List ℕ → List ℕ → Type 0) (xs ys : List (List ℕ)) (text more : List ℕ)
    → Become R xs text → Become R ys more → Become R (xs ++ ys) (text ++ more)
Become-append R [] ys text more p q = rw p q
Become-append R (line ∷ xs) ys text more p q =
    (p.0, p.1 ++ more, ap (λ t. t ++ more) p.2 ∙ append_assoc p.0 p.1 more, p.3, Become-append R xs ys p.1 more p.4 q)

pub Become-one : (R : List ℕ → List ℕ → Type 0) (line text : List ℕ) → R line text → Become R (line ∷ []) text
Become-one R line text p = (text, [], sym (append-nil text), p, refl)

-- what lines become by one relation, they become by another to which it leads
Become-weaker : (R Q : List ℕ → List ℕ → Type 0) (lines : List (List ℕ)) (text : List ℕ)
    → ((line t : List ℕ) → R line t → Q line t) → Become R lines text → Become Q lines text
Become-weaker R Q [] text leads p = p
Become-weaker R Q (line ∷ lines) text leads p =
    (p.0, p.1, p.2, leads line p.0 p.3, Become-weaker R Q lines p.1 leads p.4)

-- what lines become later, they could become before, and the other way round
pub Become-before : (R Q : List ℕ → List ℕ → Type 0) (lines : List (List ℕ)) (text : List ℕ) → Stays R Q
    → Become Q lines text → Become R lines text
Become-before R Q lines text stays p = Become-weaker Q R lines text (λ line t q. (stays line t).1 q) p

pub Become-after : (R Q : List ℕ → List ℕ → Type 0) (lines : List (List ℕ)) (text : List ℕ) → Stays R Q
    → Become R lines text → Become Q lines text
Become-after R Q lines text stays p = Become-weaker R Q lines text (λ line t r. (stays line t).0 r) p

pub Stays-then : (R Q S : List ℕ → List ℕ → Type 0) → Stays R Q → Stays Q S → Stays R S
Stays-then R Q S p q line text =
    (λ r. (q line text).0 ((p line text).0 r), λ s. (p line text).1 ((q line text).1 s))

-- the same of lines of at most so many bytes
pub Stays-within : (longest : ℕ) (R Q : List ℕ → List ℕ → Type 0) → Stays R Q → Stays (within longest R) (within longest Q)
Stays-within longest R Q stays line text =
    (λ r. (λ short. (stays line text).0 (r.0 short), r.1), λ q. (λ short. (stays line text).1 (q.0 short), q.1))

-- a longer one stays as it is
pub long_stays : (longest : ℕ) (R : List ℕ → List ℕ → Type 0) (line : List ℕ) → longest < length line
    → within longest R line line
long_stays longest R line long = (λ short. absurd (omega arith), λ again. refl)

map-append : (f : List ℕ → List ℕ) (xs ys : List (List ℕ)) → map f (xs ++ ys) ≡ map f xs ++ map f ys
map-append f [] ys = refl
map-append f (x ∷ xs) ys = ap (λ zs. f x ∷ zs) (map-append f xs ys)

-- the lines of a longer text
pub ended_lines_of-append : (old block : List ℕ)
    → ended_lines_of (old ++ block) ≡ ended_lines_of old ++ ended_lines_of (unended_of old ++ block)
ended_lines_of-append old block =
    ap (λ xs. map with_line_feed xs) (whole_lines_of-append old block)
    ∙ map-append with_line_feed (whole_lines_of old) (whole_lines_of (unended_of old ++ block))

-- bytes up to a line feed end the line that a text has begun
pub ended_lines_of-fed : (bytes line : List ℕ) → IsOneLine line → ended_lines_of (bytes ++ with_line_feed line)
    ≡ ended_lines_of bytes ++ with_line_feed (unended_of bytes ++ line) ∷ []
ended_lines_of-fed bytes line one =
    ap (λ lines. map with_line_feed lines) (whole_lines_of-fed bytes line one)
    ∙ map-append with_line_feed (whole_lines_of bytes) ((unended_of bytes ++ line) ∷ [])

-- the bytes of a line and its line feed, taken from what is left
pub next-line : (bytes fed rest : List ℕ) (end : ℕ) → bytes ≡ fed ++ rest → EndsAt rest end →
    bytes ≡ (fed ++ with_line_feed (take end rest)) ++ drop (end + 1) rest
next-line bytes fed rest end whole ends =
    whole ∙ ap (λ more. fed ++ more) ends.whole
    ∙ sym (append_assoc fed (with_line_feed (take end rest)) (drop (end + 1) rest))

-- ---- a block whose first bytes end the line that waits

-- the line that waits, with its end
pub ended_line : (old block : List ℕ) (end : ℕ) → EndsAt block end
    → old ++ take (end + 1) block ≡ with_line_feed (old ++ take end block)
ended_line old block end ends =
    ap (λ line. old ++ line) ends.line ∙ sym (append_assoc old (take end block) (line_feed ∷ []))

-- that line, and what comes after it
split_block : (old block : List ℕ) (end : ℕ) → EndsAt block end
    → old ++ block ≡ with_line_feed (old ++ take end block) ++ drop (end + 1) block
split_block old block end ends =
    ap (λ all. old ++ all) ends.whole
    ∙ sym (append_assoc old (with_line_feed (take end block)) (drop (end + 1) block))
    ∙ ap (λ line. line ++ drop (end + 1) block) (sym (append_assoc old (take end block) (line_feed ∷ [])))

pub lines_of_block : (old block : List ℕ) (end : ℕ) → IsOneLine old → EndsAt block end
    → ended_lines_of (old ++ block) ≡ with_line_feed (old ++ take end block) ∷ ended_lines_of (drop (end + 1) block)
lines_of_block old block end one ends =
    let line = old ++ take end block in
    let is_one : IsOneLine line = IsOneLine-append old (take end block) one ends.front in
    ap ended_lines_of (split_block old block end ends)
    ∙ ended_lines_of-append (with_line_feed line) (drop (end + 1) block)
    ∙ rw (whole_lines_of-ended line is_one, unended_of-ended line is_one) refl

-- the first line of a text, and the others
lines_of_front : (rest : List ℕ) (end : ℕ) → EndsAt rest end
    → ended_lines_of rest ≡ take (end + 1) rest ∷ ended_lines_of (take (length rest - (end + 1)) (drop (end + 1) rest))
lines_of_front rest end ends =
    lines_of_block [] rest end tt ends ∙ rw (slice-end (end + 1) rest, ends.line) refl

-- so much was appended, and where what is left becomes more, all lines become both
abbrev pub HasGone : (List ℕ → List ℕ → Type 0) → List ℕ → List ℕ → List ℕ → List ℕ → List ℕ → List ℕ → Type 0
HasGone R first text line rest o0 o1 =
    (done : List ℕ) × (o1 ≡ o0 ++ done)
    × ((more : List ℕ) → Become R (line ∷ ended_lines_of rest) more → Become R (first ∷ ended_lines_of text) (done ++ more))

pub none_gone : (R : List ℕ → List ℕ → Type 0) (first text o0 : List ℕ) → HasGone R first text first text o0 o0
none_gone R first text o0 = ([], sym (append-nil o0), λ more h. h)

-- the text of one line more, before what those behind it become
line_and_more : (longest : ℕ) (R Q : List ℕ → List ℕ → Type 0) (line : List ℕ) (lines : List (List ℕ)) (t more : List ℕ)
    → Stays R Q → within longest Q line t → Become (within longest R) lines more
    → Become (within longest R) (line ∷ lines) (t ++ more)
line_and_more longest R Q line lines t more stays made h =
    (t, more, refl, (Stays-within longest R Q stays line t).1 made, h)

-- one line was appended, and another is at the front of what is left
pub line_has_gone : (longest : ℕ) (R Q S : List ℕ → List ℕ → Type 0) (first text line fed rest : List ℕ) (end : ℕ) (o0 o1 o2 : List ℕ)
    → text ≡ fed ++ rest → unended_of fed ≡ [] → Stays R Q → HasGone (within longest R) first text line rest o0 o1
    → EndsAt rest end → Stays Q S → Adds (within longest Q line) o1 o2
    → (more : List ℕ) × (text ≡ more ++ take (length rest - (end + 1)) (drop (end + 1) rest)) × (unended_of more ≡ [])
    × Stays R S
    × HasGone (within longest R) first text (take (end + 1) rest)
    (take (length rest - (end + 1)) (drop (end + 1) rest)) o0 o2
line_has_gone longest R Q S first text line fed rest end o0 o1 o2 whole none stays gone ends on made =
    let lines : ended_lines_of rest ≡ take (end + 1) rest ∷ ended_lines_of (take (length rest - (end + 1)) (drop (end + 1) rest)) =
    lines_of_front rest end ends in (
      fed ++ with_line_feed (take end rest),
      rw (slice-end (end + 1) rest) (next-line text fed rest end whole ends),
      unended_of-fed fed (take end rest) ends.front,
      Stays-then R Q S stays on,
      (
        gone.0 ++ made.0,
        made.1 ∙ ap (λ o. o ++ made.0) gone.1 ∙ append_assoc o0 gone.0 made.0,
        λ more h. subst (λ t. Become (within longest R) (first ∷ ended_lines_of text) t)
            (sym (append_assoc gone.0 made.0 more))
            (gone.2 (made.0 ++ more)
            (line_and_more longest R Q line (ended_lines_of rest) made.0 more stays made.2
            (subst (λ ls. Become (within longest R) ls more) (sym lines) h))),
      ),
    )

-- one line was appended, and no other ends
pub all_has_gone : (longest : ℕ) (R Q : List ℕ → List ℕ → Type 0) (first text line rest o0 o1 o2 : List ℕ) → Stays R Q
    → HasGone (within longest R) first text line rest o0 o1 → IsOneLine rest → Adds (within longest Q line) o1 o2
    → Adds (Become (within longest R) (first ∷ ended_lines_of text)) o0 o2
all_has_gone longest R Q first text line rest o0 o1 o2 stays gone one made =
    let none : ended_lines_of rest ≡ [] = ap (λ lines. map with_line_feed lines) (whole_lines_of-one rest one) in (
      gone.0 ++ made.0,
      made.1 ∙ ap (λ o. o ++ made.0) gone.1 ∙ append_assoc o0 gone.0 made.0,
      gone.2 made.0
          (subst (λ ls. Become (within longest R) (line ∷ ls) made.0) (sym none)
          (Become-one (within longest R) line made.0 ((Stays-within longest R Q stays line made.0).1 made.2))),
    )

drop_front : (fed rest : List ℕ) → drop (length (fed ++ rest) - length rest) (fed ++ rest) ≡ rest
drop_front fed rest =
    let e : length (fed ++ rest) - length rest ≡ length fed = omega (arith, length-append fed rest) in
    rw e (drop-append_seam fed rest)

-- the rest has no line feed
pub rest_of_text : (text fed rest : List ℕ) → text ≡ fed ++ rest → unended_of fed ≡ [] → IsOneLine rest
    → drop (length text - length rest) text ≡ unended_of text
rest_of_text text fed rest whole none one =
    rw whole (drop_front fed rest ∙ sym (unended_of-more fed rest one ∙ ap (λ x. x ++ rest) none))

pub rest_of_block : (old block : List ℕ) (end : ℕ) → IsOneLine old → EndsAt block end
    → unended_of (drop (end + 1) block) ≡ unended_of (old ++ block)
rest_of_block old block end one ends =
    let line = old ++ take end block in
    let is_one : IsOneLine line = IsOneLine-append old (take end block) one ends.front in
    sym (ap unended_of (split_block old block end ends)
    ∙ unended_of-append (with_line_feed line) (drop (end + 1) block)
    ∙ ap (λ p. unended_of (p ++ drop (end + 1) block)) (unended_of-ended line is_one))

-- what the lines of the block became was appended
pub block_is_appended : (R : List ℕ → List ℕ → Type 0) (old block line rest : List ℕ) (end : ℕ) (o0 o1 : List ℕ)
    → IsOneLine old → EndsAt block end → line ≡ old ++ take (end + 1) block → rest ≡ drop (end + 1) block
    → Adds (Become R (line ∷ ended_lines_of rest)) o0 o1 → Adds (Become R (ended_lines_of (old ++ block))) o0 o1
block_is_appended R old block line rest end o0 o1 one ends is left made =
    let first : line ≡ with_line_feed (old ++ take end block) = is ∙ ended_line old block end ends in (
      made.0,
      made.1,
      subst (λ lines. Become R lines made.0) (sym (lines_of_block old block end one ends))
          (subst (λ l. Become R (l ∷ ended_lines_of (drop (end + 1) block)) made.0) first
          (subst (λ r. Become R (line ∷ ended_lines_of r) made.0) left made.2)),
    )

-- what waits after the block
pub block_waits : (old block rest cleared all : List ℕ) (end whole : ℕ) → IsOneLine old → EndsAt block end
    → rest ≡ drop (end + 1) block → drop whole rest ≡ unended_of rest → cleared ≡ []
    → all ≡ cleared ++ take (length rest - whole) (drop whole rest) → all ≡ unended_of (old ++ block)
block_waits old block rest cleared all end whole one ends left none empty kept =
    kept ∙ ap (λ c. c ++ take (length rest - whole) (drop whole rest)) empty ∙ slice-end whole rest ∙ none
    ∙ ap unended_of left ∙ rest_of_block old block end one ends

-- bytes without a line feed, after others without one: they wait, and no line ends
pub one_line_waits : (old block : List ℕ) → IsOneLine old → IsOneLine block → old ++ block ≡ unended_of (old ++ block)
one_line_waits old block p q = sym (unended_of-one (old ++ block) (IsOneLine-append old block p q))

pub no_line_ends : (old block : List ℕ) → IsOneLine old → IsOneLine block → ended_lines_of (old ++ block) ≡ []
no_line_ends old block p q =
    ap (λ lines. map with_line_feed lines) (whole_lines_of-one (old ++ block) (IsOneLine-append old block p q))

-- the end, after which what waits is the last line
pub last_is_one : (line : List ℕ) → (line ≡ [] → ⊥) → last_line_of line ≡ line ∷ []
last_is_one [] some = absurd (some refl)
last_is_one (b ∷ line) some = refl
