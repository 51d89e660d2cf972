-- What the grammar spells is read.
use Rattle.std.proofs.lemmas.Bool.Decides.{nat_tests}
use Rattle.std.proofs.Common.{◌≤◌, ne_eqb, ◌≡◌, ◌≢◌, ℕ, ◌+◌, Bool, true, false, eqb, List, [], ◌∷◌, ◌++◌, length, Some, None, Option, Result, Ok, refl, sym, ap, ◌∙◌, append_assoc, arith}
use Rattle.std.specs.Char.{is_ascii_whitespace}
use Rattle.std.specs.List.{AllByRecursion}
use Rattle.std.proofs.lemmas.List.{append-nil}
use Rattle.time_below.specs.Conversion.{current_component}
use Rattle.time_below.specs.declared.format_description.component.Component.{Component}
use Rattle.time_below.specs.Tree.{Tree, trees, of_component, all_of}
use Rattle.time_describe.specs.declared.brackets.reason.BracketReason.{BracketReason}
use Rattle.time_describe.specs.declared.fault.Fault.{Fault}
use Rattle.time_describe.specs.declared.items.ListKind.{ListKind}
use Rattle.time_describe.specs.Literal.{literal_of}
use Rattle.time_describe.specs.Marks.{past}
use Rattle.time_describe.specs.Pieces.{ends_literal, is_nested}
use Rattle.std.proofs.lemmas.Bool.{lt-ltb}
use Rattle.time_describe.specs.Grammar.{Word, Inside, Parts, done, plain, escaped, in_brackets, with_lists, Lists, no_list, list, words, spelling, lists_spelling, AreWhite, IsWord, IsChoice, IsChosen, IsInside, IsApart, is_deep, Means, ListsMean}
use Rattle.time_describe.specs.Reading.{Frame, between, keyword, nested, is_special, is_escapable, ends_word, at_fault, with_word, list_kind_of, with_literal, outside, brackets, read, of_name, within_limit, IsWithinLimit, described}
use Rattle.time_describe.proofs.ReadLemmas.{white_byte, closes, word_byte, ended_word, plain_byte, ended_keyword, list_opened, lists_closed}

-- what whitespace is not
white_is_not : (b : ℕ) → is_ascii_whitespace b ≡ true → (is_special b ≡ false) × (eqb b 93 ≡ false)
white_is_not b h =
    let small : b ≤ 32 = grind (arith, nat_tests) in
    (rw (ne_eqb b 91 (λ e. omega arith), ne_eqb b 92 (λ e. omega arith)) refl, ne_eqb b 93 (λ e. omega arith))

-- whitespace is passed over
gap_passed : (fs : List Frame) (gap : List ℕ) (o : ℕ) (c : Option Component) (items : List Tree) (s : List ℕ) → AreWhite gap
    → read fs (brackets o c []) items [] (gap ++ s) ≡ read fs (brackets o c []) items [] s
gap_passed fs [] o c items s h = refl
gap_passed fs (b ∷ gap) o c items s h =
    let w = white_is_not b h.0 in
    white_byte fs b o c items (gap ++ s) w.0 w.1 h.0 ∙ gap_passed fs gap o c items s h.1

-- a word's bytes are of it
word_passed : (fs : List Frame) (xs : List ℕ) (o : ℕ) (c : Option Component) (word : List ℕ) (items : List Tree) (s : List ℕ) → AllByRecursion (λ b. ends_word b ≡ false) xs
    → read fs (brackets o c word) items [] (xs ++ s) ≡ read fs (brackets o c (word ++ xs)) items [] s
word_passed fs [] o c word items s h = ap (λ (w : List ℕ). read fs (brackets o c w) items [] s) (sym (append-nil word))
word_passed fs (x ∷ xs) o c word items s h =
    word_byte fs x o c word items (xs ++ s) h.0 ∙ word_passed fs xs o c (word ++ x ∷ []) items s h.1
    ∙ ap (λ (w : List ℕ). read fs (brackets o c w) items [] s) (append_assoc word (x ∷ []) xs)

-- what ends a word: whitespace or the closing bracket
pub record Ends (s : List ℕ) : Type 0 where
  pub first : ℕ
  pub rest : List ℕ
  pub is : s ≡ first ∷ rest
  pub usual : is_special first ≡ false
  pub ends : ends_word first ≡ true

closing_ends : (s : List ℕ) → Ends (93 ∷ s)
closing_ends s = record { first = 93; rest = s; is = refl; usual = refl; ends = refl }

white_ends : (b : ℕ) (s : List ℕ) → is_ascii_whitespace b ≡ true → Ends (b ∷ s)
white_ends b s h =
    let w = white_is_not b h in
    record { first = b; rest = s; is = refl; usual = w.0; ends = rw (w.0, w.1) h }

gap_ends : (gap s : List ℕ) → AreWhite gap → Ends s → Ends (gap ++ s)
gap_ends [] s h e = e
gap_ends (b ∷ gap) s h e = white_ends b (gap ++ s) h.0

some_gap : (gap s : List ℕ) → gap ≢ [] → AreWhite gap → Ends (gap ++ s)
some_gap [] s some white = absurd (some refl)
some_gap (b ∷ gap) s some white = white_ends b (gap ++ s) white.0

words_end : (ws : List Word) (s : List ℕ) → AllByRecursion IsChoice ws → Ends s → Ends (words ws s)
words_end [] s h e = e
words_end (w ∷ ws) s h e = some_gap w.gap (w.bytes ++ words ws s) h.0.0 h.0.1

-- a whole word
word_ended : (fs : List Frame) (bytes : List ℕ) (o : ℕ) (c : Option Component) (items : List Tree) (s : List ℕ) (made : Component)
    → IsWord bytes → list_kind_of c bytes ≡ None → with_word c bytes ≡ Ok made → Ends s
    → read fs (brackets o c []) items [] (bytes ++ s) ≡ read fs (brackets o (Some made) []) items [] s
word_ended fs [] o c items s made h none w e = absurd (h.0 refl)
word_ended fs (x ∷ xs) o c items s made h none w e =
    word_passed fs (x ∷ xs) o c [] items s h.1
    ∙ ap (read fs (brackets o c (x ∷ xs)) items []) e.is
    ∙ ended_word fs (eqb e.first 93) e.first o c x xs items e.rest made refl e.usual e.ends none (ap (λ r. at_fault r (length (x ∷ xs) + (length e.rest + 1))) w)
    ∙ ap (read fs (brackets o (Some made) []) items []) (sym e.is)

choices_read : (fs : List Frame) (ws : List Word) (o : ℕ) (c made : Component) (items : List Tree) (s : List ℕ)
    → AllByRecursion IsChoice ws → IsChosen c ws made → Ends s
    → read fs (brackets o (Some c) []) items [] (words ws s) ≡ read fs (brackets o (Some made) []) items [] s
choices_read fs [] o c made items s h chosen e = ap (λ (x : Component). read fs (brackets o (Some x) []) items [] s) chosen
choices_read fs (w ∷ ws) o c made items s h chosen e =
    gap_passed fs w.gap o (Some c) items (w.bytes ++ words ws s) h.0.1
    ∙ word_ended fs w.bytes o (Some c) items (words ws s) chosen.0 h.0.2 refl chosen.1 (words_end ws s h.1 e)
    ∙ choices_read fs ws o chosen.0 made items s h.1 chosen.2 e

inside_read : (fs : List Frame) (i : Inside) (o : ℕ) (made : Component) (items : List Tree) (s : List ℕ) → IsInside i made
    → read fs (brackets o None []) items [] (words (i.name ∷ i.choices) (i.gap ++ 93 ∷ s)) ≡ read fs outside (items ++ of_component (current_component made) ∷ []) [] s
inside_read fs i o made items s h =
    let end : Ends (i.gap ++ 93 ∷ s) = gap_ends i.gap (93 ∷ s) h.end (closing_ends s) in
    gap_passed fs i.name.gap o None items (i.name.bytes ++ words i.choices (i.gap ++ 93 ∷ s)) h.gap
    ∙ word_ended fs i.name.bytes o None items (words i.choices (i.gap ++ 93 ∷ s)) h.first h.name h.no_keyword (ap of_name h.is_first) (words_end i.choices (i.gap ++ 93 ∷ s) h.choices end)
    ∙ choices_read fs i.choices o h.first made items (i.gap ++ 93 ∷ s) h.choices h.chosen end
    ∙ gap_passed fs i.gap o (Some made) items (93 ∷ s) h.end
    ∙ closes fs 93 o (Some made) (current_component made) items s refl refl (rw h.whole refl)

-- ---- between lists

gap_between : (gap : List ℕ) (fs : List Frame) (n : ListKind) (o : ℕ) (lists items : List Tree) (s : List ℕ) → AreWhite gap
    → read fs (between n o lists) items [] (gap ++ s) ≡ read fs (between n o lists) items [] s
unfolding read
gap_between [] fs n o lists items s h = refl
gap_between (b ∷ gap) fs n o lists items s h = rw h.0 (gap_between gap fs n o lists items s h.1)

keyword_ended : (bytes : List ℕ) (fs : List Frame) (o : ℕ) (items : List Tree) (s : List ℕ) (n : ListKind)
    → IsWord bytes → keyword bytes ≡ Some n → Ends s
    → read fs (brackets o None []) items [] (bytes ++ s) ≡ read fs (between n o []) items [] s
keyword_ended [] fs o items s n h is e = absurd (h.0 refl)
keyword_ended (x ∷ xs) fs o items s n h is e =
    word_passed fs (x ∷ xs) o None [] items s h.1
    ∙ ap (read fs (brackets o None (x ∷ xs)) items []) e.is
    ∙ ended_keyword fs (eqb e.first 93) e.first o None x xs items e.rest n refl e.usual e.ends is
    ∙ ap (read fs (between n o []) items []) (sym e.is)

lists_end : (ls : Lists) (s : List ℕ) (depth : ℕ) (n : ListKind) (before all : List Tree) → IsApart ls → ListsMean depth n before ls all → Ends s → Ends (lists_spelling ls s)
lists_end no_list s depth n before all apart h e = e
lists_end (list gap ps ls) s depth n before all apart h e = some_gap gap (91 ∷ spelling ps (93 ∷ lists_spelling ls s)) apart h.0

-- ---- outside of brackets, behind a literal

escaped_read : (fs : List Frame) (b : ℕ) (items : List Tree) (literal s : List ℕ) → is_escapable b ≡ true
    → read fs outside items literal (92 ∷ b ∷ s) ≡ read fs outside (with_literal items literal ++ literal_of (b ∷ []) ∷ []) [] s
unfolding read
escaped_read [] b items literal s h = rw h refl
escaped_read (_ ∷ fs) b items literal s h = rw h refl

opened_read : (fs : List Frame) (items : List Tree) (literal s : List ℕ) → read fs outside items literal (91 ∷ s) ≡ read fs (brackets (length s + 1) None []) (with_literal items literal) [] s
unfolding read
opened_read [] items literal s = refl
opened_read (_ ∷ fs) items literal s = refl

closed_read : (f : Frame) (fs : List Frame) (items : List Tree) (literal s : List ℕ)
    → read (f ∷ fs) outside items literal (93 ∷ s) ≡ read fs (between f.kind f.opened (f.lists ++ all_of (trees (with_literal items literal)) ∷ [])) f.items [] s
unfolding read
closed_read f fs items literal s = refl

ended_read : (items : List Tree) (literal : List ℕ) → read [] outside items literal [] ≡ Ok (with_literal items literal)
unfolding read
ended_read items literal = refl

is_deep_nested : (fs : List Frame) → is_deep (length fs) ≡ is_nested fs
is_deep_nested [] = refl
is_deep_nested (_ ∷ fs) = refl

lists_closed_any : (fs : List Frame) (n : ListKind) (o : ℕ) (ts items : List Tree) (s : List ℕ) (t : Tree) → ((left : ℕ) → nested n ts left ≡ Ok t)
    → read fs (between n o ts) items [] (93 ∷ s) ≡ read fs outside (items ++ t ∷ []) [] s
lists_closed_any fs n o ts items s t h = lists_closed fs n o ts items 93 s t refl refl (h (length s + 1))

mutual
  pub parts_read : (ps : Parts) (fs : List Frame) (after : List ℕ) (X : List Tree → Result (List Tree) (Fault BracketReason))
      → ((items : List Tree) (literal : List ℕ) → read fs outside items literal after ≡ X (with_literal items literal))
      → (items : List Tree) (literal : List ℕ) (all : List Tree) → Means (length fs) items literal ps all
      → read fs outside items literal (spelling ps after) ≡ X all
  parts_read done fs after X ends items literal all h = ends items literal ∙ ap X (sym h)
  parts_read (plain b ps) fs after X ends items literal all h =
      plain_byte fs b items literal (spelling ps after) (ap (λ (d : Bool). ends_literal d b) (sym (is_deep_nested fs)) ∙ h.0)
      ∙ parts_read ps fs after X ends items (literal ++ b ∷ []) all h.1
  parts_read (escaped b ps) fs after X ends items literal all h =
      escaped_read fs b items literal (spelling ps after) h.0
      ∙ parts_read ps fs after X ends (with_literal items literal ++ literal_of (b ∷ []) ∷ []) [] all h.1
  parts_read (in_brackets i ps) fs after X ends items literal all h =
      opened_read fs items literal (words (i.name ∷ i.choices) (i.gap ++ 93 ∷ spelling ps after))
      ∙ inside_read fs i (length (words (i.name ∷ i.choices) (i.gap ++ 93 ∷ spelling ps after)) + 1) h.0 (with_literal items literal) (spelling ps after) h.1
      ∙ parts_read ps fs after X ends (with_literal items literal ++ of_component (current_component h.0) ∷ []) [] all h.2
  parts_read (with_lists w n ls gap ps) fs after X ends items literal all h =
      let rest = gap ++ 93 ∷ spelling ps after in
      let o = length (w.gap ++ (w.bytes ++ lists_spelling ls rest)) + 1 in
      let items-now = with_literal items literal in
      opened_read fs items literal (w.gap ++ (w.bytes ++ lists_spelling ls rest))
      ∙ gap_passed fs w.gap o None items-now (w.bytes ++ lists_spelling ls rest) h.0
      ∙ keyword_ended w.bytes fs o items-now (lists_spelling ls rest) n h.1 h.2 (lists_end ls rest (length fs) n [] h.5 h.3 h.6 (gap_ends gap (93 ∷ spelling ps after) h.4 (closing_ends (spelling ps after))))
      ∙ lists_read ls fs n o [] items-now h.5 rest h.6
      ∙ gap_between gap fs n o h.5 items-now (93 ∷ spelling ps after) h.4
      ∙ lists_closed_any fs n o h.5 items-now (spelling ps after) h.7 h.8
      ∙ parts_read ps fs after X ends (items-now ++ h.7 ∷ []) [] all h.9

  pub lists_read : (ls : Lists) (fs : List Frame) (n : ListKind) (o : ℕ) (before items all : List Tree) (s : List ℕ)
      → ListsMean (length fs) n before ls all
      → read fs (between n o before) items [] (lists_spelling ls s) ≡ read fs (between n o all) items [] s
  lists_read no_list fs n o before items all s h = ap (λ (ts : List Tree). read fs (between n o ts) items [] s) h
  lists_read (list gap ps ls) fs n o before items all s h =
      let inner = spelling ps (93 ∷ lists_spelling ls s) in
      gap_between gap fs n o before items (91 ∷ inner) h.0
      ∙ list_opened fs n o before items 91 inner refl refl h.1 (lt-ltb (length fs) 32 h.2)
      ∙ parts_read ps (record { kind = n; opened = o; opened_list = length inner + 1; items = items; lists = before } ∷ fs) (93 ∷ lists_spelling ls s)
      (λ ts. read fs (between n o (before ++ all_of (trees ts) ∷ [])) items [] (lists_spelling ls s))
      (λ is l. closed_read (record { kind = n; opened = o; opened_list = length inner + 1; items = items; lists = before }) fs is l (lists_spelling ls s))
      [] [] h.3 h.4
      ∙ lists_read ls fs n o (before ++ all_of (trees h.3) ∷ []) items all s h.5

limited : (o : Option ℕ) (text : List ℕ) → o ≡ None → within_limit o text ≡ read [] outside [] [] text
limited o text e = ap (λ (x : Option ℕ). within_limit x text) e

pub read_spelling : (ps : Parts) (all : List Tree) → Means 0 [] [] ps all → IsWithinLimit (spelling ps []) → described (spelling ps []) ≡ Ok all
read_spelling ps all h few = limited (past is_special 65536 (spelling ps [])) (spelling ps []) few ∙ parts_read ps [] [] (λ ts. Ok ts) ended_read [] [] all h
