-- What is described is spelled by parts of the grammar.
use Rattle.std.proofs.lemmas.Bool.{eqb-true, ltb-true}
use Rattle.std.proofs.lemmas.List.{append-nil}
use Rattle.std.proofs.Common.{◌≡◌, ◌≢◌, ℕ, ◌+◌, ◌<◌, Bool, true, false, eqb, ltb, ◌&&◌, ◌⊎◌, inl, inr, List, [], ◌∷◌, ◌++◌, length, Option, Some, None, Result, Ok, Err, refl, sym, ap, ◌∙◌, subst, append_assoc}
use Rattle.std.specs.Char.{is_ascii_whitespace}
use Rattle.std.specs.List.{AllByRecursion}
use Rattle.time_below.specs.Conversion.{current_component}
use Rattle.time_below.specs.declared.format_description.component.Component.{Component}
use Rattle.time_below.specs.Tree.{Tree, trees, of_component, all_of}
use Rattle.time_describe.specs.declared.fault.Fault.{Fault}
use Rattle.time_describe.specs.declared.brackets.reason.BracketReason.{BracketReason}
use Rattle.time_describe.specs.declared.items.ListKind.{ListKind}
use Rattle.time_describe.specs.declared.items.ListKind.TheVariants as kinds
use Rattle.time_describe.specs.Grammar.{Word, Parts, done, plain, escaped, in_brackets, with_lists, Lists, no_list, list, words, spelling, lists_spelling, AreWhite, IsWord, IsChoice, IsChosen, IsApart, is_deep, Means, ListsMean}
use Rattle.time_describe.specs.Literal.{literal_of}
use Rattle.time_describe.specs.Marks.{past}
use Rattle.time_describe.specs.Names.{named}
use Rattle.time_describe.specs.Pieces.{ends_literal}
use Rattle.time_describe.specs.Reading.{◌>>=◌, Frame, BytePlace, outside, escape, brackets, between, read, at_fault, of_name, with_word, keyword, word_place, ended, is_whole, nested, takes_list, after_list, with_literal, is_special, is_escapable, ends_word, within_limit, IsWithinLimit, described}
use Rattle.time_describe.proofs.CaseLemmas.{by_test}

-- what holds where reading gives these items
record Gives (all : List Tree) (S : Type 0) (r : Result (List Tree) (Fault BracketReason)) : Type 0 where
  at : r ≡ Ok all → S

never : {S : Type 0} (all : List Tree) (f : Fault BracketReason) → Gives all S (Err f)
never all f = record { at = λ e. absurd cc }

along : {S T : Type 0} {all : List Tree} {r : Result (List Tree) (Fault BracketReason)} → (S → T) → Gives all S r → Gives all T r
along f g = record { at = λ e. f (g.at e) }

-- ---- what the bytes spell from each place on; `E` says what the bytes from the end of the innermost list on spell

record Out (depth : ℕ) (E : List Tree → List ℕ → Type 0) (items : List Tree) (literal bs : List ℕ) : Type 0 where
  parts : Parts
  inner : List Tree
  after : List ℕ
  spelled : spelling parts after ≡ bs
  means : Means depth items literal parts inner
  ends : E inner after

record Behind (depth : ℕ) (E : List Tree → List ℕ → Type 0) (items : List Tree) (bs : List ℕ) : Type 0 where
  byte : ℕ
  after : List ℕ
  spelled : byte ∷ after ≡ bs
  is : is_escapable byte ≡ true
  out : Out depth E (items ++ literal_of (byte ∷ []) ∷ []) [] after

record Between (depth : ℕ) (E : List Tree → List ℕ → Type 0) (n : ListKind) (before items : List Tree) (bs : List ℕ) : Type 0 where
  lists : Lists
  ts : List Tree
  gap : List ℕ
  tree : Tree
  after : List ℕ
  spelled : lists_spelling lists (gap ++ 93 ∷ after) ≡ bs
  mean : ListsMean depth n before lists ts
  white : AreWhite gap
  made : (left : ℕ) → nested n ts left ≡ Ok tree
  out : Out depth E (items ++ tree ∷ []) [] after

record Apart (depth : ℕ) (E : List Tree → List ℕ → Type 0) (n : ListKind) (items : List Tree) (bs : List ℕ) : Type 0 where
  between : Between depth E n [] items bs
  apart : IsApart between.lists

-- the first choice stands behind whitespace that was passed over before, or that is to come
abbrev AreLoose : List Word → Type 0
AreLoose [] = Unit {0}
AreLoose (w ∷ ws) = AreWhite w.gap × IsWord w.bytes × AllByRecursion IsChoice ws

record Choices (AllChoices : List Word → Type 0) (depth : ℕ) (E : List Tree → List ℕ → Type 0) (c : Component) (items : List Tree) (bs : List ℕ) : Type 0 where
  choices : List Word
  gap : List ℕ
  made : Component
  after : List ℕ
  spelled : words choices (gap ++ 93 ∷ after) ≡ bs
  allowed : AllChoices choices
  white : AreWhite gap
  chosen : IsChosen c choices made
  whole : is_whole made ≡ true
  out : Out depth E (items ++ of_component (current_component made) ∷ []) [] after

abbrev Strict : ℕ → (List Tree → List ℕ → Type 0) → Component → List Tree → List ℕ → Type 0
Strict = Choices (AllByRecursion IsChoice)

abbrev Loose : ℕ → (List Tree → List ℕ → Type 0) → Component → List Tree → List ℕ → Type 0
Loose = Choices AreLoose

record InWord (depth : ℕ) (E : List Tree → List ℕ → Type 0) (c : Component) (word : List ℕ) (items : List Tree) (bs : List ℕ) : Type 0 where
  tail : List ℕ
  after : List ℕ
  next : Component
  spelled : tail ++ after ≡ bs
  plain : AllByRecursion (λ b. ends_word b ≡ false) tail
  is : with_word (Some c) (word ++ tail) ≡ Ok next
  choices : Strict depth E next items after

-- a name is of a component, or opens lists
abbrev IsOf : ℕ → (List Tree → List ℕ → Type 0) → List ℕ → List Tree → List ℕ → Type 0
IsOf depth E name items after =
    ((keyword name ≡ None) × (first : Component) × (named name ≡ Some first) × Strict depth E first items after)
    ⊎ ((n : ListKind) × (keyword name ≡ Some n) × Apart depth E n items after)

record InName (depth : ℕ) (E : List Tree → List ℕ → Type 0) (word : List ℕ) (items : List Tree) (bs : List ℕ) : Type 0 where
  tail : List ℕ
  after : List ℕ
  spelled : tail ++ after ≡ bs
  plain : AllByRecursion (λ b. ends_word b ≡ false) tail
  of : IsOf depth E (word ++ tail) items after

record AtName (depth : ℕ) (E : List Tree → List ℕ → Type 0) (items : List Tree) (bs : List ℕ) : Type 0 where
  gap : List ℕ
  first : ℕ
  after : List ℕ
  spelled : gap ++ first ∷ after ≡ bs
  white : AreWhite gap
  plain : ends_word first ≡ false
  name : InName depth E (first ∷ []) items after

-- what the bytes from the end of the innermost list on spell
abbrev Ends : List Tree → List Frame → List Tree → List ℕ → Type 0
Ends all [] = λ inner after. (after ≡ []) × (inner ≡ all)
Ends all (f ∷ fs) = λ inner after.
    (rest : List ℕ) × (after ≡ 93 ∷ rest) × Between (length fs) (Ends all fs) f.kind (f.lists ++ all_of (trees inner) ∷ []) f.items rest

abbrev InBrackets : ℕ → (List Tree → List ℕ → Type 0) → Option Component → List ℕ → List Tree → List ℕ → Type 0
InBrackets depth E None [] items bs = AtName depth E items bs
InBrackets depth E None (x ∷ xs) items bs = InName depth E (x ∷ xs) items bs
InBrackets depth E (Some c) [] items bs = Loose depth E c items bs
InBrackets depth E (Some c) (x ∷ xs) items bs = InWord depth E c (x ∷ xs) items bs

abbrev Spelled : List Tree → List Frame → BytePlace → List Tree → List ℕ → List ℕ → Type 0
Spelled all fs outside items literal bs = Out (length fs) (Ends all fs) items literal bs
Spelled all fs escape items literal bs = Behind (length fs) (Ends all fs) items bs
Spelled all fs (brackets o c word) items literal bs = InBrackets (length fs) (Ends all fs) c word items bs
Spelled all fs (between n o lists) items literal bs = Between (length fs) (Ends all fs) n lists items bs

-- ---- a byte before them

front : (b x : ℕ) (bs : List ℕ) → eqb b x ≡ true → x ∷ bs ≡ b ∷ bs
front b x bs e = ap (λ (y : ℕ). y ∷ bs) (sym (eqb-true b x e))

plain_first : {depth : ℕ} {E : List Tree → List ℕ → Type 0} {items : List Tree} {literal bs : List ℕ} (b : ℕ) → ends_literal (is_deep depth) b ≡ false
    → Out depth E items (literal ++ b ∷ []) bs → Out depth E items literal (b ∷ bs)
plain_first b is o = record { parts = plain b o.parts; inner = o.inner; after = o.after; spelled = ap (λ (s : List ℕ). b ∷ s) o.spelled; means = (is, o.means); ends = o.ends }

escape_first : {depth : ℕ} {E : List Tree → List ℕ → Type 0} {items : List Tree} {literal : List ℕ} (b : ℕ) (bs : List ℕ) → eqb b 92 ≡ true
    → Behind depth E (with_literal items literal) bs → Out depth E items literal (b ∷ bs)
escape_first b bs e h = record {
  parts = escaped h.byte h.out.parts;
  inner = h.out.inner;
  after = h.out.after;
  spelled = ap (λ (s : List ℕ). 92 ∷ h.byte ∷ s) h.out.spelled ∙ ap (λ (s : List ℕ). 92 ∷ s) h.spelled ∙ front b 92 bs e;
  means = (h.is, h.out.means);
  ends = h.out.ends;
}

component_first : {depth : ℕ} {E : List Tree → List ℕ → Type 0} {items : List Tree} {literal : List ℕ} (b : ℕ) (bs : List ℕ) → eqb b 91 ≡ true
    → (h : AtName depth E (with_literal items literal) bs) → keyword (h.first ∷ h.name.tail) ≡ None → (first : Component) → named (h.first ∷ h.name.tail) ≡ Some first
    → Strict depth E first (with_literal items literal) h.name.after → Out depth E items literal (b ∷ bs)
component_first b bs e h none first is c = record {
  parts = in_brackets (record { name = record { gap = h.gap; bytes = h.first ∷ h.name.tail }; choices = c.choices; gap = c.gap }) c.out.parts;
  inner = c.out.inner;
  after = c.out.after;
  spelled =
      ap (λ (s : List ℕ). 91 ∷ h.gap ++ (h.first ∷ h.name.tail ++ words c.choices (c.gap ++ 93 ∷ s))) c.out.spelled
      ∙ ap (λ (s : List ℕ). 91 ∷ h.gap ++ (h.first ∷ h.name.tail ++ s)) c.spelled
      ∙ ap (λ (s : List ℕ). 91 ∷ h.gap ++ h.first ∷ s) h.name.spelled
      ∙ ap (λ (s : List ℕ). 91 ∷ s) h.spelled
      ∙ front b 91 bs e;
  means = (c.made, record { gap = h.white; name = ((λ x. absurd cc), (h.plain, h.name.plain)); no_keyword = none; choices = c.allowed; end = c.white; first = first; is_first = is; chosen = c.chosen; whole = c.whole }, c.out.means);
  ends = c.out.ends;
}

lists_first : {depth : ℕ} {E : List Tree → List ℕ → Type 0} {items : List Tree} {literal : List ℕ} (b : ℕ) (bs : List ℕ) → eqb b 91 ≡ true
    → (h : AtName depth E (with_literal items literal) bs) → (n : ListKind) → keyword (h.first ∷ h.name.tail) ≡ Some n
    → Apart depth E n (with_literal items literal) h.name.after → Out depth E items literal (b ∷ bs)
lists_first b bs e h n is a =
    let w = a.between in
    record {
      parts = with_lists (record { gap = h.gap; bytes = h.first ∷ h.name.tail }) n w.lists w.gap w.out.parts;
      inner = w.out.inner;
      after = w.out.after;
      spelled =
          ap (λ (s : List ℕ). 91 ∷ h.gap ++ (h.first ∷ h.name.tail ++ lists_spelling w.lists (w.gap ++ 93 ∷ s))) w.out.spelled
          ∙ ap (λ (s : List ℕ). 91 ∷ h.gap ++ (h.first ∷ h.name.tail ++ s)) w.spelled
          ∙ ap (λ (s : List ℕ). 91 ∷ h.gap ++ h.first ∷ s) h.name.spelled
          ∙ ap (λ (s : List ℕ). 91 ∷ s) h.spelled
          ∙ front b 91 bs e;
      means = (h.white, ((λ x. absurd cc), (h.plain, h.name.plain)), is, a.apart, w.white, w.ts, w.mean, w.tree, w.made, w.out.means);
      ends = w.out.ends;
    }

brackets_first : {depth : ℕ} {E : List Tree → List ℕ → Type 0} {items : List Tree} {literal : List ℕ} (b : ℕ) (bs : List ℕ) → eqb b 91 ≡ true
    → AtName depth E (with_literal items literal) bs → Out depth E items literal (b ∷ bs)
brackets_first b bs e h = elim h.name.of [
  | inl c ↦ component_first b bs e h c.0 c.1 c.2 c.3
  | inr l ↦ lists_first b bs e h l.0 l.1 l.2
]

-- ---- whitespace before them

some_byte : (b : ℕ) (bs : List ℕ) → b ∷ bs ≢ []
some_byte b bs = λ e. absurd cc

wide_choices : {depth : ℕ} {E : List Tree → List ℕ → Type 0} {items : List Tree} (b : ℕ) (bs : List ℕ) (c made : Component) (choices : List Word) (gap after : List ℕ) → is_ascii_whitespace b ≡ true
    → words choices (gap ++ 93 ∷ after) ≡ bs → AreLoose choices → AreWhite gap → IsChosen c choices made → is_whole made ≡ true
    → Out depth E (items ++ of_component (current_component made) ∷ []) [] after → Strict depth E c items (b ∷ bs)
wide_choices b bs c made [] gap after white is loose h chosen whole out = record {
  choices = [];
  gap = b ∷ gap;
  made = made;
  after = after;
  spelled = ap (λ (s : List ℕ). b ∷ s) is;
  allowed = tt;
  white = (white, h);
  chosen = chosen;
  whole = whole;
  out = out;
}
wide_choices b bs c made (w ∷ ws) gap after white is loose h chosen whole out = record {
  choices = record { gap = b ∷ w.gap; bytes = w.bytes } ∷ ws;
  gap = gap;
  made = made;
  after = after;
  spelled = ap (λ (s : List ℕ). b ∷ s) is;
  allowed = ((some_byte b w.gap, (white, loose.0), loose.1), loose.2);
  white = h;
  chosen = chosen;
  whole = whole;
  out = out;
}

widened : {depth : ℕ} {E : List Tree → List ℕ → Type 0} {c : Component} {items : List Tree} (b : ℕ) (bs : List ℕ) → is_ascii_whitespace b ≡ true → Loose depth E c items bs → Strict depth E c items (b ∷ bs)
widened {c = c} b bs white h = wide_choices b bs c h.made h.choices h.gap h.after white h.spelled h.allowed h.white h.chosen h.whole h.out

loose : (ws : List Word) → AllByRecursion IsChoice ws → AreLoose ws
loose [] h = tt
loose (w ∷ ws) h = (h.0.1, h.0.2, h.1)

loosened : {depth : ℕ} {E : List Tree → List ℕ → Type 0} {c : Component} {items : List Tree} {bs : List ℕ} → Strict depth E c items bs → Loose depth E c items bs
loosened h = record { choices = h.choices; gap = h.gap; made = h.made; after = h.after; spelled = h.spelled; allowed = loose h.choices h.allowed; white = h.white; chosen = h.chosen; whole = h.whole; out = h.out }

wide_lists : {depth : ℕ} {E : List Tree → List ℕ → Type 0} {items : List Tree} (b : ℕ) (bs : List ℕ) (n : ListKind) (before ts : List Tree) (t : Tree) (lists : Lists) (gap after : List ℕ) → is_ascii_whitespace b ≡ true
    → lists_spelling lists (gap ++ 93 ∷ after) ≡ bs → ListsMean depth n before lists ts → AreWhite gap → ((left : ℕ) → nested n ts left ≡ Ok t) → Out depth E (items ++ t ∷ []) [] after
    → (h : Between depth E n before items (b ∷ bs)) × IsApart h.lists
wide_lists b bs n before ts t no_list gap after white is mean h made out = (
  record { lists = no_list; ts = ts; gap = b ∷ gap; tree = t; after = after; spelled = ap (λ (s : List ℕ). b ∷ s) is; mean = mean; white = (white, h); made = made; out = out },
  tt,
)
wide_lists b bs n before ts t (list g ps ls) gap after white is mean h made out = (
  record {
    lists = list (b ∷ g) ps ls;
    ts = ts;
    gap = gap;
    tree = t;
    after = after;
    spelled = ap (λ (s : List ℕ). b ∷ s) is;
    mean = ((white, mean.0), mean.1, mean.2, mean.3, mean.4, mean.5);
    white = h;
    made = made;
    out = out;
  },
  some_byte b g,
)

apart : {depth : ℕ} {E : List Tree → List ℕ → Type 0} {n : ListKind} {before items : List Tree} (b : ℕ) (bs : List ℕ) → is_ascii_whitespace b ≡ true → Between depth E n before items bs
    → (h : Between depth E n before items (b ∷ bs)) × IsApart h.lists
apart {n = n} {before = before} b bs white h = wide_lists b bs n before h.ts h.tree h.lists h.gap h.after white h.spelled h.mean h.white h.made h.out

name_widened : {depth : ℕ} {E : List Tree → List ℕ → Type 0} {items : List Tree} (b : ℕ) (bs : List ℕ) → is_ascii_whitespace b ≡ true → AtName depth E items bs → AtName depth E items (b ∷ bs)
name_widened b bs white h = record { gap = b ∷ h.gap; first = h.first; after = h.after; spelled = ap (λ (s : List ℕ). b ∷ s) h.spelled; white = (white, h.white); plain = h.plain; name = h.name }

-- ---- a byte of a word before them

no_end : (b : ℕ) → is_special b ≡ false → eqb b 93 ≡ false → is_ascii_whitespace b ≡ false → ends_word b ≡ false
no_end b e f g = rw (e, f, g) refl

name_begun : {depth : ℕ} {E : List Tree → List ℕ → Type 0} {items : List Tree} (b : ℕ) (bs : List ℕ) → ends_word b ≡ false → InName depth E (b ∷ []) items bs → AtName depth E items (b ∷ bs)
name_begun b bs p h = record { gap = []; first = b; after = bs; spelled = refl; white = tt; plain = p; name = h }

name_longer : {depth : ℕ} {E : List Tree → List ℕ → Type 0} {items : List Tree} (word : List ℕ) (b : ℕ) (bs : List ℕ) → ends_word b ≡ false → InName depth E (word ++ b ∷ []) items bs → InName depth E word items (b ∷ bs)
name_longer {depth} {E} {items} word b bs p h = record {
  tail = b ∷ h.tail;
  after = h.after;
  spelled = ap (λ (s : List ℕ). b ∷ s) h.spelled;
  plain = (p, h.plain);
  of = subst (λ (name : List ℕ). IsOf depth E name items h.after) (append_assoc word (b ∷ []) h.tail) h.of;
}

word_begun : {depth : ℕ} {E : List Tree → List ℕ → Type 0} {c : Component} {items : List Tree} (b : ℕ) (bs : List ℕ) → ends_word b ≡ false → InWord depth E c (b ∷ []) items bs → Loose depth E c items (b ∷ bs)
word_begun b bs p h =
    let c = h.choices in
    record {
      choices = record { gap = []; bytes = b ∷ h.tail } ∷ c.choices;
      gap = c.gap;
      made = c.made;
      after = c.after;
      spelled = ap (λ (s : List ℕ). b ∷ h.tail ++ s) c.spelled ∙ ap (λ (s : List ℕ). b ∷ s) h.spelled;
      allowed = (tt, (some_byte b h.tail, (p, h.plain)), c.allowed);
      white = c.white;
      chosen = (h.next, h.is, c.chosen);
      whole = c.whole;
      out = c.out;
    }

word_longer : {depth : ℕ} {E : List Tree → List ℕ → Type 0} {c : Component} {items : List Tree} (word : List ℕ) (b : ℕ) (bs : List ℕ) → ends_word b ≡ false → InWord depth E c (word ++ b ∷ []) items bs → InWord depth E c word items (b ∷ bs)
word_longer {c = c} word b bs p h = record {
  tail = b ∷ h.tail;
  after = h.after;
  next = h.next;
  spelled = ap (λ (s : List ℕ). b ∷ s) h.spelled;
  plain = (p, h.plain);
  is = ap (with_word (Some c)) (sym (append_assoc word (b ∷ []) h.tail)) ∙ h.is;
  choices = h.choices;
}

word_ended : {depth : ℕ} {E : List Tree → List ℕ → Type 0} {items : List Tree} {bs : List ℕ} (c next : Component) (word : List ℕ) → with_word (Some c) word ≡ Ok next → Strict depth E next items bs → InWord depth E c word items bs
word_ended {bs = bs} c next word is h = record { tail = []; after = bs; next = next; spelled = refl; plain = tt; is = ap (with_word (Some c)) (append-nil word) ∙ is; choices = h }

name_ended : {depth : ℕ} {E : List Tree → List ℕ → Type 0} {items : List Tree} {bs : List ℕ} (word : List ℕ) → IsOf depth E word items bs → InName depth E word items bs
name_ended {depth} {E} {items} {bs} word h = record { tail = []; after = bs; spelled = refl; plain = tt; of = subst (λ (name : List ℕ). IsOf depth E name items bs) (sym (append-nil word)) h }

-- ---- closed brackets

whole_step : {depth : ℕ} {E : List Tree → List ℕ → Type 0} {all : List Tree} (test : Bool) (b : ℕ) (bs : List ℕ) (c : Component) (items : List Tree) (left : ℕ) (go : Tree → Result (List Tree) (Fault BracketReason)) → is_whole c ≡ test → eqb b 93 ≡ true
    → ((t : Tree) → Gives all (Out depth E (items ++ t ∷ []) [] bs) (go t))
    → Gives all (Strict depth E c items (b ∷ bs)) (ended (brackets 0 (Some c) []) left >>= go)
whole_step true b bs c items left go is e later = rw is (along (λ out. record { choices = []; gap = []; made = c; after = bs; spelled = front b 93 bs e; allowed = tt; white = tt; chosen = refl; whole = is; out = out }) (later (of_component (current_component c))))
whole_step {all = all} false b bs c items left go is e later = rw is (never all _)

closed : {depth : ℕ} {E : List Tree → List ℕ → Type 0} {all : List Tree} (b : ℕ) (bs : List ℕ) (c : Component) (items : List Tree) (left : ℕ) (go : Tree → Result (List Tree) (Fault BracketReason)) → eqb b 93 ≡ true
    → ((t : Tree) → Gives all (Out depth E (items ++ t ∷ []) [] bs) (go t))
    → Gives all (Strict depth E c items (b ∷ bs)) (ended (brackets 0 (Some c) []) left >>= go)
closed b bs c items left go e later = whole_step (is_whole c) b bs c items left go refl e later

nested_any : (n : ListKind) (ts : List Tree) (left other : ℕ) (t : Tree) → nested n ts left ≡ Ok t → nested n ts other ≡ Ok t
nested_any kinds.Optional [] left other t e = absurd cc
nested_any kinds.Optional (x ∷ ts) left other t e = e
nested_any kinds.First ts left other t e = e

lists_step : {depth : ℕ} {E : List Tree → List ℕ → Type 0} {all : List Tree} (r : Result Tree (Fault BracketReason)) (b : ℕ) (bs : List ℕ) (n : ListKind) (ts items : List Tree) (left : ℕ) (go : Tree → Result (List Tree) (Fault BracketReason)) → nested n ts left ≡ r → eqb b 93 ≡ true
    → ((t : Tree) → Gives all (Out depth E (items ++ t ∷ []) [] bs) (go t))
    → Gives all ((h : Between depth E n ts items (b ∷ bs)) × IsApart h.lists) (r >>= go)
lists_step (Ok t) b bs n ts items left go is e later =
    along (λ out. (record { lists = no_list; ts = ts; gap = []; tree = t; after = bs; spelled = front b 93 bs e; mean = refl; white = tt; made = λ other. nested_any n ts left other t is; out = out }, tt)) (later t)
lists_step {all = all} (Err f) b bs n ts items left go is e later = never all f

lists_closed : {depth : ℕ} {E : List Tree → List ℕ → Type 0} {all : List Tree} (b : ℕ) (bs : List ℕ) (n : ListKind) (ts items : List Tree) (left : ℕ) (go : Tree → Result (List Tree) (Fault BracketReason)) → eqb b 93 ≡ true
    → ((t : Tree) → Gives all (Out depth E (items ++ t ∷ []) [] bs) (go t))
    → Gives all ((h : Between depth E n ts items (b ∷ bs)) × IsApart h.lists) (nested n ts left >>= go)
lists_closed b bs n ts items left go e later = lists_step (nested n ts left) b bs n ts items left go refl e later

-- ---- where a word ends

-- where a name has ended, reading goes on from the place behind it
component_step : {depth : ℕ} {E : List Tree → List ℕ → Type 0} {all : List Tree} (made : Option Component) (word : List ℕ) (o left : ℕ) (items : List Tree) (bs : List ℕ) (go : BytePlace → Result (List Tree) (Fault BracketReason))
    → named word ≡ made → keyword word ≡ None
    → ((c : Component) → Gives all (Strict depth E c items bs) (go (brackets o (Some c) [])))
    → Gives all (InName depth E word items bs) ((at_fault (of_name made) left >>= λ c. Ok (brackets o (Some c) [])) >>= go)
component_step {all = all} None word o left items bs go is none later = never all _
component_step (Some c) word o left items bs go is none later = along (λ h. name_ended word (inl (none, c, is, h))) (later c)

name_step : {depth : ℕ} {E : List Tree → List ℕ → Type 0} {all : List Tree} (k : Option ListKind) (word : List ℕ) (o left : ℕ) (items : List Tree) (bs : List ℕ) (go : BytePlace → Result (List Tree) (Fault BracketReason))
    → keyword word ≡ k
    → ((c : Component) → Gives all (Strict depth E c items bs) (go (brackets o (Some c) [])))
    → ((n : ListKind) → Gives all ((h : Between depth E n [] items bs) × IsApart h.lists) (go (between n o [])))
    → Gives all (InName depth E word items bs) (word_place o None word k left >>= go)
name_step (Some n) word o left items bs go is later lists = along (λ h. name_ended word (inr (n, is, record { between = h.0; apart = h.1 }))) (lists n)
name_step None word o left items bs go is later lists = component_step (named word) word o left items bs go refl is later

choice_step : {depth : ℕ} {E : List Tree → List ℕ → Type 0} {all : List Tree} (r : Result Component BracketReason) (c : Component) (word : List ℕ) (o left : ℕ) (items : List Tree) (bs : List ℕ) (go : BytePlace → Result (List Tree) (Fault BracketReason))
    → with_word (Some c) word ≡ r
    → ((next : Component) → Gives all (Strict depth E next items bs) (go (brackets o (Some next) [])))
    → Gives all (InWord depth E c word items bs) ((at_fault r left >>= λ c. Ok (brackets o (Some c) [])) >>= go)
choice_step (Ok next) c word o left items bs go is later = along (λ h. word_ended c next word is h) (later next)
choice_step {all = all} (Err reason) c word o left items bs go is later = never all _

-- ---- each byte

both : (p q : Bool) → (p && q) ≡ true → (p ≡ true) × (q ≡ true)
both true q e = (refl, e)
both false q e = absurd cc

plain_byte : (nested : Bool) (b : ℕ) → eqb b 91 ≡ false → eqb b 92 ≡ false → eqb b 93 ≡ false → ends_literal nested b ≡ false
plain_byte true b e f g = rw (e, f, g) refl
plain_byte false b e f g = rw (e, f) refl

list_closed : (all : List Tree) (f : Frame) (fs : List Frame) (items : List Tree) (literal : List ℕ) (b : ℕ) (bs : List ℕ) → eqb b 93 ≡ true
    → Between (length fs) (Ends all fs) f.kind (f.lists ++ all_of (trees (with_literal items literal)) ∷ []) f.items bs
    → Out (length (f ∷ fs)) (Ends all (f ∷ fs)) items literal (b ∷ bs)
list_closed all f fs items literal b bs e h = record { parts = done; inner = with_literal items literal; after = b ∷ bs; spelled = refl; means = refl; ends = (bs, sym (front b 93 bs e), h) }

list_opened : (all : List Tree) (f : Frame) (fs : List Frame) (b : ℕ) (bs : List ℕ) → eqb b 91 ≡ true → takes_list f.kind f.lists ≡ true → length fs < 32
    → Out (length (f ∷ fs)) (Ends all (f ∷ fs)) [] [] bs → Between (length fs) (Ends all fs) f.kind f.lists f.items (b ∷ bs)
list_opened all f fs b bs e takes deep h =
    let w = h.ends.2 in
    record {
      lists = list [] h.parts w.lists;
      ts = w.ts;
      gap = w.gap;
      tree = w.tree;
      after = w.after;
      spelled = ap (λ (s : List ℕ). 91 ∷ spelling h.parts (93 ∷ s)) w.spelled ∙ ap (λ (s : List ℕ). 91 ∷ spelling h.parts s) (sym h.ends.1) ∙ ap (λ (s : List ℕ). 91 ∷ s) h.spelled ∙ front b 91 bs e;
      mean = (tt, takes, deep, h.inner, h.means, w.mean);
      white = w.white;
      made = w.made;
      out = w.out;
    }

spelled : (bs : List ℕ) (all : List Tree) (fs : List Frame) (place : BytePlace) (items : List Tree) (literal : List ℕ) → Gives all (Spelled all fs place items literal bs) (read fs place items literal bs)
unfolding read
spelled [] all [] outside items literal = record { at = λ e. record { parts = done; inner = with_literal items literal; after = []; spelled = refl; means = refl; ends = (refl, cc) } }
spelled [] all (f ∷ fs) outside items literal = never all _
spelled [] all fs escape items literal = never all _
spelled [] all fs (brackets o c word) items literal = never all _
spelled [] all fs (between n o lists) items literal = never all _
spelled (b ∷ bs) all [] outside items literal =
    by_test (Gives all (Out 0 (Ends all []) items literal (b ∷ bs))) (eqb b 91) _ _
    (λ e. along (brackets_first b bs e) (spelled bs all [] (brackets (length bs + 1) None []) (with_literal items literal) []))
    (λ e. by_test (Gives all (Out 0 (Ends all []) items literal (b ∷ bs))) (eqb b 92) _ _
    (λ f. along (escape_first b bs f) (spelled bs all [] escape (with_literal items literal) []))
    (λ f. along (plain_first b (rw (e, f) refl)) (spelled bs all [] outside items (literal ++ b ∷ []))))
spelled (b ∷ bs) all (x ∷ fs) outside items literal =
    by_test (Gives all (Out (length (x ∷ fs)) (Ends all (x ∷ fs)) items literal (b ∷ bs))) (eqb b 91) _ _
    (λ e. along (brackets_first b bs e) (spelled bs all (x ∷ fs) (brackets (length bs + 1) None []) (with_literal items literal) []))
    (λ e. by_test (Gives all (Out (length (x ∷ fs)) (Ends all (x ∷ fs)) items literal (b ∷ bs))) (eqb b 92) _ _
    (λ f. along (escape_first b bs f) (spelled bs all (x ∷ fs) escape (with_literal items literal) []))
    (λ f. by_test (Gives all (Out (length (x ∷ fs)) (Ends all (x ∷ fs)) items literal (b ∷ bs))) (eqb b 93) _ _
    (λ g. along (list_closed all x fs items literal b bs g) (spelled bs all fs (after_list x items literal) x.items []))
    (λ g. along (plain_first b (plain_byte true b e f g)) (spelled bs all (x ∷ fs) outside items (literal ++ b ∷ [])))))
spelled (b ∷ bs) all fs escape items literal =
    by_test (Gives all (Behind (length fs) (Ends all fs) items (b ∷ bs))) (is_escapable b) _ _
    (λ e. along (λ out. record { byte = b; after = bs; spelled = refl; is = e; out = out }) (spelled bs all fs outside (items ++ literal_of (b ∷ []) ∷ []) []))
    (λ e. never all _)
spelled (b ∷ bs) all fs (brackets o None []) items literal =
    by_test (Gives all (AtName (length fs) (Ends all fs) items (b ∷ bs))) (is_special b) _ _
    (λ e. never all _)
    (λ e. by_test (Gives all (AtName (length fs) (Ends all fs) items (b ∷ bs))) (eqb b 93) _ _
    (λ f. never all _)
    (λ f. by_test (Gives all (AtName (length fs) (Ends all fs) items (b ∷ bs))) (is_ascii_whitespace b) _ _
    (λ g. along (name_widened b bs g) (spelled bs all fs (brackets o None []) items []))
    (λ g. along (name_begun b bs (no_end b e f g)) (spelled bs all fs (brackets o None (b ∷ [])) items []))))
spelled (b ∷ bs) all fs (brackets o None (x ∷ xs)) items literal =
    let left = length (x ∷ xs) + (length bs + 1) in
    by_test (Gives all (InName (length fs) (Ends all fs) (x ∷ xs) items (b ∷ bs))) (is_special b) _ _
    (λ e. never all _)
    (λ e. by_test (Gives all (InName (length fs) (Ends all fs) (x ∷ xs) items (b ∷ bs))) (eqb b 93) _ _
    (λ f. name_step (keyword (x ∷ xs)) (x ∷ xs) o left items (b ∷ bs) (λ place. ended place (length bs + 1) >>= λ item. read fs outside (items ++ item ∷ []) [] bs) refl
    (λ c. closed b bs c items (length bs + 1) (λ item. read fs outside (items ++ item ∷ []) [] bs) f (λ t. spelled bs all fs outside (items ++ t ∷ []) []))
    (λ n. lists_closed b bs n [] items (length bs + 1) (λ item. read fs outside (items ++ item ∷ []) [] bs) f (λ t. spelled bs all fs outside (items ++ t ∷ []) [])))
    (λ f. by_test (Gives all (InName (length fs) (Ends all fs) (x ∷ xs) items (b ∷ bs))) (is_ascii_whitespace b) _ _
    (λ g. name_step (keyword (x ∷ xs)) (x ∷ xs) o left items (b ∷ bs) (λ place. read fs place items [] bs) refl
    (λ c. along (widened b bs g) (spelled bs all fs (brackets o (Some c) []) items []))
    (λ n. along (apart b bs g) (spelled bs all fs (between n o []) items [])))
    (λ g. along (name_longer (x ∷ xs) b bs (no_end b e f g)) (spelled bs all fs (brackets o None (x ∷ xs ++ b ∷ [])) items []))))
spelled (b ∷ bs) all fs (brackets o (Some c) []) items literal =
    by_test (Gives all (Loose (length fs) (Ends all fs) c items (b ∷ bs))) (is_special b) _ _
    (λ e. never all _)
    (λ e. by_test (Gives all (Loose (length fs) (Ends all fs) c items (b ∷ bs))) (eqb b 93) _ _
    (λ f. along loosened (closed b bs c items (length bs + 1) (λ item. read fs outside (items ++ item ∷ []) [] bs) f (λ t. spelled bs all fs outside (items ++ t ∷ []) [])))
    (λ f. by_test (Gives all (Loose (length fs) (Ends all fs) c items (b ∷ bs))) (is_ascii_whitespace b) _ _
    (λ g. along (λ h. loosened (widened b bs g h)) (spelled bs all fs (brackets o (Some c) []) items []))
    (λ g. along (word_begun b bs (no_end b e f g)) (spelled bs all fs (brackets o (Some c) (b ∷ [])) items []))))
spelled (b ∷ bs) all fs (brackets o (Some c) (x ∷ xs)) items literal =
    let left = length (x ∷ xs) + (length bs + 1) in
    by_test (Gives all (InWord (length fs) (Ends all fs) c (x ∷ xs) items (b ∷ bs))) (is_special b) _ _
    (λ e. never all _)
    (λ e. by_test (Gives all (InWord (length fs) (Ends all fs) c (x ∷ xs) items (b ∷ bs))) (eqb b 93) _ _
    (λ f. choice_step (with_word (Some c) (x ∷ xs)) c (x ∷ xs) o left items (b ∷ bs) (λ place. ended place (length bs + 1) >>= λ item. read fs outside (items ++ item ∷ []) [] bs) refl
    (λ next. closed b bs next items (length bs + 1) (λ item. read fs outside (items ++ item ∷ []) [] bs) f (λ t. spelled bs all fs outside (items ++ t ∷ []) [])))
    (λ f. by_test (Gives all (InWord (length fs) (Ends all fs) c (x ∷ xs) items (b ∷ bs))) (is_ascii_whitespace b) _ _
    (λ g. choice_step (with_word (Some c) (x ∷ xs)) c (x ∷ xs) o left items (b ∷ bs) (λ place. read fs place items [] bs) refl
    (λ next. along (widened b bs g) (spelled bs all fs (brackets o (Some next) []) items [])))
    (λ g. along (word_longer (x ∷ xs) b bs (no_end b e f g)) (spelled bs all fs (brackets o (Some c) (x ∷ xs ++ b ∷ [])) items []))))
spelled (b ∷ bs) all fs (between n o lists) items literal =
    by_test (Gives all (Between (length fs) (Ends all fs) n lists items (b ∷ bs))) (is_ascii_whitespace b) _ _
    (λ e. along (λ h. (apart b bs e h).0) (spelled bs all fs (between n o lists) items []))
    (λ e. by_test (Gives all (Between (length fs) (Ends all fs) n lists items (b ∷ bs))) (eqb b 93) _ _
    (λ f. along (λ h. h.0) (lists_closed b bs n lists items (length bs + 1) (λ item. read fs outside (items ++ item ∷ []) [] bs) f (λ t. spelled bs all fs outside (items ++ t ∷ []) [])))
    (λ f. by_test (Gives all (Between (length fs) (Ends all fs) n lists items (b ∷ bs))) (eqb b 91 && takes_list n lists) _ _
    (λ g. by_test (Gives all (Between (length fs) (Ends all fs) n lists items (b ∷ bs))) (ltb (length fs) 32) _ _
    (λ h.
    let w = both (eqb b 91) (takes_list n lists) g in
    let frame : Frame = record { kind = n; opened = o; opened_list = length bs + 1; items = items; lists = lists } in
    along (list_opened all frame fs b bs w.0 w.1 (ltb-true _ _ h)) (spelled bs all (frame ∷ fs) outside [] []))
    (λ h. never all _))
    (λ g. never all _)))

limited : (o : Option ℕ) (text : List ℕ) (all : List Tree) → within_limit o text ≡ Ok all → (o ≡ None) × (read [] outside [] [] text ≡ Ok all)
limited None text all e = (refl, e)
limited (Some left) text all e = absurd cc

pub described_spelled : (text : List ℕ) (all : List Tree) → described text ≡ Ok all → (ps : Parts) × (spelling ps [] ≡ text) × Means 0 [] [] ps all × IsWithinLimit text
described_spelled text all e =
    let w = limited (past is_special 65536 text) text all e in
    let h = (spelled text all [] outside [] []).at w.1 in (
      h.parts,
      ap (spelling h.parts) (sym h.ends.0) ∙ h.spelled,
      subst (λ (ts : List Tree). Means 0 [] [] h.parts ts) h.ends.1 h.means,
      w.0,
    )
