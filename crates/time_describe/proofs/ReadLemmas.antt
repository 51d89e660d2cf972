-- Many bytes at a time.
use Rattle.std.proofs.Common.{◌≡◌, ℕ, suc, ◌+◌, Bool, true, false, not, cond, eqb, List, [], ◌∷◌, ◌++◌, length, ◌&&◌, ltb, take, drop, Option, Some, None, Ok, Err, refl, sym, ap, ◌∙◌, append_assoc, arith, ◌||◌}
use Rattle.std.specs.Char.{is_ascii_whitespace}
use Rattle.std.specs.List.{position_or_len, prefix_len}
use Rattle.std.proofs.lemmas.Bool.{false≢true, eqb-true}
use Rattle.std.proofs.lemmas.List.{append-nil}
use Rattle.time_below.specs.declared.format_description.component.Component.{Component}
use Rattle.time_below.specs.Tree.{Tree, trees, of_component, all_of}
use Rattle.time_describe.specs.declared.brackets.reason.BracketReason.{BracketReason}
use Rattle.time_describe.specs.declared.fault.Fault.{Fault}
use Rattle.time_describe.specs.declared.items.ListKind.{ListKind}
use Rattle.time_describe.specs.Literal.{literal_of}
use Rattle.time_describe.specs.Pieces.{ends_literal, is_nested}
use Rattle.time_describe.specs.declared.brackets.reason.BracketReason.TheVariants.{UnclosedBracket, InvalidEscape, UnexpectedByte, TooDeep}
use Rattle.time_describe.specs.Reading.{takes_list, nested, Frame, between, list_kind_of, escape, is_special, is_escapable, ends_word, fails, at_fault, with_word, finished, outside, brackets, read}

pub or_false : (p q : Bool) → (p || q) ≡ false → (p ≡ false) × (q ≡ false)
or_false true q e = absurd cc
or_false false q e = (refl, e)

closing_is : (d : ℕ) → eqb d 93 ≡ true → d ≡ 93
closing_is d e = eqb-true d 93 e

-- ---- literals

pub plain_byte : (fs : List Frame) (b : ℕ) (items : List Tree) (literal bs : List ℕ) → ends_literal (is_nested fs) b ≡ false
    → read fs outside items literal (b ∷ bs) ≡ read fs outside items (literal ++ b ∷ []) bs
unfolding read
plain_byte [] b items literal bs e =
    let u = or_false (is_special b) false e in
    let w = or_false (eqb b 91) (eqb b 92) u.0 in
    rw (w.0, w.1) refl
plain_byte (f ∷ fs) b items literal bs e =
    let u = or_false (is_special b) (eqb b 93) e in
    let w = or_false (eqb b 91) (eqb b 92) u.0 in
    rw (w.0, w.1, u.1) refl

literal_step : (fs : List Frame) (ends : Bool) (n : ℕ) (items : List Tree) (literal bs : List ℕ) (b : ℕ)
    → read fs outside items (literal ++ b ∷ []) bs ≡ read fs outside items ((literal ++ b ∷ []) ++ take n bs) (drop n bs)
    → ends_literal (is_nested fs) b ≡ ends
    → read fs outside items literal (b ∷ bs) ≡ read fs outside items (literal ++ take (cond (not ends) (1 + n) 0) (b ∷ bs)) (drop (cond (not ends) (1 + n) 0) (b ∷ bs))
literal_step fs true n items literal bs b later is = ap (λ (l : List ℕ). read fs outside items l (b ∷ bs)) (sym (append-nil literal))
literal_step fs false n items literal bs b later is =
    let k : 1 + n ≡ suc n = omega arith in
    rw k (plain_byte fs b items literal bs is ∙ later ∙ ap (λ (l : List ℕ). read fs outside items l (drop n bs)) (append_assoc literal (b ∷ []) (take n bs)))

-- the bytes before the first that ends a literal are of the literal
pub literal_run : (fs : List Frame) (s : List ℕ) (items : List Tree) (literal : List ℕ)
    → read fs outside items literal s ≡ read fs outside items (literal ++ take (position_or_len (ends_literal (is_nested fs)) s) s) (drop (position_or_len (ends_literal (is_nested fs)) s) s)
literal_run fs [] items literal = ap (λ (l : List ℕ). read fs outside items l []) (sym (append-nil literal))
literal_run fs (b ∷ bs) items literal = literal_step fs (ends_literal (is_nested fs) b) (position_or_len (ends_literal (is_nested fs)) bs) items literal bs b (literal_run fs bs items (literal ++ b ∷ [])) refl

-- ---- words

pub word_byte : (fs : List Frame) (b o : ℕ) (c : Option Component) (word : List ℕ) (items : List Tree) (bs : List ℕ) → ends_word b ≡ false
    → read fs (brackets o c word) items [] (b ∷ bs) ≡ read fs (brackets o c (word ++ b ∷ [])) items [] bs
unfolding read
word_byte fs b o c word items bs e =
    let w = or_false (is_special b) (eqb b 93 || is_ascii_whitespace b) e in
    let v = or_false (eqb b 93) (is_ascii_whitespace b) w.1 in
    rw (w.0, v.0, v.1) refl

word_step : (fs : List Frame) (ends : Bool) (n o : ℕ) (c : Option Component) (word : List ℕ) (items : List Tree) (b : ℕ) (bs : List ℕ)
    → read fs (brackets o c (word ++ b ∷ [])) items [] bs ≡ read fs (brackets o c ((word ++ b ∷ []) ++ take n bs)) items [] (drop n bs)
    → ends_word b ≡ ends
    → read fs (brackets o c word) items [] (b ∷ bs) ≡ read fs (brackets o c (word ++ take (cond (not ends) (1 + n) 0) (b ∷ bs))) items [] (drop (cond (not ends) (1 + n) 0) (b ∷ bs))
word_step fs true n o c word items b bs later is = ap (λ (w : List ℕ). read fs (brackets o c w) items [] (b ∷ bs)) (sym (append-nil word))
word_step fs false n o c word items b bs later is =
    let k : 1 + n ≡ suc n = omega arith in
    rw k (word_byte fs b o c word items bs is ∙ later ∙ ap (λ (w : List ℕ). read fs (brackets o c w) items [] (drop n bs)) (append_assoc word (b ∷ []) (take n bs)))

-- the bytes before the first that ends a word are of the word
pub word_run : (fs : List Frame) (s : List ℕ) (o : ℕ) (c : Option Component) (word : List ℕ) (items : List Tree)
    → read fs (brackets o c word) items [] s ≡ read fs (brackets o c (word ++ take (position_or_len ends_word s) s)) items [] (drop (position_or_len ends_word s) s)
word_run fs [] o c word items = ap (λ (w : List ℕ). read fs (brackets o c w) items [] []) (sym (append-nil word))
word_run fs (b ∷ bs) o c word items = word_step fs (ends_word b) (position_or_len ends_word bs) o c word items b bs (word_run fs bs o c (word ++ b ∷ []) items) refl

-- ---- a byte in brackets

pub special_byte : (fs : List Frame) (b o : ℕ) (c : Option Component) (word : List ℕ) (items : List Tree) (bs : List ℕ) → is_special b ≡ true
    → read fs (brackets o c word) items [] (b ∷ bs) ≡ fails UnclosedBracket o
unfolding read
special_byte fs b o c word items bs e = rw e refl

pub no_byte : (fs : List Frame) (o : ℕ) (c : Option Component) (word : List ℕ) (items : List Tree) → read fs (brackets o c word) items [] [] ≡ fails UnclosedBracket o
unfolding read
no_byte fs o c word items = refl

pub white_byte : (fs : List Frame) (b o : ℕ) (c : Option Component) (items : List Tree) (bs : List ℕ) → is_special b ≡ false → eqb b 93 ≡ false → is_ascii_whitespace b ≡ true
    → read fs (brackets o c []) items [] (b ∷ bs) ≡ read fs (brackets o c []) items [] bs
unfolding read
white_byte fs b o c items bs e f g = rw (e, f, g) refl

pub closes : (fs : List Frame) (b o : ℕ) (c : Option Component) (made : Component) (items : List Tree) (bs : List ℕ) → is_special b ≡ false → eqb b 93 ≡ true
    → at_fault (finished c) (length bs + 1) ≡ Ok made
    → read fs (brackets o c []) items [] (b ∷ bs) ≡ read fs outside (items ++ of_component made ∷ []) [] bs
unfolding read
closes fs b o c made items bs e f is = rw (e, f, is) refl

pub closes_wrongly : (fs : List Frame) (b o : ℕ) (c : Option Component) (fault : Fault BracketReason) (items : List Tree) (bs : List ℕ) → is_special b ≡ false → eqb b 93 ≡ true
    → at_fault (finished c) (length bs + 1) ≡ Err fault
    → read fs (brackets o c []) items [] (b ∷ bs) ≡ Err fault
unfolding read
closes_wrongly fs b o c fault items bs e f is = rw (e, f, is) refl

-- ---- where a word ends

pub ended_word : (fs : List Frame) (is_closing : Bool) (d o : ℕ) (c : Option Component) (x : ℕ) (xs : List ℕ) (items : List Tree) (ds : List ℕ) (made : Component)
    → eqb d 93 ≡ is_closing → is_special d ≡ false → ends_word d ≡ true → list_kind_of c (x ∷ xs) ≡ None → at_fault (with_word c (x ∷ xs)) (length (x ∷ xs) + (length ds + 1)) ≡ Ok made
    → read fs (brackets o c (x ∷ xs)) items [] (d ∷ ds) ≡ read fs (brackets o (Some made) []) items [] (d ∷ ds)
unfolding read
ended_word fs true d o c x xs items ds made f e h none w = rw (e, f, none, w) refl
ended_word fs false d o c x xs items ds made f e h none w =
    let white : is_ascii_whitespace d ≡ true = rw (e, f) at h in
    rw (e, f, white, none, w) refl

pub ended_keyword : (fs : List Frame) (is_closing : Bool) (d o : ℕ) (c : Option Component) (x : ℕ) (xs : List ℕ) (items : List Tree) (ds : List ℕ) (n : ListKind)
    → eqb d 93 ≡ is_closing → is_special d ≡ false → ends_word d ≡ true → list_kind_of c (x ∷ xs) ≡ Some n
    → read fs (brackets o c (x ∷ xs)) items [] (d ∷ ds) ≡ read fs (between n o []) items [] (d ∷ ds)
unfolding read
ended_keyword fs true d o c x xs items ds n f e h is =
    let dark : is_ascii_whitespace d ≡ false = rw (closing_is d f) refl in
    rw (e, f, dark, is) refl
ended_keyword fs false d o c x xs items ds n f e h is =
    let white : is_ascii_whitespace d ≡ true = rw (e, f) at h in
    rw (e, f, white, is) refl

refused_word : (fs : List Frame) (is_closing : Bool) (d o : ℕ) (c : Option Component) (x : ℕ) (xs : List ℕ) (items : List Tree) (ds : List ℕ) (fault : Fault BracketReason)
    → eqb d 93 ≡ is_closing → is_special d ≡ false → ends_word d ≡ true → list_kind_of c (x ∷ xs) ≡ None → at_fault (with_word c (x ∷ xs)) (length (x ∷ xs) + (length ds + 1)) ≡ Err fault
    → read fs (brackets o c (x ∷ xs)) items [] (d ∷ ds) ≡ Err fault
unfolding read
refused_word fs true d o c x xs items ds fault f e h none w = rw (e, f, none, w) refl
refused_word fs false d o c x xs items ds fault f e h none w =
    let white : is_ascii_whitespace d ≡ true = rw (e, f) at h in
    rw (e, f, white, none, w) refl

-- ---- a whole word, and what follows it

-- what is behind the elements before the first that passes begins with one that passes
stops_step : (p : ℕ → Bool) (passes : Bool) (n b : ℕ) (bs : List ℕ) (d : ℕ) (ds : List ℕ) → p b ≡ passes
    → (drop n bs ≡ d ∷ ds → p d ≡ true)
    → drop (cond (not passes) (1 + n) 0) (b ∷ bs) ≡ d ∷ ds → p d ≡ true
stops_step p true n b bs d ds e later is = let same : b ≡ d = cc in ap p (sym same) ∙ e
stops_step p false n b bs d ds e later is =
    let k : 1 + n ≡ suc n = omega arith in
    later (rw k at is)

pub stops : (p : ℕ → Bool) (s : List ℕ) (d : ℕ) (ds : List ℕ) → drop (position_or_len p s) s ≡ d ∷ ds → p d ≡ true
stops p [] d ds is = absurd cc
stops p (b ∷ bs) d ds is = stops_step p (p b) (position_or_len p bs) b bs d ds refl (stops p bs d ds) is

pub begins : (p : ℕ → Bool) (s word : List ℕ) (n b : ℕ) (bs : List ℕ) → s ≡ b ∷ bs → p b ≡ false → n ≡ position_or_len p s → word ≡ take n s
    → (xs : List ℕ) × (word ≡ b ∷ xs)
begins p s word n b bs is plain n-is word-is =
    let k : 1 + position_or_len p bs ≡ suc (position_or_len p bs) = omega arith in
    let n-is-suc : n ≡ suc (position_or_len p bs) = n-is ∙ ap (position_or_len p) is ∙ rw plain k in
    (take (position_or_len p bs) bs, word-is ∙ ap (take n) is ∙ ap (λ (m : ℕ). take m (b ∷ bs)) n-is-suc)

pub plain_word : (b : ℕ) → is_special b ≡ false → eqb b 93 ≡ false → is_ascii_whitespace b ≡ false → ends_word b ≡ false
plain_word b e f g = rw (e, f, g) refl

-- reading goes on behind the word's bytes
pub record Word (s word next : List ℕ) (n : ℕ) : Type 0 where
  pub len : n ≡ position_or_len ends_word s
  pub front : word ≡ take n s
  pub back : next ≡ drop n s

pub word_read : (fs : List Frame) (s word next : List ℕ) (n o : ℕ) (c : Option Component) (items : List Tree) → Word s word next n
    → read fs (brackets o c []) items [] s ≡ read fs (brackets o c word) items [] next
word_read fs s word next n o c items w =
    word_run fs s o c [] items
    ∙ ap (λ (m : ℕ). read fs (brackets o c (take m s)) items [] (drop m s)) (sym w.len)
    ∙ ap (λ (x : List ℕ). read fs (brackets o c x) items [] (drop n s)) (sym w.front)
    ∙ ap (λ (x : List ℕ). read fs (brackets o c word) items [] x) (sym w.back)

next_ends : (s word next : List ℕ) (n d : ℕ) (ds : List ℕ) → Word s word next n → next ≡ d ∷ ds → ends_word d ≡ true
next_ends s word next n d ds w e = stops ends_word s d ds (ap (λ (m : ℕ). drop m s) (sym w.len) ∙ sym w.back ∙ e)

pub word_made : (fs : List Frame) (s word next : List ℕ) (n o : ℕ) (c : Option Component) (items : List Tree) (b : ℕ) (bs : List ℕ) (d : ℕ) (ds : List ℕ) (made : Component)
    → Word s word next n → s ≡ b ∷ bs → ends_word b ≡ false → next ≡ d ∷ ds → is_special d ≡ false → list_kind_of c word ≡ None → at_fault (with_word c word) (length s) ≡ Ok made
    → length s ≡ length word + length next
    → read fs (brackets o c []) items [] s ≡ read fs (brackets o (Some made) []) items [] next
word_made fs s word next n o c items b bs d ds made w s-is plain next-is usual none is_made len =
    let x = begins ends_word s word n b bs s-is plain w.len w.front in
    let sum : length (b ∷ x.0) + (length ds + 1) ≡ length s = omega (arith, len, ap length x.1, ap length next-is) in
    word_read fs s word next n o c items w
    ∙ ap (λ (v : List ℕ). read fs (brackets o c v) items [] next) x.1
    ∙ ap (λ (v : List ℕ). read fs (brackets o c (b ∷ x.0)) items [] v) next-is
    ∙ ended_word fs (eqb d 93) d o c b x.0 items ds made refl usual (next_ends s word next n d ds w next-is) (ap (list_kind_of c) (sym x.1) ∙ none) (ap (at_fault (with_word c (b ∷ x.0))) sum ∙ ap (λ (v : List ℕ). at_fault (with_word c v) (length s)) (sym x.1) ∙ is_made)
    ∙ ap (λ (v : List ℕ). read fs (brackets o (Some made) []) items [] v) (sym next-is)

pub word_refused : (fs : List Frame) (s word next : List ℕ) (n o : ℕ) (c : Option Component) (items : List Tree) (b : ℕ) (bs : List ℕ) (d : ℕ) (ds : List ℕ) (fault : Fault BracketReason)
    → Word s word next n → s ≡ b ∷ bs → ends_word b ≡ false → next ≡ d ∷ ds → is_special d ≡ false → list_kind_of c word ≡ None → at_fault (with_word c word) (length s) ≡ Err fault
    → length s ≡ length word + length next
    → read fs (brackets o c []) items [] s ≡ Err fault
word_refused fs s word next n o c items b bs d ds fault w s-is plain next-is usual none refused len =
    let x = begins ends_word s word n b bs s-is plain w.len w.front in
    let sum : length (b ∷ x.0) + (length ds + 1) ≡ length s = omega (arith, len, ap length x.1, ap length next-is) in
    word_read fs s word next n o c items w
    ∙ ap (λ (v : List ℕ). read fs (brackets o c v) items [] next) x.1
    ∙ ap (λ (v : List ℕ). read fs (brackets o c (b ∷ x.0)) items [] v) next-is
    ∙ refused_word fs (eqb d 93) d o c b x.0 items ds fault refl usual (next_ends s word next n d ds w next-is) (ap (list_kind_of c) (sym x.1) ∙ none) (ap (at_fault (with_word c (b ∷ x.0))) sum ∙ ap (λ (v : List ℕ). at_fault (with_word c v) (length s)) (sym x.1) ∙ refused)

pub keyword_read : (fs : List Frame) (s word next : List ℕ) (n o : ℕ) (c : Option Component) (items : List Tree) (b : ℕ) (bs : List ℕ) (d : ℕ) (ds : List ℕ) (kind : ListKind)
    → Word s word next n → s ≡ b ∷ bs → ends_word b ≡ false → next ≡ d ∷ ds → is_special d ≡ false → list_kind_of c word ≡ Some kind
    → read fs (brackets o c []) items [] s ≡ read fs (between kind o []) items [] next
keyword_read fs s word next n o c items b bs d ds kind w s-is plain next-is usual is =
    let x = begins ends_word s word n b bs s-is plain w.len w.front in
    word_read fs s word next n o c items w
    ∙ ap (λ (v : List ℕ). read fs (brackets o c v) items [] next) x.1
    ∙ ap (λ (v : List ℕ). read fs (brackets o c (b ∷ x.0)) items [] v) next-is
    ∙ ended_keyword fs (eqb d 93) d o c b x.0 items ds kind refl usual (next_ends s word next n d ds w next-is) (ap (list_kind_of c) (sym x.1) ∙ is)
    ∙ ap (λ (v : List ℕ). read fs (between kind o []) items [] v) (sym next-is)

-- ---- outside of brackets

pub opens : (fs : List Frame) (b : ℕ) (items : List Tree) (bs : List ℕ) → eqb b 91 ≡ true
    → read fs outside items [] (b ∷ bs) ≡ read fs (brackets (length bs + 1) None []) items [] bs
unfolding read
opens [] b items bs e = rw e refl
opens (f ∷ fs) b items bs e = rw e refl

pub to_escape : (fs : List Frame) (b : ℕ) (items : List Tree) (bs : List ℕ) → eqb b 91 ≡ false → eqb b 92 ≡ true
    → read fs outside items [] (b ∷ bs) ≡ read fs escape items [] bs
unfolding read
to_escape [] b items bs e f = rw (e, f) refl
to_escape (_ ∷ fs) b items bs e f = rw (e, f) refl

pub escapes : (fs : List Frame) (d : ℕ) (items : List Tree) (ds : List ℕ) → is_escapable d ≡ true
    → read fs escape items [] (d ∷ ds) ≡ read fs outside (items ++ literal_of (d ∷ []) ∷ []) [] ds
unfolding read
escapes fs d items ds g = rw g refl

pub escapes_nothing : (fs : List Frame) (d : ℕ) (items : List Tree) (ds : List ℕ) → is_escapable d ≡ false
    → read fs escape items [] (d ∷ ds) ≡ fails InvalidEscape (length ds + 2)
unfolding read
escapes_nothing fs d items ds g = rw g refl

pub escapes_at_end : (fs : List Frame) (items : List Tree) → read fs escape items [] [] ≡ fails InvalidEscape 1
unfolding read
escapes_at_end fs items = refl

pub closes_list : (f : Frame) (fs : List Frame) (b : ℕ) (items : List Tree) (bs : List ℕ) → b ≡ 93
    → read (f ∷ fs) outside items [] (b ∷ bs) ≡ read fs (between f.kind f.opened (f.lists ++ all_of (trees items) ∷ [])) f.items [] bs
unfolding read
closes_list f fs b items bs e = rw e refl

-- a literal ends at the text's end, or at a byte that ends it
literal_at_byte : (fs : List Frame) (is_opening is_backslash : Bool) (items : List Tree) (x : ℕ) (xs : List ℕ) (d : ℕ) (ds : List ℕ) → eqb d 91 ≡ is_opening → eqb d 92 ≡ is_backslash → ends_literal (is_nested fs) d ≡ true
    → read fs outside items (x ∷ xs) (d ∷ ds) ≡ read fs outside (items ++ literal_of (x ∷ xs) ∷ []) [] (d ∷ ds)
unfolding read
literal_at_byte [] true is_backslash items x xs d ds e f h = rw e refl
literal_at_byte [] false true items x xs d ds e f h = rw (e, f) refl
literal_at_byte [] false false items x xs d ds e f h = absurd (false≢true (rw (e, f) at h))
literal_at_byte (_ ∷ fs) true is_backslash items x xs d ds e f h = rw e refl
literal_at_byte (_ ∷ fs) false true items x xs d ds e f h = rw (e, f) refl
literal_at_byte (_ ∷ fs) false false items x xs d ds e f h = let g : eqb d 93 ≡ true = rw (e, f) at h in rw (e, f, g) refl

literal_ends : (fs : List Frame) (items : List Tree) (x : ℕ) (xs next : List ℕ) → ((d : ℕ) (ds : List ℕ) → next ≡ d ∷ ds → ends_literal (is_nested fs) d ≡ true)
    → read fs outside items (x ∷ xs) next ≡ read fs outside (items ++ literal_of (x ∷ xs) ∷ []) [] next
unfolding read
literal_ends [] items x xs [] h = refl
literal_ends (f ∷ fs) items x xs [] h = refl
literal_ends fs items x xs (d ∷ ds) h = literal_at_byte fs (eqb d 91) (eqb d 92) items x xs d ds refl refl (h d ds refl)

pub literal_read : (fs : List Frame) (s word next : List ℕ) (n b : ℕ) (bs : List ℕ) (items : List Tree) → n ≡ position_or_len (ends_literal (is_nested fs)) s → word ≡ take n s → next ≡ drop n s
    → s ≡ b ∷ bs → ends_literal (is_nested fs) b ≡ false
    → read fs outside items [] s ≡ read fs outside (items ++ literal_of word ∷ []) [] next
literal_read fs s word next n b bs items len front back s-is plain =
    let x = begins (ends_literal (is_nested fs)) s word n b bs s-is plain len front in
    literal_run fs s items []
    ∙ ap (λ (m : ℕ). read fs outside items (take m s) (drop m s)) (sym len)
    ∙ ap (λ (v : List ℕ). read fs outside items v (drop n s)) (sym front ∙ x.1)
    ∙ ap (λ (v : List ℕ). read fs outside items (b ∷ x.0) v) (sym back)
    ∙ literal_ends fs items b x.0 next (λ d ds e. stops (ends_literal (is_nested fs)) s d ds (ap (λ (m : ℕ). drop m s) (sym len) ∙ sym back ∙ e))
    ∙ ap (λ (v : List ℕ). read fs outside (items ++ literal_of v ∷ []) [] next) (sym x.1)

pub at_end : (items : List Tree) → read [] outside items [] [] ≡ Ok items
unfolding read
at_end items = refl

pub at_end_of_list : (f : Frame) (fs : List Frame) (items : List Tree) → read (f ∷ fs) outside items [] [] ≡ fails UnclosedBracket f.opened_list
unfolding read
at_end_of_list f fs items = refl

-- ---- between lists

gap_step : (dark : Bool) (n : ℕ) (fs : List Frame) (k : ListKind) (o : ℕ) (lists items : List Tree) (b : ℕ) (bs : List ℕ)
    → read fs (between k o lists) items [] bs ≡ read fs (between k o lists) items [] (drop n bs)
    → is_ascii_whitespace b ≡ dark
    → read fs (between k o lists) items [] (b ∷ bs) ≡ read fs (between k o lists) items [] (drop (cond dark (1 + n) 0) (b ∷ bs))
unfolding read
gap_step true n fs k o lists items b bs later is =
    let one : 1 + n ≡ suc n = omega arith in
    rw (is, one) later
gap_step false n fs k o lists items b bs later is = refl

pub gap_read : (s : List ℕ) (fs : List Frame) (k : ListKind) (o : ℕ) (lists items : List Tree)
    → read fs (between k o lists) items [] s ≡ read fs (between k o lists) items [] (drop (prefix_len is_ascii_whitespace s) s)
gap_read [] fs k o lists items = refl
gap_read (b ∷ bs) fs k o lists items = gap_step (is_ascii_whitespace b) (prefix_len is_ascii_whitespace bs) fs k o lists items b bs (gap_read bs fs k o lists items) refl

gap_end_step : (white : Bool) (n b : ℕ) (bs : List ℕ) (d : ℕ) (ds : List ℕ) → is_ascii_whitespace b ≡ white
    → (drop n bs ≡ d ∷ ds → is_ascii_whitespace d ≡ false)
    → drop (cond white (1 + n) 0) (b ∷ bs) ≡ d ∷ ds → is_ascii_whitespace d ≡ false
gap_end_step true n b bs d ds e later is =
    let one : 1 + n ≡ suc n = omega arith in
    later (rw one at is)
gap_end_step false n b bs d ds e later is = let same : b ≡ d = cc in ap is_ascii_whitespace (sym same) ∙ e

pub gap_ended : (s : List ℕ) (d : ℕ) (ds : List ℕ) → drop (prefix_len is_ascii_whitespace s) s ≡ d ∷ ds → is_ascii_whitespace d ≡ false
gap_ended [] d ds e = absurd cc
gap_ended (b ∷ bs) d ds e = gap_end_step (is_ascii_whitespace b) (prefix_len is_ascii_whitespace bs) b bs d ds refl (gap_ended bs d ds) e

-- ---- at a bracket between lists

pub nothing_between : (fs : List Frame) (k : ListKind) (o : ℕ) (lists items : List Tree) → read fs (between k o lists) items [] [] ≡ fails UnclosedBracket o
unfolding read
nothing_between fs k o lists items = refl

pub lists_closed : (fs : List Frame) (k : ListKind) (o : ℕ) (lists items : List Tree) (b : ℕ) (bs : List ℕ) (item : Tree)
    → is_ascii_whitespace b ≡ false → eqb b 93 ≡ true → nested k lists (length bs + 1) ≡ Ok item
    → read fs (between k o lists) items [] (b ∷ bs) ≡ read fs outside (items ++ item ∷ []) [] bs
unfolding read
lists_closed fs k o lists items b bs item e f g = rw (e, f, g) refl

pub lists_refused : (fs : List Frame) (k : ListKind) (o : ℕ) (lists items : List Tree) (b : ℕ) (bs : List ℕ) (f : Fault BracketReason)
    → is_ascii_whitespace b ≡ false → eqb b 93 ≡ true → nested k lists (length bs + 1) ≡ Err f
    → read fs (between k o lists) items [] (b ∷ bs) ≡ Err f
unfolding read
lists_refused fs k o lists items b bs fault e f g = rw (e, f, g) refl

pub list_unexpected : (fs : List Frame) (k : ListKind) (o : ℕ) (lists items : List Tree) (b : ℕ) (bs : List ℕ)
    → is_ascii_whitespace b ≡ false → eqb b 93 ≡ false → (eqb b 91 && takes_list k lists) ≡ false
    → read fs (between k o lists) items [] (b ∷ bs) ≡ fails UnexpectedByte (length bs + 1)
unfolding read
list_unexpected fs k o lists items b bs e f g = rw (e, f, g) refl

pub list_too_deep : (fs : List Frame) (k : ListKind) (o : ℕ) (lists items : List Tree) (b : ℕ) (bs : List ℕ)
    → is_ascii_whitespace b ≡ false → eqb b 93 ≡ false → (eqb b 91 && takes_list k lists) ≡ true → ltb (length fs) 32 ≡ false
    → read fs (between k o lists) items [] (b ∷ bs) ≡ fails TooDeep (length bs + 1)
unfolding read
list_too_deep fs k o lists items b bs e f g h = rw (e, f, g, h) refl

pub list_opened : (fs : List Frame) (k : ListKind) (o : ℕ) (lists items : List Tree) (b : ℕ) (bs : List ℕ)
    → is_ascii_whitespace b ≡ false → eqb b 93 ≡ false → (eqb b 91 && takes_list k lists) ≡ true → ltb (length fs) 32 ≡ true
    → read fs (between k o lists) items [] (b ∷ bs) ≡ read (record { kind = k; opened = o; opened_list = length bs + 1; items = items; lists = lists } ∷ fs) outside [] [] bs
unfolding read
list_opened fs k o lists items b bs e f g h = rw (e, f, g, h) refl
