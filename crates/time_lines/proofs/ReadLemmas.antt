-- Where a text of RFC 3339 ends.
use Rattle.std.proofs.Common.{ℕ, ◌≡◌, ◌+◌, ◌<◌, ◌≤◌, ◌⊎◌, ◌==◌, Bool, true, false, List, [], ◌∷◌, ◌++◌, length, take, drop, get_or, inl, inr, refl, sym, ap, subst, ◌∙◌, append-nil, append_assoc, length-append, arith}
use Rattle.std.proofs.Math.Seq.{drop-append_seam}
use Rattle.std.proofs.lemmas.List.{drop_at, get_or-take, length-take, take-append-drop}
use Rattle.std.proofs.lemmas.Bool.{cases_lt}
use Rattle.std.proofs.lemmas.List.Folds.{prefix_len-append}
use Rattle.std.proofs.lemmas.List.Sums.{prefix_len_is}
use Rattle.std.proofs.lemmas.Str.Parse.{digit_at}
use Rattle.std.specs.Char.{is_ascii_digit}
use Rattle.std.specs.Int.{IsInRange}
use Rattle.std.specs.Prelude.{codes}
use Rattle.std.specs.Str.Parse.{AllDigits}
use Rattle.time_known.specs.Parts.{SignedOffset}
use Rattle.time_known.specs.Rfc3339Grammar.{ColonMinute, TimeOffset, WholeTime}
use Rattle.time_known.specs.Values.{OffsetDateAndTime, Offset, TimeOfDay}
use Rattle.time_known.proofs.Rules.Texts.{length-concatenation}
use Rattle.time_read.specs.Lenient.{EitherT, IsOffsetFor, MeansOffset, MeansSecfrac, Rfc3339Means}
use Rattle.time_read.specs.Shapes.{sign_byte}
use Rattle.time_read.specs.declared.fault.Profile.TheVariants as profile
use Rattle.time_read.proofs.OffsetEnds.{numbers_are}
use Rattle.time_read.proofs.Tails.{AreDecimals, decimals_of}
use Rattle.time_read.proofs.PartLemmas.{reads_full_date}
use Rattle.time_lines.specs.Number.{digit_count}
use Rattle.std.proofs.Common.{Option, Some, None}
use Rattle.std.specs.Prelude.{Result, OnOk}
use Rattle.line_streams.specs.Filter.{Adds, Stays}
use Rattle.time_below.specs.Moment.{Moment}
use Rattle.time_lines.specs.Read.{IsFirstText, NoText, NothingBefore, ReadBecomes, ReadsFirstOf, SameReads, offset_length, tail_length, text_length}
use Rattle.time_lines.specs.Shown.{IsReplaced, SameShown}
use Rattle.time_lines.specs.declared.front.Front.{Front}

-- ---- the parts of a text have these lengths

clock_length : (c : TimeOfDay) (text : List ℕ) → WholeTime c text → length text ≡ 8
clock_length c text h =
    let s = h.spelled in
    let t = s.second in
    let u = t.second in
    let v = u.second in
    omega (
      arith,
      length-concatenation s,
      length-concatenation t,
      length-concatenation u,
      length-concatenation v,
      s.first.count,
      ap length t.first,
      u.first.count,
      ap length v.first,
      v.second.count,
    )

letter_length : (text : List ℕ) → EitherT text → length text ≡ 1
letter_length text (inl e) = ap length e
letter_length text (inr e) = ap length e

-- ---- an offset

pub record OffsetShape (text : List ℕ) : Type 0 where
  pub first : ℕ
  pub rest : List ℕ
  pub is : text ≡ first ∷ rest
  pub no_point : (first == 46) ≡ false
  pub no_digit : is_ascii_digit first ≡ false
  pub counted : (more : List ℕ) → offset_length (first ∷ more) ≡ length (first ∷ rest)

signs_counted : (b : Bool) (more : List ℕ) → offset_length (sign_byte b ∷ more) ≡ 6
signs_counted true more = refl
signs_counted false more = refl

sign_no_point : (b : Bool) → (sign_byte b == 46) ≡ false
sign_no_point true = refl
sign_no_point false = refl

sign_no_digit : (b : Bool) → is_ascii_digit (sign_byte b) ≡ false
sign_no_digit true = refl
sign_no_digit false = refl

numbers_length : {o : Offset} {text : List ℕ} (n : SignedOffset 23 ColonMinute o text) → length n.spelled.rest ≡ 5
numbers_length n =
    let s = n.spelled.second in
    let t = s.second in
    omega (arith, length-concatenation s, length-concatenation t, s.first.count, ap length t.first, t.second.count)

plain_shape : (o : Offset) (text : List ℕ) → TimeOffset o text → OffsetShape text
plain_shape o text (inl z) =
    record { first = 90; rest = []; is = z.0; no_point = refl; no_digit = refl; counted = λ more. refl }
plain_shape o text (inr n) = record {
  first = sign_byte n.0.is_negative;
  rest = n.0.spelled.rest;
  is = numbers_are n.0;
  no_point = sign_no_point n.0.is_negative;
  no_digit = sign_no_digit n.0.is_negative;
  counted = λ more. signs_counted n.0.is_negative more ∙ omega (arith, numbers_length n.0);
}

offset_shape : (o : Offset) (text : List ℕ) → MeansOffset o text → OffsetShape text
offset_shape o text h = at h.stands where
  at : IsOffsetFor h.plain text → OffsetShape text
  at (inl e) = plain_shape o text (subst (TimeOffset o) (sym e) h.spelled)
  at (inr (inl e)) =
      record { first = 122; rest = []; is = e.0; no_point = refl; no_digit = refl; counted = λ more. refl }
  at (inr (inr e)) = record {
    first = 45;
    rest = codes "00:00";
    is = e.0;
    no_point = refl;
    no_digit = refl;
    counted = λ more. refl;
  }

-- ---- decimals, if there are any, and an offset

digits_pass : (ds : List ℕ) → AllDigits 10 ds → digit_count ds ≡ length ds
digits_pass ds each =
    prefix_len_is is_ascii_digit ds (length ds) 0 (omega arith) (λ k lt. is_digit (get_or ds k 0) (digit_at ds k each lt))
    (λ lt. absurd (omega arith)) where
      is_digit : (b : ℕ) → IsInRange 48 57 b → is_ascii_digit b ≡ true
      is_digit b h = grind (arith, h.0, h.1)

none_pass : (b : ℕ) (text : List ℕ) → is_ascii_digit b ≡ false → digit_count (b ∷ text) ≡ 0
none_pass b text other = rw other refl

same_equal : (n : ℕ) → (n == n) ≡ true
same_equal n = grind arith

digits_before : (ds : List ℕ) (b : ℕ) (text : List ℕ) → AllDigits 10 ds → is_ascii_digit b ≡ false
    → digit_count (ds ++ b ∷ text) ≡ length ds
digits_before ds b text each other =
    prefix_len-append is_ascii_digit ds (b ∷ text)
    ∙ rw (digits_pass ds each, same_equal (length ds), none_pass b text other) (omega arith)

tail_of_offset : (o : List ℕ) (shape : OffsetShape o) (more : List ℕ) → tail_length (o ++ more) ≡ length o
tail_of_offset o shape more =
    ap (λ t. tail_length (t ++ more)) shape.is
    ∙ rw shape.no_point (shape.counted (shape.rest ++ more) ∙ sym (ap length shape.is))

tail_of_decimals : (ds o : List ℕ) → AllDigits 10 ds → (shape : OffsetShape o) (more : List ℕ)
    → tail_length ((46 ∷ ds) ++ (o ++ more)) ≡ 1 + (length ds + length o)
tail_of_decimals ds o each shape more =
    let count : digit_count (ds ++ (o ++ more)) ≡ length ds =
    ap (λ t. digit_count (ds ++ (t ++ more))) shape.is ∙ digits_before ds shape.first (shape.rest ++ more) each shape.no_digit in
    rw (count, drop-append_seam ds (o ++ more))
    (ap (λ t. 1 + (length ds + offset_length (t ++ more))) shape.is
    ∙ rw (shape.counted (shape.rest ++ more)) (ap (λ n. 1 + (length ds + n)) (sym (ap length shape.is))))

tail_is : (n : ℕ) (s o more : List ℕ) → MeansSecfrac n s → OffsetShape o → tail_length (s ++ (o ++ more)) ≡ length s + length o
tail_is n s o more h shape = at (decimals_of profile.Lenient n s h) where
  at : (s ≡ []) ⊎ AreDecimals profile.Lenient s → tail_length (s ++ (o ++ more)) ≡ length s + length o
  at (inl e) = rw e (tail_of_offset o shape more ∙ omega arith)
  at (inr d) = rw d.whole (tail_of_decimals d.digits o d.each shape more ∙ omega arith)

-- ---- a whole text

is_digit_byte : (b : ℕ) → IsInRange 48 57 b → is_ascii_digit b ≡ true
is_digit_byte b h = grind (arith, h.0, h.1)

first_digit : (front rest : List ℕ) → length front ≡ 4 → AllDigits 10 front → is_ascii_digit (get_or (front ++ rest) 0 0) ≡ true
first_digit [] rest four each = absurd (omega (arith, four))
first_digit (b ∷ front) rest four each = is_digit_byte b (digit_at (b ∷ front) 0 each (omega (arith, four)))

-- a text of RFC 3339 has the length that its bytes tell, whatever follows it, and begins with a digit
record HasLength (text more : List ℕ) : Type 0 where
  told : text_length (text ++ more) ≡ length text
  long : 20 ≤ length text
  digit : is_ascii_digit (get_or text 0 0) ≡ true

text_has_length : (v : OffsetDateAndTime) (text more : List ℕ) → Rfc3339Means v text → HasLength text more
text_has_length v text more h =
    let t = h.second in
    let u = t.second in
    let x = u.second in
    let date = h.first.spelled in
    let shape = offset_shape v.offset x.rest x.second in
    let front = h.front ++ (t.front ++ u.front) in
    let nineteen : length front ≡ 19 =
    omega (
      arith,
      length-append h.front (t.front ++ u.front),
      length-append t.front u.front,
      (reads_full_date.width v.date).width h.front h.first,
      letter_length t.front t.first,
      clock_length v.time u.front u.first,
    ) in
    let whole : text ++ more ≡ front ++ (x.front ++ (x.rest ++ more)) =
    ap (λ y. y ++ more) (h.whole ∙ ap (λ y. h.front ++ y) (t.whole ∙ ap (λ y. t.front ++ y) (u.whole ∙ ap (λ y. u.front ++ y) x.whole)))
    ∙ rw (append_assoc, append_assoc, append_assoc, append_assoc, append_assoc, append_assoc) refl in
    let tail : tail_length (x.front ++ (x.rest ++ more)) ≡ length x.front + length x.rest =
    tail_is v.time.nanosecond x.front x.rest more x.first shape in
    let all : length text ≡ 19 + (length x.front + length x.rest) =
    omega (
      arith,
      length-concatenation h,
      length-concatenation t,
      length-concatenation u,
      length-concatenation x,
      (reads_full_date.width v.date).width h.front h.first,
      letter_length t.front t.first,
      clock_length v.time u.front u.first,
    ) in
    record {
      told = ap text_length whole
          ∙ ap (λ y. 19 + tail_length y) (drop_at front (x.front ++ (x.rest ++ more)) 19 nineteen)
          ∙ ap (λ n. 19 + n) tail ∙ sym all;
      long = omega (arith, all, ap length shape.is);
      digit =
          ap (λ y. is_ascii_digit (get_or y 0 0))
          (h.whole ∙ ap (λ y. y ++ h.rest) date.whole ∙ append_assoc date.front date.rest h.rest)
          ∙ first_digit date.front (date.rest ++ h.rest) date.first.spelled.count date.first.spelled.each;
    }

-- so many first bytes of a text, if they are one of RFC 3339, are as many as the text tells
has_length : (v : OffsetDateAndTime) (text : List ℕ) (count : ℕ) → count ≤ length text → Rfc3339Means v (take count text)
    → (text_length text ≡ count) × (20 ≤ count) × (is_ascii_digit (get_or (take count text) 0 0) ≡ true)
has_length v text count le h =
    let it = text_has_length v (take count text) (drop count text) h in
    let size : length (take count text) ≡ count = omega (arith, length-take count text) in (
      ap text_length (sym (take-append-drop count text)) ∙ it.told ∙ size,
      omega (arith, it.long, size),
      it.digit,
    )

pub no_text_short : (text : List ℕ) → length text < 20 → NoText text
no_text_short text short count v le h = omega (arith, short, le, (has_length v text count le h).1)

pub no_text_digit : (text : List ℕ) → is_ascii_digit (get_or text 0 0) ≡ false → NoText text
no_text_digit text other count v le h =
    let it = has_length v text count le h in
    two (is_ascii_digit (get_or text 0 0)) (ap is_ascii_digit (sym (get_or-take count text 0 0 (omega (arith, it.1)))) ∙ it.2) other where
      two : (b : Bool) → b ≡ true → b ≡ false → ⊥
      two b p q = cc

pub no_text_long : (text : List ℕ) → length text < text_length text → NoText text
no_text_long text long count v le h = omega (arith, long, le, (has_length v text count le h).0)

pub no_text_refused : (text : List ℕ) (count : ℕ) → count ≡ text_length text
    → ((v : OffsetDateAndTime) → ¬ Rfc3339Means v (take count text)) → NoText text
no_text_refused text count is none count' v le h =
    none v (subst (λ n. Rfc3339Means v (take n text)) (sym (is ∙ (has_length v text count' le h).0)) h)

-- ---- what a line becomes

-- nothing is read here either
pub nothing_before_next : (reads : List ℕ → Option Front → Type 0) (line : List ℕ) (at : ℕ) → NothingBefore reads line at
    → reads (drop at line) None → NothingBefore reads line (at + 1)
nothing_before_next reads line at before here k lt = elim (cases_lt k at) [
  | inl less ↦ before k less
  | inr more ↦ let same : k ≡ at = omega (arith, lt, more) in subst (λ n. reads (drop n line) None) (sym same) here
]

-- what takes the place of a text of a line
pub text_is_replaced : {E : Type 0} (shows : Moment → Option (List ℕ) → Type 0) (line : List ℕ) (at count : ℕ)
    (moment : Option Moment) (own after old new : List ℕ) (r : Result Bool E)
    → own ≡ drop at line → after ≡ drop count (drop at line)
    → OnOk r (Adds (IsReplaced shows moment (take at line ++ []) after (take at line ++ own)) old new)
    → OnOk r (Adds (IsReplaced shows moment (take at line) (drop count (drop at line)) line) old new)
text_is_replaced shows line at count moment own after old new r mine behind h =
    let whole : take at line ++ own ≡ line = ap (λ o. take at line ++ o) mine ∙ take-append-drop at line in
    let plain = subst (λ b. OnOk r (Adds (IsReplaced shows moment b after (take at line ++ own)) old new)) (append-nil (take at line)) h in
    let full = subst (λ w. OnOk r (Adds (IsReplaced shows moment (take at line) after w) old new)) whole plain in
    subst (λ a. OnOk r (Adds (IsReplaced shows moment (take at line) a line) old new)) behind full

replaced : (shows shows' : Moment → Option (List ℕ) → Type 0) (moment : Option Moment) (before after line text : List ℕ)
    → ((m : Moment) (t : Option (List ℕ)) → shows m t → shows' m t) → IsReplaced shows moment before after line text
    → IsReplaced shows' moment before after line text
replaced shows shows' None before after line text leads b = b
replaced shows shows' (Some m) before after line text leads (inl b) = inl (b.0, leads m _ b.1, b.2)
replaced shows shows' (Some m) before after line text leads (inr b) = inr (leads m None b.0, b.1)

nothing_before : (reads reads' : List ℕ → Option Front → Type 0) (line : List ℕ) (bound : ℕ)
    → ((text : List ℕ) (front : Option Front) → reads text front → reads' text front) → NothingBefore reads line bound
    → NothingBefore reads' line bound
nothing_before reads reads' line bound leads none at lt = leads _ None (none at lt)

read_becomes : (reads reads' : List ℕ → Option Front → Type 0) (shows shows' : ℕ → Moment → Option (List ℕ) → Type 0)
    (line text : List ℕ) → ((text : List ℕ) (front : Option Front) → reads text front → reads' text front)
    → ((d : ℕ) (m : Moment) (t : Option (List ℕ)) → shows d m t → shows' d m t) → ReadBecomes reads shows line text
    → ReadBecomes reads' shows' line text
read_becomes reads reads' shows shows' line text same leads (inl b) = inl (
  b.0,
  b.1,
  record { is = same _ _ b.2.is; first = nothing_before reads reads' line b.0 same b.2.first },
  replaced (shows _) (shows' _) _ _ _ line text (leads _) b.3,
)
read_becomes reads reads' shows shows' line text same leads (inr b) =
    inr (nothing_before reads reads' line (length line) same b.0, b.1)

-- a line becomes the same where the same is read and shown
pub read_stays : (reads reads' : List ℕ → Option Front → Type 0) (shows shows' : ℕ → Moment → Option (List ℕ) → Type 0)
    → SameReads reads reads' → SameShown shows shows' → Stays (ReadBecomes reads shows) (ReadBecomes reads' shows')
read_stays reads reads' shows shows' same leads line text = (
  λ b. read_becomes reads reads' shows shows' line text (λ t f. (same t f).0) (λ d m t. (leads d m t).0) b,
  λ b. read_becomes reads' reads shows' shows line text (λ t f. (same t f).1) (λ d m t. (leads d m t).1) b,
)

-- the first of two readers reads the same, and so does the second
pub first_of_stays : (one one' two two' : List ℕ → Option Front → Type 0) → SameReads one one' → SameReads two two'
    → SameReads (ReadsFirstOf one two) (ReadsFirstOf one' two')
first_of_stays one one' two two' same others text found = (
  first_of one one' two two' text found (λ t f. (same t f).0) (λ t f. (others t f).0),
  first_of one' one two' two text found (λ t f. (same t f).1) (λ t f. (others t f).1),
) where
  first_of : (one one' two two' : List ℕ → Option Front → Type 0) (text : List ℕ) (found : Option Front)
      → ((t : List ℕ) (f : Option Front) → one t f → one' t f) → ((t : List ℕ) (f : Option Front) → two t f → two' t f)
      → ReadsFirstOf one two text found → ReadsFirstOf one' two' text found
  first_of one one' two two' text found leads others (inl b) = inl (leads _ _ b.0, b.1)
  first_of one one' two two' text found leads others (inr b) = inr (leads _ _ b.0, others _ _ b.1)
