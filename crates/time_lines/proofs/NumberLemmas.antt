-- Where the first number of a line begins, and the moment that it names.
use Rattle.std.proofs.Common.{ℕ, zero, suc, ◌≡◌, ◌+◌, ◌-◌, ◌<◌, ◌≤◌, ◌++◌, ◌&&◌, ◌||◌, not, nat_le, Bool, true, false, Option, Some, None, List, length, take, drop, is_some, inl, inr, refl, sym, ap, subst, ◌∙◌, append-nil, append_assoc, arith}
use Rattle.std.proofs.lemmas.Bool.{le-leb}
use Rattle.std.proofs.lemmas.List.{drop-drop, get_or-drop, length-drop, length-take}
use Rattle.std.proofs.Math.Seq.{take-append_seam}
use Rattle.line_streams.specs.Filter.{Adds}
use Rattle.line_streams.proofs.LinesLemmas.{slice-end}
use Rattle.std.specs.Prelude.{Result, Ok, Err, OnOk, IfSome, IfNone}
use Rattle.time_lines.specs.Shown.{IsReplaced, Replaces, bytes_of}
use Rattle.std.proofs.lemmas.List.Sums.{prefix_len_passes}
use Rattle.std.specs.Char.{is_ascii_digit}
use Rattle.std.specs.Str.Parse.{digits_value}
use Rattle.time_below.specs.Moment.{Moment}
use Rattle.time_lines.specs.Number.{begins, decimals_of, digit_count, digits_of, first_place, goes_on, has_minus, is_digit_at, moment_after, moment_of, number_at, with_sign}
use Rattle.time_lines.specs.Number.{is_time}
use Rattle.time_lines.specs.Window.{is_time_at, is_within}
use Rattle.time_lines.specs.declared.number.Numbers.{Numbers}
use Rattle.time_lines.specs.declared.number.Unit.{Unit as UnixUnit}

one_less : (length at : ℕ) → at < length → length - at ≡ suc (length - (at + 1))
one_less length at lt = omega arith

-- one that does not leaves the places after it
first_place-later : (p : ℕ → Bool) (length at : ℕ) → at < length → p at ≡ false
    → first_place p (length - at) at ≡ first_place p (length - (at + 1)) (at + 1)
first_place-later p length at lt fails = rw (one_less length at lt, fails) refl

-- so do some in a row
pub first_place-past : (p : ℕ → Bool) (length count at to : ℕ) → at + count ≡ to → to ≤ length
    → ((k : ℕ) → at ≤ k → k < to → p k ≡ false) → first_place p (length - at) at ≡ first_place p (length - to) to
first_place-past p length zero at to is le none =
    let same : at ≡ to = omega (arith, is) in
    ap (λ n. first_place p (length - n) n) same
first_place-past p length (suc count) at to is le none =
    first_place-later p length at (omega (arith, is, le)) (none at (omega arith) (omega (arith, is)))
    ∙ first_place-past p length count (at + 1) to (omega (arith, is)) le (λ k from. none k (omega (arith, from)))

no_first : (d r : Bool) → d ≡ false → (d && r) ≡ false
no_first d r fails = rw fails refl

and_false : (b : Bool) → (b && false) ≡ false
and_false true = refl
and_false false = refl

-- where no digit stands no number begins
pub begins-no_digit : (passes : ℕ → Bool) (line : List ℕ) (k : ℕ) → is_digit_at line k ≡ false → begins passes line k ≡ false
begins-no_digit passes line k fails = no_first (is_digit_at line k) _ fails

either : (a b c : Bool) → a ≡ true → b ≡ true → ((a && b) || c) ≡ true
either a b c left right = rw (left, right) refl

never : (d g n : Bool) → g ≡ true → (d && (not g && n)) ≡ false
never d g n on = rw on (and_false d)

digit_before : (passes : ℕ → Bool) (line : List ℕ) (k : ℕ) → 1 ≤ k → is_digit_at line (k - 1) ≡ true → begins passes line k ≡ false
digit_before passes line k some digit =
    never (is_digit_at line k) (goes_on line k) (passes k)
    (either (nat_le 1 k) (is_digit_at line (k - 1)) _ (le-leb 1 k some) digit)

-- nor does one inside a run of digits
pub begins-in_run : (passes : ℕ → Bool) (line : List ℕ) (at k : ℕ) → at < k → k < at + digit_count (drop at line)
    → begins passes line k ≡ false
begins-in_run passes line at k behind inside =
    let same : at + (k - 1 - at) ≡ k - 1 = omega (arith, behind) in
    let digit : is_digit_at line (k - 1) ≡ true =
    ap (λ n. is_digit_at line n) (sym same) ∙ ap is_ascii_digit (sym (get_or-drop at line (k - 1 - at) 0))
    ∙ prefix_len_passes is_ascii_digit (drop at line) (k - 1 - at) 0 (omega (arith, behind, inside)) in
    digit_before passes line k (omega (arith, behind)) digit

-- a run of digits where no number begins, and what is no digit behind it, are passed
pub first_place-past_run : (passes : ℕ → Bool) (line : List ℕ) (at count to : ℕ) → count ≡ digit_count (drop at line)
    → at + count ≤ to → to ≤ length line → begins passes line at ≡ false
    → ((k : ℕ) → at + count ≤ k → k < to → is_digit_at line k ≡ false)
    → first_place (begins passes line) (length line - at) at ≡ first_place (begins passes line) (length line - to) to
first_place-past_run passes line at zero to is le inside none rest =
    first_place-past (begins passes line) (length line) (to - at) at to (omega (arith, le)) inside
    (λ k from before. begins-no_digit passes line k (rest k (omega (arith, from)) before))
first_place-past_run passes line at (suc count) to is le inside none rest =
    first_place-later (begins passes line) (length line) at (omega (arith, le, inside)) none
    ∙ first_place-past (begins passes line) (length line) count (at + 1) (at + suc count) (omega arith)
    (omega (arith, le, inside)) (λ k from before. begins-in_run passes line at k (omega (arith, from)) (omega (arith, before, is)))
    ∙ first_place-past (begins passes line) (length line) (to - (at + suc count)) (at + suc count) to (omega (arith, le)) inside
    (λ k from before. begins-no_digit passes line k (rest k from before))

no_text : true ≡ false → ⊥
no_text e = cc

no_none : true ≡ false → ⊥
no_none e = cc

-- what follows the digits of a number, as a slice gives it
pub rest_of_number : (line : List ℕ) (start count : ℕ) → count ≡ digit_count (drop start line)
    → take (length line - (start + count)) (drop (start + count) line) ≡ drop (digit_count (drop start line)) (drop start line)
rest_of_number line start count is =
    slice-end (start + count) line ∙ sym (drop-drop count start line) ∙ ap (λ n. drop n (drop start line)) is

-- the digits of a number, as a slice gives them
pub digits_of_number : (line : List ℕ) (start count : ℕ) → count ≡ digit_count (drop start line)
    → take (start + count - start) (drop start line) ≡ digits_of (drop start line)
digits_of_number line start count is =
    let same : start + count - start ≡ digit_count (drop start line) = omega (arith, is) in
    ap (λ n. take n (drop start line)) same

-- a number whose digits are a time's, and whose seconds are in the window, is a time
pub time_is_here : (numbers : Numbers) (line : List ℕ) (at count : ℕ) (timely minus within : Bool)
    → count ≡ digit_count (drop at line) → timely ≡ is_time numbers.unit numbers.least count → timely ≡ true
    → minus ≡ has_minus line at → within ≡ is_within numbers minus (take (at + count - at) (drop at line))
    → within ≡ is_time_at numbers line at
time_is_here numbers line at count timely minus within is told timed sign inside =
    let short : is_time numbers.unit numbers.least (digit_count (drop at line)) ≡ true =
    ap (is_time numbers.unit numbers.least) (sym is) ∙ sym told ∙ timed in
    inside ∙ ap (λ m. is_within numbers m (take (at + count - at) (drop at line))) sign
    ∙ ap (is_within numbers (has_minus line at)) (digits_of_number line at count is)
    ∙ ap (λ b. b && is_within numbers (has_minus line at) (digits_of (drop at line))) (sym short)

-- and they are as many
pub digits_length : (line : List ℕ) (start count : ℕ) → count ≤ length line - start → count ≡ digit_count (drop start line)
    → length (take (start + count - start) (drop start line)) ≡ digit_count (drop start line)
digits_length line start count room is =
    let same : start + count - start ≡ count = omega arith in
    let long : length (take count (drop start line)) ≡ count =
    omega (arith, length-take count (drop start line), length-drop start line, room) in
    ap (λ n. length (take n (drop start line))) same ∙ long ∙ is

-- the moment that was made of the parts of a number is the one that it names
pub moment_is : (unit : UnixUnit) (line : List ℕ) (start : ℕ) (minus : Bool) (digits decimals rest : List ℕ)
    → digits ≡ digits_of (drop start line) → minus ≡ has_minus line start
    → rest ≡ drop (digit_count (drop start line)) (drop start line) → decimals ≡ decimals_of rest
    → with_sign minus (moment_after unit (digits_value 10 digits) decimals) ≡ moment_of unit (number_at line start)
moment_is unit line start minus digits decimals rest spelled sign left are = rw (spelled, sign, are, left) refl

five : (o b k s a : List ℕ) → ((((o ++ b) ++ k) ++ s) ++ k) ++ a ≡ o ++ ((b ++ k) ++ (s ++ (k ++ a)))
five o b k s a =
    append_assoc (((o ++ b) ++ k) ++ s) k a ∙ append_assoc ((o ++ b) ++ k) s (k ++ a)
    ∙ ap (λ l. l ++ (s ++ (k ++ a))) (append_assoc o b k) ∙ append_assoc o (b ++ k) (s ++ (k ++ a))

-- a text took the place of what named the moment
pub text_is_put : (shows : Moment → Option (List ℕ) → Type 0) (m : Moment) (before marks after whole : List ℕ)
    (o0 o1 o2 o3 o4 o5 : List ℕ) (shown : Option (List ℕ)) → shows m shown → is_some shown ≡ true
    → o1 ≡ o0 ++ before → o2 ≡ o1 ++ marks → o3 ≡ o2 ++ bytes_of shown → o4 ≡ o3 ++ marks → o5 ≡ o4 ++ after
    → Adds (IsReplaced shows (Some m) (before ++ marks) (marks ++ after) whole) o0 o5
text_is_put shows m before marks after whole o0 o1 o2 o3 o4 o5 None is some one two three four five' = absurd (no_text (sym some))
text_is_put shows m before marks after whole o0 o1 o2 o3 o4 o5 (Some text) is some one two three four five' = (
  (before ++ marks) ++ (text ++ (marks ++ after)),
  five' ∙ rw (four, three, two, one) (five o0 before marks text after),
  inl (text, is, refl),
)

cut_back : (a b : List ℕ) (n : ℕ) → n ≡ length a → take n (a ++ b) ≡ a
cut_back a b n is = rw is (take-append_seam a b)

-- nothing took its place
pub line_is_left : (shows : Moment → Option (List ℕ) → Type 0) (m : Moment) (before marks after own : List ℕ) (n : ℕ)
    (o0 o1 o2 o3 o4 o5 : List ℕ) (shown : Option (List ℕ)) → shows m shown → is_some shown ≡ false
    → o1 ≡ o0 ++ before → n ≡ length o1 → o2 ≡ o1 ++ marks → o3 ≡ o2 ++ bytes_of shown → o4 ≡ take n o3 → o5 ≡ o4 ++ own
    → Adds (IsReplaced shows (Some m) (before ++ marks) (marks ++ after) (before ++ own)) o0 o5
line_is_left shows m before marks after own n o0 o1 o2 o3 o4 o5 (Some text) is none one long two three four five' =
    absurd (no_none none)
line_is_left shows m before marks after own n o0 o1 o2 o3 o4 o5 None is none one long two three four five' =
    let cut : o4 ≡ o1 = four ∙ rw (three, append-nil o2, two) (cut_back o1 marks n long) in
    (before ++ own, five' ∙ rw (cut, one) (append_assoc o0 before own), inr (is, refl))

-- nor where there is no moment
pub nothing_is_put : (shows : Moment → Option (List ℕ) → Type 0) (before marks after own : List ℕ) (o0 o1 o2 : List ℕ)
    → o1 ≡ o0 ++ before → o2 ≡ o1 ++ own
    → Adds (IsReplaced shows None (before ++ marks) (marks ++ after) (before ++ own)) o0 o2
nothing_is_put shows before marks after own o0 o1 o2 one two =
    (before ++ own, two ∙ rw one (append_assoc o0 before own), refl)

placed : (shows : Moment → Option (List ℕ) → Type 0) (P : Type 0) (m n : Moment) (before after line text : List ℕ) → P → n ≡ m
    → IsReplaced shows (Some n) before after line text → Replaces shows P m before after line text
placed shows P m n before after line text has same (inl b) =
    inl (has, (b.0, subst (λ x. shows x (Some b.0)) same b.1, b.2))
placed shows P m n before after line text has same (inr b) = inr (λ _. subst (λ x. shows x None) same b.0, b.1)

-- the moment that is replaced, if there is one, is the one that is named
pub replaces_named : {E : Type 0} (shows : Moment → Option (List ℕ) → Type 0) (P : Type 0) (m : Moment) (named : Option Moment)
    (before after line old new : List ℕ) (r : Result Bool E) → IfSome named (λ n. (n ≡ m) × P) → IfNone named (¬ P)
    → OnOk r (Adds (IsReplaced shows named before after line) old new)
    → OnOk r (Adds (Replaces shows P m before after line) old new)
replaces_named shows P m None before after line old new (Ok b) some none h =
    (h.0, h.1, inr (λ has. absurd (none has), h.2))
replaces_named shows P m (Some n) before after line old new (Ok b) some none h =
    (h.0, h.1, placed shows P m n before after line h.0 some.1 some.0 h.2)
replaces_named shows P m named before after line old new (Err e) some none h = h
