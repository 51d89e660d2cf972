-- What a line becomes whose numbers are replaced one after another.
use Rattle.std.proofs.Common.{ℕ, zero, suc, ◌≡◌, ◌+◌, ◌-◌, ◌<◌, ◌≤◌, ◌++◌, ◌&&◌, ◌||◌, Bool, true, false, Option, Some, None, List, [], length, take, drop, inl, inr, refl, sym, ap, subst, ◌∙◌, append-nil, append_assoc, arith}
use Rattle.std.specs.Prelude.{Result, Ok, Err, OnOk, IfSome, IfNone, is_some, if◌then◌else◌}
use Rattle.line_streams.specs.Filter.{Adds}
use Rattle.time_below.specs.Moment.{Moment, IsMoment}
use Rattle.time_lines.specs.Json.{has_exponent, quotes_if}
use Rattle.time_lines.specs.Number.{begins, decimals_length, decimals_of, digit_count, digits_of, first_place, has_minus, moment_after, moment_of, number_at, number_start, unit_for, with_sign}
use Rattle.time_lines.specs.Shown.{IsReplaced, SameShown}
use Rattle.time_lines.specs.Window.{is_time_at}
use Rattle.time_lines.specs.Unix.{FromBecomes, HasText, PieceBecomes, RestBecomes, UnixBecomes, between, decimals_at, is_quoted, moment_of_time}
use Rattle.time_lines.specs.declared.number.Numbers.{Numbers}
use Rattle.time_lines.specs.declared.number.Unit.{Unit as UnixUnit}
use Rattle.time_lines.proofs.NumberLemmas.{moment_is, replaces_named, rest_of_number}
use Rattle.time_lines.proofs.ShownLemmas.{replaces, rest_becomes}
use Rattle.line_streams.proofs.LinesLemmas.{slice-end}
use Rattle.std.specs.Str.Parse.{digits_value}

-- the same, for what is shown before and after
pub back : (shows shows' : ℕ → Moment → Option (List ℕ) → Type 0) (numbers : Numbers) (most : ℕ) (line : List ℕ) (at from : ℕ)
    (text : List ℕ) → SameShown shows shows' → RestBecomes shows' numbers most line at from text
    → RestBecomes shows numbers most line at from text
back shows shows' numbers most line at from text same h =
    rest_becomes shows' shows numbers most line at from text (λ d m t. (same d m t).1) h

-- so far so much was appended, and what is left becomes the rest
abbrev pub HasDone : (ℕ → Moment → Option (List ℕ) → Type 0) → Numbers → ℕ → ℕ → List ℕ → ℕ → ℕ → List ℕ → List ℕ → Type 0
HasDone shows numbers most left line from at old new =
    (done : List ℕ) × (new ≡ old ++ done)
    × ((rest : List ℕ) → RestBecomes shows numbers left line at at rest → RestBecomes shows numbers most line from from (done ++ rest))

pub done_none : (shows : ℕ → Moment → Option (List ℕ) → Type 0) (numbers : Numbers) (most : ℕ) (line : List ℕ) (from : ℕ) (old : List ℕ)
    → HasDone shows numbers most (most - 0) line from from old old
done_none shows numbers most line from old =
    let all : most - 0 ≡ most = omega arith in
    ([], sym (append-nil old), λ rest h. subst (λ n. RestBecomes shows numbers n line from from rest) all h)

-- one number more
pub done_more : (shows shows' : ℕ → Moment → Option (List ℕ) → Type 0) (numbers : Numbers) (most round : ℕ) (line : List ℕ)
    (from at start end : ℕ) (o0 o1 o2 : List ℕ) → SameShown shows shows' → round < most
    → number_start (is_time_at numbers line) line at ≡ Some start → end ≡ (number_at line start).end
    → HasDone shows numbers most (most - round) line from at o0 o1
    → Adds (PieceBecomes shows' numbers line at start) o1 o2
    → HasDone shows numbers most (most - (round + 1)) line from end o0 o2
done_more shows shows' numbers most round line from at start end o0 o1 o2 same lt is to done piece =
    let one : most - round ≡ suc (most - (round + 1)) = omega (arith, lt) in
    let mine : PieceBecomes shows numbers line at start piece.0 =
    replaces (shows' _) (shows _) _ _ _ _ _ piece.0 (λ m t. (same _ m t).1) piece.2 in (
      done.0 ++ piece.0,
      piece.1 ∙ rw done.1 (append_assoc o0 done.0 piece.0),
      λ rest h. subst (λ t. RestBecomes shows numbers most line from from t) (sym (append_assoc done.0 piece.0 rest))
          (done.2 (piece.0 ++ rest)
          (subst (λ n. RestBecomes shows numbers n line at at (piece.0 ++ rest)) (sym one)
          (inr (
            start,
            piece.0,
            rest,
            is,
            refl,
            mine,
            subst (λ e. RestBecomes shows numbers (most - (round + 1)) line e e rest) to h,
          )))),
    )

-- no number is left, or no more are replaced
pub done_all : (shows : ℕ → Moment → Option (List ℕ) → Type 0) (numbers : Numbers) (most left : ℕ) (line : List ℕ) (from at : ℕ)
    (o0 o1 o2 : List ℕ) → HasDone shows numbers most left line from at o0 o1
    → o2 ≡ o1 ++ take (length line - at) (drop at line) → RestBecomes shows numbers left line at at (drop at line)
    → Adds (RestBecomes shows numbers most line from from) o0 o2
done_all shows numbers most left line from at o0 o1 o2 done is h = (
  done.0 ++ drop at line,
  is ∙ ap (λ t. o1 ++ t) (slice-end at line) ∙ rw done.1 (append_assoc o0 done.0 (drop at line)),
  done.2 (drop at line) h,
)

-- where no number begins, the rest stays
pub none_left : (shows : ℕ → Moment → Option (List ℕ) → Type 0) (numbers : Numbers) (left : ℕ) (line : List ℕ) (at from : ℕ)
    → number_start (is_time_at numbers line) line from ≡ None
    → RestBecomes shows numbers left line at from (drop at line)
none_left shows numbers zero line at from none = refl
none_left shows numbers (suc left) line at from none = inl (none, refl)

pub none_more : (shows : ℕ → Moment → Option (List ℕ) → Type 0) (numbers : Numbers) (left : ℕ) (line : List ℕ) (at from : ℕ)
    → left ≡ 0 → RestBecomes shows numbers left line at from (drop at line)
none_more shows numbers left line at from is = subst (λ n. RestBecomes shows numbers n line at from (drop at line)) (sym is) refl

apart : (b : Bool) → b ≡ true → b ≡ false → ⊥
apart b p q = cc

never_some : (start : ℕ) → None ≡ Some start → ⊥
never_some start e = cc

-- a line without a number
pub timeless : {T : Type 0} {E : Type 0} (r : Result T E) (shows : ℕ → Moment → Option (List ℕ) → Type 0) (numbers : Numbers)
    (line : List ℕ) (from : ℕ) (o0 o1 : List ℕ) → number_start (is_time_at numbers line) line from ≡ None
    → OnOk r (o1 ≡ o0 ++ line) → OnOk r (Adds (FromBecomes shows numbers (Some from) line) o0 o1)
timeless (Ok v) shows numbers line from o0 o1 none is =
    (line, is, none_left shows numbers (if numbers.is_all then length line else 1) line 0 from none)
timeless (Err e) shows numbers line from o0 o1 none is = is

first_of : (a b c : Bool) → ((a || b) || c) ≡ false → a ≡ false
first_of true b c none = none
first_of false b c none = refl

-- where no text is asked for, numbers are looked for from the start of the line
pub unasked : {T : Type 0} {E : Type 0} (r : Result T E) (shows : ℕ → Moment → Option (List ℕ) → Type 0) (numbers : Numbers)
    (after : Option (List ℕ)) (asked all json : Bool) (line : List ℕ) (o0 o1 : List ℕ) → asked ≡ is_some after
    → ((asked || all) || json) ≡ false → OnOk r (Adds (FromBecomes shows numbers (Some 0) line) o0 o1)
    → OnOk r (Adds (UnixBecomes shows numbers after line) o0 o1)
unasked (Ok v) shows numbers None asked all json line o0 o1 is none h = (h.0, h.1, (Some 0, refl, h.2))
unasked (Ok v) shows numbers (Some t) asked all json line o0 o1 is none h =
    absurd (apart asked is (first_of asked all json none))
unasked (Err e) shows numbers after asked all json line o0 o1 is none h = h

-- a line with a number is not empty
long_enough : (p : ℕ → Bool) (n from start : ℕ) → first_place p (n - from) from ≡ Some start → 1 ≤ n
long_enough p zero from start is =
    let none : 0 - from ≡ 0 = omega arith in
    absurd (never_some start (sym (ap (λ k. first_place p k from) none) ∙ is))
long_enough p (suc n) from start is = omega arith

most_is : (all : Bool) (n : ℕ) → 1 ≤ n → (if all then n else 1) ≡ suc (if all then n - 1 else 0)
most_is true n some = omega (arith, some)
most_is false n some = refl

-- the first number of a line and what is behind it
pub first_and_rest : {T : Type 0} {E : Type 0} (shows shows' : ℕ → Moment → Option (List ℕ) → Type 0) (numbers : Numbers)
    (line : List ℕ) (from start end : ℕ) (o0 o1 o2 : List ℕ) (r : Result T E) → SameShown shows shows'
    → number_start (is_time_at numbers line) line from ≡ Some start → end ≡ (number_at line start).end
    → Adds (PieceBecomes shows numbers line 0 start) o0 o1
    → OnOk r (Adds (RestBecomes shows' numbers (if numbers.is_all then length line - 1 else 0) line end end) o1 o2)
    → OnOk r (Adds (FromBecomes shows numbers (Some from) line) o0 o2)
first_and_rest shows shows' numbers line from start end o0 o1 o2 (Ok v) same is to piece rest =
    let one = most_is numbers.is_all (length line)
    (long_enough (begins (is_time_at numbers line) line) (length line) from start is) in
    let mine = back shows shows' numbers _ line _ _ rest.0 same rest.2 in (
      piece.0 ++ rest.0,
      rest.1 ∙ rw piece.1 (append_assoc o0 piece.0 rest.0),
      subst (λ n. RestBecomes shows numbers n line 0 from (piece.0 ++ rest.0)) (sym one)
          (inr (
            start,
            piece.0,
            rest.0,
            is,
            refl,
            piece.2,
            subst (λ e. RestBecomes shows numbers (if numbers.is_all then length line - 1 else 0) line e e rest.0) to mine,
          )),
    )
first_and_rest shows shows' numbers line from start end o0 o1 o2 (Err e) same is to piece rest = rest

-- numbers of which no text is put in quotes, with this said
abbrev without_json : Numbers → Numbers
without_json numbers =
    record { unit = numbers.unit; least = numbers.least; window = numbers.window; is_all = numbers.is_all; is_json = false }

unchanged : (numbers : Numbers) → numbers.is_json ≡ false → without_json numbers ≡ numbers
unchanged numbers none =
    ap (λ json. record {
      unit = numbers.unit;
      least = numbers.least;
      window = numbers.window;
      is_all = numbers.is_all;
      is_json = json;
    }) (sym none)

-- the first number of a line, where it alone is replaced, and what is behind it
pub first_alone : (shows shows' : ℕ → Moment → Option (List ℕ) → Type 0) (numbers : Numbers) (line : List ℕ)
    (start end : ℕ) (o0 o1 o2 : List ℕ) → SameShown shows shows' → numbers.is_all ≡ false → numbers.is_json ≡ false
    → number_start (is_time_at numbers line) line 0 ≡ Some start → end ≡ (number_at line start).end
    → Adds (PieceBecomes shows (without_json numbers) line 0 start) o0 o1
    → o2 ≡ o1 ++ take (length line - end) (drop end line) → Adds (FromBecomes shows numbers (Some 0) line) o0 o2
first_alone shows shows' numbers line start end o0 o1 o2 same one none is to piece rest =
    let r : Result Bool ℕ = Ok true in
    let mine : Adds (PieceBecomes shows numbers line 0 start) o0 o1 =
    subst (λ n. Adds (PieceBecomes shows n line 0 start) o0 o1) (unchanged numbers none) piece in
    first_and_rest {E = ℕ} shows shows' numbers line 0 start end o0 o1 o2 r same is to mine (
      drop end line,
      rest ∙ ap (λ t. o1 ++ t) (slice-end end line),
      subst (λ all. RestBecomes shows' numbers (if all then length line - 1 else 0) line end end (drop end line)) (sym one) refl,
    )

-- whether a number stays, as its slices tell it
pub stops_is : (numbers : Numbers) (line : List ℕ) (start count len : ℕ) (decimals : List ℕ) (value stays : Bool)
    → count ≡ digit_count (drop start line)
    → decimals ≡ decimals_of (take (length line - (start + count)) (drop (start + count) line))
    → len ≡ decimals_length decimals → value ≡ is_quoted numbers line start
    → stays ≡ (value && has_exponent (take (length line - (start + count + len)) (drop (start + count + len) line)))
    → stays ≡ (is_quoted numbers line start && has_exponent (drop (number_at line start).end line))
stops_is numbers line start count len decimals value stays is are long quoted stops =
    let spelled : decimals ≡ decimals_of (drop (digit_count (drop start line)) (drop start line)) =
    are ∙ ap decimals_of (rest_of_number line start count is) in
    let to : start + count + len ≡ (number_at line start).end = rw (long, spelled, is) refl in
    stops ∙ ap (λ v. v && has_exponent (take (length line - (start + count + len)) (drop (start + count + len) line))) quoted
    ∙ ap (λ t. is_quoted numbers line start && has_exponent t) (slice-end (start + count + len) line)
    ∙ ap (λ e. is_quoted numbers line start && has_exponent (drop e line)) to

-- a moment of the parts of a number is that of the number, by its unit, unless it is a value with an exponent
pub named_time : (numbers : Numbers) (line : List ℕ) (start : ℕ) (unit : UnixUnit) (minus : Bool)
    (digits decimals rest : List ℕ) (blocked : Bool) (moment : Option Moment)
    → unit ≡ unit_for numbers.unit (digit_count (drop start line)) → digits ≡ digits_of (drop start line)
    → minus ≡ has_minus line start → rest ≡ drop (digit_count (drop start line)) (drop start line)
    → decimals ≡ decimals_of rest
    → blocked ≡ (is_quoted numbers line start && has_exponent (drop (number_at line start).end line))
    → IfSome moment (λ m. (length digits ≤ 19) × IsMoment m
    × (m ≡ with_sign minus (moment_after unit (digits_value 10 digits) decimals)) × (blocked ≡ false))
    → IfSome moment (λ m. (m ≡ moment_of_time numbers line start) × HasText numbers line start)
named_time numbers line start unit minus digits decimals rest blocked None by spelled sign left are stops h = h
named_time numbers line start unit minus digits decimals rest blocked (Some m) by spelled sign left are stops h =
    let same = moment_is unit line start minus digits decimals rest spelled sign left are in
    let is : m ≡ moment_of unit (number_at line start) = h.2 ∙ same in
    let short : length (digits_of (drop start line)) ≤ 19 = rw (← spelled) h.0 in
    let real : IsMoment (moment_of unit (number_at line start)) = subst IsMoment is h.1 in (
      is ∙ ap (λ u. moment_of u (number_at line start)) by,
      ((short, subst (λ u. IsMoment (moment_of u (number_at line start))) by real), sym stops ∙ h.3),
    )

-- and there is none where it names none
pub no_time : (numbers : Numbers) (line : List ℕ) (start : ℕ) (unit : UnixUnit) (minus : Bool)
    (digits decimals rest : List ℕ) (blocked : Bool) (moment : Option Moment)
    → unit ≡ unit_for numbers.unit (digit_count (drop start line)) → digits ≡ digits_of (drop start line)
    → minus ≡ has_minus line start → rest ≡ drop (digit_count (drop start line)) (drop start line)
    → decimals ≡ decimals_of rest
    → blocked ≡ (is_quoted numbers line start && has_exponent (drop (number_at line start).end line))
    → IfNone moment (length digits ≤ 19 → blocked ≡ false
    → ¬ IsMoment (with_sign minus (moment_after unit (digits_value 10 digits) decimals)))
    → IfNone moment (¬ HasText numbers line start)
no_time numbers line start unit minus digits decimals rest blocked None by spelled sign left are stops h =
    let same = moment_is unit line start minus digits decimals rest spelled sign left are
    ∙ ap (λ u. moment_of u (number_at line start)) by in
    λ has. h (rw spelled has.0.0) (stops ∙ has.1) (subst IsMoment (sym same) has.0.1)
no_time numbers line start unit minus digits decimals rest blocked (Some m) by spelled sign left are stops h = h

-- what takes the place of the moment of a number, between its quotes
pub piece_is_put : (shows : ℕ → Moment → Option (List ℕ) → Type 0) (numbers : Numbers) (line : List ℕ)
    (at start first end decimals : ℕ) (quoted : Bool) (moment : Option Moment) (before quotes own : List ℕ) (old new : List ℕ)
    → first ≡ (number_at line start).first → end ≡ (number_at line start).end
    → quoted ≡ is_quoted numbers line start → before ≡ between at first line → own ≡ between first end line
    → quotes ≡ quotes_if quoted → decimals ≡ decimals_at numbers line start
    → IfSome moment (λ m. (m ≡ moment_of_time numbers line start) × HasText numbers line start)
    → IfNone moment (¬ HasText numbers line start)
    → Adds (IsReplaced (shows decimals) moment (before ++ quotes) (quotes ++ []) (before ++ own)) old new
    → Adds (PieceBecomes shows numbers line at start) old new
piece_is_put shows numbers line at start first end decimals quoted moment before quotes own old new from to value are mine marks places some none h =
    let whole : before ++ own ≡ between at (number_at line start).first line
    ++ between (number_at line start).first (number_at line start).end line = rw (are, mine, from, to) refl in
    let front : before ++ quotes ≡ between at (number_at line start).first line ++ quotes_if (is_quoted numbers line start) =
    rw (are, marks, from, value) refl in
    let back : quotes ++ [] ≡ quotes_if (is_quoted numbers line start) = append-nil quotes ∙ rw (marks, value) refl in
    let r : Result Bool ℕ = Ok true in
    replaces_named {E = ℕ} (shows (decimals_at numbers line start)) (HasText numbers line start) (moment_of_time numbers line start) moment
    (between at (number_at line start).first line ++ quotes_if (is_quoted numbers line start))
    (quotes_if (is_quoted numbers line start)) (between at (number_at line start).first line
    ++ between (number_at line start).first (number_at line start).end line) old new r some none
    (subst (λ w. Adds (IsReplaced (shows (decimals_at numbers line start)) moment (between at (number_at line start).first line ++ quotes_if (is_quoted numbers line start))
    (quotes_if (is_quoted numbers line start)) w) old new) whole
    (subst (λ f. Adds (IsReplaced (shows (decimals_at numbers line start)) moment f (quotes_if (is_quoted numbers line start)) (before ++ own)) old new) front
    (subst (λ b. Adds (IsReplaced (shows (decimals_at numbers line start)) moment (before ++ quotes) b (before ++ own)) old new) back
    (subst (λ d. Adds (IsReplaced (shows d) moment (before ++ quotes) (quotes ++ []) (before ++ own)) old new) places h))))
