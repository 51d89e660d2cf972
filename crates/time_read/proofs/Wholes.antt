-- Whole texts of RFC 3339.
use Rattle.std.proofs.Common.{◌≡◌, ℕ, ◌-◌, ◌≤◌, List, [], ◌∷◌, length, length-append, take, drop}
use Rattle.std.specs.Prelude.{◌↔◌, IsTrue}
use Rattle.std.proofs.Common.{refl, sym, ap, subst, ◌∙◌, arith, inl, inr}
use Rattle.std.proofs.lemmas.List.{take_at, drop_at}
use Rattle.time_known.specs.Rfc3339Grammar.{FullDate, WholeTime}
use Rattle.time_known.specs.Rules.{Rule, Literal, ◌▹◌}
use Rattle.time_known.specs.Values.{OrdinalDate, OffsetDateAndTime, Offset}
use Rattle.time_read.specs.Fault.{SpellsSome, IsFirstFault, IsLetter, IsSecond60}
use Rattle.time_read.specs.Front.{Front, FieldFault, TextFault}
use Rattle.time_read.specs.Lenient.{EitherT}
use Rattle.time_read.specs.Profiles.{ReadsAs, Tail, TheLetter}
use Rattle.time_read.specs.Refused.{IsRefused}
use Rattle.time_read.specs.Shapes.{Clock, OfClock, OneDigit, Seq}
use Rattle.time_read.specs.declared.fault.Profile.{Profile}
use Rattle.time_read.specs.declared.fault.Profile.TheVariants as profile
use Rattle.time_read.specs.declared.fault.Unexpected.{Unexpected}
use Rattle.time_read.specs.declared.fault.NotRead.{NotRead}
use Rattle.time_read.proofs.Fields.{CanGoOn, begins_first, text_as, text_first, text_after}
use Rattle.time_read.proofs.Numbers.{begins_letter, four_first, reads_letter, two_first}
use Rattle.time_read.proofs.PartLemmas.{begins_clock, clock_at, clock_of_time, date_first, reads_clock, reads_full_date, time_at}
use Rattle.time_read.proofs.PartLemmas.{time_of_clock}
use Rattle.time_read.proofs.Regroup.{both_as, rest_as, parts_of, seq_of}
use Rattle.time_read.proofs.Tails.{begins_any_tail}

-- a time of day and an offset, and these after a letter
abbrev ClockAndTail : Profile → Clock × (ℕ × Offset) → Rule
ClockAndTail p = Seq OfClock (λ _. Tail p)

abbrev AfterT : Profile → Unit {0} × (Clock × (ℕ × Offset)) → Rule
AfterT p = Seq (TheLetter p 84) (λ _. ClockAndTail p)

abbrev WholeText : Profile → OrdinalDate × (Unit {0} × (Clock × (ℕ × Offset))) → Rule
WholeText p = Seq FullDate (λ _. AfterT p)

abbrev pub value_of : OrdinalDate → Clock → ℕ → Offset → OffsetDateAndTime
value_of d c n o = record { date = d; time = time_at c n; offset = o }

-- the rule of the letter, and of what is read, in other words
abbrev LetterT : Profile → Rule
LetterT profile.Strict = Literal (84 ∷ [])
LetterT profile.Lenient = EitherT

abbrev ReadInParts : Profile → OffsetDateAndTime → Rule
ReadInParts p v = FullDate v.date ▹ LetterT p ▹ WholeTime v.time ▹ Tail p (v.time.nanosecond, v.offset)

letter_to : (p : Profile) (text : List ℕ) → TheLetter p 84 tt text → LetterT p text
letter_to profile.Strict text t = t.whole ∙ ap (λ (x : ℕ). x ∷ []) t.is
letter_to profile.Lenient text t = at t.is where
  at : IsLetter profile.Lenient 84 t.byte → EitherT text
  at (inl e) = inl (t.whole ∙ ap (λ (x : ℕ). x ∷ []) e)
  at (inr e) = inr (t.whole ∙ ap (λ (x : ℕ). x ∷ []) e)

to_letter : (p : Profile) (text : List ℕ) → LetterT p text → TheLetter p 84 tt text
to_letter profile.Strict text e = record { byte = 84; whole = e; is = refl }
to_letter profile.Lenient text (inl e) = record { byte = 84; whole = e; is = inl refl }
to_letter profile.Lenient text (inr e) = record { byte = 116; whole = e; is = inr refl }

in_parts : (p : Profile) (v : OffsetDateAndTime) (text : List ℕ) → ReadsAs p v text → ReadInParts p v text
in_parts profile.Strict v text s = s
in_parts profile.Lenient v text s = s

of_parts : (p : Profile) (v : OffsetDateAndTime) (text : List ℕ) → ReadInParts p v text → ReadsAs p v text
of_parts profile.Strict v text s = s
of_parts profile.Lenient v text s = s

whole_to : (p : Profile) (q : OrdinalDate × (Unit {0} × (Clock × (ℕ × Offset)))) (text : List ℕ) → WholeText p q text
    → ReadsAs p (value_of q.0 q.1.1.0 q.1.1.1.0 q.1.1.1.1) text
whole_to p q text s =
    of_parts p _ text (rest_as (parts_of s) (λ t a. both_as (parts_of a) (λ u l. letter_to p u l)
    (λ u b. both_as (parts_of b) (λ w c. time_of_clock q.1.1.0 q.1.1.1.0 c) (λ w e. e))))

to_whole : (p : Profile) (v : OffsetDateAndTime) (text : List ℕ) → ReadInParts p v text → SpellsSome (WholeText p) text
to_whole p v text s =
    let tail : ℕ × Offset = (v.time.nanosecond, v.offset) in
    let c = clock_at v.time in
    record {
      value = (v.date, (tt, (c, tail)));
      spelled = seq_of (v.date, (tt, (c, tail))) (rest_as s (λ t a. seq_of (tt, (c, tail)) (both_as a (λ u l. to_letter p u l)
          (λ u b. seq_of (c, tail) (both_as b (λ w k. clock_of_time v.time k) (λ w e. e))))));
    }

clock_goes_on : (p : Profile) → CanGoOn 8 OfClock (λ _. Tail p)
clock_goes_on p = record { width = reads_clock.width; on = λ c front s. begins_any_tail p }

letter_goes_on : (p : Profile) → CanGoOn 1 (TheLetter p 84) (λ _. ClockAndTail p)
letter_goes_on p = record {
  width = (reads_letter p 84).width;
  on = λ u front s. begins_first (clock_goes_on p) begins_clock;
}

date_goes_on : (p : Profile) → CanGoOn 10 FullDate (λ _. AfterT p)
date_goes_on p = record {
  width = reads_full_date.width;
  on = λ d front s. begins_first (letter_goes_on p) (begins_letter p 84);
}

as_whole : (p : Profile) {text : List ℕ} {e : Unexpected} → TextFault (SpellsSome (WholeText p)) text e
    → TextFault (SpellsSome (ReadsAs p)) text e
as_whole p f =
    text_as (λ t s. record { value = _; spelled = whole_to p s.value t s.spelled })
    (λ t s. to_whole p s.value t (in_parts p s.value t s.spelled)) f

pub whole_date : (p : Profile) (text : List ℕ) (e : Unexpected) → FieldFault 10 (SpellsSome FullDate) text e
    → TextFault (SpellsSome (ReadsAs p)) text e
whole_date p text e f = as_whole p (text_first (date_goes_on p) f)

after_date : (p : Profile) (d : OrdinalDate) {text rest : List ℕ} {e : Unexpected} → Front (FullDate d) text rest
    → TextFault (SpellsSome (AfterT p)) rest e → TextFault (SpellsSome (ReadsAs p)) text e
after_date p d h f = as_whole p (text_after {Q = λ _. AfterT p} reads_full_date d h f)

pub whole_letter : (p : Profile) (d : OrdinalDate) (text rest : List ℕ) (e : Unexpected) → Front (FullDate d) text rest
    → FieldFault 1 (SpellsSome (TheLetter p 84)) rest e → TextFault (SpellsSome (ReadsAs p)) text e
whole_letter p d text rest e h f = after_date p d h (text_first (letter_goes_on p) f)

after_letter : (p : Profile) (d : OrdinalDate) {text rest last : List ℕ} {e : Unexpected} → Front (FullDate d) text rest
    → Front (TheLetter p 84 tt) rest last → TextFault (SpellsSome (ClockAndTail p)) last e → TextFault (SpellsSome (ReadsAs p)) text e
after_letter p d h l f = after_date p d h (text_after {Q = λ _. ClockAndTail p} (reads_letter p 84) tt l f)

pub whole_clock : (p : Profile) (d : OrdinalDate) (text rest last : List ℕ) (e : Unexpected) → Front (FullDate d) text rest
    → Front (TheLetter p 84 tt) rest last → FieldFault 8 (SpellsSome OfClock) last e → TextFault (SpellsSome (ReadsAs p)) text e
whole_clock p d text rest last e h l f = after_letter p d h l (text_first (clock_goes_on p) f)

pub whole_tail : (p : Profile) (d : OrdinalDate) (c : Clock) (text rest last end : List ℕ) (e : Unexpected) → Front (FullDate d) text rest
    → Front (TheLetter p 84 tt) rest last → Front (OfClock c) last end → TextFault (SpellsSome (Tail p)) end e
    → TextFault (SpellsSome (ReadsAs p)) text e
whole_tail p d c text rest last end e h l q f = after_letter p d h l (text_after {Q = λ _. Tail p} reads_clock c q f)

pub whole_is : (p : Profile) (d : OrdinalDate) (c : Clock) (n : ℕ) (o : Offset) (text rest last end : List ℕ)
    → Front (FullDate d) text rest → Front (TheLetter p 84 tt) rest last → Front (OfClock c) last end → Tail p (n, o) end
    → ReadsAs p (value_of d c n o) text
whole_is p d c n o text rest last end h l q t =
    whole_to p (d, (tt, (c, (n, o)))) text (record {
      front = h.front;
      rest = rest;
      whole = h.whole;
      first = h.is;
      second = record {
        front = l.front;
        rest = last;
        whole = l.whole;
        first = l.is;
        second = record { front = q.front; rest = end; whole = q.whole; first = q.is; second = t };
      };
    })

-- the first digit of the year
pub no_digit : (p : Profile) (text : List ℕ) (e : Unexpected) → FieldFault 1 (SpellsSome (OneDigit 0 9)) text e
    → TextFault (SpellsSome (ReadsAs p)) text e
no_digit p text e f = whole_date p text e (date_first text e (four_first text e (two_first 0 99 text e (omega arith, omega arith) f)))

-- ---- places

-- no more bytes are left than there are
pub left_within : {P : Rule} (text : List ℕ) (e : Unexpected) → TextFault P text e → e.left ≤ length text
left_within text e f = omega (arith, ap length f.whole, length-append f.right f.rest, f.left)

-- the place by the bytes that are left
pub place_is : (P : Rule) (text : List ℕ) (e : Unexpected) (at : ℕ) → at ≡ length text - e.left → TextFault P text e
    → IsFirstFault P (take at text) (drop at text) e.expected
place_is P text e at h f =
    let n : length f.right ≡ at = omega (arith, ap length f.whole, length-append f.right f.rest, f.left) in
    let right : f.right ≡ take at text = sym (ap (take at) f.whole ∙ take_at f.right f.rest at n) in
    let rest : f.rest ≡ drop at text = sym (ap (drop at) f.whole ∙ drop_at f.right f.rest at n) in
    subst (λ (t : List ℕ). IsFirstFault P t (drop at text) e.expected) right
    (subst (λ (t : List ℕ). IsFirstFault P f.right t e.expected) rest f.first)

pub is_refused : {V : Type 0} (Spells : V → Rule) (seconds : ℕ) (text : List ℕ) (e : Unexpected) (place : NotRead)
    → place.at ≡ length text - e.left → place.expected ≡ e.expected → (IsTrue place.is_second_60 ↔ IsSecond60 seconds place.at text)
    → TextFault (SpellsSome Spells) text e → IsRefused Spells seconds text place
is_refused Spells seconds text e place at expected second_60 f = record {
  refused = λ v s. f.none (record { value = v; spelled = s });
  first = rw expected (place_is (SpellsSome Spells) text e place.at at f);
  within = omega (arith, at);
  second_60 = second_60;
}
