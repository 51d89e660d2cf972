-- The bytes of a text of RFC 2822 at their places.
use Rattle.std.proofs.Common.{◌≡◌, ◌∙◌, ℕ, ◌+◌, ◌-◌, ◌*◌, ◌<◌, List, [], ◌∷◌, ◌++◌, length, refl, sym, ap, ap₂, arith, get_or, subst, ◌≤◌, ◌==◌, append_assoc, drop, length-append, take}
use Rattle.std.specs.Prelude.{pos, slice_index_or, Bool, true, false}
use Rattle.std.proofs.Math.Seq.{drop-append_seam}
use Rattle.std.proofs.lemmas.List.{drop-drop, length-drop, take_all}
use Rattle.time_below.specs.Calendar.{IsDayOfMonth, OrdinalDate, date_of}
use Rattle.time_below.specs.Moment.{OffsetDateAndTime}
use Rattle.time_below.specs.Offset.{Offset, signed_offset}
use Rattle.time_below.specs.TimeOfDay.{TimeOfDay, time_of}
use Rattle.time_known.specs.Parts.{ClockTime, SignedOffset}
use Rattle.time_known.specs.Rfc2822Grammar.{NamedDate, Rfc2822Spells, month_names}
use Rattle.time_known.specs.Rules.{Digits, Sign}
use Rattle.time_known.proofs.Rules.Texts.{reads_day_name, reads_digits, reads_month_name}
use Rattle.time_read.proofs.Numbers.{four_to, to_four, two_is}
use Rattle.time_read.specs.Names.{list_of}
use Rattle.time_read.specs.declared.letters.Names.{Names}
use Rattle.time_read.specs.declared.letters.Names.TheVariants as names
use Rattle.std.specs.Prelude.{codes}

-- ---- pieces

-- two parts of a text, as they are
both : {text a x b y : List ℕ} → text ≡ a ++ x → a ≡ b → x ≡ y → text ≡ b ++ y
both whole first last = whole ∙ ap₂ (λ s t. s ++ t) first last

-- four digits
record AreFour (n : ℕ) (text : List ℕ) : Type 0 where
  pub a : ℕ
  pub b : ℕ
  pub c : ℕ
  pub d : ℕ
  pub a_fits : a < 10
  pub b_fits : b < 10
  pub c_fits : c < 10
  pub d_fits : d < 10
  pub is : text ≡ (48 + a) ∷ (48 + b) ∷ (48 + c) ∷ (48 + d) ∷ []
  pub value : n ≡ 100 * (10 * a + b) + (10 * c + d)

four_is : (n : ℕ) (text : List ℕ) → Digits 4 n text → AreFour n text
four_is n text h =
    let s = four_to n text h in
    let high = two_is s.value.0 s.spelled.front s.spelled.first.0 in
    let low = two_is s.value.1 s.spelled.rest s.spelled.second.0 in
    let same = (reads_digits 4).same text n (100 * s.value.0 + s.value.1) h (to_four s.value text s.spelled) in
    record {
      a = high.tens;
      b = high.units;
      c = low.tens;
      d = low.units;
      a_fits = high.tens_fit;
      b_fits = high.units_fit;
      c_fits = low.tens_fit;
      d_fits = low.units_fit;
      is = s.spelled.whole ∙ ap₂ (λ x y. x ++ y) high.is low.is;
      value = omega (arith, same, high.value, low.value);
    }

-- three letters
record AreThree (text : List ℕ) : Type 0 where
  pub a : ℕ
  pub b : ℕ
  pub c : ℕ
  pub is : text ≡ a ∷ b ∷ c ∷ []

three_are : (text : List ℕ) → length text ≡ 3 → AreThree text
three_are [] h = absurd (omega (arith, h))
three_are (a ∷ []) h = absurd (omega (arith, h))
three_are (a ∷ b ∷ []) h = absurd (omega (arith, h))
three_are (a ∷ b ∷ c ∷ []) h = record { a = a; b = b; c = c; is = refl }
three_are (a ∷ b ∷ c ∷ d ∷ text) h = absurd (omega (arith, h))

-- ---- a date

record DateBytes (date : OrdinalDate) (text : List ℕ) : Type 0 where
  pub w : ℕ
  pub x : ℕ
  pub y : ℕ
  pub t : ℕ
  pub u : ℕ
  pub t_fits : t < 10
  pub u_fits : u < 10
  pub j : ℕ
  pub k : ℕ
  pub l : ℕ
  pub place : ℕ
  pub exists : place < 12
  pub name : slice_index_or month_names place [] ≡ j ∷ k ∷ l ∷ []
  pub year : ℕ
  pub four : List ℕ
  pub digits : AreFour year four
  pub fits : IsDayOfMonth (pos year) (place + 1) (10 * t + u)
  pub is : date ≡ date_of (pos year) (place + 1) (10 * t + u)
  pub bytes : text ≡ w ∷ x ∷ y ∷ 44 ∷ 32 ∷ (48 + t) ∷ (48 + u) ∷ 32 ∷ j ∷ k ∷ l ∷ 32 ∷ four

date_bytes : (date : OrdinalDate) (text : List ℕ) → NamedDate date text → DateBytes date text
date_bytes date text n =
    let s = n.spelled in
    let comma = s.second in
    let day = comma.second in
    let gap = day.second in
    let month = gap.second in
    let last = month.second in
    let w = three_are s.front ((reads_day_name.width _).width s.front s.first) in
    let d = two_is n.day day.front day.first in
    let m = three_are month.front ((reads_month_name.width _).width month.front month.first) in
    let place : (n.month - 1) + 1 ≡ n.month = omega (arith, n.month_fits) in
    record {
      w = w.a;
      x = w.b;
      y = w.c;
      t = d.tens;
      u = d.units;
      t_fits = d.tens_fit;
      u_fits = d.units_fit;
      j = m.a;
      k = m.b;
      l = m.c;
      place = n.month - 1;
      exists = omega (arith, n.month_fits);
      name = sym month.first.is ∙ m.is;
      year = n.year;
      four = last.rest;
      digits = four_is n.year last.rest last.second;
      fits = rw (place, sym d.value) n.day_fits;
      is = n.is ∙ rw (place, sym d.value) refl;
      bytes = both s.whole w.is (both comma.whole comma.first (both day.whole d.is (both gap.whole gap.first
          (both month.whole m.is (both last.whole last.first refl)))));
    }

-- the digits and the letters of a date at the front of a text
pub record IsMailDate (text : List ℕ) (date : OrdinalDate) : Type 0 where
  pub long : 16 ≤ length text
  pub t : ℕ
  pub u : ℕ
  pub t_fits : t < 10
  pub u_fits : u < 10
  pub at_5 : get_or text 5 0 ≡ 48 + t
  pub at_6 : get_or text 6 0 ≡ 48 + u
  pub place : ℕ
  pub exists : place < 12
  pub name : slice_index_or month_names place [] ≡ get_or text 8 0 ∷ get_or text 9 0 ∷ get_or text 10 0 ∷ []
  pub a : ℕ
  pub b : ℕ
  pub c : ℕ
  pub d : ℕ
  pub a_fits : a < 10
  pub b_fits : b < 10
  pub c_fits : c < 10
  pub d_fits : d < 10
  pub at_12 : get_or text 12 0 ≡ 48 + a
  pub at_13 : get_or text 13 0 ≡ 48 + b
  pub at_14 : get_or text 14 0 ≡ 48 + c
  pub at_15 : get_or text 15 0 ≡ 48 + d
  pub fits : IsDayOfMonth (pos (100 * (10 * a + b) + (10 * c + d))) (place + 1) (10 * t + u)
  pub is : date ≡ date_of (pos (100 * (10 * a + b) + (10 * c + d))) (place + 1) (10 * t + u)

pub is_mail_date : (text front rest : List ℕ) (date : OrdinalDate) → NamedDate date front → text ≡ front ++ rest
    → IsMailDate text date
is_mail_date text front rest date n whole =
    let h = date_bytes date front n in
    let f = h.digits in
    let bytes = whole ∙ ap (λ x. x ++ rest) (h.bytes
    ∙ ap (λ four. h.w ∷ h.x ∷ h.y ∷ 44 ∷ 32 ∷ (48 + h.t) ∷ (48 + h.u) ∷ 32 ∷ h.j ∷ h.k ∷ h.l ∷ 32 ∷ four) f.is) in
    subst (λ (text : List ℕ). IsMailDate text date) (sym bytes) (record {
      long = omega arith;
      t = h.t;
      u = h.u;
      t_fits = h.t_fits;
      u_fits = h.u_fits;
      at_5 = refl;
      at_6 = refl;
      place = h.place;
      exists = h.exists;
      name = h.name;
      a = f.a;
      b = f.b;
      c = f.c;
      d = f.d;
      a_fits = f.a_fits;
      b_fits = f.b_fits;
      c_fits = f.c_fits;
      d_fits = f.d_fits;
      at_12 = refl;
      at_13 = refl;
      at_14 = refl;
      at_15 = refl;
      fits = rw (sym f.value) h.fits;
      is = h.is ∙ rw f.value refl;
    })

-- ---- a time of day

-- the digits of a time of day at the front of a text
pub record IsMailTime (text : List ℕ) (time : TimeOfDay) : Type 0 where
  pub long : 8 ≤ length text
  pub h : ℕ
  pub i : ℕ
  pub m : ℕ
  pub n : ℕ
  pub s : ℕ
  pub t : ℕ
  pub h_fits : h < 10
  pub i_fits : i < 10
  pub m_fits : m < 10
  pub n_fits : n < 10
  pub s_fits : s < 10
  pub t_fits : t < 10
  pub at_0 : get_or text 0 0 ≡ 48 + h
  pub at_1 : get_or text 1 0 ≡ 48 + i
  pub at_3 : get_or text 3 0 ≡ 48 + m
  pub at_4 : get_or text 4 0 ≡ 48 + n
  pub at_6 : get_or text 6 0 ≡ 48 + s
  pub at_7 : get_or text 7 0 ≡ 48 + t
  pub hour : time.hour ≡ 10 * h + i
  pub minute : time.minute ≡ 10 * m + n
  pub second : time.second ≡ 10 * s + t

pub is_mail_time : (text front rest : List ℕ) (time : TimeOfDay) → ClockTime (codes ":") time front → text ≡ front ++ rest
    → IsMailTime text time
is_mail_time text front rest time c whole =
    let s = c.spelled in
    let colon = s.second in
    let minute = colon.second in
    let last = minute.second in
    let a = two_is time.hour s.front s.first in
    let b = two_is time.minute minute.front minute.first in
    let e = two_is time.second last.rest last.second in
    let all : front ≡ (48 + a.tens) ∷ (48 + a.units) ∷ 58 ∷ (48 + b.tens) ∷ (48 + b.units) ∷ 58 ∷ (48 + e.tens) ∷ (48 + e.units) ∷ [] =
    both s.whole a.is (both colon.whole colon.first (both minute.whole b.is (both last.whole last.first e.is))) in
    subst (λ (text : List ℕ). IsMailTime text time) (sym (whole ∙ ap (λ x. x ++ rest) all)) (record {
      long = omega arith;
      h = a.tens;
      i = a.units;
      m = b.tens;
      n = b.units;
      s = e.tens;
      t = e.units;
      h_fits = a.tens_fit;
      i_fits = a.units_fit;
      m_fits = b.tens_fit;
      n_fits = b.units_fit;
      s_fits = e.tens_fit;
      t_fits = e.units_fit;
      at_0 = refl;
      at_1 = refl;
      at_3 = refl;
      at_4 = refl;
      at_6 = refl;
      at_7 = refl;
      hour = a.value;
      minute = b.value;
      second = e.value;
    })

-- ---- an offset

abbrev sign_code : Bool → ℕ
sign_code true = 45
sign_code false = 43

-- the sign and the digits of an offset
pub record IsMailOffset (text : List ℕ) (offset : Offset) : Type 0 where
  pub long : length text ≡ 5
  pub is_negative : Bool
  pub h : ℕ
  pub i : ℕ
  pub m : ℕ
  pub n : ℕ
  pub h_fits : h < 10
  pub i_fits : i < 10
  pub m_fits : m < 10
  pub n_fits : n < 10
  pub hour_fits : 10 * h + i < 26
  pub minute_fits : 10 * m + n < 60
  pub at_0 : (get_or text 0 0 == 45) ≡ is_negative
  pub at_1 : get_or text 1 0 ≡ 48 + h
  pub at_2 : get_or text 2 0 ≡ 48 + i
  pub at_3 : get_or text 3 0 ≡ 48 + m
  pub at_4 : get_or text 4 0 ≡ 48 + n
  pub is : offset ≡ signed_offset is_negative (10 * h + i) (10 * m + n)

sign_is : (is_negative : Bool) (text : List ℕ) → Sign is_negative text → text ≡ sign_code is_negative ∷ []
sign_is true text h = h
sign_is false text h = h

sign_read : (is_negative : Bool) → (sign_code is_negative == 45) ≡ is_negative
sign_read true = refl
sign_read false = refl

pub is_mail_offset : (text : List ℕ) (offset : Offset) → SignedOffset 25 (Digits 2) offset text → IsMailOffset text offset
is_mail_offset text offset o =
    let s = o.spelled in
    let hour = s.second in
    let a = two_is o.hour hour.front hour.first in
    let b = two_is o.minute hour.rest hour.second in
    let all : text ≡ sign_code o.is_negative ∷ (48 + a.tens) ∷ (48 + a.units) ∷ (48 + b.tens) ∷ (48 + b.units) ∷ [] =
    both s.whole (sign_is o.is_negative s.front s.first) (both hour.whole a.is b.is) in
    subst (λ (text : List ℕ). IsMailOffset text offset) (sym all) (record {
      long = refl;
      is_negative = o.is_negative;
      h = a.tens;
      i = a.units;
      m = b.tens;
      n = b.units;
      h_fits = a.tens_fit;
      i_fits = a.units_fit;
      m_fits = b.tens_fit;
      n_fits = b.units_fit;
      hour_fits = omega (arith, a.value, o.hour_fits);
      minute_fits = omega (arith, b.value, o.minute_fits);
      at_0 = sign_read o.is_negative;
      at_1 = refl;
      at_2 = refl;
      at_3 = refl;
      at_4 = refl;
      is = o.is ∙ ap₂ (λ h m. signed_offset o.is_negative h m) a.value b.value;
    })

-- ---- a whole text

-- what is left of a text behind so many bytes
slice_end : (i : ℕ) (text : List ℕ) → take (length text - i) (drop i text) ≡ drop i text
slice_end i text = take_all (length text - i) (drop i text) (omega (arith, length-drop i text))

-- where the parts of a text stand
pub record IsMailText (text : List ℕ) (v : OffsetDateAndTime) : Type 0 where
  pub long : length text ≡ 31
  pub date_front : List ℕ
  pub date_rest : List ℕ
  pub date : NamedDate v.date date_front
  pub date_whole : text ≡ date_front ++ date_rest
  pub time_front : List ℕ
  pub time_rest : List ℕ
  pub time : ClockTime (codes ":") v.time time_front
  pub time_whole : take (length text - 17) (drop 17 text) ≡ time_front ++ time_rest
  pub offset : SignedOffset 25 (Digits 2) v.offset (take (length text - 26) (drop 26 text))

length-date : (date : OrdinalDate) (text : List ℕ) → NamedDate date text → length text ≡ 16
length-date date text n = let h = date_bytes date text n in omega (arith, ap length h.bytes, ap length h.digits.is)

length-time : (time : TimeOfDay) (text : List ℕ) → ClockTime (codes ":") time text → length text ≡ 8
length-time time text c =
    let s = c.spelled in
    let colon = s.second in
    let minute = colon.second in
    let last = minute.second in
    ap length (both s.whole (two_is time.hour s.front s.first).is (both colon.whole colon.first
    (both minute.whole (two_is time.minute minute.front minute.first).is
    (both last.whole last.first (two_is time.second last.rest last.second).is))))

-- what is behind a part of so many bytes and one more
behind_both : (n : ℕ) (text a x b y : List ℕ) → length a + length b ≡ n → text ≡ a ++ x → x ≡ b ++ y → drop n text ≡ y
behind_both n text a x b y size first second =
    let whole = first ∙ ap (λ t. a ++ t) second ∙ sym (append_assoc a b y) in
    let count : n ≡ length (a ++ b) = omega (arith, size, length-append a b) in
    ap₂ (λ k t. drop k t) count whole ∙ drop-append_seam (a ++ b) y

pub is_mail_text : (text : List ℕ) (v : OffsetDateAndTime) → Rfc2822Spells v text → IsMailText text v
is_mail_text text v h =
    let s = h.0 in
    let blank = s.second in
    let clock = blank.second in
    let gap = clock.second in
    let date = length-date v.date s.front s.first in
    let time = length-time v.time clock.front clock.first in
    let one : length blank.front ≡ 1 = ap length blank.first in
    let last : length gap.front ≡ 1 = ap length gap.first in
    let zone : length gap.rest ≡ 5 = (is_mail_offset gap.rest v.offset gap.second.0).long in
    let from_time : drop 17 text ≡ blank.rest = behind_both 17 text s.front s.rest blank.front blank.rest (omega (arith, date, one)) s.whole blank.whole in
    let from_offset : drop 9 blank.rest ≡ gap.rest = behind_both 9 blank.rest clock.front clock.rest gap.front gap.rest (omega (arith, time, last)) clock.whole gap.whole in
    let offset : drop 26 text ≡ gap.rest = sym (drop-drop 9 17 text) ∙ ap (drop 9) from_time ∙ from_offset in
    record {
      long = omega (
        arith,
        ap length s.whole,
        ap length blank.whole,
        ap length clock.whole,
        ap length gap.whole,
        length-append s.front s.rest,
        length-append blank.front blank.rest,
        length-append clock.front clock.rest,
        length-append gap.front gap.rest,
        date,
        one,
        time,
        last,
        zone,
      );
      date_front = s.front;
      date_rest = s.rest;
      date = s.first;
      date_whole = s.whole;
      time_front = clock.front;
      time_rest = clock.rest;
      time = clock.first;
      time_whole = slice_end 17 text ∙ from_time ∙ clock.whole;
      offset = subst (SignedOffset 25 (Digits 2) v.offset) (sym (slice_end 26 text ∙ offset)) gap.second.0;
    }

-- ---- names

-- no two names have the same letters
pub one_name : (n : Names) (text : List ℕ) (j k : ℕ) → j < length (list_of n) → k < length (list_of n)
    → slice_index_or (list_of n) j [] ≡ text → slice_index_or (list_of n) k [] ≡ text → j ≡ k
one_name names.Weekday text j k a b p q =
    reads_day_name.same text j k (record { exists = a; is = sym p }) (record { exists = b; is = sym q })
one_name names.Month text j k a b p q =
    reads_month_name.same text j k (record { exists = a; is = sym p }) (record { exists = b; is = sym q })

-- a time of day by its numbers
pub same_time : (t : TimeOfDay) (h m s : ℕ) → h ≡ t.hour → m ≡ t.minute → s ≡ t.second → t.nanosecond ≡ 0
    → time_of h m s 0 ≡ t
same_time t h m s a b e zero = rw (a, b, e) (ap (λ n. time_of t.hour t.minute t.second n) (sym zero))
