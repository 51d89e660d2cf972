-- Texts of the default configuration of ISO 8601, of which stamps are some, as texts of RFC 3339.
use Rattle.std.proofs.Common.{◌≡◌, ℕ, ◌-◌, ◌≤◌, List, [], ◌++◌, replicate, get_or}
use Rattle.std.proofs.Common.{refl, sym, ap, ap₂, subst, ◌∙◌, arith, inl, inr, true, false, unsigned_abs}
use Rattle.std.specs.Prelude.{codes}
use Rattle.std.proofs.lemmas.List.{append-nil}
use Rattle.time_below.specs.Moment.{DateAndTime}
use Rattle.time_below.proofs.OffsetLemmas.{abs_signed, IsOffset-signed_offset}
use Rattle.time_fmt.specs.Outcome.{done}
use Rattle.time_known.specs.Config.{default_choices}
use Rattle.time_known.specs.Iso8601.{iso8601_of}
use Rattle.time_known.specs.Iso8601Grammar.{CanonicalIsoDate, CanonicalIsoOffset, IsoShift, IsCanonicalIso8601}
use Rattle.time_known.specs.Laws.{IsValue}
use Rattle.time_known.specs.Parts.{ClockTime, SignedOffset, UtcOr}
use Rattle.time_known.specs.Rfc3339Grammar.{FullDate, TimeSecfrac, TimeOffset, ColonMinute, Rfc3339Spells}
use Rattle.time_known.specs.Rules.{Rule, Digits, Literal, ◌▹◌}
use Rattle.time_known.specs.Stamps.{HasStamp, stamp_text}
use Rattle.time_known.specs.Values.{OrdinalDate, OffsetDateAndTime, Offset, utc}
use Rattle.time_read.specs.Profiles.{in_utc}
use Rattle.time_read.specs.Stamp.{IsStamp}
use Rattle.time_known.proofs.Rfc3339Lemmas.{rfc3339_one_value}
use Rattle.time_known.proofs.Rules.Offsets.{one_signed}
use Rattle.time_known.proofs.Rules.Texts.{one_after, reads_digits, two_zeros}
use Rattle.time_known.proofs.StampLemmas.{default_is_whole, stamps_are_completed}
use Rattle.time_known.proofs.iso8601.WholeLemmas.{iso8601_is_written}
use Rattle.time_read.proofs.Regroup.{both_as, rest_as, to_right}

-- a date of four digits of the year
pub date_as : (d : OrdinalDate) (text : List ℕ) → CanonicalIsoDate default_choices d text → FullDate d text
date_as d text f = record {
  year = f.year;
  month = f.month;
  day = f.day;
  spelled = both_as f.spelled (λ t y. y.0) (λ t r. r);
  month_fits = f.month_fits;
  day_fits = f.day_fits;
  is = f.is;
}

-- nine digits after a point, and no more
fraction_as : (n : ℕ) (text : List ℕ) → (Literal (codes ".") ▹ Digits 9 n ▹ Literal []) text → TimeSecfrac n text
fraction_as n text s =
    let d = s.second in
    let nine = d.first.count in
    record {
      digits = d.front;
      whole = s.whole ∙ ap₂ (λ x y. x ++ y) s.first (d.whole ∙ ap (λ t. d.front ++ t) d.second ∙ append-nil d.front);
      count = (omega arith, omega arith);
      filled = subst (Digits 9 n) (sym (append-nil d.front) ∙ ap (λ k. d.front ++ replicate (9 - k) 48) (sym nine)) d.first;
    }

-- the offset zero by a minus
minus_zero : SignedOffset 23 ColonMinute utc (codes "-00:00")
minus_zero = record {
  is_negative = true;
  hour = 0;
  minute = 0;
  spelled = record {
    front = codes "-";
    rest = codes "00:00";
    whole = refl;
    first = refl;
    second = record {
      front = codes "00";
      rest = codes ":00";
      whole = refl;
      first = two_zeros;
      second = record { front = codes ":"; rest = codes "00"; whole = refl; first = refl; second = two_zeros };
    };
  };
  hour_fits = omega arith;
  minute_fits = omega arith;
  is = refl;
}

pub one_offset : {o p : Offset} (text : List ℕ) → SignedOffset 23 ColonMinute o text → SignedOffset 23 ColonMinute p text → o ≡ p
one_offset {o} {p} text f g =
    one_signed 23 ColonMinute (one_after (codes ":") (Digits 2) (reads_digits 2).same) text o p f g

offset_as : (o : Offset) (text : List ℕ) → unsigned_abs o.hours ≤ 23 → CanonicalIsoOffset default_choices o text → TimeOffset o text
offset_as o text small f = at f.0 f.1 where
  zed : text ≡ codes "Z" → text ≡ codes "-00:00" → ⊥
  zed e g = let h : ◌≡◌ {A = ℕ} 90 45 = ap (λ t. get_or t 0 0) (sym e ∙ g) in omega arith

  at : UtcOr (IsoShift default_choices) o text → (o ≡ utc → text ≡ codes "Z") → TimeOffset o text
  at (inl z) short = inl z
  at (inr n) short =
      let hours : unsigned_abs o.hours ≡ n.hour = ap (λ (x : Offset). unsigned_abs x.hours) n.is ∙ abs_signed n.is_negative n.hour in
      let s : SignedOffset 23 ColonMinute o text = record {
        is_negative = n.is_negative;
        hour = n.hour;
        minute = n.minute;
        spelled = n.spelled;
        hour_fits = omega arith;
        minute_fits = n.minute_fits;
        is = n.is;
      } in
      inr (s, λ e. zed (short (one_offset text s (subst (SignedOffset 23 ColonMinute utc) (sym e) minus_zero))) e)

-- a canonical text, part after part
abbrev pub Nine : ℕ → Rule
Nine n = Literal (codes ".") ▹ Digits 9 n ▹ Literal []

pub in_parts : (v : OffsetDateAndTime) {text : List ℕ} → IsCanonicalIso8601 default_choices v text
    → (CanonicalIsoDate default_choices v.date ▹ Literal (codes "T") ▹ ClockTime (codes ":") v.time ▹ Nine v.time.nanosecond
    ▹ CanonicalIsoOffset default_choices v.offset) text
in_parts v s = rest_as s (λ t a. rest_as (to_right a) (λ u b. to_right b))

-- one of an offset below 24 hours
iso_as : (v : OffsetDateAndTime) (text : List ℕ) → unsigned_abs v.offset.hours ≤ 23 → IsCanonicalIso8601 default_choices v text
    → Rfc3339Spells v text
iso_as v text small s =
    both_as (in_parts v s) (λ t d. date_as v.date t d) (λ t a. rest_as a (λ u b. rest_as b (λ w c.
    both_as c (λ x n. inr (fraction_as v.time.nanosecond x n)) (λ x o. offset_as v.offset x small o))))

-- what is completed by the default configuration
pub iso_is_rfc : (v : OffsetDateAndTime) (text : List ℕ) → IsValue v → unsigned_abs v.offset.hours ≤ 23
    → iso8601_of default_choices v ≡ done text → Rfc3339Spells v text
iso_is_rfc v text fits small e = iso_as v text small ((iso8601_is_written default_choices default_is_whole).written text v fits e)

-- stamps
pub stamp_is_rfc : (v : DateAndTime) (text : List ℕ) → HasStamp v → text ≡ stamp_text v → Rfc3339Spells (in_utc v) text
stamp_is_rfc v text h e =
    subst (Rfc3339Spells (in_utc v)) (sym e) (iso_is_rfc (in_utc v) (stamp_text v)
    (record { date = h.date; time = h.time; offset = IsOffset-signed_offset false 0 0 (omega arith) (omega arith) }) (omega arith) (stamps_are_completed v h).is_done)

-- what a stamp spells is the value that has it
pub same_stamp : (text : List ℕ) (u : OffsetDateAndTime) (v : DateAndTime) → Rfc3339Spells u text → IsStamp v text
    → ◌≡◌ {A = DateAndTime} (record { date = u.date; time = u.time; offset = tt }) v
same_stamp text u v h s =
    ap (λ (w : OffsetDateAndTime). let d : DateAndTime = record { date = w.date; time = w.time; offset = tt } in d)
    (rfc3339_one_value text u (in_utc v) h (stamp_is_rfc v text s.has s.is))

-- no text is the stamp of two values
pub one_stamp : (text : List ℕ) (v w : DateAndTime) → IsStamp v text → IsStamp w text → v ≡ w
one_stamp text v w s t = same_stamp text (in_utc v) w (stamp_is_rfc v text s.has s.is) t
