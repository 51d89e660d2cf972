-- Offsets at the end of a text, and where a text ends.
use Rattle.std.proofs.Common.{◌≡◌, ◌≢◌, ℕ, zero, suc, ◌≤◌, List, [], ◌∷◌, ◌++◌, length, length-append, get_or, drop}
use Rattle.std.proofs.Common.{refl, sym, ap, ap₂, subst, ◌∙◌, arith, inl, inr, Bool, true, false}
use Rattle.std.specs.Prelude.{codes, if◌then◌else◌, ◌==◌}
use Rattle.std.proofs.lemmas.Bool.Decides.{nat_tests}
use Rattle.std.proofs.lemmas.List.{append-nil}
use Rattle.time_below.specs.Offset.{signed_offset}
use Rattle.time_digits.specs.Digits.{fixed}
use Rattle.time_known.specs.Laws.{OneValue}
use Rattle.time_known.specs.Parts.{SignedOffset}
use Rattle.time_known.specs.Rfc3339Grammar.{ColonMinute, TimeOffset}
use Rattle.time_known.specs.Rules.{Rule, Digits, Literal, Sign, ◌▹◌}
use Rattle.time_known.specs.Values.{Offset, utc}
use Rattle.time_known.proofs.Rules.Texts.{HasWidth, reads_digits, one_then, one_after, two_zeros, digits_are_fixed}
use Rattle.time_read.specs.Fault.{SpellsSome, Begins, IsFirstFault, IsLetter}
use Rattle.time_read.specs.Lenient.{MeansOffset, IsOffsetFor}
use Rattle.time_read.specs.Profiles.{EndOffset, RestOfOffset}
use Rattle.time_read.specs.Front.{Front, FieldFault, TextFault}
use Rattle.time_read.specs.Shapes.{Two, TwoAfter, HoursAndMinutes, is_some, least_minute, sign_byte, IsTrailing}
use Rattle.time_read.specs.declared.fault.Unexpected.{Unexpected}
use Rattle.time_read.specs.declared.fault.Profile.{Profile}
use Rattle.time_read.specs.declared.fault.Profile.TheVariants as profile
use Rattle.time_read.proofs.Fields.{CanGoOn, begins_first, field_first, field_after, front_then, text_as, text_of_field}
use Rattle.time_read.proofs.Numbers.{reads_two, reads_two_after, begins_two, begins_two_after}
use Rattle.time_read.proofs.Regroup.{both_as, rest_as, parts_of, seq_of}

-- ---- the end of a text

-- a text of the rule with bytes after it
pub text_end : {A : Type 0} {k : ℕ} (P : A → Rule) → ((a : A) → HasWidth k (P a)) → (a : A) {text rest : List ℕ} {e : Unexpected}
    → Front (P a) text rest → IsTrailing rest e → TextFault (SpellsSome P) text e
text_end P width a {text} {rest} p t = record {
  right = p.front;
  rest = rest;
  whole = p.whole;
  left = t.left;
  first = subst (IsFirstFault (SpellsSome P) p.front rest) (sym t.expected) (record {
    begins = record { more = []; whole = record { value = a; spelled = subst (P a) (sym (append-nil p.front)) p.is } };
    expected = λ b. (
      λ g. omega (
        arith,
        (width g.whole.value).width _ g.whole.spelled,
        (width a).width p.front p.is,
        length-append (p.front ++ b ∷ []) g.more,
        length-append p.front (b ∷ []),
      ),
      λ h. absurd h,
    );
    found = λ b after h k. k;
  });
  none = λ s. omega (
    arith,
    (width s.value).width text s.spelled,
    (width a).width p.front p.is,
    ap length p.whole,
    length-append p.front rest,
    t.some,
  );
}

-- a text of the rule with nothing after it
pub text_whole : {P : Rule} {text rest : List ℕ} → Front P text rest → rest ≡ [] → P text
text_whole {P} {text} {rest} p e =
    subst P (sym (append-nil p.front) ∙ ap (λ t. p.front ++ t) (sym e) ∙ sym p.whole) p.is

-- the empty text with bytes after it
pub nothing_end : (text : List ℕ) (e : Unexpected) → IsTrailing text e → TextFault (Literal []) text e
nothing_end text e t = record {
  right = [];
  rest = text;
  whole = refl;
  left = t.left;
  first = subst (IsFirstFault (Literal []) [] text) (sym t.expected) (record {
    begins = record { more = []; whole = refl };
    expected = λ b. (λ g. let h : b ∷ g.more ≡ [] = g.whole in cc, λ h. absurd h);
    found = λ b after h k. k;
  });
  none = λ s. omega (arith, ap length s, t.some);
}

-- ---- `Z`

signs : (b : Bool) (rest : List ℕ) → (if b then codes "-" else codes "+") ++ rest ≡ sign_byte b ∷ rest
signs true rest = refl
signs false rest = refl

-- the sign that was read
pub sign_front : (b : Bool) {text rest : List ℕ} → text ≡ sign_byte b ∷ rest → Front (Sign b) text rest
sign_front b {text} {rest} e = record {
  front = if b then codes "-" else codes "+";
  whole = e ∙ sym (signs b rest);
  is = refl;
}

-- an offset by numbers begins with its sign
pub numbers_are : {o : Offset} {text : List ℕ} (n : SignedOffset 23 ColonMinute o text) → text ≡ sign_byte n.is_negative ∷ n.spelled.rest
numbers_are n = n.spelled.whole ∙ ap (λ t. t ++ n.spelled.rest) n.spelled.first ∙ signs n.is_negative n.spelled.rest

sign_not_z : (b : Bool) → 90 ≡ sign_byte b → ⊥
sign_not_z true e = omega arith
sign_not_z false e = omega arith

pub to_z : (text : List ℕ) → SpellsSome TimeOffset (90 ∷ text) → Literal [] text
to_z text s = at s.spelled where
  at : TimeOffset s.value (90 ∷ text) → text ≡ []
  at (inl z) = ap (drop 1) z.0
  at (inr n) = absurd (sign_not_z n.0.is_negative (ap (λ t. get_or t 0 0) (numbers_are n.0)))

-- ---- hours and minutes

shape_one : OneValue (λ (p : ℕ × ℕ). Digits 2 p.0 ▹ ColonMinute p.1)
shape_one = one_then (reads_digits 2) ColonMinute (one_after (codes ":") (Digits 2) (reads_digits 2).same)

zero_shape : (Digits 2 0 ▹ ColonMinute 0) (codes "00:00")
zero_shape = record {
  front = codes "00";
  rest = codes ":00";
  whole = refl;
  first = two_zeros;
  second = record { front = codes ":"; rest = codes "00"; whole = refl; first = refl; second = two_zeros };
}

shape_of : (b : Bool) {p : ℕ × ℕ} {text : List ℕ} → HoursAndMinutes b p text → (Digits 2 p.0 ▹ ColonMinute p.1) text
shape_of b s = both_as (parts_of s) (λ t h. h.0) (λ t m. rest_as m (λ u d. d.0))

not_minus_zero : (b : Bool) (p : ℕ × ℕ) (text : List ℕ) → HoursAndMinutes b p text → sign_byte b ∷ text ≢ codes "-00:00"
not_minus_zero false p text s e = let h : ◌≡◌ {A = ℕ} 43 45 = ap (λ t. get_or t 0 0) e in omega arith
not_minus_zero true p text s e =
    let rest : text ≡ codes "00:00" = ap (drop 1) e in
    let zero : p ≡ (0, 0) = shape_one (codes "00:00") p (0, 0) (subst (Digits 2 p.0 ▹ ColonMinute p.1) rest (shape_of true s)) zero_shape in
    let some : least_minute true p.0 ≤ p.1 = s.second.second.1.0 in
    let h : least_minute true 0 ≤ 0 = subst (λ (q : ℕ × ℕ). least_minute true q.0 ≤ q.1) zero some in
    omega arith

pub offset_to : (b : Bool) (p : ℕ × ℕ) (text : List ℕ) → HoursAndMinutes b p text
    → TimeOffset (signed_offset b p.0 p.1) (sign_byte b ∷ text)
offset_to b p text s = inr (
  record {
    is_negative = b;
    hour = p.0;
    minute = p.1;
    spelled = record {
      front = if b then codes "-" else codes "+";
      rest = text;
      whole = sym (signs b text);
      first = refl;
      second = shape_of b s;
    };
    hour_fits = s.first.1.1;
    minute_fits = omega (arith, s.second.second.1.1);
    is = refl;
  },
  not_minus_zero b p text s,
)

same_sign : (a b : Bool) → sign_byte a ≡ sign_byte b → a ≡ b
same_sign true true e = refl
same_sign false false e = refl
same_sign true false e = absurd (omega arith)
same_sign false true e = absurd (omega arith)

pub least_fits : (b : Bool) (hour minute : ℕ) → (b ≡ true → hour ≡ 0 → minute ≡ 0 → ⊥) → least_minute b hour ≤ minute
least_fits false hour minute n = omega arith
least_fits true zero zero n = absurd (n refl refl refl)
least_fits true zero (suc m) n = omega arith
least_fits true (suc h) m n = let e : suc h == 0 ≡ false = grind (arith, nat_tests) in rw e (omega arith)

-- the text of zero with a minus
zero_text : (b : Bool) (hour minute : ℕ) (text : List ℕ) → (Digits 2 hour ▹ ColonMinute minute) text → b ≡ true → hour ≡ 0 → minute ≡ 0
    → sign_byte b ∷ text ≡ codes "-00:00"
unfolding fixed
zero_text b hour minute text s e h m =
    let first = digits_are_fixed s.first ∙ ap (fixed 2) h in
    let last = digits_are_fixed s.second.second ∙ ap (fixed 2) m in
    ap₂ (λ (c : Bool) (t : List ℕ). sign_byte c ∷ t) e
    (s.whole ∙ ap₂ (λ x y. x ++ y) first (s.second.whole ∙ ap₂ (λ x y. x ++ y) s.second.first last))

to_offset : (b : Bool) (o : Offset) (text : List ℕ) → TimeOffset o (sign_byte b ∷ text) → SpellsSome (HoursAndMinutes b) text
to_offset b o text (inl z) = absurd (sign_not_z b (ap (λ t. get_or t 0 0) (sym z.0)))
to_offset b o text (inr n) =
    let s = n.0 in
    let e = numbers_are s in
    let sign : s.is_negative ≡ b = same_sign s.is_negative b (ap (λ t. get_or t 0 0) (sym e)) in
    let rest : text ≡ s.spelled.rest = ap (drop 1) e in
    let d = s.spelled.second in
    let least : least_minute b s.hour ≤ s.minute = least_fits b s.hour s.minute (λ p h m.
    n.1 (zero_text b s.hour s.minute text (subst (Digits 2 s.hour ▹ ColonMinute s.minute) (sym rest) d) p h m)) in
    record {
      value = (s.hour, s.minute);
      spelled = subst (HoursAndMinutes b (s.hour, s.minute)) (sym rest) (seq_of (s.hour, s.minute)
          (both_as d (λ t h. (h, (omega arith, s.hour_fits))) (λ t m. rest_as m (λ u e. (e, (least, omega (arith, s.minute_fits)))))));
    }

pub least_small : (b : Bool) (hour : ℕ) → least_minute b hour ≤ 1
least_small true zero = omega arith
least_small true (suc h) = let e : suc h == 0 ≡ false = grind (arith, nat_tests) in rw e (omega arith)
least_small false hour = omega arith

hours_go_on : (b : Bool) → CanGoOn 2 (Two 0 23) (λ hour. TwoAfter 58 (least_minute b hour) 59)
hours_go_on b = record {
  width = (reads_two 0 23).width;
  on = λ h front s. let l = least_small b h in begins_two_after 58 (least_minute b h) 59 (omega arith, omega arith);
}

-- hours and minutes have five bytes
pub width_hours : (b : Bool) (p : ℕ × ℕ) → HasWidth 5 (HoursAndMinutes b p)
width_hours b p = record {
  width = λ text s. omega (
    arith,
    ((reads_two 0 23).width p.0).width s.front s.first,
    ((reads_two_after 58 (least_minute b p.0) 59).width p.1).width s.rest s.second,
    ap length s.whole,
    length-append s.front s.rest,
  );
}

pub hours_first : (b : Bool) (text : List ℕ) (e : Unexpected) → FieldFault 2 (SpellsSome (Two 0 23)) text e
    → FieldFault 5 (SpellsSome (HoursAndMinutes b)) text e
hours_first b text e f = field_first 3 (hours_go_on b) f

pub hours_minute : (b : Bool) (h : ℕ) (text rest : List ℕ) (e : Unexpected) → Front (Two 0 23 h) text rest
    → FieldFault 3 (SpellsSome (TwoAfter 58 (least_minute b h) 59)) rest e
    → FieldFault 5 (SpellsSome (HoursAndMinutes b)) text e
hours_minute b h text rest e p f = field_after (reads_two 0 23) h p f

pub hours_front : (b : Bool) (h m : ℕ) (text rest last : List ℕ) → Front (Two 0 23 h) text rest
    → Front (TwoAfter 58 (least_minute b h) 59 m) rest last → Front (HoursAndMinutes b (h, m)) text last
hours_front b h m text rest last p q = front_then h m p q

-- ---- what follows the first byte, by a profile

-- an offset that means itself
pub itself : {o : Offset} {text : List ℕ} → TimeOffset o text → MeansOffset o text
itself {text = text} h = record { plain = text; stands = inl refl; spelled = h }

-- the offset zero, in numbers
zero_parts : HoursAndMinutes false (0, 0) (codes "00:00")
zero_parts = record {
  front = codes "00";
  rest = codes ":00";
  whole = refl;
  first = (two_zeros, (omega arith, omega arith));
  second = record {
    front = codes ":";
    rest = codes "00";
    whole = refl;
    first = refl;
    second = (two_zeros, (omega arith, omega arith));
  };
}

-- the unknown offset
unknown : MeansOffset (signed_offset true 0 0) (codes "-00:00")
unknown = record {
  plain = codes "+00:00";
  stands = inr (inr (refl, refl));
  spelled = offset_to false (0, 0) (codes "00:00") zero_parts;
}

-- hours and minutes of which nothing is said
any_parts : (b : Bool) (q : ℕ × ℕ) (text : List ℕ) → HoursAndMinutes b q text → HoursAndMinutes false q text
any_parts b q text s = seq_of q (rest_as (parts_of s) (λ t m. rest_as m (λ u d. (d.0, (omega arith, d.1.1)))))

-- hours and minutes that are not both zero
some_parts : (hour minute : ℕ) (text : List ℕ) → HoursAndMinutes false (hour, minute) text → (hour ≡ 0 → minute ≡ 0 → ⊥)
    → HoursAndMinutes true (hour, minute) text
some_parts hour minute text s some =
    seq_of (hour, minute) (rest_as (parts_of s) (λ t m. rest_as m (λ u d. (d.0, (least_fits true hour minute (λ _. some), d.1.1)))))

-- hours and minutes after a minus
minus_to : (hour minute : ℕ) (text : List ℕ) → HoursAndMinutes false (hour, minute) text
    → MeansOffset (signed_offset true hour minute) (45 ∷ text)
minus_to zero zero text s =
    subst (MeansOffset (signed_offset true 0 0)) (sym (zero_text true 0 0 text (shape_of false s) refl refl refl)) unknown
minus_to zero (suc m) text s = itself (offset_to true (0, suc m) text (some_parts 0 (suc m) text s (λ _ e. omega arith)))
minus_to (suc h) m text s = itself (offset_to true (suc h, m) text (some_parts (suc h) m text s (λ e _. omega arith)))

offset_by : (p : Profile) (b : Bool) (q : ℕ × ℕ) (text : List ℕ) → HoursAndMinutes (is_some p b) q text
    → EndOffset p (signed_offset b q.0 q.1) (sign_byte b ∷ text)
offset_by profile.Strict b q text s = offset_to b q text s
offset_by profile.Lenient true q text s = minus_to q.0 q.1 text s
offset_by profile.Lenient false q text s = itself (offset_to false q text s)

small_not_sign : (b : Bool) → 122 ≡ sign_byte b → ⊥
small_not_sign true e = omega arith
small_not_sign false e = omega arith

by_offset : (p : Profile) (b : Bool) (o : Offset) (text : List ℕ) → EndOffset p o (sign_byte b ∷ text)
    → SpellsSome (HoursAndMinutes (is_some p b)) text
by_offset profile.Strict b o text s = to_offset b o text s
by_offset profile.Lenient b o text s = at s.stands where
  at : IsOffsetFor s.plain (sign_byte b ∷ text) → SpellsSome (HoursAndMinutes false) text
  at (inl e) =
      let t = to_offset b o text (subst (TimeOffset o) (sym e) s.spelled) in
      record { value = t.value; spelled = any_parts b t.value text t.spelled }
  at (inr (inl e)) = absurd (small_not_sign b (ap (λ t. get_or t 0 0) (sym e.0)))
  at (inr (inr e)) =
      let rest : text ≡ codes "00:00" = ap (drop 1) e.0 in
      subst (SpellsSome (HoursAndMinutes false)) (sym rest) (record { value = (0, 0); spelled = zero_parts })

-- nothing follows the letter `Z`
z_by : (p : Profile) (b : ℕ) (text : List ℕ) → IsLetter p 90 b → text ≡ [] → EndOffset p utc (b ∷ text)
z_by profile.Strict b text h e = inl (ap₂ (λ (x : ℕ) t. x ∷ t) h e, refl)
z_by profile.Lenient b text (inl h) e = itself (inl (ap₂ (λ (x : ℕ) t. x ∷ t) h e, refl))
z_by profile.Lenient b text (inr h) e = record {
  plain = codes "Z";
  stands = inr (inl (ap₂ (λ (x : ℕ) t. x ∷ t) h e, refl));
  spelled = inl (refl, refl);
}

pub no_small_z : (o : Offset) (b : ℕ) (text : List ℕ) → b ≡ 122 → TimeOffset o (b ∷ text) → ⊥
no_small_z o b text h (inl z) = let k : b ≡ 90 = ap (λ t. get_or t 0 0) z.0 in omega arith
no_small_z o b text h (inr n) = small_not_sign n.0.is_negative (sym h ∙ ap (λ t. get_or t 0 0) (numbers_are n.0))

by_z : (p : Profile) (b : ℕ) (text : List ℕ) → IsLetter p 90 b → RestOfOffset p b text → text ≡ []
by_z profile.Strict b text h s = to_z text (subst (λ (x : ℕ). SpellsSome TimeOffset (x ∷ text)) h s)
by_z profile.Lenient b text h s = at s.spelled.stands where
  capital : IsLetter profile.Lenient 90 b → TimeOffset s.value (b ∷ text) → text ≡ []
  capital (inl k) t =
      to_z text (record { value = s.value; spelled = subst (λ (x : ℕ). TimeOffset s.value (x ∷ text)) k t })
  capital (inr k) t = absurd (no_small_z s.value b text k t)

  not_minus : IsLetter profile.Lenient 90 b → b ≡ 45 → ⊥
  not_minus (inl k) e = omega arith
  not_minus (inr k) e = omega arith

  at : IsOffsetFor s.spelled.plain (b ∷ text) → text ≡ []
  at (inl e) = capital h (subst (TimeOffset s.value) (sym e) s.spelled.spelled)
  at (inr (inl e)) = ap (drop 1) e.0
  at (inr (inr e)) = absurd (not_minus h (ap (λ t. get_or t 0 0) e.0))

as_offset : (p : Profile) (b : Bool) {text : List ℕ} {e : Unexpected} → TextFault (SpellsSome (HoursAndMinutes (is_some p b))) text e
    → TextFault (RestOfOffset p (sign_byte b)) text e
as_offset p b f =
    text_as (λ t s. record { value = _; spelled = offset_by p b s.value t s.spelled })
    (λ t s. by_offset p b s.value t s.spelled) f

pub offset_z_end : (p : Profile) (text : List ℕ) (e : Unexpected) → IsTrailing text e → (b : ℕ) → IsLetter p 90 b
    → TextFault (RestOfOffset p b) text e
offset_z_end p text e t b h =
    text_as (λ x s. record { value = utc; spelled = z_by p b x h s }) (λ x s. by_z p b x h s) (nothing_end text e t)

pub offset_z_is : (p : Profile) (text : List ℕ) → text ≡ [] → (b : ℕ) → IsLetter p 90 b → EndOffset p utc (b ∷ text)
offset_z_is p text e b h = z_by p b text h e

pub offset_field : (p : Profile) (b : Bool) (text : List ℕ) (e : Unexpected)
    → FieldFault 5 (SpellsSome (HoursAndMinutes (is_some p b))) text e → TextFault (RestOfOffset p (sign_byte b)) text e
offset_field p b text e f = as_offset p b (text_of_field (width_hours (is_some p b)) f)

pub offset_end : (p : Profile) (b : Bool) (q : ℕ × ℕ) (text rest : List ℕ) (e : Unexpected)
    → Front (HoursAndMinutes (is_some p b) q) text rest → IsTrailing rest e → TextFault (RestOfOffset p (sign_byte b)) text e
offset_end p b q text rest e h t = as_offset p b (text_end (HoursAndMinutes (is_some p b)) (width_hours (is_some p b)) q h t)

pub offset_is : (p : Profile) (b : Bool) (q : ℕ × ℕ) (text rest : List ℕ) → Front (HoursAndMinutes (is_some p b) q) text rest
    → rest ≡ [] → EndOffset p (signed_offset b q.0 q.1) (sign_byte b ∷ text)
offset_is p b q text rest h e = offset_by p b q text (text_whole h e)

-- an offset goes on after its sign
pub begins_rest : (p : Profile) (b : Bool) → Begins (SpellsSome (EndOffset p)) (sign_byte b ∷ [])
begins_rest p b =
    let h = begins_first (hours_go_on (is_some p b)) (begins_two 0 23 (omega arith, omega arith)) in
    record { more = h.more; whole = record { value = _; spelled = offset_by p b h.whole.value h.more h.whole.spelled } }

-- an offset goes on after the letter `Z`
pub begins_z : (p : Profile) (b : ℕ) → IsLetter p 90 b → Begins (SpellsSome (EndOffset p)) (b ∷ [])
begins_z p b h = record { more = []; whole = record { value = utc; spelled = z_by p b [] h refl } }
