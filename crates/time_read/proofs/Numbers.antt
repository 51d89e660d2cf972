-- Numbers of one, two and four digits as parts of a text.
use Rattle.std.proofs.Common.{◌≡◌, ℕ, ◌+◌, ◌-◌, ◌*◌, ◌/◌, ◌<◌, ◌≤◌, List, [], ◌∷◌, ◌++◌, length, get_or, take, drop}
use Rattle.std.proofs.Common.{refl, sym, ap, ap₂, subst, ◌∙◌, arith, inl}
use Rattle.std.specs.Int.{IsInRange}
use Rattle.std.specs.Char.{digit_value}
use Rattle.std.specs.Str.Parse.{digits_value}
use Rattle.std.proofs.lemmas.List.{take_all}
use Rattle.std.proofs.lemmas.Str.{digit_value_digit}
use Rattle.std.proofs.lemmas.Str.Parse.{digit_from_value}
use Rattle.time_known.specs.Rules.{Rule, Digits, Literal, ◌▹◌}
use Rattle.time_known.proofs.Rules.Texts.{Reads, reads_digits, reads_after, width_literal}
use Rattle.time_read.specs.Fault.{SpellsSome, Begins, IsFirstFault, IsLetter}
use Rattle.time_read.specs.Front.{Front, FieldFault, NoFront}
use Rattle.time_read.specs.Profiles.{TheLetter}
use Rattle.time_read.specs.Shapes.{Seq, TheByte, OneDigit, Two, TwoAfter, TensAndUnits, first_unit, last_unit}
use Rattle.time_read.proofs.Fields.{CanGoOn, begins_first, begins_after, field_as, field_first, field_after, front_as, front_then, one_front}
use Rattle.time_read.proofs.Regroup.{parts_of, seq_of}
use Rattle.time_read.specs.declared.fault.Unexpected.{Unexpected}
use Rattle.time_read.specs.declared.fault.Profile.{Profile}
use Rattle.time_read.specs.declared.fault.Profile.TheVariants as profile
use Rattle.time_read.specs.declared.fault.Expected.TheVariants as expected

-- ---- digits

digit_value_of : (d : ℕ) → d < 10 → digit_value (48 + d) ≡ d
digit_value_of d h = omega (arith, digit_value_digit (48 + d) (omega arith, omega arith))

-- two bytes are two digits of their number
pub two_of : (t u : ℕ) → t < 10 → u < 10 → Digits 2 (10 * t + u) ((48 + t) ∷ (48 + u) ∷ [])
two_of t u h k =
    let a = digit_value_of t h in
    let b = digit_value_of u k in
    record { count = refl; each = (omega arith, (omega arith, tt)); value = omega arith }

-- what two digits are
pub record AreTwo (n : ℕ) (text : List ℕ) : Type 0 where
  pub tens : ℕ
  pub units : ℕ
  pub tens_fit : tens < 10
  pub units_fit : units < 10
  pub is : text ≡ (48 + tens) ∷ (48 + units) ∷ []
  pub value : n ≡ 10 * tens + units

same_byte : (b : ℕ) → IsInRange 48 57 b → b ≡ 48 + (b - 48)
same_byte b h = omega (arith, h.0)

pub two_is : (n : ℕ) (text : List ℕ) → Digits 2 n text → AreTwo n text
two_is n [] d = absurd (omega (arith, d.count))
two_is n (a ∷ []) d = absurd (omega (arith, d.count))
two_is n (a ∷ b ∷ []) d =
    let p = digit_from_value a d.each.0 in
    let q = digit_from_value b d.each.1.0 in
    let v = digit_value_digit a p in
    let w = digit_value_digit b q in
    let e = d.value in
    record {
      tens = a - 48;
      units = b - 48;
      tens_fit = omega (arith, p.1);
      units_fit = omega (arith, q.1);
      is = ap₂ (λ (x y : ℕ). x ∷ y ∷ []) (same_byte a p) (same_byte b q);
      value = omega arith;
    }
two_is n (a ∷ b ∷ c ∷ cs) d = absurd (omega (arith, d.count))

-- ---- one digit

head_is : (a b : ℕ) (text : List ℕ) → text ≡ a ∷ [] → text ≡ b ∷ [] → a ≡ b
head_is a b text e f = ap (λ t. get_or t 0 0) (sym e ∙ f)

pub reads_one : (first last : ℕ) → Reads 1 (OneDigit first last)
reads_one first last = record {
  width = λ n. record { width = λ text d. ap length d.0 };
  same = λ text m n d e. let h = head_is (48 + m) (48 + n) text d.0 e.0 in omega arith;
}

pub begins_one : (first last : ℕ) → first ≤ last → Begins (SpellsSome (OneDigit first last)) []
begins_one first last h =
    record { more = (48 + first) ∷ []; whole = record { value = first; spelled = (refl, (omega arith, h)) } }

pub one_next : (first last b : ℕ) → Begins (SpellsSome (OneDigit first last)) (b ∷ []) → IsInRange (48 + first) (48 + last) b
one_next first last b g =
    let n = g.whole.value in
    let s = g.whole.spelled in
    let h : b ≡ 48 + n = ap (λ t. get_or t 0 0) s.0 in
    (omega (arith, s.1.0), omega (arith, s.1.1))

pub next_one : (first last b : ℕ) → IsInRange (48 + first) (48 + last) b → Begins (SpellsSome (OneDigit first last)) (b ∷ [])
next_one first last b h = record {
  more = [];
  whole = record {
    value = b - 48;
    spelled = (ap (λ (x : ℕ). x ∷ []) (omega (arith, h.0)), (omega (arith, h.0), omega (arith, h.1)));
  };
}

-- ---- two digits

pub reads_two : (least greatest : ℕ) → Reads 2 (Two least greatest)
reads_two least greatest = record {
  width = λ n. record { width = λ text d. d.0.count };
  same = λ text m n d e. (reads_digits 2).same text m n d.0 e.0;
}

tens_to : (least greatest : ℕ) (p : ℕ × ℕ) (text : List ℕ) → greatest < 100 → TensAndUnits least greatest p text
    → Two least greatest (10 * p.0 + p.1) text
tens_to least greatest p text small s =
    let h = s.first.1 in
    let k = s.second.1 in
    let t : p.0 < 10 = omega (arith, h.1) in
    let e : text ≡ (48 + p.0) ∷ (48 + p.1) ∷ [] = s.whole ∙ ap₂ (λ x y. x ++ y) s.first.0 s.second.0 in
    let d = two_of p.0 p.1 t (omega (arith, k.1)) in
    (subst (Digits 2 (10 * p.0 + p.1)) (sym e) d, (omega (arith, k.0), omega (arith, h.1, k.1)))

to_tens : (least greatest n : ℕ) (text : List ℕ) → Two least greatest n text → SpellsSome (TensAndUnits least greatest) text
to_tens least greatest n text s =
    let d = two_is n text s.0 in
    let low = s.1.0 in
    let high = s.1.1 in
    record {
      value = (d.tens, d.units);
      spelled = record {
        front = (48 + d.tens) ∷ [];
        rest = (48 + d.units) ∷ [];
        whole = d.is;
        first = (refl, (omega (arith, d.value, d.units_fit), omega (arith, d.value, d.units_fit)));
        second = (refl, (omega (arith, d.value), omega (arith, d.value, d.units_fit)));
      };
    }

tens_go_on : (least greatest : ℕ) → least ≤ greatest
    → CanGoOn 1 (OneDigit (least / 10) (greatest / 10)) (λ tens. OneDigit (first_unit least tens) (last_unit greatest tens))
tens_go_on least greatest h = record {
  width = (reads_one (least / 10) (greatest / 10)).width;
  on = λ t front d. begins_one _ _ (omega (arith, d.1.0, d.1.1));
}

abbrev IsPair : ℕ → ℕ → Type 0
IsPair least greatest = (least ≤ greatest) × (greatest < 100)

pub two_first : (least greatest : ℕ) (text : List ℕ) (e : Unexpected) → IsPair least greatest
    → FieldFault 1 (SpellsSome (OneDigit (least / 10) (greatest / 10))) text e → FieldFault 2 (SpellsSome (Two least greatest)) text e
two_first least greatest text e h f =
    field_as (λ t s. record { value = _; spelled = tens_to least greatest s.value t h.1 s.spelled })
    (λ t s. to_tens least greatest s.value t s.spelled) (field_first 1 (tens_go_on least greatest h.0) f)

pub two_after : (least greatest tens : ℕ) (text rest : List ℕ) (e : Unexpected) → IsPair least greatest
    → Front (OneDigit (least / 10) (greatest / 10) tens) text rest
    → FieldFault 1 (SpellsSome (OneDigit (first_unit least tens) (last_unit greatest tens))) rest e
    → FieldFault 2 (SpellsSome (Two least greatest)) text e
two_after least greatest tens text rest e h p f =
    field_as (λ t s. record { value = _; spelled = tens_to least greatest s.value t h.1 s.spelled })
    (λ t s. to_tens least greatest s.value t s.spelled)
    (field_after (reads_one (least / 10) (greatest / 10)) tens p f)

pub two_front : (least greatest tens units : ℕ) (text rest last : List ℕ) → greatest < 100
    → Front (OneDigit (least / 10) (greatest / 10) tens) text rest
    → Front (OneDigit (first_unit least tens) (last_unit greatest tens) units) rest last
    → Front (Two least greatest (10 * tens + units)) text last
two_front least greatest tens units text rest last h p q =
    front_as (λ t s. tens_to least greatest (tens, units) t h s) (front_then tens units p q)

pub begins_two : (least greatest : ℕ) → IsPair least greatest → Begins (SpellsSome (Two least greatest)) []
begins_two least greatest h =
    let b = begins_first (tens_go_on least greatest h.0) (begins_one (least / 10) (greatest / 10) (omega (arith, h.0))) in
    record { more = b.more; whole = record { value = _; spelled = tens_to least greatest b.whole.value b.more h.1 b.whole.spelled } }

-- two digits at the front
pub two_at : (text : List ℕ) → 2 ≤ length text → IsInRange 48 57 (get_or text 0 0) → IsInRange 48 57 (get_or text 1 0)
    → Front (Two 0 99 (10 * (get_or text 0 0 - 48) + (get_or text 1 0 - 48))) text (take (length text - 2) (drop 2 text))
two_at [] long h k = absurd (omega arith)
two_at (a ∷ []) long h k = absurd (omega arith)
two_at (a ∷ b ∷ cs) long h k =
    let d : Digits 2 (10 * (a - 48) + (b - 48)) ((48 + (a - 48)) ∷ (48 + (b - 48)) ∷ []) =
    two_of (a - 48) (b - 48) (omega (arith, h.1)) (omega (arith, k.1)) in
    let x : 48 + (a - 48) ≡ a = omega (arith, h.0) in
    let y : 48 + (b - 48) ≡ b = omega (arith, k.0) in
    record {
      front = a ∷ b ∷ [];
      whole = ap (λ t. a ∷ b ∷ t) (sym (take_all (length (a ∷ b ∷ cs) - 2) cs (omega arith)));
      is = (
        subst (λ (z : ℕ). Digits 2 (10 * (a - 48) + (b - 48)) (a ∷ z ∷ [])) y
            (subst (λ (z : ℕ). Digits 2 (10 * (a - 48) + (b - 48)) (z ∷ (48 + (b - 48)) ∷ [])) x d),
        (omega arith, omega (arith, h.1, k.1)),
      );
    }

pub no_two_within : (least greatest : ℕ) (text : List ℕ) → greatest < 100 → NoFront (Two 0 99) text → NoFront (Two least greatest) text
no_two_within least greatest text small none n rest p =
    none n rest (record { front = p.front; whole = p.whole; is = (p.is.0, (omega arith, omega (arith, p.is.1.1))) })

-- a text that begins with another number
pub other_two : (least greatest n : ℕ) (text rest : List ℕ) → Front (Two 0 99 n) text rest → (least ≤ n → ¬ (n ≤ greatest))
    → NoFront (Two least greatest) text
other_two least greatest n text rest p out m last q =
    let r : Front (Digits 2 n) text rest = record { front = p.front; whole = p.whole; is = p.is.0 } in
    let s : Front (Digits 2 m) text last = record { front = q.front; whole = q.whole; is = q.is.0 } in
    let same : n ≡ m = one_front (reads_digits 2) n m r s in
    out (omega (arith, q.is.1.0)) (omega (arith, q.is.1.1))

-- ---- after a byte

pub reads_byte : (b : ℕ) → Reads 1 (TheByte b)
reads_byte b = record { width = λ u. width_literal (b ∷ []); same = λ text u v d e. refl }

abbrev AfterByte : {A : Type 0} → ℕ → (A → Rule) → Unit {0} × A → Rule
AfterByte b P = Seq (TheByte b) (λ u. P)

abbrev After : {A : Type 0} → ℕ → (A → Rule) → A → Rule
After b P a = Literal (b ∷ []) ▹ P a

to_after : {A : Type 0} (P : A → Rule) (b : ℕ) (text : List ℕ) → SpellsSome (AfterByte b P) text
    → SpellsSome (After b P) text
to_after P b text s = record { value = s.value.1; spelled = parts_of s.spelled }

after_to : {A : Type 0} (P : A → Rule) (b : ℕ) (text : List ℕ) → SpellsSome (After b P) text
    → SpellsSome (AfterByte b P) text
after_to P b text s = record { value = (tt, s.value); spelled = seq_of (tt, s.value) s.spelled }

byte_goes_on : {A : Type 0} (P : A → Rule) (b : ℕ) → Begins (SpellsSome P) [] → CanGoOn 1 (TheByte b) (λ u. P)
byte_goes_on P b h = record { width = (reads_byte b).width; on = λ u front p. h }

byte_front : (b : ℕ) (text rest : List ℕ) → text ≡ b ∷ rest → Front (TheByte b tt) text rest
byte_front b text rest e = record { front = b ∷ []; whole = e; is = refl }

pub begins_byte : {A : Type 0} (P : A → Rule) (b : ℕ) → Begins (SpellsSome P) [] → Begins (SpellsSome (After b P)) []
begins_byte P b h =
    let g = begins_after {P = TheByte b} {Q = λ u. P} tt (b ∷ []) [] refl h in
    record { more = b ∷ g.more; whole = to_after P b (b ∷ g.more) g.whole }

pub byte_then_first : {A : Type 0} (k : ℕ) (P : A → Rule) (b : ℕ) {text : List ℕ} {e : Unexpected} → Begins (SpellsSome P) []
    → FieldFault 1 (SpellsSome (TheByte b)) text e → FieldFault (1 + k) (SpellsSome (After b P)) text e
byte_then_first k P b h f = field_as (to_after P b) (after_to P b) (field_first k (byte_goes_on P b h) f)

pub byte_then_after : {A : Type 0} {k : ℕ} (P : A → Rule) (b : ℕ) {text rest : List ℕ} {e : Unexpected} → text ≡ b ∷ rest
    → FieldFault k (SpellsSome P) rest e → FieldFault (1 + k) (SpellsSome (After b P)) text e
byte_then_after P b {text} {rest} h f =
    field_as (to_after P b) (after_to P b) (field_after (reads_byte b) tt (byte_front b text rest h) f)

pub front_byte : {P : Rule} (b : ℕ) {text rest last : List ℕ} → text ≡ b ∷ rest → Front P rest last
    → Front (Literal (b ∷ []) ▹ P) text last
front_byte b h p = record {
  front = b ∷ p.front;
  whole = h ∙ ap (λ t. b ∷ t) p.whole;
  is = record { front = b ∷ []; rest = p.front; whole = refl; first = refl; second = p.is };
}

-- ---- a letter

pub reads_letter : (p : Profile) (l : ℕ) → Reads 1 (TheLetter p l)
reads_letter p l =
    record { width = λ u. record { width = λ text t. ap length t.whole }; same = λ text u v d e. refl }

letter_itself : (p : Profile) (l : ℕ) → IsLetter p l l
letter_itself profile.Strict l = refl
letter_itself profile.Lenient l = inl refl

pub letter_at : (p : Profile) (l : ℕ) (text : List ℕ) → 1 ≤ length text → IsLetter p l (get_or text 0 0)
    → Front (TheLetter p l tt) text (take (length text - 1) (drop 1 text))
letter_at p l [] some h = absurd (omega arith)
letter_at p l (b ∷ bs) some h = record {
  front = b ∷ [];
  whole = ap (λ t. b ∷ t) (sym (take_all (length (b ∷ bs) - 1) bs (omega arith)));
  is = record { byte = b; whole = refl; is = h };
}

pub begins_letter : (p : Profile) (l : ℕ) → Begins (SpellsSome (TheLetter p l)) []
begins_letter p l = record {
  more = l ∷ [];
  whole = record { value = tt; spelled = record { byte = l; whole = refl; is = letter_itself p l } };
}

-- the letter is not there
pub letter_fault : (p : Profile) (l : ℕ) (text : List ℕ) (e : Unexpected) → e.expected ≡ expected.Letter l p
    → length text ≡ e.left → ((b : ℕ) (after : List ℕ) → text ≡ b ∷ after → ¬ IsLetter p l b)
    → FieldFault 1 (SpellsSome (TheLetter p l)) text e
letter_fault p l text e same left none = record {
  right = [];
  rest = text;
  whole = refl;
  left = left;
  short = omega arith;
  first = subst (IsFirstFault (SpellsSome (TheLetter p l)) [] text) (sym same) (record {
    begins = begins_letter p l;
    expected = λ b. (
      λ g. subst (IsLetter p l) (ap (λ t. get_or t 0 0) (sym g.whole.spelled.whole)) g.whole.spelled.is,
      λ h. record { more = []; whole = record { value = tt; spelled = record { byte = b; whole = refl; is = h } } },
    );
    found = none;
  });
}

-- no digit from the first to the last is there
pub digit_fault : (first last : ℕ) (text : List ℕ) (e : Unexpected) → first ≤ last → e.expected ≡ expected.Digit first last
    → length text ≡ e.left → ((b : ℕ) (after : List ℕ) → text ≡ b ∷ after → ¬ IsInRange (48 + first) (48 + last) b)
    → FieldFault 1 (SpellsSome (OneDigit first last)) text e
digit_fault first last text e h same left none = record {
  right = [];
  rest = text;
  whole = refl;
  left = left;
  short = omega arith;
  first = subst (IsFirstFault (SpellsSome (OneDigit first last)) [] text) (sym same) (record {
    begins = begins_one first last h;
    expected = λ b. (one_next first last b, next_one first last b);
    found = none;
  });
}

-- ---- two digits after a byte

pub reads_two_after : (b least greatest : ℕ) → Reads 3 (TwoAfter b least greatest)
reads_two_after b least greatest = reads_after (b ∷ []) (reads_two least greatest)

pub begins_two_after : (b least greatest : ℕ) → IsPair least greatest → Begins (SpellsSome (TwoAfter b least greatest)) []
begins_two_after b least greatest h = begins_byte (Two least greatest) b (begins_two least greatest h)

two_behind : (b least greatest n : ℕ) {text rest : List ℕ} (p : Front (TwoAfter b least greatest n) text rest)
    → text ≡ b ∷ (p.is.rest ++ rest)
two_behind b least greatest n {text} {rest} p =
    p.whole ∙ ap (λ t. t ++ rest) (p.is.whole ∙ ap (λ t. t ++ p.is.rest) p.is.first)

-- the number is not there behind the byte
pub no_two_after : (b least greatest : ℕ) (text rest : List ℕ) → text ≡ b ∷ rest → NoFront (Two least greatest) rest
    → NoFront (TwoAfter b least greatest) text
no_two_after b least greatest text rest e none n last p =
    none n last (record {
      front = p.is.rest;
      whole = ap (drop 1) (sym e ∙ two_behind b least greatest n p);
      is = p.is.second;
    })

-- what follows the byte does not begin with the number
pub no_two_behind : (b least greatest : ℕ) (text rest : List ℕ) → NoFront (TwoAfter b least greatest) text → text ≡ b ∷ rest
    → NoFront (Two least greatest) rest
no_two_behind b least greatest text rest none e n last p = none n last (front_byte b e p)

-- ---- four digits

abbrev pub TwoTwos : ℕ × ℕ → Rule
TwoTwos = Seq (Two 0 99) (λ _. Two 0 99)

four_of : (a b c d : ℕ) → a < 10 → b < 10 → c < 10 → d < 10
    → Digits 4 (100 * (10 * a + b) + (10 * c + d)) ((48 + a) ∷ (48 + b) ∷ (48 + c) ∷ (48 + d) ∷ [])
four_of a b c d h i j k =
    let p = digit_value_of a h in
    let q = digit_value_of b i in
    let r = digit_value_of c j in
    let s = digit_value_of d k in
    record { count = refl; each = (omega arith, (omega arith, (omega arith, (omega arith, tt)))); value = omega arith }

pub to_four : (p : ℕ × ℕ) (text : List ℕ) → TwoTwos p text → Digits 4 (100 * p.0 + p.1) text
to_four p text s =
    let d = two_is p.0 s.front s.first.0 in
    let e = two_is p.1 s.rest s.second.0 in
    let whole = s.whole ∙ ap₂ (λ x y. x ++ y) d.is e.is in
    let n : 100 * (10 * d.tens + d.units) + (10 * e.tens + e.units) ≡ 100 * p.0 + p.1 = omega (arith, d.value, e.value) in
    subst (λ m. Digits 4 m text) n (subst (Digits 4 _) (sym whole)
    (four_of d.tens d.units e.tens e.units d.tens_fit d.units_fit e.tens_fit e.units_fit))

pub four_to : (n : ℕ) (text : List ℕ) → Digits 4 n text → SpellsSome TwoTwos text
four_to n [] d = absurd (omega (arith, d.count))
four_to n (a ∷ []) d = absurd (omega (arith, d.count))
four_to n (a ∷ b ∷ []) d = absurd (omega (arith, d.count))
four_to n (a ∷ b ∷ c ∷ []) d = absurd (omega (arith, d.count))
four_to n (a ∷ b ∷ c ∷ x ∷ []) d =
    let p = digits_two a b d.each.0 d.each.1.0 in
    let q = digits_two c x d.each.1.1.0 d.each.1.1.1.0 in
    record {
      value = (p.0, q.0);
      spelled = record { front = a ∷ b ∷ []; rest = c ∷ x ∷ []; whole = refl; first = p.1; second = q.1 };
    } where
      digits_two : (u v : ℕ) → digit_value u < 10 → digit_value v < 10 → (m : ℕ) × Two 0 99 m (u ∷ v ∷ [])
      digits_two u v h k =
          let d : Digits 2 (digits_value 10 (u ∷ v ∷ [])) (u ∷ v ∷ []) = record { count = refl; each = (h, (k, tt)); value = refl } in
          let t = two_is _ (u ∷ v ∷ []) d in
          (digits_value 10 (u ∷ v ∷ []), (d, (omega arith, omega (arith, t.value, t.tens_fit, t.units_fit))))
four_to n (a ∷ b ∷ c ∷ x ∷ y ∷ ys) d = absurd (omega (arith, d.count))

four_goes_on : CanGoOn 2 (Two 0 99) (λ _. Two 0 99)
four_goes_on = record { width = (reads_two 0 99).width; on = λ n front d. begins_two 0 99 (omega arith, omega arith) }

pub four_first : (text : List ℕ) (e : Unexpected) → FieldFault 2 (SpellsSome (Two 0 99)) text e
    → FieldFault 4 (SpellsSome (Digits 4)) text e
four_first text e f =
    field_as (λ t s. record { value = _; spelled = to_four s.value t s.spelled }) (λ t s. four_to s.value t s.spelled)
    (field_first 2 four_goes_on f)

pub four_after : (n : ℕ) (text rest : List ℕ) (e : Unexpected) → Front (Two 0 99 n) text rest
    → FieldFault 2 (SpellsSome (Two 0 99)) rest e → FieldFault 4 (SpellsSome (Digits 4)) text e
four_after n text rest e p f =
    field_as (λ t s. record { value = _; spelled = to_four s.value t s.spelled }) (λ t s. four_to s.value t s.spelled)
    (field_after {Q = λ _. Two 0 99} (reads_two 0 99) n p f)

pub four_front : (m n : ℕ) (text rest last : List ℕ) → Front (Two 0 99 m) text rest → Front (Two 0 99 n) rest last
    → Front (Digits 4 (100 * m + n)) text last
four_front m n text rest last p q = front_as (λ t s. to_four (m, n) t s) (front_then {Q = λ _. Two 0 99} m n p q)
