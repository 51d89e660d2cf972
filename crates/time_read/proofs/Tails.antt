-- A fraction, if any, and an offset at the end of a text.
use Rattle.std.proofs.Common.{◌≡◌, ◌≢◌, ℕ, zero, suc, ◌-◌, ◌<◌, ◌≤◌, List, [], ◌∷◌, ◌++◌, ◌+◌, length, length-append, get_or, drop, replicate}
use Rattle.std.proofs.Common.{refl, sym, ap, ap₂, subst, ◌∙◌, arith, ◌⊎◌, inl, inr, ⊎_elim, Bool, true, false, append_assoc, take}
use Rattle.std.specs.Int.{IsInRange}
use Rattle.std.specs.Char.{digit_value}
use Rattle.std.specs.Prelude.{◌↔◌}
use Rattle.std.specs.Str.Parse.{AllDigits, digits_value}
use Rattle.std.proofs.lemmas.Bool.{cases_lt}
use Rattle.std.proofs.lemmas.List.{append-nil, length-replicate, length-take-le, take-append-drop}
use Rattle.std.proofs.lemmas.Str.{digit_value_digit}
use Rattle.std.proofs.lemmas.Str.Parse.{digit_from_value}
use Rattle.std.proofs.lemmas.Int.Digits.{digits_push}
use Rattle.time_digits.proofs.FractionEndLemmas.{IsAfterFraction, digits_front, digits_end}
use Rattle.time_known.specs.Rfc3339Grammar.{TimeOffset, TimeSecfrac, OptionalSecfrac}
use Rattle.time_known.specs.Values.{Offset}
use Rattle.time_read.specs.Fault.{Allows, BeginsOffset, IsLetter, SpellsSome, Begins, IsFirstFault}
use Rattle.time_read.specs.Front.{Front, TextFault}
use Rattle.time_read.specs.Lenient.{MeansSecfrac, IsOffsetFor}
use Rattle.time_read.specs.Profiles.{Secfrac, EndOffset, Tail, RestOfOffset, TheLetter}
use Rattle.time_read.specs.Shapes.{sign_byte, AtFraction, after_fraction}
use Rattle.time_read.specs.declared.fault.Expected.{Expected}
use Rattle.time_read.specs.declared.fault.Expected.TheVariants as expected
use Rattle.time_read.specs.declared.fault.Unexpected.{Unexpected}
use Rattle.time_read.proofs.Fields.{longer}
use Rattle.time_read.specs.declared.fault.Profile.{Profile}
use Rattle.time_read.specs.declared.fault.Profile.TheVariants as profile
use Rattle.time_read.proofs.OffsetEnds.{numbers_are, begins_rest, begins_z}

-- ---- digits

digits_back : (a b : List ℕ) → AllDigits 10 (a ++ b) → AllDigits 10 b
digits_back [] b h = h
digits_back (c ∷ cs) b h = digits_back cs b h.1

pub digits_join : (a b : List ℕ) → AllDigits 10 a → AllDigits 10 b → AllDigits 10 (a ++ b)
digits_join [] b h k = k
digits_join (c ∷ cs) b h k = (h.0, digits_join cs b h.1 k)

pub zeros_are_digits : (n : ℕ) → AllDigits 10 (replicate n 48)
zeros_are_digits zero = tt
zeros_are_digits (suc n) = (omega arith, zeros_are_digits n)

digit_is : (b : ℕ) → IsInRange 48 57 b → digit_value b < 10
digit_is b h = omega (arith, digit_value_digit b h)

-- digits at the front of a text of digits and something else are among these digits
digits_within : (a x f y : List ℕ) → AllDigits 10 a → IsAfterFraction y → a ++ x ≡ f ++ y
    → (m : List ℕ) × (f ≡ a ++ m) × (x ≡ m ++ y)
digits_within [] x f y h k e = (f, refl, e)
digits_within (c ∷ cs) x [] y h k e =
    let same : c ≡ k.first = ap (λ s. get_or s 0 0) (e ∙ k.is) in
    let d = digit_from_value c h.0 in
    absurd (k.no_digit (omega (arith, d.0), omega (arith, d.1)))
digits_within (c ∷ cs) x (d ∷ ds) y h k e =
    let first : c ≡ d = cc in
    let rest : cs ++ x ≡ ds ++ y = cc in
    let r = digits_within cs x ds y h.1 k rest in
    (r.0, ap₂ (λ b bs. b ∷ bs) (sym first) r.1, r.2)

-- one to nine digits are a fraction
pub fraction_of : (ds : List ℕ) → AllDigits 10 ds → IsInRange 1 9 (length ds)
    → TimeSecfrac (digits_value 10 (ds ++ replicate (9 - length ds) 48)) (46 ∷ ds)
fraction_of ds h k = record {
  digits = ds;
  whole = refl;
  count = k;
  filled = record {
    count = omega (arith, length-append ds (replicate (9 - length ds) 48), length-replicate {A = ℕ} (9 - length ds) 48, k.1);
    each = digits_join ds (replicate (9 - length ds) 48) h (zeros_are_digits (9 - length ds));
    value = refl;
  };
}

fraction_digits : {n : ℕ} {text : List ℕ} (f : TimeSecfrac n text) → AllDigits 10 f.digits
fraction_digits f = digits_front f.digits (replicate (9 - length f.digits) 48) f.filled.each

-- ---- fractions by a profile

-- so many digits are a fraction
abbrev pub Fits : Profile → ℕ → Type 0
Fits profile.Strict count = count ≤ 9
Fits profile.Lenient count = 1 ≤ count

pub record AreDecimals (p : Profile) (text : List ℕ) : Type 0 where
  pub digits : List ℕ
  pub whole : text ≡ 46 ∷ digits
  pub each : AllDigits 10 digits
  pub some : 1 ≤ length digits
  pub most : Fits p (length digits)

cut_decimals : (text plain more : List ℕ) {n : ℕ} → text ≡ plain ++ more → AllDigits 10 more → (more ≡ []) ⊎ (length plain ≡ 10)
    → OptionalSecfrac n plain → (text ≡ []) ⊎ AreDecimals profile.Lenient text
cut_decimals text plain more e h (inl none) (inl f) = inl (e ∙ ap₂ (λ x y. x ++ y) f.0 none)
cut_decimals text plain more e h (inr full) (inl f) = absurd (omega (arith, ap length f.0))
cut_decimals text plain more e h k (inr f) =
    let long = length-append f.digits more in
    inr (record {
      digits = f.digits ++ more;
      whole = e ∙ ap (λ t. t ++ more) f.whole;
      each = digits_join f.digits more (fraction_digits f) h;
      some = omega (arith, f.count.0);
      most = omega (arith, f.count.0);
    })

pub decimals_of : (p : Profile) (n : ℕ) (text : List ℕ) → Secfrac p n text → (text ≡ []) ⊎ AreDecimals p text
decimals_of profile.Strict n text (inl none) = inl none.0
decimals_of profile.Strict n text (inr f) =
    inr (record { digits = f.digits; whole = f.whole; each = fraction_digits f; some = f.count.0; most = f.count.1 })
decimals_of profile.Lenient n text f =
    cut_decimals text f.plain f.cut.more f.cut.whole f.cut.digits f.cut.full f.spelled

-- no fraction
pub no_secfrac : (p : Profile) → Secfrac p 0 []
no_secfrac profile.Strict = inl (refl, refl)
no_secfrac profile.Lenient = record {
  plain = [];
  cut = record { more = []; whole = refl; digits = tt; full = inl refl };
  spelled = inl (refl, refl);
}

-- the digits of a fraction, and those that are cut
pub cut_secfrac : (n : ℕ) (ds more : List ℕ) → TimeSecfrac n (46 ∷ ds) → AllDigits 10 more → (more ≡ []) ⊎ (length ds ≡ 9)
    → MeansSecfrac n (46 ∷ (ds ++ more))
cut_secfrac n ds more f h k = record {
  plain = 46 ∷ ds;
  cut = record {
    more = more;
    whole = refl;
    digits = h;
    full = ⊎_elim (λ (e : more ≡ []). inl e) (λ (e : length ds ≡ 9). inr (omega arith)) k;
  };
  spelled = inr f;
}

few_or_many : (ds : List ℕ) → AllDigits 10 ds → 1 ≤ length ds → (length ds ≤ 9) ⊎ (9 ≤ length ds)
    → SpellsSome MeansSecfrac (46 ∷ ds)
few_or_many ds h k (inl few) =
    let f = fraction_of ds h (k, few) in
    let n = digits_value 10 (ds ++ replicate (9 - length ds) 48) in
    record { value = n; spelled = subst (λ t. MeansSecfrac n (46 ∷ t)) (append-nil ds) (cut_secfrac n ds [] f tt (inl refl)) }
few_or_many ds h k (inr many) =
    let e : take 9 ds ++ drop 9 ds ≡ ds = take-append-drop 9 ds in
    let both : AllDigits 10 (take 9 ds ++ drop 9 ds) = subst (AllDigits 10) (sym e) h in
    let nine : length (take 9 ds) ≡ 9 = length-take-le 9 ds many in
    let f = fraction_of (take 9 ds) (digits_front (take 9 ds) (drop 9 ds) both) (omega arith, omega arith) in
    let n = digits_value 10 (take 9 ds ++ replicate (9 - length (take 9 ds)) 48) in
    record {
      value = n;
      spelled = subst (λ t. MeansSecfrac n (46 ∷ t)) e
          (cut_secfrac n (take 9 ds) (drop 9 ds) f (digits_back (take 9 ds) (drop 9 ds) both) (inr nine));
    }

-- digits are a fraction
pub secfrac_of : (p : Profile) (ds : List ℕ) → AllDigits 10 ds → 1 ≤ length ds → Fits p (length ds) → SpellsSome (Secfrac p) (46 ∷ ds)
secfrac_of profile.Strict ds h some most = record { value = _; spelled = inr (fraction_of ds h (some, most)) }
secfrac_of profile.Lenient ds h some most = few_or_many ds h some (at (cases_lt 9 (length ds))) where
  at : (9 < length ds) ⊎ (length ds ≤ 9) → (length ds ≤ 9) ⊎ (9 ≤ length ds)
  at (inl many) = inr (omega arith)
  at (inr few) = inl few

-- ---- where an offset begins

pub record Leads (p : Profile) (text : List ℕ) : Type 0 where
  pub first : ℕ
  pub rest : List ℕ
  pub is : text ≡ first ∷ rest
  pub begins : BeginsOffset p first

pub sign_begins : (p : Profile) (b : Bool) → BeginsOffset p (sign_byte b)
sign_begins p true = inr (inr refl)
sign_begins p false = inr (inl refl)

capital_z : (p : Profile) → IsLetter p 90 90
capital_z profile.Strict = refl
capital_z profile.Lenient = inl refl

plain_leads : (p : Profile) (o : Offset) (text : List ℕ) → TimeOffset o text → Leads p text
plain_leads p o text (inl z) = record { first = 90; rest = []; is = z.0; begins = inl (capital_z p) }
plain_leads p o text (inr n) = record {
  first = sign_byte n.0.is_negative;
  rest = n.0.spelled.rest;
  is = numbers_are n.0;
  begins = sign_begins p n.0.is_negative;
}

pub offset_leads : (p : Profile) (o : Offset) (text : List ℕ) → EndOffset p o text → Leads p text
offset_leads profile.Strict o text h = plain_leads profile.Strict o text h
offset_leads profile.Lenient o text h = at h.stands where
  at : IsOffsetFor h.plain text → Leads profile.Lenient text
  at (inl e) = plain_leads profile.Lenient o text (subst (TimeOffset o) (sym e) h.spelled)
  at (inr (inl e)) = record { first = 122; rest = []; is = e.0; begins = inl (inr refl) }
  at (inr (inr e)) = record { first = 45; rest = _; is = e.0; begins = inr (inr refl) }

letter_is : (p : Profile) (b : ℕ) → IsLetter p 90 b → (b ≡ 90) ⊎ (b ≡ 122)
letter_is profile.Strict b h = inl h
letter_is profile.Lenient b h = h

lead_is : (p : Profile) (b : ℕ) → BeginsOffset p b → ((b ≡ 90) ⊎ (b ≡ 122)) ⊎ ((b ≡ 43) ⊎ (b ≡ 45))
lead_is p b (inl h) = inl (letter_is p b h)
lead_is p b (inr h) = inr h

lead_none_of : (b : ℕ) → ((b ≡ 90) ⊎ (b ≡ 122)) ⊎ ((b ≡ 43) ⊎ (b ≡ 45)) → (¬ IsInRange 48 57 b) × (b ≢ 46)
lead_none_of b (inl (inl e)) = (λ d. omega (arith, d.1), λ p. omega arith)
lead_none_of b (inl (inr e)) = (λ d. omega (arith, d.1), λ p. omega arith)
lead_none_of b (inr (inl e)) = (λ d. omega (arith, d.0), λ p. omega arith)
lead_none_of b (inr (inr e)) = (λ d. omega (arith, d.0), λ p. omega arith)

lead_not_point : (p : Profile) (first : ℕ) → BeginsOffset p first → 46 ≡ first → ⊥
lead_not_point p first h e = (lead_none_of first (lead_is p first h)).1 (sym e)

pub after_lead : (p : Profile) (first : ℕ) (rest : List ℕ) → BeginsOffset p first → IsAfterFraction (first ∷ rest)
after_lead p first rest h =
    let n = lead_none_of first (lead_is p first h) in
    record { first = first; rest = rest; is = refl; no_digit = n.0; no_point = n.1 }

after_offset : (p : Profile) (o : Offset) (text : List ℕ) → EndOffset p o text → (more : List ℕ) → IsAfterFraction (text ++ more)
after_offset p o text h more =
    let l = offset_leads p o text h in
    subst IsAfterFraction (sym (ap (λ t. t ++ more) l.is)) (after_lead p l.first (l.rest ++ more) l.begins)

pub after_offset_alone : (p : Profile) (o : Offset) (text : List ℕ) → EndOffset p o text → IsAfterFraction text
after_offset_alone p o text h = subst IsAfterFraction (append-nil text) (after_offset p o text h [])

-- an offset goes on after each first byte
lead_more : (p : Profile) (b : ℕ) → BeginsOffset p b → Begins (SpellsSome (EndOffset p)) (b ∷ [])
lead_more p b (inl h) = begins_z p b h
lead_more p b (inr (inl e)) = subst (λ x. Begins (SpellsSome (EndOffset p)) (x ∷ [])) (sym e) (begins_rest p false)
lead_more p b (inr (inr e)) = subst (λ x. Begins (SpellsSome (EndOffset p)) (x ∷ [])) (sym e) (begins_rest p true)

-- a text that goes on after an optional fraction has one optional fraction
pub same_front : (p : Profile) (m n : ℕ) (f g x y : List ℕ) → Secfrac p m f → Secfrac p n g → IsAfterFraction x → IsAfterFraction y
    → f ++ x ≡ g ++ y → f ≡ g
same_front p m n f g x y s t h k e = at (decimals_of p m f s) (decimals_of p n g t) where
  point : (a u v w : List ℕ) → u ≡ [] → AreDecimals p a → IsAfterFraction v → u ++ v ≡ a ++ w → ⊥
  point a u v w none d l q =
      l.no_point (ap (λ t. get_or t 0 0) (sym l.is ∙ sym (ap (λ t. t ++ v) none) ∙ q ∙ ap (λ t. t ++ w) d.whole))

  at : (f ≡ []) ⊎ AreDecimals p f → (g ≡ []) ⊎ AreDecimals p g → f ≡ g
  at (inl a) (inl b) = a ∙ sym b
  at (inl a) (inr d) = absurd (point g f x y a d h e)
  at (inr c) (inl b) = absurd (point f g y x b c k (sym e))
  at (inr c) (inr d) =
      let whole : c.digits ++ x ≡ d.digits ++ y = ap (drop 1) (sym (ap (λ t. t ++ x) c.whole) ∙ e ∙ ap (λ t. t ++ y) d.whole) in
      c.whole ∙ ap (λ t. 46 ∷ t) (digits_end c.digits d.digits x y c.each d.each h k whole) ∙ sym d.whole

-- ---- what may follow a fraction

-- the text goes on with an offset
on_by_offset : (p : Profile) (n : ℕ) (front : List ℕ) (b : ℕ) → Secfrac p n front → BeginsOffset p b
    → Begins (SpellsSome (Tail p)) (front ++ b ∷ [])
on_by_offset p n front b f h =
    let l = lead_more p b h in
    record {
      more = l.more;
      whole = record {
        value = (n, l.whole.value);
        spelled = record {
          front = front;
          rest = b ∷ l.more;
          whole = append_assoc front (b ∷ []) l.more;
          first = f;
          second = l.whole.spelled;
        };
      };
    }

begins_tail : (p : Profile) (n : ℕ) (front : List ℕ) → Secfrac p n front → Begins (SpellsSome (Tail p)) front
begins_tail p n front f =
    let b = on_by_offset p n front 90 f (inl (capital_z p)) in
    record { more = 90 ∷ b.more; whole = subst (SpellsSome (Tail p)) (append_assoc front (90 ∷ []) b.more) b.whole }

some_digit : (p : Profile) (b : ℕ) → IsInRange 48 57 b → SpellsSome (Secfrac p) (46 ∷ b ∷ [])
some_digit profile.Strict b h = secfrac_of profile.Strict (b ∷ []) (digit_is b h, tt) (omega arith) (omega arith)
some_digit profile.Lenient b h = secfrac_of profile.Lenient (b ∷ []) (digit_is b h, tt) (omega arith) (omega arith)

-- no fraction
pub opens_at_once : (p : Profile) (b : ℕ) → Begins (SpellsSome (Tail p)) (b ∷ []) ↔ Allows (expected.PointOrOffset p) b
opens_at_once p b = (
  λ g. next g.more g.whole.spelled.front g.whole.spelled.rest g.whole.value.1 g.whole.spelled.whole (decimals_of p _ _ g.whole.spelled.first)
      g.whole.spelled.second,
  λ a. on a,
) where
  next : (more front rest : List ℕ) (o : Offset) → b ∷ more ≡ front ++ rest → (front ≡ []) ⊎ AreDecimals p front
      → EndOffset p o rest → (b ≡ 46) ⊎ BeginsOffset p b
  next more front rest v e (inl none) o =
      let l = offset_leads p _ rest o in
      let h : b ≡ l.first = ap (λ s. get_or s 0 0) (e ∙ ap (λ t. t ++ rest) none ∙ l.is) in
      inr (subst (BeginsOffset p) (sym h) l.begins)
  next more front rest v e (inr some) o = inl (ap (λ s. get_or s 0 0) (e ∙ ap (λ t. t ++ rest) some.whole))

  on : (b ≡ 46) ⊎ BeginsOffset p b → Begins (SpellsSome (Tail p)) (b ∷ [])
  on (inl e) =
      let s = some_digit p 48 (omega arith, omega arith) in
      let g = begins_tail p s.value (46 ∷ 48 ∷ []) s.spelled in
      subst (λ x. Begins (SpellsSome (Tail p)) (x ∷ [])) (sym e) (record { more = 48 ∷ g.more; whole = g.whole })
  on (inr h) = on_by_offset p 0 [] b (no_secfrac p) h

-- what follows digits of a fraction
abbrev FollowsDigits : Profile → List ℕ → ℕ → Type 0
FollowsDigits p ds b = BeginsOffset p b ⊎ (IsInRange 48 57 b × Fits p (length ds + 1))

fewer_fit : (p : Profile) (j k : ℕ) → 1 ≤ j → j ≤ k → Fits p k → Fits p j
fewer_fit profile.Strict j k some less h = omega arith
fewer_fit profile.Lenient j k some less h = some

-- a text of a tail that begins with a point and digits
after_digits : (p : Profile) (ds : List ℕ) (b : ℕ) (more front rest : List ℕ) (o : Offset) → AllDigits 10 ds
    → 46 ∷ (ds ++ (b ∷ more)) ≡ front ++ rest → (front ≡ []) ⊎ AreDecimals p front → EndOffset p o rest → FollowsDigits p ds b
after_digits p ds b more front rest v h e (inl none) o =
    let l = offset_leads p _ rest o in
    let q : 46 ≡ l.first = ap (λ s. get_or s 0 0) (e ∙ ap (λ t. t ++ rest) none ∙ l.is) in
    absurd (lead_not_point p l.first l.begins q)
after_digits p ds b more front rest v h e (inr some) o =
    let whole : ds ++ (b ∷ more) ≡ some.digits ++ rest = ap (drop 1) (e ∙ ap (λ t. t ++ rest) some.whole) in
    let within = digits_within ds (b ∷ more) some.digits rest h (after_offset_alone p v rest o) whole in
    at within.0 within.1 within.2 where
      at : (m : List ℕ) → some.digits ≡ ds ++ m → b ∷ more ≡ m ++ rest → FollowsDigits p ds b
      at [] q r =
          let l = offset_leads p _ rest o in
          let k : b ≡ l.first = ap (λ s. get_or s 0 0) (r ∙ l.is) in
          inl (subst (BeginsOffset p) (sym k) l.begins)
      at (c ∷ cs) q r =
          let k : b ≡ c = ap (λ s. get_or s 0 0) r in
          let d = digits_back ds (c ∷ cs) (subst (AllDigits 10) q some.each) in
          let long = length-append ds (c ∷ cs) in
          let same = ap length q in
          inr (
            subst (IsInRange 48 57) (sym k) (digit_from_value c d.0),
            fewer_fit p (length ds + 1) (length some.digits) (omega arith) (omega arith) some.most,
          )

digit_more : (p : Profile) (ds : List ℕ) (b : ℕ) → AllDigits 10 ds → IsInRange 48 57 b → Fits p (length ds + 1)
    → Begins (SpellsSome (Tail p)) ((46 ∷ ds) ++ b ∷ [])
digit_more p ds b h k short =
    let long : length ds + 1 ≡ length (ds ++ b ∷ []) = sym (length-append ds (b ∷ [])) in
    let s = secfrac_of p (ds ++ b ∷ []) (digits_push 10 ds b h (digit_is b k)) (omega arith) (subst (Fits p) long short) in
    begins_tail p s.value (46 ∷ (ds ++ b ∷ [])) s.spelled

opens_digits : (p : Profile) (ds : List ℕ) (b : ℕ) → AllDigits 10 ds → 1 ≤ length ds → Fits p (length ds)
    → Begins (SpellsSome (Tail p)) ((46 ∷ ds) ++ b ∷ []) ↔ FollowsDigits p ds b
opens_digits p ds b h some k = (
  λ g. after_digits p ds b g.more g.whole.spelled.front g.whole.spelled.rest g.whole.value.1 h
      (ap (λ t. 46 ∷ t) (sym (append_assoc ds (b ∷ []) g.more)) ∙ g.whole.spelled.whole) (decimals_of p _ _ g.whole.spelled.first)
      g.whole.spelled.second,
  λ a. on a,
) where
  on : FollowsDigits p ds b → Begins (SpellsSome (Tail p)) ((46 ∷ ds) ++ b ∷ [])
  on (inl l) = let s = secfrac_of p ds h some k in on_by_offset p s.value (46 ∷ ds) b s.spelled l
  on (inr d) = digit_more p ds b h d.0 d.1

pub opens_in_fraction : (p : Profile) (ds : List ℕ) (b : ℕ) → AllDigits 10 ds → 1 ≤ length ds → Fits p (length ds + 1)
    → Begins (SpellsSome (Tail p)) ((46 ∷ ds) ++ b ∷ []) ↔ Allows (expected.DigitOrOffset p) b
opens_in_fraction p ds b h some k =
    let o = opens_digits p ds b h some (fewer_fit p (length ds) (length ds + 1) some (omega arith) k) in (
      λ g. ⊎_elim (λ (l : BeginsOffset p b). inr l) (λ (d : IsInRange 48 57 b × Fits p (length ds + 1)). inl d.0) (o.0 g),
      λ a. o.1 (⊎_elim (λ (d : IsInRange 48 57 b). inr (d, k)) (λ (l : BeginsOffset p b). inl l) a),
    )

pub opens_after_fraction : (ds : List ℕ) (b : ℕ) → AllDigits 10 ds → length ds ≡ 9
    → Begins (SpellsSome (Tail profile.Strict)) ((46 ∷ ds) ++ b ∷ []) ↔ Allows (expected.Offset profile.Strict) b
opens_after_fraction ds b h k =
    let o = opens_digits profile.Strict ds b h (omega arith) (omega arith) in (
      λ g. ⊎_elim (λ (l : BeginsOffset profile.Strict b). l)
          (λ (d : IsInRange 48 57 b × (length ds + 1 ≤ 9)). absurd (omega (arith, d.1))) (o.0 g),
      λ a. o.1 (inl a),
    )

one_fits : (p : Profile) → Fits p 1
one_fits profile.Strict = omega arith
one_fits profile.Lenient = omega arith

-- a point with no digit after it
opens_point : (p : Profile) (b : ℕ) → Begins (SpellsSome (Tail p)) (46 ∷ b ∷ []) ↔ Allows (expected.Digit 0 9) b
opens_point p b = (
  λ g. next g.whole.spelled.front g.whole.spelled.rest g.more g.whole.value.1 g.whole.spelled.whole (decimals_of p _ _ g.whole.spelled.first)
      g.whole.spelled.second,
  λ a. digit_more p [] b tt a (one_fits p),
) where
  first : (ds rest more : List ℕ) → AllDigits 10 ds → 1 ≤ length ds → b ∷ more ≡ ds ++ rest → IsInRange 48 57 b
  first [] rest more h k e = absurd (omega arith)
  first (c ∷ cs) rest more h k e =
      let same : b ≡ c = ap (λ s. get_or s 0 0) e in subst (IsInRange 48 57) (sym same) (digit_from_value c h.0)

  next : (front rest more : List ℕ) (o : Offset) → 46 ∷ b ∷ more ≡ front ++ rest → (front ≡ []) ⊎ AreDecimals p front
      → EndOffset p o rest → IsInRange 48 57 b
  next front rest more v e (inl none) o =
      let l = offset_leads p _ rest o in
      let q : 46 ≡ l.first = ap (λ s. get_or s 0 0) (e ∙ ap (λ t. t ++ rest) none ∙ l.is) in
      absurd (lead_not_point p l.first l.begins q)
  next front rest more v e (inr some) o =
      first some.digits rest more some.each some.some (ap (drop 1) (e ∙ ap (λ t. t ++ rest) some.whole))

-- a lone point needs a digit
point_needs_digit : (p : Profile) → SpellsSome (Tail p) (46 ∷ []) → ⊥
point_needs_digit p s =
    at s.spelled.front s.spelled.rest s.value.1 s.spelled.whole (decimals_of p _ _ s.spelled.first) s.spelled.second where
      at : (front rest : List ℕ) (o : Offset) → 46 ∷ [] ≡ front ++ rest → (front ≡ []) ⊎ AreDecimals p front
          → EndOffset p o rest → ⊥
      at front rest v e (inl none) o =
          let l = offset_leads p _ rest o in
          let q : 46 ≡ l.first = ap (λ s. get_or s 0 0) (e ∙ ap (λ t. t ++ rest) none ∙ l.is) in
          lead_not_point p l.first l.begins q
      at front rest v e (inr some) o =
          omega (
            arith,
            some.some,
            ap length e,
            ap length some.whole,
            length-append front rest,
            ap length (offset_leads p _ rest o).is,
          )

pub point_fault : (p : Profile) (text rest : List ℕ) (e : Unexpected) → text ≡ 46 ∷ rest → e.expected ≡ expected.Digit 0 9
    → length rest ≡ e.left → ((b : ℕ) (after : List ℕ) → rest ≡ b ∷ after → ¬ IsInRange 48 57 b)
    → TextFault (SpellsSome (Tail p)) text e
point_fault p text rest e h same left none = record {
  right = 46 ∷ [];
  rest = rest;
  whole = h;
  left = left;
  first = subst (IsFirstFault (SpellsSome (Tail p)) (46 ∷ []) rest) (sym same) (record {
    begins =
        let g = (opens_point p 48).1 (omega arith, omega arith) in record { more = 48 ∷ g.more; whole = g.whole };
    expected = opens_point p;
    found = none;
  });
  none = λ s. at rest none (subst (SpellsSome (Tail p)) h s);
} where
  at : (rest : List ℕ) → ((b : ℕ) (after : List ℕ) → rest ≡ b ∷ after → ¬ IsInRange 48 57 b) → SpellsSome (Tail p) (46 ∷ rest) → ⊥
  at [] none s = point_needs_digit p s
  at (b ∷ bs) none s = none b bs refl ((opens_point p b).0 (record { more = bs; whole = s }))

-- ---- after a fraction, if any

-- a fraction alone is no tail
needs_offset : (p : Profile) (n : ℕ) (front : List ℕ) → Secfrac p n front → SpellsSome (Tail p) front → ⊥
needs_offset p n front f s =
    let t = s.spelled in
    let o = t.second in
    let whole : front ++ (90 ∷ []) ≡ t.front ++ (t.rest ++ 90 ∷ []) =
    ap (λ x. x ++ 90 ∷ []) t.whole ∙ append_assoc t.front t.rest (90 ∷ []) in
    let same = same_front p n s.value.0 front t.front (90 ∷ []) (t.rest ++ 90 ∷ []) f t.first (after_lead p 90 [] (inl (capital_z p)))
    (after_offset p s.value.1 t.rest o (90 ∷ [])) whole in
    omega (arith, ap length t.whole, length-append t.front t.rest, ap length same, ap length (offset_leads p _ t.rest o).is)

-- what follows a fraction, if any, is an offset
tail_cut : (p : Profile) (n : ℕ) (front : List ℕ) (first : ℕ) (rest : List ℕ) → Secfrac p n front → BeginsOffset p first
    → SpellsSome (Tail p) (front ++ (first ∷ rest)) → RestOfOffset p first rest
tail_cut p n front first rest f h s =
    let t = s.spelled in
    let same = same_front p n s.value.0 front t.front (first ∷ rest) t.rest f t.first (after_lead p first rest h)
    (after_offset_alone p s.value.1 t.rest t.second) t.whole in
    let m = longer front (first ∷ rest) t.front t.rest t.whole (omega (arith, ap length same)) in
    record { value = s.value.1; spelled = subst (EndOffset p s.value.1) (cut m.0 m.1 m.2 same) t.second } where
      cut : (m : List ℕ) → front ≡ s.spelled.front ++ m → s.spelled.rest ≡ m ++ (first ∷ rest) → front ≡ s.spelled.front → s.spelled.rest ≡ first ∷ rest
      cut [] u q e = q
      cut (b ∷ bs) u q e = absurd (omega (arith, ap length u, length-append s.spelled.front (b ∷ bs), ap length e))

pub no_lead : (p : Profile) {text : List ℕ} {n : ℕ} {rest : List ℕ} {x : Expected} (e : Unexpected) → AtFraction p text n rest x
    → ((b : ℕ) (after : List ℕ) → rest ≡ b ∷ after → ¬ BeginsOffset p b) → e.expected ≡ x → length rest ≡ e.left
    → TextFault (SpellsSome (Tail p)) text e
no_lead p {text} {n} {rest} {x} e a none same left = record {
  right = a.front;
  rest = rest;
  whole = a.whole;
  left = left;
  first = subst (IsFirstFault (SpellsSome (Tail p)) a.front rest) (sym same) (record {
    begins = begins_tail p n a.front a.is;
    expected = a.opens;
    found = λ b after h k. none b after h (a.next b after h k);
  });
  none = λ s. at rest none a.next (subst (SpellsSome (Tail p)) a.whole s);
} where
  at : (rest : List ℕ) → ((b : ℕ) (after : List ℕ) → rest ≡ b ∷ after → ¬ BeginsOffset p b)
      → ((b : ℕ) (after : List ℕ) → rest ≡ b ∷ after → Allows x b → BeginsOffset p b) → SpellsSome (Tail p) (a.front ++ rest) → ⊥
  at [] none next s = needs_offset p n a.front a.is (subst (SpellsSome (Tail p)) (append-nil a.front) s)
  at (b ∷ bs) none next s =
      none b bs refl (next b bs refl ((a.opens b).0 (record {
        more = bs;
        whole = subst (SpellsSome (Tail p)) (sym (append_assoc a.front (b ∷ []) bs)) s;
      })))

tail_join : (p : Profile) (n : ℕ) (front : List ℕ) (first : ℕ) (rest : List ℕ) → Secfrac p n front → RestOfOffset p first rest
    → SpellsSome (Tail p) (front ++ (first ∷ rest))
tail_join p n front first rest f s = record {
  value = (n, s.value);
  spelled = record { front = front; rest = first ∷ rest; whole = refl; first = f; second = s.spelled };
}

begins_join : (p : Profile) (n : ℕ) (front : List ℕ) (first : ℕ) (right : List ℕ) → Secfrac p n front → Begins (RestOfOffset p first) right
    → Begins (SpellsSome (Tail p)) (front ++ (first ∷ right))
begins_join p n front first right f b = record {
  more = b.more;
  whole = subst (SpellsSome (Tail p)) (sym (append_assoc front (first ∷ right) b.more)) (tail_join p n front first (right ++ b.more) f b.whole);
}

begins_cut : (p : Profile) (n : ℕ) (front : List ℕ) (first : ℕ) (right : List ℕ) → Secfrac p n front → BeginsOffset p first
    → Begins (SpellsSome (Tail p)) (front ++ (first ∷ right)) → Begins (RestOfOffset p first) right
begins_cut p n front first right f h b = record {
  more = b.more;
  whole = tail_cut p n front first (right ++ b.more) f h (subst (SpellsSome (Tail p)) (append_assoc front (first ∷ right) b.more) b.whole);
}

pub tail_after : (p : Profile) {text : List ℕ} {n : ℕ} {rest after : List ℕ} {x : Expected} (first : ℕ) (e : Unexpected) → AtFraction p text n rest x
    → rest ≡ first ∷ after → BeginsOffset p first → TextFault (RestOfOffset p first) after e → TextFault (SpellsSome (Tail p)) text e
tail_after p {text} {n} {rest} {after} first e a h lead f =
    let whole : text ≡ a.front ++ (first ∷ after) = a.whole ∙ ap (λ t. a.front ++ t) h in
    record {
      right = a.front ++ (first ∷ f.right);
      rest = f.rest;
      whole = whole ∙ ap (λ t. a.front ++ (first ∷ t)) f.whole ∙ sym (append_assoc a.front (first ∷ f.right) f.rest);
      left = f.left;
      first = record {
        begins = begins_join p n a.front first f.right a.is f.first.begins;
        expected = λ b. (
          λ g. (f.first.expected b).0 (begins_cut p n a.front first (f.right ++ b ∷ []) a.is lead
              (subst (Begins (SpellsSome (Tail p))) (append_assoc a.front (first ∷ f.right) (b ∷ [])) g)),
          λ k. subst (Begins (SpellsSome (Tail p))) (sym (append_assoc a.front (first ∷ f.right) (b ∷ [])))
              (begins_join p n a.front first (f.right ++ b ∷ []) a.is ((f.first.expected b).1 k)),
        );
        found = f.first.found;
      };
      none = λ s. f.none (tail_cut p n a.front first after a.is lead (subst (SpellsSome (Tail p)) whole s));
    }

pub tail_is : (p : Profile) {text : List ℕ} {n : ℕ} {rest after : List ℕ} {x : Expected} (first : ℕ) (o : Offset) → AtFraction p text n rest x
    → rest ≡ first ∷ after → EndOffset p o (first ∷ after) → Tail p (n, o) text
tail_is p first o a h s = record {
  front = a.front;
  rest = first ∷ _;
  whole = a.whole ∙ ap (λ t. a.front ++ t) h;
  first = a.is;
  second = s;
}

-- ---- what is read of a fraction

pub no_fraction : (p : Profile) (text : List ℕ) → ((after : List ℕ) → text ≡ 46 ∷ after → ⊥) → AtFraction p text 0 text (after_fraction p 0)
no_fraction p text none = record {
  front = [];
  whole = refl;
  is = no_secfrac p;
  opens = opens_at_once p;
  next = λ b after e a. ⊎_elim (λ (q : b ≡ 46). absurd (none after (e ∙ ap (λ (x : ℕ). x ∷ after) q))) (λ (l : BeginsOffset p b). l) a;
}

pub begins_any_tail : (p : Profile) → Begins (SpellsSome (Tail p)) []
begins_any_tail p = begins_tail p 0 [] (no_secfrac p)

-- no offset begins there
pub lead_none : (p : Profile) (rest : List ℕ) → ((b : ℕ) (after : List ℕ) → rest ≡ b ∷ after → ¬ IsLetter p 90 b)
    → ((after : List ℕ) → rest ≢ 43 ∷ after) → ((after : List ℕ) → rest ≢ 45 ∷ after)
    → (b : ℕ) (after : List ℕ) → rest ≡ b ∷ after → ¬ BeginsOffset p b
lead_none p rest z plus minus b after e (inl h) = z b after e h
lead_none p rest z plus minus b after e (inr (inl h)) = plus after (e ∙ ap (λ (x : ℕ). x ∷ after) h)
lead_none p rest z plus minus b after e (inr (inr h)) = minus after (e ∙ ap (λ (x : ℕ). x ∷ after) h)

-- the letter that was read, and what follows it
pub record AtLetter (p : Profile) (rest after : List ℕ) : Type 0 where
  pub byte : ℕ
  pub whole : rest ≡ byte ∷ after
  pub is : IsLetter p 90 byte

pub at_letter : {p : Profile} {rest after : List ℕ} → Front (TheLetter p 90 tt) rest after → AtLetter p rest after
at_letter {after = after} f =
    record { byte = f.is.byte; whole = f.whole ∙ ap (λ t. t ++ after) f.is.whole; is = f.is.is }
