-- What is behind a `%` is what the grammar of strftime says, and a fault there lies within the text.
use Rattle.std.proofs.Common.{◌≡◌, ℕ, ◌+◌, ◌<◌, ◌≤◌, Bool, true, false, eqb, List, [], ◌∷◌, ◌++◌, length, take, Option, Some, None, Result, Ok, Err, refl, sym, ap, subst, arith}
use Rattle.std.proofs.lemmas.Bool.{eqb-true}
use Rattle.time_below.specs.declared.format_description.component.Component.{Component}
use Rattle.time_below.specs.declared.format_description.modifier.Padding.{Padding}
use Rattle.time_below.specs.declared.format_description.modifier.SubsecondDigits.{SubsecondDigits}
use Rattle.time_below.specs.Tree.{Tree}
use Rattle.time_describe.specs.Conversions.{flag_named, width, number, word, sign, composition, items_of, refusal, refusal_behind_flag}
use Rattle.time_describe.specs.Description.{LiesWithin}
use Rattle.time_describe.specs.declared.fault.Fault.{Fault}
use Rattle.time_describe.specs.declared.strftime.reason.StrftimeReason.{StrftimeReason}
use Rattle.time_describe.specs.Strftime.{Front, front, or_fault, flagged, with_colon, with_width, conversion}
use Rattle.time_describe.specs.StrftimeGrammar.{Conversion, letter, flag_and_letter, colon_and_z, digit_and_n, behind_percent, numbered, meaning}

-- by what the first byte is: a flag, a colon, a width, a letter
conversion_cases : (P : Result Front (Fault StrftimeReason) → Type 0) (c : ℕ) (bs : List ℕ) (flag : Option Padding) (colon : Bool) (n : Option SubsecondDigits)
    → flag_named c ≡ flag → eqb c 58 ≡ colon → width c ≡ n
    → ((p : Padding) → flag_named c ≡ Some p → P (flagged (Some p) bs))
    → (c ≡ 58 → P (with_colon bs))
    → ((n : SubsecondDigits) → width c ≡ Some n → P (with_width c (Some n) bs))
    → P (or_fault (items_of c) 1 (refusal c) (length bs + 1))
    → P (conversion (c ∷ bs))
unfolding conversion
conversion_cases P c bs (Some p) colon n f g h flags colons widths letters = rw f (flags p f)
conversion_cases P c bs None true n f g h flags colons widths letters = rw (f, g) (colons (eqb-true c 58 g))
conversion_cases P c bs None false (Some n) f g h flags colons widths letters = rw (f, g, h) (widths n h)
conversion_cases P c bs None false None f g h flags colons widths letters = rw (f, g, h) letters

-- ---- what is read is spelled

-- these bytes are a conversion's, with these items
abbrev pub Spells : List ℕ → Front → Type 0
Spells bs f = (v : Conversion) × (behind_percent v ≡ take f.behind bs) × (meaning v ≡ Some f.items) × (f.behind ≤ length bs)

abbrev Finds : List ℕ → Result Front (Fault StrftimeReason) → Type 0
Finds bs r = (f : Front) → r ≡ Ok f → Spells bs f

finds : (bs : List ℕ) (x : Front) → Spells bs x → Finds bs (Ok x)
finds bs x h = λ f e. let same : x ≡ f = cc in subst (λ (y : Front). Spells bs y) same h

finds_nothing : (bs : List ℕ) (x : Fault StrftimeReason) → Finds bs (Err x)
finds_nothing bs x = λ f e. absurd cc

number_found : (x : Option Component) (d c : ℕ) (p : Padding) (bs : List ℕ) → flag_named d ≡ Some p → number c (Some p) ≡ x → Finds (d ∷ c ∷ bs) (flagged (Some p) (c ∷ bs))
unfolding flagged
number_found None d c p bs flag is = rw is (finds_nothing (d ∷ c ∷ bs) _)
number_found (Some x) d c p bs flag is = rw is (finds (d ∷ c ∷ bs) _ (flag_and_letter d c, refl, rw (flag, is) refl, omega arith))

flag_found : (bs : List ℕ) (d : ℕ) (p : Padding) → flag_named d ≡ Some p → Finds (d ∷ bs) (flagged (Some p) bs)
unfolding flagged
flag_found [] d p flag = finds_nothing (d ∷ []) _
flag_found (c ∷ bs) d p flag = number_found (number c (Some p)) d c p bs flag refl

offset_found : (is : Bool) (c : ℕ) (bs : List ℕ) → eqb c 122 ≡ is → Finds (58 ∷ c ∷ bs) (with_colon (c ∷ bs))
unfolding with_colon
offset_found true c bs e =
    let same : c ≡ 122 = eqb-true c 122 e in
    rw e (finds (58 ∷ c ∷ bs) _ (colon_and_z, ap (λ (x : ℕ). 58 ∷ x ∷ []) (sym same), refl, omega arith))
offset_found false c bs e = rw e (finds_nothing (58 ∷ c ∷ bs) _)

colon_found : (bs : List ℕ) → Finds (58 ∷ bs) (with_colon bs)
unfolding with_colon
colon_found [] = finds_nothing (58 ∷ []) _
colon_found (c ∷ bs) = offset_found (eqb c 122) c bs refl

fraction_found : (is : Bool) (d c : ℕ) (n : SubsecondDigits) (bs : List ℕ) → width d ≡ Some n → eqb c 78 ≡ is → Finds (d ∷ c ∷ bs) (with_width d (Some n) (c ∷ bs))
unfolding with_width
fraction_found true d c n bs wide e =
    let same : c ≡ 78 = eqb-true c 78 e in
    rw e (finds (d ∷ c ∷ bs) _ (digit_and_n d, ap (λ (x : ℕ). d ∷ x ∷ []) (sym same), rw wide refl, omega arith))
fraction_found false d c n bs wide e = rw e (finds_nothing (d ∷ c ∷ bs) _)

width_found : (bs : List ℕ) (d : ℕ) (n : SubsecondDigits) → width d ≡ Some n → Finds (d ∷ bs) (with_width d (Some n) bs)
unfolding with_width
width_found [] d n wide = finds_nothing (d ∷ []) _
width_found (c ∷ bs) d n wide = fraction_found (eqb c 78) d c n bs wide refl

letter_found : (o : Option (List Tree)) (c : ℕ) (bs : List ℕ) → items_of c ≡ o → Finds (c ∷ bs) (or_fault (items_of c) 1 (refusal c) (length bs + 1))
letter_found None c bs is = rw is (finds_nothing (c ∷ bs) _)
letter_found (Some ts) c bs is = rw is (finds (c ∷ bs) _ (letter c, refl, is, omega arith))

pub conversion_found : (bs : List ℕ) → Finds bs (conversion bs)
unfolding conversion
conversion_found [] = finds_nothing [] _
conversion_found (c ∷ bs) =
    conversion_cases (λ r. Finds (c ∷ bs) r) c bs (flag_named c) (eqb c 58) (width c) refl refl refl
    (λ p f. flag_found bs c p f)
    (λ e. subst (λ (x : ℕ). Finds (x ∷ bs) (with_colon bs)) (sym e) (colon_found bs))
    (λ n f. width_found bs c n f)
    (letter_found (items_of c) c bs refl)

-- ---- a fault lies within the text

abbrev Fits : ℕ → Result Front (Fault StrftimeReason) → Type 0
Fits n r = (x : Fault StrftimeReason) → r ≡ Err x → LiesWithin n x

fits : (n : ℕ) (x : Fault StrftimeReason) → LiesWithin n x → Fits n (Err x)
fits n x h = λ y e. let same : x ≡ y = cc in subst (λ (z : Fault StrftimeReason). LiesWithin n z) same h

fits_no_fault : (n : ℕ) (f : Front) → Fits n (Ok f)
fits_no_fault n f = λ x e. absurd cc

letter_fits : (o : Option (List Tree)) (n k left : ℕ) (reason : StrftimeReason) → 0 < left → left ≤ n → Fits n (or_fault o k reason left)
letter_fits None n k left reason some le = fits n _ (some, le)
letter_fits (Some ts) n k left reason some le = fits_no_fault n _

flag_fits : (bs : List ℕ) (p : Padding) → Fits (length bs + 2) (flagged (Some p) bs)
unfolding flagged
flag_fits [] p = fits 2 _ (omega arith, omega arith)
flag_fits (c ∷ bs) p = letter_fits _ (length (c ∷ bs) + 2) 2 (length bs + 1) (refusal_behind_flag c) (omega arith) (omega arith)

offset_fits : (is : Bool) (c : ℕ) (bs : List ℕ) → eqb c 122 ≡ is → Fits (length bs + 3) (with_colon (c ∷ bs))
unfolding with_colon
offset_fits true c bs e = rw e (fits_no_fault (length bs + 3) _)
offset_fits false c bs e = rw e (fits (length bs + 3) _ (omega arith, omega arith))

colon_fits : (bs : List ℕ) → Fits (length bs + 2) (with_colon bs)
unfolding with_colon
colon_fits [] = fits 2 _ (omega arith, omega arith)
colon_fits (c ∷ bs) = let k : length bs + 3 ≡ length (c ∷ bs) + 2 = omega arith in subst (λ (n : ℕ). Fits n (with_colon (c ∷ bs))) k (offset_fits (eqb c 122) c bs refl)

fraction_fits : (is : Bool) (d c : ℕ) (n : SubsecondDigits) (bs : List ℕ) → eqb c 78 ≡ is → Fits (length bs + 3) (with_width d (Some n) (c ∷ bs))
unfolding with_width
fraction_fits true d c n bs e = rw e (fits_no_fault (length bs + 3) _)
fraction_fits false d c n bs e = rw e (fits (length bs + 3) _ (omega arith, omega arith))

width_fits : (bs : List ℕ) (d : ℕ) (n : SubsecondDigits) → Fits (length bs + 2) (with_width d (Some n) bs)
unfolding with_width
width_fits [] d n = fits 2 _ (omega arith, omega arith)
width_fits (c ∷ bs) d n = let k : length bs + 3 ≡ length (c ∷ bs) + 2 = omega arith in subst (λ (m : ℕ). Fits m (with_width d (Some n) (c ∷ bs))) k (fraction_fits (eqb c 78) d c n bs refl)

pub conversion_fits : (bs : List ℕ) → Fits (length bs + 1) (conversion bs)
unfolding conversion
conversion_fits [] = fits 1 _ (omega arith, omega arith)
conversion_fits (c ∷ bs) =
    let k : length bs + 2 ≡ length (c ∷ bs) + 1 = omega arith in
    subst (λ (n : ℕ). Fits n (conversion (c ∷ bs))) k
    (conversion_cases (λ r. Fits (length bs + 2) r) c bs (flag_named c) (eqb c 58) (width c) refl refl refl
    (λ p f. flag_fits bs p)
    (λ e. colon_fits bs)
    (λ n f. width_fits bs c n)
    (letter_fits (items_of c) (length bs + 2) 1 (length bs + 1) (refusal c) (omega arith) (omega arith)))

-- ---- what is spelled is read

-- a letter that stands for something is no flag, no colon and no width
no_flag : (c : ℕ) (ts : List Tree) → items_of c ≡ Some ts → (dash under zero : Bool) → eqb c 45 ≡ dash → eqb c 95 ≡ under → eqb c 48 ≡ zero → flag_named c ≡ None
unfolding flag_named number word sign composition
no_flag c ts e true under zero a b d = let f : c ≡ 45 = eqb-true c 45 a in let g : None ≡ Some ts = rw f at e in absurd cc
no_flag c ts e false true zero a b d = let f : c ≡ 95 = eqb-true c 95 b in let g : None ≡ Some ts = rw f at e in absurd cc
no_flag c ts e false false true a b d = let f : c ≡ 48 = eqb-true c 48 d in let g : None ≡ Some ts = rw f at e in absurd cc
no_flag c ts e false false false a b d = rw (a, b, d) refl

no_colon : (c : ℕ) (ts : List Tree) → items_of c ≡ Some ts → (is : Bool) → eqb c 58 ≡ is → eqb c 58 ≡ false
unfolding number word sign composition
no_colon c ts e true a = let f : c ≡ 58 = eqb-true c 58 a in let g : None ≡ Some ts = rw f at e in absurd cc
no_colon c ts e false a = a

no_width : (c : ℕ) (ts : List Tree) → items_of c ≡ Some ts → (three six nine : Bool) → eqb c 51 ≡ three → eqb c 54 ≡ six → eqb c 57 ≡ nine → width c ≡ None
unfolding width number word sign composition
no_width c ts e true six nine a b d = let f : c ≡ 51 = eqb-true c 51 a in let g : None ≡ Some ts = rw f at e in absurd cc
no_width c ts e false true nine a b d = let f : c ≡ 54 = eqb-true c 54 b in let g : None ≡ Some ts = rw f at e in absurd cc
no_width c ts e false false true a b d = let f : c ≡ 57 = eqb-true c 57 d in let g : None ≡ Some ts = rw f at e in absurd cc
no_width c ts e false false false a b d = rw (a, b, d) refl

-- a width is no flag and no colon
width_alone : (d : ℕ) (n : SubsecondDigits) → width d ≡ Some n → (three six nine : Bool) → eqb d 51 ≡ three → eqb d 54 ≡ six → eqb d 57 ≡ nine → (flag_named d ≡ None) × (eqb d 58 ≡ false)
unfolding flag_named width
width_alone d n e true six nine a b f = rw (eqb-true d 51 a) (refl, refl)
width_alone d n e false true nine a b f = rw (eqb-true d 54 b) (refl, refl)
width_alone d n e false false true a b f = rw (eqb-true d 57 f) (refl, refl)
width_alone d n e false false false a b f = let g : None ≡ Some n = rw (a, b, f) at e in absurd cc

letter_read : (c : ℕ) (ts : List Tree) (bs : List ℕ) → items_of c ≡ Some ts → flag_named c ≡ None → eqb c 58 ≡ false → width c ≡ None → conversion (c ∷ bs) ≡ front ts 1
unfolding conversion
letter_read c ts bs is f g h = rw (f, g, h, is) refl

number_read : (flag : Option Padding) (x : Option Component) (f c : ℕ) (ts : List Tree) (bs : List ℕ) → flag_named f ≡ flag → number c flag ≡ x → numbered c flag ≡ Some ts
    → conversion (f ∷ c ∷ bs) ≡ front ts 2
unfolding conversion flagged
number_read None x f c ts bs a b e = let g : None ≡ Some ts = e in absurd cc
number_read (Some p) None f c ts bs a b e = let g : None ≡ Some ts = rw b at e in absurd cc
number_read (Some p) (Some x) f c ts bs a b e = let g = rw b at e in rw (a, b) (ap (λ (v : Option (List Tree)). or_fault v 2 (refusal_behind_flag c) (length bs + 1)) g)

colon_read : (ts : List Tree) (bs : List ℕ) → meaning colon_and_z ≡ Some ts → conversion (58 ∷ 122 ∷ bs) ≡ front ts 2
unfolding conversion with_colon flag_named
colon_read ts bs e = ap (λ (v : Option (List Tree)). or_fault v 2 (refusal 122) (length bs + 1)) e

digits_read : (n : Option SubsecondDigits) (d : ℕ) (ts : List Tree) (bs : List ℕ) → width d ≡ n → meaning (digit_and_n d) ≡ Some ts
    → conversion (d ∷ 78 ∷ bs) ≡ front ts 2
unfolding conversion with_width
digits_read None d ts bs a e = let g : None ≡ Some ts = rw a at e in absurd cc
digits_read (Some n) d ts bs a e =
    let g = rw a at e in
    let alone = width_alone d n a (eqb d 51) (eqb d 54) (eqb d 57) refl refl refl in
    let flag = alone.0 in
    let colon = alone.1 in
    rw (flag, colon, a) (ap (λ (v : Option (List Tree)). or_fault v 2 (refusal d) (length bs + 1)) g)

pub conversion_read : (v : Conversion) (ts : List Tree) (bs : List ℕ) → meaning v ≡ Some ts → (k : ℕ) × (conversion (behind_percent v ++ bs) ≡ front ts k) × (k ≡ length (behind_percent v))
conversion_read (letter c) ts bs e =
    (1, letter_read c ts bs e (no_flag c ts e (eqb c 45) (eqb c 95) (eqb c 48) refl refl refl) (no_colon c ts e (eqb c 58) refl) (no_width c ts e (eqb c 51) (eqb c 54) (eqb c 57) refl refl refl), refl)
conversion_read (flag_and_letter f c) ts bs e = (2, number_read (flag_named f) (number c (flag_named f)) f c ts bs refl refl e, refl)
conversion_read colon_and_z ts bs e = (2, colon_read ts bs e, refl)
conversion_read (digit_and_n d) ts bs e = (2, digits_read (width d) d ts bs refl e, refl)
