-- What the grammar of strftime spells is what is read, and nothing else is; a fault lies within the text.
use Rattle.std.proofs.Common.{◌≡◌, ℕ, zero, suc, ◌<◌, ◌≤◌, Bool, true, false, eqb, List, [], ◌∷◌, ◌++◌, length, drop, Some, None, Result, Ok, Err, refl, sym, ap, ◌∙◌, subst, arith}
use Rattle.std.specs.Prelude.{codes, nat_le, ◌||◌, ◌&&◌, if◌then◌else◌}
use Rattle.std.specs.List.{list_any}
use Rattle.std.proofs.lemmas.Bool.{eqb-true, leb-true, leb-false}
use Rattle.std.proofs.lemmas.List.{length-append}
use Rattle.time_below.specs.Tree.{Tree}
use Rattle.time_describe.specs.Conversions.{composed, number, word, sign, composition}
use Rattle.time_describe.specs.Limit.{most_items}
use Rattle.time_describe.specs.declared.strftime.reason.StrftimeReason.{StrftimeReason}
use Rattle.time_describe.specs.Description.{LiesWithin}
use Rattle.time_describe.specs.declared.fault.Fault.{Fault}
use Rattle.time_describe.specs.declared.strftime.reason.StrftimeReason.TheVariants.{TooManyItems}
use Rattle.time_describe.specs.Strftime.{Front, is_percent, first_part, bounded, read, described, fails, ◌>>=◌}
use Rattle.time_describe.specs.StrftimeGrammar.{letter, SpelledPart, literal, converted, part_spelling, spelling, part_meaning, begins_with_literal, is_literal, Means}
use Rattle.time_describe.proofs.StrftimeLemmas.{read_end, part_read, part_exceeds}
use Rattle.time_describe.proofs.StrftimeParts.{part_found, part_fits, part_first}

-- ---- what is spelled is read

grows : (ps : List SpelledPart) (before all : List Tree) → Means before ps all → length before ≤ length all
grows [] before all h = let same : length before ≡ length all = ap length h in omega arith
grows (p ∷ ps) before all h = omega (arith, grows ps (before ++ h.0) all h.3, length-append before h.0)

pub spelled_read : (ps : List SpelledPart) (before all : List Tree) → Means before ps all → length all ≤ most_items → read before 0 (spelling ps) ≡ Ok all
spelled_read [] before all h few = read_end before 0 ∙ ap (λ (v : List Tree). Ok v) h
spelled_read (p ∷ ps) before all h few =
    let w = part_first p ps h.0 h.1 h.2 in
    let fits : length (before ++ h.0) ≤ most_items = omega (arith, grows ps (before ++ h.0) all h.3) in
    part_read before (before ++ h.0) (spelling (p ∷ ps)) (record { items = h.0; behind = w.behind }) w.some w.part refl fits
    ∙ ap (read (before ++ h.0) 0) w.back
    ∙ spelled_read ps (before ++ h.0) all h.3 few

-- where there are too many items, that alone is the fault
abbrev Exceeds : Result (List Tree) (Fault StrftimeReason) → Type 0
Exceeds r = (left : ℕ) × (r ≡ fails TooManyItems left)

exceeds_by : (test : Bool) (p : SpelledPart) (ps : List SpelledPart) (before items all : List Tree) → nat_le (length (before ++ items)) most_items ≡ test → part_meaning p ≡ Some items → (is_literal p && begins_with_literal ps) ≡ false
    → (length (before ++ items) ≤ most_items → Exceeds (read (before ++ items) 0 (spelling ps))) → Exceeds (read before 0 (spelling (p ∷ ps)))
exceeds_by true p ps before items all test means ends later =
    let fits : length (before ++ items) ≤ most_items = leb-true _ _ test in
    let w = part_first p ps items means ends in
    let more = later fits in
    (more.0, part_read before (before ++ items) (spelling (p ∷ ps)) (record { items = items; behind = w.behind }) w.some w.part refl fits ∙ ap (read (before ++ items) 0) w.back ∙ more.1)
exceeds_by false p ps before items all test means ends later =
    let w = part_first p ps items means ends in
    (length (spelling (p ∷ ps)), part_exceeds before (before ++ items) (spelling (p ∷ ps)) (record { items = items; behind = w.behind }) w.some w.part refl (leb-false _ _ test))

pub spelled_exceeds : (ps : List SpelledPart) (before all : List Tree) → Means before ps all → most_items < length all → length before ≤ most_items → Exceeds (read before 0 (spelling ps))
spelled_exceeds [] before all h many few = let same : length before ≡ length all = ap length h in absurd (omega arith)
spelled_exceeds (p ∷ ps) before all h many few =
    exceeds_by (nat_le (length (before ++ h.0)) most_items) p ps before h.0 all refl h.1 h.2 (λ fits. spelled_exceeds ps (before ++ h.0) all h.3 many fits)

-- ---- what is read is spelled

passed : (before : List Tree) (n b : ℕ) (bs : List ℕ) → read before (suc n) (b ∷ bs) ≡ read before n bs
unfolding read
passed before n b bs = refl

begun : (before : List Tree) (b : ℕ) (bs : List ℕ)
    → read before 0 (b ∷ bs) ≡ (first_part (b ∷ bs) >>= λ f. bounded (before ++ f.items) (length (b ∷ bs)) >>= λ items. read items f.behind bs)
unfolding read
begun before b bs = refl

-- items within the bound are as they were
bounded_by : (test : Bool) (items now : List Tree) (left : ℕ) → nat_le (length items) most_items ≡ test → bounded items left ≡ Ok now → (now ≡ items) × (length now ≤ most_items)
unfolding bounded
bounded_by true items now left test e =
    let g = rw test at e in
    let same : now ≡ items = cc in
    let le : length items ≤ most_items = leb-true _ _ test in
    (same, subst (λ (v : List Tree). length v ≤ most_items) (sym same) le)
bounded_by false items now left test e = let g = rw test at e in absurd cc

unbounded_by : (test : Bool) (items : List Tree) (x : Fault StrftimeReason) (left : ℕ) → nat_le (length items) most_items ≡ test → bounded items left ≡ Err x → x.left ≡ left
unfolding bounded
unbounded_by true items x left test e = let g = rw test at e in absurd cc
unbounded_by false items x left test e =
    let g = rw test at e in
    let same : record { reason = TooManyItems; left = left } ≡ x = cc in
    ap (λ (y : Fault StrftimeReason). y.left) (sym same)

-- behind a first part that has room the rest is read
step_by : (s : Result (List Tree) (Fault StrftimeReason)) (before all : List Tree) (b : ℕ) (bs : List ℕ) (f : Front) → first_part (b ∷ bs) ≡ Ok f → bounded (before ++ f.items) (length (b ∷ bs)) ≡ s
    → read before 0 (b ∷ bs) ≡ Ok all → read (before ++ f.items) f.behind bs ≡ Ok all
step_by (Err x) before all b bs f is room e =
    let h = sym (begun before b bs) ∙ e in
    let g = rw (is, room) at h in absurd cc
step_by (Ok now) before all b bs f is room e =
    let h = sym (begun before b bs) ∙ e in
    let g : read now f.behind bs ≡ Ok all = rw (is, room) at h in
    let w = bounded_by (nat_le (length (before ++ f.items)) most_items) (before ++ f.items) now (length (b ∷ bs)) refl room in
    ap (λ (v : List Tree). read v f.behind bs) (sym w.0) ∙ g

abbrev Spelled : List Tree → List ℕ → List Tree → Type 0
Spelled before text all = (ps : List SpelledPart) × (spelling ps ≡ text) × Means before ps all

-- two literals side by side would have a byte between them
apart : (p : SpelledPart) (ps : List SpelledPart) (before all : List Tree) (rest : List ℕ) → spelling ps ≡ rest → Means before ps all → (is_literal p ≡ true → (d : ℕ) (ds : List ℕ) → rest ≡ d ∷ ds → is_percent d ≡ true)
    → (is_literal p && begins_with_literal ps) ≡ false
apart (converted v) ps before all rest is h ends = refl
apart (literal bytes) [] before all rest is h ends = refl
apart (literal bytes) (converted v ∷ ps) before all rest is h ends = refl
apart (literal bytes) (literal [] ∷ ps) before all rest is h ends = let g = h.1 in absurd cc
apart (literal bytes) (literal (d ∷ ds) ∷ ps) before all rest is h ends = absurd (no_percent (is_percent d) (list_any is_percent ds) h.0 _ (ends refl d (ds ++ spelling ps) (sym is)) h.1)
  where
    no_percent : (x y : Bool) (items trees : List Tree) → x ≡ true → (if x || y then None else Some trees) ≡ Some items → ⊥
    no_percent true y items trees e means = absurd cc
    no_percent false y items trees e means = absurd cc

abbrev ReadsOn : List ℕ → ℕ → List Tree → Type 0
ReadsOn bs n all = (before : List Tree) → read before n bs ≡ Ok all → Spelled before (drop n bs) all

spelled_by : (r : Result Front (Fault StrftimeReason)) (before all : List Tree) (b : ℕ) (bs : List ℕ) → first_part (b ∷ bs) ≡ r → read before 0 (b ∷ bs) ≡ Ok all
    → ((n : ℕ) → ReadsOn bs n all) → Spelled before (b ∷ bs) all
spelled_by (Err x) before all b bs is e later =
    let h = sym (begun before b bs) ∙ e in
    let g = rw is at h in absurd cc
spelled_by (Ok f) before all b bs is e later =
    let g = step_by (bounded (before ++ f.items) (length (b ∷ bs))) before all b bs f is refl e in
    let p = part_found b bs f is in
    let q = later f.behind (before ++ f.items) g in
    (p.found ∷ q.0, ap (λ (v : List ℕ). part_spelling p.found ++ v) q.1 ∙ p.spelled, (f.items, p.means, apart p.found q.0 (before ++ f.items) all (drop f.behind bs) q.1 q.2 p.ends, q.2))

abbrev nothing_left : List ℕ
nothing_left = []

none_dropped : (n : ℕ) → drop n nothing_left ≡ []
none_dropped zero = refl
none_dropped (suc n) = refl

pub read_spelled : (text : List ℕ) (n : ℕ) (before all : List Tree) → read before n text ≡ Ok all → (ps : List SpelledPart) × (spelling ps ≡ drop n text) × Means before ps all
read_spelled [] n before all e =
    let g = sym (read_end before n) ∙ e in
    let same : before ≡ all = cc in
    ([], sym (none_dropped n), same)
read_spelled (b ∷ bs) (suc n) before all e = read_spelled bs n before all (sym (passed before n b bs) ∙ e)
read_spelled (b ∷ bs) zero before all e = spelled_by (first_part (b ∷ bs)) before all b bs refl e (λ n before g. read_spelled bs n before all g)

-- and has few enough items
few_by : (test : Bool) (text : List ℕ) (all : List Tree) → nat_le (length all) most_items ≡ test → described text ≡ Ok all → length all ≤ most_items
few_by true text all test e = leb-true _ _ test
few_by false text all test e =
    let w = read_spelled text 0 [] all e in
    let x = spelled_exceeds w.0 [] all w.2 (leb-false _ _ test) (omega arith) in
    let g = sym x.1 ∙ ap (read [] 0) w.1 ∙ e in absurd cc

pub read_few : (text : List ℕ) (all : List Tree) → described text ≡ Ok all → length all ≤ most_items
read_few text all e = few_by (nat_le (length all) most_items) text all refl e

-- ---- a fault lies within the text

abbrev Inside : List ℕ → ℕ → Fault StrftimeReason → Type 0
Inside bs n x = (before : List Tree) → read before n bs ≡ Err x → LiesWithin (length bs) x

wider : (m n : ℕ) (x : Fault StrftimeReason) → m ≤ n → LiesWithin m x → LiesWithin n x
wider m n x le h = (h.0, omega (arith, h.1))

-- the last of two calls fails, or the first
inside_last : (s : Result (List Tree) (Fault StrftimeReason)) (before : List Tree) (b : ℕ) (bs : List ℕ) (f : Front) (x : Fault StrftimeReason) → first_part (b ∷ bs) ≡ Ok f → bounded (before ++ f.items) (length (b ∷ bs)) ≡ s
    → read before 0 (b ∷ bs) ≡ Err x → ((n : ℕ) → Inside bs n x) → LiesWithin (length (b ∷ bs)) x
inside_last (Err y) before b bs f x is room e later =
    let h = sym (begun before b bs) ∙ e in
    let g = rw (is, room) at h in
    let same : y ≡ x = cc in
    let left = unbounded_by (nat_le (length (before ++ f.items)) most_items) (before ++ f.items) y (length (b ∷ bs)) refl room in
    subst (λ (z : Fault StrftimeReason). LiesWithin (length (b ∷ bs)) z) same (omega (arith, left), omega (arith, left))
inside_last (Ok now) before b bs f x is room e later =
    let h = sym (begun before b bs) ∙ e in
    let g : read now f.behind bs ≡ Err x = rw (is, room) at h in
    wider (length bs) (length (b ∷ bs)) x (omega arith) (later f.behind now g)

inside_by : (r : Result Front (Fault StrftimeReason)) (before : List Tree) (b : ℕ) (bs : List ℕ) (x : Fault StrftimeReason) → first_part (b ∷ bs) ≡ r → read before 0 (b ∷ bs) ≡ Err x
    → ((n : ℕ) → Inside bs n x) → LiesWithin (length (b ∷ bs)) x
inside_by (Err y) before b bs x is e later =
    let h = sym (begun before b bs) ∙ e in
    let g = rw is at h in
    let same : y ≡ x = cc in
    subst (λ (z : Fault StrftimeReason). LiesWithin (length (b ∷ bs)) z) same (part_fits b bs y is)
inside_by (Ok f) before b bs x is e later = inside_last (bounded (before ++ f.items) (length (b ∷ bs))) before b bs f x is refl e later

fault_inside : (text : List ℕ) (n : ℕ) (before : List Tree) (x : Fault StrftimeReason) → read before n text ≡ Err x → LiesWithin (length text) x
fault_inside [] n before x e = let g = sym (read_end before n) ∙ e in absurd cc
fault_inside (b ∷ bs) (suc n) before x e = wider (length bs) (length (b ∷ bs)) x (omega arith) (fault_inside bs n before x (sym (passed before n b bs) ∙ e))
fault_inside (b ∷ bs) zero before x e = inside_by (first_part (b ∷ bs)) before b bs x refl e (λ n before g. fault_inside bs n before x g)

pub fault_within : (text : List ℕ) (fault : Fault StrftimeReason) → described text ≡ Err fault → LiesWithin (length text) fault
fault_within text fault e = fault_inside text 0 [] fault e

-- ---- a composition is what its text describes

abbrev Described : List ℕ → Type 0
Described t = described t ≡ Ok (composed t)

date_and_time : Described (codes "%a %b %e %H:%M:%S %Y")
unfolding number word sign composition composed
date_and_time =
    spelled_read (converted (letter 97) ∷ literal (32 ∷ []) ∷ converted (letter 98) ∷ literal (32 ∷ []) ∷ converted (letter 101) ∷ literal (32 ∷ []) ∷ converted (letter 72) ∷ literal (58 ∷ []) ∷ converted (letter 77) ∷ literal (58 ∷ []) ∷ converted (letter 83) ∷ literal (32 ∷ []) ∷ converted (letter 89) ∷ [])
    [] (composed (codes "%a %b %e %H:%M:%S %Y")) (_, refl, refl, (_, refl, refl, (_, refl, refl, (_, refl, refl, (_, refl, refl, (_, refl, refl, (_, refl, refl, (_, refl, refl, (_, refl, refl, (_, refl, refl, (_, refl, refl, (_, refl, refl, (_, refl, refl, refl))))))))))))) (omega arith)

american_date : Described (codes "%m/%d/%y")
unfolding number word sign composition composed
american_date =
    spelled_read (converted (letter 109) ∷ literal (47 ∷ []) ∷ converted (letter 100) ∷ literal (47 ∷ []) ∷ converted (letter 121) ∷ [])
    [] (composed (codes "%m/%d/%y")) (_, refl, refl, (_, refl, refl, (_, refl, refl, (_, refl, refl, (_, refl, refl, refl))))) (omega arith)

iso_date : Described (codes "%Y-%m-%d")
unfolding number word sign composition composed
iso_date =
    spelled_read (converted (letter 89) ∷ literal (45 ∷ []) ∷ converted (letter 109) ∷ literal (45 ∷ []) ∷ converted (letter 100) ∷ [])
    [] (composed (codes "%Y-%m-%d")) (_, refl, refl, (_, refl, refl, (_, refl, refl, (_, refl, refl, (_, refl, refl, refl))))) (omega arith)

twelve_hours : Described (codes "%I:%M:%S %p")
unfolding number word sign composition composed
twelve_hours =
    spelled_read (converted (letter 73) ∷ literal (58 ∷ []) ∷ converted (letter 77) ∷ literal (58 ∷ []) ∷ converted (letter 83) ∷ literal (32 ∷ []) ∷ converted (letter 112) ∷ [])
    [] (composed (codes "%I:%M:%S %p")) (_, refl, refl, (_, refl, refl, (_, refl, refl, (_, refl, refl, (_, refl, refl, (_, refl, refl, (_, refl, refl, refl))))))) (omega arith)

hour_and_minute : Described (codes "%H:%M")
unfolding number word sign composition composed
hour_and_minute =
    spelled_read (converted (letter 72) ∷ literal (58 ∷ []) ∷ converted (letter 77) ∷ [])
    [] (composed (codes "%H:%M")) (_, refl, refl, (_, refl, refl, (_, refl, refl, refl))) (omega arith)

whole_time : Described (codes "%H:%M:%S")
unfolding number word sign composition composed
whole_time =
    spelled_read (converted (letter 72) ∷ literal (58 ∷ []) ∷ converted (letter 77) ∷ literal (58 ∷ []) ∷ converted (letter 83) ∷ [])
    [] (composed (codes "%H:%M:%S")) (_, refl, refl, (_, refl, refl, (_, refl, refl, (_, refl, refl, (_, refl, refl, refl))))) (omega arith)

composition_read : (c : ℕ) (t : List ℕ) → composition c ≡ Some t → (isc isD isF isr isR isT isx isX : Bool) → eqb c 99 ≡ isc → eqb c 68 ≡ isD → eqb c 70 ≡ isF → eqb c 114 ≡ isr → eqb c 82 ≡ isR → eqb c 84 ≡ isT → eqb c 120 ≡ isx → eqb c 88 ≡ isX → Described t
unfolding composition
composition_read c t e true isD isF isr isR isT isx isX hc hD hF hr hR hT hx hX =
    let same : c ≡ 99 = eqb-true c 99 hc in
    let g : Some (codes "%a %b %e %H:%M:%S %Y") ≡ Some t = rw same at e in
    let text : codes "%a %b %e %H:%M:%S %Y" ≡ t = cc in
    subst (λ (v : List ℕ). Described v) text date_and_time
composition_read c t e false true isF isr isR isT isx isX hc hD hF hr hR hT hx hX =
    let same : c ≡ 68 = eqb-true c 68 hD in
    let g : Some (codes "%m/%d/%y") ≡ Some t = rw same at e in
    let text : codes "%m/%d/%y" ≡ t = cc in
    subst (λ (v : List ℕ). Described v) text american_date
composition_read c t e false false true isr isR isT isx isX hc hD hF hr hR hT hx hX =
    let same : c ≡ 70 = eqb-true c 70 hF in
    let g : Some (codes "%Y-%m-%d") ≡ Some t = rw same at e in
    let text : codes "%Y-%m-%d" ≡ t = cc in
    subst (λ (v : List ℕ). Described v) text iso_date
composition_read c t e false false false true isR isT isx isX hc hD hF hr hR hT hx hX =
    let same : c ≡ 114 = eqb-true c 114 hr in
    let g : Some (codes "%I:%M:%S %p") ≡ Some t = rw same at e in
    let text : codes "%I:%M:%S %p" ≡ t = cc in
    subst (λ (v : List ℕ). Described v) text twelve_hours
composition_read c t e false false false false true isT isx isX hc hD hF hr hR hT hx hX =
    let same : c ≡ 82 = eqb-true c 82 hR in
    let g : Some (codes "%H:%M") ≡ Some t = rw same at e in
    let text : codes "%H:%M" ≡ t = cc in
    subst (λ (v : List ℕ). Described v) text hour_and_minute
composition_read c t e false false false false false true isx isX hc hD hF hr hR hT hx hX =
    let same : c ≡ 84 = eqb-true c 84 hT in
    let g : Some (codes "%H:%M:%S") ≡ Some t = rw same at e in
    let text : codes "%H:%M:%S" ≡ t = cc in
    subst (λ (v : List ℕ). Described v) text whole_time
composition_read c t e false false false false false false true isX hc hD hF hr hR hT hx hX =
    let same : c ≡ 120 = eqb-true c 120 hx in
    let g : Some (codes "%m/%d/%y") ≡ Some t = rw same at e in
    let text : codes "%m/%d/%y" ≡ t = cc in
    subst (λ (v : List ℕ). Described v) text american_date
composition_read c t e false false false false false false false true hc hD hF hr hR hT hx hX =
    let same : c ≡ 88 = eqb-true c 88 hX in
    let g : Some (codes "%H:%M:%S") ≡ Some t = rw same at e in
    let text : codes "%H:%M:%S" ≡ t = cc in
    subst (λ (v : List ℕ). Described v) text whole_time
composition_read c t e false false false false false false false false hc hD hF hr hR hT hx hX = let g : None ≡ Some t = rw (hc, hD, hF, hr, hR, hT, hx, hX) at e in absurd cc

pub composition_described : (c : ℕ) (t : List ℕ) → composition c ≡ Some t → described t ≡ Ok (composed t)
composition_described c t e = composition_read c t e (eqb c 99) (eqb c 68) (eqb c 70) (eqb c 114) (eqb c 82) (eqb c 84) (eqb c 120) (eqb c 88) refl refl refl refl refl refl refl refl
