-- The first part of a text is what the grammar of strftime says.
use Rattle.std.proofs.Common.{◌≡◌, ℕ, suc, ◌+◌, ◌<◌, Bool, true, false, not, cond, List, [], ◌∷◌, ◌++◌, length, take, drop, Some, None, Ok, Err, refl, sym, ap, ◌∙◌, subst, arith}
use Rattle.std.specs.Prelude.{◌||◌, ◌&&◌}
use Rattle.std.specs.List.{list_any, position_or_len}
use Rattle.std.proofs.lemmas.Bool.{eqb-true}
use Rattle.std.proofs.lemmas.List.{take-append-drop, length-take-le}
use Rattle.std.proofs.Math.Seq.{drop-append_seam, take-append_seam}
use Rattle.time_below.specs.Tree.{Tree, of_component}
use Rattle.time_below.specs.declared.format_description.component.Component.{Component}
use Rattle.time_describe.specs.Conversions.{component_of, items_of}
use Rattle.time_describe.specs.Literal.{literal_of}
use Rattle.time_describe.specs.declared.strftime.reason.StrftimeReason.{StrftimeReason}
use Rattle.time_describe.specs.Description.{LiesWithin}
use Rattle.time_describe.specs.declared.fault.Fault.{Fault}
use Rattle.time_describe.specs.Strftime.{Front, is_percent, front, conversion, first_part}
use Rattle.time_describe.specs.StrftimeGrammar.{SpelledPart, literal, converted, letter, behind_percent, part_spelling, spelling, part_meaning, begins_with_literal, is_literal}
use Rattle.time_describe.proofs.PlaceLemmas.{place_inside}
use Rattle.time_describe.proofs.ReadLemmas.{stops}
use Rattle.time_describe.proofs.StrftimeConversions.{Spells, conversion_found, conversion_fits, conversion_read}

first_conversion : (b : ℕ) (bs : List ℕ) → is_percent b ≡ true → first_part (b ∷ bs) ≡ conversion bs
unfolding first_part
first_conversion b bs is = rw is refl

first_literal : (b : ℕ) (bs : List ℕ) → is_percent b ≡ false
    → first_part (b ∷ bs) ≡ front (literal_of (b ∷ take (position_or_len is_percent bs) bs) ∷ []) (length (take (position_or_len is_percent bs) bs))
unfolding first_part
first_literal b bs is = rw is refl

-- a letter that stands for one component
pub letter_first : (c : ℕ) (bs : List ℕ) (x : Component) → component_of c ≡ Some x → first_part (37 ∷ c ∷ bs) ≡ front (of_component x ∷ []) 1
letter_first c bs x is =
    let means : items_of c ≡ Some (of_component x ∷ []) = rw is refl in
    let w = conversion_read (letter c) (of_component x ∷ []) bs means in
    first_conversion 37 (c ∷ bs) refl ∙ w.1 ∙ ap (front (of_component x ∷ [])) w.2

-- a literal of one byte
pub literal_alone : (b : ℕ) (bs : List ℕ) → is_percent b ≡ false → first_part (b ∷ 37 ∷ bs) ≡ front (literal_of (b ∷ []) ∷ []) 0
unfolding first_part
literal_alone b bs is = rw is refl

-- ---- what is read is spelled

-- a part and what follows it: behind a literal a percent sign or nothing
pub record Found (b : ℕ) (bs : List ℕ) (f : Front) : Type 0 where
  pub found : SpelledPart
  pub spelled : part_spelling found ++ drop f.behind bs ≡ b ∷ bs
  pub means : part_meaning found ≡ Some f.items
  pub ends : is_literal found ≡ true → (d : ℕ) (ds : List ℕ) → drop f.behind bs ≡ d ∷ ds → is_percent d ≡ true

none_step : (is : Bool) (x : ℕ) (n : ℕ) (xs : List ℕ) → is_percent x ≡ is → list_any is_percent (take n xs) ≡ false
    → list_any is_percent (take (cond (not is) (1 + n) 0) (x ∷ xs)) ≡ false
none_step true x n xs is none = refl
none_step false x n xs is none = let k : 1 + n ≡ suc n = omega arith in rw k (rw is none)

none_before : (xs : List ℕ) → list_any is_percent (take (position_or_len is_percent xs) xs) ≡ false
none_before [] = refl
none_before (x ∷ xs) = none_step (is_percent x) x (position_or_len is_percent xs) xs refl (none_before xs)

run_len : (bs : List ℕ) → length (take (position_or_len is_percent bs) bs) ≡ position_or_len is_percent bs
run_len bs = length-take-le (position_or_len is_percent bs) bs (place_inside is_percent bs)

literal_found : (b : ℕ) (bs : List ℕ) → is_percent b ≡ false
    → Found b bs (record { items = literal_of (b ∷ take (position_or_len is_percent bs) bs) ∷ []; behind = length (take (position_or_len is_percent bs) bs) })
literal_found b bs is =
    let n = position_or_len is_percent bs in
    let none : list_any is_percent (b ∷ take n bs) ≡ false = rw is (none_before bs) in record {
      found = literal (b ∷ take n bs);
      spelled = ap (λ (v : List ℕ). b ∷ v) (ap (λ (k : ℕ). take n bs ++ drop k bs) (run_len bs) ∙ take-append-drop n bs);
      means = rw none refl;
      ends = λ e d ds here. stops is_percent bs d ds (ap (λ (k : ℕ). drop k bs) (sym (run_len bs)) ∙ here);
    }

percent_found : (b : ℕ) (bs : List ℕ) (f : Front) → b ≡ 37 → Spells bs f → Found b bs f
percent_found b bs f same w = record {
  found = converted w.0;
  spelled = ap (λ (v : List ℕ). 37 ∷ v ++ drop f.behind bs) w.1 ∙ ap (λ (v : List ℕ). 37 ∷ v) (take-append-drop f.behind bs) ∙ ap (λ (x : ℕ). x ∷ bs) (sym same);
  means = w.2;
  ends = λ e d ds here. absurd cc;
}

found_by : (is : Bool) (b : ℕ) (bs : List ℕ) (f : Front) → is_percent b ≡ is → first_part (b ∷ bs) ≡ Ok f → Found b bs f
found_by true b bs f is e = percent_found b bs f (eqb-true b 37 is) (conversion_found bs f (sym (first_conversion b bs is) ∙ e))
found_by false b bs f is e =
    let g = sym (first_literal b bs is) ∙ e in
    let same : record { items = literal_of (b ∷ take (position_or_len is_percent bs) bs) ∷ []; behind = length (take (position_or_len is_percent bs) bs) } ≡ f = cc in
    subst (λ (y : Front). Found b bs y) same (literal_found b bs is)

pub part_found : (b : ℕ) (bs : List ℕ) (f : Front) → first_part (b ∷ bs) ≡ Ok f → Found b bs f
part_found b bs f e = found_by (is_percent b) b bs f refl e

-- a fault of the first part lies within the text
fits_by : (is : Bool) (b : ℕ) (bs : List ℕ) (x : Fault StrftimeReason) → is_percent b ≡ is → first_part (b ∷ bs) ≡ Err x → LiesWithin (length (b ∷ bs)) x
fits_by true b bs x is e =
    let w = conversion_fits bs x (sym (first_conversion b bs is) ∙ e) in
    let k : length bs + 1 ≡ length (b ∷ bs) = omega arith in
    subst (λ (n : ℕ). LiesWithin n x) k w
fits_by false b bs x is e = let g = sym (first_literal b bs is) ∙ e in absurd cc

pub part_fits : (b : ℕ) (bs : List ℕ) (x : Fault StrftimeReason) → first_part (b ∷ bs) ≡ Err x → LiesWithin (length (b ∷ bs)) x
part_fits b bs x e = fits_by (is_percent b) b bs x refl e

-- ---- what is spelled is read

-- these are the first items, and the bytes behind their part
pub record IsFirst (text : List ℕ) (items : List Tree) (rest : List ℕ) : Type 0 where
  pub behind : ℕ
  pub some : 0 < length text
  pub part : first_part text ≡ front items behind
  pub back : drop (behind + 1) text ≡ rest

run_step : (is : Bool) (x : ℕ) (xs ys : List ℕ) → is_percent x ≡ is → is_percent x || list_any is_percent xs ≡ false → (list_any is_percent xs ≡ false → position_or_len is_percent (xs ++ ys) ≡ length xs + position_or_len is_percent ys)
    → cond (not (is_percent x)) (1 + position_or_len is_percent (xs ++ ys)) 0 ≡ length (x ∷ xs) + position_or_len is_percent ys
run_step true x xs ys is none later = let g : true ≡ false = rw is at none in absurd cc
run_step false x xs ys is none later =
    let g : list_any is_percent xs ≡ false = rw is at none in
    let more = later g in
    rw is (omega (arith, more))

run : (xs ys : List ℕ) → list_any is_percent xs ≡ false → position_or_len is_percent (xs ++ ys) ≡ length xs + position_or_len is_percent ys
run [] ys none = omega arith
run (x ∷ xs) ys none = run_step (is_percent x) x xs ys refl none (λ g. run xs ys g)

-- a text that does not begin with a literal begins with a percent sign, or is empty
no_run : (ps : List SpelledPart) → begins_with_literal ps ≡ false → position_or_len is_percent (spelling ps) ≡ 0
no_run [] e = refl
no_run (literal bytes ∷ ps) e = absurd cc
no_run (converted v ∷ ps) e = refl

literal_first : (any : Bool) (b : ℕ) (xs : List ℕ) (ps : List SpelledPart) (items : List Tree) → list_any is_percent (b ∷ xs) ≡ any → part_meaning (literal (b ∷ xs)) ≡ Some items → begins_with_literal ps ≡ false
    → IsFirst ((b ∷ xs) ++ spelling ps) items (spelling ps)
literal_first true b xs ps items any means ends = let g : None ≡ Some items = rw any at means in absurd cc
literal_first false b xs ps items any means ends =
    let g = rw any at means in
    let same : literal_of (b ∷ xs) ∷ [] ≡ items = cc in
    let w = neither (is_percent b) (list_any is_percent xs) any in
    let n : position_or_len is_percent (xs ++ spelling ps) ≡ length xs = omega (arith, run xs (spelling ps) w.1, no_run ps ends) in
    let front_is : take (position_or_len is_percent (xs ++ spelling ps)) (xs ++ spelling ps) ≡ xs = ap (λ (k : ℕ). take k (xs ++ spelling ps)) n ∙ take-append_seam xs (spelling ps) in
    let k : length xs + 1 ≡ suc (length xs) = omega arith in record {
      behind = length xs;
      some = omega arith;
      part =
          first_literal b (xs ++ spelling ps) w.0
          ∙ ap (λ (v : List ℕ). front (literal_of (b ∷ v) ∷ []) (length v)) front_is
          ∙ ap (λ (v : List Tree). front v (length xs)) same;
      back = ap (λ (m : ℕ). drop m (b ∷ (xs ++ spelling ps))) k ∙ drop-append_seam xs (spelling ps);
    }
  where
    neither : (x y : Bool) → x || y ≡ false → (x ≡ false) × (y ≡ false)
    neither true y e = absurd cc
    neither false y e = (refl, e)

pub part_first : (p : SpelledPart) (ps : List SpelledPart) (items : List Tree) → part_meaning p ≡ Some items → (is_literal p && begins_with_literal ps) ≡ false
    → IsFirst (spelling (p ∷ ps)) items (spelling ps)
part_first (literal []) ps items means ends = absurd cc
part_first (literal (b ∷ xs)) ps items means ends = literal_first (list_any is_percent (b ∷ xs)) b xs ps items refl means ends
part_first (converted v) ps items means ends =
    let w = conversion_read v items (spelling ps) means in
    let k : w.0 + 1 ≡ suc (length (behind_percent v)) = omega (arith, w.2) in record {
      behind = w.0;
      some = omega arith;
      part = first_conversion 37 (behind_percent v ++ spelling ps) refl ∙ w.1;
      back = ap (λ (m : ℕ). drop m (37 ∷ (behind_percent v ++ spelling ps))) k ∙ drop-append_seam (behind_percent v) (spelling ps);
    }
