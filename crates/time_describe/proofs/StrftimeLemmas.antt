-- Reading the syntax of strftime, a part at a time.
use Rattle.std.proofs.Common.{◌≡◌, ℕ, zero, suc, ◌+◌, ◌≤◌, ◌<◌, Bool, true, false, List, [], ◌∷◌, ◌++◌, length, drop, Option, Some, None, subst, Ok, Err, refl, sym, ap, ◌∙◌, append_assoc, arith}
use Rattle.std.specs.Prelude.{◌-◌, nat_le, slice_range, take, ◌==◌}
use Rattle.std.proofs.lemmas.Bool.{le-leb, leb-true}
use Rattle.std.proofs.lemmas.List.{append-nil, length-append, length-drop, take_all}
use Rattle.time_below.specs.declared.format_description.component.Component.{Component}
use Rattle.time_below.specs.Tree.{Tree, of_component}
use Rattle.time_describe.specs.Conversions.{component_of, composed, listed}
use Rattle.time_describe.specs.Items.{Adds}
use Rattle.time_describe.specs.Limit.{most_items}
use Rattle.time_describe.specs.Literal.{literal_of}
use Rattle.time_describe.specs.declared.strftime.reason.StrftimeReason.{StrftimeReason}
use Rattle.time_describe.specs.declared.fault.Fault.{Fault}
use Rattle.time_describe.specs.declared.strftime.reason.StrftimeReason.TheVariants.{TooManyItems}
use Rattle.time_describe.specs.Strftime.{Front, read, bounded, first_part, fails}

pub read_end : (before : List Tree) (n : ℕ) → read before n [] ≡ Ok before
unfolding read
read_end before n = refl

-- the bytes of a part are passed over
pub read_passed : (before : List Tree) (n : ℕ) (bs : List ℕ) → read before n bs ≡ read before 0 (drop n bs)
unfolding read
read_passed before zero bs = refl
read_passed before (suc n) [] = refl
read_passed before (suc n) (b ∷ bs) = read_passed before n bs

fits : (items : List Tree) (left : ℕ) → length items ≤ most_items → bounded items left ≡ Ok items
unfolding bounded
fits items left le = let test : nat_le (length items) most_items ≡ true = le-leb _ _ le in rw test refl

exceeds : (test : Bool) (items : List Tree) (left : ℕ) → nat_le (length items) most_items ≡ test → most_items < length items → bounded items left ≡ fails TooManyItems left
unfolding bounded
exceeds true items left is lt = let le : length items ≤ most_items = leb-true _ _ is in absurd (omega arith)
exceeds false items left is lt = rw is refl

-- one step, by what the first part and the test of its items say
step : (before items : List Tree) (b : ℕ) (bs : List ℕ) (f : Front) → first_part (b ∷ bs) ≡ Ok f → bounded (before ++ f.items) (length (b ∷ bs)) ≡ Ok items
    → read before 0 (b ∷ bs) ≡ read items f.behind bs
unfolding read
step before items b bs f is room = rw (is, room) refl

stop : (before : List Tree) (b : ℕ) (bs : List ℕ) (f : Front) (fault : Fault StrftimeReason) → first_part (b ∷ bs) ≡ Ok f → bounded (before ++ f.items) (length (b ∷ bs)) ≡ Err fault
    → read before 0 (b ∷ bs) ≡ Err fault
unfolding read
stop before b bs f fault is room = rw (is, room) refl

refuse : (before : List Tree) (b : ℕ) (bs : List ℕ) (fault : Fault StrftimeReason) → first_part (b ∷ bs) ≡ Err fault → read before 0 (b ∷ bs) ≡ Err fault
unfolding read
refuse before b bs fault is = rw is refl

-- reading goes on behind the first part
pub part_read : (before now : List Tree) (text : List ℕ) (f : Front) → 0 < length text → first_part text ≡ Ok f → now ≡ before ++ f.items → length now ≤ most_items
    → read before 0 text ≡ read now 0 (drop (f.behind + 1) text)
part_read before now [] f some is now-is le = absurd (omega arith)
part_read before now (b ∷ bs) f some is now-is le =
    let k : f.behind + 1 ≡ suc f.behind = omega arith in
    step before now b bs f is (ap (λ v. bounded v (length (b ∷ bs))) (sym now-is) ∙ fits now (length (b ∷ bs)) le)
    ∙ read_passed now f.behind bs
    ∙ ap (λ (n : ℕ). read now 0 (drop n (b ∷ bs))) (sym k)

pub part_exceeds : (before now : List Tree) (text : List ℕ) (f : Front) → 0 < length text → first_part text ≡ Ok f → now ≡ before ++ f.items → most_items < length now
    → read before 0 text ≡ fails TooManyItems (length text)
part_exceeds before now [] f some is now-is lt = absurd (omega arith)
part_exceeds before now (b ∷ bs) f some is now-is lt =
    stop before b bs f (record { reason = TooManyItems; left = length (b ∷ bs) }) is
    (ap (λ v. bounded v (length (b ∷ bs))) (sym now-is) ∙ exceeds (nat_le (length now) most_items) now (length (b ∷ bs)) refl lt)

pub part_refused : (before : List Tree) (text : List ℕ) (fault : Fault StrftimeReason) → 0 < length text → first_part text ≡ Err fault → read before 0 text ≡ Err fault
part_refused before [] fault some is = absurd (omega arith)
part_refused before (b ∷ bs) fault some is = refuse before b bs fault is

-- ---- a text from a place on

pub from_place : (text : List ℕ) (at : ℕ) → take (length text - at) (drop at text) ≡ drop at text
from_place text at = take_all _ _ (omega (arith, length-drop at text))

-- the bytes of its first part
pub own_bytes : (text : List ℕ) (at n : ℕ) → slice_range text at (at + n) ≡ take n (take (length text - at) (drop at text))
own_bytes text at n =
    let count : at + n - at ≡ n = omega arith in
    ap (λ (k : ℕ). take k (drop at text)) count ∙ ap (take n) (sym (from_place text at))

-- ---- compositions

pub none_composed : (items : List Tree) → items ++ composed [] ≡ items
unfolding composed
none_composed items = append-nil items

pub component_composed : (items now : List Tree) (b c : ℕ) (bs : List ℕ) (x : Component) → b ≡ 37 → component_of c ≡ Some x → now ≡ items ++ of_component x ∷ []
    → now ++ composed bs ≡ items ++ composed (b ∷ c ∷ bs)
unfolding composed
component_composed items now b c bs x e f g = rw (e, f) (ap (λ (v : List Tree). v ++ composed bs) g ∙ append_assoc items (of_component x ∷ []) (composed bs))

pub nothing_composed : (items : List Tree) (b c : ℕ) (bs : List ℕ) → b ≡ 37 → component_of c ≡ None → items ++ composed bs ≡ items ++ composed (b ∷ c ∷ bs)
unfolding composed
nothing_composed items b c bs e f = rw (e, f) refl

pub byte_composed : (items now : List Tree) (b c : ℕ) (bs : List ℕ) → (b == 37) ≡ false → now ≡ items ++ literal_of (b ∷ []) ∷ []
    → now ++ composed (c ∷ bs) ≡ items ++ composed (b ∷ c ∷ bs)
unfolding composed
byte_composed items now b c bs e g = rw e (ap (λ (v : List Tree). v ++ composed (c ∷ bs)) g ∙ append_assoc items (literal_of (b ∷ []) ∷ []) (composed (c ∷ bs)))

pub last_composed : (items now : List Tree) (b : ℕ) → now ≡ items ++ literal_of (b ∷ []) ∷ []
    → now ++ composed [] ≡ items ++ composed (b ∷ [])
unfolding composed
last_composed items now b g = append-nil now ∙ g

listed_short : (o : Option Component) → length (listed o) ≤ 1
listed_short None = omega arith
listed_short (Some c) = omega arith

short_step : (is : Bool) (b c : ℕ) (bs : List ℕ) → (b == 37) ≡ is → length (composed bs) ≤ length bs → length (composed (c ∷ bs)) ≤ length (c ∷ bs)
    → length (composed (b ∷ c ∷ bs)) ≤ length (b ∷ c ∷ bs)
unfolding composed
short_step true b c bs is few more = rw is (omega (arith, few, listed_short (component_of c), length-append (listed (component_of c)) (composed bs)))
short_step false b c bs is few more = rw is (omega (arith, more))

-- no byte stands for two items
pub composed_short : (bs : List ℕ) → length (composed bs) ≤ length bs
unfolding composed
composed_short [] = omega arith
composed_short (b ∷ []) = omega arith
composed_short (b ∷ c ∷ bs) = short_step (b == 37) b c bs refl (composed_short bs) (composed_short (c ∷ bs))

-- items that are added in two steps
pub adds_more : {S : Type 0} (Holds : S → List Tree → Type 0) (old mid new : S) (a b : List Tree) → Adds Holds old mid a → Adds Holds mid new b
    → Adds Holds old new (a ++ b)
adds_more Holds old mid new a b first second = λ before held.
    subst (λ (all : List Tree). Holds new all) (append_assoc before a b) (second (before ++ a) (first before held))
