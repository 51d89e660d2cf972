-- Dates and times of day among items, each joined in one item.
use Rattle.std.proofs.Common.{◌≡◌, ◌<◌, ◌≤◌, ◌+◌, ◌-◌, ◌++◌, ℕ, List, [], ◌∷◌, length, take, drop, set, get_or, map, false, Option, Some, None, Result, Ok, Err, refl, sym, ap, subst, ◌∙◌, arith, ne_eqb}
use Rattle.std.specs.Prelude.{◌==◌, IfSome}
use Rattle.std.proofs.lemmas.Bool.{lt-ltb}
use Rattle.std.proofs.lemmas.Grind.{common_steps}
use Rattle.std.proofs.lemmas.List.{append-nil, length-take, map-append, take_all, take_more_set}
use Rattle.std.proofs.Math.Seq.{take-add}
use Rattle.movaliren_c.proofs.MeaningLemmas.{same_value, value_of_given}
use Rattle.movaliren_c.specs.Described.{Describes, IsItem, Joins, item_of_run}
use Rattle.movaliren_c.specs.Items.{component_of, item_tree, list_of, trees_of}
use Rattle.movaliren_c.specs.Value.{with_value}
use Rattle.movaliren_c.specs.declared.answers.reason.Reason.{Reason}
use Rattle.movaliren_c.specs.declared.described.item.Item.{Item}
use Rattle.time_below.specs.Facts.{Facts}
use Rattle.time_below.specs.Tree.{Tree, trees, all_of, byte_literal, of_component}
use Rattle.time_below.specs.declared.format_description.component.Component.{Component}
use Rattle.time_describe.specs.Items.{items_of_parted}
use Rattle.time_describe.specs.Literal.{literal_of}
use Rattle.time_describe.specs.declared.items.Parted.{Parted}
use Rattle.time_fmt.proofs.Engine.{joined}
use Rattle.time_fmt.proofs.WriteLemmas.{join_nothing}
use Rattle.time_fmt.specs.Description.{tree_outcome, trees_outcome}
use Rattle.time_fmt.specs.Outcome.{Outcome, done, join}
use Rattle.time_fmt.specs.Runs.{run_tree, three_parts}
use Rattle.time_fmt.specs.declared.runs.Run.{Run}
use Rattle.time_fmt.specs.declared.runs.Run.TheVariants as run

-- ---- values of two lists

-- the values of both are those of the one, and then those of the other
record BothListed {A : Type 0} (xs ys : List (Result A Reason)) (vs : List A) : Type 0 where
  pub front : List A
  pub rest : List A
  pub first : list_of xs ≡ Ok front
  pub second : list_of ys ≡ Ok rest
  pub parts : vs ≡ front ++ rest

listed_apart : {A : Type 0} (xs ys : List (Result A Reason)) (vs : List A) → list_of (xs ++ ys) ≡ Ok vs → BothListed xs ys vs
listed_apart [] ys vs h = record { front = []; rest = vs; first = refl; second = h; parts = refl }
listed_apart (Err r ∷ xs) ys vs h = grind (arith, common_steps)
listed_apart {A} (Ok x ∷ xs) ys vs h =
    let given = value_of_given (list_of (xs ++ ys)) (λ others. Ok (x ∷ others)) vs h in
    let both = listed_apart xs ys given.0 given.1 in record {
      front = x ∷ both.front;
      rest = both.rest;
      first = rw both.first refl;
      second = both.second;
      parts = sym (same_value (x ∷ given.0) vs given.2) ∙ ap (λ (others : List A). x ∷ others) both.parts;
    }

listed_together : {A : Type 0} (xs ys : List (Result A Reason)) (us vs : List A) → list_of xs ≡ Ok us → list_of ys ≡ Ok vs
    → list_of (xs ++ ys) ≡ Ok (us ++ vs)
listed_together [] ys us vs h k = k ∙ ap (λ front. Ok (front ++ vs)) (same_value [] us h)
listed_together (Err r ∷ xs) ys us vs h k = grind (arith, common_steps)
listed_together (Ok x ∷ xs) ys us vs h k =
    let given = value_of_given (list_of xs) (λ others. Ok (x ∷ others)) us h in
    ap (λ listed. with_value listed (λ others. Ok (x ∷ others))) (listed_together xs ys given.0 vs given.1 k)
    ∙ ap (λ front. Ok (front ++ vs)) (same_value (x ∷ given.0) us given.2)

-- ---- one item in the place of five

same_behind : (front : List Tree) (tree : Tree) (shown rest : List Tree) (f : Facts)
    → tree_outcome tree f ≡ trees_outcome (trees shown) f
    → trees_outcome (trees (front ++ (tree ∷ rest))) f ≡ trees_outcome (trees (front ++ (shown ++ rest))) f
same_behind front tree shown rest f same =
    joined front (tree ∷ rest) f
    ∙ ap (λ (o : Outcome). join (trees_outcome (trees front) f) (join o (trees_outcome (trees rest) f))) same
    ∙ ap (join (trees_outcome (trees front) f)) (sym (joined shown rest f))
    ∙ sym (joined front (shown ++ rest) f)

trees_apart : (text : List ℕ) (a b : List Item) (vs : List Tree) → trees_of text (a ++ b) ≡ Ok vs
    → BothListed (map (item_tree text) a) (map (item_tree text) b) vs
trees_apart text a b vs h =
    listed_apart (map (item_tree text) a) (map (item_tree text) b) vs (ap list_of (sym (map-append (item_tree text) a b)) ∙ h)

pub described_joined : (text : List ℕ) (front five rest : List Item) (i : Item) (all : List Tree) → Joins text five i
    → Describes text (front ++ (five ++ rest)) all → Describes text (front ++ (i ∷ rest)) all
described_joined text front five rest i all joins d =
    let first = trees_apart text front (five ++ rest) d.description d.there in
    let second = listed_apart (map (item_tree text) five) (map (item_tree text) rest) first.rest
    (ap list_of (sym (map-append (item_tree text) five rest)) ∙ first.second) in
    let is_shown : second.front ≡ joins.shown = same_value second.front joins.shown (sym second.first ∙ joins.there) in
    let parts : d.description ≡ first.front ++ (joins.shown ++ second.rest) =
    first.parts ∙ ap (λ (b : List Tree). first.front ++ b)
    (second.parts ∙ ap (λ (a : List Tree). a ++ second.rest) is_shown) in
    let behind : list_of (map (item_tree text) (i ∷ rest)) ≡ Ok (joins.one.tree ∷ second.rest) =
    rw (joins.one.there, second.second) refl in record {
      description = first.front ++ (joins.one.tree ∷ second.rest);
      there = ap list_of (map-append (item_tree text) front (i ∷ rest))
          ∙ listed_together (map (item_tree text) front) (map (item_tree text) (i ∷ rest)) first.front
          (joins.one.tree ∷ second.rest) first.first behind;
      same = λ f. same_behind first.front joins.one.tree joins.shown second.rest f (joins.one.same f)
          ∙ ap (λ (ts : List Tree). trees_outcome (trees ts) f) (sym parts) ∙ d.same f;
    }

-- one item that shows a tree shows it as all there is
pub one_shown : (text : List ℕ) (i : Item) (t : Tree) → IsItem text i t → IsItem text i (all_of (trees (t ∷ [])))
one_shown text i t is = record {
  tree = is.tree;
  there = is.there;
  same = λ f. is.same f ∙ sym (join_nothing (tree_outcome t f));
}

-- one item more, which shows these trees
described_more : (text : List ℕ) (front : List Item) (i : Item) (all ts : List Tree) → IsItem text i (all_of (trees ts))
    → Describes text front all → Describes text (front ++ i ∷ []) (all ++ ts)
described_more text front i all ts is d =
    let last : list_of (map (item_tree text) (i ∷ [])) ≡ Ok (is.tree ∷ []) = rw is.there refl in record {
      description = d.description ++ is.tree ∷ [];
      there = ap list_of (map-append (item_tree text) front (i ∷ []))
          ∙ listed_together (map (item_tree text) front) (map (item_tree text) (i ∷ [])) d.description (is.tree ∷ []) d.there last;
      same = λ f. joined d.description (is.tree ∷ []) f
          ∙ ap (λ (o : Outcome). join o (trees_outcome (trees (is.tree ∷ [])) f)) (d.same f)
          ∙ ap (join (trees_outcome (trees all) f)) (join_nothing (tree_outcome is.tree f) ∙ is.same f)
          ∙ sym (joined all ts f);
    }

-- in its place of an array
pub put_behind : (text : List ℕ) (array : List Item) (made : ℕ) (i : Item) (all ts : List Tree) → made < length array
    → IsItem text i (all_of (trees ts)) → Describes text (take made array) all
    → Describes text (take (made + 1) (set array made i)) (all ++ ts)
put_behind text array made i all ts within is d =
    subst (λ (items : List Item). Describes text items (all ++ ts)) (sym (take_more_set array made i within))
    (described_more text (take made array) i all ts is d)

-- ---- literals

pub literal_outcome : (bytes : List ℕ) (f : Facts) → done bytes ≡ tree_outcome (literal_of bytes) f
unfolding literal_of
literal_outcome bytes f = grind (arith, common_steps)

-- ---- the five items

pub component_there : (text : List ℕ) (i : Item) (c : Component) → i.kind < 252 → component_of i ≡ Ok c → item_tree text i ≡ Ok (of_component c)
component_there text i c small is =
    let no_text : (i.kind == 255) ≡ false = ne_eqb i.kind 255 (λ h. omega (arith, small)) in
    let no_byte : (i.kind == 254) ≡ false = ne_eqb i.kind 254 (λ h. omega (arith, small)) in
    let no_date : (i.kind == 253) ≡ false = ne_eqb i.kind 253 (λ h. omega (arith, small)) in
    let no_time : (i.kind == 252) ≡ false = ne_eqb i.kind 252 (λ h. omega (arith, small)) in
    rw (no_text, no_byte, no_date, no_time, is) refl

-- a date or a time of day with bytes of ASCII between its parts is the tree of its item
run_there : (text : List ℕ) (it : Run) (p q r : Component) (x y : ℕ) → run_tree it ≡ three_parts p x q y r → x < 128 → y < 128
    → item_tree text (item_of_run it) ≡ Ok (three_parts p x q y r)
run_there text (run.Date between) p q r x y is small_x small_y =
    let first : between.first ≡ x = cc in
    let second : between.second ≡ y = cc in
    rw (first, second, lt-ltb x 128 small_x, lt-ltb y 128 small_y) (ap Ok (rw (first, second) at is))
run_there text (run.Time between) p q r x y is small_x small_y =
    let first : between.first ≡ x = cc in
    let second : between.second ≡ y = cc in
    rw (first, second, lt-ltb x 128 small_x, lt-ltb y 128 small_y) (ap Ok (rw (first, second) at is))

parted_same : (p : Parted) (f : Facts)
    → tree_outcome (three_parts p.first p.before_second p.second p.before_third p.third) f ≡ trees_outcome (trees (items_of_parted p)) f
parted_same p f =
    let last = join (tree_outcome (of_component p.third) f) (done []) in
    ap (λ (o : Outcome). join (tree_outcome (of_component p.first) f) (join o (join (tree_outcome (of_component p.second) f) (join (done (p.before_third ∷ [])) last))))
    (literal_outcome (p.before_second ∷ []) f)
    ∙ ap (λ (o : Outcome). join (tree_outcome (of_component p.first) f) (join (tree_outcome (literal_of (p.before_second ∷ [])) f)
    (join (tree_outcome (of_component p.second) f) (join o last)))) (literal_outcome (p.before_third ∷ []) f)

-- and shows what these do
run_shows : (text : List ℕ) (it : Run) (p : Parted) → run_tree it ≡ three_parts p.first p.before_second p.second p.before_third p.third
    → p.before_second < 128 → p.before_third < 128 → IsItem text (item_of_run it) (all_of (trees (items_of_parted p)))
run_shows text it p is small_second small_third = record {
  tree = three_parts p.first p.before_second p.second p.before_third p.third;
  there = run_there text it p.first p.second p.third p.before_second p.before_third is small_second small_third;
  same = λ f. parted_same p f;
}

pub runs_show : (found : Option Run) (p : Parted) → IfSome found (λ it. run_tree it ≡ three_parts p.first p.before_second p.second p.before_third p.third)
    → p.before_second < 128 → p.before_third < 128
    → IfSome found (λ it. (text : List ℕ) → IsItem text (item_of_run it) (all_of (trees (items_of_parted p))))
runs_show None p is small_second small_third = tt
runs_show (Some it) p is small_second small_third = λ text. run_shows text it p is small_second small_third

first_five : (items : List Item) (i : Item) → 5 ≤ length items
    → take 5 items ≡ get_or items 0 i ∷ get_or items 1 i ∷ get_or items 2 i ∷ get_or items 3 i ∷ get_or items 4 i ∷ []
first_five [] i five = absurd (omega arith)
first_five (a ∷ []) i five = absurd (omega arith)
first_five (a ∷ b ∷ []) i five = absurd (omega arith)
first_five (a ∷ b ∷ c ∷ []) i five = absurd (omega arith)
first_five (a ∷ b ∷ c ∷ d ∷ []) i five = absurd (omega arith)
first_five (a ∷ b ∷ c ∷ d ∷ e ∷ rest) i five = refl

pub five_joined : (text : List ℕ) (items : List Item) (other i : Item) (p : Parted) → 5 ≤ length items
    → item_tree text (get_or items 0 other) ≡ Ok (of_component p.first)
    → item_tree text (get_or items 1 other) ≡ Ok (byte_literal (p.before_second ∷ []))
    → item_tree text (get_or items 2 other) ≡ Ok (of_component p.second)
    → item_tree text (get_or items 3 other) ≡ Ok (byte_literal (p.before_third ∷ []))
    → item_tree text (get_or items 4 other) ≡ Ok (of_component p.third)
    → IsItem text i (all_of (trees (items_of_parted p))) → Joins text (take 5 items) i
five_joined text items other i p five is_first is_before_second is_second is_before_third is_third is = record {
  shown = of_component p.first ∷ byte_literal (p.before_second ∷ []) ∷ of_component p.second ∷ byte_literal (p.before_third ∷ []) ∷ of_component p.third ∷ [];
  there = ap (trees_of text) (first_five items other five)
      ∙ rw (is_first, is_before_second, is_second, is_before_third, is_third) refl;
  one = record {
    tree = is.tree;
    there = is.there;
    same = λ f. is.same f ∙ sym (parted_same p f);
  };
}

-- one item in the place of the last five
pub last_joined : (text : List ℕ) (array : List Item) (made : ℕ) (whole : Item) (all : List Tree) → 5 ≤ made → made ≤ length array
    → Joins text (take 5 (take (made - (made - 5)) (drop (made - 5) array))) whole
    → Describes text (take made array) all → Describes text (take (made - 4) (set array (made - 5) whole)) all
last_joined text array made whole all five_made within joins d =
    let from = made - 5 in
    let five = take 5 (drop from array) in
    let size : made - from ≡ 5 = omega (arith, five_made) in
    let left : take 5 (take (made - from) (drop from array)) ≡ five =
    ap (λ (n : ℕ). take 5 (take n (drop from array))) size ∙ take_all 5 five (omega (arith, length-take 5 (drop from array))) in
    let count : made ≡ from + 5 = omega (arith, five_made) in
    let one : made - 4 ≡ from + 1 = omega (arith, five_made) in
    let inside : from < length array = omega (arith, five_made, within) in
    let parts : take made array ≡ take from array ++ (five ++ []) =
    ap (λ (n : ℕ). take n array) count ∙ take-add from 5 array ∙ ap (λ (rest : List Item). take from array ++ rest) (sym (append-nil five)) in
    let new : take (made - 4) (set array from whole) ≡ take from array ++ whole ∷ [] =
    ap (λ (n : ℕ). take n (set array from whole)) one ∙ take_more_set array from whole inside in
    subst (λ (items : List Item). Describes text items all) (sym new)
    (described_joined text (take from array) five [] whole all (subst (λ (items : List Item). Joins text items whole) left joins)
    (subst (λ (items : List Item). Describes text items all) parts d))
