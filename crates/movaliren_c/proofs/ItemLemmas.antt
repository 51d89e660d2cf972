-- Items of a text, in an array and in what they show.
use Rattle.std.proofs.Common.{◌≡◌, ◌<◌, ◌≤◌, ◌+◌, ◌-◌, ◌++◌, ℕ, min, Bool, true, false, List, [], ◌∷◌, length, take, drop, drop-cons, set, get_or, Option, None, is_some, Result, Ok, Err, refl, sym, ap, ◌∙◌, subst, arith, ne_eqb}
use Rattle.std.specs.Prelude.{IsTrue, nat_le, slice_range, ◌==◌, ◌≢◌}
use Rattle.std.proofs.lemmas.Bool.{le-leb, leb-true}
use Rattle.std.proofs.lemmas.List.{append-nil, length-append, length-set}
use Rattle.movaliren_c.specs.Answer.{IsText}
use Rattle.movaliren_c.specs.Described.{DescribeNothing, Describes, HoldsIn, HoldsItems, HoldsListsIn, IsHeld, IsItem, IsItemOf, Leaves, few_in, fault_at, is_shown, items_in, no_item, shown}
use Rattle.movaliren_c.specs.Flat.{closed_at, flat, flat_items, hidden_at, or_at, shown_in}
use Rattle.movaliren_c.specs.Items.{component_of, date_component, described, item_tree, trees_of}
use Rattle.movaliren_c.specs.declared.described.item.Item.{Item}
use Rattle.movaliren_c.specs.declared.answers.reason.Reason.{Reason}
use Rattle.movaliren_c.specs.declared.described.syntax.ParseError.{ParseError}
use Rattle.movaliren_c.specs.declared.answers.reason.Reason.TheVariants as reason
use Rattle.time_below.specs.Conversion.{current_component, is_current}
use Rattle.time_below.specs.Facts.{Facts}
use Rattle.time_below.specs.Tree.{Tree, trees, all_of, byte_literal, of_component}
use Rattle.time_below.specs.declared.format_description.component.Component.{Component}
use Rattle.time_describe.specs.Description.{IsFound}
use Rattle.time_describe.specs.Items.{is_nil, items_of_parted}
use Rattle.time_describe.specs.Literal.{literal_of}
use Rattle.time_describe.specs.Reading as reading
use Rattle.time_describe.specs.Reading.{Frame}
use Rattle.time_describe.specs.declared.fault.Fault.{Fault}
use Rattle.time_describe.specs.declared.items.ListKind.{ListKind}
use Rattle.time_describe.specs.declared.items.Parted.{Parted}
use Rattle.time_fmt.specs.Description.{current_outcome, trees_outcome}
use Rattle.time_fmt.specs.Outcome.{done}
use Rattle.movaliren_c.proofs.FlatLemmas.{closed_hidden, closed_shown, flat_literal, flat_more, shown_hidden, shown_more}
use Rattle.movaliren_c.proofs.JoinLemmas.{literal_outcome, put_behind}
use Rattle.std.proofs.lemmas.Grind.{common_steps}

-- ---- one item

-- what parsers alone read makes no difference
shown_same : (c : Component) → IsTrue (is_current c) → (f : Facts) → current_outcome (current_component (shown c)) f ≡ current_outcome c f
shown_same c h f = grind (arith, common_steps)

-- nothing is written of these
nothing_shown : (c : Component) → is_shown c ≡ false → IsTrue (is_current c) → (f : Facts) → current_outcome c f ≡ done []
nothing_shown c h k f = grind arith

pub item_is_of : (text : List ℕ) (c : Component) (i : Item) → IsTrue (is_current (current_component c)) → IsItemOf (current_component c) i
    → IsItem text i (of_component c)
item_is_of text c i current is =
    let no_text : (i.kind == 255) ≡ false = ne_eqb i.kind 255 (λ h. omega (arith, is.kind)) in
    let no_byte : (i.kind == 254) ≡ false = ne_eqb i.kind 254 (λ h. omega (arith, is.kind)) in
    let no_date : (i.kind == 253) ≡ false = ne_eqb i.kind 253 (λ h. omega (arith, is.kind)) in
    let no_time : (i.kind == 252) ≡ false = ne_eqb i.kind 252 (λ h. omega (arith, is.kind)) in
    record {
      tree = of_component (shown (current_component c));
      there = rw (no_text, no_byte, no_date, no_time, is.component) refl;
      same = λ f. shown_same (current_component c) current f;
    }

abbrev pub text_of : ℕ → ℕ → Item
text_of start len = record { kind = 255; padding = 0; flag = 0; digits = 0; byte = 0; start = start; len = len }

pub text_is : (text : List ℕ) (start len : ℕ) → start + len ≤ length text → IsItem text (text_of start len) (literal_of (slice_range text start (start + len)))
text_is text start len fits = record {
  tree = byte_literal (slice_range text start (start + len));
  there = grind (arith, le-leb);
  same = λ f. literal_outcome (slice_range text start (start + len)) f;
}

abbrev pub byte_of : ℕ → Item
byte_of b = record { kind = 254; padding = 0; flag = 0; digits = 0; byte = b; start = 0; len = 0 }

pub byte_is : (text : List ℕ) (b : ℕ) → IsItem text (byte_of b) (literal_of (b ∷ []))
byte_is text b = record { tree = byte_literal (b ∷ []); there = refl; same = λ f. literal_outcome (b ∷ []) f }

one_byte : (text : List ℕ) (at : ℕ) → at < length text → slice_range text at (at + 1) ≡ get_or text at 0 ∷ []
one_byte text at within =
    let count : at + 1 - at ≡ 1 = omega arith in
    ap (λ (k : ℕ). take k (drop at text)) count ∙ ap (take 1) (drop-cons text at 0 within)

pub one_byte_is : (text : List ℕ) (start len : ℕ) → start + len ≤ length text → len ≡ 1
    → IsItem text (byte_of (get_or text start 0)) (literal_of (slice_range text start (start + len)))
one_byte_is text start len fits one =
    let own : slice_range text start (start + len) ≡ get_or text start 0 ∷ [] = rw one (one_byte text start (omega (arith, fits, one))) in
    subst (λ (bytes : List ℕ). IsItem text (byte_of (get_or text start 0)) (literal_of bytes)) (sym own) (byte_is text (get_or text start 0))

pub no_text_is : (text : List ℕ) (c : Component) → IsTrue (is_current (current_component c)) → is_shown (current_component c) ≡ false → IsItem text (text_of 0 0) (of_component c)
no_text_is text c current none = record {
  tree = byte_literal (slice_range text 0 (0 + 0));
  there = grind (arith, le-leb);
  same = λ f. sym (nothing_shown (current_component c) none current f);
}

-- ---- many items

-- an item more, in the place behind those that were made
pub item_stored : (text : List ℕ) (array : List Item) (made rest total others : ℕ) (i : Item) (all more : List Tree) → made < length array
    → total ≡ min (rest + others) 0xffff_ffff_ffff_ffff → length more ≡ others + 1 → IsItem text i (all_of (trees more))
    → HoldsItems text array made rest all → HoldsItems text (set array made i) (made + 1) total (all ++ more)
item_stored text array made rest total others i all more within sum size is holds = record {
  counted = omega (arith, sum, size, holds.counted, length-append all more);
  fewer = omega (arith, size, holds.fewer, length-append all more);
  held = λ room. put_behind text array made i all more within is
      (holds.held (omega (arith, room, length-set array made i, length-append all more)));
}

no_tree : (text : List ℕ) → item_tree text no_item ≡ Err reason.BadItem
unfolding component_of date_component
no_tree text = refl

-- an array whose first item is none
pub cleared : (array new : List Item) → (0 < length array → new ≡ set array 0 no_item) → length new ≡ length array → DescribeNothing new
cleared [] [] stored same = tt
cleared [] (y ∷ ys) stored same = absurd (omega (arith, same))
cleared (x ∷ xs) new stored same =
    let is : new ≡ no_item ∷ xs = stored (omega arith) in
    subst DescribeNothing (sym is) no_tree

-- ---- the items of a text

pub none_held : (text : List ℕ) (array : List Item) (made rest : ℕ) (hidden : Option ℕ) → made + rest ≡ 0 → hidden ≡ None → HoldsIn text [] array made rest hidden []
none_held text array made rest hidden none shown =
    let none_made : made ≡ 0 = omega (arith, none) in record {
      hidden = shown;
      held = record {
        counted = omega (arith, none);
        fewer = omega (arith, none);
        held = λ _. rw none_made (record { description = []; there = refl; same = λ f. refl });
      };
    }

pub all_held : {R : Type 0} (number : R → ℕ × ℕ) (text : List ℕ) (described : Result (List Tree) (Fault R)) (array : List Item) (made rest : ℕ) (hidden : Option ℕ)
    → IsFound described (HoldsIn text [] array made rest hidden) → IsHeld text (items_in number text described) array made rest
unfolding items_in
all_held number text described array made rest hidden found = grind arith

pub fault_told : {R : Type 0} (number : R → ℕ × ℕ) (text : List ℕ) (described : Result (List Tree) (Fault R)) (fault : Fault R)
    → described ≡ Err fault → items_in number text described ≡ Err (fault_at (length text - fault.left) (number fault.reason))
unfolding items_in
fault_told number text described fault is = rw is refl

-- ---- items in open lists

-- one item more is shown where each list is the first in its brackets
pub put_shown : (text : List ℕ) (fs : List Frame) (new : List Item) (made rest : ℕ) (hidden : Option ℕ) (items : List Tree) (t : Tree) → is_some hidden ≡ false → flat t ≡ t ∷ []
    → hidden ≡ hidden_at fs → HoldsItems text new made rest (shown_in fs (flat_items items) ++ t ∷ []) → HoldsIn text fs new made rest hidden (items ++ t ∷ [])
put_shown text fs new made rest hidden items t some leaf kept more =
    grind (arith, common_steps, flat_more, append-nil, shown_more)

-- and makes no difference where one is not
pub put_hidden : (text : List ℕ) (fs : List Frame) (array : List Item) (made rest : ℕ) (hidden : Option ℕ) (items : List Tree) (t : Tree) → is_some hidden ≡ true
    → HoldsIn text fs array made rest hidden items → HoldsIn text fs array made rest hidden (items ++ t ∷ [])
put_hidden text fs array made rest hidden items t h k = grind (arith, common_steps, shown_hidden)

-- items that are joined in fewer
pub fewer_held : (text : List ℕ) (fs : List Frame) (array new : List Item) (made rest next total : ℕ) (hidden : Option ℕ) (items : List Tree)
    → (made ≤ length array → (text : List ℕ) (all : List Tree) → Describes text (take made array) all → Describes text (take next new) all)
    → next ≤ made → length new ≡ length array → total ≡ min (rest + (made - next)) 0xffff_ffff_ffff_ffff
    → HoldsIn text fs array made rest hidden items → HoldsIn text fs new next total hidden items
fewer_held text fs array new made rest next total hidden items joined few same sum holds = record {
  hidden = holds.hidden;
  held = record {
    counted = omega (arith, few, sum, holds.held.counted);
    fewer = omega (arith, few, holds.held.fewer);
    held = λ room.
        let within : made ≤ length array = omega (arith, room, same, holds.held.fewer) in
        joined within text _ (holds.held.held (omega (arith, room, same)));
  };
}

parted_flat : (p : Parted) → flat_items (items_of_parted p) ≡ items_of_parted p
parted_flat p =
    ap (λ (ts : List Tree). of_component p.first ∷ (ts ++ (of_component p.second ∷ (flat (literal_of (p.before_third ∷ [])) ++ of_component p.third ∷ []))))
    (flat_literal (p.before_second ∷ []))
    ∙ ap (λ (ts : List Tree). of_component p.first ∷ literal_of (p.before_second ∷ []) ∷ of_component p.second ∷ (ts ++ of_component p.third ∷ []))
    (flat_literal (p.before_third ∷ []))

-- five items at once, where no list is open
pub parted_put : (text : List ℕ) (new : List Item) (made rest : ℕ) (hidden : Option ℕ) (items : List Tree) (p : Parted) → hidden ≡ None
    → HoldsItems text new made rest (flat_items items ++ items_of_parted p) → HoldsIn text [] new made rest hidden (items ++ items_of_parted p)
parted_put text new made rest hidden items p none holds =
    let flat_all : flat_items (items ++ items_of_parted p) ≡ flat_items items ++ items_of_parted p =
    flat_more items (items_of_parted p) ∙ ap (λ (ts : List Tree). flat_items items ++ ts) (parted_flat p) in
    record { hidden = none; held = subst (λ (ts : List Tree). HoldsItems text new made rest ts) (sym flat_all) holds }

pub begun : (text : List ℕ) (fs : List Frame) (array : List Item) (made rest : ℕ) (hidden : Option ℕ) (items : List Tree) → HoldsIn text fs array made rest hidden items
    → HoldsListsIn text fs items array made rest hidden []
begun text fs array made rest hidden items holds = grind (arith, append-nil)

pub opened : (text : List ℕ) (f : Frame) (fs : List Frame) (array : List Item) (made rest depth : ℕ) (hidden new : Option ℕ) (is_first : Bool) → depth ≡ length fs
    → is_first ≡ is_nil f.lists → new ≡ or_at hidden is_first depth → HoldsListsIn text fs f.items array made rest hidden f.lists → HoldsIn text (f ∷ fs) array made rest new []
opened text f fs array made rest depth hidden new is_first deep first is holds = grind arith

pub closed : (text : List ℕ) (f : Frame) (fs : List Frame) (array : List Item) (made rest depth : ℕ) (hidden new : Option ℕ) (items : List Tree) → depth ≡ length fs
    → new ≡ closed_at hidden depth → HoldsIn text (f ∷ fs) array made rest hidden items
    → HoldsListsIn text fs f.items array made rest new (f.lists ++ all_of (trees items) ∷ [])
closed text f fs array made rest depth hidden new items deep is holds = grind (arith, closed_hidden, closed_shown)

pub ended : (text : List ℕ) (fs : List Frame) (kind : ListKind) (items lists : List Tree) (array : List Item) (made rest left : ℕ) (hidden : Option ℕ) (item : Tree)
    → HoldsListsIn text fs items array made rest hidden lists → reading.nested kind lists left ≡ Ok item → HoldsIn text fs array made rest hidden (items ++ item ∷ [])
ended text fs kind items lists array made rest left hidden item holds is = grind (arith, common_steps, append-nil, flat_more)

-- ---- what a call leaves

-- all items of a text are in an array
complete : (text : List ℕ) (all : List Tree) (array : List Item) (made rest : ℕ) (old : ParseError)
    → HoldsItems text array made rest all → nat_le (min (made + rest) 0xffff_ffff_ffff_ffff) (length array) ≡ true
    → length array < 0xffff_ffff_ffff_ffff → Leaves text (Ok all) (Ok made) array old old
complete text all array made rest old held fits bound =
    let le : length all ≤ length array = omega (arith, leb-true (min (made + rest) 0xffff_ffff_ffff_ffff) (length array) fits, bound, held.counted) in
    rw (le-leb (length all) (length array) le) ((held.fewer, held.held le), refl)

pub left_complete : (text : List ℕ) (d : Result (List Tree) ParseError) (room array : List Item) (made rest left : ℕ) (old : ParseError)
    → IsHeld text d room made rest → array ≡ room → left ≡ made → nat_le (min (made + rest) 0xffff_ffff_ffff_ffff) (length room) ≡ true
    → length room < 0xffff_ffff_ffff_ffff → Leaves text d (Ok left) array old old
left_complete text d room array made rest left old held is_room is_made fits bound =
    rw (is_room, is_made) (subst (λ (it : Result (List Tree) ParseError). Leaves text it (Ok made) room old old) (sym held.is)
    (complete text held.all room made rest old held.held fits bound))

-- ---- a text that is formatted at once

same_by : {A : Type 0} (description all : List Tree) (value : Result A Reason) (facts : A → Facts)
    → ((f : Facts) → trees_outcome (trees description) f ≡ trees_outcome (trees all) f)
    → described (Ok all) value facts ≡ described (Ok description) value facts
same_by description all (Ok v) facts same = ap Ok (sym (same (facts v)))
same_by description all (Err r) facts same = refl

-- so a text of the items is one of the text
pub text_shown : {A : Type 0} (text : List ℕ) (d : Result (List Tree) ParseError) (count most : ℕ) (items : List Item) (old new : ParseError)
    (value : Result A Reason) (facts : A → Facts) (answer : Result ℕ Reason) (before after : List ℕ) → length items ≤ most
    → Leaves text d (Ok count) items old new
    → IsText (described (trees_of text (take count items)) value facts) answer before after
    → IsText (described (few_in most d) value facts) answer before after
text_shown text d count most items old new value facts answer before after small h =
    grind (arith, common_steps, leb-true, le-leb, same_by)

-- or there is the same reason for none
pub text_refused : (text : List ℕ) (d : Result (List Tree) ParseError) (r : Reason) (items : List Item) (old new : ParseError) → Leaves text d (Err r) items old new
    → few_in (length items) d ≡ Err r
text_refused text d r items old new h = grind (arith, common_steps)

-- a fault is the same, however many items there may be
pub text_faulty : (text : List ℕ) (d : Result (List Tree) ParseError) (r : Reason) (most : ℕ) (items : List Item) (old new : ParseError)
    → r ≢ reason.ManyItems → Leaves text d (Err r) items old new → few_in most d ≡ Err r
text_faulty text d r most items old new h k = grind (arith, common_steps)
