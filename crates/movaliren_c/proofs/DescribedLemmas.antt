-- Descriptions, item by item.
use Rattle.std.proofs.Common.{◌≡◌, ◌≤◌, ◌<◌, ◌+◌, ◌-◌, ◌++◌, ℕ, min, List, [], ◌∷◌, length, drop, take, get_or, map}
use Rattle.std.proofs.Common.{Option, Some, None, IfOk, IfSome, IsSomeAnd, MatchOption, Result, Ok, Err, sym, ap, ◌∙◌, arith, length-append, refl, subst, true, false}
use Rattle.std.specs.Prelude.{◌==◌, ◌&&◌, Bool, IsTrue, if◌then◌else◌, is_ok, nat_le, nat_lt, slice_range}
use Rattle.std.specs.Result.{result_unwrap_or}
use Rattle.std.specs.Str.{is_utf8}
use Rattle.std.specs.List.{list_all}
use Rattle.std.proofs.Math.Seq.{take-append_seam}
use Rattle.std.proofs.lemmas.Grind.{common_steps}
use Rattle.std.proofs.lemmas.List.{append-nil, at_drop_more}
use Rattle.std.proofs.lemmas.Str.{IsUtf8-from_ascii, is_utf8-from_IsUtf8}
use Rattle.movaliren_c.specs.Answer.{IsReasonFor, IsRefusedFor, IsText, Refuses}
use Rattle.movaliren_c.specs.Items.{EndsItem, IsPut, IsShown, IsWithinWidth, PutsOrLoses, Shows, as_one, component_of, described, item_tree, list_of, parted_tree, reason_before, tree_or_nothing}
use Rattle.movaliren_c.specs.Value.{with_value}
use Rattle.movaliren_c.specs.declared.answers.reason.Reason.{Reason}
use Rattle.movaliren_c.specs.declared.answers.reason.Reason.TheVariants as reason
use Rattle.movaliren_c.specs.declared.described.item.Item.{Item}
use Rattle.time_below.specs.Facts.{Facts}
use Rattle.time_below.specs.Tree.{Tree, trees, all_of, byte_literal, of_component}
use Rattle.time_below.specs.UsualParts.{year_part, month_part, day_part, hour_part, minute_part, second_part}
use Rattle.time_below.specs.Width.{component_width, is_guaranteed_text, tree_width, trees_width}
use Rattle.time_below.specs.declared.format_description.component.Component.{Component}
use Rattle.time_fmt.specs.Description.{tree_outcome, trees_outcome}
use Rattle.time_fmt.specs.Ends.{Ends, refusal_of}
use Rattle.time_fmt.specs.Guarantee.{AppendsTree, IsTextIf}
use Rattle.time_fmt.specs.declared.error.Format.{Format}
use Rattle.time_fmt.specs.declared.refused.Refused.{Refused}
use Rattle.time_fmt.specs.Outcome.{Names, Outcome, join}
use Rattle.time_fmt.specs.Sink.{Buffer, Puts}
use Rattle.time_fmt.specs.Steps.{IsWrittenUpTo}
use Rattle.time_fmt.specs.declared.runs.Run.TheVariants as run
use Rattle.time_fmt.proofs.Engine.{joined, width_joined}
use Rattle.time_fmt.specs.Runs.{three_parts}
use Rattle.time_fmt.proofs.GuaranteeLemmas.{ascii_test, empty_utf8, text_of_component}
use Rattle.time_fmt.proofs.RunLemmas.{three_are_text}
use Rattle.time_fmt.proofs.WriteLemmas.{join_done, join_nothing, join_refused, some_of}
use Rattle.time_plan.specs.Shown.{shown_tree}
use Rattle.time_plan.specs.declared.shown.Shown.{Shown}
use Rattle.time_plan.specs.declared.shown.Shown.TheVariants as shown

-- what is left of a list begins with the member at its index
next_of : {I A : Type 0} (f : I → Result A Reason) (items : List I) (i : ℕ) (d : I) → i < length items
    → list_of (map f (drop i items)) ≡ list_of (f (get_or items i d) ∷ map f (drop (i + 1) items))
next_of f items i d inside = at_drop_more (λ rest. list_of (map f rest)) items i d inside

pub next_there : {I A : Type 0} (f : I → Result A Reason) (items : List I) (i : ℕ) (d : I) (a : A) → i < length items
    → f (get_or items i d) ≡ Ok a
    → list_of (map f (drop i items)) ≡ with_value (list_of (map f (drop (i + 1) items))) (λ others. Ok (a ∷ others))
next_there f items i d a inside there = grind (arith, common_steps, next_of)

pub next_not_there : {I A : Type 0} (f : I → Result A Reason) (items : List I) (i : ℕ) (d : I) (r : Reason)
    → i < length items → f (get_or items i d) ≡ Err r → list_of (map f (drop i items)) ≡ Err r
next_not_there f items i d r inside none = grind (arith, common_steps, next_of)

-- ---- widths

-- what the items so far leave of the greatest width, less the width of the others, is what all leave
pub record Summed (greatest left : ℕ) (all others : Result (List Tree) Reason) : Type 0 where
  pub fits : left ≤ greatest
  pub same : with_value all (λ ts. Ok (min (trees_width (trees ts)) greatest)) ≡ with_value others (λ
      ts. Ok (greatest - (left - trees_width (trees ts))))

-- one item more
pub summed_more : {I : Type 0} (f : I → Result Tree Reason) (items : List I) (i : ℕ) (d : I) (t : Tree)
    (greatest left next : ℕ) (all : Result (List Tree) Reason) → i < length items → f (get_or items i d) ≡ Ok t
    → next ≡ left - tree_width t → Summed greatest left all (list_of (map f (drop i items)))
    → Summed greatest next all (list_of (map f (drop (i + 1) items)))
summed_more f items i d t greatest left next all inside there is summed = grind (arith, common_steps, next_there)

-- ---- texts

-- no component is wider
pub component_fits : (c : Component) → component_width c ≤ 18
component_fits c = grind (arith, common_steps)

-- nor is a date or a time of day
pub shown_fits : (s : Shown) → tree_width (shown_tree s) ≤ 18
shown_fits (shown.Component c) = component_fits c
shown_fits shown.Nothing = omega arith
shown_fits (shown.Run (run.Date between)) = omega arith
shown_fits (shown.Run (run.Time between)) = omega arith

-- a text that was put
pub put_once : (old new : Buffer) (text : List ℕ) → Puts old new (length text) text → PutsOrLoses old new 0 text
put_once old new text put = grind arith

-- a text that has no room
pub lost_whole : (b : Buffer) (n : ℕ) (text : List ℕ) → n ≡ length text → n ≤ 0xffff_ffff_ffff_ffff
    → b.block.capacity - b.len < n → PutsOrLoses b b n text
lost_whole b n text is small many = grind arith

-- what ended was put
pub ended : {u : Unit} (next : Result Tree Reason) (f : Facts) (now new : Buffer) → EndsItem next f now new (Ok u)
    → IsPut next f now new (Ok 0)
ended next f now new h = grind (arith, put_once)

ended_step : (item : Result Tree Reason) (f : Facts) (old new : Buffer) (answer : Result Unit Refused)
    → EndsItem item f old new answer
    → Ends (tree_width (tree_or_nothing item)) old new answer (tree_outcome (tree_or_nothing item) f)
ended_step (Ok t) f old new answer h = h
ended_step (Err r) f old new answer h = absurd h

-- what an item gives is a text, if its tree is sure to have one
abbrev HasText : Result Tree Reason → Facts → Type 0
HasText item f = IsTextIf (is_guaranteed_text (tree_or_nothing item)) (tree_outcome (tree_or_nothing item) f)

either_has : (b : Bool) (x y : Result Tree Reason) (f : Facts) → HasText x f → HasText y f → HasText (if b then x else y) f
either_has true x y f p q = p
either_has false x y f p q = q

literal_has : (bytes : List ℕ) (f : Facts) → HasText (Ok (byte_literal bytes)) f
literal_has bytes f = λ no. let never : ⊥ = cc in absurd never

component_has : (c : Result Component Reason) (f : Facts) → HasText (with_value c (λ c. Ok (of_component c))) f
component_has (Ok c) f = λ yes. text_of_component c f
component_has (Err r) f = λ yes. empty_utf8

ascii_text : (b : ℕ) → nat_lt b 128 ≡ true → is_utf8 (b ∷ []) ≡ true
ascii_text b small = is_utf8-from_IsUtf8 (b ∷ []) (IsUtf8-from_ascii (b ∷ []) (ascii_test (b ∷ []) (rw small refl)))

parted_has : (is_first is_second : Bool) (p q r : Component) (x y : ℕ) (f : Facts) → nat_lt x 128 ≡ is_first
    → nat_lt y 128 ≡ is_second → HasText (if is_first && is_second then Ok (three_parts p x q y r) else Err reason.BadItem) f
parted_has true true p q r x y f first second = three_are_text p q r x y f (ascii_text x first) (ascii_text y second)
parted_has true false p q r x y f first second = λ yes. empty_utf8
parted_has false is_second p q r x y f first second = λ yes. empty_utf8

item_has : (texts : List ℕ) (i : Item) (f : Facts) → HasText (item_tree texts i) f
item_has texts i f =
    let is_there = nat_le i.start (length texts) && nat_le i.len (length texts - i.start) in
    let bytes = slice_range texts i.start (i.start + i.len) in
    let date = parted_tree year_part month_part day_part i in
    let time = parted_tree hour_part minute_part second_part i in
    let component = with_value (component_of i) (λ c. Ok (of_component c)) in
    let none : HasText (Err reason.BadItem) f = λ yes. empty_utf8 in
    either_has (i.kind == 255) (if is_there then Ok (byte_literal bytes) else Err reason.BadItem)
    (if i.kind == 254 then Ok (byte_literal (i.byte ∷ [])) else (if i.kind == 253 then date else (if i.kind == 252 then time else component))) f
    (either_has is_there (Ok (byte_literal bytes)) (Err reason.BadItem) f (literal_has bytes f) none)
    (either_has (i.kind == 254) (Ok (byte_literal (i.byte ∷ []))) (if i.kind == 253 then date else (if i.kind == 252 then time else component)) f
    (literal_has (i.byte ∷ []) f)
    (either_has (i.kind == 253) date (if i.kind == 252 then time else component) f
    (parted_has (nat_lt i.start 128) (nat_lt i.len 128) year_part month_part day_part i.start i.len f refl refl)
    (either_has (i.kind == 252) time component f
    (parted_has (nat_lt i.start 128) (nat_lt i.len 128) hour_part minute_part second_part i.start i.len f refl refl)
    (component_has (component_of i) f))))

-- what ended is a valid step
pub leaf_of_item : (texts : List ℕ) (i : Item) (f : Facts) (old new : Buffer) (written : Option (Result Unit Refused))
    → MatchOption written (new ≡ old) (λ answer. EndsItem (item_tree texts i) f old new answer)
    → MatchOption written (new ≡ old) (AppendsTree (tree_or_nothing (item_tree texts i)) f old new)
leaf_of_item texts i f old new None same = same
leaf_of_item texts i f old new (Some answer) h = record {
  ends = ended_step (item_tree texts i) f old new answer h;
  text = item_has texts i f;
}

pub valid_item : (N : Type 0) (item : Result Tree Reason) (f : Facts) (old new : Buffer) (written : Option (Result Unit Refused))
    → MatchOption written N (λ answer. EndsItem item f old new answer) → IfSome written (λ answer. IsTrue (is_ok item))
valid_item N item f old new None h = tt
valid_item N (Ok t) f old new (Some answer) h = refl
valid_item N (Err r) f old new (Some answer) h = absurd h

-- ---- texts, one after another

put_both : (old now new : Buffer) (lost more total : ℕ) (a b : List ℕ) → PutsOrLoses old now lost a
    → PutsOrLoses now new more b → total ≡ min (lost + more) 0xffff_ffff_ffff_ffff → PutsOrLoses old new total (a ++ b)
put_both old now new lost more total a b first second sum = grind (arith, common_steps)

trees_put : (front next : List Tree) (f : Facts) (old now new : Buffer) (lost more total : ℕ)
    → IsPut (Ok (all_of (trees front))) f old now (Ok lost) → IsPut (Ok (all_of (trees next))) f now new (Ok more)
    → total ≡ min (lost + more) 0xffff_ffff_ffff_ffff → IsPut (Ok (all_of (trees (front ++ next)))) f old new (Ok total)
trees_put front next f old now new lost more total first second sum =
    let a = trees_outcome (trees front) f in
    let b = trees_outcome (trees next) f in
    rw (joined front next f, join_done a b first.0) (
      second.0,
      omega (arith, first.1, second.1, length-append a.bytes b.bytes, width_joined front next),
      put_both old now new lost more total a.bytes b.bytes first.2 second.2 sum,
    )

-- ---- the items so far

-- the trees that were put or lost are in front of those that are left
pub record SoFar (agrees : Type 0) (old now : Buffer) (lost : ℕ) (f : Facts)
    (all left : Result (List Tree) Reason) : Type 0 where
  pub state : agrees
  pub front : List Tree
  pub begin : all ≡ with_value left (λ others. Ok (front ++ others))
  pub put : IsPut (Ok (all_of (trees front))) f old now (Ok lost)

-- nothing was put before the first item
pub nothing_so_far : {agrees : Type 0} (now : Buffer) (f : Facts) (all : Result (List Tree) Reason) → agrees
    → SoFar agrees now now 0 f all all
nothing_so_far now f all state = grind (arith, put_once, append-nil)

further : (front next : List Tree) (behind : Result (List Tree) Reason)
    → with_value (with_value behind (λ others. Ok (next ++ others))) (λ others. Ok (front ++ others))
    ≡ with_value behind (λ others. Ok ((front ++ next) ++ others))
further front next behind = grind (arith, common_steps)

-- what was put or lost behind them is in front too
more_put : {before after : Type 0} (next : List Tree) (left behind : Result (List Tree) Reason) (old now new : Buffer)
    (lost more total : ℕ) (f : Facts) (all : Result (List Tree) Reason)
    → left ≡ with_value behind (λ others. Ok (next ++ others)) → after
    → IsPut (Ok (all_of (trees next))) f now new (Ok more) → total ≡ min (lost + more) 0xffff_ffff_ffff_ffff
    → SoFar before old now lost f all left → SoFar after old new total f all behind
more_put next left behind old now new lost more total f all begin state step sum so_far = record {
  state = state;
  front = so_far.front ++ next;
  begin = so_far.begin ∙ ap (λ left. with_value left (λ others. Ok (so_far.front ++ others))) begin
      ∙ further so_far.front next behind;
  put = trees_put so_far.front next f old now new lost more total so_far.put step sum;
}

alone_put : (t : Tree) (f : Facts) (old new : Buffer) (lost : ℕ) → IsPut (Ok t) f old new (Ok lost)
    → IsPut (Ok (all_of (trees (t ∷ [])))) f old new (Ok lost)
alone_put t f old new lost put = grind (arith, join_nothing)

-- an item whose text was put or lost
pub one_more : {before after : Type 0} {I : Type 0} (g : I → Result Tree Reason) (items behind : List I) (d : I)
    (next : Result Tree Reason) (old now new : Buffer) (lost more total : ℕ) (f : Facts) (all : Result (List Tree) Reason)
    → 1 ≤ length items → behind ≡ drop 1 items → g (get_or items 0 d) ≡ next → after
    → IsPut next f now new (Ok more) → total ≡ min (lost + more) 0xffff_ffff_ffff_ffff
    → SoFar before old now lost f all (list_of (map g items)) → SoFar after old new total f all (list_of (map g behind))
one_more g items behind d (Err r) old now new lost more total f all some is_behind there state step sum so_far =
    absurd (let e = step in cc)
one_more g items behind d (Ok t) old now new lost more total f all some is_behind there state step sum so_far =
    more_put (t ∷ []) (list_of (map g items)) (list_of (map g behind)) old now new lost more total f all
    (rw is_behind (next_there g items 0 d t (omega (arith, some)) there)) state (alone_put t f now new more step) sum so_far

one_listed : (next : Result Tree Reason) (are_valid : Bool) (items : List (Result Tree Reason)) (ts : List Tree)
    (behind : Result (List Tree) Reason) → (is_ok next && are_valid) ≡ true
    → (are_valid ≡ true → list_of items ≡ with_value behind (λ others. Ok (ts ++ others)))
    → list_of (next ∷ items) ≡ with_value behind (λ others. Ok (tree_or_nothing next ∷ (ts ++ others)))
one_listed (Ok t) are_valid items ts behind valid is =
    ap (λ (rest : Result (List Tree) Reason). with_value rest (λ others. Ok (t ∷ others))) (is valid) ∙ further (t ∷ []) ts behind
one_listed (Err r) are_valid items ts behind valid is = let no : false ≡ true = valid in let never : ⊥ = cc in absurd never

none_listed : (behind : Result (List Tree) Reason) → behind ≡ with_value behind (λ others. Ok others)
none_listed (Ok others) = refl
none_listed (Err r) = refl

-- valid items have trees, in front of those behind them
listed : {I : Type 0} (g : I → Result Tree Reason) (front behind : List I) → IsTrue (list_all (λ i. is_ok (g i)) front)
    → list_of (map g (front ++ behind))
    ≡ with_value (list_of (map g behind)) (λ others. Ok (map (λ i. tree_or_nothing (g i)) front ++ others))
listed g [] behind valid = none_listed (list_of (map g behind))
listed g (i ∷ is) behind valid =
    one_listed (g i) (list_all (λ i. is_ok (g i)) is) (map g (is ++ behind)) (map (λ i. tree_or_nothing (g i)) is)
    (list_of (map g behind)) valid (listed g is behind)

-- the items that the loop wrote
pub steps_more : {before after : Type 0} {I : Type 0} (g : I → Result Tree Reason) (items left : List I)
    (old now new : Buffer) (lost : ℕ) (f : Facts) (all : Result (List Tree) Reason) → after
    → IsWrittenUpTo (λ i. is_ok (g i)) (λ i. tree_or_nothing (g i)) f items left now new
    → SoFar before old now lost f all (list_of (map g items)) → SoFar after old new lost f all (list_of (map g left))
steps_more g items left old now new lost f all state up_to so_far =
    let next = map (λ i. tree_or_nothing (g i)) up_to.front in
    more_put next (list_of (map g items)) (list_of (map g left)) old now new lost 0 lost f all
    (ap (λ is. list_of (map g is)) up_to.whole ∙ listed g up_to.front left up_to.valid) state
    (ended (Ok (all_of (trees next))) f now new up_to.appends.ends) (omega (arith, so_far.put.2.small)) so_far

-- ---- what an item shows, in an array

-- it is the first bytes of an array that has room for it
in_array : (o : Outcome) (width count : ℕ) (before after : List ℕ) → Shows o width count before after
    → width ≤ length before → length before ≡ 18
    → (o.refusal ≡ None) × (length o.bytes ≤ width) × (take count after ≡ o.bytes)
in_array o width count before after shows fits many = grind (arith, take-append_seam)

-- so what was put of these bytes is what the item shows
pub array_put : (s : Shown) (f : Facts) (old new : Buffer) (lost count : ℕ) (before after : List ℕ)
    → Shows (tree_outcome (shown_tree s) f) (tree_width (shown_tree s)) count before after → length before ≡ 18
    → PutsOrLoses old new lost (take count after) → IsPut (Ok (shown_tree s)) f old new (Ok lost)
array_put s f old new lost count before after shows many put =
    let first = in_array (tree_outcome (shown_tree s) f) (tree_width (shown_tree s)) count before after shows
    (omega (arith, shown_fits s, many)) many in
    (first.0, first.1, subst (λ (bytes : List ℕ). PutsOrLoses old new lost bytes) first.2 put)

-- ---- the end

-- what is refused first is refused of both
refused_first : (a b : Outcome) (r : Reason) → IsRefusedFor r a → IsRefusedFor r (join a b)
refused_first a b r h = grind (arith, some_of, join_refused)

refused_of : (all behind : Result (List Tree) Reason) (front : List Tree) (t : Tree) (f : Facts) (r : Reason)
    (old new : Buffer) → (trees_outcome (trees front) f).refusal ≡ None → IsRefusedFor r (tree_outcome t f)
    → all ≡ with_value (with_value behind (λ others. Ok (t ∷ others))) (λ others. Ok (front ++ others))
    → IsPut (as_one all) f old new (Err (reason_before all r))
refused_of all behind front t f r old new h k l = grind (arith, joined, join_done, refused_first)

refused_in : {refused : Refused} (left all : Result (List Tree) Reason) (front next : List Tree) (f : Facts) (r : Reason)
    (old now mid new : Buffer) → ((ts : List Tree) → left ≡ Ok ts → ts ≡ next)
    → (trees_outcome (trees front) f).refusal ≡ None → AppendsTree (all_of (trees next)) f now mid (Err refused)
    → Refuses r (refusal_of refused) → all ≡ with_value left (λ others. Ok (front ++ others))
    → IsPut (as_one all) f old new (Err (reason_before all r))
refused_in (Err invalid) all front next f r old now mid new same complete appends why begin =
    let is : all ≡ Err invalid = begin in
    subst (λ (d : Result (List Tree) Reason). IsPut (as_one d) f old new (Err (reason_before d r))) (sym is) refl
refused_in {refused = refused} (Ok ts) all front next f r old now mid new same complete appends why begin =
    let is : all ≡ Ok (front ++ next) = begin ∙ ap (λ (others : List Tree). Ok (front ++ others)) (same ts refl) in
    let whole : (trees_outcome (trees (front ++ next)) f).refusal ≡ (trees_outcome (trees next) f).refusal =
    ap (λ (o : Outcome). o.refusal) (joined front next f ∙ join_done (trees_outcome (trees front) f) (trees_outcome (trees next) f) complete) in
    let there : (trees_outcome (trees (front ++ next)) f).refusal ≡ Some (refusal_of refused) =
    whole ∙ sym appends.ends.refusal in
    let names : IsSomeAnd (Some (refusal_of refused)) (Refuses r) = why in
    subst (λ (d : Result (List Tree) Reason). IsPut (as_one d) f old new (Err (reason_before d r))) (sym is)
    (subst (λ refusal. IsSomeAnd refusal (Refuses r)) (sym there) names)

-- an item ends all
pub stops_here : {agrees : Type 0} {I : Type 0} (g : I → Result Tree Reason) (items : List I) (d : I)
    (next : Result Tree Reason) (old now mid new : Buffer) (lost : ℕ) (f : Facts) (all : Result (List Tree) Reason) (r : Reason)
    → 1 ≤ length items → g (get_or items 0 d) ≡ next → IsPut next f now mid (Err r)
    → SoFar agrees old now lost f all (list_of (map g items)) → IsPut (as_one all) f old new (Err (reason_before all r))
stops_here g items d next old now mid new lost f all r h k l p =
    grind (arith, common_steps, refused_of, next_there, next_not_there)

behind_tree : (t : Tree) (rest : Result (List Tree) Reason) (ts all : List Tree)
    → ((others : List Tree) → rest ≡ Ok others → others ≡ all) → with_value rest (λ others. Ok (t ∷ others)) ≡ Ok ts
    → ts ≡ t ∷ all
behind_tree t (Ok others) ts all same is =
    sym (ap (λ (r : Result (List Tree) Reason). result_unwrap_or r []) is) ∙ ap (λ (rest : List Tree). t ∷ rest) (same others refl)
behind_tree t (Err r) ts all same is = let never : ⊥ = cc in absurd never

first_tree : (next : Result Tree Reason) (items : List (Result Tree Reason)) (ts all : List Tree)
    → ((others : List Tree) → list_of items ≡ Ok others → others ≡ all) → list_of (next ∷ items) ≡ Ok ts
    → ts ≡ tree_or_nothing next ∷ all
first_tree (Ok t) items ts all same is = behind_tree t (list_of items) ts all same is
first_tree (Err r) items ts all same is = let never : ⊥ = cc in absurd never

-- all items are valid, so each has its tree
all_listed : {I : Type 0} (g : I → Result Tree Reason) (items : List I) (ts : List Tree) → list_of (map g items) ≡ Ok ts
    → ts ≡ map (λ i. tree_or_nothing (g i)) items
all_listed g [] ts is = sym (ap (λ (r : Result (List Tree) Reason). result_unwrap_or r []) is)
all_listed g (i ∷ is) ts h =
    first_tree (g i) (map g is) ts (map (λ i. tree_or_nothing (g i)) is) (all_listed g is) h

-- a refusal in the loop ends all
pub refused_here : {agrees : Type 0} {refused : Refused} {I : Type 0} (g : I → Result Tree Reason) (items : List I)
    (old now mid new : Buffer) (lost : ℕ) (f : Facts) (all : Result (List Tree) Reason) (r : Reason)
    → AppendsTree (all_of (trees (map (λ i. tree_or_nothing (g i)) items))) f now mid (Err refused)
    → Refuses r (refusal_of refused) → SoFar agrees old now lost f all (list_of (map g items))
    → IsPut (as_one all) f old new (Err (reason_before all r))
refused_here g items old now mid new lost f all r appends why so_far =
    refused_in (list_of (map g items)) all so_far.front (map (λ i. tree_or_nothing (g i)) items) f r old now mid new
    (all_listed g items) so_far.put.0 appends why so_far.begin

-- a refusal that is named ends an item
pub ended_refused : (next : Result Tree Reason) (f : Facts) (now new : Buffer) (answer : Result Unit Refused)
    (refused : Refused) (e : Format) (r : Reason) → answer ≡ Err refused → EndsItem next f now new answer
    → Names e (refusal_of refused) → IsReasonFor r e → IsPut next f now new (Err r)
ended_refused next f now new answer refused e r h k l p = grind (arith, common_steps)

-- where no item is left, all are put or lost
pub all_put : {agrees : Type 0} {I : Type 0} (g : I → Result Tree Reason) (left : List I) (old now : Buffer) (lost : ℕ)
    (f : Facts) (all : Result (List Tree) Reason) → length left < 1 → SoFar agrees old now lost f all (list_of (map g left))
    → IsPut (as_one all) f old now (Ok lost)
all_put g [] old now lost f all none so_far =
    let is : all ≡ Ok so_far.front = so_far.begin ∙ ap Ok (append-nil so_far.front) in
    subst (λ (description : Result (List Tree) Reason). IsPut (as_one description) f old now (Ok lost)) (sym is) so_far.put
all_put g (i ∷ is) old now lost f all none so_far = let no : ⊥ = omega (arith, none) in absurd no

-- a reason is that of what is shown
pub refusal_shown : (all : Result (List Tree) Reason) (f : Facts) (r : Reason) (old new : Buffer) (before after : List ℕ)
    → IsPut (as_one all) f old new (Err r) → IsShown all f (Err r) before after
refusal_shown (Ok ts) f r old new before after h = h
refusal_shown (Err invalid) f r old new before after h = h

-- so they are shown at the start of the buffer
pub put_shown : (all : Result (List Tree) Reason) (f : Facts) (lost count : ℕ) (old new : Buffer) (before after : List ℕ)
    → IsPut (as_one all) f old new (Ok lost) → count ≡ min (new.len + lost) 0xffff_ffff_ffff_ffff → old.bytes ≡ []
    → old.len ≡ 0 → length before ≤ old.block.capacity → after ≡ new.bytes ++ drop (length new.bytes) before
    → IsShown all f (Ok count) before after
put_shown all f lost count old new before after h k l p q r = grind arith

-- ---- no text

-- no value
pub no_value : {V : Type 0} (description : Result (List Tree) Reason) (r : Reason) (facts : V → Facts)
    → described {V = V} description (Err r) facts ≡ Err (reason_before description r)
no_value description r facts = grind arith

-- too many bytes
pub no_room : {V : Type 0} (description : Result (List Tree) Reason) (v : V) (facts : V → Facts) (count : ℕ)
    (room before after : List ℕ) → IsShown description (facts v) (Ok count) before after → length room < count
    → IsText (described description (Ok v) facts) (Err reason.BufferTooSmall) room room
    × IfOk description (λ ts. IsWithinWidth (trees_width (trees ts)) (length room) (Err reason.BufferTooSmall))
no_room description v facts count room before after h k = grind (arith, common_steps)
