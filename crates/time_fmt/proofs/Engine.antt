-- Steps one after another: what those in front give, and what the next one gives, is what all up to there give.
use Rattle.std.proofs.Common.{◌≡◌, ap, sym, ◌∙◌, arith, ℕ, ◌+◌, ◌<◌, ◌≤◌, ◌++◌, Bool, true, ◌&&◌, List, [], ◌∷◌, map, drop, length}
use Rattle.std.proofs.Common.{append_assoc, get_or, length-append, refl, subst, Some, None, Result, Ok, Err}
use Rattle.std.specs.Prelude.{IsTrue, IsUtf8, slice_get}
use Rattle.std.specs.List.{list_all}
use Rattle.std.proofs.lemmas.Bool.{and_from, and_parts}
use Rattle.std.proofs.lemmas.List.{append-nil, at_drop_more, map-append}
use Rattle.std.proofs.lemmas.List.Folds.{list_all-append}
use Rattle.time_below.proofs.NodeLemmas.{and_assoc}
use Rattle.time_below.specs.Facts.{Facts}
use Rattle.time_below.specs.Size.{sizes}
use Rattle.time_below.specs.Tree.{Tree, Trees, trees, byte_literal, all_of, end, first_of, nothing, more}
use Rattle.time_below.specs.Width.{tree_width, trees_width, is_guaranteed_text, are_guaranteed_text}
use Rattle.time_fmt.specs.declared.refused.Refused.{Refused}
use Rattle.time_fmt.specs.Description.{tree_outcome, trees_outcome}
use Rattle.time_fmt.specs.Ends.{Ends, refusal_of}
use Rattle.time_fmt.specs.Guarantee.{IsTextIf, AppendsTree}
use Rattle.time_fmt.specs.Outcome.{Outcome, join}
use Rattle.time_fmt.specs.Sink.{Block, Buffer, Fits, Puts}
use Rattle.time_fmt.specs.Steps.{IsWrittenUpTo}
use Rattle.time_fmt.proofs.EndLemmas.{whole_text}
use Rattle.time_fmt.proofs.WriteLemmas.{join_assoc, join_done, join_nothing, join_refused}
use Rattle.time_fmt.proofs.GuaranteeLemmas.{text_both, text_more, empty_utf8}
use Rattle.std.proofs.lemmas.Grind.{common_steps}

-- ---- what is left of a list

-- what is left of a list begins with the step at its index
pub left_at : {A : Type 0} (steps : List A) (i : ℕ) (x : A) → i < length steps → x ≡ get_or steps i x
    → drop i steps ≡ x ∷ drop (i + 1) steps
left_at steps i x h is =
    at_drop_more (λ rest. rest) steps i x h ∙ ap (λ y. y ∷ drop (i + 1) steps) (sym is)

-- the first of a list, and the others
pub first_of_rest : {A : Type 0} (steps others : List A) (x : A) → 1 ≤ length steps → x ≡ get_or steps 0 x
    → others ≡ drop 1 steps → steps ≡ x ∷ others
first_of_rest steps others x some is are =
    left_at steps 0 x (omega (arith, some)) is ∙ ap (λ rest. x ∷ rest) (sym are)

-- what is behind is no larger
smaller_behind : {A : Type 0} (size : A → ℕ) (front left : List A) → sizes (map size left) ≤ sizes (map size (front ++ left))
smaller_behind size [] left = omega arith
smaller_behind size (x ∷ xs) left = omega (arith, smaller_behind size xs left)

-- ---- lists of trees

pub joined : (a b : List Tree) (f : Facts) → trees_outcome (trees (a ++ b)) f ≡ join (trees_outcome (trees a) f) (trees_outcome (trees b) f)
joined [] b f = refl
joined (t ∷ ts) b f =
    ap (join (tree_outcome t f)) (joined ts b f)
    ∙ sym (join_assoc (tree_outcome t f) (trees_outcome (trees ts) f) (trees_outcome (trees b) f))

pub width_joined : (a b : List Tree) → trees_width (trees (a ++ b)) ≡ trees_width (trees a) + trees_width (trees b)
width_joined [] b = omega arith
width_joined (t ∷ ts) b = omega (arith, width_joined ts b)

text_joined : (a b : List Tree) → are_guaranteed_text (trees (a ++ b))
    ≡ (are_guaranteed_text (trees a) && are_guaranteed_text (trees b))
text_joined [] b = refl
text_joined (t ∷ ts) b =
    ap (λ others. is_guaranteed_text t && others) (text_joined ts b)
    ∙ sym (and_assoc (is_guaranteed_text t) (are_guaranteed_text (trees ts)) (are_guaranteed_text (trees b)))

-- one list is appended after the other
appends_both : {u : Unit} {answer : Result Unit Refused} (a b : List Tree) (f : Facts) (old mid new : Buffer)
    → AppendsTree (all_of (trees a)) f old mid (Ok u) → AppendsTree (all_of (trees b)) f mid new answer
    → AppendsTree (all_of (trees (a ++ b))) f old new answer
appends_both {answer = answer} a b f old mid new first second =
    let o = trees_outcome (trees a) f in
    let p = trees_outcome (trees b) f in
    let is : trees_outcome (trees (a ++ b)) f ≡ record { bytes = o.bytes ++ p.bytes; refusal = p.refusal } =
    joined a b f ∙ join_done o p (sym first.ends.refusal) in
    let width = trees_width (trees (a ++ b)) in
    let ends : Ends width old new answer (record { bytes = o.bytes ++ p.bytes; refusal = p.refusal }) = record {
      appended = second.ends.appended ∙ ap (λ (bs : List ℕ). bs ++ p.bytes) first.ends.appended
          ∙ append_assoc old.bytes o.bytes p.bytes;
      refusal = second.ends.refusal;
      grown = omega (arith, first.ends.grown, second.ends.grown, length-append o.bytes p.bytes);
      block = second.ends.block ∙ first.ends.block;
      within = omega (arith, first.ends.within, second.ends.within, width_joined a b);
    } in
    let is_text : IsTextIf (are_guaranteed_text (trees a) && are_guaranteed_text (trees b)) (join o p) =
    text_both (are_guaranteed_text (trees a)) (are_guaranteed_text (trees b)) o p first.text second.text in
    record {
      ends = subst (λ (q : Outcome). Ends width old new answer q) (sym is) ends;
      text = subst (λ is_guaranteed. IsTextIf is_guaranteed (trees_outcome (trees (a ++ b)) f)) (sym (text_joined a b))
          (subst (λ (q : Outcome). IsTextIf (are_guaranteed_text (trees a) && are_guaranteed_text (trees b)) q)
          (sym (joined a b f)) is_text);
    }

-- so is one tree
appends_one : {answer : Result Unit Refused} (t : Tree) (f : Facts) (old new : Buffer) → AppendsTree t f old new answer
    → AppendsTree (all_of (trees (t ∷ []))) f old new answer
appends_one {answer = answer} t f old new step =
    let width = trees_width (trees (t ∷ [])) in
    let ends : Ends width old new answer (tree_outcome t f) = record {
      appended = step.ends.appended;
      refusal = step.ends.refusal;
      grown = step.ends.grown;
      block = step.ends.block;
      within = omega (arith, step.ends.within);
    } in
    record {
      ends = subst (λ (o : Outcome). Ends width old new answer o) (sym (join_nothing (tree_outcome t f))) ends;
      text = text_more t end f step.text (λ none. empty_utf8);
    }

-- nothing behind a tree that is refused is appended
appends_refused : {reason : Refused} (t : Tree) (ts : Trees) (f : Facts) (old new : Buffer)
    → AppendsTree t f old new (Err reason) → AppendsTree (all_of (more t ts)) f old new (Err reason)
appends_refused {reason = reason} t ts f old new step =
    let is : trees_outcome (more t ts) f ≡ tree_outcome t f =
    join_refused (tree_outcome t f) (trees_outcome ts f) (refusal_of reason) (sym step.ends.refusal) in
    let width = trees_width (more t ts) in
    let ends : Ends width old new (Err reason) (tree_outcome t f) = record {
      appended = step.ends.appended;
      refusal = step.ends.refusal;
      grown = step.ends.grown;
      block = step.ends.block;
      within = omega (arith, step.ends.within);
    } in
    record {
      ends = subst (λ (o : Outcome). Ends width old new (Err reason) o) (sym is) ends;
      text = λ both. subst (λ (q : Outcome). IsUtf8 q.bytes) (sym is)
          (step.text (and_parts (is_guaranteed_text t) (are_guaranteed_text ts) both).0);
    }

-- ---- steps one after another

-- nothing is written before the first step
pub written_from_the_start : {A : Type 0} (is_valid : A → Bool) (tree : A → Tree) (f : Facts) (all : List A) (output : Buffer)
    → IsWrittenUpTo is_valid tree f all all output output
written_from_the_start is_valid tree f all output =
    let nothing_yet : AppendsTree (all_of end) f output output (Ok tt) = grind (arith, append-nil, empty_utf8) in
    record {
      front = [];
      whole = refl;
      valid = refl;
      appends = nothing_yet;
    }

-- a step that is written is in front of what is left
pub written_more : {A : Type 0} (is_valid : A → Bool) (tree : A → Tree) (f : Facts) (all left others : List A) (x : A)
    (old mid new : Buffer) → IsWrittenUpTo is_valid tree f all left old mid → left ≡ x ∷ others → IsTrue (is_valid x)
    → AppendsTree (tree x) f mid new (Ok tt) → IsWrittenUpTo is_valid tree f all others old new
written_more is_valid tree f all left others x old mid new so_far next valid step =
    let one = x ∷ [] in
    let one_valid : IsTrue (list_all is_valid one) = and_from (is_valid x) true valid refl in
    record {
      front = so_far.front ++ one;
      whole = so_far.whole ∙ ap (λ rest. so_far.front ++ rest) next ∙ sym (append_assoc so_far.front one others);
      valid = list_all-append is_valid so_far.front one
          ∙ and_from (list_all is_valid so_far.front) (list_all is_valid one) so_far.valid one_valid;
      appends = subst (λ (ts : List Tree). AppendsTree (all_of (trees ts)) f old new (Ok tt)) (sym (map-append tree so_far.front one))
          (appends_both (map tree so_far.front) (map tree one) f old mid new so_far.appends (appends_one (tree x) f mid new step));
    }

-- so are the steps that are written behind others
pub written_on : {A : Type 0} (is_valid : A → Bool) (tree : A → Tree) (f : Facts) (all left others : List A) (old mid new : Buffer)
    → IsWrittenUpTo is_valid tree f all left old mid → IsWrittenUpTo is_valid tree f left others mid new
    → IsWrittenUpTo is_valid tree f all others old new
written_on is_valid tree f all left others old mid new first second = record {
  front = first.front ++ second.front;
  whole = first.whole ∙ ap (λ rest. first.front ++ rest) second.whole ∙ sym (append_assoc first.front second.front others);
  valid = list_all-append is_valid first.front second.front
      ∙ and_from (list_all is_valid first.front) (list_all is_valid second.front) first.valid second.valid;
  appends = subst (λ (ts : List Tree). AppendsTree (all_of (trees ts)) f old new (Ok tt)) (sym (map-append tree first.front second.front))
      (appends_both (map tree first.front) (map tree second.front) f old mid new first.appends second.appends);
}

-- what is left and refused ends the list
pub rest_refused : {A : Type 0} {reason : Refused} (is_valid : A → Bool) (tree : A → Tree) (f : Facts) (all left : List A)
    (old mid new : Buffer) → IsWrittenUpTo is_valid tree f all left old mid
    → AppendsTree (all_of (trees (map tree left))) f mid new (Err reason)
    → AppendsTree (all_of (trees (map tree all))) f old new (Err reason)
rest_refused {reason = reason} is_valid tree f all left old mid new so_far rest =
    let is : map tree all ≡ map tree so_far.front ++ map tree left =
    ap (map tree) so_far.whole ∙ map-append tree so_far.front left in
    subst (λ (ts : List Tree). AppendsTree (all_of (trees ts)) f old new (Err reason)) (sym is)
    (appends_both (map tree so_far.front) (map tree left) f old mid new so_far.appends rest)

-- so is a step
pub list_refused : {A : Type 0} {reason : Refused} (is_valid : A → Bool) (tree : A → Tree) (f : Facts) (all left others : List A)
    (x : A) (old mid new : Buffer) → IsWrittenUpTo is_valid tree f all left old mid → left ≡ x ∷ others
    → AppendsTree (tree x) f mid new (Err reason) → AppendsTree (all_of (trees (map tree all))) f old new (Err reason)
list_refused {A = A} {reason = reason} is_valid tree f all left others x old mid new so_far next step =
    rest_refused is_valid tree f all left old mid new so_far
    (subst (λ (steps : List A). AppendsTree (all_of (trees (map tree steps))) f mid new (Err reason)) (sym next)
    (appends_refused (tree x) (trees (map tree others)) f mid new step))

-- where nothing is left, all is written
pub all_written : {A : Type 0} (is_valid : A → Bool) (tree : A → Tree) (f : Facts) (all left : List A) (old now : Buffer)
    → left ≡ [] → IsWrittenUpTo is_valid tree f all left old now → AppendsTree (all_of (trees (map tree all))) f old now (Ok tt)
all_written {A = A} is_valid tree f all left old now none so_far =
    let is : all ≡ so_far.front = so_far.whole ∙ ap (λ rest. so_far.front ++ rest) none ∙ append-nil so_far.front in
    subst (λ (steps : List A). AppendsTree (all_of (trees (map tree steps))) f old now (Ok tt)) (sym is) so_far.appends

-- what is left fits, if all does
pub room_for_rest : {A : Type 0} (has_room : Bool) (is_valid : A → Bool) (tree : A → Tree) (f : Facts) (all left : List A)
    (old now : Buffer) → (IsTrue has_room → Fits old (trees_width (trees (map tree all)))) → IsWrittenUpTo is_valid tree f all left old now
    → IsTrue has_room → Fits now (trees_width (trees (map tree left)))
room_for_rest {A = A} has_room is_valid tree f all left old now room so_far has =
    let is : trees_width (trees (map tree all)) ≡ trees_width (trees (map tree so_far.front)) + trees_width (trees (map tree left)) =
    ap (λ (steps : List A). trees_width (trees (map tree steps))) so_far.whole
    ∙ ap (λ (ts : List Tree). trees_width (trees ts)) (map-append tree so_far.front left)
    ∙ width_joined (map tree so_far.front) (map tree left) in
    omega (arith, room has, is, so_far.appends.ends.within, ap (λ (b : Block). b.capacity) so_far.appends.ends.block)

-- so the next step does
pub room_for_first : {A : Type 0} (has_room : Bool) (tree : A → Tree) (left others : List A) (x : A) (now : Buffer)
    → (IsTrue has_room → Fits now (trees_width (trees (map tree left)))) → left ≡ x ∷ others
    → IsTrue has_room → Fits now (tree_width (tree x))
room_for_first {A = A} has_room tree left others x now room next has =
    let is : trees_width (trees (map tree left)) ≡ tree_width (tree x) + trees_width (trees (map tree others)) =
    ap (λ (steps : List A). trees_width (trees (map tree steps))) next in
    omega (arith, room has, is)

-- its size is less than that of all
pub first_smaller : {A : Type 0} (is_valid : A → Bool) (tree : A → Tree) (size : A → ℕ) (f : Facts) (all left others : List A)
    (x : A) (old now : Buffer) → IsWrittenUpTo is_valid tree f all left old now → left ≡ x ∷ others
    → size x < sizes (map size all)
first_smaller {A = A} is_valid tree size f all left others x old now so_far next =
    let is : sizes (map size left) ≡ size x + sizes (map size others) + 1 = ap (λ (steps : List A). sizes (map size steps)) next in
    let whole : sizes (map size all) ≡ sizes (map size (so_far.front ++ left)) =
    ap (λ (steps : List A). sizes (map size steps)) so_far.whole in
    omega (arith, is, whole, smaller_behind size so_far.front left)

-- nothing is left of a list without steps
pub no_steps : {A : Type 0} (steps : List A) → length steps < 1 → steps ≡ []
no_steps [] none = refl
no_steps (x ∷ xs) none = let no : ⊥ = omega (arith, none) in absurd no

-- bytes are appended whole
pub appends_bytes : {count : ℕ} {old new : Buffer} (bytes : List ℕ) (f : Facts) → Puts old new count bytes
    → AppendsTree (byte_literal bytes) f old new (Ok tt)
appends_bytes bytes f w = grind (arith, whole_text)

-- where there is nothing, nothing is appended
pub nothing_appends : (output : Buffer) (f : Facts) → AppendsTree nothing f output output (Ok tt)
nothing_appends output f = grind (arith, append-nil, empty_utf8)

-- the first of no nodes appends nothing
pub no_first : {A : Type 0} (tree : A → Tree) (nodes : List A) (output : Buffer) (f : Facts)
    → slice_get nodes 0 ≡ None → AppendsTree (first_of (trees (map tree nodes))) f output output (Ok tt)
no_first tree [] output f none = grind (arith, common_steps, nothing_appends)
no_first tree (x ∷ xs) output f none = let no : ⊥ = cc in absurd no

-- the first of a list that begins with x appends what x does
pub first_appends : {A : Type 0} {answer : Result Unit Refused} (tree : A → Tree) (nodes : List A) (x : A)
    (old new : Buffer) (f : Facts) → slice_get nodes 0 ≡ Some x → AppendsTree (tree x) f old new answer
    → AppendsTree (first_of (trees (map tree nodes))) f old new answer
first_appends tree [] x old new f h appends = let no : ⊥ = cc in absurd no
first_appends tree (y ∷ ys) x old new f h appends = grind arith
