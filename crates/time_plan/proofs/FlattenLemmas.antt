-- Steps that are made one after another.
use Rattle.std.proofs.Common.{◌≡◌, ℕ, zero, suc, ◌+◌, ◌-◌, ◌<◌, ◌≤◌, ◌++◌, ◌&&◌, Bool, true, List, [], ◌∷◌, length, refl, sym, ap, ◌∙◌, arith, map, take, drop, get_or, subst, Some, None}
use Rattle.std.proofs.lemmas.List.{set_split, set-get_or, at_drop_all}
use Rattle.std.specs.Prelude.{slice_get, slice_index_or, slice_set, OnOk, Result, Ok, Err}
use Rattle.time_below.proofs.NodeLemmas.{and_assoc, next_of}
use Rattle.time_below.specs.Facts.{Facts}
use Rattle.time_below.specs.Size.{sizes}
use Rattle.time_below.specs.Tree.{Tree, Trees, all_of, first_of, end, trees}
use Rattle.time_below.specs.Width.{tree_width, trees_width, is_guaranteed_text, are_guaranteed_text}
use Rattle.time_fmt.specs.Description.{tree_outcome, trees_outcome}
use Rattle.time_fmt.specs.Outcome.{done, join}
use Rattle.time_fmt.proofs.WriteLemmas.{join_assoc, join_nothing}
use Rattle.time_plan.specs.Literal.{literal_bytes, literal_tree}
use Rattle.time_plan.specs.Shown.{shown_tree}
use Rattle.time_plan.specs.Steps.{step_tree, step_trees, Extends, Begins}
use Rattle.time_plan.specs.declared.shown.Shown.TheVariants as shown
use Rattle.time_plan.specs.declared.step.Step.{Step}
use Rattle.time_plan.proofs.StepLemmas.{step_outcome, step_width, step_is_text, and_true}
use Rattle.time_plan.proofs.StepLemmas.{literal_outcome, literal_width, literal_text, shown_guaranteed}

-- ---- one step more

pub outcome_pushed : (xs : List Step) (s : Step) (f : Facts) → trees_outcome (step_trees (xs ++ s ∷ [])) f
    ≡ join (trees_outcome (step_trees xs) f) (tree_outcome (step_tree s) f)
outcome_pushed [] s f = join_nothing (tree_outcome (step_tree s) f)
outcome_pushed (x ∷ xs) s f =
    ap (join (tree_outcome (step_tree x) f)) (outcome_pushed xs s f)
    ∙ sym (join_assoc (tree_outcome (step_tree x) f) (trees_outcome (step_trees xs) f) (tree_outcome (step_tree s) f))

pub width_pushed : (xs : List Step) (s : Step)
    → trees_width (step_trees (xs ++ s ∷ [])) ≡ trees_width (step_trees xs) + tree_width (step_tree s)
width_pushed [] s = omega arith
width_pushed (x ∷ xs) s = omega (arith, width_pushed xs s)

pub text_pushed : (xs : List Step) (s : Step) → are_guaranteed_text (step_trees (xs ++ s ∷ []))
    ≡ (are_guaranteed_text (step_trees xs) && is_guaranteed_text (step_tree s))
text_pushed [] s = and_true (is_guaranteed_text (step_tree s))
text_pushed (x ∷ xs) s =
    ap (λ b. is_guaranteed_text (step_tree x) && b) (text_pushed xs s)
    ∙ sym (and_assoc (is_guaranteed_text (step_tree x)) (are_guaranteed_text (step_trees xs)) (is_guaranteed_text (step_tree s)))

-- a step without a literal
pub shown_pushed : (xs : List Step) (s : Step) → literal_bytes s.literal ≡ [] → s.is_text ≡ true
    → Extends (step_trees xs) (step_trees (xs ++ s ∷ [])) (shown_tree s.shown)
shown_pushed xs s no_literal is_text = record {
  outcome = λ f. outcome_pushed xs s f
      ∙ ap (join (trees_outcome (step_trees xs) f))
      (step_outcome s f ∙ ap (λ bs. join (tree_outcome (shown_tree s.shown) f) (done bs)) no_literal
      ∙ join_nothing (tree_outcome (shown_tree s.shown) f));
  width = omega (arith, width_pushed xs s, step_width s, ap length no_literal);
  text = text_pushed xs s
      ∙ ap (λ b. are_guaranteed_text (step_trees xs) && b)
      (step_is_text s ∙ is_text ∙ sym (shown_guaranteed s.shown));
}

-- a literal behind no component
pub literal_pushed : (xs : List Step) (s : Step) (b : Bool) (bs : List ℕ)
    → s.shown ≡ shown.Nothing
    → literal_bytes s.literal ≡ bs → s.is_text ≡ b
    → Extends (step_trees xs) (step_trees (xs ++ s ∷ [])) (literal_tree b bs)
literal_pushed xs s b bs nothing is_literal is_text = record {
  outcome = λ f. outcome_pushed xs s f
      ∙ ap (join (trees_outcome (step_trees xs) f))
      (step_outcome s f ∙ ap (λ c. join (tree_outcome (shown_tree c) f) (done (literal_bytes s.literal))) nothing
      ∙ ap done is_literal ∙ sym (literal_outcome b bs f));
  width = omega (
    arith,
    width_pushed xs s,
    step_width s,
    ap length is_literal,
    literal_width b bs,
    ap (λ c. tree_width (shown_tree c)) nothing,
  );
  text = text_pushed xs s
      ∙ ap (λ b. are_guaranteed_text (step_trees xs) && b) (step_is_text s ∙ is_text ∙ sym (literal_text b bs));
}

-- a literal put behind what the last step shows, which had none
pub literal_behind : (xs : List Step) (s t : Step) (b : Bool) (bs : List ℕ) → t.shown ≡ s.shown
    → literal_bytes s.literal ≡ [] → s.is_text ≡ true → literal_bytes t.literal ≡ bs → t.is_text ≡ b
    → Extends (step_trees (xs ++ s ∷ [])) (step_trees (xs ++ t ∷ [])) (literal_tree b bs)
literal_behind xs s t b bs same no_literal was_text is_literal is_text =
    let before = shown_pushed xs s no_literal was_text in
    record {
      outcome = λ f.
          let o = trees_outcome (step_trees xs) f in
          let c = tree_outcome (shown_tree s.shown) f in
          outcome_pushed xs t f
          ∙ ap (join o) (step_outcome t f
          ∙ ap (λ d. join (tree_outcome (shown_tree d) f) (done (literal_bytes t.literal))) same
          ∙ ap (λ x. join c (done x)) is_literal)
          ∙ sym (join_assoc o c (done bs))
          ∙ ap (λ a. join a (done bs)) (sym (before.outcome f))
          ∙ ap (join (trees_outcome (step_trees (xs ++ s ∷ [])) f)) (sym (literal_outcome b bs f));
      width = omega (
        arith,
        width_pushed xs t,
        step_width t,
        ap length is_literal,
        literal_width b bs,
        before.width,
        ap (λ d. tree_width (shown_tree d)) same,
      );
      text = text_pushed xs t
          ∙ ap (λ b. are_guaranteed_text (step_trees xs) && b) (step_is_text t ∙ is_text ∙ sym (literal_text b bs))
          ∙ ap (λ a. a && is_guaranteed_text (literal_tree b bs))
          (sym (before.text ∙ ap (λ b. are_guaranteed_text (step_trees xs) && b) (shown_guaranteed s.shown)
          ∙ and_true (are_guaranteed_text (step_trees xs))));
    }

-- the last of a list, by another
set_last : (xs : List Step) (n : ℕ) (s : Step) → 0 < length xs → n ≡ length xs - 1
    → slice_set xs n s ≡ take n xs ++ s ∷ []
set_last xs n s some is_n =
    set_split xs n s (omega (arith, some, is_n))
    ∙ ap (λ (ys : List Step). take n xs ++ s ∷ ys)
    (at_drop_all (λ (ys : List Step). ys) xs (suc n) (omega (arith, some, is_n)))

-- what stands at a place of a list, put there again
pub put_back : (xs : List Step) (n : ℕ) (s : Step) → s ≡ slice_index_or xs n s → slice_set xs n s ≡ xs
put_back xs n s is = ap (λ (z : Step). slice_set xs n z) is ∙ set-get_or xs n s

-- a literal put behind what the last step shows, where that step lies
pub literal_in_place : (xs : List Step) (n : ℕ) (s t : Step) (b : Bool) (bs : List ℕ) → 0 < length xs
    → n ≡ length xs - 1 → s ≡ slice_index_or xs n s → t.shown ≡ s.shown
    → literal_bytes s.literal ≡ [] → s.is_text ≡ true → literal_bytes t.literal ≡ bs → t.is_text ≡ b
    → Extends (step_trees xs) (step_trees (slice_set xs n t)) (literal_tree b bs)
literal_in_place xs n s t b bs some is_n is_s same no_literal was_text is_literal is_text =
    let whole : take n xs ++ s ∷ [] ≡ xs = sym (set_last xs n s some is_n) ∙ put_back xs n s is_s in
    let new = sym (set_last xs n t some is_n) in
    subst (λ (ys : List Step). Extends (step_trees ys) (step_trees (slice_set xs n t)) (literal_tree b bs)) whole
    (subst (λ (ys : List Step). Extends (step_trees (take n xs ++ s ∷ [])) (step_trees ys) (literal_tree b bs)) new
    (literal_behind (take n xs) s t b bs same no_literal was_text is_literal is_text))

-- nothing more
pub extends_nothing : (ts : Trees) (t : Tree) → ((f : Facts) → tree_outcome t f ≡ done []) → tree_width t ≡ 0
    → is_guaranteed_text t ≡ true → Extends ts ts t
extends_nothing ts t none no_width is_text = record {
  outcome = λ f. sym (ap (join (trees_outcome ts f)) (none f) ∙ join_nothing (trees_outcome ts f));
  width = omega (arith, no_width);
  text = sym (ap (λ b. are_guaranteed_text ts && b) is_text ∙ and_true (are_guaranteed_text ts));
}

-- ---- a list of nodes

-- what the steps mean, and then what is left, is what they meant first and then all
pub record Flattened (old now all left : Trees) (all_size left_size : ℕ) : Type 0 where
  pub size : left_size ≤ all_size
  pub outcome : (f : Facts) → join (trees_outcome now f) (trees_outcome left f)
      ≡ join (trees_outcome old f) (trees_outcome all f)
  pub width : trees_width now + trees_width left ≡ trees_width old + trees_width all
  pub text : (are_guaranteed_text now && are_guaranteed_text left) ≡ (are_guaranteed_text old && are_guaranteed_text all)

flattened_more : {all_size left_size rest_size : ℕ} (old now new all left others : Trees) (t : Tree)
    → Flattened old now all left all_size left_size → Begins left t others → rest_size ≤ left_size
    → Extends now new t → Flattened old new all others all_size rest_size
flattened_more old now new all left others t so_far begins smaller step = record {
  size = omega (arith, so_far.size, smaller);
  outcome = λ f.
      ap (λ o. join o (trees_outcome others f)) (step.outcome f)
      ∙ join_assoc (trees_outcome now f) (tree_outcome t f) (trees_outcome others f)
      ∙ ap (join (trees_outcome now f)) (sym (begins.outcome f))
      ∙ so_far.outcome f;
  width = omega (arith, so_far.width, step.width, begins.width);
  text = ap (λ b. b && are_guaranteed_text others) step.text
      ∙ and_assoc (are_guaranteed_text now) (is_guaranteed_text t) (are_guaranteed_text others)
      ∙ ap (λ b. are_guaranteed_text now && b) (sym begins.text)
      ∙ so_far.text;
}

-- the first of a list of nodes, and the others
pub one_begins : {A : Type 0} (tree : A → Tree) (nodes others : List A) (x : A) → 1 ≤ length nodes → x ≡ get_or nodes 0 x
    → others ≡ drop 1 nodes → Begins (trees (map tree nodes)) (tree x) (trees (map tree others))
one_begins tree nodes others x some is are =
    let first = next_of tree nodes 0 x (omega (arith, some)) is in
    rw are (record { outcome = λ f. ap (λ ts. trees_outcome ts f) first; width = ap trees_width first; text = ap are_guaranteed_text first })

-- nodes that are left are no larger than all
smaller_drop : {A : Type 0} (size : A → ℕ) (n : ℕ) (nodes : List A)
    → sizes (map size (drop n nodes)) ≤ sizes (map size nodes)
smaller_drop size zero nodes = omega arith
smaller_drop size (suc n) [] = omega arith
smaller_drop size (suc n) (x ∷ xs) = omega (arith, smaller_drop size n xs)

-- some nodes more
pub flattened_nodes : {A : Type 0} (tree : A → Tree) (size : A → ℕ) (n all_size : ℕ) (old now new all : Trees)
    (nodes others : List A) (t : Tree)
    → Flattened old now all (trees (map tree nodes)) all_size (sizes (map size nodes)) → others ≡ drop n nodes
    → Begins (trees (map tree nodes)) t (trees (map tree others)) → Extends now new t
    → Flattened old new all (trees (map tree others)) all_size (sizes (map size others))
flattened_nodes tree size n all_size old now new all nodes others t so_far are begins step =
    flattened_more old now new all (trees (map tree nodes)) (trees (map tree others)) t so_far begins
    (rw are (smaller_drop size n nodes)) step

pub flattened_all : {all_size left_size : ℕ} (old now all left : Trees)
    → Flattened old now all left all_size left_size → left ≡ end → Extends old now (all_of all)
flattened_all old now all left so_far none = record {
  outcome = λ f. sym (ap (λ ts. join (trees_outcome now f) (trees_outcome ts f)) none ∙ join_nothing (trees_outcome now f))
      ∙ so_far.outcome f;
  width = omega (arith, so_far.width, ap trees_width none);
  text = sym (ap (λ ts. are_guaranteed_text now && are_guaranteed_text ts) none ∙ and_true (are_guaranteed_text now))
      ∙ so_far.text;
}

-- ---- the first of a list

pub no_first_extends : {A : Type 0} (tree : A → Tree) (nodes : List A) (ts : Trees) → slice_get nodes 0 ≡ None
    → Extends ts ts (first_of (trees (map tree nodes)))
no_first_extends tree [] ts none = extends_nothing ts _ (λ f. refl) refl refl
no_first_extends tree (x ∷ xs) ts none = let no : ⊥ = cc in absurd no

pub first_extends : {A : Type 0} (tree : A → Tree) (nodes : List A) (x : A) (old new : Trees)
    → slice_get nodes 0 ≡ Some x → Extends old new (tree x) → Extends old new (first_of (trees (map tree nodes)))
first_extends tree [] x old new h extends = let no : ⊥ = cc in absurd no
first_extends {A} tree (y ∷ ys) x old new h extends =
    let same : y ≡ x = cc in
    let P : A → Type 0 = λ z. Extends old new (tree z) in
    let first = subst P (sym same) extends in
    record { outcome = first.outcome; width = first.width; text = first.text }

-- what follows from a fact of a success is a fact of it
pub on_ok : {E : Type 0} {P Q : Type 0} (r : Result Unit E) → (P → Q) → OnOk r P → OnOk r Q
on_ok (Ok u) follows h = follows h
on_ok (Err e) follows h = h
