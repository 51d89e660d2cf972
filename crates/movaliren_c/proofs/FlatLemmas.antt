-- Lists in one another, one after the other.
use Rattle.std.proofs.Common.{◌≡◌, ◌<◌, ◌+◌, ◌++◌, ℕ, Bool, true, List, [], ◌∷◌, length, Option, Some, None, refl, sym, ap, ◌∙◌, append_assoc, arith}
use Rattle.std.proofs.lemmas.Bool.{eqb-true}
use Rattle.movaliren_c.specs.Flat.{all_flat, closed_at, first_shown, flat, flat_items, hidden_at, or_at, shown_in}
use Rattle.time_below.specs.Facts.{Facts}
use Rattle.time_below.specs.Tree.{Tree, Trees, trees, byte_literal, text_literal, of_component, all_of, first_of, nothing, end, more}
use Rattle.time_describe.specs.Items.{is_nil}
use Rattle.time_describe.specs.Literal.{literal_of}
use Rattle.time_describe.specs.Reading.{Frame}
use Rattle.time_fmt.specs.Description.{tree_outcome, trees_outcome}
use Rattle.time_fmt.specs.Outcome.{Outcome, done, join}
use Rattle.time_fmt.proofs.Engine.{joined}
use Rattle.time_fmt.proofs.WriteLemmas.{join_nothing}
use Rattle.std.proofs.lemmas.Grind.{common_steps}

-- ---- outcomes

-- what is flat gives the same
mutual
  flat_same : (t : Tree) (f : Facts) → trees_outcome (trees (flat t)) f ≡ tree_outcome t f
  flat_same (byte_literal bytes) f = join_nothing (done bytes)
  flat_same (text_literal text) f = join_nothing (done text)
  flat_same (of_component c) f = join_nothing (tree_outcome (of_component c) f)
  flat_same (all_of ts) f = all_flat_same ts f
  flat_same (first_of end) f = refl
  flat_same (first_of (more t ts)) f = flat_same t f
  flat_same nothing f = refl

  pub all_flat_same : (ts : Trees) (f : Facts) → trees_outcome (trees (all_flat ts)) f ≡ trees_outcome ts f
  all_flat_same end f = refl
  all_flat_same (more t ts) f =
      joined (flat t) (all_flat ts) f
      ∙ ap (λ (o : Outcome). join o (trees_outcome (trees (all_flat ts)) f)) (flat_same t f)
      ∙ ap (join (tree_outcome t f)) (all_flat_same ts f)

-- ---- items

pub flat_more : (a b : List Tree) → flat_items (a ++ b) ≡ flat_items a ++ flat_items b
flat_more [] b = refl
flat_more (t ∷ ts) b = ap (λ (v : List Tree). flat t ++ v) (flat_more ts b) ∙ sym (append_assoc (flat t) (flat_items ts) (flat_items b))

pub flat_literal : (bytes : List ℕ) → flat (literal_of bytes) ≡ literal_of bytes ∷ []
unfolding literal_of
flat_literal bytes = grind (arith, common_steps)

-- ---- what is shown in open lists

visible_by : (o : Option ℕ) (first : Bool) (here : ℕ) → or_at o first here ≡ None → (o ≡ None) × (first ≡ true)
visible_by o first here h = grind (arith, common_steps)

more_step : (fs : List Frame) (lists items a b : List Tree) → is_nil lists ≡ true
    → ((x : List Tree) → shown_in fs (x ++ b) ≡ shown_in fs x ++ b)
    → shown_in fs (flat_items items ++ first_shown lists (a ++ b)) ≡ shown_in fs (flat_items items ++ first_shown lists a) ++ b
more_step fs lists items a b h k = grind (arith, common_steps, append_assoc)

-- where each list is the first in its brackets, more items are shown
pub shown_more : (fs : List Frame) (a b : List Tree) → hidden_at fs ≡ None → shown_in fs (a ++ b) ≡ shown_in fs a ++ b
shown_more [] a b is = refl
shown_more (f ∷ fs) a b is =
    let w = visible_by (hidden_at fs) (is_nil f.lists) (length fs) is in
    more_step fs f.lists f.items a b w.1 (λ x. shown_more fs x b w.0)

hidden_step : (fs : List Frame) (lists items a b : List Tree) (d : ℕ) → or_at (hidden_at fs) (is_nil lists) (length fs) ≡ Some d
    → ((x y : List Tree) → hidden_at fs ≡ Some d → shown_in fs x ≡ shown_in fs y)
    → shown_in fs (flat_items items ++ first_shown lists a) ≡ shown_in fs (flat_items items ++ first_shown lists b)
hidden_step fs lists items a b d h k = grind (arith, common_steps)

-- where one is not, they are not
pub shown_hidden : (fs : List Frame) (a b : List Tree) (d : ℕ) → hidden_at fs ≡ Some d → shown_in fs a ≡ shown_in fs b
shown_hidden [] a b d is = absurd cc
shown_hidden (f ∷ fs) a b d is = hidden_step fs f.lists f.items a b d is (λ x y h. shown_hidden fs x y d h)

below_by : (o : Option ℕ) (first : Bool) (here d : ℕ) → or_at o first here ≡ Some d → (o ≡ Some d → d < here) → d < here + 1
below_by o first here d h k = grind (arith, common_steps)

-- the outermost of those is in fewer lists
hidden_below : (fs : List Frame) (d : ℕ) → hidden_at fs ≡ Some d → d < length fs
hidden_below [] d is = absurd cc
hidden_below (f ∷ fs) d is = omega (arith, below_by (hidden_at fs) (is_nil f.lists) (length fs) d is (λ h. hidden_below fs d h))

-- ---- lists that are opened and closed

pub closed_hidden : (fs : List Frame) (f : Frame) (hidden : Option ℕ) (depth : ℕ) → hidden ≡ hidden_at (f ∷ fs) → depth ≡ length fs
    → closed_at hidden depth ≡ hidden_at fs
closed_hidden fs f hidden depth same deep = grind (arith, common_steps, eqb-true, hidden_below)

pub closed_shown : (fs : List Frame) (f : Frame) (inner : List Tree)
    → shown_in (f ∷ fs) (flat_items inner) ≡ shown_in fs (flat_items f.items ++ first_shown (f.lists ++ all_of (trees inner) ∷ []) [])
closed_shown fs f inner = grind (arith, common_steps)
