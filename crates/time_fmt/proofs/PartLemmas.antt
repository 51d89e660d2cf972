-- Outcomes, widths and guarantees of lists one after another.
use Rattle.std.proofs.Common.{◌≡◌, ℕ, ◌+◌, Bool, true, ◌&&◌, List, [], refl, ap, ◌∙◌, arith, append_assoc, Option}
use Rattle.std.proofs.lemmas.List.{append-nil}
use Rattle.time_below.proofs.NodeLemmas.{and_assoc}
use Rattle.time_below.specs.Facts.{Facts}
use Rattle.time_below.specs.Tree.{Trees, end, more}
use Rattle.time_below.specs.Width.{trees_width, is_guaranteed_text, are_guaranteed_text}
use Rattle.time_fmt.specs.Description.{tree_outcome, trees_outcome}
use Rattle.time_fmt.specs.Outcome.{Outcome, Refusal, done, join}
use Rattle.time_fmt.specs.Parts.{both_lists, PairMeansBothLists, ItemMeansItsList}
use Rattle.std.proofs.lemmas.Grind.{common_steps}

-- joining outcomes is associative
joins_regrouped : (x : List ℕ) (r : Option Refusal) (y : List ℕ) (s : Option Refusal) (c : Outcome)
    → join (join (record { bytes = x; refusal = r }) (record { bytes = y; refusal = s })) c
    ≡ join (record { bytes = x; refusal = r }) (join (record { bytes = y; refusal = s }) c)
joins_regrouped x r y s c = grind (arith, common_steps, append_assoc)

-- nothing more
join_nothing : (x : List ℕ) (r : Option Refusal)
    → record { bytes = x; refusal = r } ≡ join (record { bytes = x; refusal = r }) (done [])
join_nothing x r = grind (arith, common_steps, append-nil)

outcome_of_pair : (ts us : Trees) (f : Facts)
    → join (trees_outcome ts f) (trees_outcome us f) ≡ trees_outcome (both_lists ts us) f
outcome_of_pair end us f = refl
outcome_of_pair (more t ts) us f =
    joins_regrouped (tree_outcome t f).bytes (tree_outcome t f).refusal (trees_outcome ts f).bytes (trees_outcome ts f).refusal
    (trees_outcome us f)
    ∙ ap (join (tree_outcome t f)) (outcome_of_pair ts us f)

width_of_pair : (ts us : Trees) → trees_width ts + trees_width us ≡ trees_width (both_lists ts us)
width_of_pair end us = omega arith
width_of_pair (more t ts) us = omega (arith, width_of_pair ts us)

guarantee_of_pair : (ts us : Trees)
    → (are_guaranteed_text ts && are_guaranteed_text us) ≡ are_guaranteed_text (both_lists ts us)
guarantee_of_pair end us = refl
guarantee_of_pair (more t ts) us =
    and_assoc (is_guaranteed_text t) (are_guaranteed_text ts) (are_guaranteed_text us)
    ∙ ap (λ b. is_guaranteed_text t && b) (guarantee_of_pair ts us)

and_true : (b : Bool) → b ≡ (b && true)
and_true b = grind (arith, common_steps)

pub pair_means_both_lists : PairMeansBothLists
pair_means_both_lists first second width other_width is_guaranteed is_other ts us a b = record {
  outcome = λ f. rw (a.outcome f, b.outcome f) (outcome_of_pair ts us f);
  width = rw (a.width, b.width) (width_of_pair ts us);
  text = rw (a.text, b.text) (guarantee_of_pair ts us);
}

pub item_means_its_list : ItemMeansItsList
item_means_its_list t = grind (arith, common_steps, and_true)
