-- Descriptions by their parts in order, and the lists that they mean.
use Rattle.std.specs.Prelude.{ℕ, ◌≡◌, ◌+◌, Bool, ◌&&◌, IsTrue, List}
use Rattle.std.specs.Char.{is_ascii}
use Rattle.std.specs.List.{list_all}
use Rattle.time_below.specs.Facts.{Facts}
use Rattle.time_below.specs.Tree.{Tree, Trees, text_literal, end, more}
use Rattle.time_below.specs.Width.{tree_width, trees_width, is_guaranteed_text, are_guaranteed_text}
use Rattle.time_fmt.specs.Description.{tree_outcome, trees_outcome}
use Rattle.time_fmt.specs.Outcome.{Outcome, join}

-- one list after the other
abbrev pub both_lists : Trees → Trees → Trees
both_lists end us = us
both_lists (more t ts) us = more t (both_lists ts us)

-- what gives these outcomes, with this many bytes at most and this guarantee, means the list of these items
pub record MeansList (gives : Facts → Outcome) (most : ℕ) (is_guaranteed : Bool) (ts : Trees) : Type 0 where
  pub outcome : (f : Facts) → gives f ≡ trees_outcome ts f
  pub width : most ≡ trees_width ts
  pub text : is_guaranteed ≡ are_guaranteed_text ts

-- two that mean lists, one after the other, mean the two lists in one
abbrev pub PairMeansBothLists : Type 0
PairMeansBothLists =
    (first second : Facts → Outcome) (width other_width : ℕ) (is_guaranteed is_other : Bool) (ts us : Trees)
    → MeansList first width is_guaranteed ts
    → MeansList second other_width is_other us
    → MeansList (λ f. join (first f) (second f)) (width + other_width) (is_guaranteed && is_other) (both_lists ts us)

-- an item means the list of it alone
abbrev pub ItemMeansItsList : Type 0
ItemMeansItsList = (t : Tree) → MeansList (tree_outcome t) (tree_width t) (is_guaranteed_text t) (more t end)

-- the guarantee of a text in ASCII is that of the item with this text
abbrev pub AsciiIsText : Type 0
AsciiIsText = (text : List ℕ) → IsTrue (list_all is_ascii text)
    → list_all is_ascii text ≡ is_guaranteed_text (text_literal text)
