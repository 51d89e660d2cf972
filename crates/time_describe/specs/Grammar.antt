-- The grammar of descriptions, and what each of its parts means.
use Rattle.std.specs.Prelude.{◌≡◌, ◌≢◌, ◌<◌, ℕ, zero, suc, List, [], ◌∷◌, ◌++◌, Bool, true, false, Some, None, Ok}
use Rattle.std.specs.Char.{is_ascii_whitespace}
use Rattle.std.specs.List.{AllByRecursion}
use Rattle.time_below.specs.Conversion.{current_component}
use Rattle.time_below.specs.Tree.{Tree, trees, of_component, all_of}
use Rattle.time_below.specs.declared.format_description.component.Component.{Component}
use Rattle.time_describe.specs.declared.items.ListKind.{ListKind}
use Rattle.time_describe.specs.Literal.{literal_of}
use Rattle.time_describe.specs.Pieces.{ends_literal}
use Rattle.time_describe.specs.Reading.{opening, closing, backslash, is_escapable, ends_word, keyword, with_word, is_whole, with_literal, nested, takes_list, depth_limit}
use Rattle.time_describe.specs.Names.{named}

-- a word in brackets, behind whitespace
pub record Word : Type 0 where
  pub gap : List ℕ
  pub bytes : List ℕ

-- what stands in brackets: a name, and choices, with whitespace before each and at the end
pub record Inside : Type 0 where
  pub name : Word
  pub choices : List Word
  pub gap : List ℕ

-- Parts one after the other: a byte that stands for itself, one behind a backslash, brackets with a component, and
-- brackets with a word and lists of parts, each list in brackets behind whitespace, with whitespace at the end.
mutual
  pub data Parts : Type 0 where
    done : Parts
    plain : ℕ → Parts → Parts
    escaped : ℕ → Parts → Parts
    in_brackets : Inside → Parts → Parts
    with_lists : Word → ListKind → Lists → List ℕ → Parts → Parts

  pub data Lists : Type 0 where
    no_list : Lists
    list : List ℕ → Parts → Lists → Lists

-- ---- how they are spelled, before what comes after

abbrev pub words : List Word → List ℕ → List ℕ
words [] after = after
words (w ∷ ws) after = w.gap ++ (w.bytes ++ words ws after)

abbrev mutual
  pub spelling : Parts → List ℕ → List ℕ
  spelling done after = after
  spelling (plain b ps) after = b ∷ spelling ps after
  spelling (escaped b ps) after = backslash ∷ b ∷ spelling ps after
  spelling (in_brackets i ps) after = opening ∷ words (i.name ∷ i.choices) (i.gap ++ closing ∷ spelling ps after)
  spelling (with_lists w n ls gap ps) after =
      opening ∷ w.gap ++ (w.bytes ++ lists_spelling ls (gap ++ closing ∷ spelling ps after))

  pub lists_spelling : Lists → List ℕ → List ℕ
  lists_spelling no_list after = after
  lists_spelling (list gap ps ls) after = gap ++ opening ∷ spelling ps (closing ∷ lists_spelling ls after)

-- ---- which are allowed

abbrev pub AreWhite : List ℕ → Type 0
AreWhite bytes = AllByRecursion (λ b. is_ascii_whitespace b ≡ true) bytes

abbrev pub IsWord : List ℕ → Type 0
IsWord bytes = (bytes ≢ []) × AllByRecursion (λ b. ends_word b ≡ false) bytes

abbrev pub IsChoice : Word → Type 0
IsChoice w = (w.gap ≢ []) × AreWhite w.gap × IsWord w.bytes

-- a component by its name, and then by one choice after the other
abbrev pub IsChosen : Component → List Word → Component → Type 0
IsChosen c [] made = c ≡ made
IsChosen c (w ∷ ws) made = (next : Component) × (with_word (Some c) w.bytes ≡ Ok next) × IsChosen next ws made

pub record IsInside (i : Inside) (made : Component) : Type 0 where
  pub gap : AreWhite i.name.gap
  pub name : IsWord i.name.bytes
  pub no_keyword : keyword i.name.bytes ≡ None
  pub choices : AllByRecursion IsChoice i.choices
  pub end : AreWhite i.gap
  pub first : Component
  pub is_first : named i.name.bytes ≡ Some first
  pub chosen : IsChosen first i.choices made
  pub whole : is_whole made ≡ true

-- whitespace stands between the word and its first list
abbrev pub IsApart : Lists → Type 0
IsApart no_list = Unit {0}
IsApart (list gap ps ls) = gap ≢ []

-- ---- what they mean, in so many open lists: these items, after others and a literal so far

abbrev pub is_deep : ℕ → Bool
is_deep zero = false
is_deep (suc n) = true

abbrev mutual
  pub Means : ℕ → List Tree → List ℕ → Parts → List Tree → Type 0
  Means depth items literal done all = all ≡ with_literal items literal
  Means depth items literal (plain b ps) all = (ends_literal (is_deep depth) b ≡ false) × Means depth items (literal ++ b ∷ []) ps all
  Means depth items literal (escaped b ps) all =
      (is_escapable b ≡ true) × Means depth (with_literal items literal ++ literal_of (b ∷ []) ∷ []) [] ps all
  Means depth items literal (in_brackets i ps) all =
      (c : Component) × IsInside i c × Means depth (with_literal items literal ++ of_component (current_component c) ∷ []) [] ps all
  Means depth items literal (with_lists w n ls gap ps) all =
      AreWhite w.gap × IsWord w.bytes × (keyword w.bytes ≡ Some n) × IsApart ls × AreWhite gap
      × (ts : List Tree) × ListsMean depth n [] ls ts
      × (t : Tree) × ((left : ℕ) → nested n ts left ≡ Ok t)
      × Means depth (with_literal items literal ++ t ∷ []) [] ps all

  -- these lists, after others
  pub ListsMean : ℕ → ListKind → List Tree → Lists → List Tree → Type 0
  ListsMean depth n before no_list all = before ≡ all
  ListsMean depth n before (list gap ps ls) all =
      AreWhite gap × (takes_list n before ≡ true) × (depth < depth_limit)
      × (inner : List Tree) × Means (suc depth) [] [] ps inner
      × ListsMean depth n (before ++ all_of (trees inner) ∷ []) ls all
