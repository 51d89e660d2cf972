-- Five parts of a text are read at once.
use Rattle.std.proofs.Common.{◌≡◌, ℕ, ◌+◌, ◌≤◌, false, List, [], ◌∷◌, ◌++◌, length, drop, Some, refl, sym, ap, ◌∙◌, arith}
use Rattle.std.specs.Prelude.{◌==◌}
use Rattle.std.proofs.lemmas.List.{length-append}
use Rattle.time_below.specs.Tree.{Tree, of_component}
use Rattle.time_below.specs.declared.format_description.component.Component.{Component}
use Rattle.time_describe.specs.Conversions.{component_of}
use Rattle.time_describe.specs.Items.{items_of_parted}
use Rattle.time_describe.specs.Limit.{most_items}
use Rattle.time_describe.specs.Literal.{literal_of}
use Rattle.time_describe.specs.Strftime.{read}
use Rattle.time_describe.specs.StrftimeOutcome.{BeginsParted}
use Rattle.time_describe.specs.declared.items.Parted.{Parted}
use Rattle.time_describe.proofs.StrftimeLemmas.{part_read}
use Rattle.time_describe.proofs.StrftimeParts.{letter_first, literal_alone}

-- items that are added one by one
pub five_added : (before : List Tree) (p : Parted)
    → ((((before ++ of_component p.first ∷ []) ++ literal_of (p.before_second ∷ []) ∷ []) ++ of_component p.second ∷ []) ++ literal_of (p.before_third ∷ []) ∷ [])
    ++ of_component p.third ∷ [] ≡ before ++ items_of_parted p
five_added [] p = refl
five_added (t ∷ ts) p = ap (λ (rest : List Tree). t ∷ rest) (five_added ts p)

letter_next : (before : List Tree) (c : ℕ) (bs : List ℕ) (x : Component) → component_of c ≡ Some x → length before + 1 ≤ most_items
    → read before 0 (37 ∷ c ∷ bs) ≡ read (before ++ of_component x ∷ []) 0 bs
letter_next before c bs x is few =
    part_read before (before ++ of_component x ∷ []) (37 ∷ c ∷ bs) (record { items = of_component x ∷ []; behind = 1 })
    (omega arith) (letter_first c bs x is) refl (omega (arith, few, length-append before (of_component x ∷ [])))

byte_next : (before : List Tree) (a : ℕ) (bs : List ℕ) → (a == 37) ≡ false → length before + 1 ≤ most_items
    → read before 0 (a ∷ 37 ∷ bs) ≡ read (before ++ literal_of (a ∷ []) ∷ []) 0 (37 ∷ bs)
byte_next before a bs plain few =
    part_read before (before ++ literal_of (a ∷ []) ∷ []) (a ∷ 37 ∷ bs) (record { items = literal_of (a ∷ []) ∷ []; behind = 0 })
    (omega arith) (literal_alone a bs plain) refl (omega (arith, few, length-append before (literal_of (a ∷ []) ∷ [])))

one_longer : (before : List Tree) (t : Tree) (n : ℕ) → length before + (n + 1) ≤ most_items → length (before ++ t ∷ []) + n ≤ most_items
one_longer before t n few = omega (arith, few, length-append before (t ∷ []))

five_read : (before : List Tree) (c d e : ℕ) (rest : List ℕ) (p : Parted) → component_of c ≡ Some p.first → component_of d ≡ Some p.second
    → component_of e ≡ Some p.third → (p.before_second == 37) ≡ false → (p.before_third == 37) ≡ false → length before + 5 ≤ most_items
    → read before 0 (37 ∷ c ∷ p.before_second ∷ 37 ∷ d ∷ p.before_third ∷ 37 ∷ e ∷ rest) ≡ read (before ++ items_of_parted p) 0 rest
five_read before c d e rest p is_first is_second is_third second_plain third_plain few =
    let a = p.before_second in
    let b = p.before_third in
    let one = before ++ of_component p.first ∷ [] in
    let two = one ++ literal_of (a ∷ []) ∷ [] in
    let three = two ++ of_component p.second ∷ [] in
    let four = three ++ literal_of (b ∷ []) ∷ [] in
    let few_one : length one + 4 ≤ most_items = one_longer before (of_component p.first) 4 few in
    let few_two : length two + 3 ≤ most_items = one_longer one (literal_of (a ∷ [])) 3 few_one in
    let few_three : length three + 2 ≤ most_items = one_longer two (of_component p.second) 2 few_two in
    let few_four : length four + 1 ≤ most_items = one_longer three (literal_of (b ∷ [])) 1 few_three in
    letter_next before c (a ∷ 37 ∷ d ∷ b ∷ 37 ∷ e ∷ rest) p.first is_first (omega (arith, few))
    ∙ byte_next one a (d ∷ b ∷ 37 ∷ e ∷ rest) second_plain (omega (arith, few_one))
    ∙ letter_next two d (b ∷ 37 ∷ e ∷ rest) p.second is_second (omega (arith, few_two))
    ∙ byte_next three b (e ∷ rest) third_plain (omega (arith, few_three))
    ∙ letter_next four e rest p.third is_third few_four
    ∙ ap (λ (all : List Tree). read all 0 rest) (five_added before p)

-- reading goes on behind them
pub parted_read : (before : List Tree) (text : List ℕ) (p : Parted) → BeginsParted text p → length before + 5 ≤ most_items
    → read before 0 text ≡ read (before ++ items_of_parted p) 0 (drop 8 text)
parted_read before text p begins few =
    ap (read before 0) begins.spelled
    ∙ five_read before begins.one begins.two begins.three begins.rest p begins.first begins.second begins.third begins.second_plain begins.third_plain few
    ∙ ap (λ (bs : List ℕ). read (before ++ items_of_parted p) 0 (drop 8 bs)) (sym begins.spelled)
