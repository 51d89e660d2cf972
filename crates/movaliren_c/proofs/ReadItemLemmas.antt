-- What is read by items.
use Rattle.std.proofs.Common.{◌≡◌, ◌≤◌, ℕ, List, [], ◌∷◌, length, take, drop, map, Result, Ok, Err, IsOk, None, refl, sym, ap, subst, ◌∙◌, arith}
use Rattle.std.proofs.Math.Seq.{take-append_seam}
use Rattle.std.proofs.lemmas.Grind.{common_steps}
use Rattle.movaliren_c.proofs.MeaningLemmas.{same_value, value_of_given}
use Rattle.movaliren_c.specs.Items.{IsShown, Shows, item_tree, list_of, reason_before, trees_of}
use Rattle.movaliren_c.specs.ReadItems.{IsTextOf, IsUnread, read_tree, tree_or_nothing}
use Rattle.movaliren_c.specs.declared.answers.reason.Reason.{Reason}
use Rattle.movaliren_c.specs.declared.answers.reason.Reason.TheVariants as reason
use Rattle.movaliren_c.specs.declared.described.item.Item.{Item}
use Rattle.movaliren_c.specs.declared.read.items.Unread.TheVariants as unread
use Rattle.time_below.specs.Facts.{Facts}
use Rattle.time_below.specs.Tree.{Tree, trees}
use Rattle.time_fmt.specs.Description.{trees_outcome}
use Rattle.time_below.specs.Width.{trees_width}
use Rattle.time_fmt.specs.Outcome.{Outcome, done}
use Rattle.time_known.proofs.OutcomeLemmas.{completed_by_bytes}

read_list : (rs : List (Result Tree Reason)) (ts : List Tree) → list_of rs ≡ Ok ts → map tree_or_nothing rs ≡ ts
read_list [] ts h = same_value [] ts h
read_list (Err r ∷ rs) ts h = grind (arith, common_steps)
read_list (Ok t ∷ rs) ts h =
    let given = value_of_given (list_of rs) (λ others. Ok (t ∷ others)) ts h in
    ap (λ (rest : List Tree). t ∷ rest) (read_list rs given.0 given.1) ∙ same_value (t ∷ given.0) ts given.2

read_each : (texts : List ℕ) (items : List Item)
    → map (read_tree texts) items ≡ map tree_or_nothing (map (item_tree texts) items)
read_each texts [] = refl
read_each texts (i ∷ is) = ap (λ (rest : List Tree). read_tree texts i ∷ rest) (read_each texts is)

-- where all items are valid, their trees are those that are read
pub trees_are_read : (texts : List ℕ) (items : List Item) (ts : List Tree) → trees_of texts items ≡ Ok ts
    → map (read_tree texts) items ≡ ts
trees_are_read texts items ts h = read_each texts items ∙ read_list (map (item_tree texts) items) ts h

-- ---- a text

is_done : (o : Outcome) (text : List ℕ) → o.refusal ≡ None → o.bytes ≡ text → o ≡ done text
is_done o text completed same = completed_by_bytes o completed ∙ ap (λ (bytes : List ℕ). done bytes) same

shown_bytes : (o : Outcome) (width count : ℕ) (before after : List ℕ) → Shows o width count before after → count ≤ 128
    → length before ≡ 128 → o.bytes ≡ take count after
shown_bytes o width count before after shows short room =
    let counted = shows.counted in
    let fits : length o.bytes ≤ length before = omega (arith, counted, short, room) in
    let all : count ≡ length o.bytes = omega (arith, counted, short) in
    sym (ap (λ (n : ℕ). take n after) all ∙ ap (λ (it : List ℕ). take (length o.bytes) it) (shows.written fits)
    ∙ take-append_seam o.bytes (drop (length o.bytes) before))

text_of_items : (texts : List ℕ) (items : List Item) (d : Result (List Tree) Reason) (f : Facts) (text : List ℕ)
    → trees_of texts items ≡ d → IsOk d → trees_outcome (trees (map (read_tree texts) items)) f ≡ done text
    → IsTextOf d f text
text_of_items texts items (Ok ts) f text h there o =
    subst (λ (it : List Tree). trees_outcome (trees it) f ≡ done text) (trees_are_read texts items ts h) o
text_of_items texts items (Err r) f text h there o = grind (arith, common_steps)

-- a text by valid items
pub text_by_items : (texts : List ℕ) (items : List Item) (f : Facts) (text : List ℕ) → IsOk (trees_of texts items)
    → trees_outcome (trees (map (read_tree texts) items)) f ≡ done text → IsTextOf (trees_of texts items) f text
text_by_items texts items f text there o = text_of_items texts items (trees_of texts items) f text refl there o

-- a text that was written into an array which holds it
pub text_shown : (d : Result (List Tree) Reason) (f : Facts) (count : ℕ) (before after text : List ℕ)
    → IsShown d f (Ok count) before after → count ≤ 128 → length before ≡ 128 → take count after ≡ text → IsTextOf d f text
text_shown (Ok ts) f count before after text shows short room same =
    is_done (trees_outcome (trees ts) f) text shows.completed (shown_bytes (trees_outcome (trees ts) f) (trees_width (trees ts))
    count before after shows short room ∙ same)
text_shown (Err r) f count before after text shows short room same = let no : ⊥ = cc in absurd no

-- ---- why no text is read

-- an item is invalid
pub never_read : (d : Result (List Tree) Reason) (text : List ℕ) (r : Reason) → d ≡ Err r → IsUnread d text (unread.Never r)
never_read d text r is = subst (λ (it : Result (List Tree) Reason). IsUnread it text (unread.Never r)) (sym is) refl

-- the texts do not determine a moment
pub undetermined_by : (d : Result (List Tree) Reason) (text : List ℕ) (r : Reason) → r ≡ reason_before d reason.Undetermined
    → IsUnread d text (unread.Never r)
undetermined_by (Ok ts) text r is = is
undetermined_by (Err invalid) text r is = is
