-- The items of a text in the syntax of strftime are literals and components alone.
use Rattle.std.proofs.Common.{◌≡◌, ℕ, Bool, true, false, List, [], ◌∷◌, ◌++◌, Option, Some, None, Ok, refl, subst}
use Rattle.std.specs.Prelude.{IsTrue, ◌==◌, codes, option_map, if◌then◌else◌}
use Rattle.std.specs.List.{list_any}
use Rattle.time_below.specs.Tree.{Tree, of_component}
use Rattle.time_below.specs.declared.format_description.modifier.Padding.{Padding}
use Rattle.time_describe.specs.Conversions.{byte, component_of, composed, composition, flag_named, fraction, items_of, offset, otherwise, sign, width}
use Rattle.time_describe.specs.Items.{are_leaves}
use Rattle.time_describe.specs.Literal.{literal_of}
use Rattle.time_describe.specs.Strftime.{described, is_percent}
use Rattle.time_describe.specs.StrftimeGrammar.{Means, SpelledPart, converted, digit_and_n, colon_and_z, flag_and_letter, letter, literal, numbered, part_meaning}
use Rattle.time_describe.proofs.LeafLemmas.{composed_leaves, leaves_more, literal_before, offset_leaves}
use Rattle.time_describe.proofs.StrftimeLaws.{read_spelled}

abbrev AreLeaves : Option (List Tree) → Type 0
AreLeaves o = (items : List Tree) → o ≡ Some items → IsTrue (are_leaves items)

some_leaves : (items : List Tree) → IsTrue (are_leaves items) → AreLeaves (Some items)
some_leaves items h all e = let same : items ≡ all = cc in subst (λ (ts : List Tree). IsTrue (are_leaves ts)) same h

no_leaves : AreLeaves None
no_leaves all e = absurd cc

mapped_leaves : {A : Type 0} (f : A → List Tree) (o : Option A) → ((x : A) → IsTrue (are_leaves (f x))) → AreLeaves (option_map f o)
mapped_leaves f None h = no_leaves
mapped_leaves f (Some x) h = some_leaves (f x) (h x)

otherwise_leaves : (first second : Option (List Tree)) → AreLeaves first → AreLeaves second → AreLeaves (otherwise first second)
otherwise_leaves (Some items) second h k = h
otherwise_leaves None second h k = k

offset_or_none : (is : Bool) → AreLeaves (if is then Some (offset false) else None)
offset_or_none true = some_leaves (offset false) (offset_leaves false)
offset_or_none false = no_leaves

letter_leaves : (c : ℕ) → AreLeaves (items_of c)
letter_leaves c =
    otherwise_leaves _ _ (mapped_leaves (λ x. of_component x ∷ []) (component_of c) (λ x. refl))
    (otherwise_leaves _ _ (mapped_leaves (λ bytes. literal_of bytes ∷ []) (sign c) (λ bytes. literal_before bytes [] refl))
    (otherwise_leaves _ _ (offset_or_none (c == byte (codes "z"))) (mapped_leaves composed (composition c) composed_leaves)))

numbered_leaves : (c : ℕ) (flag : Option Padding) → AreLeaves (numbered c flag)
numbered_leaves c None = no_leaves
numbered_leaves c (Some flag) = mapped_leaves (λ x. of_component x ∷ []) _ (λ x. refl)

literal_or_none : (has_percent : Bool) (bytes : List ℕ) → AreLeaves (if has_percent then None else Some (literal_of bytes ∷ []))
literal_or_none true bytes = no_leaves
literal_or_none false bytes = some_leaves (literal_of bytes ∷ []) (literal_before bytes [] refl)

meaning_leaves : (p : SpelledPart) → AreLeaves (part_meaning p)
meaning_leaves (literal []) = no_leaves
meaning_leaves (literal (b ∷ bs)) = literal_or_none (list_any is_percent (b ∷ bs)) (b ∷ bs)
meaning_leaves (converted (letter c)) = letter_leaves c
meaning_leaves (converted (flag_and_letter f c)) = numbered_leaves c (flag_named f)
meaning_leaves (converted colon_and_z) = some_leaves (offset true) (offset_leaves true)
meaning_leaves (converted (digit_and_n d)) = mapped_leaves (λ n. fraction (Some n) ∷ []) (width d) (λ n. refl)

means_leaves : (ps : List SpelledPart) (before all : List Tree) → IsTrue (are_leaves before) → Means before ps all → IsTrue (are_leaves all)
means_leaves [] before all h m = subst (λ (ts : List Tree). IsTrue (are_leaves ts)) m h
means_leaves (p ∷ ps) before all h m = means_leaves ps (before ++ m.0) all (leaves_more before m.0 h (meaning_leaves p m.0 m.1)) m.3

pub described_leaves : (text : List ℕ) (all : List Tree) → described text ≡ Ok all → IsTrue (are_leaves all)
described_leaves text all is = let w = read_spelled text 0 [] all is in means_leaves w.0 [] all refl w.2
