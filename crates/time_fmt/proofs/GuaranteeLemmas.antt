-- Texts of components are ASCII, and texts one after another are UTF-8 where each of them is.
use Rattle.std.proofs.Common.{◌≡◌, ℕ, Bool, true, ◌&&◌, nat_lt, List, [], IsAscii, IsUtf8, MatchOption, Option, Some}
use Rattle.std.proofs.Common.{None, arith, Result}
use Rattle.std.specs.List.{list_all}
use Rattle.std.proofs.lemmas.Bool.{and_parts, ltb-true}
use Rattle.std.proofs.lemmas.List.Elements.{All-weaker}
use Rattle.std.proofs.lemmas.List.Sums.{AllPass-from_list_all}
use Rattle.std.proofs.lemmas.Str.{IsAscii-append, IsAscii-take, IsUtf8-append, IsUtf8-from_ascii}
use Rattle.std.proofs.lemmas.Str.Ascii.{IsAscii-from_all, IsAscii-nil}
use Rattle.time_below.specs.Conversion.{current_component}
use Rattle.time_below.specs.declared.period.Period.{Period}
use Rattle.time_below.specs.declared.format_description.component.Component.{Component}
use Rattle.time_below.specs.declared.format_description.modifier.Padding.{Padding}
use Rattle.time_below.specs.declared.format_description.modifier.SubsecondDigits.{SubsecondDigits}
use Rattle.time_below.specs.declared.format_description.modifier.SubsecondDigits.TheVariants as digits
use Rattle.time_below.specs.Facts.{Facts}
use Rattle.time_below.specs.Tree.{Tree, Trees, of_component, more}
use Rattle.time_below.specs.Width.{component_width, is_guaranteed_text, are_guaranteed_text, subsecond_width}
use Rattle.time_digits.specs.Digits.{fixed}
use Rattle.time_digits.proofs.DigitLemmas.{IsAscii-fixed}
use Rattle.time_digits.proofs.FractionLemmas.{IsAscii-trimmed_fraction}
use Rattle.time_digits.proofs.LengthLemmas.{IsAscii-padded, IsAscii-number}
use Rattle.time_fmt.specs.DateText.{month_name, weekday_name, indexed}
use Rattle.time_fmt.specs.Description.{current_outcome, component_outcome, tree_outcome, trees_outcome}
use Rattle.time_fmt.specs.Ends.{Ends}
use Rattle.time_fmt.specs.Guarantee.{IsTextIf, AppendsTree}
use Rattle.time_fmt.specs.Kind as kind
use Rattle.time_fmt.specs.Kind.{Kind, kind_text, kind_outcome}
use Rattle.time_fmt.specs.Outcome.{Outcome, join}
use Rattle.time_fmt.specs.Sink.{Buffer}
use Rattle.time_fmt.specs.Text.{padded_text, sign_text, period_text, subsecond_text}
use Rattle.time_fmt.specs.declared.refused.Refused.{Refused}
use Rattle.time_fmt.proofs.TextLemmas.{passes_at}
use Rattle.std.proofs.lemmas.Grind.{common_steps}

-- ---- texts

-- a text that passes the test is ASCII
pub ascii_test : (bs : List ℕ) → list_all (λ b. nat_lt b 128) bs ≡ true → IsAscii bs
ascii_test bs h = grind (arith, IsAscii-from_all, All-weaker, ltb-true, AllPass-from_list_all)

-- a number in its places is ASCII
IsAscii-padded_text : (p : Padding) (places n : ℕ) → IsAscii (padded_text p places n)
IsAscii-padded_text p places n = grind (arith, common_steps, IsAscii-padded, IsAscii-number)

-- a sign is ASCII
pub IsAscii-sign_text : (is_negative is_wanted : Bool) → IsAscii (sign_text is_negative is_wanted)
IsAscii-sign_text is_negative is_wanted = grind (arith, common_steps, ascii_test, IsAscii-nil)

-- the name of a month is ASCII
pub IsAscii-month_name : (m : ℕ) → IsAscii (month_name m)
IsAscii-month_name m = grind (arith, ascii_test, passes_at)

-- the name of a weekday is ASCII
pub IsAscii-weekday_name : (w : ℕ) → IsAscii (weekday_name w)
IsAscii-weekday_name w = grind (arith, ascii_test, passes_at)

-- the half of a day is ASCII
IsAscii-period_text : (p : Period) (is_uppercase : Bool) → IsAscii (period_text p is_uppercase)
IsAscii-period_text p is_uppercase = grind (arith, common_steps, ascii_test)

-- decimals of the second are ASCII
IsAscii-subsecond_text : (d : SubsecondDigits) (n : ℕ) → IsAscii (subsecond_text d n)
IsAscii-subsecond_text digits.OneOrMore n = IsAscii-trimmed_fraction n
IsAscii-subsecond_text d n = IsAscii-take (fixed 9 n) (subsecond_width d) (IsAscii-fixed 9 n)

-- ---- components

-- each kind of text is ASCII
IsAscii-kind_text : (k : Kind) → IsAscii (kind_text k)
IsAscii-kind_text (kind.number p places n) = IsAscii-padded_text p places n
IsAscii-kind_text (kind.signed n w p places m) = grind (arith, IsAscii-append, IsAscii-sign_text, IsAscii-padded_text)
IsAscii-kind_text (kind.limited greatest n k) = IsAscii-kind_text k
IsAscii-kind_text (kind.month n) = IsAscii-month_name n
IsAscii-kind_text (kind.weekday n) = IsAscii-weekday_name n
IsAscii-kind_text (kind.short k) = IsAscii-take (kind_text k) 3 (IsAscii-kind_text k)
IsAscii-kind_text (kind.digit one_indexed days) = IsAscii-number (indexed one_indexed days)
IsAscii-kind_text (kind.half_day p is_uppercase) = IsAscii-period_text p is_uppercase
IsAscii-kind_text (kind.decimals d n) = IsAscii-subsecond_text d n
IsAscii-kind_text kind.empty = IsAscii-nil

-- a number that is limited to its range is ASCII
IsAscii-kind_outcome : (k : Kind) → IsAscii (kind_outcome k).bytes
IsAscii-kind_outcome (kind.limited greatest n k) = grind (arith, IsAscii-kind_text, IsAscii-nil)
IsAscii-kind_outcome k = IsAscii-kind_text k

-- the text of a component is ASCII, with or without its group
pub ascii_current : (c : Component) (f : Facts) → IsAscii (current_outcome c f).bytes
ascii_current c f = grind (arith, IsAscii-kind_outcome, IsAscii-nil)

-- ---- outcomes one after another

-- outcomes one after another are UTF-8 where each of them is
joined_utf8 : (a b : Outcome) → IsUtf8 a.bytes → IsUtf8 b.bytes → IsUtf8 (join a b).bytes
joined_utf8 a b p q = elim a.refusal as (λ r. IsUtf8 (join (record { bytes = a.bytes; refusal = r }) b).bytes)
    [ None ↦ IsUtf8-append a.bytes b.bytes p q | Some r ↦ p ]

-- no bytes are UTF-8
pub empty_utf8 : IsUtf8 []
empty_utf8 = IsUtf8-from_ascii [] IsAscii-nil

-- a component has a text
pub text_of_component : (c : Component) (f : Facts) → IsUtf8 (component_outcome c f).bytes
text_of_component c f = IsUtf8-from_ascii (component_outcome c f).bytes (ascii_current (current_component c) f)

-- a component that was written or refused is that of its tree
pub leaf_of_written : (written : Option (Result Unit Refused)) (c : Component) (f : Facts) (old new : Buffer)
    → MatchOption written (new ≡ old) (λ answer. Ends (component_width c) old new answer (component_outcome c f))
    → MatchOption written (new ≡ old) (AppendsTree (of_component c) f old new)
leaf_of_written None c f old new h = h
leaf_of_written (Some answer) c f old new h = record { ends = h; text = λ _. text_of_component c f }

-- a list has a text if its first tree has one, and so have the others
pub text_more : (t : Tree) (ts : Trees) (f : Facts) → IsTextIf (is_guaranteed_text t) (tree_outcome t f)
    → IsTextIf (are_guaranteed_text ts) (trees_outcome ts f)
    → IsTextIf (are_guaranteed_text (more t ts)) (trees_outcome (more t ts) f)
text_more t ts f first others h = grind (arith, and_parts, joined_utf8)

-- one outcome after another is a text where both are
pub text_both : (p q : Bool) (a b : Outcome) → IsTextIf p a → IsTextIf q b → IsTextIf (p && q) (join a b)
text_both p q a b first second h = let both = and_parts p q h in joined_utf8 a b (first both.0) (second both.1)
