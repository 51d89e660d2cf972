-- What one call writes of a date is its text.
use Rattle.std.proofs.Common.{◌≡◌, ℕ, ◌-◌, ◌^◌, false, List, [], ◌∷◌, ◌++◌, ap, ◌∙◌, arith, append_assoc}
use Rattle.std.proofs.lemmas.Grind.{common_steps}
use Rattle.std.specs.List.{concat, FoldsTo}
use Rattle.std.specs.Fmt.{WritesInCalls, padded_integral, format_spec, decimal, char_count}
use Rattle.std.specs.Fmt.InlineText.{inline_text, IsIntact, AppendsIfIntact}
use Rattle.std.specs.declared.fmt.InlineText.{InlineText}
use Rattle.std.specs.Prelude.{unsigned_abs, codes}
use Rattle.time_below.specs.Calendar.{OrdinalDate, month_of, day_of}
use Rattle.time_below.specs.DateText.{padded_decimal, year_sign, date_text}

-- calls that each append leave the text before and what they wrote
folded_text : {n : ℕ} (w : InlineText n) (parts : List (List ℕ)) (v : InlineText n) → FoldsTo AppendsIfIntact w parts v
    → IsIntact w → inline_text v ≡ inline_text w ++ concat parts
folded_text w [] v calls intact = grind (arith, common_steps)
folded_text w (part ∷ parts) v calls intact =
    let first = calls.1 intact in
    folded_text calls.0 parts v calls.2 first.0
    ∙ ap (λ text. text ++ concat parts) first.1
    ∙ append_assoc (inline_text w) part (concat parts)

-- what calls wrote into an empty text is the text
pub written_text : {n : ℕ} (w v : InlineText n) (text : List ℕ) → WritesInCalls AppendsIfIntact w text v
    → IsIntact w → inline_text w ≡ [] → inline_text v ≡ text
written_text w v text written intact empty =
    folded_text w written.parts v written.calls intact ∙ ap (λ t. t ++ concat written.parts) empty ∙ written.whole

-- a number that is written with zeros before it
pub padded_zeros : (width n : ℕ)
    → padded_integral (format_spec 32 0 4 width (2 ^ 64 - 1)) false [] (decimal n) ≡ padded_decimal width n
unfolding padded_integral char_count
padded_zeros width n = grind (arith, common_steps)

-- the pieces that one call writes, and the same as they are defined
joined : (s t a b p q u v : List ℕ) → s ≡ t → a ≡ b → p ≡ q → u ≡ v
    → s ++ (a ++ (45 ∷ (p ++ (45 ∷ u)))) ≡ (t ++ b) ++ codes "-" ++ q ++ codes "-" ++ v
joined s t a b p q u v sign year month day = rw (sign, year, month, day) (simp append_assoc)

-- what is written of a number with zeros before it
pub with_zeros : (width n m : ℕ) (text : List ℕ)
    → text ≡ padded_integral (format_spec 32 0 4 width (2 ^ 64 - 1)) false [] (decimal n) → n ≡ m
    → text ≡ padded_decimal width m
with_zeros width n m text written equal = written ∙ padded_zeros width n ∙ ap (padded_decimal width) equal

-- what one call writes of a date is its text
pub date_written : (d : OrdinalDate) (sign year month day : List ℕ) → sign ≡ year_sign d.year
    → year ≡ padded_decimal 4 (unsigned_abs d.year) → month ≡ padded_decimal 2 (month_of d) → day ≡ padded_decimal 2 (day_of d)
    → sign ++ (year ++ (45 ∷ (month ++ (45 ∷ day)))) ≡ date_text d
date_written d sign year month day a b p q = joined sign _ year _ month _ day _ a b p q
