-- What a line is answered by.
use Rattle.std.specs.Prelude.{ℕ, ◌≡◌, ◌≢◌, ◌^◌, ◌-◌, ◌⊎◌, Some, None, List, [], ◌∷◌, ◌++◌, length, min, codes, decimal}
use Rattle.time_fmt.specs.Outcome.{Outcome, Refusal, insufficient, invalid_component, out_of_range}
use Rattle.time_show.specs.declared.value.NoValue.TheVariants.{BadLine, OutOfRange}
use Rattle.time_show.specs.Asked.{Asked, no_value, formatted, asked_of}
use Rattle.time_show.specs.Value.{part_name}

-- `ok COUNT WIDTH TEXT`
abbrev pub ok_text : ℕ → ℕ → List ℕ → List ℕ
ok_text count width text =
    codes "ok " ++ (decimal count ++ (codes " " ++ (decimal width ++ (codes " " ++ (text ++ codes "\n")))))

-- `refused WRITTEN NAME`
abbrev pub refused_text : ℕ → List ℕ → List ℕ
refused_text written name = codes "refused " ++ (decimal written ++ (codes " " ++ (name ++ codes "\n")))

abbrev pub bad_line_text : List ℕ
bad_line_text = codes "bad line\n"

-- the name of a refusal
abbrev pub refusal_name : Refusal → List ℕ
refusal_name insufficient = codes "insufficient"
refusal_name (invalid_component name) = name
refusal_name (out_of_range range) = range.name

-- the greatest width that is printed
abbrev pub greatest_usize : ℕ
greatest_usize = 2 ^ 64 - 1

-- the text of an outcome by a description of this width
abbrev pub outcome_text : ℕ → Outcome → List ℕ
outcome_text width outcome = elim outcome.refusal [
  | None ↦ ok_text (length outcome.bytes) (min width greatest_usize) outcome.bytes
  | Some refusal ↦ refused_text (length outcome.bytes) (refusal_name refusal)
]

abbrev pub out_of_memory_name : List ℕ
out_of_memory_name = codes "out-of-memory"

-- The answer is this text. A value may be refused instead when an allocation fails.
abbrev pub Answers : Asked → List ℕ → Type 0
Answers (formatted width outcome) text =
    (text ≡ outcome_text width outcome) ⊎ (text ≡ refused_text 0 out_of_memory_name)
Answers (no_value (OutOfRange part)) text = text ≡ refused_text 0 (part_name part)
Answers (no_value BadLine) text = text ≡ bad_line_text

-- the text answers the line
abbrev pub IsAnswer : List ℕ → List ℕ → Type 0
IsAnswer line text = Answers (asked_of line) text

-- the text is an answer to each line, one after another
abbrev pub AreAnswers : List (List ℕ) → List ℕ → Type 0
AreAnswers [] text = text ≡ []
AreAnswers (line ∷ lines) text =
    (first : List ℕ) × (others : List ℕ) × (text ≡ first ++ others) × IsAnswer line first × AreAnswers lines others

-- the text answers some first lines, and then it is a beginning of an answer to the next, but not all of it
pub record BreaksOff (lines : List (List ℕ)) (text : List ℕ) : Type 0 where
  pub first : List (List ℕ)
  pub next : List ℕ
  pub others : List (List ℕ)
  pub in_order : lines ≡ first ++ next ∷ others
  pub done : List ℕ
  pub start : List ℕ
  pub missing : List ℕ
  pub whole : text ≡ done ++ start
  pub answered : AreAnswers first done
  pub begun : IsAnswer next (start ++ missing)
  pub unfinished : missing ≢ []
