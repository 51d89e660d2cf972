-- Why a text of the command line is no description.
use Rattle.std.specs.Prelude.{ℕ, ◌≡◌, ◌==◌, Bool, List, true, false}
use Rattle.std.specs.List.{list_any}
use Rattle.movaliren_cli.specs.declared.description.Refusal.{Refusal}
use Rattle.movaliren_cli.specs.declared.description.Refusal.TheVariants.{Name, Brackets, Strftime}

abbrev pub has_percent : List ℕ → Bool
has_percent text = list_any (λ b. b == 37) text

abbrev pub has_bracket : List ℕ → Bool
has_bracket text = list_any (λ b. b == 91) text

-- the refusal is one of the text's syntax, which is that of strftime with a percent sign, else that of brackets with a bracket,
-- and else the name of a format
abbrev pub IsRefusalOf : List ℕ → Refusal → Type 0
IsRefusalOf text Name = (has_percent text ≡ false) × (has_bracket text ≡ false)
IsRefusalOf text (Brackets fault) = (has_percent text ≡ false) × (has_bracket text ≡ true)
IsRefusalOf text (Strftime fault) = has_percent text ≡ true
