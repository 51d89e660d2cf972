-- One text in other parts.
use Rattle.std.proofs.Common.{List, ℕ, ◌++◌, refl, sym, ap, ◌∙◌, append_assoc}
use Rattle.time_known.specs.Rules.{Rule, ◌▹◌}
use Rattle.time_read.specs.Shapes.{Seq}

-- both parts by other rules
pub both_as : {P Q P' Q' : Rule} {text : List ℕ} → (P ▹ Q) text → ((t : List ℕ) → P t → P' t) → ((t : List ℕ) → Q t → Q' t)
    → (P' ▹ Q') text
both_as s p q = record {
  front = s.front;
  rest = s.rest;
  whole = s.whole;
  first = p s.front s.first;
  second = q s.rest s.second;
}

-- what follows the first part by another rule
pub rest_as : {P Q Q' : Rule} {text : List ℕ} → (P ▹ Q) text → ((t : List ℕ) → Q t → Q' t) → (P ▹ Q') text
rest_as s q = both_as s (λ t p. p) q

-- of three parts the last two are one
pub to_right : {P Q R : Rule} {text : List ℕ} → ((P ▹ Q) ▹ R) text → (P ▹ Q ▹ R) text
to_right s =
    let a = s.first in
    record {
      front = a.front;
      rest = a.rest ++ s.rest;
      whole = s.whole ∙ ap (λ t. t ++ s.rest) a.whole ∙ append_assoc a.front a.rest s.rest;
      first = a.first;
      second = record { front = a.rest; rest = s.rest; whole = refl; first = a.second; second = s.second };
    }

-- of three parts the first two are one
pub to_left : {P Q R : Rule} {text : List ℕ} → (P ▹ Q ▹ R) text → ((P ▹ Q) ▹ R) text
to_left s =
    let b = s.second in
    record {
      front = s.front ++ b.front;
      rest = b.rest;
      whole = s.whole ∙ ap (λ t. s.front ++ t) b.whole ∙ sym (append_assoc s.front b.front b.rest);
      first = record { front = s.front; rest = b.front; whole = refl; first = s.first; second = b.first };
      second = b.second;
    }

-- a sequence of two parts, and two parts as a sequence
pub parts_of : {A B : Type 0} {P : A → Rule} {Q : A → B → Rule} {p : A × B} {text : List ℕ} → Seq P Q p text → (P p.0 ▹ Q p.0 p.1) text
parts_of s = record { front = s.front; rest = s.rest; whole = s.whole; first = s.first; second = s.second }

pub seq_of : {A B : Type 0} {P : A → Rule} {Q : A → B → Rule} (p : A × B) {text : List ℕ} → (P p.0 ▹ Q p.0 p.1) text → Seq P Q p text
seq_of p s = record { front = s.front; rest = s.rest; whole = s.whole; first = s.first; second = s.second }
