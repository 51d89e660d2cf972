-- Texts of mail in parts.
use Rattle.std.proofs.Common.{◌≡◌, ℕ, List, [], ◌∷◌, ◌++◌, append_assoc, refl, sym, ap, ◌∙◌}
use Rattle.time_known.specs.Rules.{Rule, Literal, ◌▹◌}
use Rattle.time_read.specs.Front.{Front}

-- a part at the front, and what is left
pub with_rest : {P Q : Rule} {text rest : List ℕ} → Front P text rest → Q rest → (P ▹ Q) text
with_rest {rest = rest} p q = record { front = p.front; rest = rest; whole = p.whole; first = p.is; second = q }

-- two parts at the front
pub front_join : {P Q : Rule} {text rest last : List ℕ} → Front P text rest → Front Q rest last → Front (P ▹ Q) text last
front_join {last = last} p q = record {
  front = p.front ++ q.front;
  whole = p.whole ∙ ap (λ t. p.front ++ t) q.whole ∙ sym (append_assoc p.front q.front last);
  is = record { front = p.front; rest = q.front; whole = refl; first = p.is; second = q.is };
}

-- a byte at the front
pub front_literal : (b : ℕ) {text rest : List ℕ} → text ≡ b ∷ rest → Front (Literal (b ∷ [])) text rest
front_literal b e = record { front = b ∷ []; whole = e; is = refl }
