-- What is written for a line.
use Rattle.std.proofs.Common.{◌≡◌, ◌∙◌, ℕ, true, List, [], ◌∷◌, Option, Some, None, IfSome, ap, sym}
use Rattle.std.proofs.Output.{has_written_append, has_written_to_eq, writes_in_calls_nil}
use Rattle.std.specs.Prelude.{codes, flat_map, ◌++◌}
use Rattle.std.specs.List.{FoldsTo}
use Rattle.std.specs.Fmt.{HasWritten, IsPlainFormatter}
use Rattle.std.specs.declared.fmt.Formatter.{Formatter}
use Rattle.log.specs.declared.level.Level.{Level}
use Rattle.log.specs.Kv.{Pair}
use Rattle.log.specs.Line.{pair_text, pairs_text, scope_text}
use Rattle.log.specs.Span.{Scope}
use Rattle.log_time.specs.declared.line.Pairs.{Pairs}
use Rattle.log_time.specs.TimedLine.{WritesPair, timed_header, timed_text}

module _ {W : Type 0} (took : W → List ℕ → W → Type 0) where
  written_nothing : (f g : Formatter W) → f ≡ g → IsPlainFormatter f → HasWritten took f [] g
  written_nothing f g e plain =
      has_written_to_eq took f [] f g (sym e) (record { wrote = writes_in_calls_nil took f.writer; plain = plain })

  -- calls that each write the text of their item write the texts in a row
  written_each : {X : Type 0} (text : X → List ℕ) (f : Formatter W) (xs : List X) (g : Formatter W)
      → FoldsTo (λ a x b. IsPlainFormatter a → HasWritten took a (text x) b) f xs g
      → IsPlainFormatter f → HasWritten took f (flat_map text xs) g
  written_each text f [] g h plain = written_nothing f g h plain
  written_each text f (x ∷ xs) g h plain =
      has_written_append took f (text x) h.0 (flat_map text xs) g (h.1 plain)
      (written_each text h.0 xs g h.2 (h.1 plain).plain)

  -- the writer of pairs keeps its formatter
  same_formatter : (p : Pairs W) (ps : List Pair) (q : Pairs W) → FoldsTo (WritesPair took) p ps q
      → q.f.ghost_name ≡ p.f.ghost_name
  same_formatter p [] q h = ap (λ (x : Pairs W). x.f.ghost_name) (sym h)
  same_formatter p (x ∷ xs) q h = same_formatter h.0 xs q h.2 ∙ h.1.same_reference

  -- and writes the pairs
  written_pairs : (p : Pairs W) (ps : List Pair) (q : Pairs W) → FoldsTo (WritesPair took) p ps q
      → IsPlainFormatter p.f.now → HasWritten took p.f.now (pairs_text ps) q.f.now
  written_pairs p [] q h plain = written_nothing p.f.now q.f.now (ap (λ (x : Pairs W). x.f.now) h) plain
  written_pairs p (x ∷ xs) q h plain =
      let first = h.1.wrote plain in
      has_written_append took p.f.now (codes " " ++ pair_text x) h.0.f.now (pairs_text xs) q.f.now
      first (written_pairs h.0 xs q h.2 first.plain)

  -- where x is what the lent formatter ends as
  pub known_pairs : (o : Option (List Pair)) (p q : Pairs W) (x : Formatter W)
      → IfSome o (λ ps. FoldsTo (WritesPair took) p ps q)
      → (p.f.ghost_name ≡ q.f.ghost_name → x ≡ q.f.now)
      → IfSome o (λ ps. true ≡ true → IsPlainFormatter p.f.now → HasWritten took p.f.now (pairs_text ps) x)
  known_pairs None p q x h e = tt
  known_pairs (Some ps) p q x h e = λ _ plain.
      has_written_to_eq took _ _ _ _ (e (sym (same_formatter p ps q h))) (written_pairs p ps q h plain)

  -- the four parts of a line, written in a row
  pub written_line : (f0 f1 f2 f3 f4 : Formatter W) (time : List ℕ) (level : Level) (target : List ℕ)
      (scopes : Option (List Scope)) (message : Option (List ℕ)) (pairs : Option (List Pair))
      → (IsPlainFormatter f0 → true ≡ true → HasWritten took f0 (timed_header time level target) f1)
      → IfSome scopes (λ xs. FoldsTo (λ a x b. IsPlainFormatter a → HasWritten took a (scope_text x) b) f1 xs f2)
      → IfSome message (λ bs. IsPlainFormatter f2 → true ≡ true → HasWritten took f2 bs f3)
      → IfSome pairs (λ ps. true ≡ true → IsPlainFormatter f3 → HasWritten took f3 (pairs_text ps) f4)
      → IfSome (timed_text time level target scopes message pairs)
      (λ bs. IsPlainFormatter f0 → true ≡ true → HasWritten took f0 bs f4)
  written_line f0 f1 f2 f3 f4 time level target None message pairs a b c d = tt
  written_line f0 f1 f2 f3 f4 time level target (Some xs) None pairs a b c d = tt
  written_line f0 f1 f2 f3 f4 time level target (Some xs) (Some bs) None a b c d = tt
  written_line f0 f1 f2 f3 f4 time level target (Some xs) (Some bs) (Some ps) a b c d = λ plain ok.
      let header = a plain ok in
      let spans = written_each scope_text f1 xs f2 b header.plain in
      let message = c spans.plain ok in
      let pairs = d ok message.plain in
      has_written_append took _ _ _ _ _ header
      (has_written_append took _ _ _ _ _ spans (has_written_append took _ _ _ _ _ message pairs))
