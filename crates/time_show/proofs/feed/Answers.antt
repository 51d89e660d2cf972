use Rattle.std.proofs.Common.{ℕ, ◌≡◌, ◌+◌, ◌<◌, ◌++◌, List, [], ◌∷◌, length, take, drop, get_or, Option, Some, Ok, Err, false}
use Rattle.std.proofs.Common.{refl, sym, ap, ◌∙◌, suc, arith}
use Rattle.std.proofs.Math.Seq.{drop-cons}
use Rattle.std.proofs.lemmas.List.{take-append-drop, take_more}
use Rattle.std.proofs.lemmas.Result.{err_from_is_err_and}
use Rattle.time_show.specs.declared.ShowError.{ShowError}
use Rattle.time_show.specs.LineBuffer.{kept_with}
use Rattle.time_show.specs.Lines.{is_line_feed}
use Rattle.time_show.specs.Run.{AnswersLine, GoesOn}
use Rattle.time_show.proofs.RunLemmas.{GoesOn-byte, GoesOn-cut, GoesOn-line}
use Rattle.time_show.proofs.feed.Goals as goal
use Rattle.time_show.proofs.feed.Goals.{then-byte-eq10+in_ok-answer_line, else-byte-eq10}

-- the next byte ends a line, which is answered
line_is_answered : (bytes : List ℕ) (i : ℕ) (k0 k1 k2 h0 h1 h2 : Option (List ℕ)) → i < length bytes
    → get_or bytes i 0 ≡ 10 → GoesOn (Ok tt) (take i bytes) k0 k1 h0 h1 → AnswersLine (Ok tt) k1 h1 h2 → k2 ≡ Some []
    → GoesOn (Ok tt) (take (i + 1) bytes) k0 k2 h0 h2
line_is_answered bytes i k0 k1 k2 h0 h1 h2 lt is p q empty =
    rw (take_more bytes i 0 lt, is, empty) (GoesOn-line (take i bytes) k0 k1 h0 h1 h2 p q)

-- the next byte belongs to the line
byte_is_kept : (bytes : List ℕ) (i : ℕ) (k0 k1 k2 h0 h1 : Option (List ℕ)) → i < length bytes
    → is_line_feed (get_or bytes i 0) ≡ false → GoesOn (Ok tt) (take i bytes) k0 k1 h0 h1
    → k2 ≡ kept_with k1 (get_or bytes i 0 ∷ []) → GoesOn (Ok tt) (take (i + 1) bytes) k0 k2 h0 h1
byte_is_kept bytes i k0 k1 k2 h0 h1 lt other p kept =
    rw (take_more bytes i 0 lt, kept) (GoesOn-byte (take i bytes) (get_or bytes i 0) k0 k1 h0 h1 other p)

-- the next byte ends a line, and a write of its answer fails
answer_is_cut : (e : ShowError) (bytes : List ℕ) (i : ℕ) (k0 k1 k2 h0 h1 h2 : Option (List ℕ)) → i < length bytes
    → get_or bytes i 0 ≡ 10 → GoesOn (Ok tt) (take i bytes) k0 k1 h0 h1 → AnswersLine (Err e) k1 h1 h2
    → GoesOn (Err e) bytes k0 k2 h0 h2
answer_is_cut e bytes i k0 k1 k2 h0 h1 h2 lt is p q =
    let rest : drop i bytes ≡ 10 ∷ drop (suc i) bytes = drop-cons bytes i 0 lt ∙ rw is refl in
    let whole : bytes ≡ take i bytes ++ 10 ∷ drop (suc i) bytes =
    sym (take-append-drop i bytes) ∙ ap (λ more. take i bytes ++ more) rest in
    rw whole (GoesOn-cut e (take i bytes) (drop (suc i) bytes) k0 k1 k2 h0 h1 h2 p q)

pub loop-byte-preserved : goal.loop-byte-preserved
loop-byte-preserved g c = elim c.if-byte-eq10.branch [
  | then-byte-eq10+in_ok-answer_line w ↦ rw (w.line-is, w.output-is)
      (line_is_answered c.args.bytes.now c.loop-byte.byte-index _ _ _ _ _ _ c.loop-byte-test.true w.if-byte-eq10.true
      c.loop-byte.invariant w.in_ok-answer_line.ensures w.clear.ensures)
  | else-byte-eq10 w ↦ rw (w.line-is, w.output-is)
      (byte_is_kept c.args.bytes.now c.loop-byte.byte-index _ _ _ _ _ c.loop-byte-test.true (grind arith)
      c.loop-byte.invariant w.push.ensures)
]

pub returns-in_err-answer_line : goal.returns-in_err-answer_line
returns-in_err-answer_line g c =
    let p = err_from_is_err_and c.from_residual.result c.from_residual.ensures.1 in
    rw (p.1, p.2) (answer_is_cut _ c.args.bytes.now c.loop-byte.byte-index _ _ _ _ _ _ c.loop-byte-test.true
    c.if-byte-eq10.true c.loop-byte.invariant c.in_err-answer_line.ensures)
