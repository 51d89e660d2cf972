-- A run goes on from what it has answered.
use Rattle.std.proofs.Common.{ℕ, Ok, Err, ◌≡◌, ◌≢◌, ◌++◌, List, [], ◌∷◌, Option, Some, false, refl, sym, ap, ◌∙◌, inl, inr}
use Rattle.std.proofs.Common.{append_assoc, append-nil, arith}
use Rattle.std.proofs.lemmas.Grind.{common_steps}
use Rattle.std.proofs.KnownBytes.{Appends-trans, Consumes-trans}
use Rattle.std.specs.Io.KnownBytes.{Appends, Consumes, IsAtEnd}
use Rattle.time_show.specs.declared.ShowError.{ShowError}
use Rattle.time_show.specs.declared.ShowError.TheVariants.{Read, Write}
use Rattle.time_show.specs.Answer.{IsAnswer, AreAnswers, BreaksOff}
use Rattle.time_show.specs.LineBuffer.{kept_of, kept_with}
use Rattle.time_show.specs.Lines.{is_line_feed, whole_lines_of, unended_of, last_line_of, lines_of}
use Rattle.time_show.specs.Run.{AppendsStart, AnswersLine, AnsweredUpTo, GoesOn, Ran}
use Rattle.time_show.proofs.LinesLemmas.{whole_lines_of-ended, whole_lines_of-byte, whole_lines_of-more, unended_of-ended}
use Rattle.time_show.proofs.LinesLemmas.{unended_of-byte}

-- the answers to some lines, and the answer to one more
AreAnswers-one_more : (lines : List (List ℕ)) (text line answer : List ℕ) → AreAnswers lines text → IsAnswer line answer
    → AreAnswers (lines ++ line ∷ []) (text ++ answer)
AreAnswers-one_more [] text line answer p h = (answer, [], rw (p, append-nil answer) refl, h, refl)
AreAnswers-one_more (first ∷ lines) text line answer p h = (
  p.0,
  p.1 ++ answer,
  rw (p.2, append_assoc p.0 p.1 answer) refl,
  p.3,
  AreAnswers-one_more lines p.1 line answer p.4 h,
)

-- the answers to some lines, and a beginning of the answer to the next
breaks_off : (all lines others : List (List ℕ)) (line text answer : List ℕ) (old new : Option (List ℕ))
    → all ≡ lines ++ line ∷ others → AreAnswers lines text → IsAnswer line answer → (cut : AppendsStart old new answer)
    → BreaksOff all (text ++ cut.sent)
breaks_off all lines others line text answer old new in_order answered begun cut = record {
  first = lines;
  next = line;
  others = others;
  in_order = in_order;
  done = text;
  start = cut.sent;
  missing = cut.missing;
  whole = refl;
  answered = answered;
  begun = rw (← cut.in_order) begun;
  unfinished = cut.unfinished;
}

-- what is kept of a line with more bytes
kept_of-append : (line more : List ℕ) → kept_with (kept_of line) more ≡ kept_of (line ++ more)
kept_of-append line more = grind (arith, common_steps)

-- a byte of a line is kept
pub GoesOn-byte : (bytes : List ℕ) (b : ℕ) (k0 k1 h0 h1 : Option (List ℕ)) → is_line_feed b ≡ false
    → GoesOn (Ok tt) bytes k0 k1 h0 h1 → GoesOn (Ok tt) (bytes ++ b ∷ []) k0 (kept_with k1 (b ∷ [])) h0 h1
GoesOn-byte bytes b k0 k1 h0 h1 other p before text upto =
    let on = p before text upto in (
      on.0,
      on.1,
      rw (← append_assoc before bytes (b ∷ [])) (record {
        rest = rw (unended_of-byte (before ++ bytes) b other, on.2.rest) (kept_of-append (unended_of (before ++ bytes)) (b ∷ []));
        answered = rw (whole_lines_of-byte (before ++ bytes) b other) on.2.answered;
      }),
    )

-- a line feed ends the line, which is answered
pub GoesOn-line : (bytes : List ℕ) (k0 k1 h0 h1 h2 : Option (List ℕ))
    → GoesOn (Ok tt) bytes k0 k1 h0 h1 → AnswersLine (Ok tt) k1 h1 h2
    → GoesOn (Ok tt) (bytes ++ 10 ∷ []) k0 (Some []) h0 h2
GoesOn-line bytes k0 k1 h0 h1 h2 p q before text upto =
    let on = p before text upto in
    let line = q (unended_of (before ++ bytes)) on.2.rest in (
      on.0 ++ line.0,
      Appends-trans h0 h1 h2 on.0 line.0 on.1 line.2,
      rw (← append_assoc before bytes (10 ∷ []), ← append_assoc text on.0 line.0) (record {
        rest = rw (unended_of-ended (before ++ bytes)) refl;
        answered = rw (whole_lines_of-ended (before ++ bytes))
            (AreAnswers-one_more (whole_lines_of (before ++ bytes)) (text ++ on.0) (unended_of (before ++ bytes)) line.0
            on.2.answered line.1);
      }),
    )

-- a line feed ends the line, and a write of its answer fails
pub GoesOn-cut : (e : ShowError) (bytes rest : List ℕ) (k0 k1 k2 h0 h1 h2 : Option (List ℕ))
    → GoesOn (Ok tt) bytes k0 k1 h0 h1 → AnswersLine (Err e) k1 h1 h2
    → GoesOn (Err e) (bytes ++ 10 ∷ rest) k0 k2 h0 h2
GoesOn-cut Read bytes rest k0 k1 k2 h0 h1 h2 p q before text upto =
    absurd (q (unended_of (before ++ bytes)) (p before text upto).2.rest).2
GoesOn-cut Write bytes rest k0 k1 k2 h0 h1 h2 p q before text upto =
    let on = p before text upto in
    let line = q (unended_of (before ++ bytes)) on.2.rest in
    let cut : AppendsStart h1 h2 line.0 = line.2 in
    let all : before ++ (bytes ++ 10 ∷ rest) ≡ ((before ++ bytes) ++ 10 ∷ []) ++ rest = grind (arith, append_assoc) in
    let more = whole_lines_of-more ((before ++ bytes) ++ 10 ∷ []) rest in
    let lines : whole_lines_of (before ++ (bytes ++ 10 ∷ rest))
    ≡ whole_lines_of (before ++ bytes) ++ unended_of (before ++ bytes) ∷ more.0 =
    ap whole_lines_of all ∙ more.1
    ∙ rw (whole_lines_of-ended (before ++ bytes)) (append_assoc (whole_lines_of (before ++ bytes)) _ more.0) in (
      on.0 ++ cut.sent,
      Appends-trans h0 h1 h2 on.0 cut.sent on.1 cut.went_out,
      rw (← append_assoc text on.0 cut.sent)
          (breaks_off _ (whole_lines_of (before ++ bytes)) more.0 (unended_of (before ++ bytes)) (text ++ on.0) line.0
          h1 h2 lines on.2.answered line.1 cut),
    )

-- A run so far: bytes were read, a text was written, and it answers them.
pub record Running (left_before left_after held_before held_after kept : Option (List ℕ)) : Type 0 where
  pub bytes : List ℕ
  pub text : List ℕ
  pub read : Consumes left_before left_after bytes
  pub written : Appends held_before held_after text
  pub answered : AnsweredUpTo bytes kept text

-- the answers to a block break off
pub Ran-cut : (e : ShowError) (l0 l1 l2 h0 h1 h2 k1 k2 : Option (List ℕ)) (block : List ℕ)
    → Running l0 l1 h0 h1 k1 → Consumes l1 l2 block → GoesOn (Err e) block k1 k2 h1 h2
    → Ran (Err e) l0 l2 h0 h2
Ran-cut Read l0 l1 l2 h0 h1 h2 k1 k2 block run next p = absurd (p run.bytes run.text run.answered).2
Ran-cut Write l0 l1 l2 h0 h1 h2 k1 k2 block run next p =
    let on = p run.bytes run.text run.answered in
    record {
      bytes = run.bytes ++ block;
      text = run.text ++ on.0;
      read = Consumes-trans l0 l1 l2 run.bytes block run.read next;
      written = Appends-trans h0 h1 h2 run.text on.0 run.written on.1;
      shown = inl on.2;
    }

-- what is kept of a line shows whether it is empty
kept-empty : (line : List ℕ) → Some [] ≡ kept_of line → line ≡ []
kept-empty line e = grind (arith, common_steps)

-- what is left after a read of no bytes
Consumes-end : (a b c : Option (List ℕ)) (xs : List ℕ) → Consumes a b xs → Consumes b c [] → Consumes a c xs
Consumes-end a b c xs p q = rw (append-nil xs) at (Consumes-trans a b c xs [] p q)

-- the input ended, and no bytes came after the last line feed
pub Ran-ended : (l0 l1 l2 h0 h1 k1 : Option (List ℕ)) → Running l0 l1 h0 h1 k1
    → Consumes l1 l2 [] → k1 ≡ Some [] → Ran (Ok tt) l0 l2 h0 h1
Ran-ended l0 l1 l2 h0 h1 k1 run end empty =
    let none : unended_of run.bytes ≡ [] = kept-empty (unended_of run.bytes) (sym empty ∙ run.answered.rest) in
    record {
      bytes = run.bytes;
      text = run.text;
      read = Consumes-end l0 l1 l2 run.bytes run.read end;
      written = run.written;
      shown = rw (none, append-nil (whole_lines_of run.bytes)) run.answered.answered;
    }

-- some bytes after the last line feed are the last line
last_is_one : (line : List ℕ) → line ≢ [] → last_line_of line ≡ line ∷ []
last_is_one [] some = absurd (some refl)
last_is_one (b ∷ line) some = refl

lines_of-kept : (bytes : List ℕ) (kept : Option (List ℕ)) → kept ≢ Some [] → kept ≡ kept_of (unended_of bytes)
    → lines_of bytes ≡ whole_lines_of bytes ++ unended_of bytes ∷ []
lines_of-kept bytes kept some is = ap (λ last. whole_lines_of bytes ++ last)
    (last_is_one (unended_of bytes) (λ (e : unended_of bytes ≡ []). some (is ∙ ap kept_of e)))

-- the input ended, and its last line is answered
pub Ran-last : (l0 l1 l2 h0 h1 h2 k1 : Option (List ℕ)) → Running l0 l1 h0 h1 k1
    → Consumes l1 l2 [] → k1 ≢ Some [] → AnswersLine (Ok tt) k1 h1 h2 → Ran (Ok tt) l0 l2 h0 h2
Ran-last l0 l1 l2 h0 h1 h2 k1 run end some p =
    let line = p (unended_of run.bytes) run.answered.rest in
    record {
      bytes = run.bytes;
      text = run.text ++ line.0;
      read = Consumes-end l0 l1 l2 run.bytes run.read end;
      written = Appends-trans h0 h1 h2 run.text line.0 run.written line.2;
      shown = rw (lines_of-kept run.bytes k1 some run.answered.rest)
          (AreAnswers-one_more (whole_lines_of run.bytes) run.text (unended_of run.bytes) line.0 run.answered.answered line.1);
    }

-- the input ended, and a write of the answer to its last line failed
pub Ran-end_cut : (e : ShowError) (l0 l1 l2 h0 h1 h2 k1 : Option (List ℕ)) → Running l0 l1 h0 h1 k1
    → Consumes l1 l2 [] → IsAtEnd l2 → k1 ≢ Some [] → AnswersLine (Err e) k1 h1 h2
    → Ran (Err e) l0 l2 h0 h2
Ran-end_cut Read l0 l1 l2 h0 h1 h2 k1 run end ended some p = absurd (p (unended_of run.bytes) run.answered.rest).2
Ran-end_cut Write l0 l1 l2 h0 h1 h2 k1 run end ended some p =
    let line = p (unended_of run.bytes) run.answered.rest in
    let cut : AppendsStart h1 h2 line.0 = line.2 in
    record {
      bytes = run.bytes;
      text = run.text ++ cut.sent;
      read = Consumes-end l0 l1 l2 run.bytes run.read end;
      written = Appends-trans h0 h1 h2 run.text cut.sent run.written cut.went_out;
      shown = inr (
        ended,
        breaks_off _ (whole_lines_of run.bytes) [] (unended_of run.bytes) run.text line.0 h1 h2
            (lines_of-kept run.bytes k1 some run.answered.rest) run.answered.answered line.1 cut,
      );
    }
