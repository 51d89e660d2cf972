-- A run of the program: how it goes on from what it has answered, and what it leaves behind.
use Rattle.std.specs.Prelude.{ℕ, ◌≡◌, ◌≢◌, ◌++◌, ◌⊎◌, List, [], Option, Result, Ok, Err}
use Rattle.std.specs.Io.KnownBytes.{Appends, Consumes, IsAtEnd}
use Rattle.time_show.specs.declared.ShowError.{ShowError}
use Rattle.time_show.specs.declared.ShowError.TheVariants.{Read, Write}
use Rattle.time_show.specs.Answer.{IsAnswer, AreAnswers, BreaksOff}
use Rattle.time_show.specs.LineBuffer.{kept_of}
use Rattle.time_show.specs.Lines.{lines_of, whole_lines_of, unended_of}

-- a beginning of the text was written, `sent`, and not all of it
pub record AppendsStart (old new : Option (List ℕ)) (text : List ℕ) : Type 0 where
  pub sent : List ℕ
  pub missing : List ℕ
  pub went_out : Appends old new sent
  pub in_order : text ≡ sent ++ missing
  pub unfinished : missing ≢ []

-- the text was written, or after a failed write a beginning of it
abbrev pub Writes : Result (Unit {0}) ShowError → Option (List ℕ) → Option (List ℕ) → List ℕ → Type 0
Writes (Ok done) old new text = Appends old new text
Writes (Err Read) old new text = ⊥
Writes (Err Write) old new text = AppendsStart old new text

-- an answer was written so: one answer serves each line that is kept as this
abbrev pub AnswersLine : Result (Unit {0}) ShowError → Option (List ℕ) → Option (List ℕ) → Option (List ℕ) → Type 0
AnswersLine result kept old new =
    (line : List ℕ) → kept ≡ kept_of line → (answer : List ℕ) × IsAnswer line answer × Writes result old new answer

-- the text answers the whole lines of these bytes, and what comes after them is kept
pub record AnsweredUpTo (bytes : List ℕ) (kept : Option (List ℕ)) (text : List ℕ) : Type 0 where
  pub rest : kept ≡ kept_of (unended_of bytes)
  pub answered : AreAnswers (whole_lines_of bytes) text

-- the text answers these bytes so far, or after a failed write it breaks off
abbrev pub AnswersSoFar : Result (Unit {0}) ShowError → List ℕ → Option (List ℕ) → List ℕ → Type 0
AnswersSoFar (Ok done) bytes kept text = AnsweredUpTo bytes kept text
AnswersSoFar (Err Read) bytes kept text = ⊥
AnswersSoFar (Err Write) bytes kept text = BreaksOff (whole_lines_of bytes) text

-- what was answered before is answered on, through these bytes
abbrev pub GoesOn : Result (Unit {0}) ShowError → List ℕ → Option (List ℕ) → Option (List ℕ)
    → Option (List ℕ) → Option (List ℕ) → Type 0
GoesOn result bytes kept kept' old new =
    (before text : List ℕ) → AnsweredUpTo before kept text →
    (more : List ℕ) × Appends old new more × AnswersSoFar result (before ++ bytes) kept' (text ++ more)

-- What is written for these bytes of input, after which so much of it is left. After a failed write the answer that
-- breaks off is that of a line with its line feed, or the input has ended.
abbrev pub Shows : Result (Unit {0}) ShowError → Option (List ℕ) → List ℕ → List ℕ → Type 0
Shows (Ok done) left bytes text = AreAnswers (lines_of bytes) text
Shows (Err Read) left bytes text = AreAnswers (whole_lines_of bytes) text
Shows (Err Write) left bytes text =
    BreaksOff (whole_lines_of bytes) text ⊎ (IsAtEnd left × BreaksOff (lines_of bytes) text)

-- the input lost some bytes, the output gained some text, and the text is what the bytes are answered by
pub record Ran (result : Result (Unit {0}) ShowError)
    (left_before left_after held_before held_after : Option (List ℕ)) : Type 0 where
  pub bytes : List ℕ
  pub text : List ℕ
  pub read : Consumes left_before left_after bytes
  pub written : Appends held_before held_after text
  pub shown : Shows result left_after bytes text
