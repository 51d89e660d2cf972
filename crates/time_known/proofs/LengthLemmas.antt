-- How long texts are that were written one after another: what functions that write them name.
use Rattle.std.proofs.Common.{ℕ, ◌+◌, ◌++◌, List, length, length-append, append_assoc, arith, Ok}
use Rattle.time_digits.proofs.FractionLemmas.{length-trimmed_fraction}
use Rattle.time_fmt.specs.Ends.{Ends}
use Rattle.time_fmt.specs.Outcome.{done}
use Rattle.time_fmt.specs.Sink.{Buffer, Puts}
use Rattle.time_fmt.proofs.EndLemmas.{whole_text}
use Rattle.time_fmt.proofs.TextLemmas.{length-sign_text}

-- how long parts of known lengths are, one after another
pub ruleset joined_lengths = (length-append, append_assoc)

-- the same, where one is a fraction
pub ruleset fraction_lengths = (length-trimmed_fraction, length-append, append_assoc)

-- the same, where one is a sign
pub ruleset sign_lengths = (length-sign_text, length-append, append_assoc)

-- ---- one piece after another

-- a piece, by its own length
pub piece : {count : ℕ} {old new : Buffer} {text : List ℕ} → Puts old new count text
    → Ends (length text) old new (Ok tt) (done text)
piece p = whole_text p (omega arith)

-- a piece, by the count of its bytes
pub counted : {count : ℕ} {old new : Buffer} {text : List ℕ} → Puts old new count text
    → Ends count old new (Ok tt) (done text)
counted p = whole_text p (omega arith)

-- two texts, by both of their widths
pub puts_then : {i j : ℕ} {old mid new : Buffer} {a b : List ℕ} → Ends i old mid (Ok tt) (done a)
    → Ends j mid new (Ok tt) (done b) → Ends (i + j) old new (Ok tt) (done (a ++ b))
puts_then first second = grind (arith, joined_lengths)

-- texts and pieces, each put behind the one before
pub ruleset one_by_one = (puts_then, piece, counted, length-append, append_assoc)
