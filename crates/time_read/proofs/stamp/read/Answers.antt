use Rattle.std.proofs.Common.{◌∙◌, ap, refl, sym}
use Rattle.time_fmt.specs.Outcome.{done}
use Rattle.time_known.specs.Stamps.{stamp_of, stamp_text}
use Rattle.time_known.proofs.OutcomeLemmas.{same_bytes}
use Rattle.time_known.proofs.StampLemmas.{stamps_are_completed}
use Rattle.time_read.specs.Profiles.{in_utc}
use Rattle.time_read.proofs.IsoLemmas.{same_stamp, stamp_is_rfc}
use Rattle.time_read.proofs.stamp.read.Goals as goal

-- a stamp is read by RFC 3339, as the value that has it, and is the text of that value
pub returns-in-Err-clause-refused : goal.returns-in-Err-clause-refused
returns-in-Err-clause-refused c = λ v s.
    c.in-Err.ensures.refused (in_utc v) (stamp_is_rfc v c.args.text.now s.has s.is)

pub returns-in_default-clause-refused : goal.returns-in_default-clause-refused
returns-in_default-clause-refused c = λ v s.
    let same = c.new-value.ensures ∙ rw (c.date.ensures, c.time.ensures) refl
    ∙ same_stamp c.args.text.now c.in-Ok.value v c.in-Ok.ensures.read s in
    c.in_default.ensures.none (stamp_text v) (ap stamp_of same ∙ (stamps_are_completed v s.has).is_done)

pub returns-in-Some-difference_from-clause-refused : goal.returns-in-Some-difference_from-clause-refused
returns-in-Some-difference_from-clause-refused c = λ v s.
    let same = c.new-value.ensures ∙ rw (c.date.ensures, c.time.ensures) refl
    ∙ same_stamp c.args.text.now c.in-Ok.value v c.in-Ok.ensures.read s in
    let written = ap stamp_of same ∙ (stamps_are_completed v s.has).is_done ∙ ap done (sym s.is) in
    c.in-Some-difference_from.ensures.other (same_bytes _ _ (sym c.in-Some.ensures.text ∙ written))
