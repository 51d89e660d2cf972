-- The date of HTTP: no text spells two values, and its texts are those of completed outcomes.
use Rattle.std.proofs.Common.{◌≡◌, ℕ, ◌+◌, ◌<◌, List, refl, sym, ◌∙◌, arith, unsigned_abs, append_assoc, ⊎_elim}
use Rattle.std.proofs.lemmas.Bool.Decides.{nat_tests}
use Rattle.std.proofs.lemmas.Grind.{common_steps}
use Rattle.std.specs.Prelude.{codes}
use Rattle.time_below.proofs.OffsetLemmas.{some_or_zero}
use Rattle.time_fmt.specs.Ends.{refusal_of}
use Rattle.time_fmt.specs.Outcome.{done, refused}
use Rattle.time_fmt.specs.declared.refused.Refused.{Refused}
use Rattle.time_fmt.specs.declared.refused.Refused.TheVariants as reason
use Rattle.time_known.specs.Accepted.{checked_text}
use Rattle.time_known.specs.ImfFixdate.{ImfFixdateSpells, imf_fixdate_of, imf_fixdate_of_groups, imf_fixdate_text}
use Rattle.time_known.specs.Laws.{OneValue, IsValue}
use Rattle.time_known.specs.Rfc2822Grammar.{to_whole_second}
use Rattle.time_known.specs.Values.{DateFacts, OffsetDateAndTime, Offset, TimeOfDay, utc, date_facts}
use Rattle.time_known.proofs.LawLemmas.{IsWritten, is_written_by, completed_are_canonical}
use Rattle.time_known.proofs.OutcomeLemmas.{IsYearWithin, test_is_passed, year_is_within, not_above, not_outside}
use Rattle.time_known.proofs.Rfc2822Lemmas.{reads_named_date, owns_named_date}
use Rattle.time_known.proofs.Rules.Offsets.{utc_is_shown}
use Rattle.time_known.proofs.Rules.Parts.{width_clock, same_clock, owns_clock, same_value}
use Rattle.time_known.proofs.Rules.Texts.{width_literal, cut_by_width, Owns, owns_moved, owns_by, owns_then, owns_after}
use Rattle.time_known.proofs.Rules.Texts.{owns_before}

-- ---- what is refused

-- what is refused of the year, the hours and the seconds is refused by the text
pub refused_in_utc : (d : DateFacts) (t : TimeOfDay) (o : Offset) (r : Refused)
    → checked_text 0 0 d.year (unsigned_abs o.hours) (unsigned_abs o.seconds) (imf_fixdate_text d t)
    ≡ refused (refusal_of r)
    → imf_fixdate_of_groups d t o ≡ refused (refusal_of r)
refused_in_utc d t o r e = grind (arith, common_steps)

-- where nothing else is refused, minutes are
pub minute_refused : (d : DateFacts) (t : TimeOfDay) (o : Offset) → 0 < unsigned_abs o.minutes
    → checked_text 0 0 d.year (unsigned_abs o.hours) (unsigned_abs o.seconds) (imf_fixdate_text d t)
    ≡ done (imf_fixdate_text d t)
    → imf_fixdate_of_groups d t o ≡ refused (refusal_of reason.InvalidOffsetMinute)
minute_refused d t o minute accepted = grind (arith, common_steps, nat_tests, test_is_passed)

-- ---- whole texts

-- no text spells two values: all parts are read by positions
pub imf_fixdate_one_value : OneValue ImfFixdateSpells
imf_fixdate_one_value text v w s t =
    let space = width_literal (codes " ") in
    let named = reads_named_date 0 in
    let date = cut_by_width (named.width v.date) (named.width w.date) s.spelled t.spelled in
    let one = cut_by_width space space date.second date.second' in
    let time = cut_by_width (width_clock (codes ":") v.time) (width_clock (codes ":") w.time) one.second one.second' in
    same_value (named.same date.front v.date w.date date.first date.first')
    (same_clock time.first time.first' (s.nanosecond ∙ sym t.nanosecond)) (s.offset ∙ sym t.offset)

-- a value in UTC with no fraction of a second, of which nothing is refused
record IsImfFixdate (v : OffsetDateAndTime) : Type 0 where
  value : IsValue v
  year : IsYearWithin 0 9_999 v.date.year
  nanosecond : v.time.nanosecond ≡ 0
  offset : v.offset ≡ utc

-- each value that is written has one text
owns_imf_fixdate : (v : OffsetDateAndTime)
    → Owns (IsImfFixdate v) (ImfFixdateSpells v) (imf_fixdate_text (date_facts v.date) v.time)
owns_imf_fixdate v =
    owns_moved (owns_by (owns_then (owns_named_date 0 v.date) (owns_after (codes " ")
    (owns_before (codes " GMT") (owns_clock (codes ":") v.time))))
    (λ h. let t = h.value.time in ((h.value.date, h.year), (t.0, t.1, t.2)))
    (λ h s. record { spelled = s; nanosecond = h.nanosecond; offset = h.offset })
    (λ text s. (
      s.spelled,
      λ h. record {
        value = record {
          date = h.0.0;
          time = (h.1.0, h.1.1, h.1.2, omega (arith, s.nanosecond));
          offset = (utc_is_shown 0 v.offset s.offset).offset;
        };
        year = h.0.1;
        nanosecond = s.nanosecond;
        offset = s.offset;
      },
    ))) (λ _. simp append_assoc)

-- such a value completes its text
in_utc_is_done : (v : OffsetDateAndTime) → IsImfFixdate v
    → imf_fixdate_of v ≡ done (imf_fixdate_text (date_facts v.date) v.time)
in_utc_is_done v h = grind (arith, common_steps, nat_tests, not_outside)

-- an offset without hours, minutes and seconds is zero
no_offset : (o : Offset) → unsigned_abs o.hours ≡ 0 → unsigned_abs o.minutes ≡ 0 → unsigned_abs o.seconds ≡ 0 → o ≡ utc
no_offset o hour minute second =
    ⊎_elim (λ (some : 0 < unsigned_abs o.hours + unsigned_abs o.minutes). absurd (omega arith)) (λ (z : o ≡ utc). z)
    (some_or_zero o second)

-- a value whose text is completed is one, to the whole second
done_is_in_utc : (text : List ℕ) (v : OffsetDateAndTime) → IsValue v → imf_fixdate_of v ≡ done text
    → IsImfFixdate (to_whole_second v)
done_is_in_utc text v h e = grind (arith, test_is_passed, year_is_within, not_above, no_offset)

-- all texts are those of completed outcomes
pub imf_fixdate_is_written : IsWritten IsValue imf_fixdate_of to_whole_second ImfFixdateSpells ImfFixdateSpells
imf_fixdate_is_written =
    is_written_by (λ v. imf_fixdate_text (date_facts v.date) v.time) imf_fixdate_one_value (λ text v s. s)
    owns_imf_fixdate (λ v h. (h.value, in_utc_is_done v h)) done_is_in_utc (λ v. refl)

-- what is written is canonical
pub ruleset imf_fixdate_canonical_texts = (completed_are_canonical, imf_fixdate_is_written)
