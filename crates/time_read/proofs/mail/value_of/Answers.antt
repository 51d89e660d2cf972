use Rattle.std.proofs.Common.{◌≡◌, ◌∙◌, Option, Some, None, ap, subst, sym}
use Rattle.std.specs.Prelude.{IfNone}
use Rattle.std.proofs.lemmas.Option.{same_Some}
use Rattle.time_fmt.specs.Outcome.{done}
use Rattle.time_below.specs.Moment.{OffsetDateAndTime}
use Rattle.time_known.specs.Rfc2822.{rfc2822_of}
use Rattle.time_known.specs.Rfc2822Grammar.{Rfc2822Spells, to_whole_second}
use Rattle.time_known.proofs.LawLemmas.{completed_are_canonical}
use Rattle.time_known.proofs.OutcomeLemmas.{same_bytes}
use Rattle.time_known.proofs.Rfc2822Lemmas.{rfc2822_is_written}
use Rattle.time_read.proofs.mail.value_of.Goals as goal

-- a value of a whole second keeps all of itself
whole : (v : OffsetDateAndTime) → v.time.nanosecond ≡ 0 → to_whole_second v ≡ v
whole v zero = ap (λ n. record v { time = record v.time { nanosecond = n } }) (sym zero)

-- what holds is said of an answer that is none
said : {A : Type 0} (o : Option A) (P : Type 0) → P → IfNone o P
said None P p = p
said (Some a) P p = tt

-- a text that spells a value is its own
pub returns-in_err-value-clause-none : goal.returns-in_err-value-clause-none
returns-in_err-value-clause-none c =
    said c.from_residual.result ((v : OffsetDateAndTime) → ¬ Rfc2822Spells v c.args.text.now)
    (λ v s. let no : ⊥ = cc (c.in_err-value.ensures.reads v s) in no)

pub returns-in_err-own-clause-none : goal.returns-in_err-own-clause-none
returns-in_err-own-clause-none c =
    said c.from_residual-in_err-own.result ((v : OffsetDateAndTime) → ¬ Rfc2822Spells v c.args.text.now) (λ v s.
    let law = completed_are_canonical rfc2822_is_written in
    let same = same_Some _ _ (c.in_ok-value.ensures.reads v s) in
    c.in_err-own.ensures.none c.args.text.now (ap rfc2822_of same ∙ (law.canonical c.args.text.now v s).2))

pub returns-in-Some-clause-none : goal.returns-in-Some-clause-none
returns-in-Some-clause-none c = λ v s.
    let law = completed_are_canonical rfc2822_is_written in
    let same = same_Some _ _ (c.in_ok-value.ensures.reads v s) in
    let written = ap rfc2822_of same ∙ (law.canonical c.args.text.now v s).2 in
    c.in-Some.ensures.other (same_bytes _ _ (sym c.in_ok-own.ensures.text ∙ written))

pub returns-in-None-clause-read : goal.returns-in-None-clause-read
returns-in-None-clause-read c =
    let law = completed_are_canonical rfc2822_is_written in
    let written = c.in_ok-own.ensures.text ∙ ap done c.in-None.ensures.same in
    subst (λ v. Rfc2822Spells v c.args.text.now) (whole c.in_ok-value.value c.in_ok-value.ensures.whole)
    (law.completed c.args.text.now c.in_ok-value.value c.in_ok-own.ensures.real written).0
