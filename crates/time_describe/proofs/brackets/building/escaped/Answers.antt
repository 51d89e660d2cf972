use Rattle.std.proofs.Common.{◌≡◌, ℕ, ◌+◌, [], ◌∷◌, ◌++◌, length, refl, sym, ap, ◌∙◌, arith}
use Rattle.time_describe.specs.declared.brackets.reason.BracketReason.TheVariants.{InvalidEscape}
use Rattle.time_describe.specs.Literal.{literal_of}
use Rattle.time_describe.specs.Reading.{read, escape, fails}
use Rattle.time_describe.proofs.EndLemmas.{end_cut}
use Rattle.time_describe.proofs.ReadLemmas.{escapes, escapes_nothing, escapes_at_end}
use Rattle.time_describe.proofs.brackets.building.escaped.Goals as goal
use Rattle.time_describe.proofs.brackets.building.escaped.Goals.{in_default-via-in-Some+else-is_escapable, in_default-via-in_default}

pub returns-in-Some-clause-goes_on : goal.returns-in-Some-clause-goes_on
returns-in-Some-clause-goes_on g c = λ text fs before held. (
  fs,
  before ++ literal_of (c.in-Some.escaped ∷ []) ∷ [],
  (refl, c.put_byte.ensures.put text fs before held),
  ap (read fs escape before []) c.in-Some.ensures ∙ escapes fs c.in-Some.escaped before c.in-Some.after.now (sym c.if-is_escapable.ensures),
)

pub returns-in-Some-clause-end : goal.returns-in-Some-clause-end
returns-in-Some-clause-end g c = end_cut c.args.rest.now c.in-Some.escaped c.in-Some.after.now c.in-Some.ensures

pub returns-in_default-clause-goes_on : goal.returns-in_default-clause-goes_on
returns-in_default-clause-goes_on g c =
    elim c.in_default.branch [
      | in_default-via-in-Some+else-is_escapable w ↦ (λ text fs before held.
          ap (read fs escape before []) w.in-Some.ensures
          ∙ escapes_nothing fs w.in-Some.escaped before w.in-Some.after.now (sym w.if-is_escapable.ensures)
          ∙ (let e : length w.in-Some.after.now + 2 ≡ c.args.left = omega (arith, c.requires, ap length w.in-Some.ensures) in ap (λ (n : ℕ). fails InvalidEscape n) e))
      | in_default-via-in_default w ↦ (λ text fs before held.
          ap (read fs escape before []) w.in_default.ensures
          ∙ escapes_at_end fs before
          ∙ (let e : 1 ≡ c.args.left = omega (arith, c.requires, ap length w.in_default.ensures) in ap (λ (n : ℕ). fails InvalidEscape n) e))
    ]
