use Rattle.std.proofs.Common.{[], ◌∷◌, ◌++◌, Ok, refl, subst}
use Rattle.std.proofs.lemmas.Result.{err_from_is_err_and}
use Rattle.time_below.specs.Tree.{of_component}
use Rattle.time_describe.specs.declared.brackets.pieces.Bracketed.{Bracketed}
use Rattle.time_describe.specs.Pieces.{InBrackets}
use Rattle.time_describe.proofs.FrameLemmas.{goes_along}
use Rattle.time_describe.proofs.brackets.building.bracketed.Goals as goal

pub returns-in_err-inside-clause-goes_on : goal.returns-in_err-inside-clause-goes_on
returns-in_err-inside-clause-goes_on g c =
    let p = err_from_is_err_and c.from_residual.result c.from_residual.ensures.1 in
    rw (p.1, p.2) (λ text fs before are. c.in_err-inside.ensures.goes_on fs before)

pub returns-in-Component-clause-goes_on : goal.returns-in-Component-clause-goes_on
returns-in-Component-clause-goes_on g c = λ text fs before are.
    let along = subst (λ (x : Bracketed). InBrackets c.args.opened c.args.bytes.now (Ok (x, c.in_ok-inside.after))) c.in-Component.is c.in_ok-inside.ensures.goes_on in (
      fs,
      before ++ of_component c.in-Component.component ∷ [],
      (are.0, c.put_component.ensures.put text fs before are.1),
      along fs before,
    )

pub returns-in-Lists-clause-goes_on : goal.returns-in-Lists-clause-goes_on
returns-in-Lists-clause-goes_on g c = λ text fs before are.
    let along = subst (λ (x : Bracketed). InBrackets c.args.opened c.args.bytes.now (Ok (x, c.in_ok-inside.after))) c.in-Lists.is c.in_ok-inside.ensures.goes_on in
    goes_along _ c.between.result _ _ (along fs before)
    (c.between.ensures.goes_on text fs before [] refl are.0 (c.begin_lists.ensures.begun text fs c.in-Lists.kind before are.1))
