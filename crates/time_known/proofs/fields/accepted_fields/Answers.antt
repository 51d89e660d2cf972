use Rattle.std.proofs.Common.{rules}
use Rattle.std.proofs.lemmas.Result.{err_from_is_err_and}
use Rattle.time_known.proofs.fields.accepted_fields.Goals as goal

pub returns-in_err-year-clause-refused : goal.returns-in_err-year-clause-refused
returns-in_err-year-clause-refused g c =
    let p = err_from_is_err_and c.from_residual.result c.from_residual.ensures.1 in
    rw (p.1, p.2) (search (rules, c.in_err-year.ensures.refused))
