use Rattle.time_known.proofs.rfc3339.Rfc3339Formattable.format_into.Goals as goal

pub returns : goal.returns
returns g c = c.format_into.ensures
