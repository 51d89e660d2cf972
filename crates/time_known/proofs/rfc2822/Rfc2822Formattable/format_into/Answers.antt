use Rattle.time_known.proofs.rfc2822.Rfc2822Formattable.format_into.Goals as goal

pub returns : goal.returns
returns g c = c.format_into.ensures
