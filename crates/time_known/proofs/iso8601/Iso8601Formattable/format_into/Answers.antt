use Rattle.time_known.proofs.iso8601.Iso8601Formattable.format_into.Goals as goal

pub returns : goal.returns
returns g c = c.format_into.ensures
