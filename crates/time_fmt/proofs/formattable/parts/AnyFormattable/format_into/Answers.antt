use Rattle.time_fmt.proofs.formattable.parts.AnyFormattable.format_into.Goals as goal

pub returns : goal.returns
returns g c = c.format_into.ensures
