use Rattle.time_known.proofs.imf_fixdate.ImfFixdateFormattable.format_into.Goals as goal

pub returns : goal.returns
returns g c = c.format_into.ensures
