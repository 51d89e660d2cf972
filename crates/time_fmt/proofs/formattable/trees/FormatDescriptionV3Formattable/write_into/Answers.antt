use Rattle.time_fmt.proofs.formattable.trees.FormatDescriptionV3Formattable.write_into.Goals as goal

pub v3_write_into-requires-clause-room : goal.v3_write_into-requires-clause-room
v3_write_into-requires-clause-room g c = rw c.inner.ensures c.requires.room

pub returns-clause-appends : goal.returns-clause-appends
returns-clause-appends g c = rw c.inner.ensures at c.v3_write_into.ensures.appends

pub returns-clause-within : goal.returns-clause-within
returns-clause-within g c = rw c.inner.ensures at c.v3_write_into.ensures.within

pub returns-clause-text : goal.returns-clause-text
returns-clause-text g c = rw c.inner.ensures at c.v3_write_into.ensures.text
