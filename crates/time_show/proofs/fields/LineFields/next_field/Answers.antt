use Rattle.std.proofs.Common.{arith}
use Rattle.std.proofs.lemmas.Grind.{common_steps, pieces}
use Rattle.time_show.proofs.FieldsLemmas.{fields_of-one, fields_of-space}
use Rattle.time_show.proofs.fields.LineFields.next_field.Goals as goal

pub returns-in-Some : goal.returns-in-Some
returns-in-Some c =
    grind (arith, common_steps, pieces, fields_of-space c.in_ok-line.line.now c.in-Some.end c.in-Some.ensures)

pub returns-in-None : goal.returns-in-None
returns-in-None c = grind (arith, common_steps, fields_of-one c.in_ok-line.line.now c.in-None.ensures)
