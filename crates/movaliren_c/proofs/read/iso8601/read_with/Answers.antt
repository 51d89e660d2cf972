use Rattle.std.proofs.Common.{◌∙◌, w64, rules, FitsSigned, sym}
use Rattle.std.proofs.lemmas.Int.{to_z-of_z}
use Rattle.movaliren_c.specs.Chosen.{choices_at}
use Rattle.movaliren_c.proofs.ReadIsoLemmas.{undetermined_by}
use Rattle.movaliren_c.proofs.read.iso8601.read_with.Goals as goal

pub returns-in-None : goal.returns-in-None
returns-in-None g c =
    let fits : FitsSigned w64 c.answer_number-in-None.result = search rules in
    undetermined_by g.M.OfConfig.Tells (choices_at c.args.numbers.now) c.in-Ok.config g.M.OfValue.Holds c.args.text.now _
    c.args.moment.now c.args.error.now (sym c.in-Ok.ensures) c.in-None.ensures.none
    (to_z-of_z w64 c.answer_number-in-None.result fits ∙ c.answer_number-in-None.ensures)
