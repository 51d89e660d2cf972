use Rattle.time_fmt.proofs.GuaranteeLemmas.{text_both}
use Rattle.time_fmt.proofs.WriteLemmas.{appends_first, appends_both, appends_second}
use Rattle.time_fmt.proofs.formattable.parts.Tuple2Formattable.write_into.Goals as goal

pub returns-in-Err-clause-appends : goal.returns-in-Err-clause-appends
returns-in-Err-clause-appends g c = appends_first _ _ c.in-Err.ensures.appends

pub returns-in-Ok-write_into-clause-appends : goal.returns-in-Ok-write_into-clause-appends
returns-in-Ok-write_into-clause-appends g c =
    appends_both _ _ c.in-Ok.ensures.appends c.in-Ok-write_into.ensures.appends

pub returns-in-Err-write_into-clause-appends : goal.returns-in-Err-write_into-clause-appends
returns-in-Err-write_into-clause-appends g c = appends_second _ _ c.in-Ok.ensures.appends
    c.in-Err-write_into.ensures.appends

pub returns-in-Ok-write_into-clause-text : goal.returns-in-Ok-write_into-clause-text
returns-in-Ok-write_into-clause-text g c = text_both _ _ _ _ c.in-Ok.ensures.text c.in-Ok-write_into.ensures.text

pub returns-in-Err-write_into-clause-text : goal.returns-in-Err-write_into-clause-text
returns-in-Err-write_into-clause-text g c = text_both _ _ _ _ c.in-Ok.ensures.text c.in-Err-write_into.ensures.text
