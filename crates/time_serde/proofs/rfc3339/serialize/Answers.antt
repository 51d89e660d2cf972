use Rattle.time_serde.proofs.TextLemmas.{utf8_of_completed}
use Rattle.time_serde.proofs.rfc3339.serialize.Goals as goal

pub write_text-requires-clause-utf8 : goal.write_text-requires-clause-utf8
write_text-requires-clause-utf8 g c = utf8_of_completed c.to_local.result _ c.in-Ok.ensures.text
