use Rattle.std.proofs.Common.{◌∙◌}
use Rattle.bstr.proofs.lemmas.EncodeLemmas.{lossy_chars-utf8}
use Rattle.time_fmt.proofs.formattable.into_text.Goals as goal

pub returns-in-Ok-clause-exact : goal.returns-in-Ok-clause-exact
returns-in-Ok-clause-exact c = λ valid. c.in-Ok.ensures.ok ∙ lossy_chars-utf8 c.args.bytes.items valid
