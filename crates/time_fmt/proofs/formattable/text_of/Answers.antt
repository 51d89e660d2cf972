use Rattle.std.proofs.Common.{◌∙◌, sym, ap}
use Rattle.bstr.proofs.lemmas.EncodeLemmas.{lossy_chars-utf8}
use Rattle.time_fmt.proofs.formattable.text_of.Goals as goal

pub returns-clause-text : goal.returns-clause-text
returns-clause-text c =
    ap (λ v. v.items) c.from_utf8_unchecked.ensures.value ∙ sym (lossy_chars-utf8 c.args.bytes.items c.requires)
