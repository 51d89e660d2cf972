use Rattle.std.proofs.lemmas.Str.{IsUtf8-from_ascii}
use Rattle.time_fmt.proofs.GuaranteeLemmas.{ascii_test}
use Rattle.time_fmt.proofs.formattable.parts.LiteralFormattable.write_into.Goals as goal

pub returns-clause-text : goal.returns-clause-text
returns-clause-text g c = λ ascii. IsUtf8-from_ascii c.args.self.now.0 (ascii_test c.args.self.now.0 ascii)
