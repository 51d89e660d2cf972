use Rattle.line_streams.proofs.BytesLemmas.{first_byte}
use Rattle.line_streams.proofs.lines.place_of_end.Goals as goal

pub returns : goal.returns
returns c = first_byte _ c.args.bytes.now c.memchr.result c.memchr.ensures
