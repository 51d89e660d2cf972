use Rattle.time_known.proofs.LongestLemmas.{iso8601_fills_its_width}
use Rattle.time_known.proofs.iso8601.Iso8601ComputeMetadata.compute_metadata.Goals as goal

pub returns-clause-reached : goal.returns-clause-reached
returns-clause-reached c = iso8601_fills_its_width c.args.self.now
