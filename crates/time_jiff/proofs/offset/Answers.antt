use Rattle.std.proofs.Common.{rules}
use Rattle.time_jiff.proofs.offset.Goals as goal

pub returns-clause-parts : goal.returns-clause-parts
returns-clause-parts c = search rules

pub returns-clause-value : goal.returns-clause-value
returns-clause-value c = search rules
