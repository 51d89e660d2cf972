use Rattle.std.proofs.Common.{arith}
use Rattle.movaliren_c.proofs.values.moment.tested_offset.Goals as goal

pub from_valid_hms-requires : goal.from_valid_hms-requires
from_valid_hms-requires c = grind arith
