use Rattle.time_read.specs.declared.fault.Profile.TheVariants as profile
use Rattle.time_read.proofs.Wholes.{no_digit}
use Rattle.time_read.proofs.rfc3339.read_lenient.Goals as goal

pub place_of-requires : goal.place_of-requires
place_of-requires c = no_digit profile.Lenient c.args.text.now _ c.in-Err.ensures.fault
