use Rattle.time_below.proofs.text.+write_decimals.Given as goal

abbrev pub decreases-write_decimals : goal.decreases-write_decimals
decreases-write_decimals g l = l.places
