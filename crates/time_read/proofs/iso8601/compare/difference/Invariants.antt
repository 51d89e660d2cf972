use Rattle.time_read.proofs.iso8601.compare.difference.Given as goal

-- what the array holds
abbrev pub ghosts-written : goal.ghosts-written
ghosts-written g a = record { before = a.room.now }
