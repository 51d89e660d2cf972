use Rattle.movaliren_c.proofs.described.write_whole.Given as goal

-- what the array holds
abbrev pub ghosts-write_at_start : goal.ghosts-write_at_start
ghosts-write_at_start g a = record { before = a.room.now }
