use Rattle.time_known.proofs.sink.put_at_start.Given as goal

-- what the buffer holds
abbrev pub ghosts-put_before : goal.ghosts-put_before
ghosts-put_before g a = record { before = a.room.now }
