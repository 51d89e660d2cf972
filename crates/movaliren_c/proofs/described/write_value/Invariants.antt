use Rattle.movaliren_c.proofs.described.write_value.Given as goal

-- what the array holds, and what the buffer does
abbrev pub ghosts-write_items : goal.ghosts-write_items
ghosts-write_items g a = record { before = a.room.now }
