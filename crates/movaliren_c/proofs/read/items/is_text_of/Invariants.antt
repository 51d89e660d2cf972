use Rattle.movaliren_c.proofs.read.items.is_text_of.Given as goal

-- what the array holds
abbrev pub ghosts-write_items : goal.ghosts-write_items
ghosts-write_items g a = record { before = a.room.now }
