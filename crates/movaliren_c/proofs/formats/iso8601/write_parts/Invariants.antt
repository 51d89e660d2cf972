use Rattle.movaliren_c.proofs.formats.iso8601.write_parts.Given as goal

-- what the buffer holds
abbrev pub ghosts-put_at_once : goal.ghosts-put_at_once
ghosts-put_at_once a = record { before = a.room.now }
