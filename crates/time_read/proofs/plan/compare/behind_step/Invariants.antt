use Rattle.time_read.proofs.plan.compare.behind_step.Given as goal

-- what the array holds
abbrev pub ghosts-shown_in_room : goal.ghosts-shown_in_room
ghosts-shown_in_room g a = record { before = a.room.now }
