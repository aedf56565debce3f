use Rattle.worked_search.proofs.arenas.an_arena_reads_what_was_pushed.Given as goal

abbrev pub ghosts-reads_what_was_pushed : goal.ghosts-reads_what_was_pushed
ghosts-reads_what_was_pushed g a = record { name = a.blank.name; parts = a.blank.parts }
