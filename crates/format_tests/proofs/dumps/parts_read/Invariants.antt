use Rattle.format_tests.proofs.dumps.parts_read.Given as goal

abbrev pub ghosts-read_parts : goal.ghosts-read_parts
ghosts-read_parts a = record { name = a.blank.name; parts = a.blank.parts }
