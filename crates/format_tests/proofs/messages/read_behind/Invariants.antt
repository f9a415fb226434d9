use Rattle.format_tests.proofs.messages.read_behind.Given as goal

abbrev pub ghosts-read_from : goal.ghosts-read_from
ghosts-read_from a = record { name = a.blank.name; parts = a.blank.parts }
