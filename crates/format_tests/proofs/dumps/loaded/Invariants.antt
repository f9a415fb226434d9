use Rattle.format_tests.proofs.dumps.loaded.Given as goal

abbrev pub ghosts-load_from : goal.ghosts-load_from
ghosts-load_from a = record { name = a.blank.name; parts = a.blank.parts }
