use Rattle.format_tests.proofs.sound_bodies.body.Given as goal

abbrev pub ghosts-read_all : goal.ghosts-read_all
ghosts-read_all a = record { name = a.blank.name; parts = a.blank.parts }
