use Rattle.bootsnap_ruby.proofs.run.Given as goal

-- the ledger is the blank one
abbrev pub ghosts-start : goal.ghosts-start
ghosts-start g a = record { name = a.blank.name; parts = a.blank.parts }
