use Rattle.run_tests.proofs.outcomes.outcome_of.Given as goal

-- the ledger is the blank one
abbrev pub ghosts-call : goal.ghosts-call
ghosts-call g a = record { name = a.blank.name; parts = a.blank.parts }
