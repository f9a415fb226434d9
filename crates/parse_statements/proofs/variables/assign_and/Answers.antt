use Rattle.parse_statements.proofs.variables.assign_and.Goals as goal

pub returns : goal.returns
returns c = record { made = λ T g v i h. c.both.ensures.made T _ _ (c.in_ok-reading.ensures.made T g i) (c.in_ok-setting.ensures.made T v g h i) }
