use Rattle.parse_statements.proofs.variables.assign_or.Goals as goal

pub returns : goal.returns
returns c = record { made = λ T g v i h. c.either.ensures.made T _ _ (c.in_ok-reading.ensures.made T g i) (c.in_ok-setting.ensures.made T v g h i) }
