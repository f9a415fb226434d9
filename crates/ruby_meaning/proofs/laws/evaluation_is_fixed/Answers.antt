use Rattle.ruby_meaning.proofs.Fixed.{evaluation_is_fixed, gains_none}
use Rattle.ruby_meaning.proofs.laws.evaluation_is_fixed.Goals as goal

pub returns : goal.returns
returns c = record { same = evaluation_is_fixed; no_gain = gains_none }
