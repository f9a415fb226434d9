use Rattle.ruby_meaning.proofs.StoredFrames.{super_has_method, bare_super_has_method, return_has_home, break_has_target}
use Rattle.ruby_meaning.proofs.laws.odd_endings_are_not_reached.Goals as goal

pub returns : goal.returns
returns c = record {
  super_in_a_method = super_has_method;
  bare_super_in_a_method = bare_super_has_method;
  return_in_no_class = return_has_home;
  break_in_a_loop_or_block = break_has_target;
}
