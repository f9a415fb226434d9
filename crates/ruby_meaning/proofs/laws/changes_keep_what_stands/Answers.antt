use Rattle.ruby_meaning.proofs.StandingWorlds.{stands_on, stands_out, stands_in_place, stands_same, stands_object, stands_class, stands_environment, stands_local, stands_closure, stands_row, stands_class_row, stands_constant, stands_feature, stands_thrown, stands_native}
use Rattle.ruby_meaning.proofs.laws.changes_keep_what_stands.Goals as goal

pub returns : goal.returns
returns c = record {
  same = stands_same;
  on = stands_on;
  object = stands_object;
  class = stands_class;
  environment = stands_environment;
  local = stands_local;
  closure = stands_closure;
  row = stands_row;
  class_row = stands_class_row;
  constant = stands_constant;
  feature = stands_feature;
  thrown = stands_thrown;
  native = stands_native;
  run = stands_out;
  in_place = stands_in_place;
}
