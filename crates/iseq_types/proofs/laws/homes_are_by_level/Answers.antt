use Rattle.iseq_types.specs.declared.sequences.SeqKind.TheVariants.{Method, Class, Block, Rescue, Ensure}
use Rattle.iseq_types.proofs.Homes.{outward_list, local_list, homes_file, homes_child}
use Rattle.iseq_types.proofs.laws.homes_are_by_level.Goals as goal

pub returns : goal.returns
returns c = record {
  outward = outward_list;
  local = local_list;
  file = homes_file;
  method = λ rows parent id index child. homes_child rows parent id Method index child;
  class = λ rows parent id index child. homes_child rows parent id Class index child;
  block = λ rows parent id index child. homes_child rows parent id Block index child;
  rescue = λ rows parent id index child. homes_child rows parent id Rescue index child;
  ensured = λ rows parent id index child. homes_child rows parent id Ensure index child;
}
