use Rattle.std.proofs.Common.{◌≡◌, ◌+◌, ◌≤◌, drop}
use Rattle.ruby_tree.specs.Names.{Texts}
use Rattle.ruby_tree.specs.Views.{read_params}
use Rattle.compile_table.specs.Sequences.{count_required}
use Rattle.yarv_compile.proofs.params.count_required.Given as goal

abbrev pub invariant-loop-param : goal.invariant-loop-param
invariant-loop-param l = record {
  fits : l.count ≤ l.param-index;
  same : (texts : Texts) → l.count + count_required (read_params texts (drop l.param-index l.params)) ≡ count_required (read_params texts l.params);
}
