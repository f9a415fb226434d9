use Rattle.std.proofs.Common.{◌≡◌, ℕ, ◌+◌, ◌*◌, ◌++◌, map, drop}
use Rattle.std.specs.Prelude.{IsPermutation}
use Rattle.compile_table.specs.Shapes.{Where}
use Rattle.local_scopes.specs.Opened.{sight}
use Rattle.code_emitter.specs.Emitting.{child_of}
use Rattle.yarv_compile.specs.Children.{all_under}
use Rattle.yarv_compile.specs.Finishing.{IsWithin, finished_of}
use Rattle.yarv_compile.proofs.nested.+nested.Given as goal

abbrev pub invariant-add_children-loop-child : goal.invariant-add_children-loop-child
invariant-add_children-loop-child l = record {
  scopes : l.scopes ≡ l.initial.scopes;
  done : (w : Where) → IsWithin l.file (sight l.initial.scopes) l.parent w → IsPermutation (l.initial.done.items ++ map finished_of (all_under w (map (child_of l.file.symbols.now) l.children))) (l.done.items ++ map finished_of (all_under w (map (child_of l.file.symbols.now) (drop l.child-index l.children))));
}

abbrev pub decreases-add_child : goal.decreases-add_child
decreases-add_child l = 2 * l.nested

abbrev pub decreases-add_children : goal.decreases-add_children
decreases-add_children l = 2 * l.nested + 1
