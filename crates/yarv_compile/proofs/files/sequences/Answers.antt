use Rattle.std.proofs.Common.{◌++◌, List, map, ap, sym, subst}
use Rattle.std.specs.Prelude.{IsPermutation}
use Rattle.ruby_tree.specs.Read.{tree_of}
use Rattle.ruby_meaning.specs.Levels.{Sight}
use Rattle.local_scopes.specs.Opened.{innermost}
use Rattle.code_emitter.specs.declared.output.Child.{Child as FoundChild}
use Rattle.code_emitter.specs.Emitting.{child_of}
use Rattle.yarv_compile.specs.declared.units.Finished.{Finished}
use Rattle.yarv_compile.specs.Children.{all_under}
use Rattle.yarv_compile.specs.Finishing.{IsWithin, finished_of}
use Rattle.yarv_compile.proofs.FileDone.{all_done}
use Rattle.yarv_compile.proofs.files.sequences.Goals as goal

pub returns-clause-done : goal.returns-clause-done
returns-clause-done c = λ l within outside.
    let added = c.in_ok-add_children.ensures.done l (subst (λ (s : Sight). IsWithin c.args.file.now s 0 l) (sym (ap innermost c.in_ok-scopes.ensures)) within) in
    let after = c.add_children.new.done.items in
    let begun = subst (λ (xs : List Finished). IsPermutation (xs ++ map finished_of (all_under l (map (child_of c.args.file.now.symbols.now) c.deref.result.now))) after) c.new-done.ensures.items added in
    let done = subst (λ (cs : List FoundChild). IsPermutation (map finished_of (all_under l (map (child_of c.args.file.now.symbols.now) cs))) after) c.deref.ensures.value begun in
    all_done l (tree_of c.args.file.now.symbols.now c.args.root.now) (map (child_of c.args.file.now.symbols.now) c.in_ok-own.children.items) after c.sort.new.done.items outside c.in_ok-own.ensures.inner done c.sort.ensures.same
