use Rattle.std.proofs.Common.{List, take, get_or, sym, subst}
use Rattle.std.proofs.lemmas.List.{take_all, take_more}
use Rattle.ruby_tree.specs.declared.names.Name.{Name}
use Rattle.ruby_tree.specs.Names.{Bytes}
use Rattle.ruby_tree.specs.Tree.{Trees}
use Rattle.ruby_tree.specs.Build.{symbols_at}
use Rattle.ruby_tree.specs.SourcePositions.{position_of}
use Rattle.tree_builder.specs.Subtrees.{AreNamed, HoldsAll}
use Rattle.tree_builder.proofs.builds.symbols_at.Goals as goal
use Rattle.tree_builder.proofs.Words.{none_named, symbols_step, first_named, last_named}

pub loop-name-init : goal.loop-name-init
loop-name-init c T fs h = subst (λ (gs : List Bytes). HoldsAll T c.new-parts.result (symbols_at (position_of c.args.here) gs)) (sym (none_named T fs h)) (c.new-parts.ensures T)

pub loop-name-preserved : goal.loop-name-preserved
loop-name-preserved c T fs h =
    let before : List Name = take c.loop-name.name-index c.args.names.now in
    let n : Name = get_or c.args.names.now c.loop-name.name-index (record { number = 0 }) in
    let more = subst (λ (ns : List Name). AreNamed T ns fs) (take_more c.args.names.now c.loop-name.name-index (record { number = 0 }) c.loop-name-test.true) h in
    let part = c.symbol.ensures.made T _ (last_named T before n fs more) in
    let held = c.in_ok-push.ensures T _ _ (c.loop-name.invariant T _ (first_named T before n fs more)) part in
    subst (λ (ts : Trees). HoldsAll T c.push.new.self ts) (symbols_step T before n fs more (position_of c.args.here)) held

pub returns : goal.returns
returns c = record { made = λ T fs h. c.loop-name.invariant T fs (subst (λ (ns : List Name). AreNamed T ns fs) (sym (take_all _ _ c.loop-name-test.false)) h) }
