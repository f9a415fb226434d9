use Rattle.std.proofs.Common.{List, take, subst, ◌∙◌}
use Rattle.std.proofs.lemmas.List.{take_all}
use Rattle.ruby_tree.specs.Names.{Bytes}
use Rattle.ruby_tree.specs.Tree.{Trees, at, text}
use Rattle.ruby_tree.specs.Build.{texts_at}
use Rattle.ruby_tree.specs.SourcePositions.{position_of}
use Rattle.tree_builder.specs.Subtrees.{Holds, HoldsAll}
use Rattle.tree_builder.proofs.builds.texts_at.Goals as goal
use Rattle.tree_builder.proofs.Words.{texts_step}

pub loop-bytes-preserved : goal.loop-bytes-preserved
loop-bytes-preserved c T =
    let part = subst (λ (f : Bytes). Holds T c.text.result (at (position_of c.args.here) (text f))) (c.in_ok-copy.ensures ∙ c.as_slice.ensures) (c.text.ensures.made T) in
    let held = c.in_ok-push.ensures T (texts_at (position_of c.args.here) (take c.loop-bytes.bytes-index c.args.texts.now)) (at (position_of c.args.here) (text c.bytes-item.result)) (c.loop-bytes.invariant T) part in
    subst (λ (ts : Trees). HoldsAll T c.push.new.self ts) (texts_step (position_of c.args.here) c.args.texts.now c.loop-bytes.bytes-index c.bytes-item.result c.loop-bytes-test.true c.bytes-item.is) held

pub returns : goal.returns
returns c = record { made = λ T. subst (λ (fs : List Bytes). HoldsAll T c.loop-bytes.parts (texts_at (position_of c.args.here) fs)) (take_all _ _ c.loop-bytes-test.false) (c.loop-bytes.invariant T) }
