use Rattle.std.proofs.Common.{subst, IfOk, None}
use Rattle.ruby_tree.specs.Tree.{SourcePosition, Rescues, at, rescue, rescue_sequence, clause, no_clause, without, no_more}
use Rattle.ruby_tree.specs.Rules.{position, next}
use Rattle.ruby_tree.specs.Build.{alone}
use Rattle.ruby_tree.specs.SourcePositions.{position_of}
use Rattle.tree_builder.specs.Subtrees.{Holds}
use Rattle.tree_builder.proofs.builds.rescued.Goals as goal
use Rattle.tree_builder.proofs.Targets.{no_name}

pub returns : goal.returns
returns c = record {
  made = λ T w v a b e f g h i.
      let saved : Rescues = clause no_more None (alone (next v) b) no_clause in
      let tried = c.in_ok-tried.ensures.made T w a e h in
      let last = c.in_ok-saved.ensures.made T (next v) b g i in
      let held = c.in_ok-push.ensures T no_clause no_more None (alone (next v) b) (c.new-clauses.ensures T) (c.new.ensures T) (no_name T) last in
      let clauses = c.rescue_sequence-clauses.ensures.made T saved held in
      let made = c.rescue.ensures.made T (alone w a) without (at (position_of c.args.clause) (rescue_sequence saved)) tried (c.none.ensures T) clauses in
      subst (λ (q : SourcePosition). IfOk c.rescue.result (λ part. Holds T part (at (position w) (rescue (alone w a) without (at q (rescue_sequence saved)))))) f
      (subst (λ (o : SourcePosition). IfOk c.rescue.result (λ part. Holds T part (at o (rescue (alone w a) without (at (position_of c.args.clause) (rescue_sequence saved)))))) e made);
}
