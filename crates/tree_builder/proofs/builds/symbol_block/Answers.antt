use Rattle.std.proofs.Common.{false, codes, subst, IfOk, []}
use Rattle.ruby_tree.specs.Names.{Bytes}
use Rattle.ruby_tree.specs.Tree.{SourcePosition, Tree, at, local, body, required, no_param, send, with, without, no_more}
use Rattle.ruby_tree.specs.Rules.{position}
use Rattle.ruby_tree.specs.Build.{alone}
use Rattle.ruby_tree.specs.SourcePositions.{position_of}
use Rattle.tree_builder.specs.Subtrees.{Holds}
use Rattle.tree_builder.proofs.builds.symbol_block.Goals as goal

abbrev call_at : Bytes → SourcePosition → SourcePosition → Tree
call_at m o q = at q (send (with (at o (local (codes "x")))) no_more [] without m false without)

pub returns : goal.returns
returns c = record {
  made = λ T w m e f n p.
      let variable = at (position_of c.args.here) (local (codes "x")) in
      let receiver = c.in_ok-receiver.ensures T variable (c.local.ensures.made T (codes "x") n) in
      let sent = c.send_with-sent.ensures T (with variable) no_more m receiver (c.new.ensures T) p in
      let code = c.in_ok-code.ensures.made T w (call_at m (position_of c.args.here) (position_of c.args.call)) e sent in
      let params = c.in_ok-push_required.ensures T no_param (codes "x") (c.new-params.ensures T) n in
      let made = c.body.ensures.made T (required (codes "x") no_param) (alone w (call_at m (position_of c.args.here) (position_of c.args.call))) params code in
      subst (λ (q : SourcePosition). IfOk c.body.result (λ part. Holds T part (at (position w) (body (required (codes "x") no_param) (alone w (call_at m (position w) q)))))) f
      (subst (λ (o : SourcePosition). IfOk c.body.result (λ part. Holds T part (at o (body (required (codes "x") no_param) (alone w (call_at m o (position_of c.args.call))))))) e made);
}
