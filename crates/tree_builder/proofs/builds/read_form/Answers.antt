use Rattle.std.proofs.Common.{sym, subst, IfOk}
use Rattle.ruby_tree.specs.declared.node.Target.{Target}
use Rattle.ruby_tree.specs.Tree.{Goal, at}
use Rattle.ruby_tree.specs.Build.{read_form}
use Rattle.ruby_tree.specs.SourcePositions.{position_of}
use Rattle.tree_builder.specs.Subtrees.{IsTarget, Holds}
use Rattle.tree_builder.proofs.builds.read_form.Goals as goal
use Rattle.tree_builder.proofs.Built.{local_target, instance_target, global_target, constant_target}

pub returns-in-Local : goal.returns-in-Local
returns-in-Local c = record {
  made = λ T g h.
      let p = local_target T c.in-Local.name g (subst (λ (t : Target). IsTarget T t g) c.in-Local.is h) in
      subst (λ (u : Goal). Holds T c.local.result (at (position_of c.args.here) (read_form u))) (sym p.0) (c.local.ensures.made T _ p.1);
}

pub returns-in-Instance : goal.returns-in-Instance
returns-in-Instance c = record {
  made = λ T g h.
      let p = instance_target T c.in-Instance.name g (subst (λ (t : Target). IsTarget T t g) c.in-Instance.is h) in
      subst (λ (u : Goal). Holds T c.instance.result (at (position_of c.args.here) (read_form u))) (sym p.0) (c.instance.ensures.made T _ p.1);
}

pub returns-in-Global : goal.returns-in-Global
returns-in-Global c = record {
  made = λ T g h.
      let p = global_target T c.in-Global.name g (subst (λ (t : Target). IsTarget T t g) c.in-Global.is h) in
      subst (λ (u : Goal). Holds T c.global.result (at (position_of c.args.here) (read_form u))) (sym p.0) (c.global.ensures.made T _ p.1);
}

pub returns-in-Constant : goal.returns-in-Constant
returns-in-Constant c = record {
  made = λ T g h.
      let p = constant_target T c.in-Constant.name g (subst (λ (t : Target). IsTarget T t g) c.in-Constant.is h) in
      subst (λ (u : Goal). IfOk c.constant.result (λ part. Holds T part (at (position_of c.args.here) (read_form u)))) (sym p.0) (c.constant.ensures T _ p.1);
}
