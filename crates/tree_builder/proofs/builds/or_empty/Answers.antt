use Rattle.std.proofs.Common.{sym, subst}
use Rattle.ruby_tree.specs.Tree.{Other, no_more}
use Rattle.ruby_tree.specs.Build.{or_empty}
use Rattle.tree_builder.specs.Subtrees.{Holds}
use Rattle.tree_builder.proofs.builds.or_empty.Goals as goal

pub returns-in-Some : goal.returns-in-Some
returns-in-Some c = record {
  made = λ T o h.
      let p = c.in-Some.ensures T o h in
      subst (λ (u : Other). Holds T c.in-Some.part (or_empty u)) (sym p.1) p.2;
}

pub returns-in-None : goal.returns-in-None
returns-in-None c = record {
  made = λ T o h.
      subst (λ (u : Other). Holds T c.statements.result (or_empty u)) (sym (c.in-None.ensures T o h)) (c.statements.ensures.made T no_more (c.new.ensures T));
}
