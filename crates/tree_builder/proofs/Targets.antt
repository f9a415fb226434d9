-- What a target and a name that may be missing are, by the name in them.
use Rattle.std.proofs.Common.{List, [], ◌∷◌, ◌++◌, length, Some, None, refl, ap, ◌∙◌}
use Rattle.std.specs.Cmp.Derive.{both_true}
use Rattle.std.proofs.lemmas.Bool.{lt-ltb}
use Rattle.std.proofs.lemmas.List.{map-append}
use Rattle.std.proofs.lemmas.List.Folds.{list_all-append}
use Rattle.ruby_tree.specs.declared.names.Name.{Name}
use Rattle.ruby_tree.specs.declared.node.Target.{Target}
use Rattle.ruby_tree.specs.declared.node.Target.TheVariants as target
use Rattle.ruby_tree.specs.Names.{Bytes, Texts}
use Rattle.ruby_tree.specs.Tree.{Goal, to_local, to_instance, to_global, to_constant}
use Rattle.ruby_tree.specs.Read.{goal_of}
use Rattle.ruby_tree.specs.NamesFit.{target_fits}
use Rattle.tree_builder.specs.Subtrees.{IsNamed, IsOtherName, IsTarget, AreTargets}

module _ (T : Texts) where
  pub no_name : IsOtherName T None None
  no_name = record { within = λ U on. refl; text = λ U on. refl }

  pub some_name : (n : Name) (f : Bytes) → IsNamed T n f → IsOtherName T (Some n) (Some f)
  some_name n f h = record { within = λ U on. lt-ltb _ _ (h.within U on); text = λ U on. ap (λ (x : Bytes). Some x) (h.text U on) }

  pub local_named : (n : Name) (f : Bytes) → IsNamed T n f → IsTarget T (target.Local n) (to_local f)
  local_named n f h = record { within = λ U on. lt-ltb _ _ (h.within U on); goal = λ U on. ap to_local (h.text U on) }

  pub instance_named : (n : Name) (f : Bytes) → IsNamed T n f → IsTarget T (target.Instance n) (to_instance f)
  instance_named n f h = record { within = λ U on. lt-ltb _ _ (h.within U on); goal = λ U on. ap to_instance (h.text U on) }

  pub global_named : (n : Name) (f : Bytes) → IsNamed T n f → IsTarget T (target.Global n) (to_global f)
  global_named n f h = record { within = λ U on. lt-ltb _ _ (h.within U on); goal = λ U on. ap to_global (h.text U on) }

  pub constant_named : (n : Name) (f : Bytes) → IsNamed T n f → IsTarget T (target.Constant n) (to_constant f)
  constant_named n f h = record { within = λ U on. lt-ltb _ _ (h.within U on); goal = λ U on. ap to_constant (h.text U on) }

  pub no_targets : AreTargets T [] []
  no_targets = record { within = λ U on. refl; goals = λ U on. refl }

  pub targets_pushed : (ts : List Target) (t : Target) (gs : List Goal) (g : Goal) → AreTargets T ts gs → IsTarget T t g → AreTargets T (ts ++ t ∷ []) (gs ++ g ∷ [])
  targets_pushed ts t gs g h p = record {
    within = λ U on. list_all-append (target_fits (length U)) ts (t ∷ []) ∙ both_true (h.within U on) (both_true (p.within U on) refl);
    goals = λ U on. map-append (goal_of U) ts (t ∷ []) ∙ rw (h.goals U on, p.goal U on) refl;
  }
