-- Kinds of assignments, over parts that hold what they hold.
use Rattle.std.proofs.Common.{◌≡◌, ℕ, List, Vec, refl, ◌∙◌, arith, length, max, ◌&&◌}
use Rattle.std.proofs.lemmas.Bool.{lt-ltb}
use Rattle.std.specs.Cmp.Derive.{both_true}
use Rattle.std.specs.List.{list_all}
use Rattle.std.specs.declared.boxed.Box.{Box}
use Rattle.std.specs.declared.alloc.Global.{Global}
use Rattle.ruby_tree.specs.declared.names.Name.{Name}
use Rattle.ruby_tree.specs.declared.node.Node.{Node}
use Rattle.ruby_tree.specs.declared.node.Kind.TheVariants as kind
use Rattle.ruby_tree.specs.declared.node.Assignment.TheVariants as assignment
use Rattle.ruby_tree.specs.declared.node.Target.{Target}
use Rattle.tree_builder.specs.declared.lists.Subtrees.{Subtrees}
use Rattle.ruby_tree.specs.Names.{Bytes, Texts}
use Rattle.ruby_tree.specs.Tree.{Goal, Tree, Trees, assign, assign_all, assign_attribute, assign_index, operate_attribute, or_attribute, and_attribute, operate_index, or_index, and_index}
use Rattle.ruby_tree.specs.NamesFit.{name_fits, target_fits, names_fit}
use Rattle.tree_builder.specs.Subtrees.{nodes_fit, kind_names_fit, IsNode, AreNodes, IsPart, HoldsAll, IsNamed, IsTarget, AreTargets, HoldsKind}

assign_fits : (count : ℕ) (value : Box Node Global) (target : Target) → kind_names_fit count (kind.Assignment (assignment.Single value target)) ≡ (names_fit count value.value && target_fits count target)
assign_fits count value target = refl

pub assign_kind : (T : Texts) (value : Box Node Global) (d_value : ℕ) (v : Tree) (target : Target) (g : Goal) (d : ℕ) → IsPart T value.value d_value v → IsTarget T target g → d ≡ d_value → HoldsKind T (kind.Assignment (assignment.Single value target)) d (assign v g)
assign_kind T value d_value v target g d h_value h_target at = record {
  shows = omega arith;
  reads = λ small U on.
      let m_value : IsNode U value.value v = h_value.reads (omega arith) U on in
      record {
        fits = assign_fits (length U) value target ∙ both_true m_value.fits (h_target.within U on);
        form = rw (m_value.tree, h_target.goal U on) refl;
      };
}

assign_all_fits : (count : ℕ) (values : Vec Node Global) (targets : Vec Target Global) → kind_names_fit count (kind.Assignment (assignment.Multiple values targets)) ≡ (nodes_fit count values.items && list_all (target_fits count) targets.items)
assign_all_fits count values targets = refl

pub assign_all_kind : (T : Texts) (values : Subtrees) (vs : Trees) (targets : Vec Target Global) (gs : List Goal) (d : ℕ) → HoldsAll T values vs → AreTargets T targets.items gs → d ≡ values.depth → HoldsKind T (kind.Assignment (assignment.Multiple values.nodes targets)) d (assign_all vs gs)
assign_all_kind T values vs targets gs d h_values h_targets at = record {
  shows = omega arith;
  reads = λ small U on.
      let m_values : AreNodes U values.nodes.items vs = h_values.reads (omega arith) U on in
      record {
        fits = assign_all_fits (length U) values.nodes targets ∙ both_true m_values.fits (h_targets.within U on);
        form = rw (m_values.trees, h_targets.goals U on) refl;
      };
}

assign_attribute_fits : (count : ℕ) (receiver : Box Node Global) (value : Box Node Global) (setter : Name) → kind_names_fit count (kind.Assignment (assignment.Attribute receiver value setter)) ≡ (names_fit count receiver.value && names_fit count value.value && name_fits count setter)
assign_attribute_fits count receiver value setter = refl

pub assign_attribute_kind : (T : Texts) (receiver : Box Node Global) (d_receiver : ℕ) (a : Tree) (value : Box Node Global) (d_value : ℕ) (v : Tree) (setter : Name) (m : Bytes) (d : ℕ) → IsPart T receiver.value d_receiver a → IsPart T value.value d_value v → IsNamed T setter m → d ≡ max d_receiver d_value → HoldsKind T (kind.Assignment (assignment.Attribute receiver value setter)) d (assign_attribute a v m)
assign_attribute_kind T receiver d_receiver a value d_value v setter m d h_receiver h_value h_setter at = record {
  shows = omega arith;
  reads = λ small U on.
      let m_receiver : IsNode U receiver.value a = h_receiver.reads (omega arith) U on in
      let m_value : IsNode U value.value v = h_value.reads (omega arith) U on in
      record {
        fits = assign_attribute_fits (length U) receiver value setter ∙ both_true (both_true m_receiver.fits m_value.fits) (lt-ltb _ _ (h_setter.within U on));
        form = rw (m_receiver.tree, m_value.tree, h_setter.text U on) refl;
      };
}

assign_index_fits : (count : ℕ) (receiver : Box Node Global) (index : Box Node Global) (value : Box Node Global) → kind_names_fit count (kind.Assignment (assignment.Index receiver index value)) ≡ (names_fit count receiver.value && names_fit count index.value && names_fit count value.value)
assign_index_fits count receiver index value = refl

pub assign_index_kind : (T : Texts) (receiver : Box Node Global) (d_receiver : ℕ) (a : Tree) (index : Box Node Global) (d_index : ℕ) (i : Tree) (value : Box Node Global) (d_value : ℕ) (v : Tree) (d : ℕ) → IsPart T receiver.value d_receiver a → IsPart T index.value d_index i → IsPart T value.value d_value v → d ≡ max d_receiver (max d_index d_value) → HoldsKind T (kind.Assignment (assignment.Index receiver index value)) d (assign_index a i v)
assign_index_kind T receiver d_receiver a index d_index i value d_value v d h_receiver h_index h_value at = record {
  shows = omega arith;
  reads = λ small U on.
      let m_receiver : IsNode U receiver.value a = h_receiver.reads (omega arith) U on in
      let m_index : IsNode U index.value i = h_index.reads (omega arith) U on in
      let m_value : IsNode U value.value v = h_value.reads (omega arith) U on in
      record {
        fits = assign_index_fits (length U) receiver index value ∙ both_true (both_true m_receiver.fits m_index.fits) m_value.fits;
        form = rw (m_receiver.tree, m_index.tree, m_value.tree) refl;
      };
}

operate_attribute_fits : (count : ℕ) (receiver : Box Node Global) (name : Name) (value : Box Node Global) (operator : Name) (setter : Name) (line : ℕ) → kind_names_fit count (kind.Assignment (assignment.AttributeOperator receiver name value operator setter line)) ≡ (names_fit count receiver.value && name_fits count name && names_fit count value.value && name_fits count operator && name_fits count setter)
operate_attribute_fits count receiver name value operator setter line = refl

pub operate_attribute_kind : (T : Texts) (receiver : Box Node Global) (d_receiver : ℕ) (a : Tree) (name : Name) (x : Bytes) (value : Box Node Global) (d_value : ℕ) (v : Tree) (operator : Name) (o : Bytes) (setter : Name) (m : Bytes) (line : ℕ) (d : ℕ) → IsPart T receiver.value d_receiver a → IsNamed T name x → IsPart T value.value d_value v → IsNamed T operator o → IsNamed T setter m → d ≡ max d_receiver d_value → HoldsKind T (kind.Assignment (assignment.AttributeOperator receiver name value operator setter line)) d (operate_attribute a x v o m line)
operate_attribute_kind T receiver d_receiver a name x value d_value v operator o setter m line d h_receiver h_name h_value h_operator h_setter at = record {
  shows = omega arith;
  reads = λ small U on.
      let m_receiver : IsNode U receiver.value a = h_receiver.reads (omega arith) U on in
      let m_value : IsNode U value.value v = h_value.reads (omega arith) U on in
      record {
        fits = operate_attribute_fits (length U) receiver name value operator setter line ∙ both_true (both_true (both_true (both_true m_receiver.fits (lt-ltb _ _ (h_name.within U on))) m_value.fits) (lt-ltb _ _ (h_operator.within U on))) (lt-ltb _ _ (h_setter.within U on));
        form = rw (m_receiver.tree, h_name.text U on, m_value.tree, h_operator.text U on, h_setter.text U on) refl;
      };
}

or_attribute_fits : (count : ℕ) (receiver : Box Node Global) (name : Name) (value : Box Node Global) (setter : Name) → kind_names_fit count (kind.Assignment (assignment.AttributeOr receiver name value setter)) ≡ (names_fit count receiver.value && name_fits count name && names_fit count value.value && name_fits count setter)
or_attribute_fits count receiver name value setter = refl

pub or_attribute_kind : (T : Texts) (receiver : Box Node Global) (d_receiver : ℕ) (a : Tree) (name : Name) (x : Bytes) (value : Box Node Global) (d_value : ℕ) (v : Tree) (setter : Name) (m : Bytes) (d : ℕ) → IsPart T receiver.value d_receiver a → IsNamed T name x → IsPart T value.value d_value v → IsNamed T setter m → d ≡ max d_receiver d_value → HoldsKind T (kind.Assignment (assignment.AttributeOr receiver name value setter)) d (or_attribute a x v m)
or_attribute_kind T receiver d_receiver a name x value d_value v setter m d h_receiver h_name h_value h_setter at = record {
  shows = omega arith;
  reads = λ small U on.
      let m_receiver : IsNode U receiver.value a = h_receiver.reads (omega arith) U on in
      let m_value : IsNode U value.value v = h_value.reads (omega arith) U on in
      record {
        fits = or_attribute_fits (length U) receiver name value setter ∙ both_true (both_true (both_true m_receiver.fits (lt-ltb _ _ (h_name.within U on))) m_value.fits) (lt-ltb _ _ (h_setter.within U on));
        form = rw (m_receiver.tree, h_name.text U on, m_value.tree, h_setter.text U on) refl;
      };
}

and_attribute_fits : (count : ℕ) (receiver : Box Node Global) (name : Name) (value : Box Node Global) (setter : Name) → kind_names_fit count (kind.Assignment (assignment.AttributeAnd receiver name value setter)) ≡ (names_fit count receiver.value && name_fits count name && names_fit count value.value && name_fits count setter)
and_attribute_fits count receiver name value setter = refl

pub and_attribute_kind : (T : Texts) (receiver : Box Node Global) (d_receiver : ℕ) (a : Tree) (name : Name) (x : Bytes) (value : Box Node Global) (d_value : ℕ) (v : Tree) (setter : Name) (m : Bytes) (d : ℕ) → IsPart T receiver.value d_receiver a → IsNamed T name x → IsPart T value.value d_value v → IsNamed T setter m → d ≡ max d_receiver d_value → HoldsKind T (kind.Assignment (assignment.AttributeAnd receiver name value setter)) d (and_attribute a x v m)
and_attribute_kind T receiver d_receiver a name x value d_value v setter m d h_receiver h_name h_value h_setter at = record {
  shows = omega arith;
  reads = λ small U on.
      let m_receiver : IsNode U receiver.value a = h_receiver.reads (omega arith) U on in
      let m_value : IsNode U value.value v = h_value.reads (omega arith) U on in
      record {
        fits = and_attribute_fits (length U) receiver name value setter ∙ both_true (both_true (both_true m_receiver.fits (lt-ltb _ _ (h_name.within U on))) m_value.fits) (lt-ltb _ _ (h_setter.within U on));
        form = rw (m_receiver.tree, h_name.text U on, m_value.tree, h_setter.text U on) refl;
      };
}

operate_index_fits : (count : ℕ) (receiver : Box Node Global) (index : Box Node Global) (value : Box Node Global) (operator : Name) (line : ℕ) → kind_names_fit count (kind.Assignment (assignment.IndexOperator receiver index value operator line)) ≡ (names_fit count receiver.value && names_fit count index.value && names_fit count value.value && name_fits count operator)
operate_index_fits count receiver index value operator line = refl

pub operate_index_kind : (T : Texts) (receiver : Box Node Global) (d_receiver : ℕ) (a : Tree) (index : Box Node Global) (d_index : ℕ) (i : Tree) (value : Box Node Global) (d_value : ℕ) (v : Tree) (operator : Name) (o : Bytes) (line : ℕ) (d : ℕ) → IsPart T receiver.value d_receiver a → IsPart T index.value d_index i → IsPart T value.value d_value v → IsNamed T operator o → d ≡ max d_receiver (max d_index d_value) → HoldsKind T (kind.Assignment (assignment.IndexOperator receiver index value operator line)) d (operate_index a i v o line)
operate_index_kind T receiver d_receiver a index d_index i value d_value v operator o line d h_receiver h_index h_value h_operator at = record {
  shows = omega arith;
  reads = λ small U on.
      let m_receiver : IsNode U receiver.value a = h_receiver.reads (omega arith) U on in
      let m_index : IsNode U index.value i = h_index.reads (omega arith) U on in
      let m_value : IsNode U value.value v = h_value.reads (omega arith) U on in
      record {
        fits = operate_index_fits (length U) receiver index value operator line ∙ both_true (both_true (both_true m_receiver.fits m_index.fits) m_value.fits) (lt-ltb _ _ (h_operator.within U on));
        form = rw (m_receiver.tree, m_index.tree, m_value.tree, h_operator.text U on) refl;
      };
}

or_index_fits : (count : ℕ) (receiver : Box Node Global) (index : Box Node Global) (value : Box Node Global) → kind_names_fit count (kind.Assignment (assignment.IndexOr receiver index value)) ≡ (names_fit count receiver.value && names_fit count index.value && names_fit count value.value)
or_index_fits count receiver index value = refl

pub or_index_kind : (T : Texts) (receiver : Box Node Global) (d_receiver : ℕ) (a : Tree) (index : Box Node Global) (d_index : ℕ) (i : Tree) (value : Box Node Global) (d_value : ℕ) (v : Tree) (d : ℕ) → IsPart T receiver.value d_receiver a → IsPart T index.value d_index i → IsPart T value.value d_value v → d ≡ max d_receiver (max d_index d_value) → HoldsKind T (kind.Assignment (assignment.IndexOr receiver index value)) d (or_index a i v)
or_index_kind T receiver d_receiver a index d_index i value d_value v d h_receiver h_index h_value at = record {
  shows = omega arith;
  reads = λ small U on.
      let m_receiver : IsNode U receiver.value a = h_receiver.reads (omega arith) U on in
      let m_index : IsNode U index.value i = h_index.reads (omega arith) U on in
      let m_value : IsNode U value.value v = h_value.reads (omega arith) U on in
      record {
        fits = or_index_fits (length U) receiver index value ∙ both_true (both_true m_receiver.fits m_index.fits) m_value.fits;
        form = rw (m_receiver.tree, m_index.tree, m_value.tree) refl;
      };
}

and_index_fits : (count : ℕ) (receiver : Box Node Global) (index : Box Node Global) (value : Box Node Global) → kind_names_fit count (kind.Assignment (assignment.IndexAnd receiver index value)) ≡ (names_fit count receiver.value && names_fit count index.value && names_fit count value.value)
and_index_fits count receiver index value = refl

pub and_index_kind : (T : Texts) (receiver : Box Node Global) (d_receiver : ℕ) (a : Tree) (index : Box Node Global) (d_index : ℕ) (i : Tree) (value : Box Node Global) (d_value : ℕ) (v : Tree) (d : ℕ) → IsPart T receiver.value d_receiver a → IsPart T index.value d_index i → IsPart T value.value d_value v → d ≡ max d_receiver (max d_index d_value) → HoldsKind T (kind.Assignment (assignment.IndexAnd receiver index value)) d (and_index a i v)
and_index_kind T receiver d_receiver a index d_index i value d_value v d h_receiver h_index h_value at = record {
  shows = omega arith;
  reads = λ small U on.
      let m_receiver : IsNode U receiver.value a = h_receiver.reads (omega arith) U on in
      let m_index : IsNode U index.value i = h_index.reads (omega arith) U on in
      let m_value : IsNode U value.value v = h_value.reads (omega arith) U on in
      record {
        fits = and_index_fits (length U) receiver index value ∙ both_true (both_true m_receiver.fits m_index.fits) m_value.fits;
        form = rw (m_receiver.tree, m_index.tree, m_value.tree) refl;
      };
}
