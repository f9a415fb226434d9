-- Kinds of calls, over parts that hold what they hold.
use Rattle.std.proofs.Common.{◌≡◌, ℕ, Bool, Option, Some, None, Vec, refl, ◌∙◌, arith, length, max, ◌&&◌}
use Rattle.std.proofs.lemmas.Bool.{lt-ltb}
use Rattle.std.specs.Cmp.Derive.{both_true}
use Rattle.std.specs.declared.boxed.Box.{Box}
use Rattle.std.specs.declared.alloc.Global.{Global}
use Rattle.ruby_tree.specs.declared.names.Name.{Name}
use Rattle.ruby_tree.specs.declared.node.Node.{Node}
use Rattle.ruby_tree.specs.declared.node.Kind.TheVariants as kind
use Rattle.ruby_tree.specs.declared.node.Call.TheVariants as call
use Rattle.tree_builder.specs.declared.lists.Subtrees.{Subtrees}
use Rattle.tree_builder.specs.declared.lists.ElseSubtree.{ElseSubtree}
use Rattle.ruby_tree.specs.Names.{Bytes, Texts}
use Rattle.ruby_tree.specs.Tree.{Tree, Trees, Other, send, safe_send, yield, super, bare_super, bare_raise}
use Rattle.ruby_tree.specs.NamesFit.{name_fits, names_fit}
use Rattle.tree_builder.specs.Subtrees.{nodes_fit, other_node_fits, kind_names_fit, IsNode, AreNodes, IsOther, IsPart, HoldsAll, HoldsOther, IsNamed, HoldsKind}

send_fits : (count : ℕ) (receiver : Option (Box Node Global)) (arguments : Vec Node Global) (spread : Vec ℕ Global) (value : Option (Box Node Global)) (name : Name) (alone : Bool) (block : Option (Box Node Global)) → kind_names_fit count (kind.Call (call.Send receiver arguments spread value name alone block)) ≡ (other_node_fits count receiver && nodes_fit count arguments.items && other_node_fits count value && name_fits count name && other_node_fits count block)
send_fits count None arguments spread None name alone None = refl
send_fits count None arguments spread None name alone (Some block) = refl
send_fits count None arguments spread (Some value) name alone None = refl
send_fits count None arguments spread (Some value) name alone (Some block) = refl
send_fits count (Some receiver) arguments spread None name alone None = refl
send_fits count (Some receiver) arguments spread None name alone (Some block) = refl
send_fits count (Some receiver) arguments spread (Some value) name alone None = refl
send_fits count (Some receiver) arguments spread (Some value) name alone (Some block) = refl

pub send_kind : (T : Texts) (receiver : ElseSubtree) (a : Other) (arguments : Subtrees) (ts : Trees) (spread : Vec ℕ Global) (value : ElseSubtree) (v : Other) (name : Name) (m : Bytes) (alone : Bool) (block : ElseSubtree) (b : Other) (d : ℕ) → HoldsOther T receiver a → HoldsAll T arguments ts → HoldsOther T value v → IsNamed T name m → HoldsOther T block b → d ≡ max receiver.depth (max arguments.depth (max value.depth block.depth)) → HoldsKind T (kind.Call (call.Send receiver.node arguments.nodes spread value.node name alone block.node)) d (send a ts spread.items v m alone b)
send_kind T receiver a arguments ts spread value v name m alone block b d h_receiver h_arguments h_value h_name h_block at = record {
  shows = omega arith;
  reads = λ small U on.
      let m_receiver : IsOther U receiver.node a = h_receiver.reads (omega arith) U on in
      let m_arguments : AreNodes U arguments.nodes.items ts = h_arguments.reads (omega arith) U on in
      let m_value : IsOther U value.node v = h_value.reads (omega arith) U on in
      let m_block : IsOther U block.node b = h_block.reads (omega arith) U on in
      record {
        fits = send_fits (length U) receiver.node arguments.nodes spread value.node name alone block.node ∙ both_true (both_true (both_true (both_true m_receiver.fits m_arguments.fits) m_value.fits) (lt-ltb _ _ (h_name.within U on))) m_block.fits;
        form = rw (m_receiver.other, m_arguments.trees, m_value.other, h_name.text U on, m_block.other) refl;
      };
}

safe_send_fits : (count : ℕ) (receiver : Box Node Global) (arguments : Vec Node Global) (spread : Vec ℕ Global) (value : Option (Box Node Global)) (name : Name) (block : Option (Box Node Global)) → kind_names_fit count (kind.Call (call.SafeSend receiver arguments spread value name block)) ≡ (names_fit count receiver.value && nodes_fit count arguments.items && other_node_fits count value && name_fits count name && other_node_fits count block)
safe_send_fits count receiver arguments spread None name None = refl
safe_send_fits count receiver arguments spread None name (Some block) = refl
safe_send_fits count receiver arguments spread (Some value) name None = refl
safe_send_fits count receiver arguments spread (Some value) name (Some block) = refl

pub safe_send_kind : (T : Texts) (receiver : Box Node Global) (d_receiver : ℕ) (a : Tree) (arguments : Subtrees) (ts : Trees) (spread : Vec ℕ Global) (value : ElseSubtree) (v : Other) (name : Name) (m : Bytes) (block : ElseSubtree) (b : Other) (d : ℕ) → IsPart T receiver.value d_receiver a → HoldsAll T arguments ts → HoldsOther T value v → IsNamed T name m → HoldsOther T block b → d ≡ max d_receiver (max arguments.depth (max value.depth block.depth)) → HoldsKind T (kind.Call (call.SafeSend receiver arguments.nodes spread value.node name block.node)) d (safe_send a ts spread.items v m b)
safe_send_kind T receiver d_receiver a arguments ts spread value v name m block b d h_receiver h_arguments h_value h_name h_block at = record {
  shows = omega arith;
  reads = λ small U on.
      let m_receiver : IsNode U receiver.value a = h_receiver.reads (omega arith) U on in
      let m_arguments : AreNodes U arguments.nodes.items ts = h_arguments.reads (omega arith) U on in
      let m_value : IsOther U value.node v = h_value.reads (omega arith) U on in
      let m_block : IsOther U block.node b = h_block.reads (omega arith) U on in
      record {
        fits = safe_send_fits (length U) receiver arguments.nodes spread value.node name block.node ∙ both_true (both_true (both_true (both_true m_receiver.fits m_arguments.fits) m_value.fits) (lt-ltb _ _ (h_name.within U on))) m_block.fits;
        form = rw (m_receiver.tree, m_arguments.trees, m_value.other, h_name.text U on, m_block.other) refl;
      };
}

yield_with_fits : (count : ℕ) (arguments : Vec Node Global) (spread : Vec ℕ Global) → kind_names_fit count (kind.Call (call.Yield arguments spread)) ≡ nodes_fit count arguments.items
yield_with_fits count arguments spread = refl

pub yield_with_kind : (T : Texts) (arguments : Subtrees) (ts : Trees) (spread : Vec ℕ Global) (d : ℕ) → HoldsAll T arguments ts → d ≡ arguments.depth → HoldsKind T (kind.Call (call.Yield arguments.nodes spread)) d (yield ts spread.items)
yield_with_kind T arguments ts spread d h_arguments at = record {
  shows = omega arith;
  reads = λ small U on.
      let m_arguments : AreNodes U arguments.nodes.items ts = h_arguments.reads (omega arith) U on in
      record {
        fits = yield_with_fits (length U) arguments.nodes spread ∙ m_arguments.fits;
        form = rw (m_arguments.trees) refl;
      };
}

super_with_fits : (count : ℕ) (arguments : Vec Node Global) (spread : Vec ℕ Global) (value : Option (Box Node Global)) (block : Option (Box Node Global)) → kind_names_fit count (kind.Call (call.Super arguments spread value block)) ≡ (nodes_fit count arguments.items && other_node_fits count value && other_node_fits count block)
super_with_fits count arguments spread None None = refl
super_with_fits count arguments spread None (Some block) = refl
super_with_fits count arguments spread (Some value) None = refl
super_with_fits count arguments spread (Some value) (Some block) = refl

pub super_with_kind : (T : Texts) (arguments : Subtrees) (ts : Trees) (spread : Vec ℕ Global) (value : ElseSubtree) (v : Other) (block : ElseSubtree) (b : Other) (d : ℕ) → HoldsAll T arguments ts → HoldsOther T value v → HoldsOther T block b → d ≡ max arguments.depth (max value.depth block.depth) → HoldsKind T (kind.Call (call.Super arguments.nodes spread value.node block.node)) d (super ts spread.items v b)
super_with_kind T arguments ts spread value v block b d h_arguments h_value h_block at = record {
  shows = omega arith;
  reads = λ small U on.
      let m_arguments : AreNodes U arguments.nodes.items ts = h_arguments.reads (omega arith) U on in
      let m_value : IsOther U value.node v = h_value.reads (omega arith) U on in
      let m_block : IsOther U block.node b = h_block.reads (omega arith) U on in
      record {
        fits = super_with_fits (length U) arguments.nodes spread value.node block.node ∙ both_true (both_true m_arguments.fits m_value.fits) m_block.fits;
        form = rw (m_arguments.trees, m_value.other, m_block.other) refl;
      };
}

bare_super_fits : (count : ℕ) (block : Option (Box Node Global)) → kind_names_fit count (kind.Call (call.BareSuper block)) ≡ other_node_fits count block
bare_super_fits count None = refl
bare_super_fits count (Some block) = refl

pub bare_super_kind : (T : Texts) (block : ElseSubtree) (b : Other) (d : ℕ) → HoldsOther T block b → d ≡ block.depth → HoldsKind T (kind.Call (call.BareSuper block.node)) d (bare_super b)
bare_super_kind T block b d h_block at = record {
  shows = omega arith;
  reads = λ small U on.
      let m_block : IsOther U block.node b = h_block.reads (omega arith) U on in
      record {
        fits = bare_super_fits (length U) block.node ∙ m_block.fits;
        form = rw (m_block.other) refl;
      };
}

pub bare_raise_kind : (T : Texts) → HoldsKind T (kind.Call call.BareRaise) 0 bare_raise
bare_raise_kind T = record {
  shows = refl;
  reads = λ small U on.
      record {
        fits = refl;
        form = refl;
      };
}
