-- Kinds of values, over parts that hold what they hold.
use Rattle.std.proofs.Common.{◌≡◌, ℕ, Bool, true, List, Option, Some, None, Vec, refl, ◌∙◌, arith, length, max, ℤ, ◌&&◌}
use Rattle.std.proofs.lemmas.Bool.{lt-ltb}
use Rattle.std.specs.Cmp.Derive.{both_true}
use Rattle.std.specs.List.{list_all}
use Rattle.std.specs.declared.boxed.Box.{Box}
use Rattle.std.specs.declared.alloc.Global.{Global}
use Rattle.ruby_tree.specs.declared.names.Name.{Name}
use Rattle.ruby_tree.specs.declared.node.Node.{Node}
use Rattle.ruby_tree.specs.declared.node.Kind.TheVariants as kind
use Rattle.ruby_tree.specs.declared.node.Literal.TheVariants as literal
use Rattle.ruby_tree.specs.declared.node.Variable.TheVariants as variable
use Rattle.ruby_tree.specs.declared.node.Collection.TheVariants as collection
use Rattle.ruby_tree.specs.declared.node.TextPart.{TextPart}
use Rattle.tree_builder.specs.declared.lists.Subtrees.{Subtrees}
use Rattle.tree_builder.specs.declared.lists.ElseSubtree.{ElseSubtree}
use Rattle.tree_builder.specs.declared.lists.PairSubtrees.{PairSubtrees}
use Rattle.tree_builder.specs.declared.lists.PieceSubtrees.{PieceSubtrees}
use Rattle.ruby_tree.specs.Names.{Bytes, Texts}
use Rattle.ruby_tree.specs.Tree.{Tree, Trees, Other, Pairs, Pieces, nil_value, true_value, false_value, integer, symbol, text, self_value, file_name, folder_name, line_number, local, instance, global, joined, array, hash, range, constant_path}
use Rattle.ruby_tree.specs.NamesFit.{name_fits, names_fit}
use Rattle.tree_builder.specs.Subtrees.{nodes_fit, other_node_fits, pair_nodes_fit, part_node_fits, kind_names_fit, IsNode, AreNodes, IsOther, ArePairs, ArePieces, IsPart, HoldsAll, HoldsOther, HoldsPairs, HoldsPieces, IsNamed, AreNamed, HoldsKind}
use Rattle.tree_builder.proofs.Fitted.{pairs_fit-is, parts_fit-is}

pub nil_value_kind : (T : Texts) → HoldsKind T (kind.Literal literal.Nil) 0 nil_value
nil_value_kind T = record {
  shows = refl;
  reads = λ small U on.
      record {
        fits = refl;
        form = refl;
      };
}

pub true_value_kind : (T : Texts) → HoldsKind T (kind.Literal literal.True) 0 true_value
true_value_kind T = record {
  shows = refl;
  reads = λ small U on.
      record {
        fits = refl;
        form = refl;
      };
}

pub false_value_kind : (T : Texts) → HoldsKind T (kind.Literal literal.False) 0 false_value
false_value_kind T = record {
  shows = refl;
  reads = λ small U on.
      record {
        fits = refl;
        form = refl;
      };
}

integer_fits : (count : ℕ) (value : ℤ) → kind_names_fit count (kind.Literal (literal.Integer value)) ≡ true
integer_fits count value = refl

pub integer_kind : (T : Texts) (value : ℤ) → HoldsKind T (kind.Literal (literal.Integer value)) 0 (integer value)
integer_kind T value = record {
  shows = refl;
  reads = λ small U on.
      record {
        fits = integer_fits (length U) value;
        form = refl;
      };
}

symbol_fits : (count : ℕ) (name : Name) → kind_names_fit count (kind.Literal (literal.Symbol name)) ≡ name_fits count name
symbol_fits count name = refl

pub symbol_kind : (T : Texts) (name : Name) (x : Bytes) → IsNamed T name x → HoldsKind T (kind.Literal (literal.Symbol name)) 0 (symbol x)
symbol_kind T name x h_name = record {
  shows = refl;
  reads = λ small U on.
      record {
        fits = symbol_fits (length U) name ∙ lt-ltb _ _ (h_name.within U on);
        form = rw (h_name.text U on) refl;
      };
}

text_fits : (count : ℕ) (bytes : Bytes) → kind_names_fit count (kind.Literal (literal.String bytes)) ≡ true
text_fits count bytes = refl

pub text_kind : (T : Texts) (bytes : Bytes) → HoldsKind T (kind.Literal (literal.String bytes)) 0 (text bytes)
text_kind T bytes = record {
  shows = refl;
  reads = λ small U on.
      record {
        fits = text_fits (length U) bytes;
        form = refl;
      };
}

pub self_value_kind : (T : Texts) → HoldsKind T (kind.Literal literal.SelfValue) 0 self_value
self_value_kind T = record {
  shows = refl;
  reads = λ small U on.
      record {
        fits = refl;
        form = refl;
      };
}

pub file_name_kind : (T : Texts) → HoldsKind T (kind.Literal literal.File) 0 file_name
file_name_kind T = record {
  shows = refl;
  reads = λ small U on.
      record {
        fits = refl;
        form = refl;
      };
}

pub folder_name_kind : (T : Texts) → HoldsKind T (kind.Literal literal.Folder) 0 folder_name
folder_name_kind T = record {
  shows = refl;
  reads = λ small U on.
      record {
        fits = refl;
        form = refl;
      };
}

pub line_number_kind : (T : Texts) → HoldsKind T (kind.Literal literal.Line) 0 line_number
line_number_kind T = record {
  shows = refl;
  reads = λ small U on.
      record {
        fits = refl;
        form = refl;
      };
}

local_fits : (count : ℕ) (name : Name) → kind_names_fit count (kind.Variable (variable.Local name)) ≡ name_fits count name
local_fits count name = refl

pub local_kind : (T : Texts) (name : Name) (x : Bytes) → IsNamed T name x → HoldsKind T (kind.Variable (variable.Local name)) 0 (local x)
local_kind T name x h_name = record {
  shows = refl;
  reads = λ small U on.
      record {
        fits = local_fits (length U) name ∙ lt-ltb _ _ (h_name.within U on);
        form = rw (h_name.text U on) refl;
      };
}

instance_fits : (count : ℕ) (name : Name) → kind_names_fit count (kind.Variable (variable.Instance name)) ≡ name_fits count name
instance_fits count name = refl

pub instance_kind : (T : Texts) (name : Name) (x : Bytes) → IsNamed T name x → HoldsKind T (kind.Variable (variable.Instance name)) 0 (instance x)
instance_kind T name x h_name = record {
  shows = refl;
  reads = λ small U on.
      record {
        fits = instance_fits (length U) name ∙ lt-ltb _ _ (h_name.within U on);
        form = rw (h_name.text U on) refl;
      };
}

global_fits : (count : ℕ) (name : Name) → kind_names_fit count (kind.Variable (variable.Global name)) ≡ name_fits count name
global_fits count name = refl

pub global_kind : (T : Texts) (name : Name) (x : Bytes) → IsNamed T name x → HoldsKind T (kind.Variable (variable.Global name)) 0 (global x)
global_kind T name x h_name = record {
  shows = refl;
  reads = λ small U on.
      record {
        fits = global_fits (length U) name ∙ lt-ltb _ _ (h_name.within U on);
        form = rw (h_name.text U on) refl;
      };
}

joined_fits : (count : ℕ) (pieces : Vec (TextPart Node) Global) → kind_names_fit count (kind.Collection (collection.Text pieces)) ≡ list_all (part_node_fits count) pieces.items
joined_fits count pieces = parts_fit-is count _ (λ f. refl) (λ n. refl) pieces.items

pub joined_kind : (T : Texts) (pieces : PieceSubtrees) (ps : Pieces) (d : ℕ) → HoldsPieces T pieces ps → d ≡ pieces.depth → HoldsKind T (kind.Collection (collection.Text pieces.pieces)) d (joined ps)
joined_kind T pieces ps d h_pieces at = record {
  shows = omega arith;
  reads = λ small U on.
      let m_pieces : ArePieces U pieces.pieces.items ps = h_pieces.reads (omega arith) U on in
      record {
        fits = joined_fits (length U) pieces.pieces ∙ m_pieces.fits;
        form = rw (m_pieces.pieces) refl;
      };
}

array_fits : (count : ℕ) (elements : Vec Node Global) (spread : Vec ℕ Global) → kind_names_fit count (kind.Collection (collection.Array elements spread)) ≡ nodes_fit count elements.items
array_fits count elements spread = refl

pub array_kind : (T : Texts) (elements : Subtrees) (ts : Trees) (spread : Vec ℕ Global) (d : ℕ) → HoldsAll T elements ts → d ≡ elements.depth → HoldsKind T (kind.Collection (collection.Array elements.nodes spread)) d (array ts spread.items)
array_kind T elements ts spread d h_elements at = record {
  shows = omega arith;
  reads = λ small U on.
      let m_elements : AreNodes U elements.nodes.items ts = h_elements.reads (omega arith) U on in
      record {
        fits = array_fits (length U) elements.nodes spread ∙ m_elements.fits;
        form = rw (m_elements.trees) refl;
      };
}

hash_fits : (count : ℕ) (pairs : Vec (Node × Node) Global) → kind_names_fit count (kind.Collection (collection.Hash pairs)) ≡ list_all (pair_nodes_fit count) pairs.items
hash_fits count pairs = pairs_fit-is count _ (λ p. refl) (λ p. refl) pairs.items

pub hash_kind : (T : Texts) (pairs : PairSubtrees) (ps : Pairs) (d : ℕ) → HoldsPairs T pairs ps → d ≡ pairs.depth → HoldsKind T (kind.Collection (collection.Hash pairs.pairs)) d (hash ps)
hash_kind T pairs ps d h_pairs at = record {
  shows = omega arith;
  reads = λ small U on.
      let m_pairs : ArePairs U pairs.pairs.items ps = h_pairs.reads (omega arith) U on in
      record {
        fits = hash_fits (length U) pairs.pairs ∙ m_pairs.fits;
        form = rw (m_pairs.pairs) refl;
      };
}

range_fits : (count : ℕ) (from : Box Node Global) (to : Box Node Global) (exclusive : Bool) → kind_names_fit count (kind.Collection (collection.Range from to exclusive)) ≡ (names_fit count from.value && names_fit count to.value)
range_fits count from to exclusive = refl

pub range_kind : (T : Texts) (from : Box Node Global) (d_from : ℕ) (a : Tree) (to : Box Node Global) (d_to : ℕ) (b : Tree) (exclusive : Bool) (d : ℕ) → IsPart T from.value d_from a → IsPart T to.value d_to b → d ≡ max d_from d_to → HoldsKind T (kind.Collection (collection.Range from to exclusive)) d (range a b exclusive)
range_kind T from d_from a to d_to b exclusive d h_from h_to at = record {
  shows = omega arith;
  reads = λ small U on.
      let m_from : IsNode U from.value a = h_from.reads (omega arith) U on in
      let m_to : IsNode U to.value b = h_to.reads (omega arith) U on in
      record {
        fits = range_fits (length U) from to exclusive ∙ both_true m_from.fits m_to.fits;
        form = rw (m_from.tree, m_to.tree) refl;
      };
}

constant_path_fits : (count : ℕ) (value : Option (Box Node Global)) (top : Bool) (names : Vec Name Global) → kind_names_fit count (kind.Collection (collection.ConstantPath value top names)) ≡ (other_node_fits count value && list_all (name_fits count) names.items)
constant_path_fits count None top names = refl
constant_path_fits count (Some value) top names = refl

pub constant_path_kind : (T : Texts) (value : ElseSubtree) (v : Other) (top : Bool) (names : Vec Name Global) (xs : List Bytes) (d : ℕ) → HoldsOther T value v → AreNamed T names.items xs → d ≡ value.depth → HoldsKind T (kind.Collection (collection.ConstantPath value.node top names)) d (constant_path v top xs)
constant_path_kind T value v top names xs d h_value h_names at = record {
  shows = omega arith;
  reads = λ small U on.
      let m_value : IsOther U value.node v = h_value.reads (omega arith) U on in
      record {
        fits = constant_path_fits (length U) value.node top names ∙ both_true m_value.fits (h_names.within U on);
        form = rw (m_value.other, h_names.texts U on) refl;
      };
}
