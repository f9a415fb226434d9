-- Kinds of handlers and definitions, over parts that hold what they hold.
use Rattle.std.proofs.Common.{◌≡◌, ℕ, Bool, Option, Some, None, Vec, refl, ap, ◌∙◌, arith, length, max, ◌&&◌}
use Rattle.std.proofs.lemmas.Bool.{lt-ltb}
use Rattle.std.specs.Cmp.Derive.{both_true}
use Rattle.std.specs.List.{list_all}
use Rattle.std.specs.declared.boxed.Box.{Box}
use Rattle.std.specs.declared.alloc.Global.{Global}
use Rattle.ruby_tree.specs.declared.names.Name.{Name}
use Rattle.ruby_tree.specs.declared.node.Node.{Node}
use Rattle.ruby_tree.specs.declared.node.Kind.TheVariants as kind
use Rattle.ruby_tree.specs.declared.node.Handler.TheVariants as handler
use Rattle.ruby_tree.specs.declared.node.Definition.TheVariants as definition
use Rattle.ruby_tree.specs.declared.node.Param.{Param}
use Rattle.tree_builder.specs.declared.lists.ElseSubtree.{ElseSubtree}
use Rattle.tree_builder.specs.declared.lists.RescueSubtrees.{RescueSubtrees}
use Rattle.tree_builder.specs.declared.lists.ParamSubtrees.{ParamSubtrees}
use Rattle.ruby_tree.specs.Names.{Bytes, Texts}
use Rattle.ruby_tree.specs.Tree.{Tree, Other, Rescues, Params, rescue, ensure, rescue_sequence, ensure_sequence, method, class, module_named, body}
use Rattle.ruby_tree.specs.NamesFit.{name_fits, names_fit}
use Rattle.tree_builder.specs.Subtrees.{other_node_fits, clause_nodes_fit, param_node_fits, kind_names_fit, IsNode, IsOther, AreClauses, AreParams, IsPart, HoldsOther, HoldsRescues, HoldsParams, IsNamed, HoldsKind}
use Rattle.tree_builder.proofs.Fitted.{clauses_fit-is, params_fit-is}

rescue_fits : (count : ℕ) (tried : Box Node Global) (other : Option (Box Node Global)) (clauses : Box Node Global) → kind_names_fit count (kind.Handler (handler.Rescue tried other clauses)) ≡ (names_fit count tried.value && other_node_fits count other && names_fit count clauses.value)
rescue_fits count tried None clauses = refl
rescue_fits count tried (Some other) clauses = refl

pub rescue_kind : (T : Texts) (tried : Box Node Global) (d_tried : ℕ) (a : Tree) (other : ElseSubtree) (e : Other) (clauses : Box Node Global) (d_clauses : ℕ) (c : Tree) (d : ℕ) → IsPart T tried.value d_tried a → HoldsOther T other e → IsPart T clauses.value d_clauses c → d ≡ max d_tried (max other.depth d_clauses) → HoldsKind T (kind.Handler (handler.Rescue tried other.node clauses)) d (rescue a e c)
rescue_kind T tried d_tried a other e clauses d_clauses c d h_tried h_other h_clauses at = record {
  shows = omega arith;
  reads = λ small U on.
      let m_tried : IsNode U tried.value a = h_tried.reads (omega arith) U on in
      let m_other : IsOther U other.node e = h_other.reads (omega arith) U on in
      let m_clauses : IsNode U clauses.value c = h_clauses.reads (omega arith) U on in
      record {
        fits = rescue_fits (length U) tried other.node clauses ∙ both_true (both_true m_tried.fits m_other.fits) m_clauses.fits;
        form = rw (m_tried.tree, m_other.other, m_clauses.tree) refl;
      };
}

ensure_fits : (count : ℕ) (tried : Box Node Global) (last : Box Node Global) → kind_names_fit count (kind.Handler (handler.Ensure tried last)) ≡ (names_fit count tried.value && names_fit count last.value)
ensure_fits count tried last = refl

pub ensure_kind : (T : Texts) (tried : Box Node Global) (d_tried : ℕ) (a : Tree) (last : Box Node Global) (d_last : ℕ) (c : Tree) (d : ℕ) → IsPart T tried.value d_tried a → IsPart T last.value d_last c → d ≡ max d_tried d_last → HoldsKind T (kind.Handler (handler.Ensure tried last)) d (ensure a c)
ensure_kind T tried d_tried a last d_last c d h_tried h_last at = record {
  shows = omega arith;
  reads = λ small U on.
      let m_tried : IsNode U tried.value a = h_tried.reads (omega arith) U on in
      let m_last : IsNode U last.value c = h_last.reads (omega arith) U on in
      record {
        fits = ensure_fits (length U) tried last ∙ both_true m_tried.fits m_last.fits;
        form = rw (m_tried.tree, m_last.tree) refl;
      };
}

rescue_sequence_fits : (count : ℕ) (clauses : Vec (Vec Node Global × Option Name × Node) Global) → kind_names_fit count (kind.Handler (handler.RescueSequence clauses)) ≡ list_all (clause_nodes_fit count) clauses.items
rescue_sequence_fits count clauses = clauses_fit-is count _ (λ c. refl) (λ c. refl) (λ c. refl) clauses.items

pub rescue_sequence_kind : (T : Texts) (clauses : RescueSubtrees) (cs : Rescues) (d : ℕ) → HoldsRescues T clauses cs → d ≡ clauses.depth → HoldsKind T (kind.Handler (handler.RescueSequence clauses.clauses)) d (rescue_sequence cs)
rescue_sequence_kind T clauses cs d h_clauses at = record {
  shows = omega arith;
  reads = λ small U on.
      let m_clauses : AreClauses U clauses.clauses.items cs = h_clauses.reads (omega arith) U on in
      record {
        fits = rescue_sequence_fits (length U) clauses.clauses ∙ m_clauses.fits;
        form = rw (m_clauses.clauses) refl;
      };
}

ensure_sequence_fits : (count : ℕ) (last : Box Node Global) → kind_names_fit count (kind.Handler (handler.EnsureSequence last)) ≡ names_fit count last.value
ensure_sequence_fits count last = refl

pub ensure_sequence_kind : (T : Texts) (last : Box Node Global) (d_last : ℕ) (a : Tree) (d : ℕ) → IsPart T last.value d_last a → d ≡ d_last → HoldsKind T (kind.Handler (handler.EnsureSequence last)) d (ensure_sequence a)
ensure_sequence_kind T last d_last a d h_last at = record {
  shows = omega arith;
  reads = λ small U on.
      let m_last : IsNode U last.value a = h_last.reads (omega arith) U on in
      record {
        fits = ensure_sequence_fits (length U) last ∙ m_last.fits;
        form = rw (m_last.tree) refl;
      };
}

method_fits : (count : ℕ) (name : Name) (code : Box Node Global) (on_self : Bool) → kind_names_fit count (kind.Definition (definition.Method name code on_self)) ≡ (name_fits count name && names_fit count code.value)
method_fits count name code on_self = refl

pub method_kind : (T : Texts) (name : Name) (m : Bytes) (code : Box Node Global) (d_code : ℕ) (a : Tree) (on_self : Bool) (d : ℕ) → IsNamed T name m → IsPart T code.value d_code a → d ≡ d_code → HoldsKind T (kind.Definition (definition.Method name code on_self)) d (method m a on_self)
method_kind T name m code d_code a on_self d h_name h_code at = record {
  shows = omega arith;
  reads = λ small U on.
      let m_code : IsNode U code.value a = h_code.reads (omega arith) U on in
      record {
        fits = method_fits (length U) name code on_self ∙ both_true (lt-ltb _ _ (h_name.within U on)) m_code.fits;
        form = rw (h_name.text U on, m_code.tree) refl;
      };
}

class_fits : (count : ℕ) (superclass : Option (Box Node Global)) (name : Name) (code : Box Node Global) → kind_names_fit count (kind.Definition (definition.Class superclass name code)) ≡ (other_node_fits count superclass && name_fits count name && names_fit count code.value)
class_fits count None name code = refl
class_fits count (Some superclass) name code = refl

pub class_kind : (T : Texts) (superclass : ElseSubtree) (c : Other) (name : Name) (m : Bytes) (code : Box Node Global) (d_code : ℕ) (a : Tree) (d : ℕ) → HoldsOther T superclass c → IsNamed T name m → IsPart T code.value d_code a → d ≡ max superclass.depth d_code → HoldsKind T (kind.Definition (definition.Class superclass.node name code)) d (class c m a)
class_kind T superclass c name m code d_code a d h_superclass h_name h_code at = record {
  shows = omega arith;
  reads = λ small U on.
      let m_superclass : IsOther U superclass.node c = h_superclass.reads (omega arith) U on in
      let m_code : IsNode U code.value a = h_code.reads (omega arith) U on in
      record {
        fits = class_fits (length U) superclass.node name code ∙ both_true (both_true m_superclass.fits (lt-ltb _ _ (h_name.within U on))) m_code.fits;
        form = rw (m_superclass.other, h_name.text U on, m_code.tree) refl;
      };
}

module_named_fits : (count : ℕ) (name : Name) (code : Box Node Global) → kind_names_fit count (kind.Definition (definition.Module name code)) ≡ (name_fits count name && names_fit count code.value)
module_named_fits count name code = refl

pub module_named_kind : (T : Texts) (name : Name) (m : Bytes) (code : Box Node Global) (d_code : ℕ) (a : Tree) (d : ℕ) → IsNamed T name m → IsPart T code.value d_code a → d ≡ d_code → HoldsKind T (kind.Definition (definition.Module name code)) d (module_named m a)
module_named_kind T name m code d_code a d h_name h_code at = record {
  shows = omega arith;
  reads = λ small U on.
      let m_code : IsNode U code.value a = h_code.reads (omega arith) U on in
      record {
        fits = module_named_fits (length U) name code ∙ both_true (lt-ltb _ _ (h_name.within U on)) m_code.fits;
        form = rw (h_name.text U on, m_code.tree) refl;
      };
}

body_fits : (count : ℕ) (params : Vec (Param Node) Global) (code : Box Node Global) → kind_names_fit count (kind.Definition (definition.Body params code)) ≡ (list_all (param_node_fits count) params.items && names_fit count code.value)
body_fits count params code = ap (λ it. it && names_fit count code.value) (params_fit-is count _ (λ n. refl) (λ n b. refl) (λ n. refl) (λ n. refl) params.items)

pub body_kind : (T : Texts) (params : ParamSubtrees) (ps : Params) (code : Box Node Global) (d_code : ℕ) (a : Tree) (d : ℕ) → HoldsParams T params ps → IsPart T code.value d_code a → d ≡ max params.depth d_code → HoldsKind T (kind.Definition (definition.Body params.params code)) d (body ps a)
body_kind T params ps code d_code a d h_params h_code at = record {
  shows = omega arith;
  reads = λ small U on.
      let m_params : AreParams U params.params.items ps = h_params.reads (omega arith) U on in
      let m_code : IsNode U code.value a = h_code.reads (omega arith) U on in
      record {
        fits = body_fits (length U) params.params code ∙ both_true m_params.fits m_code.fits;
        form = rw (m_params.params, m_code.tree) refl;
      };
}
