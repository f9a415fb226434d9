-- Trees that stand for more than one node: what the parts of a target, a path and a symbol are.
use Rattle.std.proofs.Common.{◌≡◌, ℕ, suc, ◌≤◌, Bool, true, false, ◌&&◌, List, [], ◌∷◌, ◌++◌, length, map, Option, Some, None, Vec, refl, sym, ap, subst, ◌∙◌, arith}
use Rattle.std.specs.List.{list_all}
use Rattle.std.specs.Cmp.Derive.{both_true}
use Rattle.std.proofs.lemmas.Bool.{lt-ltb, ltb-true}
use Rattle.std.proofs.lemmas.List.{map-append}
use Rattle.std.proofs.lemmas.List.Folds.{list_all-append}
use Rattle.std.specs.declared.boxed.Box.{Box}
use Rattle.std.specs.declared.alloc.Global.{Global}
use Rattle.ruby_lexer.specs.Pieces.{Toks}
use Rattle.ruby_tree.specs.declared.names.Name.{Name}
use Rattle.ruby_tree.specs.declared.node.Kind.{Kind}
use Rattle.ruby_tree.specs.declared.node.Kind.TheVariants as kind
use Rattle.ruby_tree.specs.declared.node.Collection.TheVariants as collection
use Rattle.ruby_tree.specs.declared.node.Literal.TheVariants as literal
use Rattle.ruby_tree.specs.declared.node.Variable.TheVariants as variable
use Rattle.ruby_tree.specs.declared.node.Assignment.TheVariants as assignment
use Rattle.ruby_tree.specs.declared.node.Call.TheVariants as call
use Rattle.ruby_tree.specs.declared.node.Control.TheVariants as control
use Rattle.ruby_tree.specs.declared.node.Exit.TheVariants as exit
use Rattle.ruby_tree.specs.declared.node.Handler.TheVariants as handler
use Rattle.ruby_tree.specs.declared.node.Definition.TheVariants as definition
use Rattle.ruby_tree.specs.declared.node.Target.TheVariants as target
use Rattle.ruby_tree.specs.declared.node.Node.{Node}
use Rattle.ruby_tree.specs.declared.node.Node.TheViews.{out-Node, roll-Node}
use Rattle.tree_builder.specs.declared.Subtree.{Subtree}
use Rattle.ruby_tree.specs.Names.{Bytes, Texts, Extends}
use Rattle.ruby_tree.specs.Tree.{SourcePosition, Goal, to_local, to_instance, to_global, to_constant, Tree, at, Other, with, constant_path, symbol}
use Rattle.ruby_tree.specs.Rules.{position}
use Rattle.ruby_tree.specs.Depth.{depth}
use Rattle.ruby_tree.specs.Read.{text_of_name, text_of_option, tree_of}
use Rattle.ruby_tree.specs.Views.{read_kind, read_other}
use Rattle.ruby_tree.specs.NamesFit.{name_fits, option_fits, names_fit}
use Rattle.ruby_tree.specs.Build.{path_with, symbol_of, is_body}
use Rattle.tree_builder.specs.Subtrees.{kind_names_fit, other_node_fits, is_path, symbol_in, is_body_kind, IsNode, IsKind, IsNamed, AreNamed, IsOtherName, IsTarget, Holds}
use Rattle.tree_builder.proofs.GoesOn.{extends_same}
use Rattle.tree_builder.proofs.Fitted.{names_fit-is, made_node_is}
use Rattle.ruby_tree.proofs.Opened.{tree_of-is}

module _ (T : Texts) where
  pub no_names : AreNamed T [] []
  no_names = record { within = λ U on. refl; texts = λ U on. refl }

  pub names_pushed : (ns : List Name) (n : Name) (fs : List Bytes) (f : Bytes) → AreNamed T ns fs → IsNamed T n f → AreNamed T (ns ++ n ∷ []) (fs ++ f ∷ [])
  names_pushed ns n fs f h p = record {
    within = λ U on. list_all-append (name_fits (length U)) ns (n ∷ []) ∙ both_true (h.within U on) (both_true (lt-ltb _ _ (p.within U on)) refl);
    texts = λ U on. map-append (text_of_name U) ns (n ∷ []) ∙ rw (h.texts U on, p.text U on) refl;
  }

  pub one_name_is : (ns : List Name) (n : Name) (f : Bytes) → ns ≡ n ∷ [] → IsNamed T n f → AreNamed T ns (f ∷ [])
  one_name_is ns n f is p = subst (λ (ms : List Name). AreNamed T ms (f ∷ [])) (sym is) (names_pushed [] n [] f no_names p)

-- the name of a target
local_same : (f g : Bytes) → to_local f ≡ to_local g → f ≡ g
local_same f g is = cc

instance_same : (f g : Bytes) → to_instance f ≡ to_instance g → f ≡ g
instance_same f g is = cc

global_same : (f g : Bytes) → to_global f ≡ to_global g → f ≡ g
global_same f g is = cc

constant_same : (f g : Bytes) → to_constant f ≡ to_constant g → f ≡ g
constant_same f g is = cc

module _ (T : Texts) (n : Name) (g : Goal) where
  pub local_target : IsTarget T (target.Local n) g → (g ≡ to_local (text_of_name T n)) × IsNamed T n (text_of_name T n)
  local_target h = (
    sym (h.goal T (extends_same T)),
    record {
      within = λ U on. ltb-true _ _ (h.within U on);
      text = λ U on. local_same _ _ (h.goal U on ∙ sym (h.goal T (extends_same T)));
    },
  )

  pub instance_target : IsTarget T (target.Instance n) g → (g ≡ to_instance (text_of_name T n)) × IsNamed T n (text_of_name T n)
  instance_target h = (
    sym (h.goal T (extends_same T)),
    record {
      within = λ U on. ltb-true _ _ (h.within U on);
      text = λ U on. instance_same _ _ (h.goal U on ∙ sym (h.goal T (extends_same T)));
    },
  )

  pub global_target : IsTarget T (target.Global n) g → (g ≡ to_global (text_of_name T n)) × IsNamed T n (text_of_name T n)
  global_target h = (
    sym (h.goal T (extends_same T)),
    record {
      within = λ U on. ltb-true _ _ (h.within U on);
      text = λ U on. global_same _ _ (h.goal U on ∙ sym (h.goal T (extends_same T)));
    },
  )

  pub constant_target : IsTarget T (target.Constant n) g → (g ≡ to_constant (text_of_name T n)) × IsNamed T n (text_of_name T n)
  constant_target h = (
    sym (h.goal T (extends_same T)),
    record {
      within = λ U on. ltb-true _ _ (h.within U on);
      text = λ U on. constant_same _ _ (h.goal U on ∙ sym (h.goal T (extends_same T)));
    },
  )

-- what kinds are read as a symbol, as a body and as a path
symbol_kind : (T : Texts) (o : SourcePosition) (k : Kind Node) → text_of_option T (symbol_in k) ≡ symbol_of (at o (read_kind T k))
symbol_kind T o (kind.Literal (literal.Symbol n)) = refl
symbol_kind T o (kind.Literal _) = refl
symbol_kind T o (kind.Variable (variable.Local n)) = refl
symbol_kind T o (kind.Variable _) = refl
symbol_kind T o (kind.Collection (collection.ConstantPath v b ns)) = refl
symbol_kind T o (kind.Collection _) = refl
symbol_kind T o (kind.Assignment (assignment.Single v g)) = refl
symbol_kind T o (kind.Assignment _) = refl
symbol_kind T o (kind.Call (call.BareRaise)) = refl
symbol_kind T o (kind.Call _) = refl
symbol_kind T o (kind.Control (control.Statements ts)) = refl
symbol_kind T o (kind.Control _) = refl
symbol_kind T o (kind.Exit (exit.Retry)) = refl
symbol_kind T o (kind.Exit _) = refl
symbol_kind T o (kind.Handler (handler.Rescue a e c)) = refl
symbol_kind T o (kind.Handler (handler.Ensure a c)) = refl
symbol_kind T o (kind.Handler _) = refl
symbol_kind T o (kind.Definition (definition.Module n a)) = refl
symbol_kind T o (kind.Definition _) = refl

body_kind : (T : Texts) (o : SourcePosition) (k : Kind Node) → is_body_kind k ≡ is_body (at o (read_kind T k))
body_kind T o (kind.Literal (literal.Symbol n)) = refl
body_kind T o (kind.Literal _) = refl
body_kind T o (kind.Variable (variable.Local n)) = refl
body_kind T o (kind.Variable _) = refl
body_kind T o (kind.Collection (collection.ConstantPath v b ns)) = refl
body_kind T o (kind.Collection _) = refl
body_kind T o (kind.Assignment (assignment.Single v g)) = refl
body_kind T o (kind.Assignment _) = refl
body_kind T o (kind.Call (call.BareRaise)) = refl
body_kind T o (kind.Call _) = refl
body_kind T o (kind.Control (control.Statements ts)) = refl
body_kind T o (kind.Control _) = refl
body_kind T o (kind.Exit (exit.Retry)) = refl
body_kind T o (kind.Exit _) = refl
body_kind T o (kind.Handler (handler.Rescue a e c)) = refl
body_kind T o (kind.Handler (handler.Ensure a c)) = refl
body_kind T o (kind.Handler _) = refl
body_kind T o (kind.Definition (definition.Module n a)) = refl
body_kind T o (kind.Definition _) = refl

other_kind : (T : Texts) (o : SourcePosition) (k : Kind Node) → is_path k ≡ false → (w : Toks) (x : Bytes) → path_with w (at o (read_kind T k)) x ≡ at (position w) (constant_path (with (at o (read_kind T k))) false (x ∷ []))
other_kind T o (kind.Literal (literal.Symbol n)) = λ is w x. refl
other_kind T o (kind.Literal _) = λ is w x. refl
other_kind T o (kind.Variable (variable.Local n)) = λ is w x. refl
other_kind T o (kind.Variable _) = λ is w x. refl
other_kind T o (kind.Collection (collection.ConstantPath v b ns)) = λ is. absurd cc
other_kind T o (kind.Collection _) = λ is w x. refl
other_kind T o (kind.Assignment (assignment.Single v g)) = λ is w x. refl
other_kind T o (kind.Assignment _) = λ is w x. refl
other_kind T o (kind.Call (call.BareRaise)) = λ is w x. refl
other_kind T o (kind.Call _) = λ is w x. refl
other_kind T o (kind.Control (control.Statements ts)) = λ is w x. refl
other_kind T o (kind.Control _) = λ is w x. refl
other_kind T o (kind.Exit (exit.Retry)) = λ is w x. refl
other_kind T o (kind.Exit _) = λ is w x. refl
other_kind T o (kind.Handler (handler.Rescue a e c)) = λ is w x. refl
other_kind T o (kind.Handler (handler.Ensure a c)) = λ is w x. refl
other_kind T o (kind.Handler _) = λ is w x. refl
other_kind T o (kind.Definition (definition.Module n a)) = λ is w x. refl
other_kind T o (kind.Definition _) = λ is w x. refl

-- the position of a node
abbrev pub spot_in : Node → SourcePosition
spot_in n = record { first = (out-Node n).first; line = (out-Node n).line; place = (out-Node n).place }

-- a symbol's name is of the table
symbol_fits : (count : ℕ) (k : Kind Node) → kind_names_fit count k ≡ true → option_fits count (symbol_in k) ≡ true
symbol_fits count (kind.Literal (literal.Symbol n)) is = is
symbol_fits count (kind.Literal _) is = refl
symbol_fits count (kind.Variable _) is = refl
symbol_fits count (kind.Collection _) is = refl
symbol_fits count (kind.Assignment _) is = refl
symbol_fits count (kind.Call _) is = refl
symbol_fits count (kind.Control _) is = refl
symbol_fits count (kind.Exit _) is = refl
symbol_fits count (kind.Handler _) is = refl
symbol_fits count (kind.Definition _) is = refl

module _ (T : Texts) (s : Subtree) (t : Tree) (h : Holds T s t) (small : depth t ≤ 200) where
  -- the tree of a part that is kept
  whole : tree_of T s.node ≡ t
  whole = (h.reads small T (extends_same T)).tree

  opened : at (spot_in s.node) (read_kind T (out-Node s.node).kind) ≡ t
  opened = sym (tree_of-is T s.node) ∙ whole

  pub symbol_is : IsOtherName T (symbol_in (out-Node s.node).kind) (symbol_of t)
  symbol_is = record {
    within = λ U on. symbol_fits (length U) (out-Node s.node).kind (sym (names_fit-is (length U) s.node) ∙ (h.reads small U on).fits);
    text = λ U on. symbol_kind U (spot_in s.node) (out-Node s.node).kind ∙ ap symbol_of (sym (tree_of-is U s.node) ∙ (h.reads small U on).tree);
  }

  pub body_is : is_body_kind (out-Node s.node).kind ≡ is_body t
  body_is = body_kind T (spot_in s.node) (out-Node s.node).kind ∙ ap is_body opened

  pub other_is : (w : Toks) (x : Bytes) → is_path (out-Node s.node).kind ≡ false → path_with w t x ≡ at (position w) (constant_path (with t) false (x ∷ []))
  other_is w x is = subst (λ (u : Tree). path_with w u x ≡ at (position w) (constant_path (with u) false (x ∷ []))) opened (other_kind T (spot_in s.node) (out-Node s.node).kind is w x)

one_above : (n : ℕ) → n ≤ suc n
one_above n = omega arith

same_depth : (n : ℕ) → n ≤ n
same_depth n = omega arith

-- a symbol is no deep tree
pub deep_is_no_symbol : (t : Tree) → 201 ≤ depth t → symbol_of t ≡ None
deep_is_no_symbol (at o (symbol f)) deep = absurd (omega arith)
deep_is_no_symbol (at o _) deep = refl

pub no_symbol : (T : Texts) (t : Tree) → 201 ≤ depth t → IsOtherName T None (symbol_of t)
no_symbol T t deep = record { within = λ U on. refl; text = λ U on. sym (deep_is_no_symbol t deep) }

pub path_is_deeper : (w : Toks) (a : Tree) (x : Bytes) → depth a ≤ depth (path_with w a x)
path_is_deeper w (at o (constant_path v b xs)) x = same_depth _
path_is_deeper w (at o _) x = one_above _

-- A path with one more name.
both_of : (a b : Bool) → (a && b) ≡ true → (a ≡ true) × (b ≡ true)
both_of true b is = (refl, is)
both_of false b is = absurd cc

path_fits : (count : ℕ) (v : Option (Box Node Global)) (b : Bool) (ns : Vec Name Global) → kind_names_fit count (kind.Collection (collection.ConstantPath v b ns)) ≡ (other_node_fits count v && list_all (name_fits count) ns.items)
path_fits count None b ns = refl
path_fits count (Some v) b ns = refl

same_parts : (o : SourcePosition) (v u : Other) (b : Bool) (xs ys : List Bytes) → at o (constant_path v b xs) ≡ at o (constant_path u b ys) → (v ≡ u) × (xs ≡ ys)
same_parts o v u b xs ys is = (cc, cc)

module _ (T : Texts) (s : Subtree) (v : Option (Box Node Global)) (b : Bool) (ns longer : Vec Name Global) (name : Name) (is : (out-Node s.node).kind ≡ kind.Collection (collection.ConstantPath v b ns)) (items : longer.items ≡ ns.items ++ name ∷ []) where
  abbrev path_of : Texts → Tree
  path_of U = at (spot_in s.node) (constant_path (read_other U v) b (map (text_of_name U) ns.items))

  path_is : (U : Texts) → tree_of U s.node ≡ path_of U
  path_is U = tree_of-is U s.node ∙ ap (λ (k : Kind Node). at (spot_in s.node) (read_kind U k)) is

  fits_of : (U : Texts) → names_fit (length U) s.node ≡ true → (other_node_fits (length U) v ≡ true) × (list_all (name_fits (length U)) ns.items ≡ true)
  fits_of U fit = both_of _ _ (sym (path_fits (length U) v b ns) ∙ sym (ap (kind_names_fit (length U)) is) ∙ sym (names_fit-is (length U) s.node) ∙ fit)

  longer_kind : (U : Texts) (x : Bytes) → IsNode U s.node (path_of T) → Extends T U → IsNamed T name x → IsKind U (kind.Collection (collection.ConstantPath v b longer)) (constant_path (read_other T v) b (map (text_of_name T) ns.items ++ x ∷ []))
  longer_kind U x h on named =
      let fit = fits_of U h.fits in
      let parts = same_parts (spot_in s.node) (read_other U v) (read_other T v) b (map (text_of_name U) ns.items) (map (text_of_name T) ns.items) (sym (path_is U) ∙ h.tree) in
      let names : list_all (name_fits (length U)) longer.items ≡ true = ap (list_all (name_fits (length U))) items ∙ list_all-append (name_fits (length U)) ns.items (name ∷ []) ∙ both_true fit.1 (both_true (lt-ltb _ _ (named.within U on)) refl) in
      let texts : map (text_of_name U) longer.items ≡ map (text_of_name T) ns.items ++ x ∷ [] = ap (map (text_of_name U)) items ∙ map-append (text_of_name U) ns.items (name ∷ []) ∙ ap (λ (fs : List Bytes). fs ++ text_of_name U name ∷ []) parts.1 ∙ ap (λ (f : Bytes). map (text_of_name T) ns.items ++ f ∷ []) (named.text U on) in
      record {
        fits = path_fits (length U) v b longer ∙ both_true fit.0 names;
        form = ap (λ (u : Other). constant_path u b (map (text_of_name U) longer.items)) parts.0 ∙ ap (constant_path (read_other T v) b) texts;
      }

  longer_at : (w : Toks) (x : Bytes) → Holds T s (path_of T) → IsNamed T name x → Holds T (record { node = roll-Node (record { first = (out-Node s.node).first; line = (out-Node s.node).line; place = (out-Node s.node).place; kind = kind.Collection (collection.ConstantPath v b longer) }); depth = s.depth }) (path_with w (path_of T) x)
  longer_at w x h named = record {
    shows = h.shows;
    reads = λ small U on. made_node_is U _ _ _ _ _ (longer_kind U x (h.reads small U on) on named);
  }

  pub longer_holds : (w : Toks) (a : Tree) (x : Bytes) → Holds T s a → depth a ≤ 200 → IsNamed T name x → Holds T (record { node = roll-Node (record { first = (out-Node s.node).first; line = (out-Node s.node).line; place = (out-Node s.node).place; kind = kind.Collection (collection.ConstantPath v b longer) }); depth = s.depth }) (path_with w a x)
  longer_holds w a x h small named =
      let same : path_of T ≡ a = sym (path_is T) ∙ whole T s a h small in
      subst (λ (u : Tree). Holds T (record { node = roll-Node (record { first = (out-Node s.node).first; line = (out-Node s.node).line; place = (out-Node s.node).place; kind = kind.Collection (collection.ConstantPath v b longer) }); depth = s.depth }) (path_with w u x)) same
      (longer_at w x (subst (λ (u : Tree). Holds T s u) (sym same) h) named)
