-- Kinds of statements and what chooses among them, over parts that hold what they hold.
use Rattle.std.proofs.Common.{◌≡◌, ℕ, Bool, true, Option, Some, None, Vec, refl, ap, ◌∙◌, arith, length, max, ◌&&◌}
use Rattle.std.specs.Cmp.Derive.{both_true}
use Rattle.std.specs.List.{list_all}
use Rattle.std.specs.declared.boxed.Box.{Box}
use Rattle.std.specs.declared.alloc.Global.{Global}
use Rattle.ruby_tree.specs.declared.node.Node.{Node}
use Rattle.ruby_tree.specs.declared.node.Kind.TheVariants as kind
use Rattle.ruby_tree.specs.declared.node.Control.TheVariants as control
use Rattle.ruby_tree.specs.declared.node.Exit.TheVariants as exit
use Rattle.tree_builder.specs.declared.lists.Subtrees.{Subtrees}
use Rattle.tree_builder.specs.declared.lists.ElseSubtree.{ElseSubtree}
use Rattle.tree_builder.specs.declared.lists.WhenSubtrees.{WhenSubtrees}
use Rattle.ruby_tree.specs.Names.{Texts}
use Rattle.ruby_tree.specs.Tree.{Tree, Trees, Other, Whens, statements, both, either, negated, if_else, while_loop, case_of, case_tests, return_with, break_with, next_with, retry}
use Rattle.ruby_tree.specs.NamesFit.{names_fit}
use Rattle.tree_builder.specs.Subtrees.{nodes_fit, other_node_fits, when_nodes_fit, kind_names_fit, IsNode, AreNodes, IsOther, AreWhens, IsPart, HoldsAll, HoldsOther, HoldsWhens, HoldsKind}
use Rattle.tree_builder.proofs.Fitted.{whens_fit-is}

statements_fits : (count : ℕ) (parts : Vec Node Global) → kind_names_fit count (kind.Control (control.Statements parts)) ≡ nodes_fit count parts.items
statements_fits count parts = refl

pub statements_kind : (T : Texts) (parts : Subtrees) (ts : Trees) (d : ℕ) → HoldsAll T parts ts → d ≡ parts.depth → HoldsKind T (kind.Control (control.Statements parts.nodes)) d (statements ts)
statements_kind T parts ts d h_parts at = record {
  shows = omega arith;
  reads = λ small U on.
      let m_parts : AreNodes U parts.nodes.items ts = h_parts.reads (omega arith) U on in
      record {
        fits = statements_fits (length U) parts.nodes ∙ m_parts.fits;
        form = rw (m_parts.trees) refl;
      };
}

both_fits : (count : ℕ) (left : Box Node Global) (right : Box Node Global) → kind_names_fit count (kind.Control (control.And left right)) ≡ (names_fit count left.value && names_fit count right.value)
both_fits count left right = refl

pub both_kind : (T : Texts) (left : Box Node Global) (d_left : ℕ) (a : Tree) (right : Box Node Global) (d_right : ℕ) (b : Tree) (d : ℕ) → IsPart T left.value d_left a → IsPart T right.value d_right b → d ≡ max d_left d_right → HoldsKind T (kind.Control (control.And left right)) d (both a b)
both_kind T left d_left a right d_right b d h_left h_right at = record {
  shows = omega arith;
  reads = λ small U on.
      let m_left : IsNode U left.value a = h_left.reads (omega arith) U on in
      let m_right : IsNode U right.value b = h_right.reads (omega arith) U on in
      record {
        fits = both_fits (length U) left right ∙ both_true m_left.fits m_right.fits;
        form = rw (m_left.tree, m_right.tree) refl;
      };
}

either_fits : (count : ℕ) (left : Box Node Global) (right : Box Node Global) → kind_names_fit count (kind.Control (control.Or left right)) ≡ (names_fit count left.value && names_fit count right.value)
either_fits count left right = refl

pub either_kind : (T : Texts) (left : Box Node Global) (d_left : ℕ) (a : Tree) (right : Box Node Global) (d_right : ℕ) (b : Tree) (d : ℕ) → IsPart T left.value d_left a → IsPart T right.value d_right b → d ≡ max d_left d_right → HoldsKind T (kind.Control (control.Or left right)) d (either a b)
either_kind T left d_left a right d_right b d h_left h_right at = record {
  shows = omega arith;
  reads = λ small U on.
      let m_left : IsNode U left.value a = h_left.reads (omega arith) U on in
      let m_right : IsNode U right.value b = h_right.reads (omega arith) U on in
      record {
        fits = either_fits (length U) left right ∙ both_true m_left.fits m_right.fits;
        form = rw (m_left.tree, m_right.tree) refl;
      };
}

negated_fits : (count : ℕ) (part : Box Node Global) → kind_names_fit count (kind.Control (control.Not part)) ≡ names_fit count part.value
negated_fits count part = refl

pub negated_kind : (T : Texts) (part : Box Node Global) (d_part : ℕ) (a : Tree) (d : ℕ) → IsPart T part.value d_part a → d ≡ d_part → HoldsKind T (kind.Control (control.Not part)) d (negated a)
negated_kind T part d_part a d h_part at = record {
  shows = omega arith;
  reads = λ small U on.
      let m_part : IsNode U part.value a = h_part.reads (omega arith) U on in
      record {
        fits = negated_fits (length U) part ∙ m_part.fits;
        form = rw (m_part.tree) refl;
      };
}

if_else_fits : (count : ℕ) (condition : Box Node Global) (chosen : Box Node Global) (other : Option (Box Node Global)) → kind_names_fit count (kind.Control (control.If condition chosen other)) ≡ (names_fit count condition.value && names_fit count chosen.value && other_node_fits count other)
if_else_fits count condition chosen None = refl
if_else_fits count condition chosen (Some other) = refl

pub if_else_kind : (T : Texts) (condition : Box Node Global) (d_condition : ℕ) (c : Tree) (chosen : Box Node Global) (d_chosen : ℕ) (a : Tree) (other : ElseSubtree) (b : Other) (d : ℕ) → IsPart T condition.value d_condition c → IsPart T chosen.value d_chosen a → HoldsOther T other b → d ≡ max d_condition (max d_chosen other.depth) → HoldsKind T (kind.Control (control.If condition chosen other.node)) d (if_else c a b)
if_else_kind T condition d_condition c chosen d_chosen a other b d h_condition h_chosen h_other at = record {
  shows = omega arith;
  reads = λ small U on.
      let m_condition : IsNode U condition.value c = h_condition.reads (omega arith) U on in
      let m_chosen : IsNode U chosen.value a = h_chosen.reads (omega arith) U on in
      let m_other : IsOther U other.node b = h_other.reads (omega arith) U on in
      record {
        fits = if_else_fits (length U) condition chosen other.node ∙ both_true (both_true m_condition.fits m_chosen.fits) m_other.fits;
        form = rw (m_condition.tree, m_chosen.tree, m_other.other) refl;
      };
}

while_loop_fits : (count : ℕ) (body : Box Node Global) (condition : Box Node Global) (until : Bool) (body_first : Bool) → kind_names_fit count (kind.Control (control.While body condition until body_first)) ≡ (names_fit count body.value && names_fit count condition.value)
while_loop_fits count body condition until body_first = refl

pub while_loop_kind : (T : Texts) (body : Box Node Global) (d_body : ℕ) (a : Tree) (condition : Box Node Global) (d_condition : ℕ) (c : Tree) (until : Bool) (body_first : Bool) (d : ℕ) → IsPart T body.value d_body a → IsPart T condition.value d_condition c → d ≡ max d_body d_condition → HoldsKind T (kind.Control (control.While body condition until body_first)) d (while_loop a c until body_first)
while_loop_kind T body d_body a condition d_condition c until body_first d h_body h_condition at = record {
  shows = omega arith;
  reads = λ small U on.
      let m_body : IsNode U body.value a = h_body.reads (omega arith) U on in
      let m_condition : IsNode U condition.value c = h_condition.reads (omega arith) U on in
      record {
        fits = while_loop_fits (length U) body condition until body_first ∙ both_true m_body.fits m_condition.fits;
        form = rw (m_body.tree, m_condition.tree) refl;
      };
}

case_of_fits : (count : ℕ) (value : Box Node Global) (whens : Vec (Vec Node Global × Node) Global) (other : Option (Box Node Global)) → kind_names_fit count (kind.Control (control.Case value whens other)) ≡ (names_fit count value.value && list_all (when_nodes_fit count) whens.items && other_node_fits count other)
case_of_fits count value whens None = ap (λ it. names_fit count value.value && it && true) (whens_fit-is count _ (λ p. refl) (λ p. refl) whens.items)
case_of_fits count value whens (Some other) = ap (λ it. names_fit count value.value && it && names_fit count other.value) (whens_fit-is count _ (λ p. refl) (λ p. refl) whens.items)

pub case_of_kind : (T : Texts) (value : Box Node Global) (d_value : ℕ) (a : Tree) (whens : WhenSubtrees) (ws : Whens) (other : ElseSubtree) (e : Other) (d : ℕ) → IsPart T value.value d_value a → HoldsWhens T whens ws → HoldsOther T other e → d ≡ max d_value (max whens.depth other.depth) → HoldsKind T (kind.Control (control.Case value whens.whens other.node)) d (case_of a ws e)
case_of_kind T value d_value a whens ws other e d h_value h_whens h_other at = record {
  shows = omega arith;
  reads = λ small U on.
      let m_value : IsNode U value.value a = h_value.reads (omega arith) U on in
      let m_whens : AreWhens U whens.whens.items ws = h_whens.reads (omega arith) U on in
      let m_other : IsOther U other.node e = h_other.reads (omega arith) U on in
      record {
        fits = case_of_fits (length U) value whens.whens other.node ∙ both_true (both_true m_value.fits m_whens.fits) m_other.fits;
        form = rw (m_value.tree, m_whens.whens, m_other.other) refl;
      };
}

case_tests_fits : (count : ℕ) (whens : Vec (Vec Node Global × Node) Global) (other : Option (Box Node Global)) → kind_names_fit count (kind.Control (control.CaseTests whens other)) ≡ (list_all (when_nodes_fit count) whens.items && other_node_fits count other)
case_tests_fits count whens None = ap (λ it. it && true) (whens_fit-is count _ (λ p. refl) (λ p. refl) whens.items)
case_tests_fits count whens (Some other) = ap (λ it. it && names_fit count other.value) (whens_fit-is count _ (λ p. refl) (λ p. refl) whens.items)

pub case_tests_kind : (T : Texts) (whens : WhenSubtrees) (ws : Whens) (other : ElseSubtree) (e : Other) (d : ℕ) → HoldsWhens T whens ws → HoldsOther T other e → d ≡ max whens.depth other.depth → HoldsKind T (kind.Control (control.CaseTests whens.whens other.node)) d (case_tests ws e)
case_tests_kind T whens ws other e d h_whens h_other at = record {
  shows = omega arith;
  reads = λ small U on.
      let m_whens : AreWhens U whens.whens.items ws = h_whens.reads (omega arith) U on in
      let m_other : IsOther U other.node e = h_other.reads (omega arith) U on in
      record {
        fits = case_tests_fits (length U) whens.whens other.node ∙ both_true m_whens.fits m_other.fits;
        form = rw (m_whens.whens, m_other.other) refl;
      };
}

return_with_fits : (count : ℕ) (values : Vec Node Global) → kind_names_fit count (kind.Exit (exit.Return values)) ≡ nodes_fit count values.items
return_with_fits count values = refl

pub return_with_kind : (T : Texts) (values : Subtrees) (ts : Trees) (d : ℕ) → HoldsAll T values ts → d ≡ values.depth → HoldsKind T (kind.Exit (exit.Return values.nodes)) d (return_with ts)
return_with_kind T values ts d h_values at = record {
  shows = omega arith;
  reads = λ small U on.
      let m_values : AreNodes U values.nodes.items ts = h_values.reads (omega arith) U on in
      record {
        fits = return_with_fits (length U) values.nodes ∙ m_values.fits;
        form = rw (m_values.trees) refl;
      };
}

break_with_fits : (count : ℕ) (values : Vec Node Global) → kind_names_fit count (kind.Exit (exit.Break values)) ≡ nodes_fit count values.items
break_with_fits count values = refl

pub break_with_kind : (T : Texts) (values : Subtrees) (ts : Trees) (d : ℕ) → HoldsAll T values ts → d ≡ values.depth → HoldsKind T (kind.Exit (exit.Break values.nodes)) d (break_with ts)
break_with_kind T values ts d h_values at = record {
  shows = omega arith;
  reads = λ small U on.
      let m_values : AreNodes U values.nodes.items ts = h_values.reads (omega arith) U on in
      record {
        fits = break_with_fits (length U) values.nodes ∙ m_values.fits;
        form = rw (m_values.trees) refl;
      };
}

next_with_fits : (count : ℕ) (values : Vec Node Global) → kind_names_fit count (kind.Exit (exit.Next values)) ≡ nodes_fit count values.items
next_with_fits count values = refl

pub next_with_kind : (T : Texts) (values : Subtrees) (ts : Trees) (d : ℕ) → HoldsAll T values ts → d ≡ values.depth → HoldsKind T (kind.Exit (exit.Next values.nodes)) d (next_with ts)
next_with_kind T values ts d h_values at = record {
  shows = omega arith;
  reads = λ small U on.
      let m_values : AreNodes U values.nodes.items ts = h_values.reads (omega arith) U on in
      record {
        fits = next_with_fits (length U) values.nodes ∙ m_values.fits;
        form = rw (m_values.trees) refl;
      };
}

pub retry_kind : (T : Texts) → HoldsKind T (kind.Exit exit.Retry) 0 retry
retry_kind T = record {
  shows = refl;
  reads = λ small U on.
      record {
        fits = refl;
        form = refl;
      };
}
