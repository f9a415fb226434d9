-- Where the tokens end with a newline, what is taken of them ends before it: operators, assignments, commands and statements.
use Rattle.std.proofs.Common.{◌≡◌, ℕ, zero, suc, Bool, true, codes, refl}
use Rattle.ruby_lexer.specs.Bytes.{Bytes}
use Rattle.ruby_lexer.specs.Pieces.{Toks}
use Rattle.ruby_tree.specs.Tree.{Tree, Trees}
use Rattle.ruby_tree.specs.Rules.{Scope, DoBlockOwner, next, mark_in, is_mark, product_marks, sum_marks, shift_marks, intersection_marks, union_marks, order_marks, equality_marks, sending_assignments}
use Rattle.ruby_tree.specs.Build.{binary, conjunction, disjunction}
use Rattle.ruby_tree.specs.Grammar.{Rel, Rels, derives, UnaryOperand, Power, Minus, Rest, Chain, Product, Sum, Shift, Intersection, Union, Order, Equality, Conjunction, Disjunction, Range, Conditional, Values, Command, Value, Unset, Arg, CommandOrArg, Test, Tests, Expr, Head, Modifiers, Stmt, StmtList, Stmts}
use Rattle.ruby_tree.specs.Grammar as g
use Rattle.reference_laws.proofs.LastTools.{Ends, Lines, ◌▸◌, ◌▹◌, past, past_mark, past_word, past_one_of, past_goal, past_line, Lasts}
use Rattle.reference_laws.proofs.LastParts.{last_dot, last_method_name, last_targets, last_several, last_command_items, last_command_block, last_elses, last_postfix}

-- the operators of a level are no newlines
abbrev Passing : (Toks → Bool) → Type 0
Passing passes = (w : Toks) → passes w ≡ true → Ends w → Lines (next w)

abbrev Lasting : Rel Tree → Type 0
Lasting O = (w : Toks) (s : Scope) (t : Tree) (r : Toks) (z : Scope) → O w s t r z → Ends w → Lines r

module _ (source : Bytes) (R : Rels) (L : Lasts R) where
  pub last_tight : {d : DoBlockOwner} {s z : Scope} {t : Tree} {w r : Toks} → UnaryOperand source R d w s t r z → Ends w → Lines r
  last_tight (g.UnaryOperand.inverted h i) e = e ▹ past_mark source (codes "!") _ h ▸ L.unary_operand i
  last_tight (g.UnaryOperand.complement h i) e = e ▹ past_mark source (codes "~") _ h ▸ L.unary_operand i
  last_tight (g.UnaryOperand.positive h i) e = e ▹ past_mark source (codes "+") _ h ▸ L.unary_operand i
  last_tight (g.UnaryOperand.plain h i) e = last_postfix source R L h e

  pub last_power : {d : DoBlockOwner} {s z : Scope} {t : Tree} {w r : Toks} → Power source R d w s t r z → Ends w → Lines r
  last_power (g.Power.raised h i j) e = e ▹ last_tight h ▸ past_mark source (codes "**") _ i ▸ L.power j
  last_power (g.Power.plain h i) e = last_tight h e

  pub last_minus : {d : DoBlockOwner} {s z : Scope} {t : Tree} {w r : Toks} → Minus source R d w s t r z → Ends w → Lines r
  last_minus (g.Minus.minus h i j) e = e ▹ past_mark source (codes "-") _ h ▸ L.minus j
  last_minus (g.Minus.plain h) e = last_power h e

  last_rest : (passes : Toks → Bool) (make : Toks → Toks → Tree → Tree → Tree) (O : Rel Tree) → Passing passes → Lasting O → (o : Toks) (x : Tree) (w : Toks) (s : Scope) (t : Tree) (r : Toks) (z : Scope) → Rest source R passes make O o x w s t r z → Lines w → Lines r
  last_rest passes make O steps lasts o x w s t r z (g.Rest.operator h i j) e = e ▸ steps _ h ▸ lasts _ _ _ _ _ i ▹ last_rest passes make O steps lasts o _ _ _ _ _ _ j
  last_rest passes make O steps lasts o x w s t r z (g.Rest.end h) e = e

  last_chain : (passes : Toks → Bool) (make : Toks → Toks → Tree → Tree → Tree) (O : Rel Tree) → Passing passes → Lasting O → Lasting (Chain source R passes make O)
  last_chain passes make O steps lasts w s t r z (g.Chain.chain h i) e = e ▹ lasts _ _ _ _ _ h ▹ last_rest passes make O steps lasts _ _ _ _ _ _ _ i

  last_product : (d : DoBlockOwner) → Lasting (Product source R d)
  last_product d w s t r z h e = last_chain (mark_in source product_marks) (binary source) (Minus source R d) (λ w h e. past_one_of source product_marks w h e) (λ w s t r z h e. last_minus h e) _ _ _ _ _ h e

  last_sum : (d : DoBlockOwner) → Lasting (Sum source R d)
  last_sum d w s t r z h e = last_chain (mark_in source sum_marks) (binary source) (Product source R d) (λ w h e. past_one_of source sum_marks w h e) (last_product d) _ _ _ _ _ h e

  last_shift : (d : DoBlockOwner) → Lasting (Shift source R d)
  last_shift d w s t r z h e = last_chain (mark_in source shift_marks) (binary source) (Sum source R d) (λ w h e. past_one_of source shift_marks w h e) (last_sum d) _ _ _ _ _ h e

  last_intersection : (d : DoBlockOwner) → Lasting (Intersection source R d)
  last_intersection d w s t r z h e = last_chain (mark_in source intersection_marks) (binary source) (Shift source R d) (λ w h e. past_one_of source intersection_marks w h e) (last_shift d) _ _ _ _ _ h e

  last_union : (d : DoBlockOwner) → Lasting (Union source R d)
  last_union d w s t r z h e = last_chain (mark_in source union_marks) (binary source) (Intersection source R d) (λ w h e. past_one_of source union_marks w h e) (last_intersection d) _ _ _ _ _ h e

  last_order : (d : DoBlockOwner) → Lasting (Order source R d)
  last_order d w s t r z h e = last_chain (mark_in source order_marks) (binary source) (Union source R d) (λ w h e. past_one_of source order_marks w h e) (last_union d) _ _ _ _ _ h e

  last_equality : (d : DoBlockOwner) → Lasting (Equality source R d)
  last_equality d w s t r z (g.Equality.compared h i j) e = e ▹ last_order d _ _ _ _ _ h ▸ past_one_of source equality_marks _ i ▸ last_order d _ _ _ _ _ j
  last_equality d w s t r z (g.Equality.unequal h i j) e = e ▹ last_order d _ _ _ _ _ h ▸ past_mark source (codes "!=") _ i ▸ last_order d _ _ _ _ _ j
  last_equality d w s t r z (g.Equality.plain h i) e = last_order d _ _ _ _ _ h e

  last_conjunction : (d : DoBlockOwner) → Lasting (Conjunction source R d)
  last_conjunction d w s t r z h e = last_chain (is_mark source (codes "&&")) conjunction (Equality source R d) (λ w h e. past_mark source (codes "&&") w h e) (last_equality d) _ _ _ _ _ h e

  last_disjunction : (d : DoBlockOwner) → Lasting (Disjunction source R d)
  last_disjunction d w s t r z h e = last_chain (is_mark source (codes "||")) disjunction (Conjunction source R d) (λ w h e. past_mark source (codes "||") w h e) (last_conjunction d) _ _ _ _ _ h e

  last_range : (d : DoBlockOwner) → Lasting (Range source R d)
  last_range d w s t r z (g.Range.whole h i j) e = e ▹ last_disjunction d _ _ _ _ _ h ▸ past_mark source (codes "..") _ i ▸ last_disjunction d _ _ _ _ _ j
  last_range d w s t r z (g.Range.without_last h i j) e = e ▹ last_disjunction d _ _ _ _ _ h ▸ past_mark source (codes "...") _ i ▸ last_disjunction d _ _ _ _ _ j
  last_range d w s t r z (g.Range.plain h i j) e = last_disjunction d _ _ _ _ _ h e

  last_conditional : (d : DoBlockOwner) → Lasting (Conditional source R d)
  last_conditional d w s t r z (g.Conditional.chosen h i j f k) e = e ▹ last_range d _ _ _ _ _ h ▸ past_mark source (codes "?") _ i ▸ L.arg j ▸ past_mark source (codes ":") _ f ▸ L.arg k
  last_conditional d w s t r z (g.Conditional.plain h i) e = last_range d _ _ _ _ _ h e

  pub last_values : {d : DoBlockOwner} {s z : Scope} {ts : Trees} {w r : Toks} → Values source R d w s ts r z → Lines w → Lines r
  last_values (g.Values.missing h) e = e
  last_values (g.Values.given h i) e = last_several source R L i e.ends

  pub last_command : {d : DoBlockOwner} {s z : Scope} {t : Tree} {w r : Toks} → Command source R d w s t r z → Ends w → Lines r
  last_command (g.Command.named h i j c) e = e ▹ past _ _ h refl ▸ last_command_items source R L j ▹ last_command_block source R L c
  last_command (g.Command.called i h j m k f c) e = e ▹ last_postfix source R L h ▸ last_dot source j ▸ last_method_name source m ▸ last_command_items source R L f ▹ last_command_block source R L c
  last_command (g.Command.yielded h i j k) e = e ▹ past_word source (codes "yield") _ h ▸ last_command_items source R L j
  last_command (g.Command.super_with h i j c) e = e ▹ past_word source (codes "super") _ h ▸ last_command_items source R L j ▹ last_command_block source R L c
  last_command (g.Command.returned h i) e = e ▹ past_word source (codes "return") _ h ▹ last_values i
  last_command (g.Command.broken h i) e = e ▹ past_word source (codes "break") _ h ▹ last_values i
  last_command (g.Command.nexted h i) e = e ▹ past_word source (codes "next") _ h ▹ last_values i

  pub last_value : {d : DoBlockOwner} {s z : Scope} {t : Tree} {w r : Toks} → Value source R d w s t r z → Ends w → Lines r
  last_value (g.Value.plain h i) e = L.assigned_value h e
  last_value (g.Value.saved h i j) e = e ▹ L.assigned_value h ▸ past_word source (codes "rescue") _ i ▸ L.arg j

  pub last_unset : {d : DoBlockOwner} {s z : Scope} {t : Tree} {w r : Toks} → Unset source R d w s t r z → Ends w → Lines r
  last_unset (g.Unset.attribute h i j c x) e = e ▹ last_postfix source R L h ▸ past_mark source (codes ".") _ i ▸ past _ _ j refl ▸ past_mark source (codes "=") _ c ▸ last_value x
  last_unset (g.Unset.operated_attribute h i j c x) e = e ▹ last_postfix source R L h ▸ past_mark source (codes ".") _ i ▸ past _ _ j refl ▸ past_one_of source sending_assignments _ c ▸ last_value x
  last_unset (g.Unset.either_attribute h i j c x) e = e ▹ last_postfix source R L h ▸ past_mark source (codes ".") _ i ▸ past _ _ j refl ▸ past_mark source (codes "||=") _ c ▸ last_value x
  last_unset (g.Unset.both_attribute h i j c x) e = e ▹ last_postfix source R L h ▸ past_mark source (codes ".") _ i ▸ past _ _ j refl ▸ past_mark source (codes "&&=") _ c ▸ last_value x
  last_unset (g.Unset.element h i j k f c x) e = e ▹ last_postfix source R L h ▸ past_mark source (codes "[") _ i ▸ L.arg k ▸ past_mark source (codes "]") _ f ▸ past_mark source (codes "=") _ c ▸ last_value x
  last_unset (g.Unset.operated_element h i j k f c x) e = e ▹ last_postfix source R L h ▸ past_mark source (codes "[") _ i ▸ L.arg k ▸ past_mark source (codes "]") _ f ▸ past_one_of source sending_assignments _ c ▸ last_value x
  last_unset (g.Unset.either_element h i j k f c x) e = e ▹ last_postfix source R L h ▸ past_mark source (codes "[") _ i ▸ L.arg k ▸ past_mark source (codes "]") _ f ▸ past_mark source (codes "||=") _ c ▸ last_value x
  last_unset (g.Unset.both_element h i j k f c x) e = e ▹ last_postfix source R L h ▸ past_mark source (codes "[") _ i ▸ L.arg k ▸ past_mark source (codes "]") _ f ▸ past_mark source (codes "&&=") _ c ▸ last_value x
  last_unset (g.Unset.plain h i) e = last_conditional _ _ _ _ _ _ h e

  pub last_arg : {d : DoBlockOwner} {s z : Scope} {t : Tree} {w r : Toks} → Arg source R d w s t r z → Ends w → Lines r
  last_arg (g.Arg.variable h c x) e = e ▹ past_goal source _ _ h ▸ past_mark source (codes "=") _ c ▸ last_value x
  last_arg (g.Arg.operated_variable h c x) e = e ▹ past_goal source _ _ h ▸ past_one_of source sending_assignments _ c ▸ last_value x
  last_arg (g.Arg.either_variable h c x) e = e ▹ past_goal source _ _ h ▸ past_mark source (codes "||=") _ c ▸ last_value x
  last_arg (g.Arg.both_variable h c x) e = e ▹ past_goal source _ _ h ▸ past_mark source (codes "&&=") _ c ▸ last_value x
  last_arg (g.Arg.constant h c x) e = e ▹ past _ _ h refl ▸ past_mark source (codes "=") _ c ▸ last_value x
  last_arg (g.Arg.other h i) e = last_unset i e

  pub last_whole : {d : DoBlockOwner} {s z : Scope} {t : Tree} {w r : Toks} → CommandOrArg source R d w s t r z → Ends w → Lines r
  last_whole (g.CommandOrArg.command h) e = last_command h e
  last_whole (g.CommandOrArg.arg h) e = last_arg h e

  pub last_test : {d : DoBlockOwner} {s z : Scope} {t : Tree} {w r : Toks} → Test source R d w s t r z → Ends w → Lines r
  last_test (g.Test.inverted h i) e = e ▹ past_word source (codes "not") _ h ▸ L.test i
  last_test (g.Test.plain h) e = last_whole h e

  pub last_tests : {d : DoBlockOwner} {o : Toks} {s z : Scope} {x t : Tree} {w r : Toks} → Tests source R d o x w s t r z → Lines w → Lines r
  last_tests (g.Tests.and_test h i j) e = e ▸ past_word source (codes "and") _ h ▸ L.test i ▹ last_tests j
  last_tests (g.Tests.or_test h i j) e = e ▸ past_word source (codes "or") _ h ▸ L.test i ▹ last_tests j
  last_tests (g.Tests.end h i) e = e

  pub last_expr : {d : DoBlockOwner} {s z : Scope} {t : Tree} {w r : Toks} → Expr source R d w s t r z → Ends w → Lines r
  last_expr (g.Expr.tests h i) e = e ▹ last_test h ▹ last_tests i

  pub last_head : {d : DoBlockOwner} {s z : Scope} {t : Tree} {w r : Toks} → Head source R d w s t r z → Ends w → Lines r
  last_head (g.Head.several h i j) e = e ▹ last_targets source h ▸ past_mark source (codes "=") _ i ▸ last_several source R L j
  last_head (g.Head.plain h i) e = last_expr i e

  pub last_modifiers : {d : DoBlockOwner} {o : Toks} {c : Bool} {s z : Scope} {x t : Tree} {w r : Toks} → Modifiers source R d o c x w s t r z → Lines w → Lines r
  last_modifiers (g.Modifiers.if_holds h i j) e = e ▸ past_word source (codes "if") _ h ▸ L.expr i ▹ last_modifiers j
  last_modifiers (g.Modifiers.unless_holds h i j) e = e ▸ past_word source (codes "unless") _ h ▸ L.expr i ▹ last_modifiers j
  last_modifiers (g.Modifiers.while_holds h i j) e = e ▸ past_word source (codes "while") _ h ▸ L.expr i ▹ last_modifiers j
  last_modifiers (g.Modifiers.until_holds h i j) e = e ▸ past_word source (codes "until") _ h ▸ L.expr i ▹ last_modifiers j
  last_modifiers (g.Modifiers.saved h i j) e = e ▸ past_word source (codes "rescue") _ h ▸ L.expr i ▹ last_modifiers j
  last_modifiers (g.Modifiers.end h) e = e

  pub last_stmt : {d : DoBlockOwner} {s z : Scope} {t : Tree} {w r : Toks} → Stmt source R d w s t r z → Ends w → Lines r
  last_stmt (g.Stmt.head h i) e = e ▹ last_head h ▹ last_modifiers i

  pub last_stmt_list : {d : DoBlockOwner} {s z : Scope} {ts : Trees} {w r : Toks} → StmtList source R d w s ts r z → Ends w → Ends r
  last_stmt_list (g.StmtList.line h i) e = e ▹ past_line source _ h ▹ last_stmt_list i
  last_stmt_list (g.StmtList.last h i) e = (last_stmt h e).ends
  last_stmt_list (g.StmtList.another h i j) e = e ▹ last_stmt h ▸ past_line source _ i ▹ last_stmt_list j
  last_stmt_list (g.StmtList.empty h i) e = e

  pub last_stmts : {d : DoBlockOwner} {s z : Scope} {t : Tree} {w r : Toks} → Stmts source R d w s t r z → Ends w → Ends r
  last_stmts (g.Stmts.none h i) e = e
  last_stmts (g.Stmts.lines h i) e = last_stmt_list i e
  last_stmts (g.Stmts.some h i) e = last_stmt_list i e

pub lasts : (source : Bytes) (n : ℕ) → Lasts (derives source n)
unfolding derives
lasts source zero = record {
  stmts = λ h e. absurd h;
  expr = λ h e. absurd h;
  test = λ h e. absurd h;
  assigned_value = λ h e. absurd h;
  arg = λ h e. absurd h;
  minus = λ h e. absurd h;
  power = λ h e. absurd h;
  unary_operand = λ h e. absurd h;
  else_branches = λ h e. absurd h;
}
lasts source (suc n) =
    let L = lasts source n in
    let R = derives source n in
    record {
      stmts = λ h e. last_stmts source R L h e;
      expr = λ h e. last_expr source R L h e;
      test = λ h e. last_test source R L h e;
      assigned_value = λ h e. last_whole source R L h e;
      arg = λ h e. last_arg source R L h e;
      minus = λ h e. last_minus source R L h e;
      power = λ h e. last_power source R L h e;
      unary_operand = λ h e. last_tight source R L h e;
      else_branches = λ h e. last_elses source R L h e;
    }
