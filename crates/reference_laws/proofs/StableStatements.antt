-- More depth changes nothing but what goes too deep: assignments, commands and statements.
use Rattle.std.proofs.Common.{ℕ, zero, suc, Bool, codes, Option, Some, None}
use Rattle.ruby_lexer.specs.Bytes.{Bytes}
use Rattle.ruby_lexer.specs.Pieces.{Toks}
use Rattle.ruby_tree.specs.Tree.{SourcePosition, Goal, Tree}
use Rattle.ruby_tree.specs.Rules.{Scope, declared, in_clause, behind, next, DoBlockOwner, loops, is_mark, is_word, begins_value, begins_statement, begins_targets, sets, goal_at}
use Rattle.ruby_tree.specs.FaultLine.{count_of}
use Rattle.reference_parser.specs.Fronts.{is_newline, is_name, begins_command, begins_operator}
use Rattle.reference_parser.specs.ReadItems.{Readers}
use Rattle.reference_parser.specs.ReadOperands.{Start, operand, attribute, element, command}
use Rattle.reference_parser.specs.ReadLevels.{all_levels}
use Rattle.reference_parser.specs.ReadStatements.{read_value, set_by, command_by, unassigned, start_by, read_unset, read_settable, read_arg, read_values, read_command, read_assigned_value, read_test, tests, read_expr, read_head, modifiers_from, read_stmt, stmt_list, read_stmts}
use Rattle.reference_laws.proofs.StableTools.{Agree, Stable, Stables, same, stable_then, stable_if}
use Rattle.reference_laws.proofs.StableItems.{stable_several, stable_command_items}
use Rattle.reference_laws.proofs.StableBodies.{stable_command_block}
use Rattle.reference_laws.proofs.StablePostfixes.{stable_postfix}
use Rattle.reference_laws.proofs.StableLevels.{stable_raised, stable_climb, stable_level}

module _ (source : Bytes) (Q P : Readers) (S : Stables Q P) where
  stable_value : (d : DoBlockOwner) → Stable (read_value source Q d) (read_value source P d)
  unfolding read_value
  stable_value d w s = stable_then (S.assigned_value d w s) (λ a q y. stable_if (is_word source (codes "rescue") q) (stable_then (S.arg d (next q) (in_clause y)) (λ b r z. same)) same)

  stable_set : (d : DoBlockOwner) (w : Toks) (s : Scope) (o : Option Goal) → Agree (set_by source Q d w s o) (set_by source P d w s o)
  unfolding set_by
  stable_set d w s (Some g) = stable_then (stable_value d (next (next w)) (declared g s)) (λ v r z. same)
  stable_set d w s None = stable_then (stable_value d (next (next w)) s) (λ v r z. same)

  stable_command_by : (d : DoBlockOwner) (k : Bool) (a : Tree) (o : SourcePosition) (m : Bytes) → Stable (command_by source Q d k a o m) (command_by source P d k a o m)
  unfolding command_by
  stable_command_by d k a o m w s = stable_then (stable_command_items source Q P S d w s) (λ g p x. stable_then (stable_command_block source Q P S d g p x) (λ b r z. same))

  stable_unassigned : (t : Tree) → Stable (unassigned source Q t) (unassigned source P t)
  unfolding unassigned
  stable_unassigned t w s = same

  stable_start : (c : Bool) (d : DoBlockOwner) (w : Toks) (h : Start) → Stable (start_by source Q c d w h) (start_by source P c d w h)
  unfolding start_by
  stable_start c d w (operand a) q y =
      stable_then (stable_raised source Q P S d w a q y) (λ b p x. stable_then (stable_climb source Q P S all_levels d w b p x) (λ t r z. stable_unassigned t r z))
  stable_start c d w (attribute a o m) q y = stable_then (stable_value d (next q) y) (λ v r z. same)
  stable_start c d w (element a o i) q y = stable_then (stable_value d (next q) y) (λ v r z. same)
  stable_start c d w (command k a o m) q y = stable_if c (stable_command_by d k a o m q y) same

  stable_unset : (c : Bool) (d : DoBlockOwner) → Stable (read_unset source Q c d) (read_unset source P c d)
  unfolding read_unset
  stable_unset c d w s =
      stable_if (begins_operator source w) (stable_then (stable_level source Q P S all_levels d w s) (λ t r z. stable_unassigned t r z))
      (stable_then (stable_postfix source Q P S d w s) (λ h q y. stable_start c d w h q y))

  stable_settable : (c : Bool) (d : DoBlockOwner) → Stable (read_settable source Q c d) (read_settable source P c d)
  unfolding read_settable
  stable_settable c d w s = stable_if (sets source w) (stable_set d w s (goal_at source w)) (stable_unset c d w s)

  pub stable_arg : (d : DoBlockOwner) → Stable (read_arg source Q d) (read_arg source P d)
  unfolding read_arg
  stable_arg d w s = stable_settable _ d w s

  stable_values : (d : DoBlockOwner) → Stable (read_values source Q d) (read_values source P d)
  unfolding read_values
  stable_values d w s = stable_if (begins_value source w) (stable_several source Q P S d w s) same

  stable_command : (d : DoBlockOwner) → Stable (read_command source Q d) (read_command source P d)
  unfolding read_command
  stable_command d w s =
      stable_if (is_name w) (stable_then (stable_command_items source Q P S d (next w) s) (λ g q y. stable_then (stable_command_block source Q P S d g q y) (λ b r z. same)))
      (stable_if (is_word source (codes "yield") w) (stable_then (stable_command_items source Q P S d (next w) s) (λ g r z. same))
      (stable_if (is_word source (codes "super") w) (stable_then (stable_command_items source Q P S d (next w) s) (λ g q y. stable_then (stable_command_block source Q P S d g q y) (λ b r z. same)))
      (stable_if (is_word source (codes "return") w) (stable_then (stable_values d (next w) s) (λ ts r z. same))
      (stable_if (is_word source (codes "break") w) (stable_then (stable_values d (next w) s) (λ ts r z. same))
      (stable_then (stable_values d (next w) s) (λ ts r z. same))))))

  pub stable_whole : (d : DoBlockOwner) → Stable (read_assigned_value source Q d) (read_assigned_value source P d)
  unfolding read_assigned_value
  stable_whole d w s = stable_if (begins_command source s w) (stable_command d w s) (stable_settable _ d w s)

  pub stable_test : (d : DoBlockOwner) → Stable (read_test source Q d) (read_test source P d)
  unfolding read_test
  stable_test d w s = stable_if (is_word source (codes "not") w) (stable_then (S.test d (next w) s) (λ t r z. same)) (stable_whole d w s)

  stable_tests : (m : ℕ) (d : DoBlockOwner) (o : Toks) (a : Tree) → Stable (tests source Q m d o a) (tests source P m d o a)
  unfolding tests
  stable_tests zero d o a w s = same
  stable_tests (suc m) d o a w s =
      stable_if (is_word source (codes "and") w) (stable_then (S.test d (next w) s) (λ b q y. stable_tests m d o _ q y))
      (stable_if (is_word source (codes "or") w) (stable_then (S.test d (next w) s) (λ b q y. stable_tests m d o _ q y)) same)

  pub stable_expr : (d : DoBlockOwner) → Stable (read_expr source Q d) (read_expr source P d)
  unfolding read_expr
  stable_expr d w s = stable_then (stable_test d w s) (λ a q y. stable_tests (suc (count_of q)) d w a q y)

  stable_head : (d : DoBlockOwner) → Stable (read_head source Q d) (read_head source P d)
  unfolding read_head
  stable_head d w s =
      stable_if (begins_targets source w)
      (stable_then same (λ gs q y. stable_if (is_mark source (codes "=") q) (stable_then (stable_several source Q P S d (next q) y) (λ vs r z. same)) same))
      (stable_expr d w s)

  stable_modifiers : (m : ℕ) (d : DoBlockOwner) (o : Toks) (b : Bool) (a : Tree) → Stable (modifiers_from source Q m d o b a) (modifiers_from source P m d o b a)
  unfolding modifiers_from
  stable_modifiers zero d o b a w s = same
  stable_modifiers (suc m) d o b a w s =
      stable_if (is_word source (codes "if") w) (stable_then (S.expr d (next w) s) (λ c q y. stable_modifiers m d o _ _ q y))
      (stable_if (is_word source (codes "unless") w) (stable_then (S.expr d (next w) s) (λ c q y. stable_modifiers m d o _ _ q y))
      (stable_if (is_word source (codes "while") w) (stable_then (S.expr loops (next w) s) (λ c q y. stable_modifiers m d o _ _ q y))
      (stable_if (is_word source (codes "until") w) (stable_then (S.expr loops (next w) s) (λ c q y. stable_modifiers m d o _ _ q y))
      (stable_if (is_word source (codes "rescue") w) (stable_then (S.expr d (next w) (in_clause s)) (λ c q y. stable_modifiers m d o _ _ q (behind s y))) same))))

  pub stable_stmt : (d : DoBlockOwner) → Stable (read_stmt source Q d) (read_stmt source P d)
  unfolding read_stmt
  stable_stmt d w s = stable_then (stable_head d w s) (λ a q y. stable_modifiers (suc (count_of q)) d w _ a q y)

  stable_stmt_list : (m : ℕ) (d : DoBlockOwner) → Stable (stmt_list source Q m d) (stmt_list source P m d)
  unfolding stmt_list
  stable_stmt_list zero d w s = same
  stable_stmt_list (suc m) d w s =
      stable_if (is_newline w) (stable_stmt_list m d (next w) s)
      (stable_if (begins_statement source w)
      (stable_then (stable_stmt d w s) (λ t q y. stable_if (is_newline q) (stable_then (stable_stmt_list m d (next q) y) (λ ts r z. same)) same)) same)

  pub stable_stmts : (d : DoBlockOwner) → Stable (read_stmts source Q d) (read_stmts source P d)
  unfolding read_stmts
  stable_stmts d w s = stable_then (stable_stmt_list (suc (count_of w)) d w s) (λ ts r z. same)
