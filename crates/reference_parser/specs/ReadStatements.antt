-- What a reader with one token of lookahead takes: assignments, commands and statements.
use Rattle.std.specs.Prelude.{ℕ, zero, suc, Bool, true, false, ◌&&◌, ◌||◌, ◌++◌, codes, Option, Some, None, if◌then◌else◌}
use Rattle.ruby_lexer.specs.Bytes.{Bytes}
use Rattle.ruby_lexer.specs.Pieces.{Toks}
use Rattle.ruby_tree.specs.Tree.{SourcePosition, Goal, to_constant, Tree, at, Form, assign, assign_all, assign_attribute, assign_index, operate_attribute, or_attribute, and_attribute, operate_index, or_index, and_index, send, yield, super, statements, both, either, negated, if_else, while_loop, return_with, break_with, next_with, Trees, no_more, more, without, with}
use Rattle.ruby_tree.specs.Rules.{Scope, declared, in_clause, behind, next, line_at, position, position_with, nowhere, but_last, DoBlockOwner, loops, word, is_mark, is_word, begins_value, begins_statement, begins_targets, sets, assigns, goal_at}
use Rattle.ruby_tree.specs.Build.{has_block, is_body, one, alone, or_empty, read_form, call_form, sent, rescued, conjunction, disjunction}
use Rattle.ruby_tree.specs.FaultLine.{count_of}
use Rattle.reference_parser.specs.Answers.{Answer, taken, fault, deep, Parse, ◌>>=◌}
use Rattle.reference_parser.specs.Fronts.{is_newline, is_name, begins_command, begins_operator}
use Rattle.reference_parser.specs.ReadItems.{Readers, read_several, read_targets, command_items}
use Rattle.reference_parser.specs.ReadBodies.{command_block, read_else_branches}
use Rattle.reference_parser.specs.ReadOperands.{Start, operand, attribute, element, command, read_postfix}
use Rattle.reference_parser.specs.ReadLevels.{all_levels, read_unary_operand, raised, read_power, read_minus, climb, read_level}

module _ (source : Bytes) where
  -- What is assigned by the token at q: to a variable that is the first token of w, to an attribute m, and to an element i.
  abbrev pub variable_form : Goal → Toks → Toks → Tree → Form
  variable_form g w q v =
      if is_mark source (codes "=") q then assign v g
      else if is_mark source (codes "||=") q then either (at (position w) (read_form g)) (at (position w) (assign v g))
      else if is_mark source (codes "&&=") q then both (at (position w) (read_form g)) (at (position w) (assign v g))
      else assign (sent (position_with w q) (at (position w) (read_form g)) (but_last (word source q)) (one v)) g

  abbrev pub attribute_form : Tree → Bytes → Toks → Tree → Form
  attribute_form a m q v =
      if is_mark source (codes "=") q then assign_attribute a v (m ++ codes "=")
      else if is_mark source (codes "||=") q then or_attribute a m v (m ++ codes "=")
      else if is_mark source (codes "&&=") q then and_attribute a m v (m ++ codes "=")
      else operate_attribute a m v (but_last (word source q)) (m ++ codes "=") (line_at q)

  abbrev pub element_form : Tree → Tree → Toks → Tree → Form
  element_form a i q v =
      if is_mark source (codes "=") q then assign_index a i v
      else if is_mark source (codes "||=") q then or_index a i v
      else if is_mark source (codes "&&=") q then and_index a i v
      else operate_index a i v (but_last (word source q)) (line_at q)

  -- the node of statements that begin at w
  abbrev pub statements_at : Toks → Trees → Tree
  statements_at w ts = if is_newline w || begins_statement source w then at (position w) (statements ts) else at nowhere (statements no_more)

  module _ (Q : Readers) where
    unfoldable pub read_value : DoBlockOwner → Parse Tree
    read_value d w s = Q.assigned_value d w s >>= λ a q y.
        if is_word source (codes "rescue") q then (Q.arg d (next q) (in_clause y) >>= λ b r z. taken (rescued w q a b) r (behind y z)) else taken a q y

    -- a variable or a constant is set, by the second token
    unfoldable pub set_by : DoBlockOwner → Toks → Scope → Option Goal → Answer Tree
    set_by d w s (Some g) = read_value d (next (next w)) (declared g s) >>= λ v r z. taken (at (position w) (variable_form g w (next w) v)) r z
    set_by d w s None = read_value d (next (next w)) s >>= λ v r z. taken (at (position w) (assign v (to_constant (word source w)))) r z

    -- the items and the block of a command that was read up to its name
    unfoldable pub command_by : DoBlockOwner → Bool → Tree → SourcePosition → Bytes → Parse Tree
    command_by d k a o m w s = command_items source Q d w s >>= λ g p x. command_block source Q d g p x >>= λ b r z. taken (at o (call_form k a g m b)) r z

    -- an argument that nothing is assigned to
    unfoldable pub unassigned : Tree → Parse Tree
    unassigned t w s = if assigns source w then fault else taken t w s

    -- What begins with an operand at w: operators behind it, an assignment, or a command, where one may stand.
    unfoldable pub start_by : Bool → DoBlockOwner → Toks → Start → Parse Tree
    start_by c d w (operand a) q y = raised source Q d w a q y >>= λ b p x. climb source Q all_levels d w b p x >>= λ t r z. unassigned t r z
    start_by c d w (attribute a o m) q y = read_value d (next q) y >>= λ v r z. taken (at o (attribute_form a m q v)) r z
    start_by c d w (element a o i) q y = read_value d (next q) y >>= λ v r z. taken (at o (element_form a i q v)) r z
    start_by c d w (command k a o m) q y = if c then command_by d k a o m q y else fault

    -- an argument that sets no variable, or, where one may stand, a command behind a dot
    unfoldable pub read_unset : Bool → DoBlockOwner → Parse Tree
    read_unset c d w s =
        if begins_operator source w then (read_level source Q all_levels d w s >>= λ t r z. unassigned t r z)
        else (read_postfix source Q d w s >>= λ h q y. start_by c d w h q y)

    unfoldable pub read_settable : Bool → DoBlockOwner → Parse Tree
    read_settable c d w s = if sets source w then set_by d w s (goal_at source w) else read_unset c d w s

    unfoldable pub read_arg : DoBlockOwner → Parse Tree
    read_arg d w s = read_settable false d w s

    unfoldable pub read_values : DoBlockOwner → Parse Trees
    read_values d w s = if begins_value source w then read_several source Q d w s else taken no_more w s

    -- a command that begins with its name or its word
    unfoldable pub read_command : DoBlockOwner → Parse Tree
    read_command d w s =
        if is_name w then (command_items source Q d (next w) s >>= λ g q y. command_block source Q d g q y >>= λ b r z. taken (at (position w) (send without g.trees g.spread g.value (word source w) false b)) r z)
        else if is_word source (codes "yield") w then (command_items source Q d (next w) s >>= λ g r z. if has_block g then fault else taken (at (position w) (yield g.trees g.spread)) r z)
        else if is_word source (codes "super") w then (command_items source Q d (next w) s >>= λ g q y. command_block source Q d g q y >>= λ b r z. taken (at (position w) (super g.trees g.spread g.value b)) r z)
        else if is_word source (codes "return") w then (read_values d (next w) s >>= λ ts r z. taken (at (position w) (return_with ts)) r z)
        else if is_word source (codes "break") w then (read_values d (next w) s >>= λ ts r z. taken (at (position w) (break_with ts)) r z)
        else (read_values d (next w) s >>= λ ts r z. taken (at (position w) (next_with ts)) r z)

    unfoldable pub read_assigned_value : DoBlockOwner → Parse Tree
    read_assigned_value d w s = if begins_command source s w then read_command d w s else read_settable true d w s

    unfoldable pub read_test : DoBlockOwner → Parse Tree
    read_test d w s =
        if is_word source (codes "not") w then (Q.test d (next w) s >>= λ t r z. taken (at (position w) (negated t)) r z)
        else read_assigned_value d w s

    unfoldable pub tests : ℕ → DoBlockOwner → Toks → Tree → Parse Tree
    tests zero d o a w s = fault
    tests (suc m) d o a w s =
        if is_word source (codes "and") w then (Q.test d (next w) s >>= λ b q y. tests m d o (conjunction o w a b) q y)
        else if is_word source (codes "or") w then (Q.test d (next w) s >>= λ b q y. tests m d o (disjunction o w a b) q y)
        else taken a w s

    unfoldable pub read_expr : DoBlockOwner → Parse Tree
    read_expr d w s = read_test d w s >>= λ a q y. tests (suc (count_of q)) d w a q y

    unfoldable pub read_head : DoBlockOwner → Parse Tree
    read_head d w s =
        if begins_targets source w then
        (read_targets source w s >>= λ gs q y. if is_mark source (codes "=") q then (read_several source Q d (next q) y >>= λ vs r z. taken (at (position w) (assign_all vs gs)) r z) else fault)
        else read_expr d w s

    unfoldable pub modifiers_from : ℕ → DoBlockOwner → Toks → Bool → Tree → Parse Tree
    modifiers_from zero d o b a w s = fault
    modifiers_from (suc m) d o b a w s =
        if is_word source (codes "if") w then (Q.expr d (next w) s >>= λ c q y. modifiers_from m d o false (at (position o) (if_else c (alone o a) without)) q y)
        else if is_word source (codes "unless") w then (Q.expr d (next w) s >>= λ c q y. modifiers_from m d o false (at (position o) (if_else c (or_empty without) (with (alone o a)))) q y)
        else if is_word source (codes "while") w then (Q.expr loops (next w) s >>= λ c q y. modifiers_from m d o false (at (position o) (while_loop (alone o a) c false b)) q y)
        else if is_word source (codes "until") w then (Q.expr loops (next w) s >>= λ c q y. modifiers_from m d o false (at (position o) (while_loop (alone o a) c true b)) q y)
        else if is_word source (codes "rescue") w then (Q.expr d (next w) (in_clause s) >>= λ c q y. modifiers_from m d o false (rescued o w a c) q (behind s y))
        else taken a w s

    unfoldable pub read_stmt : DoBlockOwner → Parse Tree
    read_stmt d w s = read_head d w s >>= λ a q y. modifiers_from (suc (count_of q)) d w (is_word source (codes "begin") w && is_body a) a q y

    unfoldable pub stmt_list : ℕ → DoBlockOwner → Parse Trees
    stmt_list zero d w s = fault
    stmt_list (suc m) d w s =
        if is_newline w then stmt_list m d (next w) s
        else if begins_statement source w then
        (read_stmt d w s >>= λ t q y. if is_newline q then (stmt_list m d (next q) y >>= λ ts r z. taken (more t ts) r z) else taken (one t) q y)
        else taken no_more w s

    unfoldable pub read_stmts : DoBlockOwner → Parse Tree
    read_stmts d w s = stmt_list (suc (count_of w)) d w s >>= λ ts r z. taken (statements_at w ts) r z

  -- the symbols nested at most n deep
  unfoldable pub readers : ℕ → Readers
  readers zero = record {
    stmts = λ d w s. deep;
    expr = λ d w s. deep;
    test = λ d w s. deep;
    assigned_value = λ d w s. deep;
    arg = λ d w s. deep;
    minus = λ d w s. deep;
    power = λ d w s. deep;
    unary_operand = λ d w s. deep;
    else_branches = λ d w s. deep;
  }
  readers (suc n) = record {
    stmts = read_stmts (readers n);
    expr = read_expr (readers n);
    test = read_test (readers n);
    assigned_value = read_assigned_value (readers n);
    arg = read_arg (readers n);
    minus = read_minus source (readers n);
    power = read_power source (readers n);
    unary_operand = read_unary_operand source (readers n);
    else_branches = read_else_branches source (readers n);
  }
