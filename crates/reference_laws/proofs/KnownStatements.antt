-- The reader takes what is derived: commands and statements.
use Rattle.std.proofs.Common.{◌≡◌, ℕ, zero, suc, ◌<◌, Bool, true, false, not, List, codes, Some, refl, sym, ap, ◌∙◌, arith}
use Rattle.std.proofs.lemmas.Bool.{true≢false}
use Rattle.ruby_lexer.specs.Bytes.{Bytes, is_in}
use Rattle.ruby_lexer.specs.Pieces.{Toks, name}
use Rattle.ruby_tree.specs.Tree.{Goal, Tree, at, Trees, more, Other}
use Rattle.ruby_tree.specs.Rules.{Scope, DoBlockOwner, loops, next, front, position_with, modifiers, word, word_in, is_word, is_goal, is_kind_name, begins_arguments, begins_statement, begins_targets, is_command, sets}
use Rattle.ruby_tree.specs.Build.{Given, call_form}
use Rattle.ruby_tree.specs.Grammar.{Rels, Targets, Postfix, Dot, MethodName, CommandItems, CommandBlock, Values, Command, Arg, CommandOrArg, Test, Tests, Expr, Head, Modifiers, Stmt, StmtList, Stmts, derives}
use Rattle.ruby_tree.specs.Grammar as g
use Rattle.ruby_tree.specs.FaultLine.{count_of}
use Rattle.reference_parser.specs.Answers.{taken, ◌>>=◌}
use Rattle.reference_parser.specs.Fronts.{is_newline, is_name, calling_words, leaving_words, begins_command}
use Rattle.reference_parser.specs.ReadItems.{Readers}
use Rattle.reference_parser.specs.ReadStatements.{statements_at, command_by, start_by, read_unset, read_settable, read_arg, read_values, read_command, read_assigned_value, read_test, tests, read_expr, read_head, modifiers_from, read_stmt, stmt_list, read_stmts, readers}
use Rattle.reference_laws.proofs.Promises.{Knows, Known, Shorters, Firsts}
use Rattle.reference_parser.proofs.Tests.{and_true, left_true, right_true, by_test, word_kind, word_among, other_word, other_mark, kind_no_word, next_le, next_less, kind_newline}
use Rattle.reference_laws.proofs.Begins.{arg_not_word, statement_not_newline}
use Rattle.reference_laws.proofs.First.{firsts, first_several, first_postfix, first_arg, first_stmt}
use Rattle.reference_laws.proofs.Shorter.{shorters, shorter_stmt}
use Rattle.reference_laws.proofs.KnownItems.{known_targets, known_several, known_command_items}
use Rattle.reference_laws.proofs.KnownBodies.{known_command_block, known_elses}
use Rattle.reference_laws.proofs.KnownPostfixes.{known_command}
use Rattle.reference_laws.proofs.KnownLevels.{known_tight, known_power, known_minus}
use Rattle.reference_laws.proofs.KnownArguments.{known_settable}

module _ (source : Bytes) where
  -- which words begin a command
  begins_named : (s : Scope) (w : Toks) → front w ≡ Some name → is_command source s (word source w) (next w) ≡ true → begins_command source s w ≡ true
  begins_named s w e c = left_true _ _ (left_true _ _ (and_true _ _ (ap is_kind_name e) c))

  begins_calling : (s : Scope) (f : Bytes) (w : Toks) → is_word source f w ≡ true → is_in f (calling_words source) ≡ true → begins_arguments source (next w) ≡ true → begins_command source s w ≡ true
  begins_calling s f w e i c = left_true _ _ (right_true _ _ (and_true _ _ (word_among source f (calling_words source) w e i) c))

  begins_leaving : (s : Scope) (f : Bytes) (w : Toks) → is_word source f w ≡ true → is_in f (leaving_words source) ≡ true → begins_command source s w ≡ true
  begins_leaving s f w e i = right_true _ _ (word_among source f (leaving_words source) w e i)

  word_no_name : (f : Bytes) (w : Toks) → is_word source f w ≡ true → is_name w ≡ false
  word_no_name f w e = ap is_kind_name (word_kind source f w e)

  module _ (R : Rels) (Q : Readers) (F : Firsts source R) (S : Shorters R) (K : Known R Q) where
    known_values : (d : DoBlockOwner) → Knows (Values source R d) (read_values source Q d)
    unfolding read_values
    known_values d w s t r z (g.Values.missing e) = rw e
    known_values d w s t r z (g.Values.given e h) = rw (and_true _ _ (first_several source R F d _ _ _ _ _ h) (ap not e)) (known_several source R Q F S K d _ _ _ _ _ h)

    -- a command behind a dot
    known_called : (d : DoBlockOwner) (k : Bool) (w : Toks) (s : Scope) (a : Tree) (q v : Toks) (y : Scope) (m : Bytes) (i : Given) (p : Toks) (x : Scope) (b : Other) (r : Toks) (z : Scope) → sets source w ≡ false → Postfix source R d w s a q y → Dot source k q →
        MethodName source false (next q) m v → begins_arguments source v ≡ true → CommandItems source R d v y i p x → CommandBlock source R d i p x b r z → read_settable source Q true d w s ≡ taken (at (position_with w (next q)) (call_form k a i m b)) r z
    unfolding ◌>>=◌ read_settable read_unset start_by command_by
    known_called d k w s a q v y m i p x b r z n h e j c f l =
        rw (n, (first_postfix source R d _ _ _ _ _ h).plain, known_command source R Q F S K d k w s a q v y m h e j c, known_command_items source R Q F S K d _ _ _ _ _ f, known_command_block source R Q F S K d i _ _ _ _ _ l)

    known_words : (d : DoBlockOwner) (w : Toks) (s : Scope) (t : Tree) (r : Toks) (z : Scope) → Command source R d w s t r z → begins_command source s w ≡ true → read_command source Q d w s ≡ taken t r z
    unfolding ◌>>=◌ read_command
    known_words d w s t r z (g.Command.named e i h c) b = rw (ap is_kind_name e, known_command_items source R Q F S K d _ _ _ _ _ h, known_command_block source R Q F S K d _ _ _ _ _ _ c)
    known_words d w s t r z (g.Command.called i h e m j f c) b = absurd (true≢false (sym b ∙ (first_postfix source R d _ _ _ _ _ h).argument.alone))
    known_words d w s t r z (g.Command.yielded e i h j) b = rw (word_no_name (codes "yield") w e, e, known_command_items source R Q F S K d _ _ _ _ _ h, j)
    known_words d w s t r z (g.Command.super_with e i h c) b =
        rw (word_no_name (codes "super") w e, other_word source (codes "super") (codes "yield") w e refl, e, known_command_items source R Q F S K d _ _ _ _ _ h, known_command_block source R Q F S K d _ _ _ _ _ _ c)
    known_words d w s t r z (g.Command.returned e h) b =
        rw (word_no_name (codes "return") w e, other_word source (codes "return") (codes "yield") w e refl, other_word source (codes "return") (codes "super") w e refl, e, known_values d _ _ _ _ _ h)
    known_words d w s t r z (g.Command.broken e h) b =
        rw (word_no_name (codes "break") w e, other_word source (codes "break") (codes "yield") w e refl, other_word source (codes "break") (codes "super") w e refl, other_word source (codes "break") (codes "return") w e refl, e, known_values d _ _ _ _ _ h)
    known_words d w s t r z (g.Command.nexted e h) b =
        rw (word_no_name (codes "next") w e, other_word source (codes "next") (codes "yield") w e refl, other_word source (codes "next") (codes "super") w e refl, other_word source (codes "next") (codes "return") w e refl, other_word source (codes "next") (codes "break") w e refl, known_values d _ _ _ _ _ h)

    by_words : (d : DoBlockOwner) (w : Toks) (s : Scope) (t : Tree) (r : Toks) (z : Scope) → Command source R d w s t r z → begins_command source s w ≡ true → read_assigned_value source Q d w s ≡ taken t r z
    unfolding read_assigned_value
    by_words d w s t r z h b = rw b (known_words d w s t r z h b)

    by_operand : (d : DoBlockOwner) (w : Toks) (s : Scope) (t : Tree) (r : Toks) (z : Scope) → begins_command source s w ≡ false → read_settable source Q true d w s ≡ taken t r z → read_assigned_value source Q d w s ≡ taken t r z
    unfolding read_assigned_value
    by_operand d w s t r z b h = rw b h

    pub known_whole : (d : DoBlockOwner) → Knows (CommandOrArg source R d) (read_assigned_value source Q d)
    known_whole d w s t r z (g.CommandOrArg.command (g.Command.named e i h c)) = by_words d w s t r z (g.Command.named e i h c) (begins_named s w e i)
    known_whole d w s t r z (g.CommandOrArg.command (g.Command.called {k = k} i h e m j f c)) = by_operand d w s t r z (first_postfix source R d _ _ _ _ _ h).argument.alone (known_called d k w s _ _ _ _ _ _ _ _ _ _ _ i h e m j f c)
    known_whole d w s t r z (g.CommandOrArg.command (g.Command.yielded e i h j)) = by_words d w s t r z (g.Command.yielded e i h j) (begins_calling s (codes "yield") w e refl i)
    known_whole d w s t r z (g.CommandOrArg.command (g.Command.super_with e i h c)) = by_words d w s t r z (g.Command.super_with e i h c) (begins_calling s (codes "super") w e refl i)
    known_whole d w s t r z (g.CommandOrArg.command (g.Command.returned e h)) = by_words d w s t r z (g.Command.returned e h) (begins_leaving s (codes "return") w e refl)
    known_whole d w s t r z (g.CommandOrArg.command (g.Command.broken e h)) = by_words d w s t r z (g.Command.broken e h) (begins_leaving s (codes "break") w e refl)
    known_whole d w s t r z (g.CommandOrArg.command (g.Command.nexted e h)) = by_words d w s t r z (g.Command.nexted e h) (begins_leaving s (codes "next") w e refl)
    known_whole d w s t r z (g.CommandOrArg.arg h) = by_operand d w s t r z (first_arg source R d _ _ _ _ _ h).alone (known_settable source R Q F S K true d _ _ _ _ _ h)

    pub known_arg : (d : DoBlockOwner) → Knows (Arg source R d) (read_arg source Q d)
    unfolding read_arg
    known_arg d w s t r z h = known_settable source R Q F S K false d _ _ _ _ _ h

    -- neither a command nor an argument begins with `not`
    whole_not : (d : DoBlockOwner) (w : Toks) (s : Scope) (t : Tree) (r : Toks) (z : Scope) → CommandOrArg source R d w s t r z → is_word source (codes "not") w ≡ false
    whole_not d w s t r z (g.CommandOrArg.command (g.Command.named e i h c)) = kind_no_word source (codes "not") w name e refl
    whole_not d w s t r z (g.CommandOrArg.command (g.Command.called i h e m j f c)) = arg_not_word source (codes "not") w (first_postfix source R d _ _ _ _ _ h).argument.begins refl
    whole_not d w s t r z (g.CommandOrArg.command (g.Command.yielded e i h j)) = other_word source (codes "yield") (codes "not") w e refl
    whole_not d w s t r z (g.CommandOrArg.command (g.Command.super_with e i h c)) = other_word source (codes "super") (codes "not") w e refl
    whole_not d w s t r z (g.CommandOrArg.command (g.Command.returned e h)) = other_word source (codes "return") (codes "not") w e refl
    whole_not d w s t r z (g.CommandOrArg.command (g.Command.broken e h)) = other_word source (codes "break") (codes "not") w e refl
    whole_not d w s t r z (g.CommandOrArg.command (g.Command.nexted e h)) = other_word source (codes "next") (codes "not") w e refl
    whole_not d w s t r z (g.CommandOrArg.arg h) = arg_not_word source (codes "not") w (first_arg source R d _ _ _ _ _ h).begins refl

    pub known_test : (d : DoBlockOwner) → Knows (Test source R d) (read_test source Q d)
    unfolding ◌>>=◌ read_test
    known_test d w s t r z (g.Test.inverted e h) = rw (e, K.test d _ _ _ _ _ h)
    known_test d w s t r z (g.Test.plain h) = rw (whole_not d _ _ _ _ _ h) (known_whole d _ _ _ _ _ h)

    known_tests : (m : ℕ) (d : DoBlockOwner) (o : Toks) (a : Tree) (w : Toks) (s : Scope) (t : Tree) (r : Toks) (z : Scope) → Tests source R d o a w s t r z → count_of w < m → tests source Q m d o a w s ≡ taken t r z
    unfolding ◌>>=◌ tests
    known_tests zero d o a w s t r z h room = absurd (omega arith)
    known_tests (suc m) d o a w s t r z (g.Tests.and_test e h hs) room = rw (e, K.test d _ _ _ _ _ h, known_tests m d o _ _ _ _ _ _ hs (omega (arith, next_le w, S.test d _ _ _ _ _ h)))
    known_tests (suc m) d o a w s t r z (g.Tests.or_test e h hs) room =
        rw (other_word source (codes "or") (codes "and") w e refl, e, K.test d _ _ _ _ _ h, known_tests m d o _ _ _ _ _ _ hs (omega (arith, next_le w, S.test d _ _ _ _ _ h)))
    known_tests (suc m) d o a w s t r z (g.Tests.end e h) room = rw (e, h)

    pub known_expr : (d : DoBlockOwner) → Knows (Expr source R d) (read_expr source Q d)
    unfolding ◌>>=◌ read_expr
    known_expr d w s t r z (g.Expr.tests {q = q} h hs) = rw (known_test d _ _ _ _ _ h, known_tests (suc (count_of q)) d w _ _ _ _ _ _ hs (omega arith))

    several_targets : (w : Toks) (s : Scope) (gs : List Goal) (r : Toks) (z : Scope) → Targets source w s gs r z → begins_targets source w ≡ true
    several_targets w s gs r z (g.Targets.several e c h) = and_true _ _ (ap is_goal e) c

    known_head : (d : DoBlockOwner) → Knows (Head source R d) (read_head source Q d)
    unfolding ◌>>=◌ read_head
    known_head d w s t r z (g.Head.several {q = q} h e hs) =
        rw (several_targets _ _ _ _ _ h, known_targets source _ _ _ _ _ h (other_mark source (codes "=") (codes ",") q e refl), e, known_several source R Q F S K d _ _ _ _ _ hs)
    known_head d w s t r z (g.Head.plain e h) = rw e (known_expr d _ _ _ _ _ h)

    -- a word that is none of them is not this one
    not_among : (f : Bytes) (fs : List Bytes) (w : Toks) → word_in source fs w ≡ false → is_in f fs ≡ true → is_word source f w ≡ false
    not_among f fs w h i = by_test (is_word source f w) (λ e. absurd (true≢false (sym (word_among source f fs w e i) ∙ h))) (λ e. e)

    known_modifiers : (m : ℕ) (d : DoBlockOwner) (o : Toks) (b : Bool) (a : Tree) (w : Toks) (s : Scope) (t : Tree) (r : Toks) (z : Scope) → Modifiers source R d o b a w s t r z → count_of w < m → modifiers_from source Q m d o b a w s ≡ taken t r z
    unfolding ◌>>=◌ modifiers_from
    known_modifiers zero d o b a w s t r z h room = absurd (omega arith)
    known_modifiers (suc m) d o b a w s t r z (g.Modifiers.if_holds e h hs) room = rw (e, K.expr d _ _ _ _ _ h, known_modifiers m d o _ _ _ _ _ _ _ hs (omega (arith, next_le w, S.expr d _ _ _ _ _ h)))
    known_modifiers (suc m) d o b a w s t r z (g.Modifiers.unless_holds e h hs) room =
        rw (other_word source (codes "unless") (codes "if") w e refl, e, K.expr d _ _ _ _ _ h, known_modifiers m d o _ _ _ _ _ _ _ hs (omega (arith, next_le w, S.expr d _ _ _ _ _ h)))
    known_modifiers (suc m) d o b a w s t r z (g.Modifiers.while_holds e h hs) room =
        rw (other_word source (codes "while") (codes "if") w e refl, other_word source (codes "while") (codes "unless") w e refl, e, K.expr loops _ _ _ _ _ h, known_modifiers m d o _ _ _ _ _ _ _ hs (omega (arith, next_le w, S.expr loops _ _ _ _ _ h)))
    known_modifiers (suc m) d o b a w s t r z (g.Modifiers.until_holds e h hs) room =
        rw (
          other_word source (codes "until") (codes "if") w e refl,
          other_word source (codes "until") (codes "unless") w e refl,
          other_word source (codes "until") (codes "while") w e refl,
          e,
          K.expr loops _ _ _ _ _ h,
          known_modifiers m d o _ _ _ _ _ _ _ hs (omega (arith, next_le w, S.expr loops _ _ _ _ _ h)),
        )
    known_modifiers (suc m) d o b a w s t r z (g.Modifiers.saved e h hs) room =
        rw (
          other_word source (codes "rescue") (codes "if") w e refl,
          other_word source (codes "rescue") (codes "unless") w e refl,
          other_word source (codes "rescue") (codes "while") w e refl,
          other_word source (codes "rescue") (codes "until") w e refl,
          e,
          K.expr d _ _ _ _ _ h,
          known_modifiers m d o _ _ _ _ _ _ _ hs (omega (arith, next_le w, S.expr d _ _ _ _ _ h)),
        )
    known_modifiers (suc m) d o b a w s t r z (g.Modifiers.end e) room =
        rw (not_among (codes "if") modifiers w e refl, not_among (codes "unless") modifiers w e refl, not_among (codes "while") modifiers w e refl, not_among (codes "until") modifiers w e refl, not_among (codes "rescue") modifiers w e refl)

    pub known_stmt : (d : DoBlockOwner) → Knows (Stmt source R d) (read_stmt source Q d)
    unfolding ◌>>=◌ read_stmt
    known_stmt d w s t r z (g.Stmt.head {q = q} h hs) = rw (known_head d _ _ _ _ _ h, known_modifiers (suc (count_of q)) d w _ _ _ _ _ _ _ hs (omega arith))

    known_list : (m : ℕ) (d : DoBlockOwner) (w : Toks) (s : Scope) (ts : Trees) (r : Toks) (z : Scope) → StmtList source R d w s ts r z → count_of w < m → stmt_list source Q m d w s ≡ taken ts r z
    unfolding ◌>>=◌ stmt_list
    known_list zero d w s ts r z h room = absurd (omega arith)
    known_list (suc m) d w s ts r z (g.StmtList.line e h) room = rw e (known_list m d _ _ _ _ _ h (omega (arith, next_less w _ (kind_newline _ e))))
    known_list (suc m) d w s ts r z (g.StmtList.last h e) room =
        let b = first_stmt source R d _ _ _ _ _ h in
        rw (statement_not_newline source w b, b, known_stmt d _ _ _ _ _ h, e)
    known_list (suc m) d w s ts r z (g.StmtList.another {q = q} h e hs) room =
        let b = first_stmt source R d _ _ _ _ _ h in
        rw (statement_not_newline source w b, b, known_stmt d _ _ _ _ _ h, e, known_list m d _ _ _ _ _ hs (omega (arith, shorter_stmt source R S d _ _ _ _ _ h, next_le q)))
    known_list (suc m) d w s ts r z (g.StmtList.empty e i) room = rw (e, i)

    first_more : (d : DoBlockOwner) (w : Toks) (s : Scope) (t : Tree) (ts : Trees) (r : Toks) (z : Scope) → is_newline w ≡ false → StmtList source R d w s (more t ts) r z → begins_statement source w ≡ true
    first_more d w s t ts r z n (g.StmtList.line e h) = absurd (true≢false (sym e ∙ n))
    first_more d w s t ts r z n (g.StmtList.last h e) = first_stmt source R d _ _ _ _ _ h
    first_more d w s t ts r z n (g.StmtList.another h e hs) = first_stmt source R d _ _ _ _ _ h

    -- the statements that a list makes
    known_made : (d : DoBlockOwner) (w : Toks) (s : Scope) (ts : Trees) (r : Toks) (z : Scope) → StmtList source R d w s ts r z → read_stmts source Q d w s ≡ taken (statements_at source w ts) r z
    unfolding ◌>>=◌ read_stmts
    known_made d w s ts r z h = rw (known_list (suc (count_of w)) d _ _ _ _ _ h (omega arith))

    pub known_stmts : (d : DoBlockOwner) → Knows (Stmts source R d) (read_stmts source Q d)
    known_stmts d w s t r z (g.Stmts.none e i) = known_made d _ _ _ _ _ (g.StmtList.empty e i) ∙ rw (e, i)
    known_stmts d w s t r z (g.Stmts.lines e h) = known_made d _ _ _ _ _ h ∙ rw (left_true (is_newline w) (begins_statement source w) e)
    known_stmts d w s t r z (g.Stmts.some e h) = known_made d _ _ _ _ _ h ∙ rw (right_true (is_newline w) (begins_statement source w) (first_more d _ _ _ _ _ _ e h))

pub known : (source : Bytes) (n : ℕ) → Known (derives source n) (readers source n)
unfolding derives readers
known source zero = record {
  stmts = λ d w s t r z h. absurd h;
  expr = λ d w s t r z h. absurd h;
  test = λ d w s t r z h. absurd h;
  assigned_value = λ d w s t r z h. absurd h;
  arg = λ d w s t r z h. absurd h;
  minus = λ d w s t r z h. absurd h;
  power = λ d w s t r z h. absurd h;
  unary_operand = λ d w s t r z h. absurd h;
  else_branches = λ d w s t r z h. absurd h;
}
known source (suc n) =
    let R = derives source n in
    let Q = readers source n in
    let F = firsts source n in
    let S = shorters source n in
    let K = known source n in
    record {
      stmts = known_stmts source R Q F S K;
      expr = known_expr source R Q F S K;
      test = known_test source R Q F S K;
      assigned_value = known_whole source R Q F S K;
      arg = known_arg source R Q F S K;
      minus = known_minus source R Q F S K;
      power = known_power source R Q F S K;
      unary_operand = known_tight source R Q F S K;
      else_branches = known_elses source R Q F S K;
    }
