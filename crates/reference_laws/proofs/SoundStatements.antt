-- What a reader takes is derived: statements.
use Rattle.std.proofs.Common.{◌≡◌, ℕ, zero, suc, Bool, true, false, ◌&&◌, ◌||◌, [], ◌∷◌, codes, sym, ap, ◌∙◌}
use Rattle.std.proofs.lemmas.Bool.{or_from, false≢true}
use Rattle.ruby_lexer.specs.Bytes.{Bytes}
use Rattle.ruby_lexer.specs.Pieces.{Toks}
use Rattle.ruby_tree.specs.Tree.{Tree, at, if_else, while_loop, Trees, no_more, more, without, with}
use Rattle.ruby_tree.specs.Rules.{Scope, in_clause, behind, next, position, DoBlockOwner, loops, modifiers, word_in, is_mark, is_word, begins_statement, begins_targets}
use Rattle.ruby_tree.specs.Build.{is_body, alone, or_empty, rescued, conjunction, disjunction}
use Rattle.ruby_tree.specs.FaultLine.{count_of}
use Rattle.ruby_tree.specs.Grammar.{Rels, Newline, NoNewline, Test, Tests, Expr, Head, Modifiers, Stmt, StmtList, Stmts}
use Rattle.ruby_tree.specs.Grammar as g
use Rattle.reference_parser.specs.Fronts.{is_newline}
use Rattle.reference_parser.specs.ReadItems.{Readers}
use Rattle.reference_parser.specs.ReadStatements.{statements_at, read_test, tests, read_expr, read_head, modifiers_from, read_stmt, stmt_list, read_stmts}
use Rattle.reference_laws.proofs.Promises.{Each, got, at_fault, Sound, Sounds}
use Rattle.reference_laws.proofs.SoundTools.{each_then, each_of, each_if, value_if}
use Rattle.reference_laws.proofs.SoundTests.{word_in-rest, word_in-none}
use Rattle.reference_laws.proofs.SoundItems.{sound-several, sound-targets}
use Rattle.reference_laws.proofs.SoundArguments.{sound-whole}

module _ (source : Bytes) where
  no_modifier : (w : Toks) → is_word source (codes "if") w ≡ false → is_word source (codes "unless") w ≡ false → is_word source (codes "while") w ≡ false → is_word source (codes "until") w ≡ false → is_word source (codes "rescue") w ≡ false → word_in source modifiers w ≡ false
  no_modifier w a b c e f =
      word_in-rest source (codes "if") (codes "unless" ∷ codes "while" ∷ codes "until" ∷ codes "rescue" ∷ []) w a ∙ word_in-rest source (codes "unless") (codes "while" ∷ codes "until" ∷ codes "rescue" ∷ []) w b ∙ word_in-rest source (codes "while") (codes "until" ∷ codes "rescue" ∷ []) w c ∙ word_in-rest source (codes "until") (codes "rescue" ∷ []) w e ∙ word_in-rest source (codes "rescue") [] w f ∙ word_in-none source w

module _ (source : Bytes) (R : Rels) where
  -- a list of statements, by what it begins with
  data Lines (d : DoBlockOwner) (w : Toks) (s : Scope) : Trees → Toks → Scope → Type 0 where
    line : {ts : Trees} {r : Toks} {z : Scope} → Newline source w → StmtList source R d w s ts r z → Lines d w s ts r z
    some : {t : Tree} {ts : Trees} {r : Toks} {z : Scope} → NoNewline source w → begins_statement source w ≡ true → StmtList source R d w s (more t ts) r z → Lines d w s (more t ts) r z
    empty : NoNewline source w → begins_statement source w ≡ false → Lines d w s no_more w s

  listed : (d : DoBlockOwner) (w r : Toks) (s z : Scope) (ts : Trees) → Lines d w s ts r z → StmtList source R d w s ts r z
  listed d w r s z ts (line n h) = h
  listed d w r s z _ (some n b h) = h
  listed d w _ s _ _ (empty n b) = g.StmtList.empty n b

  node_of : (d : DoBlockOwner) (w r : Toks) (s z : Scope) (ts : Trees) → Lines d w s ts r z → Stmts source R d w s (statements_at source w ts) r z
  node_of d w r s z ts (line n h) =
      value_if (λ t. Stmts source R d w s t r z) (is_newline w || begins_statement source w) _ _
      (λ _. g.Stmts.lines n h)
      (λ e. absurd (false≢true (sym e ∙ ap (λ b. b || begins_statement source w) n)))
  node_of d w r s z (more t ts) (some n b h) =
      value_if (λ u. Stmts source R d w s u r z) (is_newline w || begins_statement source w) _ _
      (λ _. g.Stmts.some n h)
      (λ e. absurd (false≢true (sym e ∙ ap (λ k. k || begins_statement source w) n ∙ b)))
  node_of d w _ s _ _ (empty n b) =
      value_if (λ t. Stmts source R d w s t w s) (is_newline w || begins_statement source w) _ _
      (λ e. absurd (false≢true (sym (or_from _ _ n b) ∙ e)))
      (λ _. g.Stmts.none n b)

module _ (source : Bytes) (R : Rels) (Q : Readers) (S : Sounds R Q) where
  pub sound-test : (d : DoBlockOwner) → Sound (Test source R d) (read_test source Q d)
  unfolding read_test
  sound-test d w s =
      each_if (is_word source (codes "not") w) _ _
      (λ e. each_then _ (S.test d (next w) s) (λ t r z h. got (g.Test.inverted e h)))
      (λ _. each_of (sound-whole source R Q S d w s) (λ t r z h. g.Test.plain h))

  sound-tests : (m : ℕ) (d : DoBlockOwner) (o : Toks) (a : Tree) → Sound (Tests source R d o a) (tests source Q m d o a)
  unfolding tests
  sound-tests zero d o a w s = at_fault
  sound-tests (suc m) d o a w s =
      each_if (is_word source (codes "and") w) _ _
      (λ e. each_then _ (S.test d (next w) s) (λ b q y h. each_of (sound-tests m d o (conjunction o w a b) q y) (λ t r z i. g.Tests.and_test e h i)))
      (λ f. each_if (is_word source (codes "or") w) _ _
      (λ e. each_then _ (S.test d (next w) s) (λ b q y h. each_of (sound-tests m d o (disjunction o w a b) q y) (λ t r z i. g.Tests.or_test e h i)))
      (λ e. got (g.Tests.end f e)))

  pub sound-expr : (d : DoBlockOwner) → Sound (Expr source R d) (read_expr source Q d)
  unfolding read_expr
  sound-expr d w s = each_then _ (sound-test d w s) (λ a q y h. each_of (sound-tests (suc (count_of q)) d w a q y) (λ t r z i. g.Expr.tests h i))

  sound-head : (d : DoBlockOwner) → Sound (Head source R d) (read_head source Q d)
  unfolding read_head
  sound-head d w s =
      each_if (begins_targets source w) _ _
      (λ _. each_then _ (sound-targets source w s) (λ ts q y h. each_if (is_mark source (codes "=") q) _ _
      (λ e. each_then _ (sound-several source R Q S d (next q) y) (λ vs r z i. got (g.Head.several h e i)))
      (λ _. at_fault)))
      (λ e. each_of (sound-expr d w s) (λ t r z h. g.Head.plain e h))

  sound-modifiers : (m : ℕ) (d : DoBlockOwner) (o : Toks) (b : Bool) (a : Tree) → Sound (Modifiers source R d o b a) (modifiers_from source Q m d o b a)
  unfolding modifiers_from
  sound-modifiers zero d o b a w s = at_fault
  sound-modifiers (suc m) d o b a w s =
      each_if (is_word source (codes "if") w) _ _
      (λ e. each_then _ (S.expr d (next w) s) (λ c q y h. each_of (sound-modifiers m d o false (at (position o) (if_else c (alone o a) without)) q y) (λ t r z i. g.Modifiers.if_holds e h i)))
      (λ n1. each_if (is_word source (codes "unless") w) _ _
      (λ e. each_then _ (S.expr d (next w) s) (λ c q y h. each_of (sound-modifiers m d o false (at (position o) (if_else c (or_empty without) (with (alone o a)))) q y) (λ t r z i. g.Modifiers.unless_holds e h i)))
      (λ n2. each_if (is_word source (codes "while") w) _ _
      (λ e. each_then _ (S.expr loops (next w) s) (λ c q y h. each_of (sound-modifiers m d o false (at (position o) (while_loop (alone o a) c false b)) q y) (λ t r z i. g.Modifiers.while_holds e h i)))
      (λ n3. each_if (is_word source (codes "until") w) _ _
      (λ e. each_then _ (S.expr loops (next w) s) (λ c q y h. each_of (sound-modifiers m d o false (at (position o) (while_loop (alone o a) c true b)) q y) (λ t r z i. g.Modifiers.until_holds e h i)))
      (λ n4. each_if (is_word source (codes "rescue") w) _ _
      (λ e. each_then _ (S.expr d (next w) (in_clause s)) (λ c q y h. each_of (sound-modifiers m d o false (rescued o w a c) q (behind s y)) (λ t r z i. g.Modifiers.saved e h i)))
      (λ n5. got (g.Modifiers.end (no_modifier source w n1 n2 n3 n4 n5)))))))

  pub sound-stmt : (d : DoBlockOwner) → Sound (Stmt source R d) (read_stmt source Q d)
  unfolding read_stmt
  sound-stmt d w s = each_then _ (sound-head d w s) (λ a q y h. each_of (sound-modifiers (suc (count_of q)) d w (is_word source (codes "begin") w && is_body a) a q y) (λ t r z i. g.Stmt.head h i))

  sound-stmt_list : (m : ℕ) (d : DoBlockOwner) (w : Toks) (s : Scope) → Each (Lines source R d w s) (stmt_list source Q m d w s)
  unfolding stmt_list
  sound-stmt_list zero d w s = at_fault
  sound-stmt_list (suc m) d w s =
      each_if (is_newline w) _ _
      (λ n. each_of (sound-stmt_list m d (next w) s) (λ ts r z h. line n (g.StmtList.line n (listed source R d (next w) r s z ts h))))
      (λ n. each_if (begins_statement source w) _ _
      (λ b. each_then _ (sound-stmt d w s) (λ t q y h. each_if (is_newline q) _ _
      (λ e. each_then _ (sound-stmt_list m d (next q) y) (λ ts r z i. got (some n b (g.StmtList.another h e (listed source R d (next q) r y z ts i)))))
      (λ e. got (some n b (g.StmtList.last h e)))))
      (λ b. got (empty n b)))

  pub sound-stmts : (d : DoBlockOwner) → Sound (Stmts source R d) (read_stmts source Q d)
  unfolding read_stmts
  sound-stmts d w s = each_then _ (sound-stmt_list (suc (count_of w)) d w s) (λ ts r z h. got (node_of source R d w r s z ts h))
