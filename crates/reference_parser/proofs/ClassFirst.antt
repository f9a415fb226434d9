-- A statement that begins with `class` begins with a header: where the header is not taken, neither is the statement, for the same reason.
use Rattle.std.proofs.Common.{◌≡◌, refl, sym, ap, ◌∙◌, subst, Bool, true, false, codes, if◌then◌else◌}
use Rattle.std.proofs.lemmas.Bool.{true≢false}
use Rattle.ruby_lexer.specs.Bytes.{Bytes}
use Rattle.ruby_lexer.specs.Pieces.{Toks}
use Rattle.ruby_tree.specs.Rules.{Scope, own, next, is_kind_name, is_kind_constant, word, is_mark, is_word, is_goal, goal_by, goal_at, sets}
use Rattle.reference_parser.specs.Answers.{Answer, taken, fault, deep, Parse, ◌>>=◌}
use Rattle.reference_parser.specs.Fronts.{is_newline, is_constant, calling_words, leaving_words, begins_command, begins_operator}
use Rattle.reference_parser.specs.ReadItems.{Readers}
use Rattle.reference_parser.specs.ReadBodies.{read_superclass}
use Rattle.reference_parser.specs.ReadOperands.{read_class, read_word, read_form, block_form_at, primary_by, read_primary, read_postfix}
use Rattle.reference_parser.specs.ReadStatements.{read_unset, read_settable, read_assigned_value, read_test, read_expr, read_head, read_stmt}
use Rattle.reference_parser.specs.Stops.{class_header}
use Rattle.reference_parser.proofs.Tests.{neither_one, left_false, word_kind, word_text, word_no_mark, other_word, word_not_among}

-- where a is not taken, neither is b, for the same reason
pub data Precedes {A B : Type 0} : Answer A → Answer B → Type 0 where
  goes : {a : A} {r : Toks} {z : Scope} {b : Answer B} → Precedes (taken a r z) b
  faults : Precedes fault fault
  deeps : Precedes deep deep

module _ {A B C : Type 0} where
  precedes_then : (o : Answer C) (f : C → Parse A) (g : C → Parse B) → ((c : C) (q : Toks) (y : Scope) → Precedes (f c q y) (g c q y)) → Precedes (o >>= f) (o >>= g)
  unfolding ◌>>=◌
  precedes_then (taken c q y) f g h = h c q y
  precedes_then fault f g h = faults
  precedes_then deep f g h = deeps

  precedes_more : {a : Answer A} {b : Answer B} (f : B → Parse C) → Precedes a b → Precedes a (b >>= f)
  unfolding ◌>>=◌
  precedes_more f goes = goes
  precedes_more f faults = faults
  precedes_more f deeps = deeps

module _ {A B : Type 0} where
  precedes_if : (c : Bool) (a : Answer A) (b : Answer B) → Precedes a b → Precedes (if c then a else fault) (if c then b else fault)
  precedes_if true a b h = h
  precedes_if false a b h = faults

  pub at_fault : {a : Answer A} {b : Answer B} → Precedes a b → a ≡ fault → b ≡ fault
  at_fault goes e = absurd cc
  at_fault faults e = refl
  at_fault deeps e = absurd cc

  pub at_deep : {a : Answer A} {b : Answer B} → Precedes a b → a ≡ deep → b ≡ deep
  at_deep goes e = absurd cc
  at_deep faults e = absurd cc
  at_deep deeps e = refl

-- behind a test that does not pass, and behind another name
precedes_no : {A B : Type 0} {a : Answer A} {b : Answer B} (c : Bool) (x : Answer B) → c ≡ false → Precedes a b → Precedes a (if c then x else b)
precedes_no true x e h = absurd (true≢false e)
precedes_no false x e h = h

precedes_named : {A B : Type 0} {a : Answer A} {b d : Answer B} → d ≡ b → Precedes a b → Precedes a d
precedes_named {a = a} e h = subst (λ x. Precedes a x) (sym e) h

module _ (source : Bytes) (Q : Readers) (w : Toks) (s : Scope) where
  header_first : Precedes (class_header source Q w s) (read_class source Q own w s)
  unfolding class_header read_class
  header_first =
      precedes_if (is_constant (next w)) _ _ (precedes_then (read_superclass source Q own (next (next w)) s) _ _ (λ c q y.
      precedes_if (is_newline q) _ _ goes))

  module _ (e : is_word source (codes "class") w ≡ true) where
    word_read : read_word source Q own w s ≡ read_class source Q own w s
    unfolding read_word read_form block_form_at
    word_read = rw (word_kind source (codes "class") w e, word_text source (codes "class") w e)

    class_read : read_primary source Q own w s ≡ read_class source Q own w s
    unfolding read_primary primary_by
    class_read = ap (primary_by source Q own w s) (word_kind source (codes "class") w e) ∙ word_read

    no_mark : (f : Bytes) → is_mark source f w ≡ false
    no_mark f = word_no_mark source (codes "class") f w e

    no_goal : is_goal (goal_at source w) ≡ false
    no_goal = ap (λ k. is_goal (goal_by source k (word source w))) (word_kind source (codes "class") w e)

    no_operator : begins_operator source w ≡ false
    no_operator = neither_one _ _ (neither_one _ _ (neither_one _ _ (no_mark (codes "!")) (no_mark (codes "~"))) (no_mark (codes "+"))) (left_false _ _ (no_mark (codes "-")))

    no_command : begins_command source s w ≡ false
    no_command =
        neither_one _ _
        (neither_one _ _ (left_false _ _ (ap is_kind_name (word_kind source (codes "class") w e))) (left_false _ _ (word_not_among source (codes "class") (calling_words source) w e refl)))
        (word_not_among source (codes "class") (leaving_words source) w e refl)

    sets_nothing : sets source w ≡ false
    sets_nothing = neither_one _ _ (left_false _ _ no_goal) (left_false _ _ (ap is_kind_constant (word_kind source (codes "class") w e)))

    -- an operand that is no command, and of which the first token is no operator
    from_operand : {A : Type 0} {a : Answer A} → Precedes a (read_primary source Q own w s) → Precedes a (read_assigned_value source Q own w s)
    unfolding read_assigned_value read_settable read_unset read_postfix
    from_operand h = precedes_no _ _ no_command (precedes_no _ _ sets_nothing (precedes_no _ _ no_operator (precedes_more _ (precedes_more _ h))))

    from_whole : {A : Type 0} {a : Answer A} → Precedes a (read_assigned_value source Q own w s) → Precedes a (read_stmt source Q own w s)
    unfolding read_stmt read_head read_expr read_test
    from_whole h = precedes_more _ (precedes_no _ _ (left_false _ _ no_goal) (precedes_more _ (precedes_no _ _ (other_word source (codes "class") (codes "not") w e refl) h)))

    pub class_first : Precedes (class_header source Q w s) (read_stmt source Q own w s)
    class_first = from_whole (from_operand (precedes_named class_read header_first))
