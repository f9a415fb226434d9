-- What derived parts begin with.
use Rattle.std.proofs.Common.{◌≡◌, ℕ, zero, suc, List, codes, Bool, true, ◌||◌, refl, sym, ap, ◌∙◌}
use Rattle.ruby_lexer.specs.Bytes.{Bytes}
use Rattle.ruby_lexer.specs.Pieces.{integer, constant, variable, global, literal, symbol, words, symbols, Toks}
use Rattle.ruby_tree.specs.Tree.{Goal, Tree, Trees, Other, Pairs}
use Rattle.ruby_tree.specs.Rules.{Scope, next, DoBlockOwner, is_kind_label, operand_words, statement_words, word, is_mark, begins_arg}
use Rattle.ruby_tree.specs.Build.{Given}
use Rattle.ruby_tree.specs.Grammar.{Rel, Rels, Targets, Several, Element, Elements, Pair, PairList, Passed, Items, Literal, Primary, Postfix, UnaryOperand, Power, Minus, Chain, Order, Equality, Disjunction, Range, Conditional, Command, Unset, Arg, CommandOrArg, Test, Expr, Head, Stmt, derives}
use Rattle.ruby_tree.specs.Grammar as g
use Rattle.reference_parser.specs.Fronts.{is_label, begins_element, begins_pair, begins_item}
use Rattle.reference_laws.proofs.Promises.{FirstOfArgument, FirstOfStatement, Firsts}
use Rattle.reference_parser.proofs.Tests.{by_test, left_true, right_true, word_among}
use Rattle.reference_laws.proofs.Begins.{Operand, operand_at_kind, operand_at_mark, argument_at_mark, operand_at_word, operand_at_calling, operand_at_name, operand_at_negative, operand_at_goal, begins_goal, local_no_command, no_command_name, opens_no_arguments, mark_no_arguments, sending_no_arguments, begins_name, arg_statement}

module _ (source : Bytes) where
  abbrev pub FirstOfOperand : {A : Type 0} → Rel A → Type 0
  FirstOfOperand {A} R = (w : Toks) (s : Scope) (t : A) (r : Toks) (z : Scope) → R w s t r z → Operand source s w

  module _ (R : Rels) where
    pub first_literal : FirstOfOperand (Literal source R)
    first_literal w s t r z (g.Literal.nil_word h) = operand_at_word source s (codes "nil") w h refl (λ a. refl)
    first_literal w s t r z (g.Literal.true_word h) = operand_at_word source s (codes "true") w h refl (λ a. refl)
    first_literal w s t r z (g.Literal.false_word h) = operand_at_word source s (codes "false") w h refl (λ a. refl)
    first_literal w s t r z (g.Literal.file_word h) = operand_at_word source s (codes "__FILE__") w h refl (λ a. refl)
    first_literal w s t r z (g.Literal.folder_word h) = operand_at_word source s (codes "__dir__") w h refl (λ a. refl)
    first_literal w s t r z (g.Literal.line_word h) = operand_at_word source s (codes "__LINE__") w h refl (λ a. refl)
    first_literal w s t r z (g.Literal.number {n = n} e) = operand_at_kind source s w (integer n) e (λ x. refl) (λ c a x. refl) (λ n x. refl)
    first_literal w s t r z (g.Literal.negative_number h e) = operand_at_negative source s w h
    first_literal w s t r z (g.Literal.plain_text {ps = ps} e p) = operand_at_kind source s w (literal ps) e (λ x. refl) (λ c a x. refl) (λ n x. refl)
    first_literal w s t r z (g.Literal.text_with_code {ps = ps} e p h) = operand_at_kind source s w (literal ps) e (λ x. refl) (λ c a x. refl) (λ n x. refl)
    first_literal w s t r z (g.Literal.symbol_name {f = f} e) = operand_at_kind source s w (symbol f) e (λ x. refl) (λ c a x. refl) (λ n x. refl)
    first_literal w s t r z (g.Literal.word_list {fs = fs} e) = operand_at_kind source s w (words fs) e (λ x. refl) (λ c a x. refl) (λ n x. refl)
    first_literal w s t r z (g.Literal.symbol_list {fs = fs} e) = operand_at_kind source s w (symbols fs) e (λ x. refl) (λ c a x. refl) (λ n x. refl)

    pub first_primary : (d : DoBlockOwner) → FirstOfOperand (Primary source R d)
    first_primary d w s t r z (g.Primary.literal h) = first_literal _ _ _ _ _ h
    first_primary d w s t r z (g.Primary.empty_list h e) = operand_at_mark source s (codes "[") w h refl (λ n. refl)
    first_primary d w s t r z (g.Primary.list h e c b) = operand_at_mark source s (codes "[") w h refl (λ n. refl)
    first_primary d w s t r z (g.Primary.empty_hash h e) = operand_at_mark source s (codes "{") w h refl (λ n. refl)
    first_primary d w s t r z (g.Primary.pairs h e c b) = operand_at_mark source s (codes "{") w h refl (λ n. refl)
    first_primary d w s t r z (g.Primary.brackets h e b) = operand_at_mark source s (codes "(") w h refl (λ n. refl)
    first_primary d w s t r z (g.Primary.self_word h) = operand_at_word source s (codes "self") w h refl (λ a. refl)
    first_primary d w s t r z (g.Primary.local_name e o b l) = operand_at_name source s w e (local_no_command source s (word source w) (next w) l)
    first_primary d w s t r z (g.Primary.bare_name e o b l a) = operand_at_name source s w e (no_command_name source s (word source w) (next w) a)
    first_primary d w s t r z (g.Primary.name_with_block e o c b) = operand_at_name source s w e c
    first_primary d w s t r z (g.Primary.called_name e o i b) = operand_at_name source s w e (no_command_name source s (word source w) (next w) (opens_no_arguments source (next w) o))
    first_primary d w s t r z (g.Primary.instance_name e) = operand_at_kind source s w variable e (λ x. refl) (λ c a x. refl) (λ n x. refl)
    first_primary d w s t r z (g.Primary.global_name e) = operand_at_kind source s w global e (λ x. refl) (λ c a x. refl) (λ n x. refl)
    first_primary d w s t r z (g.Primary.constant e o) = operand_at_kind source s w constant e (λ x. refl) (λ c a x. refl) (λ n x. refl)
    first_primary d w s t r z (g.Primary.called_constant e o i b) = operand_at_kind source s w constant e (λ x. refl) (λ c a x. refl) (λ n x. refl)
    first_primary d w s t r z (g.Primary.top_constant h e) = operand_at_mark source s (codes "::") w h refl (λ n. refl)
    first_primary d w s t r z (g.Primary.bare_yield h o a) = operand_at_calling source s (codes "yield") w h a refl refl
    first_primary d w s t r z (g.Primary.called_yield h o i b) = operand_at_calling source s (codes "yield") w h (opens_no_arguments source (next w) o) refl refl
    first_primary d w s t r z (g.Primary.super_alone h o a b) = operand_at_calling source s (codes "super") w h a refl refl
    first_primary d w s t r z (g.Primary.called_super h o i b) = operand_at_calling source s (codes "super") w h (opens_no_arguments source (next w) o) refl refl
    first_primary d w s t r z (g.Primary.if_form h a b c e f) = operand_at_word source s (codes "if") w h refl (λ a. refl)
    first_primary d w s t r z (g.Primary.unless_form h a b c e f) = operand_at_word source s (codes "unless") w h refl (λ a. refl)
    first_primary d w s t r z (g.Primary.while_form h a b c e) = operand_at_word source s (codes "while") w h refl (λ a. refl)
    first_primary d w s t r z (g.Primary.until_form h a b c e) = operand_at_word source s (codes "until") w h refl (λ a. refl)
    first_primary d w s t r z (g.Primary.begin_form h a b) = operand_at_word source s (codes "begin") w h refl (λ a. refl)
    first_primary d w s t r z (g.Primary.case_form h a b c e f) = operand_at_word source s (codes "case") w h refl (λ a. refl)
    first_primary d w s t r z (g.Primary.case_of_tests h a b c e) = operand_at_word source s (codes "case") w h refl (λ a. refl)
    first_primary d w s t r z (g.Primary.method_form h a b c e f) = operand_at_word source s (codes "def") w h refl (λ a. refl)
    first_primary d w s t r z (g.Primary.class_form h a b c e f) = operand_at_word source s (codes "class") w h refl (λ a. refl)
    first_primary d w s t r z (g.Primary.module_form h a b c e) = operand_at_word source s (codes "module") w h refl (λ a. refl)
    first_primary d w s t r z (g.Primary.retry_word h) = operand_at_word source s (codes "retry") w h refl (λ a. refl)

    pub first_postfix : (d : DoBlockOwner) → FirstOfOperand (Postfix source R d)
    first_postfix d w s t r z (g.Postfix.postfix h p) = first_primary d _ _ _ _ _ h

    pub first_tight : (d : DoBlockOwner) → FirstOfArgument source (UnaryOperand source R d)
    first_tight d w s t r z (g.UnaryOperand.inverted h a) = argument_at_mark source s (codes "!") w h refl
    first_tight d w s t r z (g.UnaryOperand.complement h a) = argument_at_mark source s (codes "~") w h refl
    first_tight d w s t r z (g.UnaryOperand.positive h a) = argument_at_mark source s (codes "+") w h refl
    first_tight d w s t r z (g.UnaryOperand.plain h n) = (first_postfix d _ _ _ _ _ h).argument

    pub first_power : (d : DoBlockOwner) → FirstOfArgument source (Power source R d)
    first_power d w s t r z (g.Power.raised h e b) = first_tight d _ _ _ _ _ h
    first_power d w s t r z (g.Power.plain h e) = first_tight d _ _ _ _ _ h

    pub first_minus : (d : DoBlockOwner) → FirstOfArgument source (Minus source R d)
    first_minus d w s t r z (g.Minus.minus h n a) = argument_at_mark source s (codes "-") w h refl
    first_minus d w s t r z (g.Minus.plain h) = first_power d _ _ _ _ _ h

    pub first_chain : (passes : Toks → Bool) (make : Toks → Toks → Tree → Tree → Tree) (O : Rel Tree) → FirstOfArgument source O → FirstOfArgument source (Chain source R passes make O)
    first_chain passes make O F w s t r z (g.Chain.chain h e) = F _ _ _ _ _ h

    pub first_order : (d : DoBlockOwner) → FirstOfArgument source (Order source R d)
    first_order d = first_chain _ _ _ (first_chain _ _ _ (first_chain _ _ _ (first_chain _ _ _ (first_chain _ _ _ (first_chain _ _ _ (first_minus d))))))

    pub first_equality : (d : DoBlockOwner) → FirstOfArgument source (Equality source R d)
    first_equality d w s t r z (g.Equality.compared h e b) = first_order d _ _ _ _ _ h
    first_equality d w s t r z (g.Equality.unequal h e b) = first_order d _ _ _ _ _ h
    first_equality d w s t r z (g.Equality.plain h e) = first_order d _ _ _ _ _ h

    pub first_disjunction : (d : DoBlockOwner) → FirstOfArgument source (Disjunction source R d)
    first_disjunction d = first_chain _ _ _ (first_chain _ _ _ (first_equality d))

    pub first_range : (d : DoBlockOwner) → FirstOfArgument source (Range source R d)
    first_range d w s t r z (g.Range.whole h e b) = first_disjunction d _ _ _ _ _ h
    first_range d w s t r z (g.Range.without_last h e b) = first_disjunction d _ _ _ _ _ h
    first_range d w s t r z (g.Range.plain h a b) = first_disjunction d _ _ _ _ _ h

    pub first_conditional : (d : DoBlockOwner) → FirstOfArgument source (Conditional source R d)
    first_conditional d w s t r z (g.Conditional.chosen h e a m b) = first_range d _ _ _ _ _ h
    first_conditional d w s t r z (g.Conditional.plain h e) = first_range d _ _ _ _ _ h

    pub first_unset : (d : DoBlockOwner) → FirstOfArgument source (Unset source R d)
    first_unset d w s t r z (g.Unset.attribute h a b c v) = (first_postfix d _ _ _ _ _ h).argument
    first_unset d w s t r z (g.Unset.operated_attribute h a b c v) = (first_postfix d _ _ _ _ _ h).argument
    first_unset d w s t r z (g.Unset.either_attribute h a b c v) = (first_postfix d _ _ _ _ _ h).argument
    first_unset d w s t r z (g.Unset.both_attribute h a b c v) = (first_postfix d _ _ _ _ _ h).argument
    first_unset d w s t r z (g.Unset.element h a b i c e v) = (first_postfix d _ _ _ _ _ h).argument
    first_unset d w s t r z (g.Unset.operated_element h a b i c e v) = (first_postfix d _ _ _ _ _ h).argument
    first_unset d w s t r z (g.Unset.either_element h a b i c e v) = (first_postfix d _ _ _ _ _ h).argument
    first_unset d w s t r z (g.Unset.both_element h a b i c e v) = (first_postfix d _ _ _ _ _ h).argument
    first_unset d w s t r z (g.Unset.plain h a) = first_conditional d _ _ _ _ _ h

    pub first_arg : (d : DoBlockOwner) → FirstOfArgument source (Arg source R d)
    first_arg d w s t r z (g.Arg.variable {g = v} e h a) = (operand_at_goal source s w v e (mark_no_arguments source (codes "=") (next w) h refl)).argument
    first_arg d w s t r z (g.Arg.operated_variable {g = v} e h a) = (operand_at_goal source s w v e (sending_no_arguments source (next w) h)).argument
    first_arg d w s t r z (g.Arg.either_variable {g = v} e h a) = (operand_at_goal source s w v e (mark_no_arguments source (codes "||=") (next w) h refl)).argument
    first_arg d w s t r z (g.Arg.both_variable {g = v} e h a) = (operand_at_goal source s w v e (mark_no_arguments source (codes "&&=") (next w) h refl)).argument
    first_arg d w s t r z (g.Arg.constant e h a) = (operand_at_kind source s w constant e (λ x. refl) (λ c a x. refl) (λ n x. refl)).argument
    first_arg d w s t r z (g.Arg.other n h) = first_unset d _ _ _ _ _ h

    pub first_command : (d : DoBlockOwner) → FirstOfStatement source (Command source R d)
    first_command d w s t r z (g.Command.named e c i b) = arg_statement source w (begins_name source w e)
    first_command d w s t r z (g.Command.called n h k m a i b) = arg_statement source w (first_postfix d _ _ _ _ _ h).argument.begins
    first_command d w s t r z (g.Command.yielded h a i b) = arg_statement source w (right_true _ _ (word_among source (codes "yield") operand_words w h refl))
    first_command d w s t r z (g.Command.super_with h a i b) = arg_statement source w (right_true _ _ (word_among source (codes "super") operand_words w h refl))
    first_command d w s t r z (g.Command.returned h v) = right_true _ _ (word_among source (codes "return") statement_words w h refl)
    first_command d w s t r z (g.Command.broken h v) = right_true _ _ (word_among source (codes "break") statement_words w h refl)
    first_command d w s t r z (g.Command.nexted h v) = right_true _ _ (word_among source (codes "next") statement_words w h refl)

    pub first_whole : (d : DoBlockOwner) → FirstOfStatement source (CommandOrArg source R d)
    first_whole d w s t r z (g.CommandOrArg.command h) = first_command d _ _ _ _ _ h
    first_whole d w s t r z (g.CommandOrArg.arg h) = arg_statement source w (first_arg d _ _ _ _ _ h).begins

    pub first_test : (d : DoBlockOwner) → FirstOfStatement source (Test source R d)
    first_test d w s t r z (g.Test.inverted h a) = right_true _ _ (word_among source (codes "not") statement_words w h refl)
    first_test d w s t r z (g.Test.plain h) = first_whole d _ _ _ _ _ h

    pub first_expr : (d : DoBlockOwner) → FirstOfStatement source (Expr source R d)
    first_expr d w s t r z (g.Expr.tests h a) = first_test d _ _ _ _ _ h

    pub first_targets : (w : Toks) (s : Scope) (gs : List Goal) (r : Toks) (z : Scope) → Targets source w s gs r z → begins_arg source w ≡ true
    first_targets w s gs r z (g.Targets.several {g = v} e h m) = begins_goal source w v e

    pub first_head : (d : DoBlockOwner) → FirstOfStatement source (Head source R d)
    first_head d w s t r z (g.Head.several h e v) = arg_statement source w (first_targets _ _ _ _ _ h)
    first_head d w s t r z (g.Head.plain n h) = first_expr d _ _ _ _ _ h

    pub first_stmt : (d : DoBlockOwner) → FirstOfStatement source (Stmt source R d)
    first_stmt d w s t r z (g.Stmt.head h m) = first_head d _ _ _ _ _ h

  module _ (R : Rels) (F : Firsts source R) where
    pub first_several : (d : DoBlockOwner) (w : Toks) (s : Scope) (ts : Trees) (r : Toks) (z : Scope) → Several source R d w s ts r z → begins_arg source w ≡ true
    first_several d w s ts r z (g.Several.last h n) = (F.arg d _ _ _ _ _ h).begins
    first_several d w s ts r z (g.Several.another h m a) = (F.arg d _ _ _ _ _ h).begins

    pub first_element : (d : DoBlockOwner) (b : Bool) (w : Toks) (s : Scope) (t : Tree) (r : Toks) (z : Scope) → Element source R d b w s t r z → begins_element source w ≡ true
    first_element d b w s t r z (g.Element.plain h) = left_true _ _ (F.arg d _ _ _ _ _ h).begins
    first_element d b w s t r z (g.Element.spread m h) = right_true _ _ m

    pub first_elements : (d : DoBlockOwner) (k : ℕ) (w : Toks) (s : Scope) (ts : Trees) (ks : List ℕ) (r : Toks) (z : Scope) → Elements source R d k w s ts ks r z → begins_element source w ≡ true
    first_elements d k w s ts ks r z (g.Elements.last h) = first_element d _ _ _ _ _ _ h
    first_elements d k w s ts ks r z (g.Elements.another h m a) = first_element d _ _ _ _ _ _ h

    pub first_pair : (d : DoBlockOwner) (w : Toks) (s : Scope) (t u : Tree) (r : Toks) (z : Scope) → Pair source R d w s t u r z → begins_pair source w ≡ true
    first_pair d w s t u r z (g.Pair.label e p h) = right_true (begins_arg source w) _ (ap is_kind_label e)
    first_pair d w s t u r z (g.Pair.arrow h m a) = left_true _ _ (F.arg d _ _ _ _ _ h).begins

    pub first_pair_list : (d : DoBlockOwner) (w : Toks) (s : Scope) (ps : Pairs) (r : Toks) (z : Scope) → PairList source R d w s ps r z → begins_pair source w ≡ true
    first_pair_list d w s ps r z (g.PairList.last h) = first_pair d _ _ _ _ _ _ h
    first_pair_list d w s ps r z (g.PairList.another h m a) = first_pair d _ _ _ _ _ _ h

    pub first_passed : (d : DoBlockOwner) (w : Toks) (s : Scope) (v b : Other) (r : Toks) (z : Scope) → Passed source R d w s v b r z → is_mark source (codes "&") w ≡ true
    first_passed d w s v b r z (g.Passed.value m h e) = m
    first_passed d w s v b r z (g.Passed.named m h e) = m

    pair_item : (w : Toks) → begins_pair source w ≡ true → begins_item source w ≡ true
    pair_item w h = by_test (begins_arg source w) (λ a. left_true _ _ (left_true _ _ (left_true _ _ a))) (λ a. left_true _ _ (right_true _ _ (ap (λ b. b || is_label w) (sym a) ∙ h)))

    pub first_items : (d : DoBlockOwner) (k : ℕ) (w : Toks) (s : Scope) (i : Given) (r : Toks) (z : Scope) → Items source R d k w s i r z → begins_item source w ≡ true
    first_items d k w s i r z (g.Items.element h n) = left_true _ _ (left_true _ _ (first_element d _ _ _ _ _ _ h))
    first_items d k w s i r z (g.Items.another h m a) = left_true _ _ (left_true _ _ (first_element d _ _ _ _ _ _ h))
    first_items d k w s i r z (g.Items.pairs h) = pair_item w (first_pair_list d _ _ _ _ _ h)
    first_items d k w s i r z (g.Items.pairs_and_passed h m p) = pair_item w (first_pair_list d _ _ _ _ _ h)
    first_items d k w s i r z (g.Items.passed h) = right_true _ _ (first_passed d _ _ _ _ _ _ h)

pub firsts : (source : Bytes) (n : ℕ) → Firsts source (derives source n)
unfolding derives
firsts source zero = record {
  expr = λ d w s t r z h. absurd h;
  test = λ d w s t r z h. absurd h;
  assigned_value = λ d w s t r z h. absurd h;
  arg = λ d w s t r z h. absurd h;
  minus = λ d w s t r z h. absurd h;
  power = λ d w s t r z h. absurd h;
  unary_operand = λ d w s t r z h. absurd h;
}
firsts source (suc n) = record {
  expr = first_expr source (derives source n);
  test = first_test source (derives source n);
  assigned_value = first_whole source (derives source n);
  arg = first_arg source (derives source n);
  minus = first_minus source (derives source n);
  power = first_power source (derives source n);
  unary_operand = first_tight source (derives source n);
}
