-- With which token an argument, an operand and a statement begin, and with which they do not.
use Rattle.std.proofs.Common.{◌≡◌, codes, Bool, true, false, not, ◌&&◌, ◌||◌, Option, Some, refl, sym, ap, ◌∙◌}
use Rattle.std.proofs.lemmas.Bool.{true≢false}
use Rattle.ruby_lexer.specs.Bytes.{Bytes, same, is_in}
use Rattle.ruby_lexer.specs.Pieces.{Kind, name, variable, global, keyword, mark, Toks}
use Rattle.ruby_tree.specs.Tree.{Goal}
use Rattle.ruby_tree.specs.Rules.{Scope, next, front, is_kind_mark, is_kind_keyword, is_kind_name, is_kind_operand, is_kind_label, operand_marks, operand_words, statement_words, starting_marks, starting_words, tight_marks, sending_assignments, is_local, word, mark_in, is_mark, is_word, begins_argument, begins_arguments, begins_arg, begins_statement, is_command, opens, is_negative, goal_at}
use Rattle.reference_parser.specs.Fronts.{is_label, is_newline, calling_words, leaving_words, begins_operator, begins_element, begins_pair, begins_item}
use Rattle.reference_laws.proofs.Promises.{Argument}
use Rattle.reference_parser.proofs.Tests.{both_true, left_false, right_false, neither, neither_one, left_true, not_true, by_test, kind_newline, kind_label, IsGoal, a_name, a_variable, a_global, kind_goal, mark_kind, at_mark, at_word, apart_marks, marks_kind, mark_not_among}

-- what the kind and the text of the first token decide
abbrev pub arg_test : Option Kind → Bytes → Bool
arg_test k x = (is_kind_operand k && not (is_kind_label k)) || (is_kind_mark k && is_in x operand_marks) || (is_kind_keyword k && is_in x operand_words)

-- c says that the name is a command, a that arguments begin behind the token
abbrev pub command_test : Bytes → Bool → Bool → Option Kind → Bytes → Bool
command_test source c a k x = (is_kind_name k && c) || ((is_kind_keyword k && is_in x (calling_words source)) && a) || (is_kind_keyword k && is_in x (leaving_words source))

-- n says that `-` begins no integer
abbrev pub operator_test : Bool → Option Kind → Bytes → Bool
operator_test n k x = (is_kind_mark k && same (codes "!") x) || (is_kind_mark k && same (codes "~") x) || (is_kind_mark k && same (codes "+") x) || ((is_kind_mark k && same (codes "-") x) && n)

or_none : (b : Bool) → b ≡ false → (b || false) ≡ false
or_none true h = h
or_none false h = refl

module _ (source : Bytes) where
  -- an argument that begins with no operator
  pub record Operand (s : Scope) (w : Toks) : Type 0 where
    pub argument : Argument source s w
    pub plain : begins_operator source w ≡ false

  -- what begins as an argument is none of these
  pub arg_not_mark : (f : Bytes) (w : Toks) → begins_arg source w ≡ true → is_in f operand_marks ≡ false → is_mark source f w ≡ false
  arg_not_mark f w h e = by_test (is_mark source f w) (λ t. absurd (true≢false (sym h ∙ at_mark source arg_test f w t ∙ or_none _ e))) (λ t. t)

  pub arg_not_word : (f : Bytes) (w : Toks) → begins_arg source w ≡ true → is_in f operand_words ≡ false → is_word source f w ≡ false
  arg_not_word f w h e = by_test (is_word source f w) (λ t. absurd (true≢false (sym h ∙ at_word source arg_test f w t ∙ e))) (λ t. t)

  pub arg_not_newline : (w : Toks) → begins_arg source w ≡ true → is_newline w ≡ false
  arg_not_newline w h = by_test (is_newline w) (λ t. absurd (true≢false (sym h ∙ ap (λ o. arg_test o (word source w)) (kind_newline _ t)))) (λ t. t)

  pub arg_not_label : (w : Toks) → begins_arg source w ≡ true → is_label w ≡ false
  arg_not_label w h = by_test (is_label w) (λ t. absurd (true≢false (sym h ∙ ap (λ o. arg_test o (word source w)) (kind_label _ t).1))) (λ t. t)

  -- marks and words that begin no argument
  pub mark_no_arg : (f : Bytes) (w : Toks) → is_mark source f w ≡ true → is_in f operand_marks ≡ false → begins_arg source w ≡ false
  mark_no_arg f w h e = at_mark source arg_test f w h ∙ or_none _ e

  pub word_no_arg : (f : Bytes) (w : Toks) → is_word source f w ≡ true → is_in f operand_words ≡ false → begins_arg source w ≡ false
  word_no_arg f w h e = at_word source arg_test f w h ∙ e

  -- nor an item, an element or a pair
  pub mark_no_item : (f : Bytes) (w : Toks) → is_mark source f w ≡ true → is_in f operand_marks ≡ false → same (codes "*") f ≡ false → same (codes "&") f ≡ false → begins_item source w ≡ false
  mark_no_item f w h e a b =
      neither_one _ _ (neither_one _ _ (neither_one _ _ (mark_no_arg f w h e) (at_mark source (λ k x. is_kind_mark k && same (codes "*") x) f w h ∙ a)) (ap is_kind_label (mark_kind source f w h)))
      (at_mark source (λ k x. is_kind_mark k && same (codes "&") x) f w h ∙ b)

  pub mark_no_element : (f : Bytes) (w : Toks) → is_mark source f w ≡ true → is_in f operand_marks ≡ false → same (codes "*") f ≡ false → begins_element source w ≡ false
  mark_no_element f w h e a = neither_one _ _ (mark_no_arg f w h e) (at_mark source (λ k x. is_kind_mark k && same (codes "*") x) f w h ∙ a)

  pub mark_no_pair : (f : Bytes) (w : Toks) → is_mark source f w ≡ true → is_in f operand_marks ≡ false → begins_pair source w ≡ false
  mark_no_pair f w h e = neither_one _ _ (mark_no_arg f w h e) (ap is_kind_label (mark_kind source f w h))

  -- what begins as one of these is none of those marks
  pub element_not_mark : (f : Bytes) (w : Toks) → begins_element source w ≡ true → is_in f operand_marks ≡ false → same (codes "*") f ≡ false → is_mark source f w ≡ false
  element_not_mark f w b e a = by_test (is_mark source f w) (λ h. absurd (true≢false (sym b ∙ mark_no_element f w h e a))) (λ h. h)

  pub pair_not_mark : (f : Bytes) (w : Toks) → begins_pair source w ≡ true → is_in f operand_marks ≡ false → is_mark source f w ≡ false
  pair_not_mark f w b e = by_test (is_mark source f w) (λ h. absurd (true≢false (sym b ∙ mark_no_pair f w h e))) (λ h. h)

  pub item_not_mark : (f : Bytes) (w : Toks) → begins_item source w ≡ true → is_in f operand_marks ≡ false → same (codes "*") f ≡ false → same (codes "&") f ≡ false → is_mark source f w ≡ false
  item_not_mark f w b e a c = by_test (is_mark source f w) (λ h. absurd (true≢false (sym b ∙ mark_no_item f w h e a c))) (λ h. h)

  -- what begins as a statement is none of these
  abbrev pub statement_test : Option Kind → Bytes → Bool
  statement_test k x = arg_test k x || (is_kind_keyword k && is_in x statement_words)

  pub statement_not_mark : (f : Bytes) (w : Toks) → begins_statement source w ≡ true → is_in f operand_marks ≡ false → is_mark source f w ≡ false
  statement_not_mark f w h e = by_test (is_mark source f w) (λ t. absurd (true≢false (sym h ∙ at_mark source statement_test f w t ∙ or_none _ (or_none _ e)))) (λ t. t)

  pub statement_not_word : (f : Bytes) (w : Toks) → begins_statement source w ≡ true → (is_in f operand_words || is_in f statement_words) ≡ false → is_word source f w ≡ false
  statement_not_word f w h e = by_test (is_word source f w) (λ t. absurd (true≢false (sym h ∙ at_word source statement_test f w t ∙ e))) (λ t. t)

  pub statement_not_newline : (w : Toks) → begins_statement source w ≡ true → is_newline w ≡ false
  statement_not_newline w h = by_test (is_newline w) (λ t. absurd (true≢false (sym h ∙ ap (λ o. statement_test o (word source w)) (kind_newline _ t)))) (λ t. t)

  pub arg_statement : (w : Toks) → begins_arg source w ≡ true → begins_statement source w ≡ true
  arg_statement w h = left_true _ _ h

  -- brackets with no blank before them, and what assigns, begin no arguments of a command
  pub opens_no_arguments : (w : Toks) → opens source w ≡ true → begins_arguments source w ≡ false
  opens_no_arguments w h = ap (λ b. b && begins_argument source w) (not_true _ (both_true _ _ h).1)

  -- nor do marks that are none of those which begin one
  no_arguments : (w : Toks) → front w ≡ Some mark → mark_in source starting_marks w ≡ false → mark_in source tight_marks w ≡ false → begins_arguments source w ≡ false
  no_arguments w h a b =
      right_false _ _ (neither_one _ _ (neither_one _ _ (neither_one _ _ (ap is_kind_operand h) a) (ap (λ k. is_kind_keyword k && is_in (word source w) starting_words) h)) (left_false _ _ b))

  pub mark_no_arguments : (f : Bytes) (w : Toks) → is_mark source f w ≡ true → (is_in f starting_marks || is_in f tight_marks) ≡ false → begins_arguments source w ≡ false
  mark_no_arguments f w h e = no_arguments w (mark_kind source f w h) (mark_not_among source f starting_marks w h (neither _ _ e).0) (mark_not_among source f tight_marks w h (neither _ _ e).1)

  pub sending_no_arguments : (w : Toks) → mark_in source sending_assignments w ≡ true → begins_arguments source w ≡ false
  sending_no_arguments w h = no_arguments w (marks_kind source sending_assignments w h) (apart_marks source sending_assignments starting_marks w h refl) (apart_marks source sending_assignments tight_marks w h refl)

  pub no_command_name : (s : Scope) (x : Bytes) (w : Toks) → begins_arguments source w ≡ false → is_command source s x w ≡ false
  no_command_name s x w h = right_false _ _ h

  pub local_no_command : (s : Scope) (x : Bytes) (w : Toks) → is_local s x ≡ true → is_command source s x w ≡ false
  local_no_command s x w h = left_false _ _ (ap not h)

  -- An operand begins with a token of this kind, with this mark, with this word, with a word that calls, or with a name.
  pub operand_at_kind : (s : Scope) (w : Toks) (k : Kind) → front w ≡ Some k → ((x : Bytes) → arg_test (Some k) x ≡ true) → ((c a : Bool) (x : Bytes) → command_test source c a (Some k) x ≡ false) → ((n : Bool) (x : Bytes) → operator_test n (Some k) x ≡ false) → Operand s w
  operand_at_kind s w k e arg call operator = record {
    argument = record {
      begins = ap (λ o. arg_test o (word source w)) e ∙ arg (word source w);
      alone = ap (λ o. command_test source (is_command source s (word source w) (next w)) (begins_arguments source (next w)) o (word source w)) e ∙ call _ (begins_arguments source (next w)) (word source w);
    };
    plain = ap (λ o. operator_test (not (is_negative source w)) o (word source w)) e ∙ operator (not (is_negative source w)) (word source w);
  }

  pub argument_at_mark : (s : Scope) (f : Bytes) (w : Toks) → is_mark source f w ≡ true → arg_test (Some mark) f ≡ true → Argument source s w
  argument_at_mark s f w h arg = record {
    begins = at_mark source arg_test f w h ∙ arg;
    alone = at_mark source (command_test source (is_command source s (word source w) (next w)) (begins_arguments source (next w))) f w h;
  }

  pub operand_at_mark : (s : Scope) (f : Bytes) (w : Toks) → is_mark source f w ≡ true → arg_test (Some mark) f ≡ true → ((n : Bool) → operator_test n (Some mark) f ≡ false) → Operand s w
  operand_at_mark s f w h arg operator = record {
    argument = argument_at_mark s f w h arg;
    plain = at_mark source (operator_test (not (is_negative source w))) f w h ∙ operator _;
  }

  pub operand_at_word : (s : Scope) (f : Bytes) (w : Toks) → is_word source f w ≡ true → arg_test (Some keyword) f ≡ true → ((a : Bool) → command_test source false a (Some keyword) f ≡ false) → Operand s w
  operand_at_word s f w h arg call = record {
    argument = record {
      begins = at_word source arg_test f w h ∙ arg;
      alone = at_word source (command_test source (is_command source s (word source w) (next w)) (begins_arguments source (next w))) f w h ∙ call _;
    };
    plain = at_word source (operator_test (not (is_negative source w))) f w h;
  }

  pub operand_at_calling : (s : Scope) (f : Bytes) (w : Toks) → is_word source f w ≡ true → begins_arguments source (next w) ≡ false → arg_test (Some keyword) f ≡ true → command_test source false false (Some keyword) f ≡ false → Operand s w
  operand_at_calling s f w h e arg call = record {
    argument = record {
      begins = at_word source arg_test f w h ∙ arg;
      alone = at_word source (command_test source (is_command source s (word source w) (next w)) (begins_arguments source (next w))) f w h ∙ ap (λ a. command_test source false a (Some keyword) f) e ∙ call;
    };
    plain = at_word source (operator_test (not (is_negative source w))) f w h;
  }

  pub operand_at_name : (s : Scope) (w : Toks) → front w ≡ Some name → is_command source s (word source w) (next w) ≡ false → Operand s w
  operand_at_name s w e c = record {
    argument = record {
      begins = ap (λ o. arg_test o (word source w)) e;
      alone = ap (λ o. command_test source (is_command source s (word source w) (next w)) (begins_arguments source (next w)) o (word source w)) e ∙ or_none _ (or_none _ c);
    };
    plain = ap (λ o. operator_test (not (is_negative source w)) o (word source w)) e;
  }

  pub operand_at_negative : (s : Scope) (w : Toks) → is_negative source w ≡ true → Operand s w
  operand_at_negative s w h =
      let m = (both_true _ _ (both_true _ _ (both_true _ _ h).0).0).0 in
      record {
        argument = argument_at_mark s (codes "-") w m refl;
        plain = at_mark source (operator_test (not (is_negative source w))) (codes "-") w m ∙ ap not h;
      }

  operand_at : (s : Scope) (w : Toks) (o : Option Kind) → front w ≡ o → IsGoal o → is_command source s (word source w) (next w) ≡ false → Operand s w
  operand_at s w o e a_name c = operand_at_name s w e c
  operand_at s w o e a_variable c = operand_at_kind s w variable e (λ x. refl) (λ c a x. refl) (λ n x. refl)
  operand_at s w o e a_global c = operand_at_kind s w global e (λ x. refl) (λ c a x. refl) (λ n x. refl)

  -- a variable, behind which no arguments begin
  pub operand_at_goal : (s : Scope) (w : Toks) (g : Goal) → goal_at source w ≡ Some g → begins_arguments source (next w) ≡ false → Operand s w
  operand_at_goal s w g e h = operand_at s w (front w) refl (kind_goal source (front w) (word source w) g e) (no_command_name s (word source w) (next w) h)

  begins_at : (w : Toks) (o : Option Kind) → front w ≡ o → IsGoal o → begins_arg source w ≡ true
  begins_at w o e a_name = ap (λ o. arg_test o (word source w)) e
  begins_at w o e a_variable = ap (λ o. arg_test o (word source w)) e
  begins_at w o e a_global = ap (λ o. arg_test o (word source w)) e

  pub begins_goal : (w : Toks) (g : Goal) → goal_at source w ≡ Some g → begins_arg source w ≡ true
  begins_goal w g e = begins_at w (front w) refl (kind_goal source (front w) (word source w) g e)

  pub begins_name : (w : Toks) → front w ≡ Some name → begins_arg source w ≡ true
  begins_name w e = begins_at w (Some name) e a_name
