-- The reader takes what is derived: the forms that `end` closes, and all operands.
use Rattle.std.proofs.Common.{◌≡◌, suc, Bool, true, false, ◌||◌, codes, Some, refl, ap, ◌∙◌, arith}
use Rattle.ruby_lexer.specs.Bytes.{Bytes}
use Rattle.ruby_lexer.specs.Pieces.{Toks}
use Rattle.ruby_lexer.specs.Pieces as token
use Rattle.ruby_tree.specs.Tree.{Tree, at, Whens, Other, Form, Params, while_loop, case_of, case_tests, method, class, module_named, body, no_param}
use Rattle.ruby_tree.specs.Rules.{Scope, DoBlockOwner, own, loops, within, fresh, position, next, front, is_kind_constant, word, is_word}
use Rattle.ruby_tree.specs.Grammar.{Rels, Then, LoopStart, Newlines, OnSelf, MethodName, Parameters, Superclass, Body, WhenList, Else, Primary}
use Rattle.ruby_tree.specs.Grammar as g
use Rattle.ruby_tree.specs.FaultLine.{count_of}
use Rattle.reference_parser.specs.Answers.{taken, ◌>>=◌, ◌>>>◌}
use Rattle.reference_parser.specs.Fronts.{is_newline}
use Rattle.reference_parser.specs.ReadItems.{Readers}
use Rattle.reference_parser.specs.ReadBodies.{ended}
use Rattle.reference_parser.specs.ReadOperands.{choice, read_name, read_constant, read_yield, read_choice, read_loop, read_begin, read_whens, read_case, read_method, read_class, read_module, read_form, read_word, read_list, read_hash, read_group, read_mark, primary_by, read_primary, block_form_at}
use Rattle.reference_laws.proofs.Promises.{Knows, Known, Shorters, Firsts}
use Rattle.reference_parser.proofs.Tests.{and_true, left_true, right_true, neither_one, word_kind, word_text, mark_kind, mark_text}
use Rattle.reference_laws.proofs.Begins.{local_no_command, no_command_name, statement_not_newline, statement_not_word}
use Rattle.reference_laws.proofs.KnownFronts.{known_then, known_loop_start, known_newlines, known_method_name, known_on_self}
use Rattle.reference_laws.proofs.KnownOperands.{by_kind, by_word, by_mark, known_literal, list_read, known_list, hash_read, known_hash, known_name, known_called, name_called, constant_called, yield_read, known_yield, super_read, known_super, known_super_alone}
use Rattle.reference_laws.proofs.KnownBodies.{known_else, known_body, first_when_list, known_when_list, known_parameters, known_superclass}

-- the word of a choice, and of a loop that ends where its condition holds, or not
abbrev if_word : Bool → Bytes
if_word true = codes "if"
if_word false = codes "unless"

abbrev loop_word : Bool → Bytes
loop_word true = codes "until"
loop_word false = codes "while"

module _ (source : Bytes) (R : Rels) (Q : Readers) (F : Firsts source R) (S : Shorters R) (K : Known R Q) where
  -- which form a word begins
  choice_read : (b : Bool) (d : DoBlockOwner) (w : Toks) (s : Scope) → is_word source (if_word b) w ≡ true → read_primary source Q d w s ≡ read_choice source Q b d w s
  unfolding read_word read_form block_form_at
  choice_read true d w s e = by_word source R Q F S K (codes "if") d w s e ∙ rw (word_kind source (codes "if") w e, word_text source (codes "if") w e)
  choice_read false d w s e = by_word source R Q F S K (codes "unless") d w s e ∙ rw (word_kind source (codes "unless") w e, word_text source (codes "unless") w e)

  known_choice : (b : Bool) (d : DoBlockOwner) (w q v p r : Toks) (s y x z : Scope) (c t : Tree) (e : Other) → R.expr (within d) (next w) s c q y → Then source q v → R.stmts (within d) v y t p x → R.else_branches (within d) p x e r z → is_word source (codes "end") r ≡ true →
      read_choice source Q b d w s ≡ taken (at (position w) (choice b c t e)) (next r) z
  unfolding ◌>>=◌ ◌>>>◌ read_choice ended
  known_choice b d w q v p r s y x z c t e hc f h i o = rw (K.expr (within d) _ _ _ _ _ hc, known_then source _ _ f, K.stmts (within d) _ _ _ _ _ h, K.else_branches (within d) _ _ _ _ _ i, o)

  loop_read : (b : Bool) (d : DoBlockOwner) (w : Toks) (s : Scope) → is_word source (loop_word b) w ≡ true → read_primary source Q d w s ≡ read_loop source Q b d w s
  unfolding read_word read_form block_form_at
  loop_read false d w s e = by_word source R Q F S K (codes "while") d w s e ∙ rw (word_kind source (codes "while") w e, word_text source (codes "while") w e)
  loop_read true d w s e = by_word source R Q F S K (codes "until") d w s e ∙ rw (word_kind source (codes "until") w e, word_text source (codes "until") w e)

  known_loop : (b : Bool) (d : DoBlockOwner) (w q v r : Toks) (s y z : Scope) (c t : Tree) → R.expr loops (next w) s c q y → LoopStart source q v → R.stmts (within d) v y t r z → is_word source (codes "end") r ≡ true →
      read_loop source Q b d w s ≡ taken (at (position w) (while_loop t c b false)) (next r) z
  unfolding ◌>>=◌ ◌>>>◌ read_loop ended
  known_loop b d w q v r s y z c t hc f h o = rw (K.expr loops _ _ _ _ _ hc, known_loop_start source _ _ f, K.stmts (within d) _ _ _ _ _ h, o)

  begin_read : (d : DoBlockOwner) (w : Toks) (s : Scope) → is_word source (codes "begin") w ≡ true → read_primary source Q d w s ≡ read_begin source Q d w s
  unfolding read_word read_form block_form_at
  begin_read d w s e = by_word source R Q F S K (codes "begin") d w s e ∙ rw (word_kind source (codes "begin") w e, word_text source (codes "begin") w e)

  known_begin : (d : DoBlockOwner) (w r : Toks) (s z : Scope) (t : Tree) → Body source R (within d) (position w) (next w) s t r z → is_word source (codes "end") r ≡ true → read_begin source Q d w s ≡ taken t (next r) z
  unfolding ◌>>=◌ read_begin ended
  known_begin d w r s z t h o = rw (known_body source R Q F S K (within d) (position w) _ _ _ _ _ h, o)

  case_read : (d : DoBlockOwner) (w : Toks) (s : Scope) → is_word source (codes "case") w ≡ true → read_primary source Q d w s ≡ read_case source Q d w s
  unfolding read_word read_form block_form_at
  case_read d w s e = by_word source R Q F S K (codes "case") d w s e ∙ rw (word_kind source (codes "case") w e, word_text source (codes "case") w e)

  known_whens : (make : Whens → Other → Form) (d : DoBlockOwner) (w v p r : Toks) (s x z : Scope) (ws : Whens) (e : Other) → WhenList source R (within d) v s ws p x → Else source R (within d) p x e r z → is_word source (codes "end") r ≡ true →
      read_whens source Q make d w v s ≡ taken (at (position w) (make ws e)) (next r) z
  unfolding ◌>>=◌ read_whens ended
  known_whens make d w v p r s x z ws e h i o = rw (first_when_list source R Q F S K (within d) _ _ _ _ _ h, known_when_list source R Q F S K (suc (count_of v)) (within d) _ _ _ _ _ h (omega arith), known_else source R Q F S K (within d) _ _ _ _ _ i, o)

  known_case : (d : DoBlockOwner) (w q v p r : Toks) (s y x z : Scope) (a : Tree) (ws : Whens) (e : Other) → R.expr (within d) (next w) s a q y → Newlines source q v → WhenList source R (within d) v y ws p x → Else source R (within d) p x e r z →
      is_word source (codes "end") r ≡ true → read_case source Q d w s ≡ taken (at (position w) (case_of a ws e)) (next r) z
  unfolding ◌>>=◌ read_case
  known_case d w q v p r s y x z a ws e c f h i o =
      let b = F.expr (within d) _ _ _ _ _ c in
      rw (neither_one _ _ (statement_not_newline source (next w) b) (statement_not_word source (codes "when") (next w) b refl), K.expr (within d) _ _ _ _ _ c, known_newlines source _ _ f) (known_whens (case_of a) d w v p r y x z ws e h i o)

  tests_begin : (w v : Toks) → Newlines source w v → is_word source (codes "when") v ≡ true → (is_newline w || is_word source (codes "when") w) ≡ true
  tests_begin w v (g.Newlines.skipped e h) i = left_true _ _ e
  tests_begin w v (g.Newlines.passed e) i = right_true _ _ i

  known_case_tests : (d : DoBlockOwner) (w v p r : Toks) (s x z : Scope) (ws : Whens) (e : Other) → Newlines source (next w) v → WhenList source R (within d) v s ws p x → Else source R (within d) p x e r z → is_word source (codes "end") r ≡ true →
      read_case source Q d w s ≡ taken (at (position w) (case_tests ws e)) (next r) z
  unfolding read_case
  known_case_tests d w v p r s x z ws e f h i o = rw (tests_begin _ _ f (first_when_list source R Q F S K (within d) _ _ _ _ _ h), known_newlines source _ _ f) (known_whens case_tests d w v p r s x z ws e h i o)

  method_read : (d : DoBlockOwner) (w : Toks) (s : Scope) → is_word source (codes "def") w ≡ true → read_primary source Q d w s ≡ read_method source Q d w s
  unfolding read_word read_form block_form_at
  method_read d w s e = by_word source R Q F S K (codes "def") d w s e ∙ rw (word_kind source (codes "def") w e, word_text source (codes "def") w e)

  known_method : (d : DoBlockOwner) (w q v u r : Toks) (s y z : Scope) (b : Bool) (m : Bytes) (ps : Params) (t : Tree) → OnSelf source R (next w) b q → MethodName source true q m v → Parameters source R (within d) v fresh ps u y → Body source R (within d) (position u) u y t r z →
      is_word source (codes "end") r ≡ true → read_method source Q d w s ≡ taken (at (position w) (method m (at (position w) (body ps t)) b)) (next r) s
  unfolding ◌>>=◌ ◌>>>◌ read_method ended
  known_method d w q v u r s y z b m ps t i n p h o =
      rw (known_on_self source R _ _ _ i, known_method_name source true _ _ _ n, known_parameters source R Q F S K (within d) _ _ _ _ _ p, known_body source R Q F S K (within d) (position u) _ _ _ _ _ h, o)

  class_read : (d : DoBlockOwner) (w : Toks) (s : Scope) → is_word source (codes "class") w ≡ true → read_primary source Q d w s ≡ read_class source Q d w s
  unfolding read_word read_form block_form_at
  class_read d w s e = by_word source R Q F S K (codes "class") d w s e ∙ rw (word_kind source (codes "class") w e, word_text source (codes "class") w e)

  known_class : (d : DoBlockOwner) (w q r : Toks) (s y z : Scope) (c : Other) (t : Tree) → front (next w) ≡ Some token.constant → Superclass source R (within d) (next (next w)) s c q y → is_newline q ≡ true → Body source R (within d) (position (next q)) (next q) fresh t r z →
      is_word source (codes "end") r ≡ true → read_class source Q d w s ≡ taken (at (position w) (class c (word source (next w)) (at (position w) (body no_param t)))) (next r) y
  unfolding ◌>>=◌ read_class ended
  known_class d w q r s y z c t e i f h o =
      rw (ap is_kind_constant e, known_superclass source R Q F S K (within d) _ _ _ _ _ i, f, known_body source R Q F S K (within d) (position (next q)) _ _ _ _ _ h, o)

  module_read : (d : DoBlockOwner) (w : Toks) (s : Scope) → is_word source (codes "module") w ≡ true → read_primary source Q d w s ≡ read_module source Q d w s
  unfolding read_word read_form block_form_at
  module_read d w s e = by_word source R Q F S K (codes "module") d w s e ∙ rw (word_kind source (codes "module") w e, word_text source (codes "module") w e)

  known_module : (d : DoBlockOwner) (w r : Toks) (s z : Scope) (t : Tree) → front (next w) ≡ Some token.constant → is_newline (next (next w)) ≡ true → Body source R (within d) (position (next (next (next w)))) (next (next (next w))) fresh t r z →
      is_word source (codes "end") r ≡ true → read_module source Q d w s ≡ taken (at (position w) (module_named (word source (next w)) (at (position w) (body no_param t)))) (next r) s
  unfolding ◌>>=◌ read_module ended
  known_module d w r s z t e f h o = rw (and_true _ _ (ap is_kind_constant e) f, known_body source R Q F S K (within d) (position (next (next (next w)))) _ _ _ _ _ h, o)

  pub known_primary : (d : DoBlockOwner) → Knows (Primary source R d) (read_primary source Q d)
  unfolding ◌>>=◌ primary_by read_word read_list read_hash read_group read_mark read_name read_constant read_yield
  known_primary d w s t r z (g.Primary.literal h) = known_literal source R Q F S K d _ _ _ _ _ h
  known_primary d w s t r z (g.Primary.empty_list e h) = list_read source R Q F S K d w s e ∙ rw h
  known_primary d w s t r z (g.Primary.list e h f c) = known_list source R Q F S K d _ _ _ _ _ _ _ e h f c
  known_primary d w s t r z (g.Primary.empty_hash e h) = hash_read source R Q F S K d w s e ∙ rw h
  known_primary d w s t r z (g.Primary.pairs e h f c) = known_hash source R Q F S K d _ _ _ _ _ _ e h f c
  known_primary d w s t r z (g.Primary.brackets e h c) = by_mark source R Q F S K (codes "(") d w s e ∙ rw (mark_kind source (codes "(") w e, mark_text source (codes "(") w e, K.stmts own _ _ _ _ _ h, c)
  known_primary d w s t r z (g.Primary.self_word e) = by_word source R Q F S K (codes "self") d w s e ∙ rw (word_kind source (codes "self") w e, word_text source (codes "self") w e)
  known_primary d w s t r z (g.Primary.local_name e o p i) = by_kind source R Q F S K d w s token.name e ∙ rw (o, local_no_command source s (word source w) (next w) i, p, i)
  known_primary d w s t r z (g.Primary.bare_name e o p i j) = by_kind source R Q F S K d w s token.name e ∙ rw (o, no_command_name source s (word source w) (next w) j, p, i)
  known_primary d w s t r z (g.Primary.name_with_block e o i h) = by_kind source R Q F S K d w s token.name e ∙ known_name source R Q F S K d w _ _ _ _ o i h
  known_primary d w s t r z (g.Primary.called_name e o h i) = name_called source R Q F S K d w s e o ∙ known_called source R Q F S K d w _ _ _ _ _ _ _ h i
  known_primary d w s t r z (g.Primary.instance_name e) = by_kind source R Q F S K d w s token.variable e
  known_primary d w s t r z (g.Primary.global_name e) = by_kind source R Q F S K d w s token.global e
  known_primary d w s t r z (g.Primary.constant e o) = by_kind source R Q F S K d w s token.constant e ∙ rw o
  known_primary d w s t r z (g.Primary.called_constant e o h i) = constant_called source R Q F S K d w s e o ∙ known_called source R Q F S K d w _ _ _ _ _ _ _ h i
  known_primary d w s t r z (g.Primary.top_constant e h) = by_mark source R Q F S K (codes "::") d w s e ∙ rw (mark_kind source (codes "::") w e, mark_text source (codes "::") w e, ap is_kind_constant h)
  known_primary d w s t r z (g.Primary.bare_yield e o i) = yield_read source R Q F S K d w s e ∙ rw (o, i)
  known_primary d w s t r z (g.Primary.called_yield e o h i) = yield_read source R Q F S K d w s e ∙ known_yield source R Q F S K w _ _ _ _ o h i
  known_primary d w s t r z (g.Primary.super_alone e o i h) = super_read source R Q F S K d w s e ∙ known_super_alone source R Q F S K d w _ _ _ _ o i h
  known_primary d w s t r z (g.Primary.called_super e o h i) = super_read source R Q F S K d w s e ∙ known_super source R Q F S K d w _ _ _ _ _ _ _ o h i
  known_primary d w s t r z (g.Primary.if_form e c f h i o) = choice_read true d w s e ∙ known_choice true d w _ _ _ _ _ _ _ _ _ _ _ c f h i o
  known_primary d w s t r z (g.Primary.unless_form e c f h i o) = choice_read false d w s e ∙ known_choice false d w _ _ _ _ _ _ _ _ _ _ _ c f h i o
  known_primary d w s t r z (g.Primary.while_form e c f h o) = loop_read false d w s e ∙ known_loop false d w _ _ _ _ _ _ _ _ c f h o
  known_primary d w s t r z (g.Primary.until_form e c f h o) = loop_read true d w s e ∙ known_loop true d w _ _ _ _ _ _ _ _ c f h o
  known_primary d w s t r z (g.Primary.begin_form e h o) = begin_read d w s e ∙ known_begin d w _ _ _ _ h o
  known_primary d w s t r z (g.Primary.case_form e c f h i o) = case_read d w s e ∙ known_case d w _ _ _ _ _ _ _ _ _ _ _ c f h i o
  known_primary d w s t r z (g.Primary.case_of_tests e f h i o) = case_read d w s e ∙ known_case_tests d w _ _ _ _ _ _ _ _ f h i o
  known_primary d w s t r z (g.Primary.method_form e i m p h o) = method_read d w s e ∙ known_method d w _ _ _ _ _ _ _ _ _ _ _ i m p h o
  known_primary d w s t r z (g.Primary.class_form e c i f h o) = class_read d w s e ∙ known_class d w _ _ _ _ _ _ _ c i f h o
  known_primary d w s t r z (g.Primary.module_form e c f h o) = module_read d w s e ∙ known_module d w _ _ _ _ c f h o
  known_primary d w s t r z (g.Primary.retry_word e) = by_word source R Q F S K (codes "retry") d w s e ∙ rw (word_kind source (codes "retry") w e, word_text source (codes "retry") w e)
