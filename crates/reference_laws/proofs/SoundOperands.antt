-- What a reader takes is derived: operands by themselves.
use Rattle.std.proofs.Common.{◌≡◌, suc, Bool, true, false, ◌&&◌, ◌||◌, codes, Option, Some, None, ◌⊎◌, inl, inr, refl}
use Rattle.std.proofs.lemmas.Bool.{and_parts}
use Rattle.ruby_lexer.specs.Bytes.{Bytes}
use Rattle.ruby_lexer.specs.Forms.{text_of}
use Rattle.ruby_lexer.specs.Pieces.{Kind, Toks, none, more, Parts, name, constant}
use Rattle.ruby_lexer.specs.Pieces as token
use Rattle.ruby_tree.specs.Tree.{Tree, at, Form, Other, without, Whens, send, while_loop, case_of, case_tests}
use Rattle.ruby_tree.specs.Rules.{Scope, fresh, is_local, next, front, position, DoBlockOwner, own, loops, within, method_marks, touches_next, word, mark_in, is_mark, is_word, opens, opens_block, begins_arguments, is_command, is_negative}
use Rattle.ruby_tree.specs.Build.{Given, nothing, has_block}
use Rattle.ruby_tree.specs.FaultLine.{count_of}
use Rattle.ruby_tree.specs.Grammar.{Rels, Mark, Word, Then, LoopStart, Newlines, MethodName, OnSelf, InBrackets, CallBlock, WhenList, Else, Literal, Primary}
use Rattle.ruby_tree.specs.Grammar as g
use Rattle.reference_parser.specs.Fronts.{is_newline, is_name, is_constant, skip_newlines, loop_start_at, brackets_at, method_name_at, on_self_at}
use Rattle.reference_parser.specs.ReadItems.{Readers}
use Rattle.reference_parser.specs.ReadOperands.{choice, called_name, read_name, read_constant, read_yield, read_super, read_choice, read_loop, read_begin, read_whens, read_case, read_method, read_class, read_module, read_form, read_word, read_list, read_hash, read_group, negative_by, read_mark, literal_by, primary_by, read_primary, block_form_at}
use Rattle.reference_laws.proofs.Promises.{Each, got, at_fault, Sound, Sounds}
use Rattle.reference_laws.proofs.SoundTools.{each_then, each_if, EachFound, there, absent, each_found, found_if, value_if}
use Rattle.reference_laws.proofs.SoundTests.{or_other, and_not, name-true, constant-true}
use Rattle.reference_laws.proofs.SoundItems.{each_closed, sound-elements, sound-pair_list, sound-in_brackets}
use Rattle.reference_laws.proofs.SoundBodies.{found-then, sound-else, sound-body, each_ended, sound-block, sound-call_block, sound-text_parts, sound-when_list, sound-parameters, sound-superclass}

module _ (source : Bytes) where
  found-loop_start : (w : Toks) → EachFound (λ _ v. LoopStart source w v) (loop_start_at source w)
  unfolding loop_start_at
  found-loop_start w = found_if (is_newline w || is_word source (codes "do") w) _ _ (λ e. there (started (is_newline w) refl e)) (λ _. absent)
    where
      started : (b : Bool) → is_newline w ≡ b → (is_newline w || is_word source (codes "do") w) ≡ true → LoopStart source w (next w)
      started true is e = g.LoopStart.line is
      started false is e = g.LoopStart.written (or_other _ _ e is)

  skipped : (w : Toks) → Newlines source w (skip_newlines source w)
  unfolding skip_newlines
  skipped none = g.Newlines.passed refl
  skipped (more t ts) = value_if (Newlines source (more t ts)) (is_newline (more t ts)) _ _ (λ n. g.Newlines.skipped n (skipped ts)) (λ n. g.Newlines.passed n)

  -- the name of a method: a name, or another one
  pub data NameAt (defines : Bool) (w : Toks) : Bytes → Toks → Type 0 where
    name_alone : front w ≡ Some name → (defines && (is_mark source (codes "=") (next w) && touches_next w)) ≡ false → NameAt defines w (word source w) (next w)
    another_name : {m : Bytes} {v : Toks} → (defines ≡ true) ⊎ (is_name w ≡ false) → MethodName source defines w m v → NameAt defines w m v

  found-brackets : (defines : Bool) (w : Toks) → is_name w ≡ false → Mark source (codes "[") w → Mark source (codes "]") (next w) → touches_next w ≡ true → EachFound (NameAt defines w) (brackets_at source w)
  unfolding brackets_at
  found-brackets defines w n o c t =
      found_if (is_mark source (codes "=") (next (next w)) && touches_next (next w)) _ _
      (λ e. let both = and_parts _ _ e in there (another_name (inr n) (g.MethodName.index_setter o c t both.0 both.1)))
      (λ e. there (another_name (inr n) (g.MethodName.index o c t e)))

  pub found-name : (defines : Bool) (w : Toks) → EachFound (NameAt defines w) (method_name_at source defines w)
  unfolding method_name_at
  found-name defines w =
      found_if (is_name w) _ _
      (λ n. found_if (defines && (is_mark source (codes "=") (next w) && touches_next w)) _ _
      (λ e. let both = and_parts defines (is_mark source (codes "=") (next w) && touches_next w) e in
      let set = and_parts (is_mark source (codes "=") (next w)) (touches_next w) both.1 in
      there (another_name (inl both.0) (g.MethodName.setter both.0 (name-true w n) set.0 set.1)))
      (λ e. there (name_alone (name-true w n) e)))
      (λ n. found_if (is_constant w) _ _
      (λ c. there (another_name (inr n) (g.MethodName.constant (constant-true w c))))
      (λ _. found_if (mark_in source method_marks w) _ _
      (λ e. there (another_name (inr n) (g.MethodName.operator e)))
      (λ _. found_if (is_mark source (codes "[") w && (is_mark source (codes "]") (next w) && touches_next w)) _ _
      (λ e. let both = and_parts (is_mark source (codes "[") w) (is_mark source (codes "]") (next w) && touches_next w) e in
      let closes = and_parts (is_mark source (codes "]") (next w)) (touches_next w) both.1 in
      found-brackets defines w n both.0 closes.0 closes.1)
      (λ _. absent))))

  pub named_as : (defines : Bool) (w v : Toks) (m : Bytes) → NameAt defines w m v → MethodName source defines w m v
  named_as defines w _ _ (name_alone n e) = g.MethodName.name n e
  named_as defines w v m (another_name _ h) = h

  pub found-on_self : (R : Rels) (w : Toks) → EachFound (λ b v. OnSelf source R w b v) (on_self_at source w)
  unfolding on_self_at
  found-on_self R w =
      found_if (is_word source (codes "self") w) _ _
      (λ e. found_if (is_mark source (codes ".") (next w)) _ _ (λ c. there (g.OnSelf.on_self e c)) (λ _. absent))
      (λ e. there (g.OnSelf.plain e))

module _ (source : Bytes) (R : Rels) (Q : Readers) (S : Sounds R Q) where
  each_called : {P : Tree → Toks → Scope → Type 0} (d : DoBlockOwner) (w : Toks) (s : Scope) → opens source (next w) ≡ true → ((t : Given) (q : Toks) (y : Scope) (b : Other) (r : Toks) (z : Scope) → InBrackets source R (next w) s t q y → CallBlock source R d t q y b r z → P (at (position w) (send without t.trees t.spread t.value (word source w) false b)) r z) → Each P (called_name source Q d w s)
  unfolding called_name
  each_called d w s o then =
      each_then _ (sound-in_brackets source R Q S (next w) s (and_parts _ _ o).0) (λ t q y h. each_then _ (sound-call_block source R Q S d t q y) (λ b r z i. got (then t q y b r z h i)))

  sound-name : (d : DoBlockOwner) (w : Toks) (s : Scope) → front w ≡ Some name → Each (Primary source R d w s) (read_name source Q d w s)
  unfolding read_name
  sound-name d w s n =
      each_if (opens source (next w)) _ _
      (λ o. each_called d w s o (λ t q y b r z h i. g.Primary.called_name n o h i))
      (λ o. each_if (is_command source s (word source w) (next w)) _ _
      (λ _. at_fault)
      (λ c. each_if (opens_block source d (next w)) _ _
      (λ e. each_then _ (sound-block source R Q S d (next w) s e) (λ b r z h. got (g.Primary.name_with_block n o c h)))
      (λ e. each_if (is_local s (word source w)) _ _
      (λ l. got (g.Primary.local_name n o e l))
      (λ l. got (g.Primary.bare_name n o e l (and_not _ _ c l))))))

  sound-constant : (d : DoBlockOwner) (w : Toks) (s : Scope) → front w ≡ Some constant → Each (Primary source R d w s) (read_constant source Q d w s)
  unfolding read_constant
  sound-constant d w s n =
      each_if (opens source (next w)) _ _
      (λ o. each_called d w s o (λ t q y b r z h i. g.Primary.called_constant n o h i))
      (λ o. got (g.Primary.constant n o))

  sound-yield : (d : DoBlockOwner) (w : Toks) (s : Scope) → Word source (codes "yield") w → Each (Primary source R d w s) (read_yield source Q w s)
  unfolding read_yield
  sound-yield d w s n =
      each_if (opens source (next w)) _ _
      (λ o. each_then _ (sound-in_brackets source R Q S (next w) s (and_parts _ _ o).0) (λ t r z h. each_if (has_block t) _ _ (λ _. at_fault) (λ e. got (g.Primary.called_yield n o h e))))
      (λ o. each_if (begins_arguments source (next w)) _ _ (λ _. at_fault) (λ e. got (g.Primary.bare_yield n o e)))

  sound-super : (d : DoBlockOwner) (w : Toks) (s : Scope) → Word source (codes "super") w → Each (Primary source R d w s) (read_super source Q d w s)
  unfolding read_super
  sound-super d w s n =
      each_if (opens source (next w)) _ _
      (λ o. each_then _ (sound-in_brackets source R Q S (next w) s (and_parts _ _ o).0) (λ t q y h. each_then _ (sound-call_block source R Q S d t q y) (λ b r z i. got (g.Primary.called_super n o h i))))
      (λ o. each_if (begins_arguments source (next w)) _ _
      (λ _. at_fault)
      (λ e. each_then _ (sound-call_block source R Q S d nothing (next w) s) (λ b r z h. got (g.Primary.super_alone n o e h))))

  each_choice : {P : Tree → Toks → Scope → Type 0} (b : Bool) (d : DoBlockOwner) (w : Toks) (s : Scope) →
      ((c : Tree) (q : Toks) (y : Scope) (v : Toks) (t : Tree) (p : Toks) (x : Scope) (e : Other) (r : Toks) (z : Scope) → R.expr (within d) (next w) s c q y → Then source q v → R.stmts (within d) v y t p x → R.else_branches (within d) p x e r z → Word source (codes "end") r → P (at (position w) (choice b c t e)) (next r) z) →
      Each P (read_choice source Q b d w s)
  unfolding read_choice
  each_choice b d w s then =
      each_then _ (S.expr (within d) (next w) s) (λ c q y hc. each_found _ (found-then source q) (λ _ v ht. each_then _ (S.stmts (within d) v y) (λ t p x hs. each_then _ (S.else_branches (within d) p x) (λ e r z he. each_ended source R Q S _ r z (λ c1. then c q y v t p x e r z hc ht hs he c1)))))

  each_loop : {P : Tree → Toks → Scope → Type 0} (b : Bool) (d : DoBlockOwner) (w : Toks) (s : Scope) →
      ((c : Tree) (q : Toks) (y : Scope) (v : Toks) (t : Tree) (r : Toks) (z : Scope) → R.expr loops (next w) s c q y → LoopStart source q v → R.stmts (within d) v y t r z → Word source (codes "end") r → P (at (position w) (while_loop t c b false)) (next r) z) →
      Each P (read_loop source Q b d w s)
  unfolding read_loop
  each_loop b d w s then =
      each_then _ (S.expr loops (next w) s) (λ c q y hc. each_found _ (found-loop_start source q) (λ _ v ht. each_then _ (S.stmts (within d) v y) (λ t r z hs. each_ended source R Q S _ r z (λ e. then c q y v t r z hc ht hs e))))

  sound-begin : (d : DoBlockOwner) (w : Toks) (s : Scope) → Word source (codes "begin") w → Each (Primary source R d w s) (read_begin source Q d w s)
  unfolding read_begin
  sound-begin d w s n = each_then _ (sound-body source R Q S (within d) (position w) (next w) s) (λ t r z h. each_ended source R Q S _ r z (λ e. g.Primary.begin_form n h e))

  each_whens : {P : Tree → Toks → Scope → Type 0} (make : Whens → Other → Form) (d : DoBlockOwner) (w v : Toks) (s : Scope) →
      ((ws : Whens) (p : Toks) (x : Scope) (e : Other) (r : Toks) (z : Scope) → WhenList source R (within d) v s ws p x → Else source R (within d) p x e r z → Word source (codes "end") r → P (at (position w) (make ws e)) (next r) z) →
      Each P (read_whens source Q make d w v s)
  unfolding read_whens
  each_whens make d w v s then =
      each_if (is_word source (codes "when") v) _ _
      (λ n. each_then _ (sound-when_list source R Q S (suc (count_of v)) (within d) v s n) (λ ws p x hw. each_then _ (sound-else source R Q S (within d) p x) (λ e r z he. each_ended source R Q S _ r z (λ c. then ws p x e r z hw he c))))
      (λ _. at_fault)

  sound-case : (d : DoBlockOwner) (w : Toks) (s : Scope) → Word source (codes "case") w → Each (Primary source R d w s) (read_case source Q d w s)
  unfolding read_case
  sound-case d w s n =
      each_if (is_newline (next w) || is_word source (codes "when") (next w)) _ _
      (λ _. each_whens case_tests d w _ s (λ ws p x e r z hw he c. g.Primary.case_of_tests n (skipped source (next w)) hw he c))
      (λ _. each_then _ (S.expr (within d) (next w) s) (λ a q y ha. each_whens (case_of a) d w _ y (λ ws p x e r z hw he c. g.Primary.case_form n ha (skipped source q) hw he c)))

  sound-method : (d : DoBlockOwner) (w : Toks) (s : Scope) → Word source (codes "def") w → Each (Primary source R d w s) (read_method source Q d w s)
  unfolding read_method
  sound-method d w s n =
      each_found _ (found-on_self source R (next w)) (λ b q ho. each_found _ (found-name source true q) (λ m v hm. each_then _ (sound-parameters source R Q S (within d) v fresh) (λ ps u y hp. each_then _ (sound-body source R Q S (within d) (position u) u y) (λ t r z hb. each_ended source R Q S _ r s (λ e. g.Primary.method_form n ho (named_as source true q v m hm) hp hb e)))))

  sound-class : (d : DoBlockOwner) (w : Toks) (s : Scope) → Word source (codes "class") w → Each (Primary source R d w s) (read_class source Q d w s)
  unfolding read_class
  sound-class d w s n =
      each_if (is_constant (next w)) _ _
      (λ c. each_then _ (sound-superclass source R Q S (within d) (next (next w)) s) (λ a q y ha. each_if (is_newline q) _ _
      (λ e. each_then _ (sound-body source R Q S (within d) (position (next q)) (next q) fresh) (λ t r z hb. each_ended source R Q S _ r y (λ l. g.Primary.class_form n (constant-true _ c) ha e hb l)))
      (λ _. at_fault)))
      (λ _. at_fault)

  sound-module : (d : DoBlockOwner) (w : Toks) (s : Scope) → Word source (codes "module") w → Each (Primary source R d w s) (read_module source Q d w s)
  unfolding read_module
  sound-module d w s n =
      each_if (is_constant (next w) && is_newline (next (next w))) _ _
      (λ c. let both = and_parts _ _ c in each_then _ (sound-body source R Q S (within d) (position (next (next (next w)))) (next (next (next w))) fresh) (λ t r z hb. each_ended source R Q S _ r s (λ l. g.Primary.module_form n (constant-true _ both.0) both.1 hb l)))
      (λ _. at_fault)

  sound-form : (d : DoBlockOwner) → Sound (Primary source R d) (read_form source Q d)
  unfolding read_form block_form_at
  sound-form d w s =
      each_if (is_word source (codes "yield") w) _ _ (sound-yield d w s)
      (λ _. each_if (is_word source (codes "super") w) _ _ (sound-super d w s)
      (λ _. each_if (is_word source (codes "if") w) _ _ (λ n. each_choice true d w s (λ c q y v t p x e r z hc ht hs he l. g.Primary.if_form n hc ht hs he l))
      (λ _. each_if (is_word source (codes "unless") w) _ _ (λ n. each_choice false d w s (λ c q y v t p x e r z hc ht hs he l. g.Primary.unless_form n hc ht hs he l))
      (λ _. each_if (is_word source (codes "while") w) _ _ (λ n. each_loop false d w s (λ c q y v t r z hc ht hs l. g.Primary.while_form n hc ht hs l))
      (λ _. each_if (is_word source (codes "until") w) _ _ (λ n. each_loop true d w s (λ c q y v t r z hc ht hs l. g.Primary.until_form n hc ht hs l))
      (λ _. each_if (is_word source (codes "begin") w) _ _ (sound-begin d w s)
      (λ _. each_if (is_word source (codes "case") w) _ _ (sound-case d w s)
      (λ _. each_if (is_word source (codes "def") w) _ _ (sound-method d w s)
      (λ _. each_if (is_word source (codes "class") w) _ _ (sound-class d w s)
      (λ _. each_if (is_word source (codes "module") w) _ _ (sound-module d w s)
      (λ _. at_fault)))))))))))

  sound-word : (d : DoBlockOwner) → Sound (Primary source R d) (read_word source Q d)
  unfolding read_word
  sound-word d w s =
      each_if (is_word source (codes "nil") w) _ _ (λ n. got (g.Primary.literal (g.Literal.nil_word n)))
      (λ _. each_if (is_word source (codes "true") w) _ _ (λ n. got (g.Primary.literal (g.Literal.true_word n)))
      (λ _. each_if (is_word source (codes "false") w) _ _ (λ n. got (g.Primary.literal (g.Literal.false_word n)))
      (λ _. each_if (is_word source (codes "self") w) _ _ (λ n. got (g.Primary.self_word n))
      (λ _. each_if (is_word source (codes "__FILE__") w) _ _ (λ n. got (g.Primary.literal (g.Literal.file_word n)))
      (λ _. each_if (is_word source (codes "__dir__") w) _ _ (λ n. got (g.Primary.literal (g.Literal.folder_word n)))
      (λ _. each_if (is_word source (codes "__LINE__") w) _ _ (λ n. got (g.Primary.literal (g.Literal.line_word n)))
      (λ _. each_if (is_word source (codes "retry") w) _ _ (λ n. got (g.Primary.retry_word n))
      (λ _. sound-form d w s))))))))

  sound-list : (d : DoBlockOwner) (w : Toks) (s : Scope) → Mark source (codes "[") w → Each (Primary source R d w s) (read_list source Q w s)
  unfolding read_list
  sound-list d w s o =
      each_if (is_mark source (codes "]") (next w)) _ _
      (λ c. got (g.Primary.empty_list o c))
      (λ _. each_then _ (sound-elements source R Q S (suc (count_of w)) 0 (next w) s) (λ t q z h. each_closed source _ _ _ _ (λ r e c. g.Primary.list o h e c)))

  sound-hash : (d : DoBlockOwner) (w : Toks) (s : Scope) → Mark source (codes "{") w → Each (Primary source R d w s) (read_hash source Q w s)
  unfolding read_hash
  sound-hash d w s o =
      each_if (is_mark source (codes "}") (next w)) _ _
      (λ c. got (g.Primary.empty_hash o c))
      (λ _. each_then _ (sound-pair_list source R Q S (suc (count_of w)) own (next w) s) (λ ps q z h. each_closed source _ _ _ _ (λ r e c. g.Primary.pairs o h e c)))

  sound-group : (d : DoBlockOwner) (w : Toks) (s : Scope) → Mark source (codes "(") w → Each (Primary source R d w s) (read_group source Q w s)
  unfolding read_group
  sound-group d w s o = each_then _ (S.stmts own (next w) s) (λ t r z h. each_if (is_mark source (codes ")") r) _ _ (λ c. got (g.Primary.brackets o h c)) (λ _. at_fault))

  sound-negative : (d : DoBlockOwner) (w : Toks) (s : Scope) → is_negative source w ≡ true → (k : Option Kind) → front (next w) ≡ k → Each (Primary source R d w s) (negative_by source Q w s k)
  unfolding negative_by
  sound-negative d w s n (Some (token.integer i)) is = got (g.Primary.literal (g.Literal.negative_number n is))
  sound-negative d w s n _ is = at_fault

  sound-mark : (d : DoBlockOwner) → Sound (Primary source R d) (read_mark source Q d)
  unfolding read_mark
  sound-mark d w s =
      each_if (is_mark source (codes "[") w) _ _ (sound-list d w s)
      (λ _. each_if (is_mark source (codes "{") w) _ _ (sound-hash d w s)
      (λ _. each_if (is_mark source (codes "(") w) _ _ (sound-group d w s)
      (λ _. each_if (is_mark source (codes "::") w) _ _
      (λ e. each_if (is_constant (next w)) _ _ (λ c. got (g.Primary.top_constant e (constant-true _ c))) (λ _. at_fault))
      (λ _. each_if (is_negative source w) _ _ (λ n. sound-negative d w s n (front (next w)) refl)
      (λ _. at_fault)))))

  sound-literal : (d : DoBlockOwner) (w : Toks) (s : Scope) (ps : Parts) → front w ≡ Some (token.literal ps) → (o : Option Bytes) → text_of ps ≡ o → Each (Primary source R d w s) (literal_by source Q w s ps o)
  unfolding literal_by
  sound-literal d w s ps is (Some f) e = got (g.Primary.literal (g.Literal.plain_text is e))
  sound-literal d w s ps is None e = each_then _ (sound-text_parts source R Q S ps s) (λ qs r z h. got (g.Primary.literal (g.Literal.text_with_code is e h)))

  sound-primary_by : (d : DoBlockOwner) (w : Toks) (s : Scope) (k : Option Kind) → front w ≡ k → Each (Primary source R d w s) (primary_by source Q d w s k)
  unfolding primary_by
  sound-primary_by d w s (Some (token.integer i)) is = got (g.Primary.literal (g.Literal.number is))
  sound-primary_by d w s (Some token.name) is = sound-name d w s is
  sound-primary_by d w s (Some token.constant) is = sound-constant d w s is
  sound-primary_by d w s (Some token.variable) is = got (g.Primary.instance_name is)
  sound-primary_by d w s (Some token.global) is = got (g.Primary.global_name is)
  sound-primary_by d w s (Some token.keyword) is = sound-word d w s
  sound-primary_by d w s (Some token.mark) is = sound-mark d w s
  sound-primary_by d w s (Some (token.literal ps)) is = sound-literal d w s ps is (text_of ps) refl
  sound-primary_by d w s (Some (token.symbol f)) is = got (g.Primary.literal (g.Literal.symbol_name is))
  sound-primary_by d w s (Some (token.words fs)) is = got (g.Primary.literal (g.Literal.word_list is))
  sound-primary_by d w s (Some (token.symbols fs)) is = got (g.Primary.literal (g.Literal.symbol_list is))
  sound-primary_by d w s _ is = at_fault

  pub sound-primary : (d : DoBlockOwner) → Sound (Primary source R d) (read_primary source Q d)
  unfolding read_primary
  sound-primary d w s = sound-primary_by d w s (front w) refl
