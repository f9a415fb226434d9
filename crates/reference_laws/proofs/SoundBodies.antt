-- What a reader takes is derived: bodies, blocks, what a call is given, parameters, and the parts of texts.
use Rattle.std.proofs.Common.{◌≡◌, ℕ, zero, suc, nat_le, nat_eq, true, not, ◌&&◌, codes, Some, sym, subst}
use Rattle.std.proofs.lemmas.Bool.{and_parts, eqb-true, false≢true}
use Rattle.ruby_lexer.specs.Bytes.{Bytes}
use Rattle.ruby_lexer.specs.Pieces.{Toks, none, more, Parts, name}
use Rattle.ruby_lexer.specs.Pieces as token
use Rattle.ruby_tree.specs.Tree.{SourcePosition, Tree, Params}
use Rattle.ruby_tree.specs.Rules.{Scope, declare, in_clause, outside_clause, behind, next, front, position, DoBlockOwner, own, command_takes, word, is_mark, is_word, opens, opens_block, opens_do, begins_params}
use Rattle.ruby_tree.specs.Build.{Given, nothing, has_block}
use Rattle.ruby_tree.specs.FaultLine.{count_of}
use Rattle.ruby_tree.specs.Grammar.{Rel, Rels, Mark, Word, Then, MethodParams}
use Rattle.ruby_tree.specs.Grammar as g
use Rattle.reference_parser.specs.Answers.{Parse}
use Rattle.reference_parser.specs.Fronts.{is_empty, is_newline, is_name, then_at}
use Rattle.reference_parser.specs.ReadItems.{Readers}
use Rattle.reference_parser.specs.ReadBodies.{Called, clauses, read_else, rescued_body, read_body, ended, do_block, brace_block, read_block, call_block, command_block, call_items, text_parts, read_else_branches, when_list, default_param, named_param, left_param, method_params, bracket_params, parameter_list, read_parameters, read_superclass}
use Rattle.reference_laws.proofs.Promises.{Each, got, at_fault, Sound, Sounds}
use Rattle.reference_laws.proofs.SoundTools.{each_then, each_of, each_if, EachFound, there, absent, each_found, found_if}
use Rattle.reference_laws.proofs.SoundTests.{is_not, or_other, name-true}
use Rattle.reference_laws.proofs.SoundItems.{sound-bars, sound-exception_name, sound-several, sound-in_brackets, sound-classes}

module _ (source : Bytes) where
  pub found-then : (w : Toks) → EachFound (λ _ v. Then source w v) (then_at source w)
  unfolding then_at
  found-then w =
      found_if (is_newline w) _ _
      (λ n. found_if (is_word source (codes "then") (next w)) _ _
      (λ e. there (g.Then.line_and_written n e))
      (λ e. there (g.Then.line n e)))
      (λ _. found_if (is_word source (codes "then") w) _ _
      (λ e. there (g.Then.written e))
      (λ _. absent))

-- what a call is given in brackets, and its block, as the reader makes them
abbrev pub CalledOf : Bytes → Rels → DoBlockOwner → Rel Called
CalledOf source R d w s c r z = g.CallItems source R d w s c.given c.block r z

module _ (source : Bytes) (R : Rels) (Q : Readers) (S : Sounds R Q) where
  sound-clauses : (m : ℕ) (d : DoBlockOwner) (w : Toks) (s : Scope) → Word source (codes "rescue") w → Each (g.Clauses source R d w s) (clauses source Q m d w s)
  unfolding clauses
  sound-clauses zero d w s is = at_fault
  sound-clauses (suc m) d w s is =
      each_then _ (sound-classes source R Q S d (next w) (in_clause s)) (λ cs p y hc. each_then _ (sound-exception_name source p y) (λ x q u hx. each_found _ (found-then source q) (λ _ v ht. each_then _ (S.stmts d v u) (λ t r z hs. each_if (is_word source (codes "rescue") r) _ _
      (λ e. each_then _ (sound-clauses m d r (behind s z) e) (λ rs n l h. got (g.Clauses.another is hc hx ht hs h)))
      (λ e. got (g.Clauses.last is hc hx ht hs e))))))

  pub sound-else : (d : DoBlockOwner) → Sound (g.Else source R d) (read_else source Q d)
  unfolding read_else
  sound-else d w s =
      each_if (is_word source (codes "else") w) _ _
      (λ e. each_then _ (S.stmts d (next w) s) (λ t r z h. got (g.Else.given e h)))
      (λ e. got (g.Else.missing e))

  sound-rescued : (d : DoBlockOwner) (o : SourcePosition) → Sound (g.Rescued source R d o) (rescued_body source Q d o)
  unfolding rescued_body
  sound-rescued d o w s =
      each_then _ (S.stmts d w s) (λ t q y h. each_if (is_word source (codes "rescue") q) _ _
      (λ e. each_then _ (sound-clauses (suc (count_of q)) d q y e) (λ rs p x hc. each_then _ (sound-else d p x) (λ b r z he. got (g.Rescued.clauses h hc he))))
      (λ e. got (g.Rescued.plain h e)))

  pub sound-body : (d : DoBlockOwner) (o : SourcePosition) → Sound (g.Body source R d o) (read_body source Q d o)
  unfolding read_body
  sound-body d o w s =
      each_then _ (sound-rescued d o w s) (λ t q y h. each_if (is_word source (codes "ensure") q) _ _
      (λ e. each_then _ (S.stmts d (next q) (outside_clause y)) (λ c r z i. got (g.Body.ensured h e i)))
      (λ e. got (g.Body.plain h e)))

  -- `end` closes what a was read as
  pub each_ended : {A : Type 0} {P : A → Toks → Scope → Type 0} (a : A) (w : Toks) (s : Scope) → (Word source (codes "end") w → P a (next w) s) → Each P (ended source Q a w s)
  unfolding ended
  each_ended a w s then = each_if (is_word source (codes "end") w) _ _ (λ e. got (then e)) (λ _. at_fault)

  sound-do_block : (w : Toks) (s : Scope) → Word source (codes "do") w → Each (g.DoBlock source R w s) (do_block source Q w s)
  unfolding do_block
  sound-do_block w s e =
      each_then _ (sound-bars source (next w) (outside_clause s)) (λ ps q y hb. each_then _ (sound-body own (position q) q y) (λ t r z h. each_ended _ r s (λ c. g.DoBlock.block e hb h c)))

  sound-brace_block : (d : DoBlockOwner) (w : Toks) (s : Scope) → Mark source (codes "{") w → Each (g.Block source R d w s) (brace_block source Q w s)
  unfolding brace_block
  sound-brace_block d w s e =
      each_then _ (sound-bars source (next w) (outside_clause s)) (λ ps q y hb. each_then _ (S.stmts own q y) (λ t r z h. each_if (is_mark source (codes "}") r) _ _
      (λ c. got (g.Block.braces e hb h c))
      (λ _. at_fault)))

  pub sound-block : (d : DoBlockOwner) (w : Toks) (s : Scope) → opens_block source d w ≡ true → Each (g.Block source R d w s) (read_block source Q w s)
  unfolding read_block
  sound-block d w s o =
      each_if (is_mark source (codes "{") w) _ _
      (λ e. sound-brace_block d w s e)
      (λ e. let both = and_parts _ _ (or_other _ _ o e) in each_of (sound-do_block w s both.1) (λ b r z h. g.Block.with_do both.0 h))

  pub sound-call_block : (d : DoBlockOwner) (t : Given) → Sound (g.CallBlock source R d t) (call_block source Q d t)
  unfolding call_block
  sound-call_block d t w s =
      each_if (opens_block source d w && not (has_block t)) _ _
      (λ e. let both = and_parts _ _ e in each_then _ (sound-block d w s both.0) (λ b r z h. got (g.CallBlock.given (is_not _ both.1) h)))
      (λ e. got (g.CallBlock.missing e))

  pub sound-command_block : (d : DoBlockOwner) (t : Given) → Sound (g.CommandBlock source R d t) (command_block source Q d t)
  unfolding command_block
  sound-command_block d t w s =
      each_if (opens_do source d w && not (has_block t)) _ _
      (λ e. let both = and_parts (opens_do source d w) (not (has_block t)) e in
      let opened = and_parts (command_takes d) (is_word source (codes "do") w) both.0 in
      each_then _ (sound-do_block w s opened.1) (λ b r z h. got (g.CommandBlock.given (is_not _ both.1) opened.0 h)))
      (λ e. got (g.CommandBlock.missing e))

  pub sound-call_items : (d : DoBlockOwner) → Sound (CalledOf source R d) (call_items source Q d)
  unfolding call_items
  sound-call_items d w s =
      each_if (opens source w) _ _
      (λ o. each_then _ (sound-in_brackets source R Q S w s (and_parts _ _ o).0) (λ t q y h. each_then _ (sound-call_block d t q y) (λ b r z i. got (g.CallItems.brackets o h i))))
      (λ o. each_then _ (sound-call_block d nothing w s) (λ b r z i. got (g.CallItems.bare o i)))

  -- no tokens are left
  none_left : (ts r : Toks) (s y : Scope) (t : Tree) → is_empty r ≡ true → R.stmts own ts s t r y → R.stmts own ts s t none y
  none_left ts none s y t e h = h
  none_left ts (more k ks) s y t e h = absurd (false≢true e)

  pub sound-text_parts : (ps : Parts) (s : Scope) → Each (λ qs _ z. g.TextParts source R ps s qs z) (text_parts source Q ps s)
  unfolding text_parts
  sound-text_parts token.ends s = got g.TextParts.ends
  sound-text_parts (token.plain f ps) s = each_then _ (sound-text_parts ps s) (λ qs r z h. got (g.TextParts.plain h))
  sound-text_parts (token.code ts ps) s =
      each_then _ (S.stmts own ts s) (λ t r y h. each_if (is_empty r) _ _
      (λ e. each_then _ (sound-text_parts ps y) (λ qs n z i. got (g.TextParts.code (none_left ts r s y t e h) i)))
      (λ _. at_fault))

  pub sound-else_branches : (d : DoBlockOwner) → Sound (g.ElseBranches source R d) (read_else_branches source Q d)
  unfolding read_else_branches
  sound-else_branches d w s =
      each_if (is_word source (codes "elsif") w) _ _
      (λ e. each_then _ (S.expr d (next w) s) (λ c q y hc. each_found _ (found-then source q) (λ _ v ht. each_then _ (S.stmts d v y) (λ t p x hs. each_then _ (S.else_branches d p x) (λ b r z h. got (g.ElseBranches.elsif e hc ht hs h))))))
      (λ e. each_of (sound-else d w s) (λ b r z h. g.ElseBranches.other e h))

  pub sound-when_list : (m : ℕ) (d : DoBlockOwner) (w : Toks) (s : Scope) → Word source (codes "when") w → Each (g.WhenList source R d w s) (when_list source Q m d w s)
  unfolding when_list
  sound-when_list zero d w s is = at_fault
  sound-when_list (suc m) d w s is =
      each_then _ (sound-several source R Q S d (next w) s) (λ ts q y hc. each_found _ (found-then source q) (λ _ v ht. each_then _ (S.stmts d v y) (λ t p x hs. each_if (is_word source (codes "when") p) _ _
      (λ e. each_then _ (sound-when_list m d p x e) (λ ws r z h. got (g.WhenList.another is hc ht hs h)))
      (λ e. got (g.WhenList.last is hc ht hs e)))))

  sound-default : (further : ℕ → Parse Params) (d : DoBlockOwner) (l : ℕ) → Sound (MethodParams source R d 1) (further 1) → (w : Toks) (s : Scope) → nat_le l 1 ≡ true → front w ≡ Some name → Mark source (codes "=") (next w) → Each (MethodParams source R d l w s) (default_param source Q further d w s)
  unfolding default_param
  sound-default further d l F w s k n e =
      each_then _ (S.arg d (next (next w)) (declare (word source w) s)) (λ a q y h. each_if (is_mark source (codes ",") q) _ _
      (λ c. each_then _ (F (next q) y) (λ ps r z i. got (g.MethodParams.default_more k n e h c i)))
      (λ _. got (g.MethodParams.default k n e h)))

  -- a required parameter is of the first kind
  at_first : (d : DoBlockOwner) (l : ℕ) (w r : Toks) (s z : Scope) (ps : Params) → nat_eq l 0 ≡ true → MethodParams source R d 0 w s ps r z → MethodParams source R d l w s ps r z
  at_first d l w r s z ps e h = subst (λ k. MethodParams source R d k w s ps r z) (sym (eqb-true l 0 e)) h

  sound-named : (further : ℕ → Parse Params) (d : DoBlockOwner) (l : ℕ) → ((k : ℕ) → Sound (MethodParams source R d k) (further k)) → (w : Toks) (s : Scope) → front w ≡ Some name → Each (MethodParams source R d l w s) (named_param source Q further d l w s)
  unfolding named_param
  sound-named further d l F w s n =
      each_if (is_mark source (codes "=") (next w)) _ _
      (λ e. each_if (nat_le l 1) _ _ (λ k. sound-default further d l (F 1) w s k n e) (λ _. at_fault))
      (λ e. each_if (nat_eq l 0) _ _
      (λ is. each_if (is_mark source (codes ",") (next w)) _ _
      (λ c. each_then _ (F 0 (next (next w)) (declare (word source w) s)) (λ ps r z i. got (at_first d l w r s z _ is (g.MethodParams.named_more n c i))))
      (λ _. got (at_first d l w _ s _ _ is (g.MethodParams.named n e))))
      (λ _. at_fault))

  sound-left : (further : ℕ → Parse Params) (d : DoBlockOwner) (l : ℕ) → Sound (MethodParams source R d 3) (further 3) → (w : Toks) (s : Scope) → nat_le l 2 ≡ true → Mark source (codes "*") w → front (next w) ≡ Some name → Each (MethodParams source R d l w s) (left_param source Q further w s)
  unfolding left_param
  sound-left further d l F w s k e n =
      each_if (is_mark source (codes ",") (next (next w))) _ _
      (λ c. each_then _ (F (next (next (next w))) (declare (word source (next w)) s)) (λ ps r z i. got (g.MethodParams.left_more k e n c i)))
      (λ _. got (g.MethodParams.left k e n))

  sound-method_params : (m : ℕ) (d : DoBlockOwner) (l : ℕ) → Sound (MethodParams source R d l) (method_params source Q m d l)
  unfolding method_params
  sound-method_params zero d l w s = at_fault
  sound-method_params (suc m) d l w s =
      each_if (is_name w) _ _
      (λ n. sound-named (method_params source Q m d) d l (sound-method_params m d) w s (name-true w n))
      (λ _. each_if (is_mark source (codes "*") w && (is_name (next w) && nat_le l 2)) _ _
      (λ e. let both = and_parts (is_mark source (codes "*") w) (is_name (next w) && nat_le l 2) e in
      let more_of = and_parts (is_name (next w)) (nat_le l 2) both.1 in
      sound-left (method_params source Q m d) d l (sound-method_params m d 3) w s more_of.1 both.0 (name-true _ more_of.0))
      (λ _. each_if (is_mark source (codes "&") w && is_name (next w)) _ _
      (λ e. let both = and_parts _ _ e in got (g.MethodParams.block both.0 (name-true _ both.1)))
      (λ _. at_fault)))

  sound-bracket_params : (d : DoBlockOwner) (w : Toks) (s : Scope) → Mark source (codes "(") w → Each (g.ParameterList source R d w s) (bracket_params source Q w s)
  unfolding bracket_params
  sound-bracket_params d w s o =
      each_if (is_mark source (codes ")") (next w)) _ _
      (λ c. got (g.ParameterList.empty o c))
      (λ _. each_then _ (sound-method_params (suc (count_of w)) own 0 (next w) s) (λ ps r z h. each_if (is_mark source (codes ")") r) _ _
      (λ c. got (g.ParameterList.brackets o h c))
      (λ _. at_fault)))

  pub sound-parameter_list : (d : DoBlockOwner) → Sound (g.ParameterList source R d) (parameter_list source Q d)
  unfolding parameter_list
  sound-parameter_list d w s =
      each_if (is_mark source (codes "(") w) _ _
      (λ o. sound-bracket_params d w s o)
      (λ _. each_if (is_newline w) _ _
      (λ n. got (g.ParameterList.no_line n))
      (λ _. each_then _ (sound-method_params (suc (count_of w)) d 0 w s) (λ ps r z h. each_if (is_newline r) _ _
      (λ n. got (g.ParameterList.line h n))
      (λ _. at_fault))))

  pub sound-parameters : (d : DoBlockOwner) → Sound (g.Parameters source R d) (read_parameters source Q d)
  unfolding read_parameters
  sound-parameters d w s =
      each_if (begins_params source w) _ _
      (λ _. each_of (sound-parameter_list d w s) (λ ps r z h. g.Parameters.given h))
      (λ e. got (g.Parameters.missing e))

  pub sound-superclass : (d : DoBlockOwner) → Sound (g.Superclass source R d) (read_superclass source Q d)
  unfolding read_superclass
  sound-superclass d w s =
      each_if (is_mark source (codes "<") w) _ _
      (λ e. each_then _ (S.arg d (next w) s) (λ a r z h. got (g.Superclass.given e h)))
      (λ e. got (g.Superclass.missing e))
