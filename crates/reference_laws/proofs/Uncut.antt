-- Where what is read of the tokens nests no deeper than it may, the walk to the line of a fault is not cut by the depth.
use Rattle.std.proofs.Common.{◌≡◌, ℕ, zero, suc, ◌+◌, ◌-◌, ◌<◌, ◌≤◌, Bool, true, false, not, nat_le, ◌&&◌, ◌||◌, codes, refl, sym, ap, ◌∙◌, arith, subst, if◌then◌else◌, Option, None, inl, inr}
use Rattle.std.proofs.lemmas.Bool.{true≢false}
use Rattle.ruby_lexer.specs.Bytes.{Bytes, same, is_in}
use Rattle.ruby_lexer.specs.Pieces.{Toks}
use Rattle.ruby_tree.specs.Tree.{SourcePosition, Tree, Trees, more, Params, no_param}
use Rattle.ruby_tree.specs.Build.{one}
use Rattle.ruby_tree.specs.Rules.{Scope, own, fresh, next, front, position, is_kind_operand, is_kind_label, is_kind_mark, is_kind_keyword, is_kind_name, is_kind_constant, is_goal, goal_by, operand_marks, operand_words, statement_words, is_mark, is_word, begins_arguments, begins_statement, begins_targets, begins_params, is_command, is_negative, assigns, sets}
use Rattle.ruby_tree.specs.Grammar.{derives, Stmt}
use Rattle.ruby_tree.specs.FaultLine.{count_of, Header}
use Rattle.reference_parser.specs.Answers.{Answer, taken, fault, deep, ◌>>=◌, Found, found, missing, ◌>>>◌}
use Rattle.reference_parser.specs.Fronts.{is_newline, is_constant, method_name_at, on_self_at, calling_words, leaving_words, begins_command, begins_operator}
use Rattle.reference_parser.specs.ReadItems.{Readers}
use Rattle.reference_parser.specs.ReadBodies.{read_superclass, parameter_list, read_parameters, method_params, read_body, rescued_body}
use Rattle.reference_parser.specs.ReadOperands.{read_method, read_class, read_module, read_form, block_form_at, read_word, primary_by, read_primary, read_postfix}
use Rattle.reference_parser.specs.ReadStatements.{read_unset, read_settable, read_assigned_value, read_test, read_expr, read_head, read_stmt, stmt_list, read_stmts, readers}
use Rattle.reference_parser.specs.Stops.{Place, front_behind, front_from, front_of, class_header, module_header, method_header, header_at, stop_behind, stops_at}
use Rattle.reference_laws.proofs.Promises.{Each, got, at_fault, at_depth}
use Rattle.reference_parser.proofs.Tests.{by_test, neither, left_false, kind_newline, next_less, word_kind, word_text, at_word, other_word}
use Rattle.reference_laws.proofs.SoundTools.{value_if}
use Rattle.reference_laws.proofs.Sound.{sound}
use Rattle.reference_laws.proofs.SoundStatements.{sound-stmt}
use Rattle.reference_laws.proofs.Shorter.{shorters, shorter_stmt}
use Rattle.reference_laws.proofs.StableTools.{Agree, Stables, stable_then, stable_found, stable_if, same as stays}
use Rattle.reference_laws.proofs.StableBodies.{stable_parameter_list, stable_superclass}
use Rattle.reference_laws.proofs.StableStatements.{stable_stmt}
use Rattle.reference_laws.proofs.Stable.{stable_more}
use Rattle.reference_laws.proofs.StopFronts.{shorter_part}
use Rattle.reference_laws.proofs.StopLongest.{walked}
use Rattle.reference_laws.proofs.StopHeaders.{sound_header, shorter_header}
use Rattle.reference_laws.proofs.StopSteps.{stops_step}

abbrev rest_or : Toks → Answer (Unit {0}) → Toks
rest_or w (taken t r z) = r
rest_or w fault = w
rest_or w deep = w

abbrev scope_or : Scope → Answer (Unit {0}) → Scope
scope_or s (taken t r z) = z
scope_or s fault = s
scope_or s deep = s

deep_then : {A B : Type 0} {o : Answer A} (f : A → Toks → Scope → Answer B) → o ≡ deep → (o >>= f) ≡ deep
unfolding ◌>>=◌
deep_then f e = rw e

-- The form that begins with a header is read with it: where the header's reader goes too deep, or that of the statements behind it, the form's
-- does.
module _ (source : Bytes) (Q : Readers) where
  pub record Leads (h : Answer (Unit {0})) (o : Answer Tree) : Type 0 where
    pub header : h ≡ deep → o ≡ deep
    pub body : (r : Toks) (z : Scope) → h ≡ taken tt r z → Q.stmts own r z ≡ deep → o ≡ deep

  leads_fault : {o : Answer Tree} → Leads fault o
  leads_fault = record { header = λ e. absurd cc; body = λ r z e d. absurd cc }

  leads_deep : Leads deep deep
  leads_deep = record { header = λ e. refl; body = λ r z e d. refl }

  leads_body : {o : Answer Tree} (r : Toks) (z : Scope) → (Q.stmts own r z ≡ deep → o ≡ deep) → Leads (taken tt r z) o
  leads_body r z h = record {
    header = λ e. absurd cc;
    body = λ q y e d.
        let rests : r ≡ q = ap (rest_or r) e in
        let scopes : z ≡ y = ap (scope_or z) e in
        h (subst (λ (v : Toks). Q.stmts own v z ≡ deep) (sym rests) (subst (λ (x : Scope). Q.stmts own q x ≡ deep) (sym scopes) d));
  }

  leads_then : {A : Type 0} (o : Answer A) {f : A → Toks → Scope → Answer (Unit {0})} {g : A → Toks → Scope → Answer Tree} → ((t : A) (r : Toks) (z : Scope) → Leads (f t r z) (g t r z)) → Leads (o >>= f) (o >>= g)
  unfolding ◌>>=◌
  leads_then (taken t r z) h = h t r z
  leads_then fault h = leads_fault
  leads_then deep h = leads_deep

  leads_found : {A : Type 0} (o : Found A) {f : A → Toks → Answer (Unit {0})} {g : A → Toks → Answer Tree} → ((t : A) (r : Toks) → Leads (f t r) (g t r)) → Leads (o >>> f) (o >>> g)
  unfolding ◌>>>◌
  leads_found (found a r) h = h a r
  leads_found missing h = leads_fault

  leads_if : (b : Bool) {h k : Answer (Unit {0})} {o u : Answer Tree} → Leads h o → Leads k u → Leads (if b then h else k) (if b then o else u)
  leads_if true h k = h
  leads_if false h k = k

  leads_same : {h k : Answer (Unit {0})} {o u : Answer Tree} → h ≡ k → o ≡ u → Leads k u → Leads h o
  leads_same {h = h} {u = u} e f L = subst (λ (x : Answer Tree). Leads h x) (sym f) (subst (λ (x : Answer (Unit {0})). Leads x u) (sym e) L)

  leads_on : {h : Answer (Unit {0})} {o u : Answer Tree} → (o ≡ deep → u ≡ deep) → Leads h o → Leads h u
  leads_on go L = record { header = λ e. go (L.header e); body = λ r z e d. go (L.body r z e d) }

  body_deep : {A : Type 0} (o : SourcePosition) (w : Toks) (s : Scope) (f : Tree → Toks → Scope → Answer A) → Q.stmts own w s ≡ deep → (read_body source Q own o w s >>= f) ≡ deep
  unfolding ◌>>=◌ read_body rescued_body
  body_deep o w s f e = rw e

  leads_class : (w : Toks) (s : Scope) → Leads (class_header source Q w s) (read_class source Q own w s)
  unfolding class_header read_class
  leads_class w s =
      leads_if (is_constant (next w)) (leads_then (read_superclass source Q own (next (next w)) s) (λ c q y. leads_if (is_newline q) (leads_body (next q) fresh (λ d. body_deep (position (next q)) (next q) fresh _ d)) leads_fault)) leads_fault

  leads_module : (w : Toks) (s : Scope) → Leads (module_header source Q w s) (read_module source Q own w s)
  unfolding module_header read_module
  leads_module w s =
      leads_if (is_constant (next w) && is_newline (next (next w))) (leads_body (next (next (next w))) fresh (λ d. body_deep (position (next (next (next w)))) (next (next (next w))) fresh _ d)) leads_fault

  -- where no parameters begin there is no list of them
  no_parameters : (w : Toks) (s : Scope) → begins_params source w ≡ false → parameter_list source Q own w s ≡ fault
  unfolding ◌>>=◌ parameter_list method_params
  no_parameters w s h =
      let amp = neither (is_newline w || is_kind_name (front w) || is_mark source (codes "(") w || is_mark source (codes "*") w) (is_mark source (codes "&") w) h in
      let star = neither (is_newline w || is_kind_name (front w) || is_mark source (codes "(") w) (is_mark source (codes "*") w) amp.0 in
      let bracket = neither (is_newline w || is_kind_name (front w)) (is_mark source (codes "(") w) star.0 in
      let line = neither (is_newline w) (is_kind_name (front w)) bracket.0 in
      rw (bracket.1, line.0, line.1, left_false (is_mark source (codes "*") w) (is_kind_name (front (next w)) && nat_le 0 2) star.1, left_false (is_mark source (codes "&") w) (is_kind_name (front (next w))) amp.1)

  leads_parameters : (w : Toks) (s : Scope) {f : Params → Toks → Scope → Answer (Unit {0})} {g : Params → Toks → Scope → Answer Tree} → ((t : Params) (r : Toks) (z : Scope) → Leads (f t r z) (g t r z)) → Leads (parameter_list source Q own w s >>= f) (read_parameters source Q own w s >>= g)
  unfolding ◌>>=◌ read_parameters
  leads_parameters w s {f = f} {g = g} h = by_test (begins_params source w)
      (λ e. leads_same refl (ap (λ (b : Bool). (if b then parameter_list source Q own w s else taken no_param w s) >>= g) e) (leads_then (parameter_list source Q own w s) h))
      (λ e. leads_same (ap (λ (o : Answer Params). o >>= f) (no_parameters w s e)) refl leads_fault)

  leads_method : (w : Toks) (s : Scope) → Leads (method_header source Q w s) (read_method source Q own w s)
  unfolding method_header read_method
  leads_method w s =
      leads_found (on_self_at source (next w)) (λ b q. leads_found (method_name_at source true q) (λ m v. leads_parameters v fresh (λ ps u y. leads_body u y (λ d. body_deep (position u) u y _ d))))

  -- a word begins the form
  by_word : (f : Bytes) (w : Toks) (s : Scope) → is_word source f w ≡ true → read_primary source Q own w s ≡ read_word source Q own w s
  unfolding read_primary primary_by
  by_word f w s e = rw (word_kind source f w e)

  class_read : (w : Toks) (s : Scope) → is_word source (codes "class") w ≡ true → read_primary source Q own w s ≡ read_class source Q own w s
  unfolding read_word read_form block_form_at
  class_read w s e = by_word (codes "class") w s e ∙ rw (word_kind source (codes "class") w e, word_text source (codes "class") w e)

  module_read : (w : Toks) (s : Scope) → is_word source (codes "module") w ≡ true → read_primary source Q own w s ≡ read_module source Q own w s
  unfolding read_word read_form block_form_at
  module_read w s e = by_word (codes "module") w s e ∙ rw (word_kind source (codes "module") w e, word_text source (codes "module") w e)

  method_read : (w : Toks) (s : Scope) → is_word source (codes "def") w ≡ true → read_primary source Q own w s ≡ read_method source Q own w s
  unfolding read_word read_form block_form_at
  method_read w s e = by_word (codes "def") w s e ∙ rw (word_kind source (codes "def") w e, word_text source (codes "def") w e)

  -- Nothing but an operand begins at the word.
  pub record Plain (w : Toks) (s : Scope) : Type 0 where
    pub targets : begins_targets source w ≡ false
    pub inverted : is_word source (codes "not") w ≡ false
    pub command : begins_command source s w ≡ false
    pub set : sets source w ≡ false
    pub operator : begins_operator source w ≡ false

  plain_word : (f : Bytes) (w : Toks) (s : Scope) → is_word source f w ≡ true → same (codes "not") f ≡ false → is_in f (calling_words source) ≡ false → is_in f (leaving_words source) ≡ false → Plain w s
  plain_word f w s e other calls leaves = record {
    targets = at_word source (λ k x. is_goal (goal_by source k x) && is_mark source (codes ",") (next w)) f w e;
    inverted = other_word source f (codes "not") w e other;
    command = at_word source (λ k x. (is_kind_name k && is_command source s x (next w)) || (is_kind_keyword k && is_in x (calling_words source) && begins_arguments source (next w)) || (is_kind_keyword k && is_in x (leaving_words source))) f w e
        ∙ ap (λ (b : Bool). (b && begins_arguments source (next w)) || is_in f (leaving_words source)) calls ∙ leaves;
    set = at_word source (λ k x. (is_goal (goal_by source k x) && assigns source (next w)) || (is_kind_constant k && is_mark source (codes "=") (next w))) f w e;
    operator = at_word source (λ k x. (is_kind_mark k && same (codes "!") x) || (is_kind_mark k && same (codes "~") x) || (is_kind_mark k && same (codes "+") x) || ((is_kind_mark k && same (codes "-") x) && not (is_negative source w))) f w e;
  }

  stmt_deep : (w : Toks) (s : Scope) → Plain w s → read_primary source Q own w s ≡ deep → read_stmt source Q own w s ≡ deep
  unfolding ◌>>=◌ read_stmt read_head read_expr read_test read_assigned_value read_settable read_unset read_postfix
  stmt_deep w s P d = rw (P.targets, P.inverted, P.command, P.set, P.operator, d)

  header_class : (w : Toks) (s : Scope) → is_word source (codes "class") w ≡ true → header_at source Q w s ≡ class_header source Q w s
  unfolding header_at
  header_class w s e = rw e

  header_module : (w : Toks) (s : Scope) → is_word source (codes "module") w ≡ true → header_at source Q w s ≡ module_header source Q w s
  unfolding header_at
  header_module w s e = rw (other_word source (codes "module") (codes "class") w e refl, e)

  header_method : (w : Toks) (s : Scope) → is_word source (codes "def") w ≡ true → header_at source Q w s ≡ method_header source Q w s
  unfolding header_at
  header_method w s e = rw (other_word source (codes "def") (codes "class") w e refl, other_word source (codes "def") (codes "module") w e refl, e)

  no_header : (w : Toks) (s : Scope) → is_word source (codes "class") w ≡ false → is_word source (codes "module") w ≡ false → is_word source (codes "def") w ≡ false → header_at source Q w s ≡ fault
  unfolding header_at
  no_header w s e f h = rw (e, f, h)

  pub leads_stmt : (w : Toks) (s : Scope) → Leads (header_at source Q w s) (read_stmt source Q own w s)
  leads_stmt w s =
      by_test (is_word source (codes "class") w)
      (λ e. leads_on (stmt_deep w s (plain_word (codes "class") w s e refl refl refl)) (leads_same (header_class w s e) (class_read w s e) (leads_class w s)))
      (λ no. by_test (is_word source (codes "module") w)
      (λ e. leads_on (stmt_deep w s (plain_word (codes "module") w s e refl refl refl)) (leads_same (header_module w s e) (module_read w s e) (leads_module w s)))
      (λ nor. by_test (is_word source (codes "def") w)
      (λ e. leads_on (stmt_deep w s (plain_word (codes "def") w s e refl refl refl)) (leads_same (header_method w s e) (method_read w s e) (leads_method w s)))
      (λ none. leads_same (no_header w s no nor none) refl leads_fault)))

  statement_word : (f : Bytes) (w : Toks) → is_word source f w ≡ true → is_in f operand_words ≡ true → begins_statement source w ≡ true
  statement_word f w e among =
      at_word source (λ k x. ((is_kind_operand k && not (is_kind_label k)) || (is_kind_mark k && is_in x operand_marks) || (is_kind_keyword k && is_in x operand_words)) || (is_kind_keyword k && is_in x statement_words)) f w e
      ∙ ap (λ (b : Bool). b || is_in f statement_words) among

  -- a header begins a statement
  pub header_begins : (w : Toks) (s : Scope) → (header_at source Q w s ≡ fault → ⊥) → begins_statement source w ≡ true
  header_begins w s h =
      by_test (is_word source (codes "class") w) (λ e. statement_word (codes "class") w e refl)
      (λ no. by_test (is_word source (codes "module") w) (λ e. statement_word (codes "module") w e refl)
      (λ nor. by_test (is_word source (codes "def") w) (λ e. statement_word (codes "def") w e refl)
      (λ none. absurd (h (no_header w s no nor none)))))

-- The readers of k levels and of n, which are no fewer.
module _ (source : Bytes) (k n : ℕ) (fewer : k ≤ n) where
  stables : Stables (readers source k) (readers source n)
  stables = let is : k + (n - k) ≡ n = omega arith in subst (λ (m : ℕ). Stables (readers source k) (readers source m)) is (stable_more source k (n - k))

  stable_header : (w : Toks) (s : Scope) → Agree (header_at source (readers source k) w s) (header_at source (readers source n) w s)
  unfolding header_at class_header module_header method_header
  stable_header w s =
      stable_if (is_word source (codes "class") w)
      (stable_if (is_constant (next w)) (stable_then (stable_superclass source _ _ stables own (next (next w)) s) (λ c q y. stays)) stays)
      (stable_if (is_word source (codes "module") w) stays
      (stable_if (is_word source (codes "def") w)
      (stable_found (on_self_at source (next w)) (λ b q. stable_found (method_name_at source true q) (λ m v. stable_then (stable_parameter_list source _ _ stables own v fresh) (λ ps r z. stays))))
      stays))

  -- The walk was not cut, and neither is the reader of the statement where it ends.
  pub record Uncut (p : Place) : Type 0 where
    pub whole : p.cut ≡ false
    pub next_one : begins_statement source p.rest ≡ true → read_stmt source (readers source k) own p.rest p.scope ≡ deep → ⊥

  -- what is read behind a statement
  abbrev listed : ℕ → Answer Tree → Answer Trees
  listed m o = o >>= λ t q y. if is_newline q then (stmt_list source (readers source k) m own (next q) y >>= λ ts r z. taken (more t ts) r z) else taken (one t) q y

  newline_less : (w : Toks) → is_newline w ≡ true → count_of (next w) < count_of w
  newline_less w e = next_less w _ (kind_newline _ e)

  behind : (m : ℕ) → ((w : Toks) (s : Scope) → count_of w < m → (stmt_list source (readers source k) m own w s ≡ deep → ⊥) → Uncut (front_from source (readers source n) m w s)) → (w : Toks) (s : Scope) → count_of w < suc m →
      (o : Answer Tree) → Each (Stmt source (derives source k) own w s) o → read_stmt source (readers source k) own w s ≡ o → (listed m o ≡ deep → ⊥) → Uncut (front_behind source (readers source n) (front_from source (readers source n) m) w s o)
  unfolding front_behind ◌>>=◌
  behind m further w s room _ (got {t = t} {r = q} {z = y} d) is h =
      value_if Uncut (is_newline q) _ _
      (λ e. further (next q) y (omega (arith, newline_less q e, shorter_stmt source (derives source k) (shorters source k) own _ _ _ _ _ d)) (λ x. h (rw (e, x))))
      (λ e. record { whole = refl; next_one = λ b x. let no : taken t q y ≡ deep = sym is ∙ x in absurd cc })
  behind m further w s room _ at_fault is h = record { whole = refl; next_one = λ b x. let no : fault ≡ deep = sym is ∙ x in absurd cc }
  behind m further w s room _ at_depth is h = absurd (h refl)

  listed_deep : (m : ℕ) (o : Answer Tree) → o ≡ deep → listed m o ≡ deep
  listed_deep m o e = deep_then _ e

  at_statement : (m : ℕ) → ((w : Toks) (s : Scope) → count_of w < m → (stmt_list source (readers source k) m own w s ≡ deep → ⊥) → Uncut (front_from source (readers source n) m w s)) → (w : Toks) (s : Scope) → count_of w < suc m →
      Agree (read_stmt source (readers source k) own w s) (read_stmt source (readers source n) own w s) → (listed m (read_stmt source (readers source k) own w s) ≡ deep → ⊥) →
      Uncut (front_behind source (readers source n) (front_from source (readers source n) m) w s (read_stmt source (readers source n) own w s))
  at_statement m further w s room (inl d) g = absurd (g (listed_deep m _ d))
  at_statement m further w s room (inr e) g =
      subst (λ (o : Answer Tree). Uncut (front_behind source (readers source n) (front_from source (readers source n) m) w s o)) e
      (behind m further w s room _ (sound-stmt source (derives source k) (readers source k) (sound source k) own w s) refl g)

  uncut : (m : ℕ) (w : Toks) (s : Scope) → count_of w < m → (stmt_list source (readers source k) m own w s ≡ deep → ⊥) → Uncut (front_from source (readers source n) m w s)
  unfolding front_from stmt_list
  uncut zero w s room h = absurd (omega arith)
  uncut (suc m) w s room h =
      value_if Uncut (is_newline w) _ _
      (λ e. uncut m (next w) s (omega (arith, newline_less w e)) (λ x. h (rw (e, x))))
      (λ e. value_if Uncut (begins_statement source w) _ _
      (λ b. at_statement m (uncut m) w s room (stable_stmt source _ _ stables own w s) (λ x. h (rw (e, b, x))))
      (λ b. record { whole = refl; next_one = λ c x. true≢false (sym c ∙ b) }))

  pub uncut_front : (w : Toks) (s : Scope) → (read_stmts source (readers source k) own w s ≡ deep → ⊥) → Uncut (front_of source (readers source n) w s)
  unfolding front_of read_stmts
  uncut_front w s h = uncut (suc (count_of w)) w s (omega arith) (λ x. h (deep_then _ x))

-- the statements of one level less
pub record Below (source : Bytes) (k : ℕ) (w : Toks) (s : Scope) : Type 0 where
  pub level : ℕ
  pub is : suc level ≡ k
  pub uncut : read_stmts source (readers source level) own w s ≡ deep → ⊥

below : (source : Bytes) (k : ℕ) (w : Toks) (s : Scope) → ((readers source k).stmts own w s ≡ deep → ⊥) → Below source k w s
unfolding readers
below source zero w s h = absurd (h refl)
below source (suc k) w s h = record { level = k; is = refl; uncut = h }

if_none : (b : Bool) (o : Option ℕ) → b ≡ false → (if b then None else o) ≡ None → o ≡ None
if_none true o e h = absurd (true≢false e)
if_none false o e h = h

module _ (source : Bytes) (n end : ℕ) where
  behind_header : (k : ℕ) → k ≤ n → (v : Toks) (y : Scope) → (begins_statement source v ≡ true → read_stmt source (readers source k) own v y ≡ deep → ⊥) →
      ((j : ℕ) (r : Toks) (z : Scope) → count_of r < count_of v → j ≤ n → (read_stmts source (readers source j) own r z ≡ deep → ⊥) → stops_at source (readers source n) end r z ≡ None → ⊥) →
      (o : Answer (Unit {0})) → Each (λ (a : Unit {0}) (r : Toks) (z : Scope). Header source y v r z) o → header_at source (readers source n) v y ≡ o →
      stop_behind source (readers source n) (stops_at source (readers source n) end) end v o ≡ None → ⊥
  unfolding stop_behind
  behind_header k fewer v y whole further _ (got {r = r} {z = z} d) is none =
      let stmt = whole (header_begins source (readers source n) v y (λ e. let no : fault ≡ taken tt r z = sym e ∙ is in absurd cc)) in
      by_agreement (stable_header source k n fewer v y) stmt
    where
      by_agreement : Agree (header_at source (readers source k) v y) (header_at source (readers source n) v y) → (read_stmt source (readers source k) own v y ≡ deep → ⊥) → ⊥
      by_agreement (inl e) stmt = stmt ((leads_stmt source (readers source k) v y).header e)
      by_agreement (inr e) stmt =
          let B = below source k r z (λ x. stmt ((leads_stmt source (readers source k) v y).body r z (e ∙ is) x)) in
          further B.level r z (shorter_header source d) (omega (arith, B.is)) B.uncut none
  behind_header k fewer v y whole further _ at_fault is none = cc
  behind_header k fewer v y whole further _ at_depth is none =
      let stmt = whole (header_begins source (readers source n) v y (λ e. let no : fault ≡ deep = sym e ∙ is in absurd cc)) in
      by_agreement (stable_header source k n fewer v y) stmt
    where
      by_agreement : Agree (header_at source (readers source k) v y) (header_at source (readers source n) v y) → (read_stmt source (readers source k) own v y ≡ deep → ⊥) → ⊥
      by_agreement (inl e) stmt = stmt ((leads_stmt source (readers source k) v y).header e)
      by_agreement (inr e) stmt = stmt ((leads_stmt source (readers source k) v y).header (e ∙ is))

  walk_uncut : (m k : ℕ) (w : Toks) (s : Scope) → count_of w < m → k ≤ n → (read_stmts source (readers source k) own w s ≡ deep → ⊥) → stops_at source (readers source n) end w s ≡ None → ⊥
  walk_uncut zero k w s room fewer h none = omega arith
  walk_uncut (suc m) k w s room fewer h none =
      let p = front_of source (readers source n) w s in
      let U = uncut_front source k n fewer w s h in
      let F = walked source n w s in
      let shorter : count_of p.rest ≤ count_of w = shorter_part F.first _ w F.parts in
      behind_header k fewer p.rest p.scope U.next_one (λ j r z less at_most g x. walk_uncut m j r z (omega arith) at_most g x) (header_at source (readers source n) p.rest p.scope) (sound_header source n p.rest p.scope) refl
      (if_none p.cut _ U.whole (sym (stops_step source n end w s) ∙ none))

  stmts_are : (w : Toks) (s : Scope) → (readers source (suc n)).stmts own w s ≡ read_stmts source (readers source n) own w s
  unfolding readers
  stmts_are w s = refl

  -- Where the statements are read within n + 1 levels, the walk over those within n is not cut.
  pub not_cut : (w : Toks) (s : Scope) → ((readers source (suc n)).stmts own w s ≡ deep → ⊥) → stops_at source (readers source n) end w s ≡ None → ⊥
  not_cut w s h none = walk_uncut (suc (count_of w)) n w s (omega arith) (omega arith) (λ x. h (stmts_are w s ∙ x)) none
