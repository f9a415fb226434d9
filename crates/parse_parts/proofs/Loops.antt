-- What the definitions by recursion make, as turns that gather parts from the first on.
use Rattle.std.proofs.Common.{◌≡◌, refl, sym, ap, ◌∙◌, ℕ, zero, suc, ◌<◌, arith, false, ◌&&◌, codes, Ok, Err, if◌then◌else◌}
use Rattle.std.specs.Prelude.{nat_le, nat_eq}
use Rattle.ruby_lexer.specs.Bytes.{Bytes}
use Rattle.ruby_lexer.specs.Pieces.{Toks, none, more, tok, newline}
use Rattle.ruby_tree.specs.Tree.{Whens, no_when, when, Rescues, no_clause, clause, Params, no_param, required, optional, rest_param, block_param}
use Rattle.ruby_tree.specs.Rules.{Scope, DoBlockOwner, next, word, declare, behind, in_clause, is_mark, is_word}
use Rattle.ruby_tree.specs.FaultLine.{count_of}
use Rattle.tree_builder.specs.Subtrees.{HoldsParams, whens_then, rescues_then, params_then}
use Rattle.reference_parser.specs.Answers.{Answer, taken, fault, deep, Parse, ◌>>=◌}
use Rattle.reference_parser.specs.Fronts.{is_name, then_at}
use Rattle.reference_parser.specs.ReadItems.{Readers, read_classes, read_several, exception_name}
use Rattle.reference_parser.specs.ReadBodies.{clauses, when_list, method_params, named_param, default_param, left_param}
use Rattle.parse_state.specs.declared.failures.Failure.{Failure}
use Rattle.parse_state.specs.declared.standing.Parser.{Parser}
use Rattle.parse_state.specs.Gives.{Gives, gave, no_syntax, too_deep, no_memory}
use Rattle.parse_parts.specs.declared.params.ParamRow.{ParamRow}
use Rattle.parse_parts.specs.Parts.{Row, HoldsRow, row_from, left_turn, default_turn, named_turn, param_turn, clause_turn, when_turn}
use Rattle.parse_parts.proofs.PassingSteps.{drawn, drawn_found, drawn_if, drawn_taken, drawn_fault, drawn_last, drawn_itself}

-- rows, joined
pub whens_join : (us vs ws : Whens) → whens_then (whens_then us vs) ws ≡ whens_then us (whens_then vs ws)
whens_join no_when vs ws = refl
whens_join (when ts t us) vs ws = ap (λ (x : Whens). when ts t x) (whens_join us vs ws)

pub rescues_join : (bs cs ds : Rescues) → rescues_then (rescues_then bs cs) ds ≡ rescues_then bs (rescues_then cs ds)
rescues_join no_clause cs ds = refl
rescues_join (clause ts x t bs) cs ds = ap (λ (u : Rescues). clause ts x t u) (rescues_join bs cs ds)

pub params_join : (ps qs rs : Params) → params_then (params_then ps qs) rs ≡ params_then ps (params_then qs rs)
params_join no_param qs rs = refl
params_join (required n ps) qs rs = ap (λ (u : Params). required n u) (params_join ps qs rs)
params_join (optional n t ps) qs rs = ap (λ (u : Params). optional n t u) (params_join ps qs rs)
params_join (rest_param n ps) qs rs = ap (λ (u : Params). rest_param n u) (params_join ps qs rs)
params_join (block_param n ps) qs rs = ap (λ (u : Params). block_param n u) (params_join ps qs rs)

-- The word that begins a part decides nothing of it: any token may stand for it.
abbrev pub any : Toks → Toks
any w = more (tok newline 0 0 0 false) w

-- behind the word, fewer tokens are left
pub enough : (w : Toks) {m : ℕ} → count_of w < m → count_of (next w) < m
enough none less = less
enough (more t ts) less = omega arith

module _ (source : Bytes) (Q : Readers) (d : DoBlockOwner) where
  -- what the turns that are left make, behind what was gathered
  abbrev pub clauses_rest : ℕ → Rescues → Parse Rescues
  clauses_rest m cs w s = clauses source Q m d (any w) s >>= λ ds r z. taken (rescues_then cs ds) r z

  clauses_any : (m : ℕ) (w : Toks) (s : Scope) → clauses source Q m d w s ≡ clauses source Q m d (any (next w)) s
  unfolding clauses
  clauses_any zero w s = refl
  clauses_any (suc m) w s = refl

  pub clauses_unroll : (m : ℕ) (cs : Rescues) (w : Toks) (s : Scope) → clauses_rest (suc m) cs w s ≡ clause_turn source Q d cs (clauses_rest m) w s
  unfolding clauses
  clauses_unroll m cs w s =
      drawn (read_classes source Q d w (in_clause s)) _ _ _ (λ ts p y.
      drawn (exception_name source p y) _ _ _ (λ x q u.
      drawn_found (then_at source q) _ _ _ (λ e v.
      drawn (Q.stmts d v u) _ _ _ (λ t r z.
      drawn_last (is_word source (codes "rescue") r) (clauses source Q m d r (behind s z)) (clauses source Q m d (any (next r)) (behind s z)) (λ ds. clause ts x t ds) (λ ds. rescues_then cs ds) (λ ds. rescues_then (rescues_then cs (clause ts x t no_clause)) ds) (clause ts x t no_clause) r (behind s z) (clauses_any m r (behind s z)) (λ ds. sym (rescues_join cs (clause ts x t no_clause) ds))))))

  pub clauses_whole : (m : ℕ) (w : Toks) (s : Scope) → clauses source Q m d w s ≡ clauses_rest m no_clause (next w) s
  clauses_whole m w s = clauses_any m w s ∙ drawn_itself (clauses source Q m d (any (next w)) s)

  abbrev pub whens_rest : ℕ → Whens → Parse Whens
  whens_rest m ws w s = when_list source Q m d (any w) s >>= λ vs r z. taken (whens_then ws vs) r z

  whens_any : (m : ℕ) (w : Toks) (s : Scope) → when_list source Q m d w s ≡ when_list source Q m d (any (next w)) s
  unfolding when_list
  whens_any zero w s = refl
  whens_any (suc m) w s = refl

  pub whens_unroll : (m : ℕ) (ws : Whens) (w : Toks) (s : Scope) → whens_rest (suc m) ws w s ≡ when_turn source Q d ws (whens_rest m) w s
  unfolding when_list
  whens_unroll m ws w s =
      drawn (read_several source Q d w s) _ _ _ (λ ts q y.
      drawn_found (then_at source q) _ _ _ (λ e v.
      drawn (Q.stmts d v y) _ _ _ (λ t p x.
      drawn_last (is_word source (codes "when") p) (when_list source Q m d p x) (when_list source Q m d (any (next p)) x) (λ vs. when ts t vs) (λ vs. whens_then ws vs) (λ vs. whens_then (whens_then ws (when ts t no_when)) vs) (when ts t no_when) p x (whens_any m p x) (λ vs. sym (whens_join ws (when ts t no_when) vs)))))

  pub whens_whole : (m : ℕ) (w : Toks) (s : Scope) → when_list source Q m d w s ≡ whens_rest m no_when (next w) s
  whens_whole m w s = whens_any m w s ∙ drawn_itself (when_list source Q m d (any (next w)) s)

  abbrev pub params_rest : ℕ → Row → Parse Row
  params_rest m t w s = method_params source Q m d t.least w s >>= λ ps r z. taken (record { params = params_then t.params ps; least = 4 }) r z

  -- behind one parameter of the l-th kind
  one_more : (m : ℕ) (ps : Params) (l : ℕ) (front : Params → Params) (q : Toks) (y : Scope) → ((qs : Params) → params_then ps (front qs) ≡ params_then (params_then ps (front no_param)) qs) → ((if is_mark source (codes ",") q then (method_params source Q m d l (next q) y >>= λ qs r z. taken (front qs) r z) else taken (front no_param) q y) >>= λ qs r z. taken (record { params = params_then ps qs; least = 4 }) r z) ≡ row_from source (params_then ps (front no_param)) l (params_rest m) q y
  one_more m ps l front q y joins =
      drawn_last (is_mark source (codes ",") q) (method_params source Q m d l (next q) y) (method_params source Q m d l (next q) y) front (λ qs. record { params = params_then ps qs; least = 4 }) (λ qs. record { params = params_then (params_then ps (front no_param)) qs; least = 4 }) (front no_param) q y refl (λ qs. ap (λ (u : Params). record { params = u; least = 4 }) (joins qs))

  default_more : (m : ℕ) (ps : Params) (w : Toks) (s : Scope) → (default_param source Q (method_params source Q m d) d w s >>= λ qs r z. taken (record { params = params_then ps qs; least = 4 }) r z) ≡ default_turn source Q d ps (params_rest m) w s
  unfolding default_param
  default_more m ps w s = drawn (Q.arg d (next (next w)) (declare (word source w) s)) _ _ _ (λ a q y. one_more m ps 1 (λ qs. optional (word source w) a qs) q y (λ qs. sym (params_join ps (optional (word source w) a no_param) qs)))

  named_more : (m : ℕ) (t : Row) (w : Toks) (s : Scope) → (named_param source Q (method_params source Q m d) d t.least w s >>= λ qs r z. taken (record { params = params_then t.params qs; least = 4 }) r z) ≡ named_turn source Q d t (params_rest m) w s
  unfolding named_param
  named_more m t w s =
      drawn_if (is_mark source (codes "=") (next w)) _ _ _
      (drawn_if (nat_le t.least 1) _ _ _ (default_more m t.params w s) (drawn_fault _))
      (drawn_if (nat_eq t.least 0) _ _ _ (one_more m t.params 0 (λ qs. required (word source w) qs) (next w) (declare (word source w) s) (λ qs. sym (params_join t.params (required (word source w) no_param) qs))) (drawn_fault _))

  left_more : (m : ℕ) (ps : Params) (w : Toks) (s : Scope) → (left_param source Q (method_params source Q m d) w s >>= λ qs r z. taken (record { params = params_then ps qs; least = 4 }) r z) ≡ left_turn source ps (params_rest m) w s
  unfolding left_param
  left_more m ps w s = one_more m ps 3 (λ qs. rest_param (word source (next w)) qs) (next (next w)) (declare (word source (next w)) s) (λ qs. sym (params_join ps (rest_param (word source (next w)) no_param) qs))

  pub params_unroll : (m : ℕ) (t : Row) (w : Toks) (s : Scope) → params_rest (suc m) t w s ≡ param_turn source Q d t (params_rest m) w s
  unfolding method_params
  params_unroll m t w s =
      drawn_if (is_name w) _ _ _ (named_more m t w s)
      (drawn_if (is_mark source (codes "*") w && (is_name (next w) && nat_le t.least 2)) _ _ _ (left_more m t.params w s)
      (drawn_if (is_mark source (codes "&") w && is_name (next w)) _ _ _ (drawn_taken _ _ _ _) (drawn_fault _)))

-- the parameters of a row, at the end
module _ {p q : Parser} where
  pub row_end : {x : ParamRow} (a : Answer Params) → Gives HoldsRow p q (Ok x) (a >>= λ ps r z. taken (record { params = ps; least = 4 }) r z) → Gives HoldsParams p q (Ok x.params) a
  unfolding ◌>>=◌
  row_end (taken ps r z) (gave b l h) = gave b l h.params
  row_end fault g = elim g [ ]
  row_end deep g = elim g [ ]

  pub row_stop : {e : Failure} (a : Answer Params) → Gives HoldsRow p q (Err e) (a >>= λ ps r z. taken (record { params = ps; least = 4 }) r z) → Gives HoldsParams p q (Err e) a
  unfolding ◌>>=◌
  row_stop (taken ps r z) no_memory = no_memory
  row_stop fault no_syntax = no_syntax
  row_stop fault no_memory = no_memory
  row_stop deep too_deep = too_deep
  row_stop deep no_memory = no_memory
