-- More depth changes nothing but what goes too deep: bodies, blocks, what a call is given, parameters, and the parts of texts.
use Rattle.std.proofs.Common.{ℕ, zero, suc, nat_le, nat_eq, not, ◌&&◌, codes}
use Rattle.ruby_lexer.specs.Bytes.{Bytes}
use Rattle.ruby_lexer.specs.Pieces.{Parts}
use Rattle.ruby_lexer.specs.Pieces as token
use Rattle.ruby_tree.specs.Tree.{SourcePosition, Params}
use Rattle.ruby_tree.specs.Rules.{Scope, declare, in_clause, outside_clause, behind, next, position, DoBlockOwner, own, word, is_mark, is_word, opens, opens_block, opens_do, begins_params}
use Rattle.ruby_tree.specs.Build.{Given, nothing, has_block}
use Rattle.ruby_tree.specs.FaultLine.{count_of}
use Rattle.reference_parser.specs.Answers.{Parse}
use Rattle.reference_parser.specs.Fronts.{is_empty, is_newline, is_name, then_at}
use Rattle.reference_parser.specs.ReadItems.{Readers}
use Rattle.reference_parser.specs.ReadBodies.{clauses, read_else, rescued_body, read_body, ended, do_block, brace_block, read_block, call_block, command_block, call_items, text_parts, read_else_branches, when_list, default_param, named_param, left_param, method_params, bracket_params, parameter_list, read_parameters, read_superclass}
use Rattle.reference_laws.proofs.StableTools.{Agree, Stable, Stables, same, stable_then, stable_found, stable_if}
use Rattle.reference_laws.proofs.StableItems.{stable_several, stable_in_brackets, stable_classes}

module _ (source : Bytes) (Q P : Readers) (S : Stables Q P) where
  stable_clauses : (m : ℕ) (d : DoBlockOwner) → Stable (clauses source Q m d) (clauses source P m d)
  unfolding clauses
  stable_clauses zero d w s = same
  stable_clauses (suc m) d w s =
      stable_then (stable_classes source Q P S d (next w) (in_clause s)) (λ cs p y. stable_then same (λ x q u. stable_found (then_at source q) (λ _ v. stable_then (S.stmts d v u) (λ t r z.
      stable_if (is_word source (codes "rescue") r) (stable_then (stable_clauses m d r (behind s z)) (λ rs n l. same)) same))))

  pub stable_else : (d : DoBlockOwner) → Stable (read_else source Q d) (read_else source P d)
  unfolding read_else
  stable_else d w s = stable_if (is_word source (codes "else") w) (stable_then (S.stmts d (next w) s) (λ t r z. same)) same

  stable_rescued_body : (d : DoBlockOwner) (o : SourcePosition) → Stable (rescued_body source Q d o) (rescued_body source P d o)
  unfolding rescued_body
  stable_rescued_body d o w s =
      stable_then (S.stmts d w s) (λ t q y. stable_if (is_word source (codes "rescue") q)
      (stable_then (stable_clauses (suc (count_of q)) d q y) (λ rs p x. stable_then (stable_else d p x) (λ e r z. same))) same)

  pub stable_body : (d : DoBlockOwner) (o : SourcePosition) → Stable (read_body source Q d o) (read_body source P d o)
  unfolding read_body
  stable_body d o w s = stable_then (stable_rescued_body d o w s) (λ t q y. stable_if (is_word source (codes "ensure") q) (stable_then (S.stmts d (next q) (outside_clause y)) (λ e r z. same)) same)

  pub stable_ended : {A : Type 0} (a : A) → Stable (ended source Q a) (ended source P a)
  unfolding ended
  stable_ended a w s = same

  stable_do_block : Stable (do_block source Q) (do_block source P)
  unfolding do_block
  stable_do_block w s = stable_then same (λ ps q y. stable_then (stable_body own (position q) q y) (λ t r z. stable_ended _ r s))

  stable_brace_block : Stable (brace_block source Q) (brace_block source P)
  unfolding brace_block
  stable_brace_block w s = stable_then same (λ ps q y. stable_then (S.stmts own q y) (λ t r z. same))

  pub stable_block : Stable (read_block source Q) (read_block source P)
  unfolding read_block
  stable_block w s = stable_if (is_mark source (codes "{") w) (stable_brace_block w s) (stable_do_block w s)

  pub stable_call_block : (d : DoBlockOwner) (g : Given) → Stable (call_block source Q d g) (call_block source P d g)
  unfolding call_block
  stable_call_block d g w s = stable_if (opens_block source d w && not (has_block g)) (stable_then (stable_block w s) (λ b r z. same)) same

  pub stable_command_block : (d : DoBlockOwner) (g : Given) → Stable (command_block source Q d g) (command_block source P d g)
  unfolding command_block
  stable_command_block d g w s = stable_if (opens_do source d w && not (has_block g)) (stable_then (stable_do_block w s) (λ b r z. same)) same

  pub stable_call_items : (d : DoBlockOwner) → Stable (call_items source Q d) (call_items source P d)
  unfolding call_items
  stable_call_items d w s =
      stable_if (opens source w) (stable_then (stable_in_brackets source Q P S w s) (λ g q y. stable_then (stable_call_block d g q y) (λ b r z. same)))
      (stable_then (stable_call_block d nothing w s) (λ b r z. same))

  pub stable_parts : (ps : Parts) (s : Scope) → Agree (text_parts source Q ps s) (text_parts source P ps s)
  unfolding text_parts
  stable_parts token.ends s = same
  stable_parts (token.plain f ps) s = stable_then (stable_parts ps s) (λ qs r z. same)
  stable_parts (token.code ts ps) s = stable_then (S.stmts own ts s) (λ t r y. stable_if (is_empty r) (stable_then (stable_parts ps y) (λ qs n z. same)) same)

  pub stable_elses : (d : DoBlockOwner) → Stable (read_else_branches source Q d) (read_else_branches source P d)
  unfolding read_else_branches
  stable_elses d w s =
      stable_if (is_word source (codes "elsif") w)
      (stable_then (S.expr d (next w) s) (λ c q y. stable_found (then_at source q) (λ _ v. stable_then (S.stmts d v y) (λ t p x. stable_then (S.else_branches d p x) (λ e r z. same)))))
      (stable_else d w s)

  pub stable_when_list : (m : ℕ) (d : DoBlockOwner) → Stable (when_list source Q m d) (when_list source P m d)
  unfolding when_list
  stable_when_list zero d w s = same
  stable_when_list (suc m) d w s =
      stable_then (stable_several source Q P S d (next w) s) (λ ts q y. stable_found (then_at source q) (λ _ v. stable_then (S.stmts d v y) (λ t p x.
      stable_if (is_word source (codes "when") p) (stable_then (stable_when_list m d p x) (λ ws r z. same)) same)))

  -- parameters, where those behind the first are read by functions that agree
  stable_default : {F G : ℕ → Parse Params} → ((k : ℕ) → Stable (F k) (G k)) → (d : DoBlockOwner) → Stable (default_param source Q F d) (default_param source P G d)
  unfolding default_param
  stable_default further d w s =
      stable_then (S.arg d (next (next w)) (declare (word source w) s)) (λ a q y. stable_if (is_mark source (codes ",") q) (stable_then (further 1 (next q) y) (λ ps r z. same)) same)

  stable_named : {F G : ℕ → Parse Params} → ((k : ℕ) → Stable (F k) (G k)) → (d : DoBlockOwner) (l : ℕ) → Stable (named_param source Q F d l) (named_param source P G d l)
  unfolding named_param
  stable_named further d l w s =
      stable_if (is_mark source (codes "=") (next w)) (stable_if (nat_le l 1) (stable_default further d w s) same)
      (stable_if (nat_eq l 0) (stable_if (is_mark source (codes ",") (next w)) (stable_then (further 0 (next (next w)) (declare (word source w) s)) (λ ps r z. same)) same) same)

  stable_left : {F G : ℕ → Parse Params} → ((k : ℕ) → Stable (F k) (G k)) → Stable (left_param source Q F) (left_param source P G)
  unfolding left_param
  stable_left further w s =
      stable_if (is_mark source (codes ",") (next (next w))) (stable_then (further 3 (next (next (next w))) (declare (word source (next w)) s)) (λ ps r z. same)) same

  stable_method_params : (m : ℕ) (d : DoBlockOwner) (l : ℕ) → Stable (method_params source Q m d l) (method_params source P m d l)
  unfolding method_params
  stable_method_params zero d l w s = same
  stable_method_params (suc m) d l w s =
      stable_if (is_name w) (stable_named (λ k. stable_method_params m d k) d l w s)
      (stable_if (is_mark source (codes "*") w && (is_name (next w) && nat_le l 2)) (stable_left (λ k. stable_method_params m d k) w s) same)

  stable_bracket_params : Stable (bracket_params source Q) (bracket_params source P)
  unfolding bracket_params
  stable_bracket_params w s = stable_if (is_mark source (codes ")") (next w)) same (stable_then (stable_method_params (suc (count_of w)) own 0 (next w) s) (λ ps r z. same))

  pub stable_parameter_list : (d : DoBlockOwner) → Stable (parameter_list source Q d) (parameter_list source P d)
  unfolding parameter_list
  stable_parameter_list d w s =
      stable_if (is_mark source (codes "(") w) (stable_bracket_params w s)
      (stable_if (is_newline w) same (stable_then (stable_method_params (suc (count_of w)) d 0 w s) (λ ps r z. same)))

  pub stable_parameters : (d : DoBlockOwner) → Stable (read_parameters source Q d) (read_parameters source P d)
  unfolding read_parameters
  stable_parameters d w s = stable_if (begins_params source w) (stable_parameter_list d w s) same

  pub stable_superclass : (d : DoBlockOwner) → Stable (read_superclass source Q d) (read_superclass source P d)
  unfolding read_superclass
  stable_superclass d w s = stable_if (is_mark source (codes "<") w) (stable_then (S.arg d (next w) s) (λ a r z. same)) same
