-- What a reader with one token of lookahead takes: bodies, blocks, what a call is given, parameters, and the parts of texts.
use Rattle.std.specs.Prelude.{ℕ, zero, suc, nat_le, nat_eq, not, ◌&&◌, codes, if◌then◌else◌}
use Rattle.ruby_lexer.specs.Bytes.{Bytes}
use Rattle.ruby_lexer.specs.Pieces.{none, Parts}
use Rattle.ruby_lexer.specs.Pieces as token
use Rattle.ruby_tree.specs.Tree.{SourcePosition, Tree, at, if_else, rescue, ensure, rescue_sequence, ensure_sequence, body, Other, without, with, Pieces, no_piece, plain_piece, code_piece, Whens, no_when, when, Rescues, no_clause, clause, Params, no_param, required, optional, rest_param, block_param}
use Rattle.ruby_tree.specs.Rules.{Scope, declare, in_clause, outside_clause, behind, next, position, DoBlockOwner, own, word, is_mark, is_word, opens, opens_block, opens_do, begins_params}
use Rattle.ruby_tree.specs.Build.{Given, nothing, has_block}
use Rattle.ruby_tree.specs.FaultLine.{count_of}
use Rattle.reference_parser.specs.Answers.{Answer, taken, fault, Parse, ◌>>=◌, ◌>>>◌}
use Rattle.reference_parser.specs.Fronts.{is_empty, is_newline, is_name, then_at}
use Rattle.reference_parser.specs.ReadItems.{Readers, read_bars, exception_name, read_several, in_brackets, read_classes}

-- what a call is given in brackets, and its block
pub record Called : Type 0 where
  pub given : Given
  pub block : Other

module _ (source : Bytes) (Q : Readers) where
  -- the clauses of a body, of which the first begins at w
  unfoldable pub clauses : ℕ → DoBlockOwner → Parse Rescues
  clauses zero d w s = fault
  clauses (suc m) d w s = read_classes source Q d (next w) (in_clause s) >>= λ cs p y. exception_name source p y >>= λ x q u. then_at source q >>> λ _ v. Q.stmts d v u >>= λ t r z.
      if is_word source (codes "rescue") r then (clauses m d r (behind s z) >>= λ rs n l. taken (clause cs x t rs) n l)
      else taken (clause cs x t no_clause) r (behind s z)

  unfoldable pub read_else : DoBlockOwner → Parse Other
  read_else d w s = if is_word source (codes "else") w then (Q.stmts d (next w) s >>= λ t r z. taken (with t) r z) else taken without w s

  -- statements with their rescue clauses, and then with what is ensured
  unfoldable pub rescued_body : DoBlockOwner → SourcePosition → Parse Tree
  rescued_body d o w s = Q.stmts d w s >>= λ t q y.
      if is_word source (codes "rescue") q then
      (clauses (suc (count_of q)) d q y >>= λ rs p x. read_else d p x >>= λ e r z. taken (at o (rescue t e (at (position q) (rescue_sequence rs)))) r z)
      else taken t q y

  unfoldable pub read_body : DoBlockOwner → SourcePosition → Parse Tree
  read_body d o w s = rescued_body d o w s >>= λ t q y.
      if is_word source (codes "ensure") q then (Q.stmts d (next q) (outside_clause y) >>= λ e r z. taken (at o (ensure t (at (position q) (ensure_sequence e)))) r (behind y z))
      else taken t q y

  -- a part up to `end`
  unfoldable pub ended : {A : Type 0} → A → Parse A
  ended a w s = if is_word source (codes "end") w then taken a (next w) s else fault

  -- a block, which begins at w
  unfoldable pub do_block : Parse Tree
  do_block w s = read_bars source (next w) (outside_clause s) >>= λ ps q y. read_body own (position q) q y >>= λ t r z. ended (at (position w) (body ps t)) r s

  unfoldable pub brace_block : Parse Tree
  brace_block w s = read_bars source (next w) (outside_clause s) >>= λ ps q y. Q.stmts own q y >>= λ t r z.
      if is_mark source (codes "}") r then taken (at (position w) (body ps t)) (next r) s else fault

  unfoldable pub read_block : Parse Tree
  read_block w s = if is_mark source (codes "{") w then brace_block w s else do_block w s

  -- the block of a call that was given g
  unfoldable pub call_block : DoBlockOwner → Given → Parse Other
  call_block d g w s =
      if opens_block source d w && not (has_block g) then (read_block w s >>= λ b r z. taken (with b) r z) else taken g.block w s

  unfoldable pub command_block : DoBlockOwner → Given → Parse Other
  command_block d g w s =
      if opens_do source d w && not (has_block g) then (do_block w s >>= λ b r z. taken (with b) r z) else taken g.block w s

  unfoldable pub call_items : DoBlockOwner → Parse Called
  call_items d w s =
      if opens source w then (in_brackets source Q w s >>= λ g q y. call_block d g q y >>= λ b r z. taken (record { given = g; block = b }) r z)
      else (call_block d nothing w s >>= λ b r z. taken (record { given = nothing; block = b }) r z)

  -- the parts of a text, with no tokens behind them
  unfoldable pub text_parts : Parts → Scope → Answer Pieces
  text_parts token.ends s = taken no_piece none s
  text_parts (token.plain f ps) s = text_parts ps s >>= λ qs r z. taken (plain_piece f qs) none z
  text_parts (token.code ts ps) s = Q.stmts own ts s >>= λ t r y.
      if is_empty r then (text_parts ps y >>= λ qs n z. taken (code_piece t qs) none z) else fault

  unfoldable pub read_else_branches : DoBlockOwner → Parse Other
  read_else_branches d w s =
      if is_word source (codes "elsif") w then
      (Q.expr d (next w) s >>= λ c q y. then_at source q >>> λ _ v. Q.stmts d v y >>= λ t p x. Q.else_branches d p x >>= λ e r z. taken (with (at (position w) (if_else c t e))) r z)
      else read_else d w s

  -- the parts of a `case`, of which the first begins at w
  unfoldable pub when_list : ℕ → DoBlockOwner → Parse Whens
  when_list zero d w s = fault
  when_list (suc m) d w s = read_several source Q d (next w) s >>= λ ts q y. then_at source q >>> λ _ v. Q.stmts d v y >>= λ t p x.
      if is_word source (codes "when") p then (when_list m d p x >>= λ ws r z. taken (when ts t ws) r z) else taken (when ts t no_when) p x

  -- Parameters of a method from the l-th kind on: 0 required ones, 1 those with a default, 2 the rest, 3 the block. Those behind the first
  -- are read by the function given.
  unfoldable pub default_param : (ℕ → Parse Params) → DoBlockOwner → Parse Params
  default_param further d w s = Q.arg d (next (next w)) (declare (word source w) s) >>= λ a q y.
      if is_mark source (codes ",") q then (further 1 (next q) y >>= λ ps r z. taken (optional (word source w) a ps) r z)
      else taken (optional (word source w) a no_param) q y

  unfoldable pub named_param : (ℕ → Parse Params) → DoBlockOwner → ℕ → Parse Params
  named_param further d l w s =
      if is_mark source (codes "=") (next w) then (if nat_le l 1 then default_param further d w s else fault)
      else if nat_eq l 0 then
      (if is_mark source (codes ",") (next w) then (further 0 (next (next w)) (declare (word source w) s) >>= λ ps r z. taken (required (word source w) ps) r z)
      else taken (required (word source w) no_param) (next w) (declare (word source w) s))
      else fault

  unfoldable pub left_param : (ℕ → Parse Params) → Parse Params
  left_param further w s =
      if is_mark source (codes ",") (next (next w)) then
      (further 3 (next (next (next w))) (declare (word source (next w)) s) >>= λ ps r z. taken (rest_param (word source (next w)) ps) r z)
      else taken (rest_param (word source (next w)) no_param) (next (next w)) (declare (word source (next w)) s)

  unfoldable pub method_params : ℕ → DoBlockOwner → ℕ → Parse Params
  method_params zero d l w s = fault
  method_params (suc m) d l w s =
      if is_name w then named_param (method_params m d) d l w s
      else if is_mark source (codes "*") w && (is_name (next w) && nat_le l 2) then left_param (method_params m d) w s
      else if is_mark source (codes "&") w && is_name (next w) then taken (block_param (word source (next w)) no_param) (next (next w)) (declare (word source (next w)) s)
      else fault

  unfoldable pub bracket_params : Parse Params
  bracket_params w s =
      if is_mark source (codes ")") (next w) then taken no_param (next (next w)) s
      else (method_params (suc (count_of w)) own 0 (next w) s >>= λ ps r z. if is_mark source (codes ")") r then taken ps (next r) z else fault)

  unfoldable pub parameter_list : DoBlockOwner → Parse Params
  parameter_list d w s =
      if is_mark source (codes "(") w then bracket_params w s
      else if is_newline w then taken no_param (next w) s
      else (method_params (suc (count_of w)) d 0 w s >>= λ ps r z. if is_newline r then taken ps (next r) z else fault)

  unfoldable pub read_parameters : DoBlockOwner → Parse Params
  read_parameters d w s = if begins_params source w then parameter_list d w s else taken no_param w s

  unfoldable pub read_superclass : DoBlockOwner → Parse Other
  read_superclass d w s = if is_mark source (codes "<") w then (Q.arg d (next w) s >>= λ a r z. taken (with a) r z) else taken without w s
