-- What a reader with one token of lookahead takes: operands, and what stands behind them.
use Rattle.std.specs.Prelude.{ℕ, zero, suc, neg_ℤ, Bool, true, false, not, ◌&&◌, ◌||◌, [], ◌∷◌, codes, Option, Some, None, if◌then◌else◌}
use Rattle.ruby_lexer.specs.Bytes.{Bytes}
use Rattle.ruby_lexer.specs.Forms.{text_of}
use Rattle.ruby_lexer.specs.Pieces.{Toks, Parts, Kind}
use Rattle.ruby_lexer.specs.Pieces as token
use Rattle.ruby_tree.specs.Tree.{SourcePosition, Tree, at, Form, nil_value, true_value, false_value, integer, symbol, text, self_value, file_name, folder_name, line_number, local, instance, global, joined, array, hash, constant_path, send, yield, super, bare_super, if_else, while_loop, case_of, case_tests, retry, method, class, module_named, body, no_more, Other, without, with, no_pair, Whens, no_param}
use Rattle.ruby_tree.specs.Rules.{Scope, fresh, is_local, blank, next, front, position, position_with, DoBlockOwner, own, loops, within, word, is_mark, is_word, opens, opens_block, begins_arguments, begins_arg, is_command, is_negative, assigns}
use Rattle.ruby_tree.specs.Build.{Given, nothing, has_block, or_empty, call_form, bare_form, path_with, texts_at, symbols_at}
use Rattle.ruby_tree.specs.FaultLine.{count_of}
use Rattle.reference_parser.specs.Answers.{Answer, taken, fault, Parse, ◌>>=◌, ◌>>>◌}
use Rattle.reference_parser.specs.Fronts.{is_newline, is_name, is_constant, skip_newlines, then_at, loop_start_at, method_name_at, on_self_at, is_dot}
use Rattle.reference_parser.specs.ReadItems.{Readers, closed, elements, pair_list, items, items_from, read_items, in_brackets}
use Rattle.reference_parser.specs.ReadBodies.{read_body, ended, read_block, call_block, call_items, text_parts, read_else, when_list, read_parameters, read_superclass}

-- What an operand was read as: itself; an attribute or an element that is set by what stands behind it; or the receiver of a command, whose
-- arguments stand behind it.
pub data Start : Type 0 where
  operand : Tree → Start
  attribute : Tree → SourcePosition → Bytes → Start
  element : Tree → SourcePosition → Tree → Start
  command : Bool → Tree → SourcePosition → Bytes → Start

-- `if`, or `unless`, which has its parts swapped
abbrev pub choice : Bool → Tree → Tree → Other → Form
choice true c t e = if_else c t e
choice false c t e = if_else c (or_empty e) (with t)

module _ (source : Bytes) (Q : Readers) where
  -- a name with brackets behind it
  unfoldable pub called_name : DoBlockOwner → Parse Tree
  called_name d w s = in_brackets source Q (next w) s >>= λ g q y. call_block source Q d g q y >>= λ b r z.
      taken (at (position w) (send without g.trees g.spread g.value (word source w) false b)) r z

  unfoldable pub read_name : DoBlockOwner → Parse Tree
  read_name d w s =
      if opens source (next w) then called_name d w s
      else if is_command source s (word source w) (next w) then fault
      else if opens_block source d (next w) then
      (read_block source Q (next w) s >>= λ b r z. taken (at (position w) (send without no_more [] without (word source w) false (with b))) r z)
      else if is_local s (word source w) then taken (at (position w) (local (word source w))) (next w) s
      else taken (at (position w) (bare_form s (word source w))) (next w) s

  unfoldable pub read_constant : DoBlockOwner → Parse Tree
  read_constant d w s =
      if opens source (next w) then called_name d w s
      else taken (at (position w) (constant_path without false (word source w ∷ []))) (next w) s

  unfoldable pub read_yield : Parse Tree
  read_yield w s =
      if opens source (next w) then (in_brackets source Q (next w) s >>= λ g r z. if has_block g then fault else taken (at (position w) (yield g.trees g.spread)) r z)
      else if begins_arguments source (next w) then fault
      else taken (at (position w) (yield no_more [])) (next w) s

  unfoldable pub read_super : DoBlockOwner → Parse Tree
  read_super d w s =
      if opens source (next w) then
      (in_brackets source Q (next w) s >>= λ g q y. call_block source Q d g q y >>= λ b r z. taken (at (position w) (super g.trees g.spread g.value b)) r z)
      else if begins_arguments source (next w) then fault
      else (call_block source Q d nothing (next w) s >>= λ b r z. taken (at (position w) (bare_super b)) r z)

  unfoldable pub read_choice : Bool → DoBlockOwner → Parse Tree
  read_choice b d w s = Q.expr (within d) (next w) s >>= λ c q y. then_at source q >>> λ _ v. Q.stmts (within d) v y >>= λ t p x. Q.else_branches (within d) p x >>= λ e r z.
      ended source Q (at (position w) (choice b c t e)) r z

  -- a loop, and whether it ends where the condition holds
  unfoldable pub read_loop : Bool → DoBlockOwner → Parse Tree
  read_loop b d w s = Q.expr loops (next w) s >>= λ c q y. loop_start_at source q >>> λ _ v. Q.stmts (within d) v y >>= λ t r z.
      ended source Q (at (position w) (while_loop t c b false)) r z

  unfoldable pub read_begin : DoBlockOwner → Parse Tree
  read_begin d w s = read_body source Q (within d) (position w) (next w) s >>= λ t r z. ended source Q t r z

  -- the parts of a `case` that begins at w
  unfoldable pub read_whens : (Whens → Other → Form) → DoBlockOwner → Toks → Parse Tree
  read_whens make d w v s =
      if is_word source (codes "when") v then
      (when_list source Q (suc (count_of v)) (within d) v s >>= λ ws p x. read_else source Q (within d) p x >>= λ e r z. ended source Q (at (position w) (make ws e)) r z)
      else fault

  unfoldable pub read_case : DoBlockOwner → Parse Tree
  read_case d w s =
      if is_newline (next w) || is_word source (codes "when") (next w) then read_whens case_tests d w (skip_newlines source (next w)) s
      else (Q.expr (within d) (next w) s >>= λ a q y. read_whens (case_of a) d w (skip_newlines source q) y)

  unfoldable pub read_method : DoBlockOwner → Parse Tree
  read_method d w s = on_self_at source (next w) >>> λ b q. method_name_at source true q >>> λ m v. read_parameters source Q (within d) v fresh >>= λ ps u y. read_body source Q (within d) (position u) u y >>= λ t r z.
      ended source Q (at (position w) (method m (at (position w) (body ps t)) b)) r s

  unfoldable pub read_class : DoBlockOwner → Parse Tree
  read_class d w s =
      if is_constant (next w) then
      (read_superclass source Q (within d) (next (next w)) s >>= λ c q y.
      if is_newline q then
      (read_body source Q (within d) (position (next q)) (next q) fresh >>= λ t r z. ended source Q (at (position w) (class c (word source (next w)) (at (position w) (body no_param t)))) r y)
      else fault)
      else fault

  unfoldable pub read_module : DoBlockOwner → Parse Tree
  read_module d w s =
      if is_constant (next w) && is_newline (next (next w)) then
      (read_body source Q (within d) (position (next (next (next w)))) (next (next (next w))) fresh >>= λ t r z. ended source Q (at (position w) (module_named (word source (next w)) (at (position w) (body no_param t)))) r s)
      else fault

  -- `begin`, `case` or a definition
  unfoldable pub block_form_at : DoBlockOwner → Parse Tree
  block_form_at d w s =
      if is_word source (codes "begin") w then read_begin d w s
      else if is_word source (codes "case") w then read_case d w s
      else if is_word source (codes "def") w then read_method d w s
      else if is_word source (codes "class") w then read_class d w s
      else if is_word source (codes "module") w then read_module d w s
      else fault

  -- an operand that begins with a word of the language
  unfoldable pub read_form : DoBlockOwner → Parse Tree
  read_form d w s =
      if is_word source (codes "yield") w then read_yield w s
      else if is_word source (codes "super") w then read_super d w s
      else if is_word source (codes "if") w then read_choice true d w s
      else if is_word source (codes "unless") w then read_choice false d w s
      else if is_word source (codes "while") w then read_loop false d w s
      else if is_word source (codes "until") w then read_loop true d w s
      else block_form_at d w s

  unfoldable pub read_word : DoBlockOwner → Parse Tree
  read_word d w s =
      if is_word source (codes "nil") w then taken (at (position w) nil_value) (next w) s
      else if is_word source (codes "true") w then taken (at (position w) true_value) (next w) s
      else if is_word source (codes "false") w then taken (at (position w) false_value) (next w) s
      else if is_word source (codes "self") w then taken (at (position w) self_value) (next w) s
      else if is_word source (codes "__FILE__") w then taken (at (position w) file_name) (next w) s
      else if is_word source (codes "__dir__") w then taken (at (position w) folder_name) (next w) s
      else if is_word source (codes "__LINE__") w then taken (at (position w) line_number) (next w) s
      else if is_word source (codes "retry") w then taken (at (position w) retry) (next w) s
      else read_form d w s

  unfoldable pub read_list : Parse Tree
  read_list w s =
      if is_mark source (codes "]") (next w) then taken (at (position w) (array no_more [])) (next (next w)) s
      else (elements source Q (suc (count_of w)) 0 (next w) s >>= λ g q z. closed source (codes "]") (at (position w) (array g.trees g.spread)) q z)

  unfoldable pub read_hash : Parse Tree
  read_hash w s =
      if is_mark source (codes "}") (next w) then taken (at (position w) (hash no_pair)) (next (next w)) s
      else (pair_list source Q (suc (count_of w)) own (next w) s >>= λ ps q z. closed source (codes "}") (at (position w) (hash ps)) q z)

  unfoldable pub read_group : Parse Tree
  read_group w s = Q.stmts own (next w) s >>= λ t r z. if is_mark source (codes ")") r then taken t (next r) z else fault

  unfoldable pub negative_by : Toks → Scope → Option Kind → Answer Tree
  negative_by w s (Some (token.integer n)) = taken (at (position w) (integer (neg_ℤ n))) (next (next w)) s
  negative_by w s _ = fault

  -- an operand that begins with a mark
  unfoldable pub read_mark : DoBlockOwner → Parse Tree
  read_mark d w s =
      if is_mark source (codes "[") w then read_list w s
      else if is_mark source (codes "{") w then read_hash w s
      else if is_mark source (codes "(") w then read_group w s
      else if is_mark source (codes "::") w then
      (if is_constant (next w) then taken (at (position w) (constant_path without true (word source (next w) ∷ []))) (next (next w)) s else fault)
      else if is_negative source w then negative_by w s (front (next w))
      else fault

  unfoldable pub literal_by : Toks → Scope → Parts → Option Bytes → Answer Tree
  literal_by w s ps (Some f) = taken (at (position w) (text f)) (next w) s
  literal_by w s ps None = text_parts source Q ps s >>= λ qs r z. taken (at (position w) (joined qs)) (next w) z

  unfoldable pub primary_by : DoBlockOwner → Toks → Scope → Option Kind → Answer Tree
  primary_by d w s (Some (token.integer n)) = taken (at (position w) (integer n)) (next w) s
  primary_by d w s (Some token.name) = read_name d w s
  primary_by d w s (Some token.constant) = read_constant d w s
  primary_by d w s (Some token.variable) = taken (at (position w) (instance (word source w))) (next w) s
  primary_by d w s (Some token.global) = taken (at (position w) (global (word source w))) (next w) s
  primary_by d w s (Some token.keyword) = read_word d w s
  primary_by d w s (Some token.mark) = read_mark d w s
  primary_by d w s (Some (token.literal ps)) = literal_by w s ps (text_of ps)
  primary_by d w s (Some (token.symbol f)) = taken (at (position w) (symbol f)) (next w) s
  primary_by d w s (Some (token.words fs)) = taken (at (position w) (array (texts_at (position w) fs) [])) (next w) s
  primary_by d w s (Some (token.symbols fs)) = taken (at (position w) (array (symbols_at (position w) fs) [])) (next w) s
  primary_by d w s _ = fault

  unfoldable pub read_primary : DoBlockOwner → Parse Tree
  read_primary d w s = primary_by d w s (front w)

  -- What stands behind an operand a that begins at o, each by itself; what follows is read by the function given.
  unfoldable pub read_call : (Tree → Parse Start) → DoBlockOwner → Toks → Tree → Parse Start
  read_call further d o a w s = method_name_at source false (next w) >>> λ m v.
      if begins_arguments source v then taken (command (is_mark source (codes "&.") w) a (position_with o (next w)) m) v s
      else if assigns source v then
      (if is_mark source (codes ".") w && is_name (next w) then taken (attribute a (position_with o (next w)) m) v s else fault)
      else (call_items source Q d v s >>= λ c p y. further (at (position_with o (next w)) (call_form (is_mark source (codes "&.") w) a c.given m c.block)) p y)

  unfoldable pub end_index : (Tree → Parse Start) → Toks → Tree → Toks → Given → Parse Start
  end_index further o a w g p y =
      if is_mark source (codes "]") p && not (assigns source (next p)) then
      further (at (position_with o w) (send (with a) g.trees g.spread g.value (codes "[]") false g.block)) (next p) y
      else fault

  unfoldable pub read_index : (Tree → Parse Start) → Toks → Tree → Parse Start
  read_index further o a w s =
      if begins_arg source (next w) then
      (Q.arg own (next w) s >>= λ i q x.
      if is_mark source (codes "]") q && assigns source (next q) then taken (element a (position_with o w) i) (next q) x
      else (items_from source Q (items source Q (suc (count_of w)) own 1) own 0 (next w) (record { spread = false; tree = i }) q x >>= λ g p y. end_index further o a w g p y))
      else (read_items source Q own (next w) s >>= λ g p y. end_index further o a w g p y)

  -- the constant behind the `::` that w begins with
  unfoldable pub path_at : (Tree → Parse Start) → Toks → Tree → Parse Start
  path_at further o a w s = if is_constant (next w) then further (path_with o a (word source (next w))) (next (next w)) s else fault

  -- what stands behind an operand once, and then what is read by the function given
  unfoldable pub postfix_at : (Tree → Parse Start) → DoBlockOwner → Toks → Tree → Parse Start
  postfix_at further d o a w s =
      if is_dot source w then read_call further d o a w s
      else if is_mark source (codes "::") w then path_at further o a w s
      else if is_mark source (codes "[") w && not (blank w) then read_index further o a w s
      else taken (operand a) w s

  unfoldable pub postfixes : ℕ → DoBlockOwner → Toks → Tree → Parse Start
  postfixes zero d o a w s = fault
  postfixes (suc m) d o a w s = postfix_at (postfixes m d o) d o a w s

  unfoldable pub read_postfix : DoBlockOwner → Parse Start
  read_postfix d w s = read_primary d w s >>= λ a q y. postfixes (suc (count_of q)) d w a q y
