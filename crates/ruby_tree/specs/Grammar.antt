-- The grammar: which trees are derived from the front of a list of tokens.
use Rattle.std.specs.Prelude.{◌≡◌, ℕ, zero, suc, neg_ℤ, ℤ, nat_le, Bool, true, false, not, ◌&&◌, ◌||◌, List, [], ◌∷◌, ◌++◌, Option, Some, None, codes}
use Rattle.ruby_lexer.specs.Bytes.{Bytes}
use Rattle.ruby_lexer.specs.Forms.{text_of}
use Rattle.ruby_lexer.specs.Pieces.{Parts, Toks}
use Rattle.ruby_lexer.specs.Pieces as token
use Rattle.ruby_tree.specs.Tree.{SourcePosition, Goal, to_constant, Tree, at, nil_value, true_value, false_value, integer, symbol, text, self_value, file_name, folder_name, line_number, local, instance, global, joined, array, hash, range, constant_path, assign, assign_all, assign_attribute, assign_index, operate_attribute, or_attribute, and_attribute, operate_index, or_index, and_index, send, yield, super, bare_super, statements, both, either, negated, if_else, while_loop, case_of, case_tests, return_with, break_with, next_with, retry, rescue, ensure, rescue_sequence, ensure_sequence, method, class, module_named, body, Trees, no_more, more, Other, without, with, Pairs, no_pair, pair, Pieces, no_piece, plain_piece, code_piece, Whens, no_when, when, Rescues, no_clause, clause, Params, no_param, required, optional, rest_param, block_param}
use Rattle.ruby_tree.specs.Rules.{Scope, fresh, is_local, declare, declared, in_clause, outside_clause, behind, next, front, blank, touches_next, line_at, position, position_with, nowhere, is_kind_newline, modifiers, method_marks, sending_assignments, product_marks, sum_marks, shift_marks, intersection_marks, union_marks, order_marks, equality_marks, but_last, DoBlockOwner, own, loops, in_arguments, within, call_takes, command_takes, word, mark_in, word_in, is_mark, is_word, begins_arguments, begins_arg, begins_value, begins_statement, begins_targets, sets, goes_on, is_command, opens, opens_block, opens_do, is_negative, assigns, begins_params, goal_at}
use Rattle.ruby_tree.specs.Build.{Given, nothing, has_block, spread_at, symbol_of, is_body, one, alone, or_empty, read_form, call_form, sent, bare_form, path_with, symbol_block, rescued, texts_at, symbols_at, binary, conjunction, disjunction}

-- A symbol of the grammar: the tokens, the locals before, what is derived, the tokens behind it, and the locals behind.
abbrev pub Rel : Type 0 → Type 1
Rel A = Toks → Scope → A → Toks → Scope → Type 0

-- The symbols that nest. Each is told whose a `do` is that stands behind a call.
pub record Rels : Type 1 where
  pub stmts : DoBlockOwner → Rel Tree
  pub expr : DoBlockOwner → Rel Tree
  pub test : DoBlockOwner → Rel Tree
  -- a command or an argument
  pub assigned_value : DoBlockOwner → Rel Tree
  pub arg : DoBlockOwner → Rel Tree
  pub minus : DoBlockOwner → Rel Tree
  pub power : DoBlockOwner → Rel Tree
  pub unary_operand : DoBlockOwner → Rel Tree
  -- what follows where the condition of an `if` does not hold
  pub else_branches : DoBlockOwner → Rel Other

module _ (source : Bytes) where
  -- the first token is this mark, this word, or a newline
  abbrev pub Mark : Bytes → Toks → Type 0
  Mark f w = is_mark source f w ≡ true

  abbrev pub Word : Bytes → Toks → Type 0
  Word f w = is_word source f w ≡ true

  abbrev pub NoMark : Bytes → Toks → Type 0
  NoMark f w = is_mark source f w ≡ false

  abbrev pub NoWord : Bytes → Toks → Type 0
  NoWord f w = is_word source f w ≡ false

  abbrev pub Newline : Toks → Type 0
  Newline w = is_kind_newline (front w) ≡ true

  abbrev pub NoNewline : Toks → Type 0
  NoNewline w = is_kind_newline (front w) ≡ false

  -- A comma before the bracket that closes a list, or none.
  pub data Trailing : Toks → Toks → Type 0 where
    comma : {w : Toks} → Mark (codes ",") w → Trailing w (next w)
    no_comma : {w : Toks} → Trailing w w

  -- What stands before the body of a form: a newline, `then`, or both.
  pub data Then : Toks → Toks → Type 0 where
    line : {w : Toks} → Newline w → NoWord (codes "then") (next w) → Then w (next w)
    written : {w : Toks} → Word (codes "then") w → Then w (next w)
    line_and_written : {w : Toks} → Newline w → Word (codes "then") (next w) → Then w (next (next w))

  -- What stands before the body of a loop: a newline or `do`.
  pub data LoopStart : Toks → Toks → Type 0 where
    line : {w : Toks} → Newline w → LoopStart w (next w)
    written : {w : Toks} → Word (codes "do") w → LoopStart w (next w)

  -- any number of newlines, all that there are
  pub data Newlines : Toks → Toks → Type 0 where
    skipped : {w r : Toks} → Newline w → Newlines (next w) r → Newlines w r
    passed : {w : Toks} → NoNewline w → Newlines w w

  -- `.`, or `&.`, which is safe
  pub data Dot : Bool → Toks → Type 0 where
    plain : {w : Toks} → Mark (codes ".") w → Dot false w
    safe : {w : Toks} → Mark (codes "&.") w → Dot true w

  -- The name of a method. A name with `=` is one where a method is defined alone. The `=` stands directly behind the name, and so do the marks
  -- of `[]` and `[]=` behind one another, with nothing between them.
  pub data MethodName (defines : Bool) : Toks → Bytes → Toks → Type 0 where
    name : {w : Toks} → front w ≡ Some token.name → (defines && (is_mark source (codes "=") (next w) && touches_next w)) ≡ false → MethodName defines w (word source w) (next w)
    setter : {w : Toks} → defines ≡ true → front w ≡ Some token.name → Mark (codes "=") (next w) → touches_next w ≡ true → MethodName defines w (word source w ++ codes "=") (next (next w))
    constant : {w : Toks} → front w ≡ Some token.constant → MethodName defines w (word source w) (next w)
    operator : {w : Toks} → mark_in source method_marks w ≡ true → MethodName defines w (word source w) (next w)
    index : {w : Toks} → Mark (codes "[") w → Mark (codes "]") (next w) → touches_next w ≡ true → (is_mark source (codes "=") (next (next w)) && touches_next (next w)) ≡ false → MethodName defines w (codes "[]") (next (next w))
    index_setter : {w : Toks} → Mark (codes "[") w → Mark (codes "]") (next w) → touches_next w ≡ true → Mark (codes "=") (next (next w)) → touches_next (next w) ≡ true → MethodName defines w (codes "[]=") (next (next (next w)))

  -- The parameters of a block. Each is a local from its token on.
  pub data BlockParams : Toks → Scope → Params → Toks → Scope → Type 0 where
    last : {w : Toks} {s : Scope} → front w ≡ Some token.name → BlockParams w s (required (word source w) no_param) (next w) (declare (word source w) s)
    another : {w r : Toks} {s z : Scope} {ps : Params} → front w ≡ Some token.name → Mark (codes ",") (next w) → BlockParams (next (next w)) (declare (word source w) s) ps r z → BlockParams w s (required (word source w) ps) r z
    rest : {w : Toks} {s : Scope} → Mark (codes "*") w → front (next w) ≡ Some token.name → BlockParams w s (rest_param (word source (next w)) no_param) (next (next w)) (declare (word source (next w)) s)

  -- The parameters of a block between bars, or no bars.
  pub data Bars : Toks → Scope → Params → Toks → Scope → Type 0 where
    missing : {w : Toks} {s : Scope} → NoMark (codes "|") w → Bars w s no_param w s
    empty : {w : Toks} {s : Scope} → Mark (codes "|") w → Mark (codes "|") (next w) → Bars w s no_param (next (next w)) s
    given : {w r : Toks} {s z : Scope} {ps : Params} → Mark (codes "|") w → BlockParams (next w) s ps r z → Mark (codes "|") r → Bars w s ps (next r) z

  -- the name that the exception of a rescue clause gets, a local from there on; or none
  pub data ExceptionName : Toks → Scope → (Option Bytes) → Toks → Scope → Type 0 where
    missing : {w : Toks} {s : Scope} → NoMark (codes "=>") w → ExceptionName w s None w s
    given : {w : Toks} {s : Scope} → Mark (codes "=>") w → front (next w) ≡ Some token.name → ExceptionName w s (Some (word source (next w))) (next (next w)) (declare (word source (next w)) s)

  -- The targets of an assignment to several, each a local from its token on.
  pub data MoreTargets : Toks → Scope → (List Goal) → Toks → Scope → Type 0 where
    last : {w : Toks} {s : Scope} {g : Goal} → goal_at source w ≡ Some g → MoreTargets w s (g ∷ []) (next w) (declared g s)
    another : {w r : Toks} {s z : Scope} {g : Goal} {gs : List Goal} → goal_at source w ≡ Some g → Mark (codes ",") (next w) → MoreTargets (next (next w)) (declared g s) gs r z → MoreTargets w s (g ∷ gs) r z

  pub data Targets : Toks → Scope → (List Goal) → Toks → Scope → Type 0 where
    several : {w r : Toks} {s z : Scope} {g : Goal} {gs : List Goal} → goal_at source w ≡ Some g → Mark (codes ",") (next w) → MoreTargets (next (next w)) (declared g s) gs r z → Targets w s (g ∷ gs) r z

  module _ (R : Rels) where
    -- Arguments with commas between, as many as there are: a comma always goes on.
    pub data Several (d : DoBlockOwner) : Toks → Scope → Trees → Toks → Scope → Type 0 where
      last : {w r : Toks} {s z : Scope} {a : Tree} → R.arg d w s a r z → NoMark (codes ",") r → Several d w s (one a) r z
      another : {w q r : Toks} {s y z : Scope} {a : Tree} {ts : Trees} → R.arg d w s a q y → Mark (codes ",") q → Several d (next q) y ts r z → Several d w s (more a ts) r z

    -- an element, which may be spread
    pub data Element (d : DoBlockOwner) : Bool → Toks → Scope → Tree → Toks → Scope → Type 0 where
      plain : {w r : Toks} {s z : Scope} {a : Tree} → R.arg d w s a r z → Element d false w s a r z
      spread : {w r : Toks} {s z : Scope} {a : Tree} → Mark (codes "*") w → R.arg d (next w) s a r z → Element d true w s a r z

    -- Elements from the k-th on, and the places of those that are spread.
    pub data Elements (d : DoBlockOwner) : ℕ → Toks → Scope → Trees → List ℕ → Toks → Scope → Type 0 where
      last : {k : ℕ} {b : Bool} {w r : Toks} {s z : Scope} {a : Tree} → Element d b w s a r z → Elements d k w s (one a) (spread_at b k []) r z
      another : {k : ℕ} {b : Bool} {w q r : Toks} {s y z : Scope} {a : Tree} {ts : Trees} {ks : List ℕ} → Element d b w s a q y → Mark (codes ",") q → Elements d (suc k) (next q) y ts ks r z → Elements d k w s (more a ts) (spread_at b k ks) r z

    -- A pair of a key and a value. A label is a symbol.
    pub data Pair (d : DoBlockOwner) : Toks → Scope → Tree → Tree → Toks → Scope → Type 0 where
      label : {w r : Toks} {s z : Scope} {ps : Parts} {f : Bytes} {v : Tree} → front w ≡ Some (token.label ps) → text_of ps ≡ Some f → R.arg d (next w) s v r z → Pair d w s (at (position w) (symbol f)) v r z
      arrow : {w q r : Toks} {s y z : Scope} {k v : Tree} → R.arg d w s k q y → Mark (codes "=>") q → R.arg d (next q) y v r z → Pair d w s k v r z

    pub data PairList (d : DoBlockOwner) : Toks → Scope → Pairs → Toks → Scope → Type 0 where
      last : {w r : Toks} {s z : Scope} {k v : Tree} → Pair d w s k v r z → PairList d w s (pair k v no_pair) r z
      another : {w q r : Toks} {s y z : Scope} {k v : Tree} {ps : Pairs} → Pair d w s k v q y → Mark (codes ",") q → PairList d (next q) y ps r z → PairList d w s (pair k v ps) r z

    -- What stands behind `&`: a block value. Exactly one symbol is a block that calls the method of that name.
    pub data Passed (d : DoBlockOwner) : Toks → Scope → Other → Other → Toks → Scope → Type 0 where
      value : {w r : Toks} {s z : Scope} {a : Tree} → Mark (codes "&") w → R.arg d (next w) s a r z → symbol_of a ≡ None → Passed d w s (with a) without r z
      named : {w r : Toks} {s z : Scope} {a : Tree} {m : Bytes} → Mark (codes "&") w → R.arg d (next w) s a r z → symbol_of a ≡ Some m → Passed d w s without (with (symbol_block w m)) r z

    -- The items of a call from the k-th on: elements, then pairs, which make one hash, then what is passed behind `&`. An argument with an arrow
    -- behind it is a key: it is no item by itself.
    pub data Items (d : DoBlockOwner) : ℕ → Toks → Scope → Given → Toks → Scope → Type 0 where
      element : {k : ℕ} {b : Bool} {w r : Toks} {s z : Scope} {a : Tree} → Element d b w s a r z → (not b && is_mark source (codes "=>") r) ≡ false → Items d k w s (record { trees = one a; spread = spread_at b k []; value = without; block = without }) r z
      another : {k : ℕ} {b : Bool} {w q r : Toks} {s y z : Scope} {a : Tree} {g : Given} → Element d b w s a q y → Mark (codes ",") q → Items d (suc k) (next q) y g r z → Items d k w s (record { trees = more a g.trees; spread = spread_at b k g.spread; value = g.value; block = g.block }) r z
      pairs : {k : ℕ} {w r : Toks} {s z : Scope} {ps : Pairs} → PairList d w s ps r z → Items d k w s (record { trees = one (at (position w) (hash ps)); spread = []; value = without; block = without }) r z
      pairs_and_passed : {k : ℕ} {w q r : Toks} {s y z : Scope} {ps : Pairs} {v b : Other} → PairList d w s ps q y → Mark (codes ",") q → Passed d (next q) y v b r z → Items d k w s (record { trees = one (at (position w) (hash ps)); spread = []; value = v; block = b }) r z
      passed : {k : ℕ} {w r : Toks} {s z : Scope} {v b : Other} → Passed d w s v b r z → Items d k w s (record { trees = no_more; spread = []; value = v; block = b }) r z

    -- items in brackets
    pub data InBrackets : Toks → Scope → Given → Toks → Scope → Type 0 where
      empty : {w : Toks} {s : Scope} → Mark (codes "(") w → Mark (codes ")") (next w) → InBrackets w s nothing (next (next w)) s
      full : {w q r : Toks} {s z : Scope} {g : Given} → Mark (codes "(") w → Items own 0 (next w) s g q z → Trailing q r → Mark (codes ")") r → InBrackets w s g (next r) z

    -- Items without brackets. A comma goes on with the innermost command.
    pub data CommandItems (d : DoBlockOwner) : Toks → Scope → Given → Toks → Scope → Type 0 where
      items : {w r : Toks} {s z : Scope} {g : Given} → Items (in_arguments d) 0 w s g r z → NoMark (codes ",") r → CommandItems d w s g r z

    -- The classes of a rescue clause, if there are any.
    pub data Classes (d : DoBlockOwner) : Toks → Scope → Trees → Toks → Scope → Type 0 where
      missing : {w : Toks} {s : Scope} → begins_arg source w ≡ false → Classes d w s no_more w s
      given : {w r : Toks} {s z : Scope} {ts : Trees} → Several d w s ts r z → Classes d w s ts r z

    -- A rescue clause is one from its first word to its end.
    pub data Clauses (d : DoBlockOwner) : Toks → Scope → Rescues → Toks → Scope → Type 0 where
      last : {w p q v r : Toks} {s y u z : Scope} {cs : Trees} {x : Option Bytes} {t : Tree} →
          Word (codes "rescue") w → Classes d (next w) (in_clause s) cs p y → ExceptionName p y x q u → Then q v → R.stmts d v u t r z → NoWord (codes "rescue") r → Clauses d w s (clause cs x t no_clause) r (behind s z)
      another : {w p q v n r : Toks} {s y u x1 z : Scope} {cs : Trees} {x : Option Bytes} {t : Tree} {rs : Rescues} →
          Word (codes "rescue") w → Classes d (next w) (in_clause s) cs p y → ExceptionName p y x q u → Then q v → R.stmts d v u t n x1 → Clauses d n (behind s x1) rs r z → Clauses d w s (clause cs x t rs) r z

    -- a part behind `else`, if there is one
    pub data Else (d : DoBlockOwner) : Toks → Scope → Other → Toks → Scope → Type 0 where
      missing : {w : Toks} {s : Scope} → NoWord (codes "else") w → Else d w s without w s
      given : {w r : Toks} {s z : Scope} {t : Tree} → Word (codes "else") w → R.stmts d (next w) s t r z → Else d w s (with t) r z

    -- Statements with rescue clauses, or without. A node of them begins at o.
    pub data Rescued (d : DoBlockOwner) (o : SourcePosition) : Toks → Scope → Tree → Toks → Scope → Type 0 where
      plain : {w r : Toks} {s z : Scope} {t : Tree} → R.stmts d w s t r z → NoWord (codes "rescue") r → Rescued d o w s t r z
      clauses : {w q p r : Toks} {s y x z : Scope} {t : Tree} {rs : Rescues} {e : Other} → R.stmts d w s t q y → Clauses d q y rs p x → Else d p x e r z → Rescued d o w s (at o (rescue t e (at (position q) (rescue_sequence rs)))) r z

    -- The body of a method, a class, a module, a `do` block or a `begin`, with its clauses. Nodes of them begin at o.
    pub data Body (d : DoBlockOwner) (o : SourcePosition) : Toks → Scope → Tree → Toks → Scope → Type 0 where
      plain : {w r : Toks} {s z : Scope} {t : Tree} → Rescued d o w s t r z → NoWord (codes "ensure") r → Body d o w s t r z
      ensured : {w q r : Toks} {s y z : Scope} {t e : Tree} → Rescued d o w s t q y → Word (codes "ensure") q → R.stmts d (next q) (outside_clause y) e r z → Body d o w s (at o (ensure t (at (position q) (ensure_sequence e)))) r (behind y z)

    -- A block between `do` and `end`, and one of any form that a call takes. It sees the locals around it, and its own end with it.
    pub data DoBlock : Toks → Scope → Tree → Toks → Scope → Type 0 where
      block : {w q r : Toks} {s y z : Scope} {ps : Params} {t : Tree} → Word (codes "do") w → Bars (next w) (outside_clause s) ps q y → Body own (position q) q y t r z → Word (codes "end") r → DoBlock w s (at (position w) (body ps t)) (next r) s

    pub data Block (d : DoBlockOwner) : Toks → Scope → Tree → Toks → Scope → Type 0 where
      braces : {w q r : Toks} {s y z : Scope} {ps : Params} {t : Tree} → Mark (codes "{") w → Bars (next w) (outside_clause s) ps q y → R.stmts own q y t r z → Mark (codes "}") r → Block d w s (at (position w) (body ps t)) (next r) s
      with_do : {w r : Toks} {s z : Scope} {t : Tree} → call_takes d ≡ true → DoBlock w s t r z → Block d w s t r z

    -- The block of a call that was given g. A call with `&` takes none.
    pub data CallBlock (d : DoBlockOwner) (g : Given) : Toks → Scope → Other → Toks → Scope → Type 0 where
      missing : {w : Toks} {s : Scope} → (opens_block source d w && not (has_block g)) ≡ false → CallBlock d g w s g.block w s
      given : {w r : Toks} {s z : Scope} {b : Tree} → has_block g ≡ false → Block d w s b r z → CallBlock d g w s (with b) r z

    -- the block of a command, which begins with `do`
    pub data CommandBlock (d : DoBlockOwner) (g : Given) : Toks → Scope → Other → Toks → Scope → Type 0 where
      missing : {w : Toks} {s : Scope} → (opens_do source d w && not (has_block g)) ≡ false → CommandBlock d g w s g.block w s
      given : {w r : Toks} {s z : Scope} {b : Tree} → has_block g ≡ false → command_takes d ≡ true → DoBlock w s b r z → CommandBlock d g w s (with b) r z

    -- what a method's name may have behind it: items in brackets, and a block
    pub data CallItems (d : DoBlockOwner) : Toks → Scope → Given → Other → Toks → Scope → Type 0 where
      bare : {w r : Toks} {s z : Scope} {b : Other} → opens source w ≡ false → CallBlock d nothing w s b r z → CallItems d w s nothing b r z
      brackets : {w q r : Toks} {s y z : Scope} {g : Given} {b : Other} → opens source w ≡ true → InBrackets w s g q y → CallBlock d g q y b r z → CallItems d w s g b r z

    -- The parts of a text. The locals of its code go on behind it.
    pub data TextParts : Parts → Scope → Pieces → Scope → Type 0 where
      ends : {s : Scope} → TextParts token.ends s no_piece s
      plain : {f : Bytes} {ps : Parts} {s z : Scope} {qs : Pieces} → TextParts ps s qs z → TextParts (token.plain f ps) s (plain_piece f qs) z
      code : {ts : Toks} {ps : Parts} {s y z : Scope} {t : Tree} {qs : Pieces} → R.stmts own ts s t token.none y → TextParts ps y qs z → TextParts (token.code ts ps) s (code_piece t qs) z

    -- what follows where the condition of an `if` does not hold
    pub data ElseBranches (d : DoBlockOwner) : Toks → Scope → Other → Toks → Scope → Type 0 where
      elsif : {w q v p r : Toks} {s y x z : Scope} {c t : Tree} {e : Other} → Word (codes "elsif") w → R.expr d (next w) s c q y → Then q v → R.stmts d v y t p x → R.else_branches d p x e r z → ElseBranches d w s (with (at (position w) (if_else c t e))) r z
      other : {w r : Toks} {s z : Scope} {e : Other} → NoWord (codes "elsif") w → Else d w s e r z → ElseBranches d w s e r z

    pub data WhenList (d : DoBlockOwner) : Toks → Scope → Whens → Toks → Scope → Type 0 where
      last : {w q v r : Toks} {s y z : Scope} {ts : Trees} {t : Tree} → Word (codes "when") w → Several d (next w) s ts q y → Then q v → R.stmts d v y t r z → NoWord (codes "when") r → WhenList d w s (when ts t no_when) r z
      another : {w q v p r : Toks} {s y x z : Scope} {ts : Trees} {t : Tree} {ws : Whens} → Word (codes "when") w → Several d (next w) s ts q y → Then q v → R.stmts d v y t p x → WhenList d p x ws r z → WhenList d w s (when ts t ws) r z

    -- Parameters of a method from the l-th kind on: 0 required ones, 1 those with a default, 2 the rest, 3 the block. Each is a local from its
    -- token on.
    pub data MethodParams (d : DoBlockOwner) : ℕ → Toks → Scope → Params → Toks → Scope → Type 0 where
      named : {w : Toks} {s : Scope} → front w ≡ Some token.name → NoMark (codes "=") (next w) → MethodParams d 0 w s (required (word source w) no_param) (next w) (declare (word source w) s)
      named_more : {w r : Toks} {s z : Scope} {ps : Params} → front w ≡ Some token.name → Mark (codes ",") (next w) → MethodParams d 0 (next (next w)) (declare (word source w) s) ps r z → MethodParams d 0 w s (required (word source w) ps) r z
      default : {l : ℕ} {w r : Toks} {s z : Scope} {a : Tree} → nat_le l 1 ≡ true → front w ≡ Some token.name → Mark (codes "=") (next w) → R.arg d (next (next w)) (declare (word source w) s) a r z → MethodParams d l w s (optional (word source w) a no_param) r z
      default_more : {l : ℕ} {w q r : Toks} {s y z : Scope} {a : Tree} {ps : Params} → nat_le l 1 ≡ true → front w ≡ Some token.name → Mark (codes "=") (next w) → R.arg d (next (next w)) (declare (word source w) s) a q y → Mark (codes ",") q → MethodParams d 1 (next q) y ps r z → MethodParams d l w s (optional (word source w) a ps) r z
      left : {l : ℕ} {w : Toks} {s : Scope} → nat_le l 2 ≡ true → Mark (codes "*") w → front (next w) ≡ Some token.name → MethodParams d l w s (rest_param (word source (next w)) no_param) (next (next w)) (declare (word source (next w)) s)
      left_more : {l : ℕ} {w r : Toks} {s z : Scope} {ps : Params} → nat_le l 2 ≡ true → Mark (codes "*") w → front (next w) ≡ Some token.name → Mark (codes ",") (next (next w)) → MethodParams d 3 (next (next (next w))) (declare (word source (next w)) s) ps r z → MethodParams d l w s (rest_param (word source (next w)) ps) r z
      block : {l : ℕ} {w : Toks} {s : Scope} → Mark (codes "&") w → front (next w) ≡ Some token.name → MethodParams d l w s (block_param (word source (next w)) no_param) (next (next w)) (declare (word source (next w)) s)

    -- The parameters of a method: in brackets, or up to a newline, which belongs to them.
    pub data ParameterList (d : DoBlockOwner) : Toks → Scope → Params → Toks → Scope → Type 0 where
      empty : {w : Toks} {s : Scope} → Mark (codes "(") w → Mark (codes ")") (next w) → ParameterList d w s no_param (next (next w)) s
      brackets : {w r : Toks} {s z : Scope} {ps : Params} → Mark (codes "(") w → MethodParams own 0 (next w) s ps r z → Mark (codes ")") r → ParameterList d w s ps (next r) z
      no_line : {w : Toks} {s : Scope} → Newline w → ParameterList d w s no_param (next w) s
      line : {w r : Toks} {s z : Scope} {ps : Params} → MethodParams d 0 w s ps r z → Newline r → ParameterList d w s ps (next r) z

    -- The parameters of a method, if there are any. A bracket, a name, `*`, `&` or a newline begins them, and nothing else.
    pub data Parameters (d : DoBlockOwner) : Toks → Scope → Params → Toks → Scope → Type 0 where
      missing : {w : Toks} {s : Scope} → begins_params source w ≡ false → Parameters d w s no_param w s
      given : {w r : Toks} {s z : Scope} {ps : Params} → ParameterList d w s ps r z → Parameters d w s ps r z

    -- `self.` before the name of a method
    pub data OnSelf : Toks → Bool → Toks → Type 0 where
      on_self : {w : Toks} → Word (codes "self") w → Mark (codes ".") (next w) → OnSelf w true (next (next w))
      plain : {w : Toks} → NoWord (codes "self") w → OnSelf w false w

    -- the superclass, an argument that sees the locals around the class
    pub data Superclass (d : DoBlockOwner) : Toks → Scope → Other → Toks → Scope → Type 0 where
      missing : {w : Toks} {s : Scope} → NoMark (codes "<") w → Superclass d w s without w s
      given : {w r : Toks} {s z : Scope} {a : Tree} → Mark (codes "<") w → R.arg d (next w) s a r z → Superclass d w s (with a) r z

    -- Literals, and lists and hashes in brackets.
    pub data Literal : Toks → Scope → Tree → Toks → Scope → Type 0 where
      nil_word : {w : Toks} {s : Scope} → Word (codes "nil") w → Literal w s (at (position w) nil_value) (next w) s
      true_word : {w : Toks} {s : Scope} → Word (codes "true") w → Literal w s (at (position w) true_value) (next w) s
      false_word : {w : Toks} {s : Scope} → Word (codes "false") w → Literal w s (at (position w) false_value) (next w) s
      file_word : {w : Toks} {s : Scope} → Word (codes "__FILE__") w → Literal w s (at (position w) file_name) (next w) s
      folder_word : {w : Toks} {s : Scope} → Word (codes "__dir__") w → Literal w s (at (position w) folder_name) (next w) s
      line_word : {w : Toks} {s : Scope} → Word (codes "__LINE__") w → Literal w s (at (position w) line_number) (next w) s
      number : {w : Toks} {s : Scope} {n : ℤ} → front w ≡ Some (token.integer n) → Literal w s (at (position w) (integer n)) (next w) s
      -- `-` directly before an integer, unless `**` follows
      negative_number : {w : Toks} {s : Scope} {n : ℤ} → is_negative source w ≡ true → front (next w) ≡ Some (token.integer n) → Literal w s (at (position w) (integer (neg_ℤ n))) (next (next w)) s
      plain_text : {w : Toks} {s : Scope} {ps : Parts} {f : Bytes} → front w ≡ Some (token.literal ps) → text_of ps ≡ Some f → Literal w s (at (position w) (text f)) (next w) s
      text_with_code : {w : Toks} {s z : Scope} {ps : Parts} {qs : Pieces} → front w ≡ Some (token.literal ps) → text_of ps ≡ None → TextParts ps s qs z → Literal w s (at (position w) (joined qs)) (next w) z
      symbol_name : {w : Toks} {s : Scope} {f : Bytes} → front w ≡ Some (token.symbol f) → Literal w s (at (position w) (symbol f)) (next w) s
      word_list : {w : Toks} {s : Scope} {fs : List Bytes} → front w ≡ Some (token.words fs) → Literal w s (at (position w) (array (texts_at (position w) fs) [])) (next w) s
      symbol_list : {w : Toks} {s : Scope} {fs : List Bytes} → front w ≡ Some (token.symbols fs) → Literal w s (at (position w) (array (symbols_at (position w) fs) [])) (next w) s

    -- Operands by themselves.
    pub data Primary (d : DoBlockOwner) : Toks → Scope → Tree → Toks → Scope → Type 0 where
      literal : {w r : Toks} {s z : Scope} {t : Tree} → Literal w s t r z → Primary d w s t r z
      empty_list : {w : Toks} {s : Scope} → Mark (codes "[") w → Mark (codes "]") (next w) → Primary d w s (at (position w) (array no_more [])) (next (next w)) s
      -- a list has neither pairs nor `&`
      list : {w q r : Toks} {s z : Scope} {ts : Trees} {ks : List ℕ} → Mark (codes "[") w → Elements own 0 (next w) s ts ks q z → Trailing q r → Mark (codes "]") r → Primary d w s (at (position w) (array ts ks)) (next r) z
      empty_hash : {w : Toks} {s : Scope} → Mark (codes "{") w → Mark (codes "}") (next w) → Primary d w s (at (position w) (hash no_pair)) (next (next w)) s
      -- a hash has pairs alone
      pairs : {w q r : Toks} {s z : Scope} {ps : Pairs} → Mark (codes "{") w → PairList own (next w) s ps q z → Trailing q r → Mark (codes "}") r → Primary d w s (at (position w) (hash ps)) (next r) z
      brackets : {w r : Toks} {s z : Scope} {t : Tree} → Mark (codes "(") w → R.stmts own (next w) s t r z → Mark (codes ")") r → Primary d w s t (next r) z
      self_word : {w : Toks} {s : Scope} → Word (codes "self") w → Primary d w s (at (position w) self_value) (next w) s
      -- A local with neither brackets nor a block is read.
      local_name : {w : Toks} {s : Scope} → front w ≡ Some token.name → opens source (next w) ≡ false → opens_block source d (next w) ≡ false → is_local s (word source w) ≡ true → Primary d w s (at (position w) (local (word source w))) (next w) s
      -- another name alone, which is no command
      bare_name : {w : Toks} {s : Scope} → front w ≡ Some token.name → opens source (next w) ≡ false → opens_block source d (next w) ≡ false → is_local s (word source w) ≡ false → begins_arguments source (next w) ≡ false → Primary d w s (at (position w) (bare_form s (word source w))) (next w) s
      -- a name with a block, and a name with brackets: a call, of a local too
      name_with_block : {w r : Toks} {s z : Scope} {b : Tree} → front w ≡ Some token.name → opens source (next w) ≡ false → is_command source s (word source w) (next w) ≡ false → Block d (next w) s b r z → Primary d w s (at (position w) (send without no_more [] without (word source w) false (with b))) r z
      called_name : {w q r : Toks} {s y z : Scope} {g : Given} {b : Other} → front w ≡ Some token.name → opens source (next w) ≡ true → InBrackets (next w) s g q y → CallBlock d g q y b r z → Primary d w s (at (position w) (send without g.trees g.spread g.value (word source w) false b)) r z
      instance_name : {w : Toks} {s : Scope} → front w ≡ Some token.variable → Primary d w s (at (position w) (instance (word source w))) (next w) s
      global_name : {w : Toks} {s : Scope} → front w ≡ Some token.global → Primary d w s (at (position w) (global (word source w))) (next w) s
      constant : {w : Toks} {s : Scope} → front w ≡ Some token.constant → opens source (next w) ≡ false → Primary d w s (at (position w) (constant_path without false (word source w ∷ []))) (next w) s
      called_constant : {w q r : Toks} {s y z : Scope} {g : Given} {b : Other} → front w ≡ Some token.constant → opens source (next w) ≡ true → InBrackets (next w) s g q y → CallBlock d g q y b r z → Primary d w s (at (position w) (send without g.trees g.spread g.value (word source w) false b)) r z
      top_constant : {w : Toks} {s : Scope} → Mark (codes "::") w → front (next w) ≡ Some token.constant → Primary d w s (at (position w) (constant_path without true (word source (next w) ∷ []))) (next (next w)) s
      -- `yield` and `super`, where they are no commands. `&` stands in no `yield`.
      bare_yield : {w : Toks} {s : Scope} → Word (codes "yield") w → opens source (next w) ≡ false → begins_arguments source (next w) ≡ false → Primary d w s (at (position w) (yield no_more [])) (next w) s
      called_yield : {w r : Toks} {s z : Scope} {g : Given} → Word (codes "yield") w → opens source (next w) ≡ true → InBrackets (next w) s g r z → has_block g ≡ false → Primary d w s (at (position w) (yield g.trees g.spread)) r z
      super_alone : {w r : Toks} {s z : Scope} {b : Other} → Word (codes "super") w → opens source (next w) ≡ false → begins_arguments source (next w) ≡ false → CallBlock d nothing (next w) s b r z → Primary d w s (at (position w) (bare_super b)) r z
      called_super : {w q r : Toks} {s y z : Scope} {g : Given} {b : Other} → Word (codes "super") w → opens source (next w) ≡ true → InBrackets (next w) s g q y → CallBlock d g q y b r z → Primary d w s (at (position w) (super g.trees g.spread g.value b)) r z
      if_form : {w q v p r : Toks} {s y x z : Scope} {c t : Tree} {e : Other} → Word (codes "if") w → R.expr (within d) (next w) s c q y → Then q v → R.stmts (within d) v y t p x → R.else_branches (within d) p x e r z → Word (codes "end") r → Primary d w s (at (position w) (if_else c t e)) (next r) z
      -- an `if` with its parts swapped
      unless_form : {w q v p r : Toks} {s y x z : Scope} {c t : Tree} {e : Other} → Word (codes "unless") w → R.expr (within d) (next w) s c q y → Then q v → R.stmts (within d) v y t p x → R.else_branches (within d) p x e r z → Word (codes "end") r → Primary d w s (at (position w) (if_else c (or_empty e) (with t))) (next r) z
      -- In the condition of a loop a `do` is the loop's.
      while_form : {w q v r : Toks} {s y z : Scope} {c t : Tree} → Word (codes "while") w → R.expr loops (next w) s c q y → LoopStart q v → R.stmts (within d) v y t r z → Word (codes "end") r → Primary d w s (at (position w) (while_loop t c false false)) (next r) z
      until_form : {w q v r : Toks} {s y z : Scope} {c t : Tree} → Word (codes "until") w → R.expr loops (next w) s c q y → LoopStart q v → R.stmts (within d) v y t r z → Word (codes "end") r → Primary d w s (at (position w) (while_loop t c true false)) (next r) z
      begin_form : {w r : Toks} {s z : Scope} {t : Tree} → Word (codes "begin") w → Body (within d) (position w) (next w) s t r z → Word (codes "end") r → Primary d w s t (next r) z
      case_form : {w q v p r : Toks} {s y x z : Scope} {a : Tree} {ws : Whens} {e : Other} → Word (codes "case") w → R.expr (within d) (next w) s a q y → Newlines q v → WhenList (within d) v y ws p x → Else (within d) p x e r z → Word (codes "end") r → Primary d w s (at (position w) (case_of a ws e)) (next r) z
      case_of_tests : {w v p r : Toks} {s x z : Scope} {ws : Whens} {e : Other} → Word (codes "case") w → Newlines (next w) v → WhenList (within d) v s ws p x → Else (within d) p x e r z → Word (codes "end") r → Primary d w s (at (position w) (case_tests ws e)) (next r) z
      -- A method, a class and a module begin with no locals, and theirs end with them.
      method_form : {w q v u r : Toks} {s y z : Scope} {b : Bool} {m : Bytes} {ps : Params} {t : Tree} →
          Word (codes "def") w → OnSelf (next w) b q → MethodName true q m v → Parameters (within d) v fresh ps u y → Body (within d) (position u) u y t r z → Word (codes "end") r → Primary d w s (at (position w) (method m (at (position w) (body ps t)) b)) (next r) s
      class_form : {w q r : Toks} {s y z : Scope} {c : Other} {t : Tree} →
          Word (codes "class") w → front (next w) ≡ Some token.constant → Superclass (within d) (next (next w)) s c q y → Newline q → Body (within d) (position (next q)) (next q) fresh t r z → Word (codes "end") r → Primary d w s (at (position w) (class c (word source (next w)) (at (position w) (body no_param t)))) (next r) y
      module_form : {w r : Toks} {s z : Scope} {t : Tree} →
          Word (codes "module") w → front (next w) ≡ Some token.constant → Newline (next (next w)) → Body (within d) (position (next (next (next w)))) (next (next (next w))) fresh t r z → Word (codes "end") r → Primary d w s (at (position w) (module_named (word source (next w)) (at (position w) (body no_param t)))) (next r) s
      retry_word : {w : Toks} {s : Scope} → Word (codes "retry") w → Primary d w s (at (position w) retry) (next w) s

    -- What may stand behind an operand that begins at o: `.` and a name that is no command, `::` and a constant, and an index, with no blank
    -- before it and no comma before its end.
    pub data Postfixes (d : DoBlockOwner) (o : Toks) : Tree → Toks → Scope → Tree → Toks → Scope → Type 0 where
      called : {k : Bool} {w v p r : Toks} {s y z : Scope} {a t : Tree} {m : Bytes} {g : Given} {b : Other} → Dot k w → MethodName false (next w) m v → begins_arguments source v ≡ false → assigns source v ≡ false → CallItems d v s g b p y → Postfixes d o (at (position_with o (next w)) (call_form k a g m b)) p y t r z → Postfixes d o a w s t r z
      constant : {w r : Toks} {s z : Scope} {a t : Tree} → Mark (codes "::") w → front (next w) ≡ Some token.constant → Postfixes d o (path_with o a (word source (next w))) (next (next w)) s t r z → Postfixes d o a w s t r z
      index : {w p r : Toks} {s y z : Scope} {a t : Tree} {g : Given} → Mark (codes "[") w → blank w ≡ false → Items own 0 (next w) s g p y → Mark (codes "]") p → assigns source (next p) ≡ false → Postfixes d o (at (position_with o w) (send (with a) g.trees g.spread g.value (codes "[]") false g.block)) (next p) y t r z → Postfixes d o a w s t r z
      end : {w : Toks} {s : Scope} {a : Tree} → Postfixes d o a w s a w s

    pub data Postfix (d : DoBlockOwner) : Toks → Scope → Tree → Toks → Scope → Type 0 where
      postfix : {w q r : Toks} {s y z : Scope} {a t : Tree} → Primary d w s a q y → Postfixes d w a q y t r z → Postfix d w s t r z

    -- The levels of operators, from the tightest on. `!`, `~` and `+` before an operand:
    pub data UnaryOperand (d : DoBlockOwner) : Toks → Scope → Tree → Toks → Scope → Type 0 where
      inverted : {w r : Toks} {s z : Scope} {a : Tree} → Mark (codes "!") w → R.unary_operand d (next w) s a r z → UnaryOperand d w s (sent (position w) a (codes "!") no_more) r z
      complement : {w r : Toks} {s z : Scope} {a : Tree} → Mark (codes "~") w → R.unary_operand d (next w) s a r z → UnaryOperand d w s (sent (position w) a (codes "~") no_more) r z
      positive : {w r : Toks} {s z : Scope} {a : Tree} → Mark (codes "+") w → R.unary_operand d (next w) s a r z → UnaryOperand d w s (sent (position w) a (codes "+@") no_more) r z
      plain : {w r : Toks} {s z : Scope} {a : Tree} → Postfix d w s a r z → goes_on source r ≡ false → UnaryOperand d w s a r z

    -- `**`, to the right
    pub data Power (d : DoBlockOwner) : Toks → Scope → Tree → Toks → Scope → Type 0 where
      raised : {w q r : Toks} {s y z : Scope} {a b : Tree} → UnaryOperand d w s a q y → Mark (codes "**") q → R.power d (next q) y b r z → Power d w s (binary source w q a b) r z
      plain : {w r : Toks} {s z : Scope} {a : Tree} → UnaryOperand d w s a r z → NoMark (codes "**") r → Power d w s a r z

    -- `-` before an operand, where it makes no negative integer
    pub data Minus (d : DoBlockOwner) : Toks → Scope → Tree → Toks → Scope → Type 0 where
      minus : {w r : Toks} {s z : Scope} {a : Tree} → Mark (codes "-") w → is_negative source w ≡ false → R.minus d (next w) s a r z → Minus d w s (sent (position w) a (codes "-@") no_more) r z
      plain : {w r : Toks} {s z : Scope} {a : Tree} → Power d w s a r z → Minus d w s a r z

    -- One level of binary operators, to the left: those that pass the test stand between two operands O, of which the first begins at o. A
    -- node is made of the places of the first operand and of the operator, and of both operands.
    pub data Rest (passes : Toks → Bool) (make : Toks → Toks → Tree → Tree → Tree) (O : Rel Tree) (o : Toks) : Tree → Toks → Scope → Tree → Toks → Scope → Type 0 where
      operator : {w q r : Toks} {s y z : Scope} {a b t : Tree} → passes w ≡ true → O (next w) s b q y → Rest passes make O o (make o w a b) q y t r z → Rest passes make O o a w s t r z
      end : {w : Toks} {s : Scope} {a : Tree} → passes w ≡ false → Rest passes make O o a w s a w s

    pub data Chain (passes : Toks → Bool) (make : Toks → Toks → Tree → Tree → Tree) (O : Rel Tree) : Toks → Scope → Tree → Toks → Scope → Type 0 where
      chain : {w q r : Toks} {s y z : Scope} {a t : Tree} → O w s a q y → Rest passes make O w a q y t r z → Chain passes make O w s t r z

    abbrev pub Product : DoBlockOwner → Rel Tree
    Product d = Chain (mark_in source product_marks) (binary source) (Minus d)

    abbrev pub Sum : DoBlockOwner → Rel Tree
    Sum d = Chain (mark_in source sum_marks) (binary source) (Product d)

    abbrev pub Shift : DoBlockOwner → Rel Tree
    Shift d = Chain (mark_in source shift_marks) (binary source) (Sum d)

    abbrev pub Intersection : DoBlockOwner → Rel Tree
    Intersection d = Chain (mark_in source intersection_marks) (binary source) (Shift d)

    abbrev pub Union : DoBlockOwner → Rel Tree
    Union d = Chain (mark_in source union_marks) (binary source) (Intersection d)

    abbrev pub Order : DoBlockOwner → Rel Tree
    Order d = Chain (mark_in source order_marks) (binary source) (Union d)

    -- `<=>`, `==`, `===` and `!=`, of which one stands alone. `a != b` is `!(a == b)`.
    pub data Equality (d : DoBlockOwner) : Toks → Scope → Tree → Toks → Scope → Type 0 where
      compared : {w q r : Toks} {s y z : Scope} {a b : Tree} → Order d w s a q y → mark_in source equality_marks q ≡ true → Order d (next q) y b r z → Equality d w s (binary source w q a b) r z
      unequal : {w q r : Toks} {s y z : Scope} {a b : Tree} → Order d w s a q y → Mark (codes "!=") q → Order d (next q) y b r z → Equality d w s (sent (position_with w q) (sent (position_with w q) a (codes "==") (one b)) (codes "!") no_more) r z
      plain : {w r : Toks} {s z : Scope} {a : Tree} → Order d w s a r z → (mark_in source equality_marks r || is_mark source (codes "!=") r) ≡ false → Equality d w s a r z

    abbrev pub Conjunction : DoBlockOwner → Rel Tree
    Conjunction d = Chain (is_mark source (codes "&&")) conjunction (Equality d)

    abbrev pub Disjunction : DoBlockOwner → Rel Tree
    Disjunction d = Chain (is_mark source (codes "||")) disjunction (Conjunction d)

    pub data Range (d : DoBlockOwner) : Toks → Scope → Tree → Toks → Scope → Type 0 where
      whole : {w q r : Toks} {s y z : Scope} {a b : Tree} → Disjunction d w s a q y → Mark (codes "..") q → Disjunction d (next q) y b r z → Range d w s (at (position w) (range a b false)) r z
      without_last : {w q r : Toks} {s y z : Scope} {a b : Tree} → Disjunction d w s a q y → Mark (codes "...") q → Disjunction d (next q) y b r z → Range d w s (at (position w) (range a b true)) r z
      plain : {w r : Toks} {s z : Scope} {a : Tree} → Disjunction d w s a r z → NoMark (codes "..") r → NoMark (codes "...") r → Range d w s a r z

    -- `c ? a : b`
    pub data Conditional (d : DoBlockOwner) : Toks → Scope → Tree → Toks → Scope → Type 0 where
      chosen : {w q p r : Toks} {s y x z : Scope} {c a b : Tree} → Range d w s c q y → Mark (codes "?") q → R.arg d (next q) y a p x → Mark (codes ":") p → R.arg d (next p) x b r z → Conditional d w s (at (position w) (if_else c a (with b))) r z
      plain : {w r : Toks} {s z : Scope} {a : Tree} → Range d w s a r z → NoMark (codes "?") r → Conditional d w s a r z

    -- The values of `return`, `break` and `next`. A modifier's word directly behind begins none.
    pub data Values (d : DoBlockOwner) : Toks → Scope → Trees → Toks → Scope → Type 0 where
      missing : {w : Toks} {s : Scope} → begins_value source w ≡ false → Values d w s no_more w s
      given : {w r : Toks} {s z : Scope} {ts : Trees} → word_in source modifiers w ≡ false → Several d w s ts r z → Values d w s ts r z

    -- Calls without brackets: of a name that is no local, of a method behind `.` or `&.`, of `yield` and of `super`; and `return`, `break` and
    -- `next`. The arguments take no `do`, unless they are those of the last three.
    pub data Command (d : DoBlockOwner) : Toks → Scope → Tree → Toks → Scope → Type 0 where
      named : {w q r : Toks} {s y z : Scope} {g : Given} {b : Other} → front w ≡ Some token.name → is_command source s (word source w) (next w) ≡ true → CommandItems d (next w) s g q y → CommandBlock d g q y b r z → Command d w s (at (position w) (send without g.trees g.spread g.value (word source w) false b)) r z
      called : {k : Bool} {w q v p r : Toks} {s y x z : Scope} {a : Tree} {m : Bytes} {g : Given} {b : Other} → sets source w ≡ false → Postfix d w s a q y → Dot k q → MethodName false (next q) m v → begins_arguments source v ≡ true → CommandItems d v y g p x → CommandBlock d g p x b r z → Command d w s (at (position_with w (next q)) (call_form k a g m b)) r z
      yielded : {w r : Toks} {s z : Scope} {g : Given} → Word (codes "yield") w → begins_arguments source (next w) ≡ true → CommandItems d (next w) s g r z → has_block g ≡ false → Command d w s (at (position w) (yield g.trees g.spread)) r z
      super_with : {w q r : Toks} {s y z : Scope} {g : Given} {b : Other} → Word (codes "super") w → begins_arguments source (next w) ≡ true → CommandItems d (next w) s g q y → CommandBlock d g q y b r z → Command d w s (at (position w) (super g.trees g.spread g.value b)) r z
      returned : {w r : Toks} {s z : Scope} {ts : Trees} → Word (codes "return") w → Values d (next w) s ts r z → Command d w s (at (position w) (return_with ts)) r z
      broken : {w r : Toks} {s z : Scope} {ts : Trees} → Word (codes "break") w → Values d (next w) s ts r z → Command d w s (at (position w) (break_with ts)) r z
      nexted : {w r : Toks} {s z : Scope} {ts : Trees} → Word (codes "next") w → Values d (next w) s ts r z → Command d w s (at (position w) (next_with ts)) r z

    -- The value of an assignment. A `rescue` directly behind it is its own, and what stands behind that word is a rescue clause.
    pub data Value (d : DoBlockOwner) : Toks → Scope → Tree → Toks → Scope → Type 0 where
      plain : {w r : Toks} {s z : Scope} {t : Tree} → R.assigned_value d w s t r z → NoWord (codes "rescue") r → Value d w s t r z
      saved : {w q r : Toks} {s y z : Scope} {a b : Tree} → R.assigned_value d w s a q y → Word (codes "rescue") q → R.arg d (next q) (in_clause y) b r z → Value d w s (rescued w q a b) r (behind y z)

    -- An argument that sets no variable and no constant: an attribute or an element that is set, which was read with nothing around it, or
    -- operators without an assignment.
    pub data Unset (d : DoBlockOwner) : Toks → Scope → Tree → Toks → Scope → Type 0 where
      attribute : {w q r : Toks} {s y z : Scope} {a v : Tree} → Postfix d w s a q y → Mark (codes ".") q → front (next q) ≡ Some token.name → Mark (codes "=") (next (next q)) → Value d (next (next (next q))) y v r z → Unset d w s (at (position_with w (next q)) (assign_attribute a v (word source (next q) ++ codes "="))) r z
      operated_attribute : {w q r : Toks} {s y z : Scope} {a v : Tree} → Postfix d w s a q y → Mark (codes ".") q → front (next q) ≡ Some token.name → mark_in source sending_assignments (next (next q)) ≡ true → Value d (next (next (next q))) y v r z →
          Unset d w s (at (position_with w (next q)) (operate_attribute a (word source (next q)) v (but_last (word source (next (next q)))) (word source (next q) ++ codes "=") (line_at (next (next q))))) r z
      either_attribute : {w q r : Toks} {s y z : Scope} {a v : Tree} → Postfix d w s a q y → Mark (codes ".") q → front (next q) ≡ Some token.name → Mark (codes "||=") (next (next q)) → Value d (next (next (next q))) y v r z → Unset d w s (at (position_with w (next q)) (or_attribute a (word source (next q)) v (word source (next q) ++ codes "="))) r z
      both_attribute : {w q r : Toks} {s y z : Scope} {a v : Tree} → Postfix d w s a q y → Mark (codes ".") q → front (next q) ≡ Some token.name → Mark (codes "&&=") (next (next q)) → Value d (next (next (next q))) y v r z → Unset d w s (at (position_with w (next q)) (and_attribute a (word source (next q)) v (word source (next q) ++ codes "="))) r z
      element : {w q p r : Toks} {s y x z : Scope} {a i v : Tree} → Postfix d w s a q y → Mark (codes "[") q → blank q ≡ false → R.arg own (next q) y i p x → Mark (codes "]") p → Mark (codes "=") (next p) → Value d (next (next p)) x v r z → Unset d w s (at (position_with w q) (assign_index a i v)) r z
      operated_element : {w q p r : Toks} {s y x z : Scope} {a i v : Tree} → Postfix d w s a q y → Mark (codes "[") q → blank q ≡ false → R.arg own (next q) y i p x → Mark (codes "]") p → mark_in source sending_assignments (next p) ≡ true → Value d (next (next p)) x v r z → Unset d w s (at (position_with w q) (operate_index a i v (but_last (word source (next p))) (line_at (next p)))) r z
      either_element : {w q p r : Toks} {s y x z : Scope} {a i v : Tree} → Postfix d w s a q y → Mark (codes "[") q → blank q ≡ false → R.arg own (next q) y i p x → Mark (codes "]") p → Mark (codes "||=") (next p) → Value d (next (next p)) x v r z → Unset d w s (at (position_with w q) (or_index a i v)) r z
      both_element : {w q p r : Toks} {s y x z : Scope} {a i v : Tree} → Postfix d w s a q y → Mark (codes "[") q → blank q ≡ false → R.arg own (next q) y i p x → Mark (codes "]") p → Mark (codes "&&=") (next p) → Value d (next (next p)) x v r z → Unset d w s (at (position_with w q) (and_index a i v)) r z
      plain : {w r : Toks} {s z : Scope} {t : Tree} → Conditional d w s t r z → assigns source r ≡ false → Unset d w s t r z

    -- Assignments, and operators without one. A variable or a constant is set where `=` or an operator with `=` stands behind it.
    pub data Arg (d : DoBlockOwner) : Toks → Scope → Tree → Toks → Scope → Type 0 where
      variable : {w r : Toks} {s z : Scope} {g : Goal} {v : Tree} → goal_at source w ≡ Some g → Mark (codes "=") (next w) → Value d (next (next w)) (declared g s) v r z → Arg d w s (at (position w) (assign v g)) r z
      -- `x op= v` is `x = x op v`
      operated_variable : {w r : Toks} {s z : Scope} {g : Goal} {v : Tree} → goal_at source w ≡ Some g → mark_in source sending_assignments (next w) ≡ true → Value d (next (next w)) (declared g s) v r z → Arg d w s (at (position w) (assign (sent (position_with w (next w)) (at (position w) (read_form g)) (but_last (word source (next w))) (one v)) g)) r z
      -- `x ||= v` is `x || (x = v)`, and `x &&= v` is `x && (x = v)`
      either_variable : {w r : Toks} {s z : Scope} {g : Goal} {v : Tree} → goal_at source w ≡ Some g → Mark (codes "||=") (next w) → Value d (next (next w)) (declared g s) v r z → Arg d w s (at (position w) (either (at (position w) (read_form g)) (at (position w) (assign v g)))) r z
      both_variable : {w r : Toks} {s z : Scope} {g : Goal} {v : Tree} → goal_at source w ≡ Some g → Mark (codes "&&=") (next w) → Value d (next (next w)) (declared g s) v r z → Arg d w s (at (position w) (both (at (position w) (read_form g)) (at (position w) (assign v g)))) r z
      -- a constant takes `=` alone
      constant : {w r : Toks} {s z : Scope} {v : Tree} → front w ≡ Some token.constant → Mark (codes "=") (next w) → Value d (next (next w)) s v r z → Arg d w s (at (position w) (assign v (to_constant (word source w)))) r z
      other : {w r : Toks} {s z : Scope} {t : Tree} → sets source w ≡ false → Unset d w s t r z → Arg d w s t r z

    pub data CommandOrArg (d : DoBlockOwner) : Toks → Scope → Tree → Toks → Scope → Type 0 where
      command : {w r : Toks} {s z : Scope} {t : Tree} → Command d w s t r z → CommandOrArg d w s t r z
      arg : {w r : Toks} {s z : Scope} {t : Tree} → Arg d w s t r z → CommandOrArg d w s t r z

    pub data Test (d : DoBlockOwner) : Toks → Scope → Tree → Toks → Scope → Type 0 where
      inverted : {w r : Toks} {s z : Scope} {t : Tree} → Word (codes "not") w → R.test d (next w) s t r z → Test d w s (at (position w) (negated t)) r z
      plain : {w r : Toks} {s z : Scope} {t : Tree} → CommandOrArg d w s t r z → Test d w s t r z

    -- `and` and `or`, of one level, to the left; the first test begins at o
    pub data Tests (d : DoBlockOwner) (o : Toks) : Tree → Toks → Scope → Tree → Toks → Scope → Type 0 where
      and_test : {w q r : Toks} {s y z : Scope} {a b t : Tree} → Word (codes "and") w → R.test d (next w) s b q y → Tests d o (conjunction o w a b) q y t r z → Tests d o a w s t r z
      or_test : {w q r : Toks} {s y z : Scope} {a b t : Tree} → Word (codes "or") w → R.test d (next w) s b q y → Tests d o (disjunction o w a b) q y t r z → Tests d o a w s t r z
      end : {w : Toks} {s : Scope} {a : Tree} → NoWord (codes "and") w → NoWord (codes "or") w → Tests d o a w s a w s

    pub data Expr (d : DoBlockOwner) : Toks → Scope → Tree → Toks → Scope → Type 0 where
      tests : {w q r : Toks} {s y z : Scope} {a t : Tree} → Test d w s a q y → Tests d w a q y t r z → Expr d w s t r z

    -- A statement without its modifiers.
    pub data Head (d : DoBlockOwner) : Toks → Scope → Tree → Toks → Scope → Type 0 where
      several : {w q r : Toks} {s y z : Scope} {gs : List Goal} {vs : Trees} → Targets w s gs q y → Mark (codes "=") q → Several d (next q) y vs r z → Head d w s (at (position w) (assign_all vs gs)) r z
      plain : {w r : Toks} {s z : Scope} {t : Tree} → begins_targets source w ≡ false → Expr d w s t r z → Head d w s t r z

    -- The modifiers of a statement that begins at o, all that there are. It is exactly `begin .. end` where b is true, and then comes before the
    -- condition of its loop. No call in that condition takes a `do`.
    pub data Modifiers (d : DoBlockOwner) (o : Toks) : Bool → Tree → Toks → Scope → Tree → Toks → Scope → Type 0 where
      if_holds : {b : Bool} {w q r : Toks} {s y z : Scope} {a c t : Tree} → Word (codes "if") w → R.expr d (next w) s c q y → Modifiers d o false (at (position o) (if_else c (alone o a) without)) q y t r z → Modifiers d o b a w s t r z
      unless_holds : {b : Bool} {w q r : Toks} {s y z : Scope} {a c t : Tree} → Word (codes "unless") w → R.expr d (next w) s c q y → Modifiers d o false (at (position o) (if_else c (or_empty without) (with (alone o a)))) q y t r z → Modifiers d o b a w s t r z
      while_holds : {b : Bool} {w q r : Toks} {s y z : Scope} {a c t : Tree} → Word (codes "while") w → R.expr loops (next w) s c q y → Modifiers d o false (at (position o) (while_loop (alone o a) c false b)) q y t r z → Modifiers d o b a w s t r z
      until_holds : {b : Bool} {w q r : Toks} {s y z : Scope} {a c t : Tree} → Word (codes "until") w → R.expr loops (next w) s c q y → Modifiers d o false (at (position o) (while_loop (alone o a) c true b)) q y t r z → Modifiers d o b a w s t r z
      saved : {b : Bool} {w q r : Toks} {s y z : Scope} {a c t : Tree} → Word (codes "rescue") w → R.expr d (next w) (in_clause s) c q y → Modifiers d o false (rescued o w a c) q (behind s y) t r z → Modifiers d o b a w s t r z
      end : {b : Bool} {w : Toks} {s : Scope} {a : Tree} → word_in source modifiers w ≡ false → Modifiers d o b a w s a w s

    pub data Stmt (d : DoBlockOwner) : Toks → Scope → Tree → Toks → Scope → Type 0 where
      head : {w q r : Toks} {s y z : Scope} {a t : Tree} → Head d w s a q y → Modifiers d w (is_word source (codes "begin") w && is_body a) a q y t r z → Stmt d w s t r z

    -- Statements with newlines around them.
    pub data StmtList (d : DoBlockOwner) : Toks → Scope → Trees → Toks → Scope → Type 0 where
      line : {w r : Toks} {s z : Scope} {ts : Trees} → Newline w → StmtList d (next w) s ts r z → StmtList d w s ts r z
      last : {w r : Toks} {s z : Scope} {t : Tree} → Stmt d w s t r z → NoNewline r → StmtList d w s (one t) r z
      another : {w q r : Toks} {s y z : Scope} {t : Tree} {ts : Trees} → Stmt d w s t q y → Newline q → StmtList d (next q) y ts r z → StmtList d w s (more t ts) r z
      empty : {w : Toks} {s : Scope} → NoNewline w → begins_statement source w ≡ false → StmtList d w s no_more w s

    -- The node of statements. Statements that begin with a newline have it as their first token; those of no token stand nowhere.
    pub data Stmts (d : DoBlockOwner) : Toks → Scope → Tree → Toks → Scope → Type 0 where
      none : {w : Toks} {s : Scope} → NoNewline w → begins_statement source w ≡ false → Stmts d w s (at nowhere (statements no_more)) w s
      lines : {w r : Toks} {s z : Scope} {ts : Trees} → Newline w → StmtList d w s ts r z → Stmts d w s (at (position w) (statements ts)) r z
      some : {w r : Toks} {s z : Scope} {t : Tree} {ts : Trees} → NoNewline w → StmtList d w s (more t ts) r z → Stmts d w s (at (position w) (statements (more t ts))) r z

  -- What is derived with symbols nested at most n deep.
  unfoldable pub derives : ℕ → Rels
  derives zero = record {
    stmts = λ d w s t r z. ⊥;
    expr = λ d w s t r z. ⊥;
    test = λ d w s t r z. ⊥;
    assigned_value = λ d w s t r z. ⊥;
    arg = λ d w s t r z. ⊥;
    minus = λ d w s t r z. ⊥;
    power = λ d w s t r z. ⊥;
    unary_operand = λ d w s t r z. ⊥;
    else_branches = λ d w s e r z. ⊥;
  }
  derives (suc n) = record {
    stmts = Stmts (derives n);
    expr = Expr (derives n);
    test = Test (derives n);
    assigned_value = CommandOrArg (derives n);
    arg = Arg (derives n);
    minus = Minus (derives n);
    power = Power (derives n);
    unary_operand = UnaryOperand (derives n);
    else_branches = ElseBranches (derives n);
  }

  -- The whole list of tokens is derived as statements, which begin with no locals.
  pub record Derives (w : Toks) (t : Tree) : Type 0 where
    pub depth : ℕ
    pub behind : Scope
    pub derived : (derives depth).stmts own w fresh t token.none behind
