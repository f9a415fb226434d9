-- What a reader with one token of lookahead takes: the symbols that nest, lists of arguments, and what stands in brackets.
use Rattle.std.specs.Prelude.{ℕ, zero, suc, Bool, true, false, not, ◌&&◌, List, [], ◌∷◌, codes, Option, Some, None, if◌then◌else◌}
use Rattle.ruby_lexer.specs.Bytes.{Bytes}
use Rattle.ruby_lexer.specs.Pieces.{Toks}
use Rattle.ruby_tree.specs.Tree.{Goal, Tree, at, hash, symbol, Trees, no_more, more, Other, without, with, Pairs, no_pair, pair, Params, no_param, required, rest_param}
use Rattle.ruby_tree.specs.Rules.{Scope, declare, declared, next, position, DoBlockOwner, own, in_arguments, word, is_mark, begins_arg, goal_at}
use Rattle.ruby_tree.specs.Build.{Given, nothing, spread_at, symbol_of, one, symbol_block}
use Rattle.ruby_tree.specs.FaultLine.{count_of}
use Rattle.reference_parser.specs.Answers.{Answer, taken, fault, Parse, ◌>>=◌}
use Rattle.reference_parser.specs.Fronts.{is_name, is_label, label_at, more_elements, more_pairs, more_items, more_passed}

-- The symbols that nest, each told whose a `do` is that stands behind a call.
pub record Readers : Type 0 where
  pub stmts : DoBlockOwner → Parse Tree
  pub expr : DoBlockOwner → Parse Tree
  pub test : DoBlockOwner → Parse Tree
  pub assigned_value : DoBlockOwner → Parse Tree
  pub arg : DoBlockOwner → Parse Tree
  pub minus : DoBlockOwner → Parse Tree
  pub power : DoBlockOwner → Parse Tree
  pub unary_operand : DoBlockOwner → Parse Tree
  pub else_branches : DoBlockOwner → Parse Other

-- an element, and whether it is spread
pub record Element : Type 0 where
  pub spread : Bool
  pub tree : Tree

-- the k-th element, and what follows it
abbrev pub with_element : Element → ℕ → Given → Given
with_element e k g = record { trees = more e.tree g.trees; spread = spread_at e.spread k g.spread; value = g.value; block = g.block }

pub record KeyValue : Type 0 where
  pub key : Tree
  pub value : Tree

-- what is passed behind `&`: a value, or the block of a symbol
pub record Passing : Type 0 where
  pub value : Other
  pub block : Other

abbrev pub passing_by : Toks → Tree → Option Bytes → Passing
passing_by w a None = record { value = with a; block = without }
passing_by w a (Some m) = record { value = without; block = with (symbol_block w m) }

-- one hash, and what is passed
abbrev pub with_pairs : Toks → Pairs → Passing → Given
with_pairs w ps p = record { trees = one (at (position w) (hash ps)); spread = []; value = p.value; block = p.block }

abbrev pub no_passing : Passing
no_passing = record { value = without; block = without }

module _ (source : Bytes) where
  -- The number bounds the turns of a loop. The count of the tokens is always enough.
  unfoldable pub block_params : ℕ → Parse Params
  block_params zero w s = fault
  block_params (suc m) w s =
      if is_name w then
      (if is_mark source (codes ",") (next w) then
      (block_params m (next (next w)) (declare (word source w) s) >>= λ ps r z. taken (required (word source w) ps) r z)
      else taken (required (word source w) no_param) (next w) (declare (word source w) s))
      else if is_mark source (codes "*") w && is_name (next w) then taken (rest_param (word source (next w)) no_param) (next (next w)) (declare (word source (next w)) s)
      else fault

  unfoldable pub read_bars : Parse Params
  read_bars w s =
      if is_mark source (codes "|") w then
      (if is_mark source (codes "|") (next w) then taken no_param (next (next w)) s
      else (block_params (suc (count_of w)) (next w) s >>= λ ps r z. if is_mark source (codes "|") r then taken ps (next r) z else fault))
      else taken no_param w s

  unfoldable pub exception_name : Parse (Option Bytes)
  exception_name w s =
      if is_mark source (codes "=>") w then (if is_name (next w) then taken (Some (word source (next w))) (next (next w)) (declare (word source (next w)) s) else fault)
      else taken None w s

  unfoldable pub with_goal : {A : Type 0} → Option Goal → (Goal → Answer A) → Answer A
  with_goal None f = fault
  with_goal (Some g) f = f g

  unfoldable pub more_targets : ℕ → Parse (List Goal)
  more_targets zero w s = fault
  more_targets (suc m) w s = with_goal (goal_at source w) (λ g.
      if is_mark source (codes ",") (next w) then (more_targets m (next (next w)) (declared g s) >>= λ gs r z. taken (g ∷ gs) r z)
      else taken (g ∷ []) (next w) (declared g s))

  unfoldable pub read_targets : Parse (List Goal)
  read_targets w s = with_goal (goal_at source w) (λ g.
      if is_mark source (codes ",") (next w) then (more_targets (suc (count_of w)) (next (next w)) (declared g s) >>= λ gs r z. taken (g ∷ gs) r z)
      else fault)

  -- a comma or none, and the bracket that closes a list
  unfoldable pub closed : {A : Type 0} → Bytes → A → Parse A
  closed f a w s =
      if is_mark source (codes ",") w then (if is_mark source f (next w) then taken a (next (next w)) s else fault)
      else if is_mark source f w then taken a (next w) s
      else fault

  module _ (Q : Readers) where
    unfoldable pub several : ℕ → DoBlockOwner → Parse Trees
    several zero d w s = fault
    several (suc m) d w s = Q.arg d w s >>= λ a q y.
        if is_mark source (codes ",") q then (several m d (next q) y >>= λ ts r z. taken (more a ts) r z) else taken (one a) q y

    unfoldable pub read_several : DoBlockOwner → Parse Trees
    read_several d w s = several (suc (count_of w)) d w s

    unfoldable pub read_element : DoBlockOwner → Parse Element
    read_element d w s =
        if is_mark source (codes "*") w then (Q.arg d (next w) s >>= λ a r z. taken (record { spread = true; tree = a }) r z)
        else (Q.arg d w s >>= λ a r z. taken (record { spread = false; tree = a }) r z)

    unfoldable pub elements : ℕ → ℕ → Parse Given
    elements zero k w s = fault
    elements (suc m) k w s = read_element own w s >>= λ e q y.
        if more_elements source q then (elements m (suc k) (next q) y >>= λ g r z. taken (with_element e k g) r z) else taken (with_element e k nothing) q y

    unfoldable pub pair_by : DoBlockOwner → Toks → Scope → Option Bytes → Answer KeyValue
    pair_by d w s (Some f) = Q.arg d (next w) s >>= λ v r z. taken (record { key = at (position w) (symbol f); value = v }) r z
    pair_by d w s None = fault

    unfoldable pub read_pair : DoBlockOwner → Parse KeyValue
    read_pair d w s =
        if is_label w then pair_by d w s (label_at w)
        else (Q.arg d w s >>= λ k q y. if is_mark source (codes "=>") q then (Q.arg d (next q) y >>= λ v r z. taken (record { key = k; value = v }) r z) else fault)

    unfoldable pub pair_list : ℕ → DoBlockOwner → Parse Pairs
    pair_list zero d w s = fault
    pair_list (suc m) d w s = read_pair d w s >>= λ p q y.
        if more_pairs source q then (pair_list m d (next q) y >>= λ ps r z. taken (pair p.key p.value ps) r z) else taken (pair p.key p.value no_pair) q y

    unfoldable pub read_passed : DoBlockOwner → Parse Passing
    read_passed d w s = Q.arg d (next w) s >>= λ a r z. taken (passing_by w a (symbol_of a)) r z

    -- the pairs that begin at w, and what is passed behind them
    unfoldable pub end_pairs : DoBlockOwner → Toks → Pairs → Parse Given
    end_pairs d w ps q y =
        if more_passed source q then (read_passed d (next q) y >>= λ p r z. taken (with_pairs w ps p) r z) else taken (with_pairs w ps no_passing) q y

    -- the first pair begins at w
    unfoldable pub pairs_from : DoBlockOwner → Toks → KeyValue → Parse Given
    pairs_from d w p q y =
        if more_pairs source q then (pair_list (suc (count_of q)) d (next q) y >>= λ ps r z. end_pairs d w (pair p.key p.value ps) r z)
        else end_pairs d w (pair p.key p.value no_pair) q y

    -- What follows the k-th item, an element that begins at w. The items behind it are read by the function given.
    unfoldable pub items_from : Parse Given → DoBlockOwner → ℕ → Toks → Element → Parse Given
    items_from further d k w e q y =
        if not e.spread && is_mark source (codes "=>") q then
        (Q.arg d (next q) y >>= λ v p x. pairs_from d w (record { key = e.tree; value = v }) p x)
        else if more_items source q then (further (next q) y >>= λ g r z. taken (with_element e k g) r z)
        else taken (with_element e k nothing) q y

    -- the items of a call from the k-th on
    unfoldable pub items : ℕ → DoBlockOwner → ℕ → Parse Given
    items zero d k w s = fault
    items (suc m) d k w s =
        if is_mark source (codes "&") w then (read_passed d w s >>= λ p r z. taken (record { trees = no_more; spread = []; value = p.value; block = p.block }) r z)
        else if is_label w then (read_pair d w s >>= λ p q y. pairs_from d w p q y)
        else (read_element d w s >>= λ e q y. items_from (items m d (suc k)) d k w e q y)

    unfoldable pub read_items : DoBlockOwner → Parse Given
    read_items d w s = items (suc (count_of w)) d 0 w s

    -- items in brackets, which begin at w
    unfoldable pub in_brackets : Parse Given
    in_brackets w s =
        if is_mark source (codes ")") (next w) then taken nothing (next (next w)) s
        else (read_items own (next w) s >>= λ g q z. closed (codes ")") g q z)

    -- items without brackets
    unfoldable pub command_items : DoBlockOwner → Parse Given
    command_items d w s = read_items (in_arguments d) w s >>= λ g r z.
        if is_mark source (codes ",") r then fault else taken g r z

    unfoldable pub read_classes : DoBlockOwner → Parse Trees
    read_classes d w s = if begins_arg source w then read_several d w s else taken no_more w s
