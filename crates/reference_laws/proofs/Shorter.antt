-- What is derived is shorter, or no longer, and keeps the locals. For each symbol that a loop of the reader takes, that it is shorter.
use Rattle.std.proofs.Common.{ℕ, zero, suc, ◌+◌, ◌<◌, ◌≤◌, Bool, true, false, List, [], arith}
use Rattle.ruby_lexer.specs.Bytes.{Bytes}
use Rattle.ruby_lexer.specs.Pieces.{Toks}
use Rattle.ruby_tree.specs.Tree.{SourcePosition, Tree, Trees, Other}
use Rattle.ruby_tree.specs.Rules.{Scope, DoBlockOwner}
use Rattle.ruby_tree.specs.Build.{Given}
use Rattle.ruby_tree.specs.Grammar.{Rels, derives, Newlines, MethodName, BlockParams, MoreTargets, Several, Element, Elements, Pair, PairList, Passed, Items, InBrackets, CommandItems, Clauses, Rescued, Body, CallItems, WhenList, MethodParams, Primary, Postfixes, Postfix, UnaryOperand, Power, Minus, Product, Sum, Shift, Intersection, Union, Order, Equality, Conjunction, Disjunction, Command, Value, Unset, Test, Tests, Expr, Head, Stmt, StmtList}
use Rattle.ruby_tree.specs.FaultLine.{count_of}
use Rattle.reference_laws.proofs.Promises.{Shorter, NoLonger, Shorters, Keepers}
use Rattle.reference_laws.proofs.Moves.{Moves, Movers}
use Rattle.reference_laws.proofs.ShorterItems.{moves_newlines, moves_method_name, moves_block_params, moves_more_targets, moves_several, moves_element, moves_elements, moves_pair, moves_pair_list, moves_passed, moves_items, moves_in_brackets, moves_command_items}
use Rattle.reference_laws.proofs.ShorterBodies.{moves_clauses, moves_rescued, moves_body, moves_call_items, moves_elses, moves_when_list, moves_method_params}
use Rattle.reference_laws.proofs.ShorterOperands.{moves_primary, moves_postfixes, moves_postfix}
use Rattle.reference_laws.proofs.ShorterLevels.{moves_tight, moves_power, moves_minus, moves_product, moves_sum, moves_shift, moves_intersection, moves_union, moves_order, moves_equality, moves_conjunction, moves_disjunction}
use Rattle.reference_laws.proofs.ShorterStatements.{moves_command, moves_value, moves_unset, moves_arg, moves_whole, moves_test, moves_tests, moves_expr, moves_head, moves_stmt, moves_stmt_list, moves_stmts}

pub less_of : {b : Bool} {w r : Toks} {s z : Scope} → Moves b 1 w s r z → count_of r < count_of w
less_of {w = w} {r = r} h = let all : 1 + count_of r ≤ count_of w = h.tokens in omega arith

pub no_more_of : {b : Bool} {n : ℕ} {w r : Toks} {s z : Scope} → Moves b n w s r z → count_of r ≤ count_of w
no_more_of {n = n} {w = w} {r = r} h = let all : n + count_of r ≤ count_of w = h.tokens in omega arith

moves_less : {w r : Toks} {s z : Scope} → count_of r < count_of w → Moves false 1 w s r z
moves_less {w = w} {r = r} h = record { tokens = omega arith; locals = tt }

moves_no_more : {w r : Toks} {s z : Scope} → count_of r ≤ count_of w → Moves false 0 w s r z
moves_no_more {w = w} {r = r} h = record { tokens = omega arith; locals = tt }

-- the tokens alone
pub movers_of : (R : Rels) → Shorters R → Movers false R
movers_of R S = record {
  stmts = λ d w s t r z h. moves_no_more (S.stmts d w s t r z h);
  expr = λ d w s t r z h. moves_less (S.expr d w s t r z h);
  test = λ d w s t r z h. moves_less (S.test d w s t r z h);
  assigned_value = λ d w s t r z h. moves_less (S.assigned_value d w s t r z h);
  arg = λ d w s t r z h. moves_less (S.arg d w s t r z h);
  minus = λ d w s t r z h. moves_less (S.minus d w s t r z h);
  power = λ d w s t r z h. moves_less (S.power d w s t r z h);
  unary_operand = λ d w s t r z h. moves_less (S.unary_operand d w s t r z h);
  else_branches = λ d w s t r z h. moves_no_more (S.else_branches d w s t r z h);
}

pub movers : (b : Bool) (source : Bytes) (n : ℕ) → Movers b (derives source n)
unfolding derives
movers b source zero = record {
  stmts = λ d w s t r z h. absurd h;
  expr = λ d w s t r z h. absurd h;
  test = λ d w s t r z h. absurd h;
  assigned_value = λ d w s t r z h. absurd h;
  arg = λ d w s t r z h. absurd h;
  minus = λ d w s t r z h. absurd h;
  power = λ d w s t r z h. absurd h;
  unary_operand = λ d w s t r z h. absurd h;
  else_branches = λ d w s t r z h. absurd h;
}
movers b source (suc n) =
    let M = movers b source n in
    let R = derives source n in
    record {
      stmts = moves_stmts source b R M;
      expr = moves_expr source b R M;
      test = moves_test source b R M;
      assigned_value = moves_whole source b R M;
      arg = moves_arg source b R M;
      minus = moves_minus source b R M;
      power = moves_power source b R M;
      unary_operand = moves_tight source b R M;
      else_branches = moves_elses source b R M;
    }

pub shorters : (source : Bytes) (n : ℕ) → Shorters (derives source n)
shorters source n =
    let M = movers false source n in
    record {
      stmts = λ d w s t r z h. no_more_of (M.stmts d w s t r z h);
      expr = λ d w s t r z h. less_of (M.expr d w s t r z h);
      test = λ d w s t r z h. less_of (M.test d w s t r z h);
      assigned_value = λ d w s t r z h. less_of (M.assigned_value d w s t r z h);
      arg = λ d w s t r z h. less_of (M.arg d w s t r z h);
      minus = λ d w s t r z h. less_of (M.minus d w s t r z h);
      power = λ d w s t r z h. less_of (M.power d w s t r z h);
      unary_operand = λ d w s t r z h. less_of (M.unary_operand d w s t r z h);
      else_branches = λ d w s t r z h. no_more_of (M.else_branches d w s t r z h);
    }

pub keepers : (source : Bytes) (n : ℕ) → Keepers (derives source n)
keepers source n =
    let M = movers true source n in
    record {
      stmts = λ d w s t r z h. (M.stmts d w s t r z h).locals;
      expr = λ d w s t r z h. (M.expr d w s t r z h).locals;
      test = λ d w s t r z h. (M.test d w s t r z h).locals;
      assigned_value = λ d w s t r z h. (M.assigned_value d w s t r z h).locals;
      arg = λ d w s t r z h. (M.arg d w s t r z h).locals;
      minus = λ d w s t r z h. (M.minus d w s t r z h).locals;
      power = λ d w s t r z h. (M.power d w s t r z h).locals;
      unary_operand = λ d w s t r z h. (M.unary_operand d w s t r z h).locals;
      else_branches = λ d w s t r z h. (M.else_branches d w s t r z h).locals;
    }

module _ (source : Bytes) where
  pub shorter_newlines : (w r : Toks) → Newlines source w r → count_of r ≤ count_of w
  shorter_newlines w r h = no_more_of (moves_newlines source false (record { locals = []; clause = false }) w r h)

  pub shorter_method_name : (defines : Bool) (w : Toks) (m : Bytes) (r : Toks) → MethodName source defines w m r → count_of r < count_of w
  shorter_method_name defines w m r h = less_of (moves_method_name source false (record { locals = []; clause = false }) defines w m r h)

  pub shorter_block_params : Shorter (BlockParams source)
  shorter_block_params w s t r z h = less_of (moves_block_params source false w s t r z h)

  pub shorter_more_targets : Shorter (MoreTargets source)
  shorter_more_targets w s t r z h = less_of (moves_more_targets source false w s t r z h)

  module _ (R : Rels) (S : Shorters R) where
    pub shorter_several : (d : DoBlockOwner) → Shorter (Several source R d)
    shorter_several d w s t r z h = less_of (moves_several source false R (movers_of R S) d w s t r z h)

    pub shorter_element : (d : DoBlockOwner) (k : Bool) → Shorter (Element source R d k)
    shorter_element d k w s t r z h = less_of (moves_element source false R (movers_of R S) d k w s t r z h)

    pub shorter_elements : (d : DoBlockOwner) (k : ℕ) (w : Toks) (s : Scope) (ts : Trees) (ks : List ℕ) (r : Toks) (z : Scope) → Elements source R d k w s ts ks r z → count_of r < count_of w
    shorter_elements d k w s ts ks r z h = less_of (moves_elements source false R (movers_of R S) d k w s ts ks r z h)

    pub shorter_pair : (d : DoBlockOwner) (w : Toks) (s : Scope) (k v : Tree) (r : Toks) (z : Scope) → Pair source R d w s k v r z → count_of r < count_of w
    shorter_pair d w s k v r z h = less_of (moves_pair source false R (movers_of R S) d w s k v r z h)

    pub shorter_pair_list : (d : DoBlockOwner) → Shorter (PairList source R d)
    shorter_pair_list d w s t r z h = less_of (moves_pair_list source false R (movers_of R S) d w s t r z h)

    pub shorter_passed : (d : DoBlockOwner) (w : Toks) (s : Scope) (v b : Other) (r : Toks) (z : Scope) → Passed source R d w s v b r z → count_of r < count_of w
    shorter_passed d w s v b r z h = less_of (moves_passed source false R (movers_of R S) d w s v b r z h)

    pub shorter_items : (d : DoBlockOwner) (k : ℕ) → Shorter (Items source R d k)
    shorter_items d k w s t r z h = less_of (moves_items source false R (movers_of R S) d k w s t r z h)

    pub shorter_in_brackets : Shorter (InBrackets source R)
    shorter_in_brackets w s t r z h = less_of (moves_in_brackets source false R (movers_of R S) w s t r z h)

    pub shorter_command_items : (d : DoBlockOwner) → Shorter (CommandItems source R d)
    shorter_command_items d w s t r z h = less_of (moves_command_items source false R (movers_of R S) d w s t r z h)

    pub shorter_clauses : (d : DoBlockOwner) → Shorter (Clauses source R d)
    shorter_clauses d w s t r z h = less_of (moves_clauses source false R (movers_of R S) d w s t r z h)

    pub shorter_rescued : (d : DoBlockOwner) (o : SourcePosition) → NoLonger (Rescued source R d o)
    shorter_rescued d o w s t r z h = no_more_of (moves_rescued source false R (movers_of R S) d o w s t r z h)

    pub shorter_body : (d : DoBlockOwner) (o : SourcePosition) → NoLonger (Body source R d o)
    shorter_body d o w s t r z h = no_more_of (moves_body source false R (movers_of R S) d o w s t r z h)

    pub shorter_call_items : (d : DoBlockOwner) (w : Toks) (s : Scope) (a : Given) (b : Other) (r : Toks) (z : Scope) → CallItems source R d w s a b r z → count_of r ≤ count_of w
    shorter_call_items d w s a b r z h = no_more_of (moves_call_items source false R (movers_of R S) d w s a b r z h)

    pub shorter_when_list : (d : DoBlockOwner) → Shorter (WhenList source R d)
    shorter_when_list d w s t r z h = less_of (moves_when_list source false R (movers_of R S) d w s t r z h)

    pub shorter_method_params : (d : DoBlockOwner) (l : ℕ) → Shorter (MethodParams source R d l)
    shorter_method_params d l w s t r z h = less_of (moves_method_params source false R (movers_of R S) d l w s t r z h)

    pub shorter_primary : (d : DoBlockOwner) → Shorter (Primary source R d)
    shorter_primary d w s t r z h = less_of (moves_primary source false R (movers_of R S) d w s t r z h)

    pub shorter_postfixes : (d : DoBlockOwner) (o : Toks) (a : Tree) → NoLonger (Postfixes source R d o a)
    shorter_postfixes d o a w s t r z h = no_more_of (moves_postfixes source false R (movers_of R S) d o a w s t r z h)

    pub shorter_postfix : (d : DoBlockOwner) → Shorter (Postfix source R d)
    shorter_postfix d w s t r z h = less_of (moves_postfix source false R (movers_of R S) d w s t r z h)

    pub shorter_tight : (d : DoBlockOwner) → Shorter (UnaryOperand source R d)
    shorter_tight d w s t r z h = less_of (moves_tight source false R (movers_of R S) d w s t r z h)

    pub shorter_power : (d : DoBlockOwner) → Shorter (Power source R d)
    shorter_power d w s t r z h = less_of (moves_power source false R (movers_of R S) d w s t r z h)

    pub shorter_minus : (d : DoBlockOwner) → Shorter (Minus source R d)
    shorter_minus d w s t r z h = less_of (moves_minus source false R (movers_of R S) d w s t r z h)

    pub shorter_product : (d : DoBlockOwner) → Shorter (Product source R d)
    shorter_product d w s t r z h = less_of (moves_product source false R (movers_of R S) d w s t r z h)

    pub shorter_sum : (d : DoBlockOwner) → Shorter (Sum source R d)
    shorter_sum d w s t r z h = less_of (moves_sum source false R (movers_of R S) d w s t r z h)

    pub shorter_shift : (d : DoBlockOwner) → Shorter (Shift source R d)
    shorter_shift d w s t r z h = less_of (moves_shift source false R (movers_of R S) d w s t r z h)

    pub shorter_intersection : (d : DoBlockOwner) → Shorter (Intersection source R d)
    shorter_intersection d w s t r z h = less_of (moves_intersection source false R (movers_of R S) d w s t r z h)

    pub shorter_union : (d : DoBlockOwner) → Shorter (Union source R d)
    shorter_union d w s t r z h = less_of (moves_union source false R (movers_of R S) d w s t r z h)

    pub shorter_order : (d : DoBlockOwner) → Shorter (Order source R d)
    shorter_order d w s t r z h = less_of (moves_order source false R (movers_of R S) d w s t r z h)

    pub shorter_equality : (d : DoBlockOwner) → Shorter (Equality source R d)
    shorter_equality d w s t r z h = less_of (moves_equality source false R (movers_of R S) d w s t r z h)

    pub shorter_conjunction : (d : DoBlockOwner) → Shorter (Conjunction source R d)
    shorter_conjunction d w s t r z h = less_of (moves_conjunction source false R (movers_of R S) d w s t r z h)

    pub shorter_disjunction : (d : DoBlockOwner) → Shorter (Disjunction source R d)
    shorter_disjunction d w s t r z h = less_of (moves_disjunction source false R (movers_of R S) d w s t r z h)

    pub shorter_command : (d : DoBlockOwner) → Shorter (Command source R d)
    shorter_command d w s t r z h = less_of (moves_command source false R (movers_of R S) d w s t r z h)

    pub shorter_value : (d : DoBlockOwner) → Shorter (Value source R d)
    shorter_value d w s t r z h = less_of (moves_value source false R (movers_of R S) d w s t r z h)

    pub shorter_unset : (d : DoBlockOwner) → Shorter (Unset source R d)
    shorter_unset d w s t r z h = less_of (moves_unset source false R (movers_of R S) d w s t r z h)

    pub shorter_test : (d : DoBlockOwner) → Shorter (Test source R d)
    shorter_test d w s t r z h = less_of (moves_test source false R (movers_of R S) d w s t r z h)

    pub shorter_tests : (d : DoBlockOwner) (o : Toks) (a : Tree) → NoLonger (Tests source R d o a)
    shorter_tests d o a w s t r z h = no_more_of (moves_tests source false R (movers_of R S) d o a w s t r z h)

    pub shorter_expr : (d : DoBlockOwner) → Shorter (Expr source R d)
    shorter_expr d w s t r z h = less_of (moves_expr source false R (movers_of R S) d w s t r z h)

    pub shorter_head : (d : DoBlockOwner) → Shorter (Head source R d)
    shorter_head d w s t r z h = less_of (moves_head source false R (movers_of R S) d w s t r z h)

    pub shorter_stmt : (d : DoBlockOwner) → Shorter (Stmt source R d)
    shorter_stmt d w s t r z h = less_of (moves_stmt source false R (movers_of R S) d w s t r z h)

    pub shorter_stmt_list : (d : DoBlockOwner) → NoLonger (StmtList source R d)
    shorter_stmt_list d w s t r z h = no_more_of (moves_stmt_list source false R (movers_of R S) d w s t r z h)
