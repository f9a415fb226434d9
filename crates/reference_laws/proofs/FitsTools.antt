-- How deep symbols nest in what is derived: never deeper than its tree.
use Rattle.std.proofs.Common.{◌≡◌, ℕ, ◌<◌, ◌≤◌, max, Bool, true, false, if◌then◌else◌, Some, refl, arith}
use Rattle.ruby_lexer.specs.Bytes.{Bytes}
use Rattle.ruby_lexer.specs.Pieces.{Toks}
use Rattle.ruby_tree.specs.Tree.{Tree, at, symbol, constant_path, Other, without, with}
use Rattle.ruby_tree.specs.Rules.{Scope, DoBlockOwner}
use Rattle.ruby_tree.specs.Build.{Given, is_there, has_block, symbol_of, call_form, path_with}
use Rattle.ruby_tree.specs.Depth.{depth, form_depth, trees_depth, other_depth}
use Rattle.ruby_tree.specs.Grammar.{Rels}

-- What nests in R with a tree below the k-th node nests in T. Statements have a node of their own.
pub record Fit (k : ℕ) (R T : Rels) : Type 0 where
  pub stmts : {d : DoBlockOwner} {w r : Toks} {s z : Scope} {t : Tree} → R.stmts d w s t r z → depth t ≤ k → T.stmts d w s t r z
  pub expr : {d : DoBlockOwner} {w r : Toks} {s z : Scope} {t : Tree} → R.expr d w s t r z → depth t < k → T.expr d w s t r z
  pub test : {d : DoBlockOwner} {w r : Toks} {s z : Scope} {t : Tree} → R.test d w s t r z → depth t < k → T.test d w s t r z
  pub assigned_value : {d : DoBlockOwner} {w r : Toks} {s z : Scope} {t : Tree} → R.assigned_value d w s t r z → depth t < k → T.assigned_value d w s t r z
  pub arg : {d : DoBlockOwner} {w r : Toks} {s z : Scope} {t : Tree} → R.arg d w s t r z → depth t < k → T.arg d w s t r z
  pub minus : {d : DoBlockOwner} {w r : Toks} {s z : Scope} {t : Tree} → R.minus d w s t r z → depth t < k → T.minus d w s t r z
  pub power : {d : DoBlockOwner} {w r : Toks} {s z : Scope} {t : Tree} → R.power d w s t r z → depth t < k → T.power d w s t r z
  pub unary_operand : {d : DoBlockOwner} {w r : Toks} {s z : Scope} {t : Tree} → R.unary_operand d w s t r z → depth t < k → T.unary_operand d w s t r z
  pub else_branches : {d : DoBlockOwner} {w r : Toks} {s z : Scope} {e : Other} → R.else_branches d w s e r z → other_depth e < k → T.else_branches d w s e r z

-- each tree has a node
pub some_node : (t : Tree) → 0 < depth t
some_node (at o f) = omega arith

-- a symbol has one
pub symbol_depth : (a : Tree) (m : Bytes) → symbol_of a ≡ Some m → depth a ≡ 1
symbol_depth (at o (symbol f)) m is = refl
symbol_depth _ m is = absurd cc

-- A call that has neither a block value nor a block for a symbol.
neither : (v b : Other) → (if is_there v then true else is_there b) ≡ false → (other_depth v ≡ 0) × (other_depth b ≡ 0)
neither without without is = (refl, refl)
neither without (with t) is = absurd cc
neither (with t) b is = absurd cc

pub no_block : (g : Given) → has_block g ≡ false → (other_depth g.value ≡ 0) × (other_depth g.block ≡ 0)
no_block g is = neither g.value g.block is

-- the depth of what a call is given, and of a call
abbrev pub given_depth : Given → ℕ
given_depth g = max (trees_depth g.trees) (max (other_depth g.value) (other_depth g.block))

abbrev pub called_depth : Given → Other → ℕ
called_depth g b = max (trees_depth g.trees) (max (other_depth g.value) (other_depth b))

pub call_depth : (k : Bool) (a : Tree) (g : Given) (m : Bytes) (b : Other) → form_depth (call_form k a g m b) ≡ max (depth a) (called_depth g b)
call_depth false a g m b = refl
call_depth true a g m b = refl

pub path_depth : (w : Toks) (a : Tree) (x : Bytes) → depth a ≤ depth (path_with w a x)
path_depth w (at o (constant_path v b xs)) x = omega arith
path_depth w a x = omega arith
