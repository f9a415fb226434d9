-- What is derived is derived with symbols nested no deeper than its tree.
use Rattle.std.proofs.Common.{ℕ, zero, suc, ◌≤◌, arith}
use Rattle.ruby_lexer.specs.Bytes.{Bytes}
use Rattle.ruby_lexer.specs.Pieces.{Toks}
use Rattle.ruby_tree.specs.Tree.{Tree}
use Rattle.ruby_tree.specs.Rules.{Scope, DoBlockOwner}
use Rattle.ruby_tree.specs.Depth.{depth}
use Rattle.ruby_tree.specs.Grammar.{derives}
use Rattle.reference_laws.proofs.FitsTools.{Fit, some_node}
use Rattle.reference_laws.proofs.FitsBodies.{fits-else_branches}
use Rattle.reference_laws.proofs.FitsLevels.{fits-unary_operand, fits-power, fits-minus}
use Rattle.reference_laws.proofs.FitsArguments.{fits-arg, fits-whole, fits-test, fits-expr, fits-stmts}

each_fits : (source : Bytes) (m k : ℕ) → Fit k (derives source m) (derives source k)
unfolding derives
each_fits source zero k = record {
  stmts = λ h le. absurd h;
  expr = λ h le. absurd h;
  test = λ h le. absurd h;
  assigned_value = λ h le. absurd h;
  arg = λ h le. absurd h;
  minus = λ h le. absurd h;
  power = λ h le. absurd h;
  unary_operand = λ h le. absurd h;
  else_branches = λ h le. absurd h;
}
each_fits source (suc m) zero = record {
  stmts = λ {t = t} h le. absurd (omega (arith, some_node t));
  expr = λ h le. absurd (omega arith);
  test = λ h le. absurd (omega arith);
  assigned_value = λ h le. absurd (omega arith);
  arg = λ h le. absurd (omega arith);
  minus = λ h le. absurd (omega arith);
  power = λ h le. absurd (omega arith);
  unary_operand = λ h le. absurd (omega arith);
  else_branches = λ h le. absurd (omega arith);
}
each_fits source (suc m) (suc k) = record {
  stmts = λ h le. fits-stmts source k _ _ (each_fits source m k) h le;
  expr = λ h le. fits-expr source k _ _ (each_fits source m k) h (omega arith);
  test = λ h le. fits-test source k _ _ (each_fits source m k) h (omega arith);
  assigned_value = λ h le. fits-whole source k _ _ (each_fits source m k) h (omega arith);
  arg = λ h le. fits-arg source k _ _ (each_fits source m k) h (omega arith);
  minus = λ h le. fits-minus source k _ _ (each_fits source m k) _ _ _ _ _ _ h (omega arith);
  power = λ h le. fits-power source k _ _ (each_fits source m k) _ _ _ _ _ _ h (omega arith);
  unary_operand = λ h le. fits-unary_operand source k _ _ (each_fits source m k) _ _ _ _ _ _ h (omega arith);
  else_branches = λ h le. fits-else_branches source k _ _ (each_fits source m k) h (omega arith);
}

pub fits : (source : Bytes) (m k : ℕ) (d : DoBlockOwner) (w : Toks) (s : Scope) (t : Tree) (r : Toks) (z : Scope) → (derives source m).stmts d w s t r z → depth t ≤ k → (derives source k).stmts d w s t r z
fits source m k d w s t r z h le = (each_fits source m k).stmts h le
