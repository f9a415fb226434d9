-- What is derived up to a newline stays derived with other tokens behind it: no rule looks past a newline that it does not take.
use Rattle.std.proofs.Common.{ℕ, zero, suc, false}
use Rattle.ruby_lexer.specs.Bytes.{Bytes}
use Rattle.ruby_lexer.specs.Pieces.{Toks}
use Rattle.ruby_tree.specs.Grammar.{derives}
use Rattle.reference_laws.proofs.Shorter.{movers}
use Rattle.reference_laws.proofs.SwapTools.{Swaps}
use Rattle.reference_laws.proofs.SwapBodies.{swap_elses}
use Rattle.reference_laws.proofs.SwapLevels.{swap_tight, swap_power, swap_minus}
use Rattle.reference_laws.proofs.SwapStatements.{swap_stmts, swap_expr, swap_test, swap_whole, swap_arg}

pub swaps : (xs ys : Toks) (source : Bytes) (n : ℕ) → Swaps xs ys source (derives source n)
unfolding derives
swaps xs ys source zero = record {
  stmts = λ h a. absurd h;
  expr = λ h a. absurd h;
  test = λ h a. absurd h;
  assigned_value = λ h a. absurd h;
  arg = λ h a. absurd h;
  minus = λ h a. absurd h;
  power = λ h a. absurd h;
  unary_operand = λ h a. absurd h;
  else_branches = λ h a. absurd h;
}
swaps xs ys source (suc n) =
    let S = swaps xs ys source n in
    let M = movers false source n in
    let R = derives source n in
    record {
      stmts = λ h a. swap_stmts xs ys source R S M h a;
      expr = λ h a. swap_expr xs ys source R S M h a;
      test = λ h a. swap_test xs ys source R S M h a;
      assigned_value = λ h a. swap_whole xs ys source R S M h a;
      arg = λ h a. swap_arg xs ys source R S M h a;
      minus = λ h a. swap_minus xs ys source R S M _ _ _ _ _ _ h _ a;
      power = λ h a. swap_power xs ys source R S M _ _ _ _ _ _ h _ a;
      unary_operand = λ h a. swap_tight xs ys source R S M _ _ _ _ _ _ h _ a;
      else_branches = λ h a. swap_elses xs ys source R S h a;
    }
