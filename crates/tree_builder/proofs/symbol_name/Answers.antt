use Rattle.std.proofs.Common.{sym, subst, arith}
use Rattle.tree_builder.specs.Subtrees.{IsOtherName}
use Rattle.ruby_tree.specs.Build.{symbol_of}
use Rattle.tree_builder.proofs.symbol_name.Goals as goal
use Rattle.tree_builder.proofs.Built.{symbol_is, no_symbol}

pub returns-then-part-gt-MAX_DEPTH : goal.returns-then-part-gt-MAX_DEPTH
returns-then-part-gt-MAX_DEPTH c T t h = no_symbol T t (omega (arith, h.shows))

pub returns : goal.returns
returns c T t h = subst (λ n. IsOtherName T n (symbol_of t)) (sym c.symbol_in.ensures) (symbol_is T _ t h (omega (arith, h.shows)))
