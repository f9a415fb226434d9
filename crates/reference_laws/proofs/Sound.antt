-- What the list reader takes is derived, at each depth.
use Rattle.std.proofs.Common.{ℕ, zero, suc}
use Rattle.ruby_lexer.specs.Bytes.{Bytes}
use Rattle.ruby_tree.specs.Grammar.{derives}
use Rattle.reference_parser.specs.ReadStatements.{readers}
use Rattle.reference_laws.proofs.Promises.{at_depth, Sounds}
use Rattle.reference_laws.proofs.SoundBodies.{sound-else_branches}
use Rattle.reference_laws.proofs.SoundLevels.{sound-unary_operand, sound-power, sound-minus}
use Rattle.reference_laws.proofs.SoundArguments.{sound-arg, sound-whole}
use Rattle.reference_laws.proofs.SoundStatements.{sound-test, sound-expr, sound-stmts}

pub sound : (source : Bytes) (n : ℕ) → Sounds (derives source n) (readers source n)
unfolding derives readers
sound source zero = record {
  stmts = λ d w s. at_depth;
  expr = λ d w s. at_depth;
  test = λ d w s. at_depth;
  assigned_value = λ d w s. at_depth;
  arg = λ d w s. at_depth;
  minus = λ d w s. at_depth;
  power = λ d w s. at_depth;
  unary_operand = λ d w s. at_depth;
  else_branches = λ d w s. at_depth;
}
sound source (suc n) = record {
  stmts = sound-stmts source _ _ (sound source n);
  expr = sound-expr source _ _ (sound source n);
  test = sound-test source _ _ (sound source n);
  assigned_value = sound-whole source _ _ (sound source n);
  arg = sound-arg source _ _ (sound source n);
  minus = sound-minus source _ _ (sound source n);
  power = sound-power source _ _ (sound source n);
  unary_operand = sound-unary_operand source _ _ (sound source n);
  else_branches = sound-else_branches source _ _ (sound source n);
}
