-- What the list reader answers does not hang on the depth, where the depth is enough.
use Rattle.std.proofs.Common.{ℕ, zero, suc, ◌+◌, inl, inr, refl, ◌∙◌, add-zero, add-suc}
use Rattle.ruby_lexer.specs.Bytes.{Bytes}
use Rattle.reference_parser.specs.Answers.{Answer}
use Rattle.reference_parser.specs.ReadItems.{Readers}
use Rattle.reference_parser.specs.ReadStatements.{readers}
use Rattle.reference_laws.proofs.StableTools.{Agree, Stables, same}
use Rattle.reference_laws.proofs.StableBodies.{stable_elses}
use Rattle.reference_laws.proofs.StableLevels.{stable_tight, stable_power, stable_minus}
use Rattle.reference_laws.proofs.StableStatements.{stable_arg, stable_whole, stable_test, stable_expr, stable_stmts}

pub stable : (source : Bytes) (n : ℕ) → Stables (readers source n) (readers source (suc n))
unfolding readers
stable source zero = record {
  stmts = λ d w s. inl refl;
  expr = λ d w s. inl refl;
  test = λ d w s. inl refl;
  assigned_value = λ d w s. inl refl;
  arg = λ d w s. inl refl;
  minus = λ d w s. inl refl;
  power = λ d w s. inl refl;
  unary_operand = λ d w s. inl refl;
  else_branches = λ d w s. inl refl;
}
stable source (suc n) = record {
  stmts = stable_stmts source _ _ (stable source n);
  expr = stable_expr source _ _ (stable source n);
  test = stable_test source _ _ (stable source n);
  assigned_value = stable_whole source _ _ (stable source n);
  arg = stable_arg source _ _ (stable source n);
  minus = stable_minus source _ _ (stable source n);
  power = stable_power source _ _ (stable source n);
  unary_operand = stable_tight source _ _ (stable source n);
  else_branches = stable_elses source _ _ (stable source n);
}

-- from the first to the second, and on to the third
agree_on : {A : Type 0} {o u v : Answer A} → Agree o u → Agree u v → Agree o v
agree_on (inl e) k = inl e
agree_on (inr e) (inl h) = inl (e ∙ h)
agree_on (inr e) (inr h) = inr (e ∙ h)

stables_same : (Q : Readers) → Stables Q Q
stables_same Q = record {
  stmts = λ d w s. same;
  expr = λ d w s. same;
  test = λ d w s. same;
  assigned_value = λ d w s. same;
  arg = λ d w s. same;
  minus = λ d w s. same;
  power = λ d w s. same;
  unary_operand = λ d w s. same;
  else_branches = λ d w s. same;
}

stables_on : {Q P N : Readers} → Stables Q P → Stables P N → Stables Q N
stables_on h k = record {
  stmts = λ d w s. agree_on (h.stmts d w s) (k.stmts d w s);
  expr = λ d w s. agree_on (h.expr d w s) (k.expr d w s);
  test = λ d w s. agree_on (h.test d w s) (k.test d w s);
  assigned_value = λ d w s. agree_on (h.assigned_value d w s) (k.assigned_value d w s);
  arg = λ d w s. agree_on (h.arg d w s) (k.arg d w s);
  minus = λ d w s. agree_on (h.minus d w s) (k.minus d w s);
  power = λ d w s. agree_on (h.power d w s) (k.power d w s);
  unary_operand = λ d w s. agree_on (h.unary_operand d w s) (k.unary_operand d w s);
  else_branches = λ d w s. agree_on (h.else_branches d w s) (k.else_branches d w s);
}

-- so at each greater depth
pub stable_more : (source : Bytes) (n k : ℕ) → Stables (readers source n) (readers source (n + k))
stable_more source n zero = rw add-zero (stables_same (readers source n))
stable_more source n (suc k) = rw add-suc (stables_on (stable_more source n k) (stable source (n + k)))
