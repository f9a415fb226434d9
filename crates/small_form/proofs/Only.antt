-- Arguments that are not one.
use Rattle.std.proofs.Common.{◌≡◌, ℕ, ◌<◌, ◌≤◌, List, [], ◌∷◌, length, None, refl, arith}
use Rattle.std.specs.Prelude.{◌==◌, nat_le}
use Rattle.ruby_tree.specs.declared.node.Node.{Node}
use Rattle.ruby_tree.specs.Names.{Texts}
use Rattle.ruby_tree.specs.Views.{read_all}
use Rattle.small_form.specs.SmallForm.{Names, only_operand, only_put, begins_in_line_1}

module _ (texts : Texts) (n : ℕ) (names : Names) where
  pub no_operand : (ns : List Node) → length ns < 1 → only_operand n names (read_all texts ns) ≡ None
  no_operand [] lt = refl
  no_operand (a ∷ ns) lt = absurd (omega (arith, lt))

  pub many_operands : (ns : List Node) → 2 ≤ length ns → only_operand n names (read_all texts ns) ≡ None
  many_operands [] le = absurd (omega (arith, le))
  many_operands (a ∷ []) le = absurd (omega (arith, le))
  many_operands (a ∷ b ∷ ns) le = refl

  pub no_put : (ns : List Node) → length ns < 1 → only_put n names (read_all texts ns) ≡ None
  no_put [] lt = refl
  no_put (a ∷ ns) lt = absurd (omega (arith, lt))

  pub many_puts : (ns : List Node) → 2 ≤ length ns → only_put n names (read_all texts ns) ≡ None
  many_puts [] le = absurd (omega (arith, le))
  many_puts (a ∷ []) le = absurd (omega (arith, le))
  many_puts (a ∷ b ∷ ns) le = refl

-- the first line of some statements
pub begins_some : (texts : Texts) (n : ℕ) (ns : List Node) → 1 ≤ length ns → begins_in_line_1 n (read_all texts ns) ≡ (n == 1)
begins_some texts n [] le = absurd (omega (arith, le))
begins_some texts n (a ∷ ns) le = refl

pub begins_none : (texts : Texts) (n : ℕ) (ns : List Node) → length ns < 1 → begins_in_line_1 n (read_all texts ns) ≡ nat_le n 1
begins_none texts n [] lt = refl
begins_none texts n (a ∷ ns) lt = absurd (omega (arith, lt))

pub ruleset begun = (begins_some, begins_none)

pub ruleset only = (no_operand, many_operands, no_put, many_puts)
