-- A branch to what stores the old value.
use Rattle.std.proofs.Common.{◌≡◌, ℕ, ◌+◌, ◌-◌, length, ap, ◌∙◌, arith}
use Rattle.iseq_types.specs.declared.instructions.Instr.{Instr}
use Rattle.iseq_types.specs.declared.instructions.Instr.TheVariants.{Dup, Pop, Jump, SetN, AdjustStack}
use Rattle.ruby_tree.specs.Names.{Bytes}
use Rattle.code_meaning.specs.Code.{Shape, done, op, ahead, part, size, at_line}
use Rattle.compile_table.specs.Shapes.{set_by_send, or_set}
use Rattle.code_writer.specs.Writing.{Writing, grown, wrote, plain, on}
use Rattle.code_writer.proofs.Growing.{grown_length}

-- the new value is set, and what stores the old one stands behind it, jumped over
abbrev pub new_set : ℕ → ℕ → ℕ → Bytes → ℕ → ℕ → Shape → Shape
new_set line call depth x n flags v = op line Pop (part depth v (set_by_send line call depth x n flags (ahead line Jump 2 (op line (SetN depth) (op line (AdjustStack depth) done)))))

branches_to_old : (h line call depth : ℕ) (x : Bytes) (n flags : ℕ) (branch : ℕ → Instr) (v : Shape) (w : Writing) (len stored : ℕ) → len ≡ length w.steps → stored ≡ len + 2 → length (grown h (new_set line call depth x n flags v) w).steps - stored ≡ size v + 5
branches_to_old h line call depth x n flags branch v w len stored is two = let e = grown_length h (new_set line call depth x n flags v) w in omega (arith, e, is, two)

pub stores_old : (h line call depth : ℕ) (x : Bytes) (n flags : ℕ) (branch : ℕ → Instr) (v : Shape) (w a b y : Writing) (len stored : ℕ) → len ≡ length w.steps → stored ≡ len + 2 → a ≡ grown h (new_set line call depth x n flags v) w → b ≡ wrote (on line branch (length a.steps - stored)) a → y ≡ wrote (plain (at_line line Dup)) b → y ≡ grown h (or_set line call branch depth x n flags v) w
stores_old h line call depth x n flags branch v w a b y len stored is two grows branches dups =
    dups
    ∙ ap (wrote (plain (at_line line Dup)))
    (branches
    ∙ ap (λ u. wrote (on line branch (length u.steps - stored)) u) grows
    ∙ ap (λ m. wrote (on line branch m) (grown h (new_set line call depth x n flags v) w)) (branches_to_old h line call depth x n flags branch v w len stored is two))
