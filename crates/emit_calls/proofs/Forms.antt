-- What is written behind a receiver, and before one that may be nil.
use Rattle.std.proofs.Common.{◌≡◌, ℕ, suc, ◌-◌, List, [], ◌∷◌, length, refl, ap, ◌∙◌, arith}
use Rattle.ruby_tree.specs.declared.node.Node.{Node}
use Rattle.ruby_tree.specs.declared.node.Param.{Param}
use Rattle.ruby_tree.specs.declared.node.Param.TheVariants as param
use Rattle.ruby_tree.specs.Names.{Bytes, Texts}
use Rattle.ruby_tree.specs.FirstFault.{param_name}
use Rattle.ruby_tree.specs.Tree.{Trees, Other, Params}
use Rattle.ruby_tree.specs.Read.{text_of_name}
use Rattle.ruby_tree.specs.Views.{read_param, read_params}
use Rattle.iseq_types.specs.declared.instructions.Instr.{Instr}
use Rattle.iseq_types.specs.declared.instructions.Instr.TheVariants.{Dup, BranchNil}
use Rattle.ruby_meaning.specs.Locals.{names_of_params}
use Rattle.code_meaning.specs.Code.{Shape, done, op, ahead, size, at_line}
use Rattle.compile_table.specs.Shapes.{Where, count, args_shape, value_shape, with_literal, gets, get_local}
use Rattle.code_writer.specs.Writing.{Writing, grown, wrote, plain, on}
use Rattle.code_writer.proofs.Growing.{grown_length}
use Rattle.code_emitter.proofs.Seams.{args_seam, value_seam}
use Rattle.emit_calls.specs.Calls.{after_receiver}

pub operands_apart : (l : Where) (h line : ℕ) (ts : Trees) (v : Other) (call : ℕ → Instr) (t : Other) (w : Writing) → grown h (after_receiver l line ts v call t) w ≡ grown h (args_shape l 1 ts done) (grown h (value_shape l (suc (count ts)) v done) (grown h (with_literal l line call t) w))
operands_apart l h line ts v call t w = args_seam l h 1 ts (value_shape l (suc (count ts)) v (with_literal l line call t)) w ∙ ap (grown h (args_shape l 1 ts done)) (value_seam l h (suc (count ts)) v (with_literal l line call t) w)

-- a branch over what is written of a shape
jumps_over : (h line : ℕ) (branch : ℕ → Instr) (s : Shape) (w : Writing) → wrote (on line branch (length (grown h s w).steps - length w.steps)) (grown h s w) ≡ grown h (ahead line branch (size s) s) w
jumps_over h line branch s w = ap (λ n. wrote (on line branch n) (grown h s w)) (let e = grown_length h s w in omega (arith, e))

pub skipped : (h line : ℕ) (s : Shape) (w v x y : Writing) (end : ℕ) → end ≡ length w.steps → v ≡ grown h s w → x ≡ wrote (on line BranchNil (length v.steps - end)) v → y ≡ wrote (plain (at_line line Dup)) x → y ≡ grown h (op line Dup (ahead line BranchNil (size s) s)) w
skipped h line s w v x y end ends grows jumps dups = dups ∙ ap (wrote (plain (at_line line Dup))) (jumps ∙ ap (λ u. wrote (on line BranchNil (length u.steps - end)) u) grows ∙ ap (λ n. wrote (on line BranchNil (length (grown h s w).steps - n)) (grown h s w)) ends ∙ jumps_over h line BranchNil s w)

pub gets_seam : (l : Where) (h line : ℕ) (xs : List Bytes) (s : Shape) (w : Writing) → grown h (gets l line xs s) w ≡ grown h (gets l line xs done) (grown h s w)
gets_seam l h line [] s w = refl
gets_seam l h line (x ∷ xs) s w = ap (λ v. grown h (op line (get_local l x) done) v) (gets_seam l h line xs s w)

-- as many names as parameters
pub count_names : (texts : Texts) (ps : List (Param Node)) → length (names_of_params (read_params texts ps)) ≡ length ps
count_names texts [] = refl
count_names texts (param.Required n ∷ ps) = ap suc (count_names texts ps)
count_names texts (param.Optional n a ∷ ps) = ap suc (count_names texts ps)
count_names texts (param.Rest n ∷ ps) = ap suc (count_names texts ps)
count_names texts (param.Block n ∷ ps) = ap suc (count_names texts ps)

-- the name of one parameter, and those behind it
pub first_name : (texts : Texts) (p : Param Node) (ps : Params) → names_of_params (read_param texts p ps) ≡ text_of_name texts (param_name p) ∷ names_of_params ps
first_name texts (param.Required n) ps = refl
first_name texts (param.Optional n a) ps = refl
first_name texts (param.Rest n) ps = refl
first_name texts (param.Block n) ps = refl
