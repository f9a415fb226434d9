-- Parameters that may be left out, and what stands behind them.
use Rattle.std.proofs.Common.{◌≡◌, ℕ, ◌+◌, Bool, List, [], ◌∷◌, ◌++◌, length, reverse, refl, ap, sym, ◌∙◌, arith}
use Rattle.std.proofs.lemmas.List.{append-nil}
use Rattle.std.proofs.lemmas.Grind.{reverse_onto}
use Rattle.ruby_tree.specs.declared.node.Node.{Node}
use Rattle.ruby_tree.specs.declared.node.Param.{Param}
use Rattle.ruby_tree.specs.declared.node.Param.TheVariants as param
use Rattle.ruby_tree.specs.Names.{Bytes, Texts}
use Rattle.ruby_tree.specs.Tree.{Tree, Params, no_param, required, optional, rest_param, block_param}
use Rattle.ruby_tree.specs.Views.{read_param}
use Rattle.code_meaning.specs.Code.{Shape, done, op, part, size}
use Rattle.compile_table.specs.Shapes.{Where, shape, params_shape, set_local}
use Rattle.iseq_types.specs.declared.instructions.Instr.TheVariants.{Leave}
use Rattle.code_writer.specs.Writing.{Writing, grown}
use Rattle.code_writer.proofs.Growing.{grown_length}
use Rattle.code_emitter.specs.Children.{params_direct}
use Rattle.emit_bodies.specs.Entries.{starts}

pub params_seam : (l : Where) (h : ℕ) (ps : Params) (s : Shape) (w : Writing) → grown h (params_shape l ps s) w ≡ grown h (params_shape l ps done) (grown h s w)
params_seam l h no_param s w = refl
params_seam l h (required x ps) s w = params_seam l h ps s w
params_seam l h (optional x t ps) s w = ap (λ v. grown (h + 0) (shape l t) (grown h (op l.first (set_local l x) done) v)) (params_seam l h ps s w)
params_seam l h (rest_param x ps) s w = params_seam l h ps s w
params_seam l h (block_param x ps) s w = params_seam l h ps s w

-- one parameter, and those behind it
pub param_before : (l : Where) (h : ℕ) (texts : Texts) (p : Param Node) (ps : Params) (w : Writing) → grown h (params_shape l (read_param texts p ps) done) w ≡ grown h (params_shape l (read_param texts p no_param) done) (grown h (params_shape l ps done) w)
param_before l h texts (param.Required n) ps w = refl
param_before l h texts (param.Optional n t) ps w = refl
param_before l h texts (param.Rest n) ps w = refl
param_before l h texts (param.Block n) ps w = refl

pub param_children : (loop : Bool) (texts : Texts) (p : Param Node) (ps : Params) → params_direct loop ps ++ params_direct loop (read_param texts p no_param) ≡ params_direct loop (read_param texts p ps)
param_children loop texts (param.Required n) ps = append-nil (params_direct loop ps)
param_children loop texts (param.Optional n t) ps = refl
param_children loop texts (param.Rest n) ps = append-nil (params_direct loop ps)
param_children loop texts (param.Block n) ps = append-nil (params_direct loop ps)

-- a body begins at a parameter that may be left out
pub optional_place : (l : Where) (h n : ℕ) (x : Bytes) (t : Tree) (ps : Params) (places : List ℕ) (place : ℕ) (old new : Writing) → places ≡ reverse (starts l n ps) → length old.steps ≡ size (params_shape l ps done) + n → new ≡ grown h (params_shape l (optional x t no_param) done) old → place ≡ length new.steps → places ++ place ∷ [] ≡ reverse (starts l n (optional x t ps))
optional_place l h n x t ps places place old new are stands is here =
    let counts = ap (λ (w : Writing). length w.steps) is in
    let grows = grown_length h (params_shape l (optional x t no_param) done) old in
    let there : place ≡ size (params_shape l (optional x t ps) done) + n = omega arith in
    ap (λ ns. ns ++ place ∷ []) are
    ∙ ap (λ m. reverse (starts l n ps) ++ m ∷ []) there
    ∙ sym (reverse_onto (starts l n ps) (size (params_shape l (optional x t ps) done) + n) [])

-- how many instructions stand behind the parameters
pub body_length : (l : Where) (h : ℕ) (t : Tree) (old new : Writing) → new ≡ grown h (part 0 (shape l t) (op l.first Leave done)) old → length new.steps ≡ length old.steps + size (shape l t) + 1
body_length l h t old new is =
    let counts = ap (λ (w : Writing). length w.steps) is in
    let grows = grown_length h (part 0 (shape l t) (op l.first Leave done)) old in
    omega arith
