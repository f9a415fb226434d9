-- The places at which a body begins, from its end.
use Rattle.std.proofs.Common.{◌≡◌, ℕ, ◌+◌, ◌-◌, Bool, true, false, cond, ap, sym, ◌∙◌, arith, List, [], ◌∷◌, length, map, add-zero, zero-add}
use Rattle.ruby_tree.specs.declared.node.Node.{Node}
use Rattle.ruby_tree.specs.declared.node.Node.TheViews.{out-Node}
use Rattle.ruby_tree.specs.Names.{Texts}
use Rattle.ruby_tree.specs.Read.{tree_of}
use Rattle.ruby_tree.specs.Views.{read_kind}
use Rattle.ruby_tree.proofs.Opened.{tree_of-is}
use Rattle.ruby_tree.specs.Tree.{SourcePosition, Tree, at, Form, body, Params, no_param, required, optional, rest_param, block_param}
use Rattle.iseq_types.specs.declared.instructions.Instr.TheVariants.{Leave}
use Rattle.code_meaning.specs.Code.{Shape, done, op, part, size, finish}
use Rattle.code_meaning.proofs.Sizes.{finish_size}
use Rattle.ruby_meaning.specs.Locals.{params_of, params_in}
use Rattle.compile_table.specs.Shapes.{Where, shape, form_shape, params_shape}
use Rattle.compile_table.specs.Sequences.{entries_from, entries_of, has_optional}
use Rattle.code_writer.specs.Writing.{Writing, grown, nothing}
use Rattle.code_writer.proofs.Growing.{grown_length}
use Rattle.emit_bodies.specs.Entries.{starts}
use Rattle.emit_sequence.specs.Starts.{starts_in}

pub starts_are_entries : (l : Where) (n total p : ℕ) (ps : Params) → p + (size (params_shape l ps done) + n) ≡ total → map (λ q. total - q) (starts l n ps) ≡ entries_from l p ps
starts_are_entries l n total p no_param e = let f : total - n ≡ p = omega arith in ap (λ x. x ∷ []) f
starts_are_entries l n total p (required x ps) e = starts_are_entries l n total p ps e
starts_are_entries l n total p (optional x t ps) e =
    let f : total - (size (params_shape l (optional x t ps) done) + n) ≡ p = omega arith in
    let g = finish_size (shape l t) p in
    let h : (finish p (shape l t) + 1) + (size (params_shape l ps done) + n) ≡ total = omega arith in
    let rest = starts_are_entries l n total (finish p (shape l t) + 1) ps h in
    λ k. f k ∷ rest k
starts_are_entries l n total p (rest_param x ps) e = starts_are_entries l n total p ps e
starts_are_entries l n total p (block_param x ps) e = starts_are_entries l n total p ps e

params_size : (l : Where) (ps : Params) (s : Shape) → size (params_shape l ps s) ≡ size (params_shape l ps done) + size s
params_size l no_param s = omega arith
params_size l (required x ps) s = params_size l ps s
params_size l (optional x t ps) s = let e = params_size l ps s in omega arith
params_size l (rest_param x ps) s = params_size l ps s
params_size l (block_param x ps) s = params_size l ps s

pub body_entries : (l : Where) (s : SourcePosition) (ps : Params) (t : Tree) → map (λ q. size (shape l (at s (body ps t))) - q) (starts l (size (shape l t) + 1) ps) ≡ entries_from l 0 ps
body_entries l s ps t =
    let e = params_size l ps (part 0 (shape l t) (op l.first Leave done)) in
    let f : 0 + (size (params_shape l ps done) + (size (shape l t) + 1)) ≡ size (shape l (at s (body ps t))) = omega arith in
    starts_are_entries l (size (shape l t) + 1) (size (shape l (at s (body ps t)))) 0 ps f

-- the places of a form with parameters that may be left out
entries_in : (l : Where) (s : SourcePosition) (f : Form) → has_optional (params_in f) ≡ true → map (λ q. size (form_shape l f s) - q) (starts_in l 0 f) ≡ entries_of l (params_in f)
entries_in l s (body ps t) is =
    ap (λ n. map (λ q. size (shape l (at s (body ps t))) - q) (starts l (n + 1) ps)) (zero-add (size (shape l t)))
    ∙ body_entries l s ps t
    ∙ sym (ap (λ b. cond b (entries_from l 0 ps) []) is)
entries_in l s f is = let no : false ≡ true = is in cc

-- the places of a tree's body, from what was written for the tree before nothing
pub entries_some : (l : Where) (h : ℕ) (texts : Texts) (n : Node) (old new : Writing) (total : ℕ) (behind found : List ℕ) → old ≡ nothing → new ≡ grown h (shape l (tree_of texts n)) old → total ≡ length new.steps → behind ≡ starts_in l (length old.steps) (read_kind texts (out-Node n).kind) → has_optional (params_in (read_kind texts (out-Node n).kind)) ≡ true → found ≡ map (λ q. total - q) behind → found ≡ entries_of l (params_of (tree_of texts n))
entries_some l h texts n old new total behind found fresh is counted told may made =
    made
    ∙ ap (λ qs. map (λ q. total - q) qs) (told ∙ ap (λ w. starts_in l (length w.steps) (read_kind texts (out-Node n).kind)) fresh)
    ∙ ap (λ m. map (λ q. m - q) (starts_in l 0 (read_kind texts (out-Node n).kind))) size_is
    ∙ entries_in l position (read_kind texts (out-Node n).kind) may
    ∙ sym (ap (λ t. entries_of l (params_of t)) (tree_of-is texts n))
  where
    position : SourcePosition
    position = record { first = (out-Node n).first; line = (out-Node n).line; place = (out-Node n).place }

    size_is : total ≡ size (form_shape l (read_kind texts (out-Node n).kind) position)
    size_is = counted ∙ ap (λ w. length w.steps) (is ∙ ap (grown h (shape l (tree_of texts n))) fresh) ∙ grown_length h (shape l (tree_of texts n)) nothing ∙ add-zero (size (shape l (tree_of texts n))) ∙ ap (λ t. size (shape l t)) (tree_of-is texts n)

-- none where no parameter may be left out
pub entries_none : (l : Where) (texts : Texts) (n : Node) → has_optional (params_in (read_kind texts (out-Node n).kind)) ≡ false → [] ≡ entries_of l (params_of (tree_of texts n))
entries_none l texts n is =
    sym (ap (λ t. entries_of l (params_of t)) (tree_of-is texts n) ∙ ap (λ b. cond b (entries_from l 0 (params_in (read_kind texts (out-Node n).kind))) []) is)
