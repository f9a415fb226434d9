-- Code that is followed by a rest is written behind the rest.
use Rattle.std.proofs.Common.{◌≡◌, ◌≤◌, ℕ, zero, suc, ◌+◌, List, [], ◌∷◌, length, refl, ap, sym, ◌∙◌, subst, add-zero, arith}
use Rattle.ruby_tree.specs.declared.node.Node.{Node}
use Rattle.ruby_tree.specs.Names.{Texts}
use Rattle.ruby_tree.specs.Tree.{Trees, no_more, more, Other, without, with}
use Rattle.ruby_tree.specs.Views.{read_all}
use Rattle.code_meaning.specs.Code.{Shape, done}
use Rattle.compile_table.specs.Shapes.{Where, count, shape, args_shape, value_shape, values_shape}
use Rattle.code_writer.specs.Writing.{Writing, grown}
use Rattle.code_emitter.specs.Emitting.{gathered}

pub args_seam : (l : Where) (h d : ℕ) (ts : Trees) (s : Shape) (w : Writing) → grown h (args_shape l d ts s) w ≡ grown h (args_shape l d ts done) (grown h s w)
args_seam l h d no_more s w = refl
args_seam l h d (more t ts) s w = ap (grown (h + d) (shape l t)) (args_seam l h (suc d) ts s w)

pub value_seam : (l : Where) (h d : ℕ) (o : Other) (s : Shape) (w : Writing) → grown h (value_shape l d o s) w ≡ grown h (value_shape l d o done) (grown h s w)
value_seam l h d without s w = refl
value_seam l h d (with t) s w = refl

-- values are gathered behind them
pub values_apart : (l : Where) (h line : ℕ) (ts : Trees) (w : Writing) → grown h (values_shape l ts line done) w ≡ grown h (args_shape l 0 ts done) (grown h (gathered line (count ts)) w)
values_apart l h line no_more w = refl
values_apart l h line (more t no_more) w = refl
values_apart l h line (more t (more u us)) w = args_seam l h 0 (more t (more u us)) (gathered line (suc (suc (count us)))) w

pub values_seam : (l : Where) (h line : ℕ) (ts : Trees) (s : Shape) (w : Writing) → grown h (values_shape l ts line s) w ≡ grown h (values_shape l ts line done) (grown h s w)
values_seam l h line no_more s w = refl
values_seam l h line (more t no_more) s w = refl
values_seam l h line (more t (more u us)) s w = args_seam l h 0 (more t (more u us)) _ w ∙ sym (args_seam l h 0 (more t (more u us)) (gathered line (suc (suc (count us)))) (grown h s w))

-- as many trees as nodes
pub count_all : (texts : Texts) (ns : List Node) → count (read_all texts ns) ≡ length ns
count_all texts [] = refl
count_all texts (n ∷ ns) = ap suc (count_all texts ns)

-- what holds when a loop that counts down has ended
pub at_first : (P : ℕ → Type 0) (i : ℕ) → i ≤ 0 → P i → P 0
at_first P zero less holds = holds
at_first P (suc i) less holds = absurd (omega (arith, less))

-- nothing deeper
pub no_deeper : (P : ℕ → Type 0) (d : ℕ) → P (d + 0) → P d
no_deeper P d holds = subst P (add-zero d) holds
