-- Code that is followed by a rest is written behind the rest, and how many parts there are.
use Rattle.std.proofs.Common.{◌≡◌, ◌<◌, ℕ, suc, ◌+◌, Bool, List, [], ◌∷◌, ◌++◌, length, drop, get_or, refl, ap, sym, ◌∙◌, append_assoc}
use Rattle.std.proofs.Math.Seq.{drop-cons}
use Rattle.ruby_tree.specs.declared.node.Node.{Node}
use Rattle.ruby_tree.specs.declared.node.TextPart.{TextPart}
use Rattle.ruby_tree.specs.declared.node.TextPart.TheVariants as text_part
use Rattle.ruby_tree.specs.Names.{Texts}
use Rattle.ruby_tree.specs.Tree.{Pairs, no_pair, pair, Pieces, no_piece, plain_piece, code_piece}
use Rattle.ruby_tree.specs.Views.{read_pairs, read_part, read_parts}
use Rattle.code_meaning.specs.Code.{Shape, done, op}
use Rattle.iseq_types.specs.declared.instructions.Instr.TheVariants.{PutString, Dup, ObjToString, AnyToString}
use Rattle.compile_table.specs.Shapes.{Where, count_pairs, count_pieces, shape, pairs_shape, pieces_shape}
use Rattle.code_writer.specs.Writing.{Writing, grown}
use Rattle.code_emitter.specs.Children.{Child, pieces_direct}
use Rattle.emit_values.proofs.Childless.{piece_found}

pub pieces_seam : (l : Where) (line h d : ℕ) (ps : Pieces) (s : Shape) (w : Writing) → grown h (pieces_shape l line d ps s) w ≡ grown h (pieces_shape l line d ps done) (grown h s w)
pieces_seam l line h d no_piece s w = refl
pieces_seam l line h d (plain_piece x ps) s w = ap (λ v. grown h (op line (PutString x) done) v) (pieces_seam l line h (suc d) ps s w)
pieces_seam l line h d (code_piece t ps) s w = ap (λ v. grown (h + d) (shape l t) (grown h (op line Dup (op line ObjToString (op line AnyToString done))) v)) (pieces_seam l line h (suc d) ps s w)

pub pairs_seam : (l : Where) (h d : ℕ) (ps : Pairs) (s : Shape) (w : Writing) → grown h (pairs_shape l d ps s) w ≡ grown h (pairs_shape l d ps done) (grown h s w)
pairs_seam l h d no_pair s w = refl
pairs_seam l h d (pair t u ps) s w = ap (λ v. grown (h + d) (shape l t) (grown (h + suc d) (shape l u) v)) (pairs_seam l h (suc (suc d)) ps s w)

-- one part, and those behind it
pub piece_before : (l : Where) (line h d : ℕ) (texts : Texts) (p : TextPart Node) (ps : Pieces) (w : Writing) → grown h (pieces_shape l line d (read_part texts p ps) done) w ≡ grown h (pieces_shape l line d (read_part texts p no_piece) done) (grown h (pieces_shape l line (suc d) ps done) w)
piece_before l line h d texts (text_part.Plain x) ps w = refl
piece_before l line h d texts (text_part.Code n) ps w = refl

pub count_parts : (texts : Texts) (ps : List (TextPart Node)) → count_pieces (read_parts texts ps) ≡ length ps
count_parts texts [] = refl
count_parts texts (text_part.Plain x ∷ ps) = ap suc (count_parts texts ps)
count_parts texts (text_part.Code n ∷ ps) = ap suc (count_parts texts ps)

pub count_all_pairs : (texts : Texts) (ps : List (Node × Node)) → count_pairs (read_pairs texts ps) ≡ length ps
count_all_pairs texts [] = refl
count_all_pairs texts (p ∷ ps) = ap suc (count_all_pairs texts ps)

-- what is left of a list, with the part at this place
left : (parts : List (TextPart Node)) (j : ℕ) (p : TextPart Node) → j < length parts → p ≡ get_or parts j p → drop j parts ≡ p ∷ drop (suc j) parts
left parts j p less is = drop-cons parts j p less ∙ ap (λ x. x ∷ drop (suc j) parts) (sym is)

-- one part more is written
pub pieces_step : (l : Where) (line h : ℕ) (texts : Texts) (parts : List (TextPart Node)) (i j : ℕ) (p : TextPart Node) (old mid new : Writing) → i ≡ suc j → j < length parts → p ≡ get_or parts j p → mid ≡ grown h (pieces_shape l line i (read_parts texts (drop i parts)) done) old → new ≡ grown h (pieces_shape l line j (read_part texts p no_piece) done) mid → new ≡ grown h (pieces_shape l line j (read_parts texts (drop j parts)) done) old
pieces_step l line h texts parts i j p old mid new next less is before step =
    step
    ∙ ap (λ w. grown h (pieces_shape l line j (read_part texts p no_piece) done) w) (before ∙ ap (λ n. grown h (pieces_shape l line n (read_parts texts (drop n parts)) done) old) next)
    ∙ sym (ap (λ ps. grown h (pieces_shape l line j (read_parts texts ps) done) old) (left parts j p less is) ∙ piece_before l line h j texts p (read_parts texts (drop (suc j) parts)) old)

pub found_step : (texts : Texts) (loop : Bool) (parts : List (TextPart Node)) (i j : ℕ) (p : TextPart Node) (old mid new : List Child) → i ≡ suc j → j < length parts → p ≡ get_or parts j p → mid ≡ old ++ pieces_direct loop (read_parts texts (drop i parts)) → new ≡ mid ++ pieces_direct loop (read_part texts p no_piece) → new ≡ old ++ pieces_direct loop (read_parts texts (drop j parts))
found_step texts loop parts i j p old mid new next less is before step =
    step
    ∙ ap (λ xs. xs ++ pieces_direct loop (read_part texts p no_piece)) (before ∙ ap (λ n. old ++ pieces_direct loop (read_parts texts (drop n parts))) next)
    ∙ append_assoc old (pieces_direct loop (read_parts texts (drop (suc j) parts))) (pieces_direct loop (read_part texts p no_piece))
    ∙ sym (ap (λ ps. old ++ pieces_direct loop (read_parts texts ps)) (left parts j p less is) ∙ ap (λ xs. old ++ xs) (piece_found texts loop p (read_parts texts (drop (suc j) parts))))
