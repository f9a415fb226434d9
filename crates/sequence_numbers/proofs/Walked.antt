-- The places in a node, one by one.
use Rattle.std.proofs.Common.{◌≡◌, ℕ, Bool, true, false, List, [], ◌∷◌, ◌++◌, refl, ap, sym, ◌∙◌, append_assoc, append-nil}
use Rattle.ruby_tree.specs.declared.node.TextPart.{TextPart}
use Rattle.ruby_tree.specs.declared.node.TextPart.TheVariants as text_part
use Rattle.ruby_tree.specs.declared.node.Param.{Param}
use Rattle.ruby_tree.specs.declared.node.Param.TheVariants as param
use Rattle.ruby_tree.specs.declared.node.Node.{Node}
use Rattle.ruby_tree.specs.declared.node.Node.TheViews.{out-Node}
use Rattle.ruby_tree.specs.Tree.{Form, rescue_sequence, ensure_sequence, body, Pieces, no_piece, Params, no_param}
use Rattle.ruby_tree.specs.Read.{tree_of}
use Rattle.ruby_tree.specs.Views.{read_kind, read_part, read_param}
use Rattle.ruby_tree.proofs.Opened.{tree_of-is}
use Rattle.ruby_meaning.specs.Sequences.{places, form_places, pieces_places, params_places}
use Rattle.sequence_numbers.specs.NodePlaces.{is_sequence, part_places}

-- what the test of a form says of its own place
form-is : (p : ℕ) (f : Form) → is_sequence f ≡ true → form_places p f ≡ p ∷ part_places f
form-is p (rescue_sequence cs) is = refl
form-is p (ensure_sequence a) is = refl
form-is p (body ps a) is = refl
form-is p f is = let no : false ≡ true = is in cc

form-is_not : (p : ℕ) (f : Form) → is_sequence f ≡ false → form_places p f ≡ part_places f
form-is_not p (rescue_sequence cs) is = let no : true ≡ false = is in cc
form-is_not p (ensure_sequence a) is = let no : true ≡ false = is in cc
form-is_not p (body ps a) is = let no : true ≡ false = is in cc
form-is_not p f is = refl

pub sequence-places : (n : Node) → is_sequence (read_kind [] (out-Node n).kind) ≡ true → places (tree_of [] n) ≡ (out-Node n).place ∷ part_places (read_kind [] (out-Node n).kind)
sequence-places n is = ap places (tree_of-is [] n) ∙ form-is (out-Node n).place (read_kind [] (out-Node n).kind) is

pub other-places : (n : Node) → is_sequence (read_kind [] (out-Node n).kind) ≡ false → places (tree_of [] n) ≡ part_places (read_kind [] (out-Node n).kind)
other-places n is = ap places (tree_of-is [] n) ∙ form-is_not (out-Node n).place (read_kind [] (out-Node n).kind) is

pub part-places : (p : TextPart Node) (ps : Pieces) → pieces_places (read_part [] p ps) ≡ pieces_places (read_part [] p no_piece) ++ pieces_places ps
part-places (text_part.Plain f) ps = refl
part-places (text_part.Code n) ps = ap (λ x. x ++ pieces_places ps) (sym (append-nil (places (tree_of [] n))))

pub param-places : (p : Param Node) (ps : Params) → params_places (read_param [] p ps) ≡ params_places (read_param [] p no_param) ++ params_places ps
param-places (param.Required n) ps = refl
param-places (param.Rest n) ps = refl
param-places (param.Block n) ps = refl
param-places (param.Optional n a) ps = ap (λ x. x ++ params_places ps) (sym (append-nil (places (tree_of [] a))))

pub ruleset walked = (append_assoc, append-nil, sequence-places, other-places, part-places, param-places)
