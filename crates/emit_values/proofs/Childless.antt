-- Literals and variables have no sequences in them.
use Rattle.std.proofs.Common.{◌≡◌, Bool, List, [], ◌++◌, Result, Ok, Err, OnOk, refl, sym, append-nil}
use Rattle.ruby_tree.specs.declared.node.Literal.{Literal}
use Rattle.ruby_tree.specs.declared.node.Literal.TheVariants as literal
use Rattle.ruby_tree.specs.declared.node.Variable.{Variable}
use Rattle.ruby_tree.specs.declared.node.Variable.TheVariants as variable
use Rattle.ruby_tree.specs.declared.node.TextPart.{TextPart}
use Rattle.ruby_tree.specs.declared.node.TextPart.TheVariants as text_part
use Rattle.ruby_tree.specs.declared.node.Node.{Node}
use Rattle.ruby_tree.specs.Names.{Texts}
use Rattle.ruby_tree.specs.Tree.{Pieces, no_piece}
use Rattle.ruby_tree.specs.Read.{literal_form, variable_form}
use Rattle.ruby_tree.specs.Views.{read_part}
use Rattle.code_emitter.specs.Children.{Child, form_direct, pieces_direct}

pub literal_alone : (texts : Texts) (loop : Bool) (x : Literal) (found : List Child) → found ≡ found ++ form_direct loop (literal_form texts x)
literal_alone texts loop literal.Nil found = sym (append-nil found)
literal_alone texts loop literal.True found = sym (append-nil found)
literal_alone texts loop literal.False found = sym (append-nil found)
literal_alone texts loop (literal.Integer i) found = sym (append-nil found)
literal_alone texts loop (literal.Symbol n) found = sym (append-nil found)
literal_alone texts loop (literal.String b) found = sym (append-nil found)
literal_alone texts loop literal.SelfValue found = sym (append-nil found)
literal_alone texts loop literal.File found = sym (append-nil found)
literal_alone texts loop literal.Folder found = sym (append-nil found)
literal_alone texts loop literal.Line found = sym (append-nil found)

pub variable_alone : (texts : Texts) (loop : Bool) (x : Variable) (found : List Child) → found ≡ found ++ form_direct loop (variable_form texts x)
variable_alone texts loop (variable.Local n) found = sym (append-nil found)
variable_alone texts loop (variable.Instance n) found = sym (append-nil found)
variable_alone texts loop (variable.Global n) found = sym (append-nil found)

-- what holds whatever the answer is
pub on_ok : {T E Q : Type 0} (r : Result T E) → Q → OnOk r Q
on_ok (Ok x) q = q
on_ok (Err e) q = tt

-- one part, and those behind it
pub piece_found : (texts : Texts) (loop : Bool) (p : TextPart Node) (ps : Pieces) → pieces_direct loop (read_part texts p ps) ≡ pieces_direct loop ps ++ pieces_direct loop (read_part texts p no_piece)
piece_found texts loop (text_part.Plain x) ps = sym (append-nil (pieces_direct loop ps))
piece_found texts loop (text_part.Code n) ps = refl
