-- The tree of a text is formed, and so is the body of a file that has it.
use Rattle.std.proofs.Common.{false, [], refl}
use Rattle.std.specs.List.{IsDistinct}
use Rattle.ruby_lexer.specs.Bytes.{Bytes, same}
use Rattle.ruby_lexer.specs.Tokens.{before_end}
use Rattle.ruby_tree.specs.Tree.{Tree}
use Rattle.ruby_tree.specs.Placement.{at_home, file}
use Rattle.ruby_tree.specs.Reading.{Reads}
use Rattle.ruby_meaning.specs.Loads.{file_body}
use Rattle.reference_laws.proofs.Sites.{placed_tree}
use Rattle.tree_laws.specs.Formed.{IsFormed, IsBody}
use Rattle.tree_laws.proofs.FormedStatements.{forms}

pub text_formed : (source : Bytes) (t : Tree) → Reads source t → IsFormed false t
text_formed source t R = ((forms (before_end source) R.derived.depth).stmts R.derived.derived).is (at_home file) refl (placed_tree source t R)

none_twice : IsDistinct same []
unfolding IsDistinct
none_twice = tt

pub file_formed : (source : Bytes) (t : Tree) → Reads source t → IsBody (file_body t)
file_formed source t R = ((tt, none_twice), (tt, text_formed source t R))
