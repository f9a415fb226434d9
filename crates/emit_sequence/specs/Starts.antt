-- Where the body of a form begins, told from the end of its code.
use Rattle.std.specs.Prelude.{ℕ, ◌+◌, List, []}
use Rattle.ruby_tree.specs.Tree.{Form, body}
use Rattle.code_meaning.specs.Code.{size}
use Rattle.compile_table.specs.Shapes.{Where, shape}
use Rattle.emit_bodies.specs.Entries.{starts}

-- how many instructions stand behind each place, where n stand behind the code of the form
abbrev pub starts_in : Where → ℕ → Form → List ℕ
starts_in l n (body ps t) = starts l (n + size (shape l t) + 1) ps
starts_in l n f = []
