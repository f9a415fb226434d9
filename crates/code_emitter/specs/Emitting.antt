-- What a node's code is written into, and what is written for a part of a node.
use Rattle.std.specs.Prelude.{◌≡◌, ℕ, zero, suc, ◌+◌, false, List, [], ◌++◌, map, Option, Some, None}
use Rattle.ruby_tree.specs.declared.names.Name.{Name}
use Rattle.ruby_tree.specs.Names.{Bytes, Texts}
use Rattle.ruby_tree.specs.Tree.{Tree}
use Rattle.ruby_tree.specs.Read.{tree_of, text_of_name}
use Rattle.iseq_types.specs.declared.instructions.Instr.TheVariants.{PutNil, NewArray}
use Rattle.code_meaning.specs.Code.{Shape, done, op}
use Rattle.compile_table.specs.Shapes.{Where}
use Rattle.code_writer.specs.Writing.{Writing, writing_of, grown}
use Rattle.local_scopes.specs.Opened.{sight}
use Rattle.code_emitter.specs.declared.emitter.Emitter.{Emitter}
use Rattle.code_emitter.specs.declared.output.Output.{Output}
use Rattle.code_emitter.specs.declared.output.Child.{Child as FoundChild}
use Rattle.code_emitter.specs.Children.{Child, child}

-- Where the nodes stand whose code is written. In which sequence, and whether in the clauses of a rescue part, makes no difference to the code.
abbrev pub where_of : Emitter → Where
where_of e = record {
  loop = e.in_loop;
  clause = false;
  number = 0;
  first = e.first;
  sight = sight e.scopes.now;
  path = e.path.now;
  places = e.numbers.now;
}

-- the names in the tree
abbrev pub texts_of : Emitter → Texts
texts_of e = e.symbols.now

abbrev pub name_or_none : Texts → Option Name → Bytes
name_or_none texts None = []
name_or_none texts (Some name) = text_of_name texts name

abbrev pub child_of : Texts → FoundChild → Child
child_of texts c = child c.kind (name_or_none texts c.name) c.in_loop (tree_of texts c.tree.now)

-- the code that is written
abbrev pub written : Output → Writing
written o = writing_of o.code

-- the sequences that were found
abbrev pub children_of : Texts → Output → List Child
children_of texts o = map (child_of texts) o.children.items

-- The code of the shape, at a depth, was written before what was written.
abbrev pub Writes : ℕ → Shape → Output → Output → Type 0
Writes depth shape old new = written new ≡ grown depth shape (written old)

-- These sequences were found behind those that were found.
abbrev pub Finds : Texts → List Child → Output → Output → Type 0
Finds texts found old new = children_of texts new ≡ children_of texts old ++ found

-- one value of so many: nil of none, the one itself, or an array of several
abbrev pub gathered : ℕ → ℕ → Shape
gathered line zero = op line PutNil done
gathered line (suc zero) = done
gathered line (suc (suc n)) = op line (NewArray (suc (suc n)) []) done
