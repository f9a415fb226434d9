-- A node's code was written, and the sequences in it found.
use Rattle.std.specs.Prelude.{ℕ, ◌+◌, Result, OnOk}
use Rattle.std.specs.declared.alloc.AllocError.{AllocError}
use Rattle.ruby_tree.specs.declared.node.Node.{Node}
use Rattle.ruby_tree.specs.Read.{tree_of}
use Rattle.compile_table.specs.Shapes.{shape}
use Rattle.code_emitter.specs.declared.emitter.Emitter.{Emitter}
use Rattle.code_emitter.specs.declared.output.Output.{Output}
use Rattle.code_emitter.specs.Children.{direct}
use Rattle.code_emitter.specs.Emitting.{where_of, texts_of, Writes, Finds}

-- unless there was not memory enough
pub record IsWritten (e : Emitter) (deeper : ℕ) (node : Node) (old new : Output) (result : Result (Unit {0}) AllocError) : Type 0 where
  pub code : OnOk result (Writes (e.depth + deeper) (shape (where_of e) (tree_of (texts_of e) node)) old new)
  pub children : OnOk result (Finds (texts_of e) (direct e.in_loop (tree_of (texts_of e) node)) old new)
