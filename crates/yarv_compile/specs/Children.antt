-- The sequences that stand in a tree, found by those that stand directly in it.
use Rattle.std.specs.Prelude.{ℕ, List, [], ◌∷◌, ◌++◌, map}
use Rattle.ruby_tree.specs.Names.{Bytes}
use Rattle.ruby_tree.specs.Tree.{Tree}
use Rattle.iseq_types.specs.declared.sequences.SeqKind.{SeqKind}
use Rattle.iseq_types.specs.declared.sequences.SeqKind.TheVariants as kinds
use Rattle.compile_table.specs.Shapes.{Where, in_rescue, in_ensure}
use Rattle.compile_table.specs.Sequences.{Compiled, compiled_body, compiled_part, in_body, in_block, sequences}
use Rattle.code_emitter.specs.Children.{Child}

-- the node that a child stands at, of a sequence whose nodes stand where l says
abbrev pub around : Where → Child → Where
around l c = record l { loop = c.loop }

-- where the nodes of a child stand
abbrev pub inner_by : SeqKind → Where → Tree → Where
inner_by kinds.Rescue l t = in_rescue l t
inner_by kinds.Ensure l t = in_ensure l t
inner_by kinds.Block l t = in_block l t
inner_by kinds.File l t = in_body l t
inner_by kinds.Method l t = in_body l t
inner_by kinds.Class l t = in_body l t

abbrev pub inner_of : Where → Child → Where
inner_of l c = inner_by c.kind (around l c) c.tree

-- a sequence of a kind and a name
abbrev pub compiled_by : SeqKind → Where → Where → Bytes → Tree → Compiled
compiled_by kinds.Rescue l inner name t = compiled_part l inner kinds.Rescue t
compiled_by kinds.Ensure l inner name t = compiled_part l inner kinds.Ensure t
compiled_by kinds.Block l inner name t = compiled_body l inner kinds.Block name t
compiled_by kinds.File l inner name t = compiled_body l inner kinds.File name t
compiled_by kinds.Method l inner name t = compiled_body l inner kinds.Method name t
compiled_by kinds.Class l inner name t = compiled_body l inner kinds.Class name t

abbrev pub compiled_child : Where → Child → Compiled
compiled_child l c = compiled_by c.kind (around l c) (inner_of l c) c.name c.tree

-- a child, and the sequences that stand in it
abbrev pub under : Where → Child → List Compiled
under l c = compiled_child l c ∷ sequences (inner_of l c) c.tree

abbrev pub all_under : Where → List Child → List Compiled
all_under l [] = []
all_under l (c ∷ cs) = under l c ++ all_under l cs

-- the places of sequences
abbrev pub places_in : List Compiled → List ℕ
places_in cs = map (λ c. c.place) cs
