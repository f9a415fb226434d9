-- A text with a block and a rescue part, and its tree.
use Rattle.std.specs.Prelude.{◌≡◌, false, [], ◌∷◌, map, codes, None}
use Rattle.ruby_tree.specs.Names.{Bytes}
use Rattle.ruby_tree.specs.Tree.{Tree, local, send, bare_raise, statements, rescue, rescue_sequence, body, no_more, more, without, with, no_clause, clause, no_param, required}
use Rattle.iseq_types.specs.declared.sequences.SeqKind.TheVariants as kinds
use Rattle.ruby_meaning.specs.Node.{node}
use Rattle.ruby_meaning.specs.Loads.{file_body}
use Rattle.compile_table.specs.Sequences.{Compiled, in_file, sequences_of, routines, bodies}
use Rattle.compile_laws.specs.Finds.{FindsBody}

abbrev pub worked_text : Bytes
worked_text = codes "begin\n  f { |x| x }\nrescue\n  raise\nend\n"

-- the block, whose `{` stands at 10
abbrev pub worked_block : Tree
worked_block = node 2 2 10 (body (required (codes "x") no_param) (node 2 2 16 (statements (more (node 2 2 16 (local (codes "x"))) no_more))))

-- the clauses, whose `rescue` stands at 20
abbrev pub worked_clauses : Tree
worked_clauses = node 3 3 20 (rescue_sequence (clause no_more None (node 4 4 29 (statements (more (node 4 4 29 bare_raise) no_more))) no_clause))

abbrev pub worked_tree : Tree
worked_tree =
    node 1 1 0 (statements (more (node 1 1 0 (rescue (node 1 1 5 (statements (more (node 2 2 8 (send without no_more [] without (codes "f") false (with worked_block))) no_more))) without worked_clauses)) no_more))

abbrev pub worked_path : Bytes
worked_path = codes "/e.rb"

-- its program has the sequences of the file, the block and the clauses, in the order of their places
abbrev pub worked_sequences : Type 0
worked_sequences =
    (map (λ (c : Compiled). c.kind) (sequences_of worked_path worked_tree) ≡ kinds.File ∷ kinds.Block ∷ kinds.Rescue ∷ [])
    × (map (λ (c : Compiled). c.inner.number) (sequences_of worked_path worked_tree) ≡ 0 ∷ 1 ∷ 2 ∷ [])

-- the tables of its program have all that the file's body has
abbrev pub worked_finds : Type 0
worked_finds = FindsBody (routines worked_path worked_tree) (bodies worked_path worked_tree) (in_file worked_path worked_tree) (file_body worked_tree)
