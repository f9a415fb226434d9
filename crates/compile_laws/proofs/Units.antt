-- The unit of a tree has the bodies and the rows of its sequences.
use Rattle.std.proofs.Common.{◌≡◌, ℕ, zero, suc, ◌<◌, refl, arith, List, [], ◌∷◌, map, length, get_or, Some, slice_get}
use Rattle.std.proofs.lemmas.List.{length-map}
use Rattle.ruby_tree.specs.Names.{Bytes}
use Rattle.ruby_tree.specs.Tree.{Tree}
use Rattle.compile_table.specs.Sequences.{Compiled, compiled_file, sequences_of, index_row, unit_of, sequence_at, routines}

each : {X Y : Type 0} (f : X → Y) (xs : List X) (n : ℕ) (x : X) → n < length xs → slice_get (map f xs) n ≡ Some (f (get_or xs n x))
each f [] n x less = absurd (omega arith)
each f (y ∷ xs) zero x less = refl
each f (y ∷ xs) (suc n) x less = each f xs n x (omega arith)

pub body_there : (path : Bytes) (t : Tree) (n : ℕ) → n < length (sequences_of path t) → slice_get (unit_of path t).bodies n ≡ Some (routines path t n).body
unfolding unit_of sequence_at
body_there path t n less = each (λ (c : Compiled). c.body) (sequences_of path t) n (compiled_file path t) less

pub row_there : (path : Bytes) (t : Tree) (n : ℕ) → n < length (sequences_of path t) → slice_get (unit_of path t).rows n ≡ Some (index_row (sequence_at path t n))
unfolding unit_of sequence_at
row_there path t n less = each index_row (sequences_of path t) n (compiled_file path t) less

pub bodies_counted : (path : Bytes) (t : Tree) → length (unit_of path t).bodies ≡ length (sequences_of path t)
unfolding unit_of
bodies_counted path t = length-map (sequences_of path t) (λ (c : Compiled). c.body)

pub rows_counted : (path : Bytes) (t : Tree) → length (unit_of path t).rows ≡ length (sequences_of path t)
unfolding unit_of
rows_counted path t = length-map (sequences_of path t) index_row
