use Rattle.std.proofs.Common.{◌≡◌, ◌<◌, ◌≤◌, ◌++◌, [], length, IsTrue}
use Rattle.bs_outside.specs.History.{Since}
use Rattle.atomic_files.proofs.put_whole.Given as goal

abbrev pub invariant-loop-rest : goal.invariant-loop-rest
invariant-loop-rest g l = record {
  since : IsTrue g.S.Shelf.tells → Since (g.S.Shelf.history l.fn.shelf) (g.S.Shelf.history l.shelf) [] [];
  written : IsTrue g.S.Shelf.tells → (g.S.Shelf.history l.shelf).temps l.temp ++ l.rest ≡ l.bytes;
  mine : l.temp < g.S.Shelf.begun l.shelf;
  begun : g.S.Shelf.begun l.fn.shelf ≤ g.S.Shelf.begun l.shelf;
  later : g.S.Shelf.faults l.fn.shelf ≤ g.S.Shelf.faults l.shelf;
}

abbrev pub decreases-loop-rest : goal.decreases-loop-rest
decreases-loop-rest g l = length l.rest
