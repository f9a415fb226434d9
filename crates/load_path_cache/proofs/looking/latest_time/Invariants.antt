use Rattle.std.proofs.Common.{◌≡◌, ◌≤◌}
use Rattle.bs_outside.specs.Told.{added}
use Rattle.load_path_cache.proofs.Looks.{Goes, looked_before}
use Rattle.load_path_cache.proofs.looking.latest_time.Given as goal

abbrev pub invariant-loop-dir : goal.invariant-loop-dir
invariant-loop-dir g l = record {
  goes : Goes (g.T.Tree.contents l.fn.tree) l.root l.dirs l.latest l.dir-index;
  contents : g.T.Tree.contents l.tree ≡ g.T.Tree.contents l.fn.tree;
  looked : g.T.Tree.stats l.tree ≡ added (g.T.Tree.stats l.fn.tree) (looked_before l.root l.dirs l.dir-index);
  reads : g.T.Tree.reads l.tree ≡ g.T.Tree.reads l.fn.tree;
  listings : g.T.Tree.listings l.tree ≡ g.T.Tree.listings l.fn.tree;
  counted : g.T.Tree.faults l.fn.tree ≤ g.T.Tree.faults l.tree;
}
