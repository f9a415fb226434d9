use Rattle.std.proofs.Common.{◌≡◌, ◌∙◌, ◌+◌, Option, IfSome, subst, arith}
use Rattle.std.specs.FinMap.{get}
use Rattle.bs_outside.specs.SourceTree.{SourceTree}
use Rattle.path_meaning.specs.Scan.{folder_time, folder_paths}
use Rattle.load_path_cache.proofs.Looks.{none_found, some_found, unchanged, looks_begin, looks_nowhere, looks_on, looked_on, looked_prefix, looked_root}
use Rattle.load_path_cache.proofs.looking.latest_time.Goals as goal

pub returns-in_err-latest-clause-looked : goal.returns-in_err-latest-clause-looked
returns-in_err-latest-clause-looked g c = unchanged (g.T.Tree.stats c.args.tree.now) (g.T.Tree.stats c.folder_time.new.tree) (folder_paths c.args.root.now c.args.dirs.now) c.in_err-latest.ensures.err

pub returns-in_default-clause-time : goal.returns-in_default-clause-time
returns-in_default-clause-time g c =
    looks_nowhere (g.T.Tree.contents c.args.tree.now) c.args.root.now c.args.dirs.now
    (none_found (g.T.Tree.contents c.args.tree.now) c.args.root.now c.in_ok-latest.field-0 c.in_default.is c.in_ok-latest.ensures.time)

pub returns-in_default-clause-looked : goal.returns-in_default-clause-looked
returns-in_default-clause-looked g c =
    looked_prefix (g.T.Tree.stats c.args.tree.now) (g.T.Tree.stats c.folder_time.new.tree) c.args.root.now c.args.dirs.now 0
    (looked_root (g.T.Tree.stats c.args.tree.now) (g.T.Tree.stats c.folder_time.new.tree) c.args.root.now c.args.dirs.now c.in_ok-latest.ensures.asked)

pub loop-dir-init : goal.loop-dir-init
loop-dir-init g c = record {
  goes = looks_begin (g.T.Tree.contents c.args.tree.now) c.args.root.now c.args.dirs.now c.in-Some.latest
      (some_found (g.T.Tree.contents c.args.tree.now) c.args.root.now c.in_ok-latest.field-0 c.in-Some.latest c.in-Some.is c.in_ok-latest.ensures.time);
  contents = c.folder_time.ensures.contents;
  looked = looked_root (g.T.Tree.stats c.args.tree.now) (g.T.Tree.stats c.folder_time.new.tree) c.args.root.now c.args.dirs.now c.in_ok-latest.ensures.asked;
  reads = c.folder_time.ensures.reads;
  listings = c.folder_time.ensures.listings;
  counted = c.folder_time.ensures.counted;
}

pub returns-in_err-path-clause-looked : goal.returns-in_err-path-clause-looked
returns-in_err-path-clause-looked g c =
    looked_prefix (g.T.Tree.stats c.args.tree.now) (g.T.Tree.stats c.loop-dir.tree) c.args.root.now c.args.dirs.now c.loop-dir.dir-index c.loop-dir.invariant.looked

pub returns-in_err-time-clause-looked : goal.returns-in_err-time-clause-looked
returns-in_err-time-clause-looked g c =
    looked_prefix (g.T.Tree.stats c.args.tree.now) (g.T.Tree.stats c.folder_time-in-loop-dir.new.tree) c.args.root.now c.args.dirs.now c.loop-dir.dir-index (c.in_err-time.ensures.err ∙ c.loop-dir.invariant.looked)

pub returns-in_default-2-clause-looked : goal.returns-in_default-2-clause-looked
returns-in_default-2-clause-looked g c =
    looked_prefix (g.T.Tree.stats c.args.tree.now) (g.T.Tree.stats c.folder_time-in-loop-dir.new.tree) c.args.root.now c.args.dirs.now (c.loop-dir.dir-index + 1)
    (looked_on (g.T.Tree.stats c.args.tree.now) (g.T.Tree.stats c.loop-dir.tree) (g.T.Tree.stats c.folder_time-in-loop-dir.new.tree) c.args.root.now c.args.dirs.now c.loop-dir.dir-index c.dir-item.result c.in_ok-path.path
    c.loop-dir-test.true c.dir-item.is c.in_ok-path.ensures c.loop-dir.invariant.looked c.in_ok-time.ensures.asked)

pub loop-dir-preserved : goal.loop-dir-preserved
loop-dir-preserved g c = record {
  goes = looks_on (g.T.Tree.contents c.args.tree.now) c.args.root.now c.args.dirs.now c.loop-dir.dir-index c.dir-item.result c.in_ok-path.path c.loop-dir.latest c.in-Some-2.time c.later_of-latest.result
      c.loop-dir-test.true c.dir-item.is c.in_ok-path.ensures c.later_of-latest.ensures
      (some_found (g.T.Tree.contents c.args.tree.now) c.in_ok-path.path c.in_ok-time.field-0 c.in-Some-2.time c.in-Some-2.is
      (subst (λ (told : Option SourceTree). IfSome told (λ m. c.in_ok-time.field-0 ≡ folder_time (get m c.in_ok-path.path))) c.loop-dir.invariant.contents c.in_ok-time.ensures.time))
      c.loop-dir.invariant.goes;
  contents = c.folder_time-in-loop-dir.ensures.contents ∙ c.loop-dir.invariant.contents;
  looked = looked_on (g.T.Tree.stats c.args.tree.now) (g.T.Tree.stats c.loop-dir.tree) (g.T.Tree.stats c.folder_time-in-loop-dir.new.tree) c.args.root.now c.args.dirs.now c.loop-dir.dir-index c.dir-item.result c.in_ok-path.path
      c.loop-dir-test.true c.dir-item.is c.in_ok-path.ensures c.loop-dir.invariant.looked c.in_ok-time.ensures.asked;
  reads = c.folder_time-in-loop-dir.ensures.reads ∙ c.loop-dir.invariant.reads;
  listings = c.folder_time-in-loop-dir.ensures.listings ∙ c.loop-dir.invariant.listings;
  counted = omega (arith, c.folder_time-in-loop-dir.ensures.counted, c.loop-dir.invariant.counted);
}
