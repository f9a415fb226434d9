use Rattle.std.proofs.Common.{subst, sym, List, ℕ, Option, [], ◌∷◌, arith}
use Rattle.bs_outside.specs.Told.{AddsPrefix}
use Rattle.bs_outside.proofs.Owing.{none_came, on_err}
use Rattle.compile_cache.proofs.Nothing.{begun_in, whole_in, moments_in, whole_with_stat, fetched_nothing}
use Rattle.compile_cache.proofs.fetch.fetch_unit.Goals as goal

pub returns-in_err-stat-clause-begun : goal.returns-in_err-stat-clause-begun
returns-in_err-stat-clause-begun g c on =
    on_err c.from_residual.result
    (begun_in g.S.Shelf.tells (g.T.Tree.contents c.args.tree.now) c.args.path.now (g.S.Shelf.history c.args.shelf.now) (g.T.Tree.reads c.args.tree.now) (g.T.Tree.reads c.file_stat.new.tree) c.file_stat.ensures.reads)

pub returns-in_err-stat-clause-whole : goal.returns-in_err-stat-clause-whole
returns-in_err-stat-clause-whole g c = whole_in g.S.Shelf.tells (g.T.Tree.contents c.args.tree.now) (g.S.Shelf.history c.args.shelf.now)

pub returns-in_err-stat-clause-moments : goal.returns-in_err-stat-clause-moments
returns-in_err-stat-clause-moments g c =
    moments_in g.S.Shelf.tells (g.T.Tree.contents c.args.tree.now) (g.S.Shelf.history c.args.shelf.now) (g.S.Shelf.history c.args.shelf.now)
    (whole_in g.S.Shelf.tells (g.T.Tree.contents c.args.tree.now) (g.S.Shelf.history c.args.shelf.now))

pub returns-in_err-stat-clause-reads_part : goal.returns-in_err-stat-clause-reads_part
returns-in_err-stat-clause-reads_part g c =
    subst (λ (now : Option (List (List ℕ))). AddsPrefix (g.T.Tree.reads c.args.tree.now) now (c.args.path.now ∷ [])) (sym c.file_stat.ensures.reads) (none_came (g.T.Tree.reads c.args.tree.now) (c.args.path.now ∷ []))

pub returns-in_default-clause-reads_part : goal.returns-in_default-clause-reads_part
returns-in_default-clause-reads_part g c =
    subst (λ (now : Option (List (List ℕ))). AddsPrefix (g.T.Tree.reads c.args.tree.now) now (c.args.path.now ∷ [])) (sym c.file_stat.ensures.reads) (none_came (g.T.Tree.reads c.args.tree.now) (c.args.path.now ∷ []))

pub returns-in_default-clause-fetched : goal.returns-in_default-clause-fetched
returns-in_default-clause-fetched g c on =
    fetched_nothing g.S.Shelf.tells (g.T.Tree.contents c.args.tree.now) c.args.path.now c.in_ok-stat.field-0 (g.S.Shelf.history c.args.shelf.now) (g.S.Shelf.faults c.args.shelf.now) (g.S.Shelf.faults c.args.shelf.now)
    (g.T.Tree.reads c.args.tree.now) (g.T.Tree.reads c.file_stat.new.tree) c.in_default.is c.in_ok-stat.ensures.found (omega arith) c.file_stat.ensures.reads

pub returns-in_default-clause-whole : goal.returns-in_default-clause-whole
returns-in_default-clause-whole g c = whole_in g.S.Shelf.tells (g.T.Tree.contents c.args.tree.now) (g.S.Shelf.history c.args.shelf.now)

pub returns-in_default-clause-moments : goal.returns-in_default-clause-moments
returns-in_default-clause-moments g c =
    moments_in g.S.Shelf.tells (g.T.Tree.contents c.args.tree.now) (g.S.Shelf.history c.args.shelf.now) (g.S.Shelf.history c.args.shelf.now)
    (whole_in g.S.Shelf.tells (g.T.Tree.contents c.args.tree.now) (g.S.Shelf.history c.args.shelf.now))

pub returns-in-Off-clause-whole : goal.returns-in-Off-clause-whole
returns-in-Off-clause-whole g c = whole_in g.S.Shelf.tells (g.T.Tree.contents c.args.tree.now) (g.S.Shelf.history c.args.shelf.now)

pub returns-in-Off-clause-moments : goal.returns-in-Off-clause-moments
returns-in-Off-clause-moments g c =
    moments_in g.S.Shelf.tells (g.T.Tree.contents c.args.tree.now) (g.S.Shelf.history c.args.shelf.now) (g.S.Shelf.history c.args.shelf.now)
    (whole_in g.S.Shelf.tells (g.T.Tree.contents c.args.tree.now) (g.S.Shelf.history c.args.shelf.now))

pub returns-in-On-clause-moments : goal.returns-in-On-clause-moments
returns-in-On-clause-moments g c =
    moments_in g.S.Shelf.tells (g.T.Tree.contents c.args.tree.now) (g.S.Shelf.history c.args.shelf.now) (g.S.Shelf.history c.fetch_cached.new.shelf)
    (whole_with_stat g.S.Shelf.tells (g.T.Tree.contents c.args.tree.now) (g.T.Tree.contents c.file_stat.new.tree) c.args.path.now c.in_ok-stat.field-0 c.in-Some.stat (g.S.Shelf.history c.args.shelf.now) (g.S.Shelf.history c.fetch_cached.new.shelf)
    c.file_stat.ensures.contents c.in-Some.is c.in_ok-stat.ensures.found c.fetch_cached.ensures.whole)
