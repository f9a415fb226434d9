use Rattle.std.proofs.Common.{◌≡◌, slice_index_or}
use Rattle.bs_outside.specs.Cache.{last_of}
use Rattle.cache_meaning.specs.Fits.{IsTrusted, EachMomentFits}
use Rattle.compile_cache.proofs.Nothing.{moments_in}
use Rattle.bootsnap_top.specs.Plan.{plan_of}
use Rattle.bootsnap_top.specs.CachedRun.{files_of_plan, notes_of_plan, IsPartOfRun}
use Rattle.bootsnap_top.proofs.FirstDesk.{of_first}
use Rattle.bootsnap_top.proofs.top.bootsnap.Goals as goal

pub returns-clause-moments : goal.returns-clause-moments
returns-clause-moments g c =
    of_first (λ m old new. IsTrusted g.S.Shelf.tells m (g.S.Shelf.history old.shelf) → EachMomentFits m (last_of (g.S.Shelf.history old.shelf).start) (g.S.Shelf.history old.shelf).past (g.S.Shelf.history new.shelf).past)
    (λ desk. g.T.Tree.contents desk.tree) c.args.desks.now c.index-desks-0.result c.act-ending.new.desk
    (let old = slice_index_or c.args.desks.now 0 c.index-desks-0.result in
    moments_in g.S.Shelf.tells (g.T.Tree.contents old.tree) (g.S.Shelf.history old.shelf) (g.S.Shelf.history c.act-ending.new.desk.shelf) c.act-ending.ensures.whole)

pub returns-clause-part : goal.returns-clause-part
returns-clause-part g c tree all on =
    of_first (λ m old new. IsTrusted g.S.Shelf.tells m (g.S.Shelf.history old.shelf)
    → IsPartOfRun (files_of_plan m (plan_of c.args.words.now)) (notes_of_plan (plan_of c.args.words.now)) (g.S.Shelf.history old.shelf) (g.S.Shelf.history new.shelf) (g.S.Shelf.faults old.shelf) (g.S.Shelf.faults new.shelf) (g.T.Tree.reads old.tree) (g.T.Tree.reads new.tree) (g.O.Sink.taken c.args.note.now) (g.O.Sink.taken c.act-ending.new.note)
    ((g.O.Sink.taken c.act-ending.new.out ≡ g.O.Sink.taken c.args.out.now) × (g.O.Sink.taken c.act-ending.new.err ≡ g.O.Sink.taken c.args.err.now)))
    (λ desk. g.T.Tree.contents desk.tree) c.args.desks.now c.index-desks-0.result c.act-ending.new.desk (c.act-ending.ensures.part on) tree all
