use Rattle.std.proofs.Common.{◌≡◌, refl, subst}
use Rattle.compile_cache.proofs.Nothing.{whole_in}
use Rattle.bootsnap_top.specs.Plan.{plan_of}
use Rattle.bootsnap_top.specs.CachedRun.{cache_of_plan}
use Rattle.bootsnap_top.specs.Endings.{IsPlanError}
use Rattle.bootsnap_top.proofs.Plans.{part_planned, nothing_begun, usage_errors}
use Rattle.bootsnap_top.proofs.top.act.Goals as goal

pub returns-in-Ok-clause-part : goal.returns-in-Ok-clause-part
returns-in-Ok-clause-part g c on =
    part_planned g.S.Shelf.tells (g.S.Shelf.history c.args.desk.now.shelf) (g.S.Shelf.history c.run_file.new.desk.shelf) (g.S.Shelf.faults c.args.desk.now.shelf) (g.S.Shelf.faults c.run_file.new.desk.shelf) (g.T.Tree.reads c.args.desk.now.tree) (g.T.Tree.reads c.run_file.new.desk.tree) (g.O.Sink.taken c.args.note.now)
    (g.O.Sink.taken c.run_file.new.note) ((g.O.Sink.taken c.run_file.new.out ≡ g.O.Sink.taken c.args.out.now) × (g.O.Sink.taken c.run_file.new.err ≡ g.O.Sink.taken c.args.err.now)) (g.T.Tree.contents c.args.desk.now.tree) (plan_of c.args.words.now) c.in-Ok.planned c.mode_of-mode.result.now c.instrument_of-instrument.result c.path_of-path.result.now c.in-Ok.ensures.planned c.mode_of-mode.ensures
    c.instrument_of-instrument.ensures c.path_of-path.ensures on c.run_file.ensures.part

pub returns-in-Err-Usage-clause-errors : goal.returns-in-Err-Usage-clause-errors
returns-in-Err-Usage-clause-errors g c =
    usage_errors (cache_of_plan (plan_of c.args.words.now)) g.S.Shelf.tells (g.T.Tree.contents c.args.desk.now.tree) (g.S.Shelf.history c.args.desk.now.shelf) (plan_of c.args.words.now) c.in-Err-Usage.field-0-0.0 c.refuse.result (g.O.Sink.taken c.args.err.now)
    (g.O.Sink.taken c.refuse.new.err) (subst (IsPlanError (plan_of c.args.words.now)) c.in-Err-Usage.field-0-is c.in-Err-Usage.ensures.bad) c.refuse.ensures.written

pub returns-in-Err-Usage-clause-whole : goal.returns-in-Err-Usage-clause-whole
returns-in-Err-Usage-clause-whole g c = whole_in g.S.Shelf.tells (g.T.Tree.contents c.args.desk.now.tree) (g.S.Shelf.history c.args.desk.now.shelf)

pub returns-in-Err-NoMemory-clause-whole : goal.returns-in-Err-NoMemory-clause-whole
returns-in-Err-NoMemory-clause-whole g c = whole_in g.S.Shelf.tells (g.T.Tree.contents c.args.desk.now.tree) (g.S.Shelf.history c.args.desk.now.shelf)

pub returns-in-Err-NoMemory-clause-part : goal.returns-in-Err-NoMemory-clause-part
returns-in-Err-NoMemory-clause-part g c on =
    nothing_begun g.S.Shelf.tells (g.T.Tree.contents c.args.desk.now.tree) (plan_of c.args.words.now) (g.S.Shelf.history c.args.desk.now.shelf) (g.S.Shelf.faults c.args.desk.now.shelf) (g.T.Tree.reads c.args.desk.now.tree) (g.O.Sink.taken c.args.note.now)
    ((g.O.Sink.taken c.args.out.now ≡ g.O.Sink.taken c.args.out.now) × (g.O.Sink.taken c.args.err.now ≡ g.O.Sink.taken c.args.err.now)) (refl, refl)
