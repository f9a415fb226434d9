use Rattle.std.proofs.Common.{◌≡◌, refl}
use Rattle.bs_outside.specs.SourceTree.{bytes_at}
use Rattle.bootsnap_top.specs.Answer.{answer_of_file}
use Rattle.bootsnap_top.specs.CachedRun.{notes_with}
use Rattle.bootsnap_top.proofs.CachedRuns.{whole_run_in, part_run_in, nothing_in}
use Rattle.bootsnap_top.proofs.files.run_file.Goals as goal

pub returns-in-Ok-clause-part : goal.returns-in-Ok-clause-part
returns-in-Ok-clause-part g c on =
    whole_run_in g.S.Shelf.tells (g.T.Tree.contents c.args.desk.now.tree) c.args.path.now (notes_with c.args.instrument) (g.S.Shelf.history c.args.desk.now.shelf) (g.S.Shelf.history c.fetch_noted.new.shelf)
    (g.S.Shelf.faults c.args.desk.now.shelf) (g.S.Shelf.faults c.fetch_noted.new.shelf) (g.T.Tree.reads c.args.desk.now.tree) (g.T.Tree.reads c.fetch_noted.new.tree) (g.O.Sink.taken c.args.note.now) (g.O.Sink.taken c.fetch_noted.new.note)
    ((g.O.Sink.taken c.run_got.new.out ≡ g.O.Sink.taken c.args.out.now) × (g.O.Sink.taken c.run_got.new.err ≡ g.O.Sink.taken c.args.err.now)) (c.in-Ok.ensures.ran on)

pub returns-in-Err-clause-part : goal.returns-in-Err-clause-part
returns-in-Err-clause-part g c on =
    part_run_in g.S.Shelf.tells (g.T.Tree.contents c.args.desk.now.tree) c.args.path.now (notes_with c.args.instrument) (g.S.Shelf.history c.args.desk.now.shelf) (g.S.Shelf.history c.fetch_noted.new.shelf)
    (g.S.Shelf.faults c.args.desk.now.shelf) (g.S.Shelf.faults c.fetch_noted.new.shelf) (g.T.Tree.reads c.args.desk.now.tree) (g.T.Tree.reads c.fetch_noted.new.tree) (g.O.Sink.taken c.args.note.now) (g.O.Sink.taken c.fetch_noted.new.note)
    ((g.O.Sink.taken c.args.out.now ≡ g.O.Sink.taken c.args.out.now) × (g.O.Sink.taken c.args.err.now ≡ g.O.Sink.taken c.args.err.now)) (refl, refl) (c.in-Err.ensures.part on)

pub returns-in-Err-clause-output_prefix : goal.returns-in-Err-clause-output_prefix
returns-in-Err-clause-output_prefix g c =
    nothing_in c.args.mode.now.cache g.S.Shelf.tells (g.T.Tree.contents c.args.desk.now.tree) (g.S.Shelf.history c.args.desk.now.shelf) (g.O.Sink.taken c.args.out.now) (λ m. (answer_of_file c.args.path.now (bytes_at m c.args.path.now)).output)

pub returns-in-Err-clause-errors_prefix : goal.returns-in-Err-clause-errors_prefix
returns-in-Err-clause-errors_prefix g c =
    nothing_in c.args.mode.now.cache g.S.Shelf.tells (g.T.Tree.contents c.args.desk.now.tree) (g.S.Shelf.history c.args.desk.now.shelf) (g.O.Sink.taken c.args.err.now) (λ m. (answer_of_file c.args.path.now (bytes_at m c.args.path.now)).errors)
