use Rattle.std.proofs.Common.{inl}
use Rattle.bootsnap_top.proofs.CachedRuns.{ran_in, part_in, begun_in, nothing_noted, prefix_of_nothing}
use Rattle.bootsnap_top.proofs.files.fetch_noted.Goals as goal

pub returns-in-Err-Failed-clause-part : goal.returns-in-Err-Failed-clause-part
returns-in-Err-Failed-clause-part g c on =
    begun_in g.S.Shelf.tells (g.T.Tree.contents c.args.tree.now) c.args.path.now (g.S.Shelf.history c.args.shelf.now) (g.S.Shelf.history c.fetch_unit.new.shelf) (g.S.Shelf.faults c.args.shelf.now) (g.S.Shelf.faults c.fetch_unit.new.shelf) (g.T.Tree.reads c.args.tree.now)
    (g.T.Tree.reads c.fetch_unit.new.tree) c.args.instrument
    (g.O.Sink.taken c.args.note.now) (c.in-Err-Failed.ensures.begun on)

pub returns-in-Err-NoMemory-clause-part : goal.returns-in-Err-NoMemory-clause-part
returns-in-Err-NoMemory-clause-part g c on =
    begun_in g.S.Shelf.tells (g.T.Tree.contents c.args.tree.now) c.args.path.now (g.S.Shelf.history c.args.shelf.now) (g.S.Shelf.history c.fetch_unit.new.shelf) (g.S.Shelf.faults c.args.shelf.now) (g.S.Shelf.faults c.fetch_unit.new.shelf) (g.T.Tree.reads c.args.tree.now)
    (g.T.Tree.reads c.fetch_unit.new.tree) c.args.instrument
    (g.O.Sink.taken c.args.note.now) (c.in-Err-NoMemory.ensures.begun on)

pub returns-in-Ok-note_event-clause-ran : goal.returns-in-Ok-note_event-clause-ran
returns-in-Ok-note_event-clause-ran g c on =
    ran_in g.S.Shelf.tells (g.T.Tree.contents c.args.tree.now) c.args.path.now (g.S.Shelf.history c.args.shelf.now) (g.S.Shelf.history c.fetch_unit.new.shelf) (g.S.Shelf.faults c.args.shelf.now) (g.S.Shelf.faults c.fetch_unit.new.shelf)
    (g.T.Tree.reads c.args.tree.now) (g.T.Tree.reads c.fetch_unit.new.tree) c.in-Ok.fetched.event c.args.instrument (g.O.Sink.taken c.args.note.now) (g.O.Sink.taken c.note_event.new.note)
    (c.in-Ok.ensures.fetched on) c.in-Ok-note_event.ensures.ok

pub returns-in-Err-Failed-note_event-clause-part : goal.returns-in-Err-Failed-note_event-clause-part
returns-in-Err-Failed-note_event-clause-part g c on =
    part_in g.S.Shelf.tells (g.T.Tree.contents c.args.tree.now) c.args.path.now (g.S.Shelf.history c.args.shelf.now) (g.S.Shelf.history c.fetch_unit.new.shelf) (g.S.Shelf.faults c.args.shelf.now) (g.S.Shelf.faults c.fetch_unit.new.shelf)
    (g.T.Tree.reads c.args.tree.now) (g.T.Tree.reads c.fetch_unit.new.tree) c.in-Ok.fetched.event c.args.instrument (g.O.Sink.taken c.args.note.now) (g.O.Sink.taken c.note_event.new.note)
    (c.in-Ok.ensures.fetched on) c.in-Err-Failed-note_event.ensures.err

pub returns-clause-part : goal.returns-clause-part
returns-clause-part g c on =
    part_in g.S.Shelf.tells (g.T.Tree.contents c.args.tree.now) c.args.path.now (g.S.Shelf.history c.args.shelf.now) (g.S.Shelf.history c.fetch_unit.new.shelf) (g.S.Shelf.faults c.args.shelf.now) (g.S.Shelf.faults c.fetch_unit.new.shelf)
    (g.T.Tree.reads c.args.tree.now) (g.T.Tree.reads c.fetch_unit.new.tree) c.in-Ok.fetched.event c.args.instrument (g.O.Sink.taken c.args.note.now) (g.O.Sink.taken c.note_event.new.note)
    (c.in-Ok.ensures.fetched on) c.in-Err-NoMemory-note_event.ensures.err

pub returns-in-Err-Failed-note_event-clause-silent : goal.returns-in-Err-Failed-note_event-clause-silent
returns-in-Err-Failed-note_event-clause-silent g c silent =
    prefix_of_nothing (g.O.Sink.taken c.args.note.now) (g.O.Sink.taken c.note_event.new.note) _
    (nothing_noted c.args.mode.now.cache c.args.instrument c.in-Ok.fetched.event c.args.path.now silent (λ off. c.in-Ok.ensures.event.1 (inl off))) c.in-Err-Failed-note_event.ensures.err

pub returns-clause-silent : goal.returns-clause-silent
returns-clause-silent g c silent =
    prefix_of_nothing (g.O.Sink.taken c.args.note.now) (g.O.Sink.taken c.note_event.new.note) _
    (nothing_noted c.args.mode.now.cache c.args.instrument c.in-Ok.fetched.event c.args.path.now silent (λ off. c.in-Ok.ensures.event.1 (inl off))) c.in-Err-NoMemory-note_event.ensures.err
