use Rattle.std.proofs.Common.{ap, ◌∙◌}
use Rattle.bs_outside.specs.declared.names.CacheKind.TheVariants.{Iseq}
use Rattle.bs_outside.proofs.Owing.{none_came, on_err}
use Rattle.cache_key.specs.Key.{cache_name_of}
use Rattle.compile_cache.proofs.Steps.{begun_not_looked, begun_looked, fetched_hit, some_in, none_in, fetched_anew, whole_anew, begun_anew, hit_anew}
use Rattle.compile_cache.proofs.fetch.fetch_cached.Goals as goal

pub returns-in_err-image-clause-begun : goal.returns-in_err-image-clause-begun
returns-in_err-image-clause-begun g c =
    on_err _ (begun_not_looked g.S.Shelf.tells (g.T.Tree.contents c.args.tree.now) c.args.path.now c.args.stat.now (g.S.Shelf.history c.args.shelf.now) (g.S.Shelf.history c.look.new.shelf) (g.T.Tree.reads c.args.tree.now) c.in_err-image.ensures.err)

pub returns-in_err-image-clause-reads_part : goal.returns-in_err-image-clause-reads_part
returns-in_err-image-clause-reads_part g c = none_came _ _

pub returns-in_err-unit-clause-begun : goal.returns-in_err-unit-clause-begun
returns-in_err-unit-clause-begun g c =
    on_err _ (begun_looked g.S.Shelf.tells (g.T.Tree.contents c.args.tree.now) c.args.path.now c.args.stat.now (g.S.Shelf.history c.args.shelf.now) (g.S.Shelf.history c.look.new.shelf) c.cache_name-name.result c.in_ok-image.image c.event_of-event.result (g.T.Tree.reads c.args.tree.now)
    (c.cache_name-name.ensures ∙ ap (cache_name_of Iseq) c.as_slice.ensures) c.in_ok-image.ensures.looked c.event_of-event.ensures)

pub returns-in_err-unit-clause-reads_part : goal.returns-in_err-unit-clause-reads_part
returns-in_err-unit-clause-reads_part g c = none_came _ _

pub returns-in-Some-clause-fetched : goal.returns-in-Some-clause-fetched
returns-in-Some-clause-fetched g c =
    fetched_hit g.S.Shelf.tells (g.T.Tree.contents c.args.tree.now) c.args.path.now c.args.stat.now (g.S.Shelf.history c.args.shelf.now) (g.S.Shelf.history c.look.new.shelf) c.cache_name-name.result c.in_ok-image.image c.event_of-event.result c.in-Some.unit
    (g.S.Shelf.faults c.args.shelf.now) (g.S.Shelf.faults c.look.new.shelf) (g.T.Tree.reads c.args.tree.now)
    (c.cache_name-name.ensures ∙ ap (cache_name_of Iseq) c.as_slice.ensures) c.in_ok-image.ensures.looked c.event_of-event.ensures c.look.ensures.faults (some_in _ _ _ c.in-Some.is c.in_ok-unit.ensures.found) c.in_ok-unit.ensures.short

pub returns-in_err-got-clause-whole : goal.returns-in_err-got-clause-whole
returns-in_err-got-clause-whole g c =
    whole_anew g.S.Shelf.tells c.args.path.now c.args.stat.now (g.S.Shelf.history c.args.shelf.now) (g.S.Shelf.history c.look.new.shelf) (g.S.Shelf.history c.compile_anew.new.shelf) c.cache_name-name.result c.in_ok-image.image c.event_of-event.result
    (record {
      named = c.cache_name-name.ensures ∙ ap (cache_name_of Iseq) c.as_slice.ensures;
      looked = c.in_ok-image.ensures.looked;
      event_is = c.event_of-event.ensures;
      short = c.in_ok-unit.ensures.short;
      no_unit = none_in c.in_ok-unit.field-0 _ c.in_default.not-Some c.in_ok-unit.ensures.none;
    })
    (g.T.Tree.contents c.args.tree.now) c.compile_anew.ensures.part

pub returns-clause-whole : goal.returns-clause-whole
returns-clause-whole g c =
    whole_anew g.S.Shelf.tells c.args.path.now c.args.stat.now (g.S.Shelf.history c.args.shelf.now) (g.S.Shelf.history c.look.new.shelf) (g.S.Shelf.history c.compile_anew.new.shelf) c.cache_name-name.result c.in_ok-image.image c.event_of-event.result
    (record {
      named = c.cache_name-name.ensures ∙ ap (cache_name_of Iseq) c.as_slice.ensures;
      looked = c.in_ok-image.ensures.looked;
      event_is = c.event_of-event.ensures;
      short = c.in_ok-unit.ensures.short;
      no_unit = none_in c.in_ok-unit.field-0 _ c.in_default.not-Some c.in_ok-unit.ensures.none;
    })
    (g.T.Tree.contents c.args.tree.now) c.compile_anew.ensures.part

pub returns-in_err-got-clause-begun : goal.returns-in_err-got-clause-begun
returns-in_err-got-clause-begun g c =
    on_err _ (begun_anew g.S.Shelf.tells c.args.path.now c.args.stat.now (g.S.Shelf.history c.args.shelf.now) (g.S.Shelf.history c.look.new.shelf) (g.S.Shelf.history c.compile_anew.new.shelf) c.cache_name-name.result c.in_ok-image.image c.event_of-event.result
    (record {
      named = c.cache_name-name.ensures ∙ ap (cache_name_of Iseq) c.as_slice.ensures;
      looked = c.in_ok-image.ensures.looked;
      event_is = c.event_of-event.ensures;
      short = c.in_ok-unit.ensures.short;
      no_unit = none_in c.in_ok-unit.field-0 _ c.in_default.not-Some c.in_ok-unit.ensures.none;
    })
    (g.T.Tree.contents c.args.tree.now) (g.T.Tree.reads c.args.tree.now) (g.T.Tree.reads c.compile_anew.new.tree) c.compile_anew.ensures.part c.in_err-got.ensures.reads_part)

pub returns-clause-fetched : goal.returns-clause-fetched
returns-clause-fetched g c =
    fetched_anew g.S.Shelf.tells c.args.path.now c.args.stat.now (g.S.Shelf.history c.args.shelf.now) (g.S.Shelf.history c.look.new.shelf) (g.S.Shelf.history c.compile_anew.new.shelf) c.cache_name-name.result c.in_ok-image.image c.event_of-event.result
    (record {
      named = c.cache_name-name.ensures ∙ ap (cache_name_of Iseq) c.as_slice.ensures;
      looked = c.in_ok-image.ensures.looked;
      event_is = c.event_of-event.ensures;
      short = c.in_ok-unit.ensures.short;
      no_unit = none_in c.in_ok-unit.field-0 _ c.in_default.not-Some c.in_ok-unit.ensures.none;
    })
    (g.T.Tree.contents c.args.tree.now) (g.S.Shelf.faults c.args.shelf.now) (g.S.Shelf.faults c.look.new.shelf) (g.S.Shelf.faults c.compile_anew.new.shelf) (g.T.Tree.reads c.args.tree.now) (g.T.Tree.reads c.compile_anew.new.tree) c.in_ok-got.got c.fetched_anew.result.got c.fetched_anew.result.event
    c.look.ensures.faults c.compile_anew.ensures.shelf_faults c.fetched_anew.ensures.got c.in_ok-got.ensures.got c.in_ok-got.ensures.puts c.in_ok-got.ensures.reads c.fetched_anew.ensures.event

pub returns-clause-hit : goal.returns-clause-hit
returns-clause-hit g c told =
    hit_anew g.S.Shelf.tells c.args.path.now c.args.stat.now (g.S.Shelf.history c.args.shelf.now) (g.S.Shelf.history c.look.new.shelf) (g.S.Shelf.history c.compile_anew.new.shelf) c.cache_name-name.result c.in_ok-image.image c.event_of-event.result
    (record {
      named = c.cache_name-name.ensures ∙ ap (cache_name_of Iseq) c.as_slice.ensures;
      looked = c.in_ok-image.ensures.looked;
      event_is = c.event_of-event.ensures;
      short = c.in_ok-unit.ensures.short;
      no_unit = none_in c.in_ok-unit.field-0 _ c.in_default.not-Some c.in_ok-unit.ensures.none;
    })
    (g.T.Tree.contents c.args.tree.now) (g.S.Shelf.faults c.look.new.shelf) (g.S.Shelf.faults c.compile_anew.new.shelf) (g.T.Tree.reads c.args.tree.now) (g.T.Tree.reads c.compile_anew.new.tree) c.in_ok-got.got c.fetched_anew.result.got c.fetched_anew.result.event told c.fetched_anew.ensures.got
    c.in_ok-got.ensures.got (c.in_ok-got.ensures.puts told) c.in_ok-got.ensures.reads c.fetched_anew.ensures.event
