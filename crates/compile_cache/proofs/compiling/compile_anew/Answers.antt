use Rattle.std.proofs.Common.{sym, ◌∙◌}
use Rattle.compile_cache.proofs.Files.{part_nothing_in, part_source_in, puts_source_in, all_but_part, dumped}
use Rattle.compile_cache.proofs.compiling.compile_anew.Goals as goal

pub returns-in_err-contents-clause-part : goal.returns-in_err-contents-clause-part
returns-in_err-contents-clause-part g c told =
    part_nothing_in (g.T.Tree.contents c.args.tree.now) c.args.path.now c.args.name.now c.args.event c.args.stat.now (g.S.Shelf.history c.args.shelf.now)

pub returns-in_err-got-clause-part : goal.returns-in_err-got-clause-part
returns-in_err-got-clause-part g c told =
    part_nothing_in (g.T.Tree.contents c.args.tree.now) c.args.path.now c.args.name.now c.args.event c.args.stat.now (g.S.Shelf.history c.args.shelf.now)

pub put_unless_hit-requires : goal.put_unless_hit-requires
put_unless_hit-requires g c u is = dumped _ _ u (sym is ∙ c.in_ok-got.ensures)

pub returns-in_err-put_unless_hit-clause-part : goal.returns-in_err-put_unless_hit-clause-part
returns-in_err-put_unless_hit-clause-part g c told =
    part_source_in (g.T.Tree.contents c.args.tree.now) c.args.path.now c.args.name.now c.args.event c.args.stat.now c.in_ok-contents.field-0 _ _ _ _ _ c.in_ok-contents.ensures.answer c.in-Some.is c.as_slice-text.ensures c.in_ok-got.ensures
    (c.in_err-put_unless_hit.ensures.err told) (c.put_unless_hit.ensures.fits told)

pub returns-clause-puts : goal.returns-clause-puts
returns-clause-puts g c told =
    puts_source_in (g.T.Tree.contents c.args.tree.now) c.args.path.now c.args.name.now c.args.event c.args.stat.now c.in_ok-contents.field-0 _ _ _ _ _ _ _ c.in_ok-contents.ensures.answer c.in-Some.is c.as_slice-text.ensures
    c.in_ok-got.ensures (c.in_ok-put_unless_hit.ensures.ok told)

pub returns-clause-part : goal.returns-clause-part
returns-clause-part g c told =
    part_source_in (g.T.Tree.contents c.args.tree.now) c.args.path.now c.args.name.now c.args.event c.args.stat.now c.in_ok-contents.field-0 _ _ _ _ _ c.in_ok-contents.ensures.answer c.in-Some.is c.as_slice-text.ensures c.in_ok-got.ensures
    (all_but_part (c.in_ok-put_unless_hit.ensures.ok told)) (c.put_unless_hit.ensures.fits told)
