use Rattle.std.proofs.Common.{reverse}
use Rattle.local_scopes.proofs.KnownSteps.{lent}
use Rattle.local_scopes.proofs.EnvironmentSteps.{opened-right, gathered-tree, mark-tree, own-locals}
use Rattle.local_scopes.proofs.environments.open_body.Goals as goal

pub returns-clause-right : goal.returns-clause-right
returns-clause-right c =
    opened-right (record { symbols = c.args.symbols; body = c.args.body; kind = c.args.kind; mark = c.mark_in-mark.result; known = c.tree.new.known; locals = c.push_names.new.locals }) (reverse c.args.around.now) c.requires
    (gathered-tree c.args.symbols.now c.args.body.now c.new-known.result c.tree.new.known c.new-known.ensures c.in_ok-tree.ensures)
    (mark-tree c.args.symbols.now c.args.body.now c.mark_in-mark.result (reverse c.args.around.now) c.mark_in-mark.ensures)
    c.names.ensures.all
    (own-locals c.args.symbols.now c.args.body.now c.new-locals.result c.push_params.new.locals c.push_names.new.locals c.params_of.result.now (lent c.names.result.now) c.tree.new.known.names c.mark_in-mark.result c.seen_within.result.now c.args.around.now c.args.kind c.new-locals.ensures c.in_ok-push_params.ensures (c.params_of.ensures c.args.symbols.now) c.in_ok-push_names.ensures c.names.ensures.names c.seen_within.ensures.visible)
