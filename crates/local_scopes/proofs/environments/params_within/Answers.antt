use Rattle.std.proofs.Common.{sym, ap, ◌∙◌}
use Rattle.ruby_tree.specs.Read.{tree_of}
use Rattle.ruby_meaning.specs.Locals.{names_of_params}
use Rattle.local_scopes.specs.Environments.{params_as}
use Rattle.local_scopes.proofs.Walked.{params-tree}
use Rattle.local_scopes.proofs.environments.params_within.Goals as goal

pub returns-in-Home : goal.returns-in-Home
returns-in-Home c texts = ap names_of_params (c.params_of.ensures texts ∙ sym (params-tree texts c.args.body.now)) ∙ ap (λ k. params_as k (tree_of texts c.args.body.now)) (sym c.in-Home.is)

pub returns-in-Block : goal.returns-in-Block
returns-in-Block c texts = ap names_of_params (c.params_of-in-Block.ensures texts ∙ sym (params-tree texts c.args.body.now)) ∙ ap (λ k. params_as k (tree_of texts c.args.body.now)) (sym c.in-Block.is)
