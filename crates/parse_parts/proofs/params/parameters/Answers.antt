use Rattle.reference_parser.specs.ReadBodies.{read_parameters}
use Rattle.parse_state.proofs.Seen.{seen_in, sees}
use Rattle.parse_state.proofs.Steps.{later_same, no, yes}
use Rattle.parse_state.specs.Gives.{gave}
use Rattle.ruby_tree.specs.Rules.{begins_params}
use Rattle.parse_parts.proofs.params.parameters.Goals as goal

pub returns-then-begins_params : goal.returns-then-begins_params
unfolding read_parameters
returns-then-begins_params g c = record { reads = λ w s a. yes _ (seen_in (λ v u. begins_params v u) c.begins_params.ensures c.lookahead.ensures.source (sees c.lookahead.ensures.rest a) c.if-begins_params.true) (c.parameter_list.ensures.reads w s a) }

pub returns : goal.returns
unfolding read_parameters
returns g c = record { reads = λ w s a. no _ (seen_in (λ v u. begins_params v u) c.begins_params.ensures c.lookahead.ensures.source (sees c.lookahead.ensures.rest a) c.if-begins_params.false) (gave a (later_same _) (c.new.ensures _)) }
