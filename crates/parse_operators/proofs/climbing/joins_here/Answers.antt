use Rattle.std.proofs.Common.{sym, ap, ◌∙◌}
use Rattle.ruby_lexer.specs.Pieces.{seen_all}
use Rattle.parse_state.proofs.Seen.{sees, seen_as}
use Rattle.parse_operators.specs.Levels.{joins}
use Rattle.parse_operators.proofs.Climbs.{joins_some}
use Rattle.parse_operators.proofs.climbing.joins_here.Goals as goal

pub returns : goal.returns
returns c = record {
  is = λ w s a. seen_as (λ x t. joins x c.args.level t) c.joins.ensures c.lookahead.ensures.source (sees c.lookahead.ensures.rest a);
  some = λ is. joins_some c.args.context.source.now c.args.level c.args.parser.now.rest.now (sym (seen_as (λ x t. joins x c.args.level t) c.joins.ensures c.lookahead.ensures.source (ap seen_all c.lookahead.ensures.rest)) ∙ is);
}
