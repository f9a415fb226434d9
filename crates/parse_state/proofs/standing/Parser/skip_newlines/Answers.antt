use Rattle.std.proofs.Common.{ap}
use Rattle.ruby_lexer.specs.Pieces.{seen_all}
use Rattle.reference_parser.specs.Fronts.{is_newline}
use Rattle.parse_state.proofs.Steps.{here}
use Rattle.parse_state.proofs.Seen.{seen}
use Rattle.parse_state.proofs.Newlines.{skips_more, skips_all}
use Rattle.parse_state.proofs.standing.Parser.skip_newlines.Goals as goal

pub loop-self-preserved : goal.loop-self-preserved
loop-self-preserved c = skips_more _ c.loop-self.invariant (seen (λ t. is_newline t) c.is_newline.ensures (ap seen_all c.lookahead.ensures.rest) c.loop-self-test.true) (c.bump.ensures.at _ _ (here _)) c.bump.ensures.later

pub returns-clause-at : goal.returns-clause-at
returns-clause-at c = λ w s a. skips_all _ a c.loop-self.invariant (seen (λ t. is_newline t) c.is_newline.ensures (ap seen_all c.lookahead.ensures.rest) c.loop-self-test.false)
