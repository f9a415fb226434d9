use Rattle.std.proofs.Common.{ap}
use Rattle.ruby_lexer.specs.Pieces.{seen_all}
use Rattle.reference_parser.specs.Answers.{taken}
use Rattle.reference_parser.specs.ReadItems.{passing_by}
use Rattle.parse_state.proofs.Steps.{named}
use Rattle.parse_parts.proofs.Parts.{symbol_named, symbol_missing}
use Rattle.parse_parts.proofs.passing.by_symbol.Goals as goal

pub returns-in-Some : goal.returns-in-Some
returns-in-Some c = record {
  gives = λ w s a at h.
      let is = symbol_named c.in-Some.is (c.symbol_name.ensures _ a h) in
      named (ap (λ o. taken (passing_by (seen_all c.args.lookahead.rest.now) a o) w s) is.1) (c.as_block.ensures.gives w s a is.0 at is.2);
}

pub returns-in-None : goal.returns-in-None
returns-in-None c = record { gives = λ w s a at h. named (ap (λ o. taken (passing_by (seen_all c.args.lookahead.rest.now) a o) w s) (symbol_missing c.in-None.is (c.symbol_name.ensures _ a h))) (c.as_value.ensures.gives w (seen_all c.args.lookahead.rest.now) s a at h) }
