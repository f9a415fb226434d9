use Rattle.std.proofs.Common.{◌∙◌, List, subst}
use Rattle.ruby_lexer.specs.declared.token.Token.{Token}
use Rattle.ruby_lexer.specs.Pieces.{seen_all}
use Rattle.ruby_tree.specs.Rules.{fresh}
use Rattle.parse_state.specs.Standing.{At}
use Rattle.ruby_reader.proofs.Judging.{walked}
use Rattle.ruby_reader.proofs.parsing.stop_line.Goals as goal

pub returns : goal.returns
returns c =
    let ts = seen_all c.args.front.now.tokens in
    let at : At c.parser_of-parser.result ts fresh = subst (λ (all : List Token). At c.parser_of-parser.result (seen_all all) fresh) c.as_slice.ensures c.parser_of-parser.ensures in
    c.unwrap_or.ensures ∙ walked c.args.text.now c.context_of-context.result.source.now ts c.args.front.now.fault c.in_ok-line.line c.end_line-end.result c.last_line.result c.context_of-context.ensures c.end_line-end.ensures c.last_line.ensures (c.in_ok-line.ensures.stops ts fresh at)
