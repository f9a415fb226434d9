use Rattle.std.proofs.Common.{sym, ap}
use Rattle.ruby_lexer.specs.Bytes.{Bytes}
use Rattle.ruby_lexer.specs.Pieces.{seen_all}
use Rattle.ruby_tree.specs.Rules.{fresh, own}
use Rattle.reference_parser.specs.ReadStatements.{readers}
use Rattle.ruby_reader.proofs.Judging.{parse_failed, parsed}
use Rattle.ruby_reader.proofs.parsing.parse.Goals as goal

pub returns-in_err-part : goal.returns-in_err-part
returns-in_err-part c =
    let ts = seen_all c.args.tokens.now in
    parse_failed c.args.text.now ts _ _ (ap (λ (source : Bytes). (readers source 200).stmts own ts fresh) (sym c.context_of.ensures)) c.from_residual.ensures.1 (c.in_err-part.ensures.reads ts fresh c.parser_of-parser.ensures)

pub returns : goal.returns
returns c =
    let ts = seen_all c.args.tokens.now in
    parsed c.args.text.now ts _ (ap (λ (source : Bytes). (readers source 200).stmts own ts fresh) (sym c.context_of.ensures)) (c.in_ok-part.ensures.reads ts fresh c.parser_of-parser.ensures)
