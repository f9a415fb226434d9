use Rattle.std.proofs.Common.{Err, subst}
use Rattle.ruby_lexer.specs.Pieces.{seen_all}
use Rattle.parse_state.specs.declared.failures.Failure.{Failure}
use Rattle.ruby_reader.specs.Parsing.{Parses}
use Rattle.ruby_reader.proofs.Judging.{fault_is, nests_too_deep, is_no_syntax}
use Rattle.ruby_reader.proofs.parsing.failed.Goals as goal

pub returns-in-TooDeep : goal.returns-in-TooDeep
returns-in-TooDeep c =
    let source = c.args.text.now in
    let ts = seen_all c.args.front.now.tokens in
    let is = subst (λ (e : Failure). Parses source ts (Err e)) c.in-TooDeep.is c.requires.failed in
    fault_is source c.syntax.result c.last_line.result _ c.syntax.ensures c.last_line.ensures (nests_too_deep source ts c.args.front.now.fault c.requires.front is)

pub returns-in-Ok : goal.returns-in-Ok
returns-in-Ok c =
    let source = c.args.text.now in
    let ts = seen_all c.args.front.now.tokens in
    let is = subst (λ (e : Failure). Parses source ts (Err e)) c.in-Syntax.is c.requires.failed in
    fault_is source c.syntax-in-Ok.result c.in-Ok.line _ c.syntax-in-Ok.ensures c.in-Ok.ensures (is_no_syntax source ts c.args.front.now.fault c.requires.front is)
