use Rattle.std.proofs.Common.{◌≡◌, Some, None, rules}
use Rattle.ruby_lexer.specs.declared.token.TokenKind.{Mark, Symbol, the_lemmas}
use Rattle.ruby_lexer.specs.Pieces.{mark, symbol, seen_kind}
use Rattle.ruby_lexer.specs.Marks.{operator_length}
use Rattle.ruby_lexer.proofs.Tables.{operators_first}
use Rattle.ruby_lexer.proofs.cursor.Cursor.operator_symbol.Goals as goal

pub returns-in_default-clause-value : goal.returns-in_default-clause-value
returns-in_default-clause-value c =
    let w = c.args.self.now.rest.now in
    let seen : seen_kind Mark ≡ mark = search (rules, the_lemmas) in
    let e : operator_length w ≡ None = search rules in
    rw (operators_first w, e, seen)

pub returns-clause-value : goal.returns-clause-value
returns-clause-value c =
    let w = c.args.self.now.rest.now in
    let seen : seen_kind (Symbol c.in_ok-bytes.bytes) ≡ symbol c.in_ok-bytes.bytes = search (rules, the_lemmas) in
    let e : operator_length w ≡ Some c.in-Some.length = cc in
    rw (operators_first w, e, seen, c.bump.ensures.rest, c.in_ok-bytes.ensures)
