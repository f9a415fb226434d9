use Rattle.std.proofs.Common.{◌≡◌, Some, rules}
use Rattle.ruby_lexer.specs.declared.token.TokenKind.{Mark, the_lemmas}
use Rattle.ruby_lexer.specs.Pieces.{mark, seen_kind}
use Rattle.ruby_lexer.specs.Marks.{mark_length}
use Rattle.ruby_lexer.proofs.Tables.{marks_first}
use Rattle.ruby_lexer.proofs.cursor.Cursor.mark_piece.Goals as goal

pub returns-in-Some-clause-value : goal.returns-in-Some-clause-value
returns-in-Some-clause-value c =
    let w = c.args.self.now.rest.now in
    let seen : seen_kind Mark ≡ mark = search (rules, the_lemmas) in
    let e : mark_length w ≡ Some c.in-Some.count = cc in
    rw (c.take_token.ensures.value, c.take_token.ensures.rest, marks_first w, e, seen)
