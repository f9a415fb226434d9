use Rattle.std.proofs.Common.{◌≡◌, true, rules, arith}
use Rattle.ruby_lexer.specs.declared.token.TokenKind.{Label, the_lemmas}
use Rattle.ruby_lexer.specs.Pieces.{label, seen_kind, seen_parts}
use Rattle.ruby_lexer.specs.Words.{one_colon, after_name}
use Rattle.ruby_lexer.proofs.Tables.{label_first}
use Rattle.ruby_lexer.proofs.cursor.Cursor.word_piece.Goals as goal

pub returns-then-one_colon-clause-value : goal.returns-then-one_colon-clause-value
returns-then-one_colon-clause-value c =
    let w = c.args.self.now.rest.now in
    let seen : seen_kind (Label c.in_ok-parts.parts) ≡ label (seen_parts c.in_ok-parts.parts) = search (rules, the_lemmas) in
    let e : one_colon (after_name w) ≡ true = cc in
    rw (label_first c.args.self.now.text.now c.args.state w (omega arith) e, seen, c.in_ok-parts.ensures, c.in_ok-bytes.ensures, c.bump-then-one_colon.ensures.rest, c.bump.ensures.rest, c.name_length-length.ensures.name, c.name_length-length.ensures.rest)
