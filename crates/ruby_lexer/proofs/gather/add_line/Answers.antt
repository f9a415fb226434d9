use Rattle.std.proofs.Common.{◌≡◌, ◌∙◌, ap, true, false, rules}
use Rattle.ruby_lexer.specs.Cut.{put_line}
use Rattle.ruby_lexer.specs.Settle.{settle}
use Rattle.ruby_lexer.specs.declared.token.TokenKind.{Newline, the_lemmas}
use Rattle.ruby_lexer.specs.Pieces.{newline, seen, seen_kind, Tok, tok}
use Rattle.ruby_lexer.proofs.Gathered.{settle_push}
use Rattle.ruby_lexer.proofs.gather.add_line.Goals as goal

pub returns-clause-raws : goal.returns-clause-raws
returns-clause-raws c =
    let no : c.args.state.joins ≡ false = search rules in
    let kind : seen_kind Newline ≡ newline = search (rules, the_lemmas) in
    let is : seen c.token-token.result ≡ tok newline c.args.span.from c.args.span.to c.args.span.line c.args.state.blank = rw kind at c.token-token.ensures in
    λ text ts. rw (c.in_ok-push.ensures.items, no) (settle_push text c.args.raws.now.items (record { token = c.token-token.result; is_line = true }) ts ∙ ap (λ (t : Tok). settle text c.args.raws.now.items (put_line text t ts)) is)
