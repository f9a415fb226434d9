use Rattle.std.proofs.Common.{◌≡◌, ◌∙◌, ap, rules}
use Rattle.ruby_lexer.specs.declared.token.Part.{Code, the_lemmas}
use Rattle.ruby_lexer.specs.Pieces.{code, seen_part, seen_all, Parts}
use Rattle.ruby_lexer.specs.Settle.{parts_then}
use Rattle.ruby_lexer.proofs.Turns.{parts_push}
use Rattle.ruby_lexer.proofs.parts.add_code.Goals as goal

pub returns : goal.returns
returns c =
    let old = c.args.parts.now.items in
    let seen : (qs : Parts) → seen_part (Code c.args.tokens) qs ≡ code (seen_all c.args.tokens) qs = λ qs. search (rules, the_lemmas) in
    λ qs. rw c.in_ok-push.ensures.items (parts_push old (Code c.args.tokens) qs ∙ ap (parts_then old) (seen qs))
