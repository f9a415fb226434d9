use Rattle.std.proofs.Common.{◌≡◌, ◌∙◌, length, ap, rules, false, nat_eq}
use Rattle.ruby_lexer.specs.declared.token.Part.{Plain, the_lemmas}
use Rattle.ruby_lexer.specs.Pieces.{plain, seen_part, Parts}
use Rattle.ruby_lexer.specs.Settle.{parts_then}
use Rattle.ruby_lexer.proofs.Turns.{parts_push, plain_some, some_bytes}
use Rattle.ruby_lexer.proofs.parts.add_plain.Goals as goal

pub returns-in_ok-push : goal.returns-in_ok-push
returns-in_ok-push c =
    let old = c.args.parts.now.items in
    let bytes = c.args.bytes.items in
    let some : nat_eq (length bytes) 0 ≡ false = cc in
    let seen : (qs : Parts) → seen_part (Plain c.from_vec.result) qs ≡ plain c.from_vec.result qs = λ qs. search (rules, the_lemmas) in
    λ qs. rw (c.in_ok-push.ensures.items, plain_some bytes qs (some_bytes bytes some)) (parts_push old (Plain c.from_vec.result) qs ∙ ap (parts_then old) (seen qs ∙ ap (λ f. plain f qs) c.from_vec.ensures))
