use Rattle.std.proofs.Common.{◌∙◌, sym, ap}
use Rattle.ruby_lexer.specs.Pieces.{none, more, seen, Tok, Toks}
use Rattle.ruby_lexer.specs.Cut.{with_blank}
use Rattle.ruby_lexer.specs.Settle.{onto}
use Rattle.ruby_lexer.proofs.Gathered.{onto_push, blank_tok}
use Rattle.ruby_lexer.proofs.gather.add_blank.Goals as goal

pub returns-in_ok-push : goal.returns-in_ok-push
returns-in_ok-push c =
    let others = c.pop.new.self.items in
    let last = c.in-Some.last in
    rw (c.in-Some.ensures.items, c.in_ok-push.ensures.items)
    (onto_push others c.with_blank.result none ∙ ap (λ (t : Tok). more t (onto others none)) c.with_blank.ensures ∙ sym (blank_tok c.args.blank (seen last) (onto others none)) ∙ ap (λ (ts : Toks). with_blank c.args.blank ts) (sym (onto_push others last none)))
