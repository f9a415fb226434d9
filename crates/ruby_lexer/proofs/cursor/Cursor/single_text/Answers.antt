use Rattle.std.proofs.Common.{◌≡◌, ◌∙◌, true, false, nat_eq, get_or, drop}
use Rattle.std.proofs.lemmas.Bool.{ne_eqb}
use Rattle.ruby_lexer.specs.Texts.{escapes_quote, single_text}
use Rattle.ruby_lexer.proofs.Places.{front_byte, single_escaped}
use Rattle.ruby_lexer.proofs.cursor.Cursor.single_text.Goals as goal

pub loop-self-preserved-then-escapes_quote : goal.loop-self-preserved-then-escapes_quote
loop-self-preserved-then-escapes_quote c =
    let w = c.loop-self.self.rest.now in
    let ne : nat_eq (get_or w 0 0) 39 ≡ false = ne_eqb (get_or w 0 0) 39 c.if-first-eq39.false in
    let e : escapes_quote (get_or w 0 0) (get_or w 1 0) ≡ true = cc in
    let step = single_escaped w c.in-len2-up.len_at_least ne e in
    (c.loop-self.invariant.0 ∙ rw (step, c.bump-then-escapes_quote.ensures.rest, c.in_ok-push-in-len2-up.ensures.items) (front_byte c.loop-self.bytes.items (get_or w 1 0) (single_text (drop 2 w))), c.bump-then-escapes_quote.ensures.text ∙ c.loop-self.invariant.1)
