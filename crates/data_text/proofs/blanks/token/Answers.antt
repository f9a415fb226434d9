use Rattle.std.proofs.Common.{sym, ◌∙◌, ap, ◌∷◌, length, arith}
use Rattle.data_text.proofs.Spaces.{token_found, token_short, token_bad, not_blank, no_bytes}
use Rattle.data_text.proofs.blanks.token.Goals as goal

pub returns-in_default : goal.returns-in_default
returns-in_default c =
    token_short c.args.byte (not_blank c.args.byte (omega arith)) c.args.bytes.now (sym c.skip_blanks-rest.ensures ∙ no_bytes c.skip_blanks-rest.result.now c.in_default.ensures.cases)

pub returns-then-first-byte : goal.returns-then-first-byte
returns-then-first-byte c =
    token_bad c.args.byte (not_blank c.args.byte (omega arith)) c.in-Some.first.now (length c.skip_blanks-rest.result.now) c.args.bytes.now c.in-Some.after.now (sym c.skip_blanks-rest.ensures ∙ c.in-Some.ensures.cases.0)
    (ap length c.in-Some.ensures.cases.0) c.if-first-byte.true

pub returns : goal.returns
returns c =
    token_found c.args.byte (not_blank c.args.byte (omega arith)) c.args.bytes.now c.in-Some.after.now
    (sym c.skip_blanks-rest.ensures ∙ c.in-Some.ensures.cases.0 ∙ ap (λ b. b ∷ c.in-Some.after.now) c.if-first-byte.false)
