use Rattle.std.proofs.Common.{◌≡◌, ◌+◌, suc, take, arith, subst, ℕ}
use Rattle.std.specs.Str.{valid_up_to}
use Rattle.ruby_lexer.specs.Forms.{newlines}
use Rattle.ruby_lexer.specs.Tokens.{long, no_utf8, HasNoTokens}
use Rattle.ruby_lexer.proofs.Once.{faulty}
use Rattle.ruby_lexer.proofs.lexing.text_fault.Goals as goal

pub returns-then-text-gt-LIMIT : goal.returns-then-text-gt-LIMIT
returns-then-text-gt-LIMIT c = (λ text. omega (arith, text.short), faulty c.args.text.now 1 (long (omega arith)))

pub returns-in-Err : goal.returns-in-Err
returns-in-Err c =
    let text = c.args.text.now in
    let count = rw c.valid_up_to.ensures at c.newlines.ensures.count in
    let line : suc (newlines (take (valid_up_to c.in-Err.error) text)) ≡ c.newlines.result + 1 = omega (arith, count) in
    (λ whole. c.in-Err.ensures.cases.0 whole.utf8, subst (λ (n : ℕ). HasNoTokens text n) line (faulty text _ (no_utf8 (omega arith) c.in-Err.ensures.cases.0 c.in-Err.ensures.cases.1)))
