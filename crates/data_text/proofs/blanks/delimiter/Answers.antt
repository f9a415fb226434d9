use Rattle.std.proofs.Common.{sym, ◌∙◌, ap, length, arith, true, false}
use Rattle.data_text.proofs.Spaces.{delimiter_found, delimiter_short, delimiter_bad, not_blank, no_bytes}
use Rattle.data_text.proofs.blanks.delimiter.Goals as goal

pub returns-in_default : goal.returns-in_default
returns-in_default c =
    delimiter_short c.args.close (not_blank c.args.close (omega arith)) c.args.bytes.now (sym c.skip_blanks-rest.ensures ∙ no_bytes c.skip_blanks-rest.result.now c.in_default.ensures.cases)

pub returns-then-first-close : goal.returns-then-first-close
returns-then-first-close c =
    delimiter_found c.args.close c.in-Some.first.now true (not_blank c.in-Some.first.now (omega arith)) (λ e. omega arith) c.if-first-close.true c.args.bytes.now c.in-Some.after.now (sym c.skip_blanks-rest.ensures ∙ c.in-Some.ensures.cases.0)

pub returns-then-first-eq44 : goal.returns-then-first-eq44
returns-then-first-eq44 c =
    delimiter_found c.args.close c.in-Some.first.now false (not_blank c.in-Some.first.now (omega arith)) (λ e. omega arith) c.if-first-eq44.true c.args.bytes.now c.in-Some.after.now (sym c.skip_blanks-rest.ensures ∙ c.in-Some.ensures.cases.0)

pub returns : goal.returns
returns c =
    delimiter_bad c.args.close (not_blank c.args.close (omega arith)) c.in-Some.first.now (length c.skip_blanks-rest.result.now) c.args.bytes.now c.in-Some.after.now (sym c.skip_blanks-rest.ensures ∙ c.in-Some.ensures.cases.0)
    (ap length c.in-Some.ensures.cases.0) c.if-first-close.false c.if-first-eq44.false
