use Rattle.std.proofs.Common.{rules, ◌≡◌, Err, subst, sym, true, false}
use Rattle.data_text.specs.Json.{StringAt}
use Rattle.data_text.specs.Reading.{Found, Stopped}
use Rattle.data_text.proofs.Chains.{stopped_result}
use Rattle.data_text.proofs.Letters.{text_more, text_last, text_stop, marked}
use Rattle.data_text.proofs.strings.string.Goals as goal

pub returns-in_err-last : goal.returns-in_err-last
returns-in_err-last c =
    let e = c.in_err-last.field-0.0 in
    let is : c.from_residual.result ≡ Err e = search rules in
    stopped_result (λ found. Found StringAt found.0 c.args.bytes.now found.1.now) (λ e. Stopped StringAt c.args.bytes.now e) c.from_residual.result e is
    (text_stop c.loop-text.text.items c.args.bytes.now c.loop-text.rest.now e c.loop-text.invariant c.in_err-last.ensures)

pub returns-then-last : goal.returns-then-last
returns-then-last c =
    let (piece, found, is) = c.in_ok-last.ensures in
    subst (λ v. Found StringAt v c.args.bytes.now c.in_ok-last.after.now) (sym c.from_vec.ensures)
    (text_last c.loop-text.text.items c.character.new.text.items piece c.args.bytes.now c.loop-text.rest.now c.in_ok-last.after.now c.loop-text.invariant
    (marked piece c.in_ok-last.last true c.if-last.true c.loop-text.rest.now c.in_ok-last.after.now found) is)

pub loop-text-preserved : goal.loop-text-preserved
loop-text-preserved c =
    let (piece, found, is) = c.in_ok-last.ensures in
    text_more c.loop-text.text.items c.character.new.text.items piece c.args.bytes.now c.loop-text.rest.now c.in_ok-last.after.now c.loop-text.invariant
    (marked piece c.in_ok-last.last false c.if-last.false c.loop-text.rest.now c.in_ok-last.after.now found) is
