use Rattle.std.proofs.Common.{sym, subst}
use Rattle.data_text.specs.Reading.{StoppedText}
use Rattle.data_text.proofs.Tops.{short_fault, bad_fault, ends_none}
use Rattle.data_text.proofs.reading.read_json.Goals as goal

pub returns-in-Ok-clause-only : goal.returns-in-Ok-clause-only
returns-in-Ok-clause-only c = λ v h. let k = c.in-Ok.ensures in sym (k.1 v h.spelled)

pub returns-in-Err-Short-clause-fault : goal.returns-in-Err-Short-clause-fault
returns-in-Err-Short-clause-fault c =
    let s = subst (StoppedText c.args.text.now) c.in-Err-Short.field-0-is c.in-Err-Short.ensures in
    short_fault c.args.text.now c.fault_in-in-Err-Short.result c.last_line.result c.if-text-gt-BYTE_LIMIT.false c.in_default.ensures.cases.1 c.fault_in-in-Err-Short.ensures c.last_line.ensures s

pub returns-in-Err-Short-clause-only : goal.returns-in-Err-Short-clause-only
returns-in-Err-Short-clause-only c = λ v h. let s = subst (StoppedText c.args.text.now) c.in-Err-Short.field-0-is c.in-Err-Short.ensures in absurd (s.1 v h.spelled)

pub returns-in-Err-Bad-clause-fault : goal.returns-in-Err-Bad-clause-fault
returns-in-Err-Bad-clause-fault c =
    let s = subst (StoppedText c.args.text.now) c.in-Err-Bad.field-0-is c.in-Err-Bad.ensures in
    bad_fault c.args.text.now c.fault_in-in-Err-Bad.result c.line_at-in-Err-Bad.result c.in-Err-Bad.left c.if-text-gt-BYTE_LIMIT.false c.in_default.ensures.cases.1 c.fault_in-in-Err-Bad.ensures c.line_at-in-Err-Bad.ensures s

pub returns-in-Err-Bad-clause-only : goal.returns-in-Err-Bad-clause-only
returns-in-Err-Bad-clause-only c = λ v h. let s = subst (StoppedText c.args.text.now) c.in-Err-Bad.field-0-is c.in-Err-Bad.ensures in absurd (ends_none c.args.text.now c.in-Err-Bad.left s v h.spelled)
