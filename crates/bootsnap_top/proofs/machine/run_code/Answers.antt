use Rattle.std.proofs.Common.{◌∙◌, ap, sym, List, ℕ, arith}
use Rattle.std.proofs.lemmas.List.{nil_from_length}
use Rattle.bs_outside.proofs.Owing.{on_err, none_came}
use Rattle.bootsnap_top.specs.Machine.{stepped_of}
use Rattle.bootsnap_top.specs.declared.machine.steps.Step.{Step}
use Rattle.bootsnap_top.specs.declared.machine.steps.Step.TheVariants as step
use Rattle.bootsnap_top.proofs.Sending.{sent_all, sent_some, held_more, held_some, ends_alike_then}
use Rattle.bootsnap_top.proofs.CodeRuns.{code_gone_on, code_ended, code_over, nothing_more}
use Rattle.bootsnap_top.proofs.machine.run_code.Goals as goal

pub returns-in_err-machine-clause-output_prefix : goal.returns-in_err-machine-clause-output_prefix
returns-in_err-machine-clause-output_prefix g c = λ path. on_err c.from_residual.result (none_came _ _)

pub returns-in_err-send-in-Ends-clause-output_prefix : goal.returns-in_err-send-in-Ends-clause-output_prefix
returns-in_err-send-in-Ends-clause-output_prefix g c = λ path. on_err c.from_residual-in_err-send-in-Ends.result (sent_some c.loop-line.held _ (c.loop-line.invariant.output path) c.in_err-send-in-Ends.ensures.err)

pub returns-in-Ends-clause-output : goal.returns-in-Ends-clause-output
returns-in-Ends-clause-output g c = λ path.
    let ends = ap (λ (t : Step). stepped_of t c.run_instr.new.machine) (sym c.in-Ends.is) ∙ c.in_ok-piece.ensures in
    let ended = code_ended path c.loop-line.rest.now c.in-Some.left.now c.in-Some.line.now c.loop-line.machine c.in-Ends.end c.in-Some.ensures.cases.0 ends in
    sent_all c.loop-line.held _ (c.loop-line.invariant.output path) (ap (λ a. a.output) ended ∙ nothing_more path c.in-Ends.end) c.in_ok-send-in-Ends.ensures.ok

pub returns-in_err-put-clause-output_prefix : goal.returns-in_err-put-clause-output_prefix
returns-in_err-put-clause-output_prefix g c = λ path.
    let goes = ap (λ (t : Step). stepped_of t c.run_instr.new.machine) (ap step.On c.as_slice.ensures ∙ sym c.in-On.is) ∙ c.in_ok-piece.ensures in
    let gone = code_gone_on path c.loop-line.rest.now c.in-Some.left.now c.in-Some.line.now c.loop-line.machine c.run_instr.new.machine c.as_slice.result.now c.in-Some.ensures.cases.0 goes in
    on_err c.from_residual-in_err-put.result (held_some c.loop-line.held _ c.as_slice.result.now _ (c.loop-line.invariant.output path) (ap (λ a. a.output) gone) c.in_err-put.ensures.err)

pub loop-line-preserved : goal.loop-line-preserved
loop-line-preserved g c =
    let goes = ap (λ (t : Step). stepped_of t c.run_instr.new.machine) (ap step.On c.as_slice.ensures ∙ sym c.in-On.is) ∙ c.in_ok-piece.ensures in
    let gone = λ (path : List ℕ). code_gone_on path c.loop-line.rest.now c.in-Some.left.now c.in-Some.line.now c.loop-line.machine c.run_instr.new.machine c.as_slice.result.now c.in-Some.ensures.cases.0 goes in
    record {
      output = λ path. held_more c.loop-line.held _ c.as_slice.result.now _ (c.loop-line.invariant.output path) (ap (λ a. a.output) (gone path)) c.in_ok-put.ensures.ok;
      ends = λ path. ends_alike_then c.as_slice.result.now (gone path) (c.loop-line.invariant.ends path);
      counted = omega arith;
    }

pub returns-in_err-send-clause-output_prefix : goal.returns-in_err-send-clause-output_prefix
returns-in_err-send-clause-output_prefix g c = λ path. on_err c.from_residual-in_err-send.result (sent_some c.loop-line.held _ (c.loop-line.invariant.output path) c.in_err-send.ensures.err)

pub returns-clause-output : goal.returns-clause-output
returns-clause-output g c = λ path.
    let over = code_over path c.loop-line.rest.now c.loop-line.machine (nil_from_length _ c.in_default.ensures.cases) in
    sent_all c.loop-line.held _ (c.loop-line.invariant.output path) (ap (λ a. a.output) over) c.in_ok-send.ensures.ok
