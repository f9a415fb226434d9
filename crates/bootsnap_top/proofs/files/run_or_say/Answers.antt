use Rattle.std.proofs.Common.{◌≡◌, ◌∙◌, sym, ap}
use Rattle.std.specs.Prelude.{OnOk, OnErr, IfOk}
use Rattle.bs_outside.specs.Told.{added, AddsPrefix}
use Rattle.bootsnap_top.specs.SmallRun.{Answer}
use Rattle.bootsnap_top.proofs.CachedRuns.{nothing_added}
use Rattle.bootsnap_top.proofs.Gots.{of_whole, fault_got, not_yet_got, gone_got}
use Rattle.bootsnap_top.proofs.files.run_or_say.Goals as goal

pub returns-in-Whole-clause-output : goal.returns-in-Whole-clause-output
returns-in-Whole-clause-output g c = λ m is.
    of_whole m c.args.path.now c.in-Whole.unit (λ (a : Answer). OnOk c.run_unit.result (g.O.Sink.taken c.run_unit.new.out ≡ added (g.O.Sink.taken c.args.out.now) a.output)) (sym c.in-Whole.is ∙ is) c.run_unit.ensures.output

pub returns-in-Whole-clause-errors : goal.returns-in-Whole-clause-errors
returns-in-Whole-clause-errors g c = λ m is.
    of_whole m c.args.path.now c.in-Whole.unit (λ (a : Answer). OnOk c.run_unit.result (g.O.Sink.taken c.run_unit.new.err ≡ added (g.O.Sink.taken c.args.err.now) a.errors)) (sym c.in-Whole.is ∙ is) c.run_unit.ensures.errors

pub returns-in-Whole-clause-ending : goal.returns-in-Whole-clause-ending
returns-in-Whole-clause-ending g c = λ m is.
    of_whole m c.args.path.now c.in-Whole.unit (λ (a : Answer). IfOk c.run_unit.result (λ ending. ending ≡ a.ending)) (sym c.in-Whole.is ∙ is) c.run_unit.ensures.ending

pub returns-in-Whole-clause-output_prefix : goal.returns-in-Whole-clause-output_prefix
returns-in-Whole-clause-output_prefix g c = λ m is.
    of_whole m c.args.path.now c.in-Whole.unit (λ (a : Answer). OnErr c.run_unit.result (AddsPrefix (g.O.Sink.taken c.args.out.now) (g.O.Sink.taken c.run_unit.new.out) a.output)) (sym c.in-Whole.is ∙ is) c.run_unit.ensures.output_prefix

pub returns-in-Whole-clause-errors_prefix : goal.returns-in-Whole-clause-errors_prefix
returns-in-Whole-clause-errors_prefix g c = λ m is.
    of_whole m c.args.path.now c.in-Whole.unit (λ (a : Answer). OnErr c.run_unit.result (AddsPrefix (g.O.Sink.taken c.args.err.now) (g.O.Sink.taken c.run_unit.new.err) a.errors)) (sym c.in-Whole.is ∙ is) c.run_unit.ensures.errors_prefix

pub returns-in_ok-say_syntax-in-Fault-clause-errors : goal.returns-in_ok-say_syntax-in-Fault-clause-errors
returns-in_ok-say_syntax-in-Fault-clause-errors g c = λ m is.
    c.in_ok-say_syntax-in-Fault.ensures.ok ∙ ap (added (g.O.Sink.taken c.args.err.now)) (sym (ap (λ a. a.errors) (fault_got m c.args.path.now c.in-Fault.line (sym c.in-Fault.is ∙ is))))

pub returns-in-NotYet-clause-output : goal.returns-in-NotYet-clause-output
returns-in-NotYet-clause-output g c = λ m is.
    let told = g.O.Sink.taken c.args.out.now in
    nothing_added told ∙ ap (added told) (sym (ap (λ a. a.output) (not_yet_got m c.args.path.now (sym c.in-NotYet.is ∙ is))))

pub returns-in-NotYet-clause-errors : goal.returns-in-NotYet-clause-errors
returns-in-NotYet-clause-errors g c = λ m is.
    let told = g.O.Sink.taken c.args.err.now in
    nothing_added told ∙ ap (added told) (sym (ap (λ a. a.errors) (not_yet_got m c.args.path.now (sym c.in-NotYet.is ∙ is))))

pub returns-in_ok-say_missing-in-Gone-clause-errors : goal.returns-in_ok-say_missing-in-Gone-clause-errors
returns-in_ok-say_missing-in-Gone-clause-errors g c = λ m is.
    c.in_ok-say_missing-in-Gone.ensures.ok ∙ ap (added (g.O.Sink.taken c.args.err.now)) (sym (ap (λ a. a.errors) (gone_got m c.args.path.now (sym c.in-Gone.is ∙ is))))
