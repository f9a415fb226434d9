use Rattle.std.proofs.Common.{sym, ap, ◌∙◌}
use Rattle.ruby_tree.specs.Placement.{names_of}
use Rattle.ruby_tree.specs.Read.{text_of_name}
use Rattle.ruby_tree.specs.Views.{read_params}
use Rattle.ruby_tree.proofs.Twice.{meets, lent, meets-none, meets_new, meets_old}
use Rattle.ruby_tree.proofs.params.stands_twice.Goals as goal

pub loop-param-init : goal.loop-param-init
loop-param-init c =
    ap (λ k. meets (lent k) (names_of (read_params c.args.symbols.now c.args.params.now))) c.new-seen.ensures.empty ∙ meets-none (names_of (read_params c.args.symbols.now c.args.params.now))

pub loop-param-preserved : goal.loop-param-preserved
loop-param-preserved c =
    meets_new c.args.symbols.now c.loop-param.seen.keys c.insert.new.self.keys _ _ _ c.text.result _ c.loop-param-test.true c.param-item.is (c.text.ensures ∙ ap (text_of_name c.args.symbols.now) c.name_of.ensures) c.in_ok-insert.ensures.added c.in_ok-insert.ensures.keys c.if-not-branch.false
    ∙ c.loop-param.invariant

pub returns-then-not-branch : goal.returns-then-not-branch
returns-then-not-branch c =
    sym (meets_old c.args.symbols.now c.loop-param.seen.keys _ _ _ c.text.result _ c.loop-param-test.true c.param-item.is (c.text.ensures ∙ ap (text_of_name c.args.symbols.now) c.name_of.ensures) c.in_ok-insert.ensures.added c.if-not-branch.true) ∙ c.loop-param.invariant
