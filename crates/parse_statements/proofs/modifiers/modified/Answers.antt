use Rattle.std.proofs.Common.{refl, sym, ◌∙◌, ◌<◌, ◌≤◌, ◌-◌, Bool, false, length, arith}
use Rattle.ruby_tree.specs.Tree.{Tree}
use Rattle.token_lookahead.specs.Lookaheads.{do_owner_of}
use Rattle.parse_state.proofs.Steps.{handed}
use Rattle.parse_statements.specs.Statements.{one_modifier}
use Rattle.parse_statements.proofs.Growing.{grows_from, grows_more, grows_stop, grows_end}
use Rattle.parse_statements.proofs.StatementLoops.{none_of, modifiers_more, modifiers_end}
use Rattle.parse_statements.proofs.modifiers.modified.Goals as goal

pub loop-modifier-init : goal.loop-modifier-init
loop-modifier-init g c = λ o b a at told h m w s n less. grows_from (b, a) n (record { tree = h; told = told }) less

pub loop-modifier-preserved : goal.loop-modifier-preserved
loop-modifier-preserved g c = λ o b a at told h m w s n less.
    let some : 0 < length c.loop-modifier.parser.rest.now = c.modifier_here.ensures.some c.in-Some.modifier c.in-Some.is in
    let fewer : length c.one_modifier.new.parser.rest.now ≤ length c.loop-modifier.parser.rest.now - 1 = c.in_ok-statement.ensures.fewer _ refl in
    grows_more (λ (t : Bool × Tree). one_modifier (g.N.Nested.readers c.args.nested.now c.args.context.source.now) c.in-Some.modifier (do_owner_of c.args.do_owner) o t.0 t.1) (λ t. (false, t))
    (λ k t v y i. modifiers_more c.args.context.source.now (g.N.Nested.readers c.args.nested.now c.args.context.source.now) (do_owner_of c.args.do_owner) o k c.in-Some.modifier t.0 t.1 v y (sym (c.modifier_here.ensures.is v y i) ∙ c.in-Some.is))
    (omega arith) (λ t k. record { tree = k; told = λ small. refl }) (λ t v y i k. c.in_ok-statement.ensures.reads o t.0 t.1 at k.told k.tree v y i) (c.loop-modifier.invariant o b a at told h m w s n less)

pub returns-in_err-statement : goal.returns-in_err-statement
returns-in_err-statement g c = record {
  reads = λ o b a at told h m w s n less. handed _ _ c.from_residual.ensures.1 (grows_stop (λ (t : Bool × Tree). one_modifier (g.N.Nested.readers c.args.nested.now c.args.context.source.now) c.in-Some.modifier (do_owner_of c.args.do_owner) o t.0 t.1) (λ t. (false, t))
      (λ k t v y i. modifiers_more c.args.context.source.now (g.N.Nested.readers c.args.nested.now c.args.context.source.now) (do_owner_of c.args.do_owner) o k c.in-Some.modifier t.0 t.1 v y (sym (c.modifier_here.ensures.is v y i) ∙ c.in-Some.is))
      (λ t v y i k. c.in_err-statement.ensures.reads o t.0 t.1 at k.told k.tree v y i) (c.loop-modifier.invariant o b a at told h m w s n less));
}

pub returns : goal.returns
returns g c = record {
  reads = λ o b a at told h m w s n less. grows_end (λ t. t.1)
      (λ k t v y i. modifiers_end c.args.context.source.now (g.N.Nested.readers c.args.nested.now c.args.context.source.now) (do_owner_of c.args.do_owner) o k t.0 t.1 v y (sym (c.modifier_here.ensures.is v y i) ∙ none_of c.modifier_here.result c.in_default.not-Some))
      (λ t k. k.tree) (c.loop-modifier.invariant o b a at told h m w s n less);
}
