use Rattle.std.proofs.Common.{⊎_elim}
use Rattle.token_lookahead.specs.Lookaheads.{do_owner_of}
use Rattle.parse_statements.proofs.StatementLoops.{condition_as}
use Rattle.parse_statements.proofs.modifiers.condition.Goals as goal

pub returns-in-If : goal.returns-in-If
returns-in-If g c = record {
  reads = λ w s a. ⊎_elim
      (λ e. condition_as (g.N.Nested.readers c.args.nested.now c.args.context.source.now) (do_owner_of c.args.do_owner) w s e (c.expression.ensures.reads w s a))
      (λ e. condition_as (g.N.Nested.readers c.args.nested.now c.args.context.source.now) (do_owner_of c.args.do_owner) w s e (c.expression.ensures.reads w s a)) c.in-If.is;
}

pub returns-in-While : goal.returns-in-While
returns-in-While g c = record {
  reads = λ w s a. ⊎_elim
      (λ e. condition_as (g.N.Nested.readers c.args.nested.now c.args.context.source.now) (do_owner_of c.args.do_owner) w s e (c.expression-in-While.ensures.reads w s a))
      (λ e. condition_as (g.N.Nested.readers c.args.nested.now c.args.context.source.now) (do_owner_of c.args.do_owner) w s e (c.expression-in-While.ensures.reads w s a)) c.in-While.is;
}
