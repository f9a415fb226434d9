use Rattle.token_lookahead.specs.Lookaheads.{do_owner_of}
use Rattle.parse_program.specs.Knot.{read_over}
use Rattle.parse_program.proofs.Ties.{over_as}
use Rattle.parse_program.proofs.symbols.read_symbol.Goals as goal

pub returns-in-Statements : goal.returns-in-Statements
unfolding read_over
returns-in-Statements g c = record { reads = λ w s a. over_as c.args.context.source.now (g.N.Nested.readers c.args.nested.now c.args.context.source.now) (do_owner_of c.args.do_owner) w s c.in-Statements.is (c.found.ensures _ _ _ (c.statements.ensures.reads w s a)) }

pub returns-in-Expression : goal.returns-in-Expression
unfolding read_over
returns-in-Expression g c = record { reads = λ w s a. over_as c.args.context.source.now (g.N.Nested.readers c.args.nested.now c.args.context.source.now) (do_owner_of c.args.do_owner) w s c.in-Expression.is (c.found-in-Expression.ensures _ _ _ (c.expression.ensures.reads w s a)) }

pub returns-in-Test : goal.returns-in-Test
unfolding read_over
returns-in-Test g c = record { reads = λ w s a. over_as c.args.context.source.now (g.N.Nested.readers c.args.nested.now c.args.context.source.now) (do_owner_of c.args.do_owner) w s c.in-Test.is (c.found-in-Test.ensures _ _ _ (c.test.ensures.reads w s a)) }

pub returns-in-AssignedValue : goal.returns-in-AssignedValue
unfolding read_over
returns-in-AssignedValue g c = record { reads = λ w s a. over_as c.args.context.source.now (g.N.Nested.readers c.args.nested.now c.args.context.source.now) (do_owner_of c.args.do_owner) w s c.in-AssignedValue.is (c.found-in-AssignedValue.ensures _ _ _ (c.assigned_value.ensures.reads w s a)) }

pub returns-in-Argument : goal.returns-in-Argument
unfolding read_over
returns-in-Argument g c = record { reads = λ w s a. over_as c.args.context.source.now (g.N.Nested.readers c.args.nested.now c.args.context.source.now) (do_owner_of c.args.do_owner) w s c.in-Argument.is (c.found-in-Argument.ensures _ _ _ (c.argument.ensures.reads w s a)) }

pub returns-in-Minus : goal.returns-in-Minus
unfolding read_over
returns-in-Minus g c = record { reads = λ w s a. over_as c.args.context.source.now (g.N.Nested.readers c.args.nested.now c.args.context.source.now) (do_owner_of c.args.do_owner) w s c.in-Minus.is (c.found-in-Minus.ensures _ _ _ (c.minus.ensures.reads w s a)) }

pub returns-in-Power : goal.returns-in-Power
unfolding read_over
returns-in-Power g c = record { reads = λ w s a. over_as c.args.context.source.now (g.N.Nested.readers c.args.nested.now c.args.context.source.now) (do_owner_of c.args.do_owner) w s c.in-Power.is (c.found-in-Power.ensures _ _ _ (c.power.ensures.reads w s a)) }

pub returns-in-UnaryOperand : goal.returns-in-UnaryOperand
unfolding read_over
returns-in-UnaryOperand g c = record { reads = λ w s a. over_as c.args.context.source.now (g.N.Nested.readers c.args.nested.now c.args.context.source.now) (do_owner_of c.args.do_owner) w s c.in-UnaryOperand.is (c.found-in-UnaryOperand.ensures _ _ _ (c.unary_operand.ensures.reads w s a)) }

pub returns-in-ElseBranches : goal.returns-in-ElseBranches
unfolding read_over
returns-in-ElseBranches g c = record { reads = λ w s a. over_as c.args.context.source.now (g.N.Nested.readers c.args.nested.now c.args.context.source.now) (do_owner_of c.args.do_owner) w s c.in-ElseBranches.is (c.found_other.ensures _ _ _ (c.else_branches.ensures.reads w s a)) }
