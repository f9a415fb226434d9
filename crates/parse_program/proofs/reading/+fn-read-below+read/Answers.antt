use Rattle.std.proofs.Common.{◌≡◌, suc, ◌-◌, arith}
use Rattle.token_lookahead.specs.Lookaheads.{do_owner_of}
use Rattle.parse_state.specs.Gives.{too_deep}
use Rattle.parse_state.proofs.Steps.{named}
use Rattle.parse_program.proofs.Ties.{at_none, at_one_more}
use Rattle.parse_program.proofs.reading.+fn-read-below+read.Goals as goal

pub returns-then-depth-eq0 : goal.returns-then-depth-eq0
returns-then-depth-eq0 t c = record {
  reads = λ w s a.
      let none : c.args.depth ≡ 0 = omega arith in
      named (at_none c.args.context.source.now c.args.symbol (do_owner_of c.args.do_owner) w s none) too_deep;
}

pub returns : goal.returns
returns t c = record {
  reads = λ w s a.
      let one : c.args.depth ≡ suc (c.args.depth - 1) = omega arith in
      named (at_one_more c.args.context.source.now c.args.symbol (do_owner_of c.args.do_owner) w s one) (c.read_symbol.ensures.reads w s a);
}
