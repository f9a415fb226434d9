use Rattle.std.proofs.Common.{◌∙◌, sym}
use Rattle.compile_cache.proofs.SmallCode.{empty_passed, statement_behind, statement_first}
use Rattle.compile_cache.proofs.small_units.coding.put_line.Goals as goal
use Rattle.compile_cache.proofs.small_units.coding.put_line.Goals.{then-follows+in_ok-put, else-follows}

pub returns-then-is_empty : goal.returns-then-is_empty
returns-then-is_empty c = λ lines. empty_passed c.args.locals.now c.args.follows c.args.number c.args.line.now lines c.args.code.now (sym c.is_empty.ensures ∙ c.if-is_empty.true)

pub returns : goal.returns
returns c = λ lines. elim c.if-follows.branch [
  | then-follows+in_ok-put w ↦
      statement_behind c.args.locals.now c.args.follows c.args.number c.args.line.now lines c.args.code.now c.if-follows.code c.put_statement.new.code (sym c.is_empty.ensures ∙ c.if-is_empty.false) w.if-follows.true (w.code-is ∙ w.in_ok-put.ensures) c.in_ok-put_statement.ensures
  | else-follows w ↦
      statement_first c.args.locals.now c.args.follows c.args.number c.args.line.now lines c.args.code.now c.if-follows.code c.put_statement.new.code (sym c.is_empty.ensures ∙ c.if-is_empty.false) w.if-follows.false w.code-is c.in_ok-put_statement.ensures
]
