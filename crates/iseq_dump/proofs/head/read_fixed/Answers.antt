use Rattle.std.proofs.Common.{arith, rules}
use Rattle.iseq_dump.proofs.Heads.{fixed_short, fixed_given}
use Rattle.iseq_dump.proofs.head.read_fixed.Goals as goal

pub returns-then-len-lt8-clause-value : goal.returns-then-len-lt8-clause-value
returns-then-len-lt8-clause-value g c = fixed_short c.args.cursor.now (omega arith)

pub returns-clause-value : goal.returns-clause-value
returns-clause-value g c = rw c.read_u64.ensures (fixed_given c.take_eight-bytes.result c.args.cursor.now c.take_eight-bytes.new.cursor (omega arith) (search rules) c.take_eight-bytes.ensures.bytes)
