use Rattle.std.proofs.Common.{List, ℕ, subst}
use Rattle.std.specs.Prelude.{IfOk}
use Rattle.iseq_dump.specs.Dump.{IsHead, head_bytes, Reads}
use Rattle.iseq_dump.proofs.PublicAnswers.{part_answer}
use Rattle.iseq_dump.proofs.Units.{whole_image}
use Rattle.iseq_dump.proofs.loading.read_head.Goals as goal

pub returns-clause-value : goal.returns-clause-value
returns-clause-value g c =
    let all = whole_image c.new-cursor.result c.args.image.now c.args.from c.len-2.result c.new-cursor.ensures c.len-2.ensures in
    subst (λ (old : List ℕ). IfOk c.answer.result (λ r. (rest : List ℕ) × Reads IsHead head_bytes old r rest)) all (part_answer IsHead head_bytes c.read_dump_head.result c.answer.result c.new-cursor.result c.read_dump_head.new.cursor c.answer.ensures c.read_dump_head.ensures.value)
