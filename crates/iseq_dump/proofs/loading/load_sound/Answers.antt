use Rattle.std.proofs.Common.{drop}
use Rattle.iseq_dump.specs.Dump.{HasSoundBodies}
use Rattle.iseq_dump.proofs.PublicAnswers.{unsound, no_longer}
use Rattle.iseq_dump.proofs.loading.load_sound.Goals as goal

pub returns-then-branch-clause-value : goal.returns-then-branch-clause-value
returns-then-branch-clause-value g c = (c.in_ok-unit.ensures.value, c.in_ok-are_sound.ensures.0 c.if-branch.true)

pub returns-else-branch-clause-value : goal.returns-else-branch-clause-value
returns-else-branch-clause-value g c =
    unsound c.in_ok-unit.unit (drop c.args.from c.args.image.now) c.in_ok-unit.ensures.value (no_longer c.in_ok-are_sound.field-0 (HasSoundBodies c.in_ok-unit.unit) c.if-branch.false c.in_ok-are_sound.ensures.1)
