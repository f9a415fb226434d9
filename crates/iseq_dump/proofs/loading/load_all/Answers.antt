use Rattle.std.proofs.Common.{drop}
use Rattle.iseq_dump.proofs.PublicAnswers.{unit_found, unit_none, unit_again}
use Rattle.iseq_dump.proofs.loading.load_all.Goals as goal

pub returns-clause-found : goal.returns-clause-found
returns-clause-found g c = unit_found c.load_sound.result c.answer.result (drop c.args.from c.args.image.now) c.answer.ensures c.load_sound.ensures.value

pub returns-clause-none : goal.returns-clause-none
returns-clause-none g c = unit_none c.load_sound.result c.answer.result (drop c.args.from c.args.image.now) c.answer.ensures c.load_sound.ensures.value

pub returns-clause-again : goal.returns-clause-again
returns-clause-again g c = unit_again c.load_sound.result c.answer.result (drop c.args.from c.args.image.now) c.answer.ensures c.load_sound.ensures.value
