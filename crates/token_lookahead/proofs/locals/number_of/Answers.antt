use Rattle.token_lookahead.proofs.LocalKeys.{texts_apart, found_at, stored_at, inserted}
use Rattle.token_lookahead.proofs.locals.number_of.Goals as goal

pub returns-in-Some-clause-ok : goal.returns-in-Some-clause-ok
returns-in-Some-clause-ok c = found_at c.args.name.now c.args.texts.now.keys _ c.in-Some.ensures.index

pub returns-in_err-number-clause-apart : goal.returns-in_err-number-clause-apart
returns-in_err-number-clause-apart c = texts_apart c.insert_full.new.self.keys c.insert_full.ensures.unique

pub returns-clause-ok : goal.returns-clause-ok
returns-clause-ok c = stored_at c.args.name.now c.insert_full.new.self.keys c.in_ok-number.number c.in_ok-text.text c.in_ok-text.ensures.items c.in_ok-number.ensures.stored

pub returns-clause-apart : goal.returns-clause-apart
returns-clause-apart c = texts_apart c.insert_full.new.self.keys c.insert_full.ensures.unique

pub returns-clause-extends : goal.returns-clause-extends
returns-clause-extends c = inserted c.args.texts.now.keys c.insert_full.new.self.keys c.in_ok-text.text _ c.in_ok-number.ensures.keys
