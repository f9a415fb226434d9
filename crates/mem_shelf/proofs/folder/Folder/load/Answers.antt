use Rattle.std.proofs.Common.{◌∙◌}
use Rattle.bs_outside.proofs.Owing.{on_err}
use Rattle.mem_shelf.proofs.Partly.{all_arrived}
use Rattle.mem_shelf.proofs.folder.Folder.load.Goals as goal

pub returns-in_err-bytes-clause-err : goal.returns-in_err-bytes-clause-err
returns-in_err-bytes-clause-err c = on_err _ (all_arrived c.args.self.now c.arrive.new.self c.in_ok-arrive.ensures.ok)

pub returns-in_err-copy-in-Some-clause-err : goal.returns-in_err-copy-in-Some-clause-err
returns-in_err-copy-in-Some-clause-err c = on_err _ (all_arrived c.args.self.now c.arrive.new.self c.in_ok-arrive.ensures.ok)

pub returns-in_err-note-in-Some-clause-err : goal.returns-in_err-note-in-Some-clause-err
returns-in_err-note-in-Some-clause-err c = on_err _ (all_arrived c.args.self.now c.note.new.self (c.in_err-note-in-Some.ensures.err ∙ c.in_ok-arrive.ensures.ok))

pub returns-in_err-note-in-None-clause-err : goal.returns-in_err-note-in-None-clause-err
returns-in_err-note-in-None-clause-err c = on_err _ (all_arrived c.args.self.now c.note-in-None.new.self (c.in_err-note-in-None.ensures.err ∙ c.in_ok-arrive.ensures.ok))
