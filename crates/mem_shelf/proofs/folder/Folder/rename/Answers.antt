use Rattle.bs_outside.proofs.Owing.{on_err}
use Rattle.mem_shelf.proofs.Partly.{none_renamed}
use Rattle.mem_shelf.proofs.folder.Folder.rename.Goals as goal

pub returns-in_err-arrive-clause-err : goal.returns-in_err-arrive-clause-err
returns-in_err-arrive-clause-err c = on_err _ (none_renamed c.args.self.now c.arrive.new.self c.args.temp c.in_err-arrive.ensures.err)
