use Rattle.bs_outside.proofs.Owing.{on_err}
use Rattle.mem_shelf.proofs.Partly.{all_arrived_at}
use Rattle.mem_shelf.proofs.folder.Folder.begin.Goals as goal

pub returns-in_err-push-clause-err : goal.returns-in_err-push-clause-err
returns-in_err-push-clause-err c = on_err _ (all_arrived_at c.args.self.now _ c.arrive.new.self _ c.self.view_is c.in_ok-arrive.ensures.ok c.in_err-push.ensures.items)
