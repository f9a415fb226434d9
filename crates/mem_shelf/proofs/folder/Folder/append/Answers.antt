use Rattle.bs_outside.proofs.Owing.{on_err}
use Rattle.mem_shelf.proofs.Partly.{all_arrived_at, set_same}
use Rattle.mem_shelf.proofs.folder.Folder.append.Goals as goal

pub returns-in_err-append-clause-err : goal.returns-in_err-append-clause-err
returns-in_err-append-clause-err c =
    on_err _ (all_arrived_at c.args.self.now _ c.arrive.new.self _ c.self.view_is c.in_ok-arrive.ensures.ok
    (set_same c.self.inside.temps.items c.number.result _ _ c.in_err-append.ensures.err c.index_mut-draft.ensures.value))
