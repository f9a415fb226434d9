use Rattle.std.proofs.lemmas.Result.{err_from_is_err_and}
use Rattle.mem_shelf.proofs.Tells.{tells_partly, tells_loaded}
use Rattle.mem_shelf.proofs.shelves.SureShelfShelf.load.Goals as goal

pub returns-in_err-load-clause-since : goal.returns-in_err-load-clause-since
returns-in_err-load-clause-since c =
    let p = err_from_is_err_and c.from_residual.result c.from_residual.ensures.1 in
    rw (p.1, p.2, ← c.self.view_is) (tells_partly c.self.inside.folder c.load.new.self c.in_err-load.ensures.err)

pub returns-clause-since : goal.returns-clause-since
returns-clause-since c = rw (← c.self.view_is) (tells_loaded c.self.inside.folder c.load.new.self _ _ c.in_ok-load.ensures.ok)
