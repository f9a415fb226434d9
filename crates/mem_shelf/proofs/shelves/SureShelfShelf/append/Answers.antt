use Rattle.mem_shelf.proofs.Tells.{tells_partly, tells_appended}
use Rattle.mem_shelf.proofs.shelves.SureShelfShelf.append.Goals as goal

pub returns-in_err-append-clause-since : goal.returns-in_err-append-clause-since
returns-in_err-append-clause-since c = rw (← c.self.view_is) (tells_partly c.self.inside.folder c.append.new.self c.in_err-append.ensures.err)

pub returns-clause-since : goal.returns-clause-since
returns-clause-since c = rw (← c.self.view_is) (tells_appended c.self.inside.folder c.append.new.self _ _ c.in_ok-append.ensures.ok.1)
