use Rattle.mem_shelf.proofs.Tells.{tells_partly, tells_begun}
use Rattle.mem_shelf.proofs.shelves.SureShelfShelf.begin.Goals as goal

pub returns-in_err-begin-clause-since : goal.returns-in_err-begin-clause-since
returns-in_err-begin-clause-since c = rw (← c.self.view_is) (tells_partly c.self.inside.folder c.begin.new.self c.in_err-begin.ensures.err)

pub returns-clause-since : goal.returns-clause-since
returns-clause-since c = rw (← c.self.view_is) (tells_begun c.self.inside.folder c.begin.new.self c.in_ok-begin.ensures.ok.1)
