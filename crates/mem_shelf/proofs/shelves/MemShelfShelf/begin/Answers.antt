use Rattle.mem_shelf.proofs.Tells.{tells_partly, tells_arrived, tells_begun}
use Rattle.mem_shelf.proofs.shelves.MemShelfShelf.begin.Goals as goal

pub returns-in_err-arrive-clause-since : goal.returns-in_err-arrive-clause-since
returns-in_err-arrive-clause-since c = rw (← c.self.view_is) (tells_partly c.self.inside.folder c.arrive.new.self c.in_err-arrive.ensures.err)

pub returns-then-next_fails-clause-since : goal.returns-then-next_fails-clause-since
returns-then-next_fails-clause-since c = rw (← c.self.view_is) (tells_arrived c.self.inside.folder c.arrive.new.self c.in_ok-arrive.ensures.ok)

pub returns-in_err-begin-clause-since : goal.returns-in_err-begin-clause-since
returns-in_err-begin-clause-since c = rw (← c.self.view_is) (tells_partly c.self.inside.folder c.begin.new.self c.in_err-begin.ensures.err)

pub returns-clause-since : goal.returns-clause-since
returns-clause-since c = rw (← c.self.view_is) (tells_begun c.self.inside.folder c.begin.new.self c.in_ok-begin.ensures.ok.1)
