use Rattle.bs_outside.proofs.Owing.{on_err}
use Rattle.mem_shelf.proofs.Tells.{tells_partly, tells_arrived, tells_renamed, tells_renamed_partly}
use Rattle.mem_shelf.proofs.shelves.MemShelfShelf.rename.Goals as goal

pub returns-in_err-arrive-clause-err : goal.returns-in_err-arrive-clause-err
returns-in_err-arrive-clause-err c = rw (← c.self.view_is) (on_err _ (tells_partly c.self.inside.folder c.arrive.new.self c.in_err-arrive.ensures.err))

pub returns-then-next_fails-clause-err : goal.returns-then-next_fails-clause-err
returns-then-next_fails-clause-err c = rw (← c.self.view_is) (tells_arrived c.self.inside.folder c.arrive.new.self c.in_ok-arrive.ensures.ok)

pub returns-in_err-rename-clause-err : goal.returns-in_err-rename-clause-err
returns-in_err-rename-clause-err c = rw (← c.self.view_is) (on_err _ (tells_renamed_partly c.self.inside.folder c.rename.new.self c.args.temp c.in_err-rename.ensures.err))

pub returns-clause-ok : goal.returns-clause-ok
returns-clause-ok c = rw (← c.self.view_is) (tells_renamed c.self.inside.folder c.rename.new.self c.args.temp c.args.name.now c.in_ok-rename.ensures.ok)
