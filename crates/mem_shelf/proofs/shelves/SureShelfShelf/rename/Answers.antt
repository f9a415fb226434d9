use Rattle.bs_outside.proofs.Owing.{on_err}
use Rattle.mem_shelf.proofs.Tells.{tells_renamed, tells_renamed_partly}
use Rattle.mem_shelf.proofs.shelves.SureShelfShelf.rename.Goals as goal

pub returns-in_err-rename-clause-err : goal.returns-in_err-rename-clause-err
returns-in_err-rename-clause-err c = rw (← c.self.view_is) (on_err _ (tells_renamed_partly c.self.inside.folder c.rename.new.self c.args.temp c.in_err-rename.ensures.err))

pub returns-clause-ok : goal.returns-clause-ok
returns-clause-ok c = rw (← c.self.view_is) (tells_renamed c.self.inside.folder c.rename.new.self c.args.temp c.args.name.now c.in_ok-rename.ensures.ok)
