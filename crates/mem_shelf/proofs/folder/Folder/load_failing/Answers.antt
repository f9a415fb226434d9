use Rattle.std.proofs.Common.{◌≡◌, ◌∙◌}
use Rattle.std.proofs.lemmas.Result.{on_err_weaker}
use Rattle.mem_shelf.specs.Keeping.{ArrivesPartly}
use Rattle.mem_shelf.proofs.Partly.{all_arrived}
use Rattle.mem_shelf.proofs.folder.Folder.load_failing.Goals as goal

pub returns-clause-err : goal.returns-clause-err
returns-clause-err c =
    let weaker : c.note.new.self ≡ c.arrive.new.self → ArrivesPartly c.args.self.now c.note.new.self =
    λ e. all_arrived c.args.self.now c.note.new.self (e ∙ c.in_ok-arrive.ensures.ok) in
    on_err_weaker c.note.result weaker c.note.ensures.err
