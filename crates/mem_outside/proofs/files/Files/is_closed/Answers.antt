use Rattle.std.proofs.Common.{◌≡◌, ◌∙◌, ap, map}
use Rattle.std.specs.FinMap.{entries}
use Rattle.std.specs.List.{list_all}
use Rattle.mem_outside.specs.TreeLists.{has_place}
use Rattle.mem_outside.proofs.files.Files.is_closed.Goals as goal

pub loop-path-init : goal.loop-path-init
loop-path-init c =
    let gives : c.into_iter-path-iterator.result ≡ c.index-path-items.result.now.entries = c.into_iter-path-iterator.ensures.into_iter_gives.0 in
    ap (λ es. list_all (has_place c.args.self.now) (map (λ e. e.0) es)) (gives ∙ c.index-path-items.ensures ∙ ap entries c.self.view_is)
