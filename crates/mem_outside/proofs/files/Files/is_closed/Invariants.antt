use Rattle.std.proofs.Common.{◌≡◌, map}
use Rattle.std.specs.FinMap.{keys}
use Rattle.std.specs.List.{list_all}
use Rattle.mem_outside.specs.TreeLists.{has_place}
use Rattle.mem_outside.proofs.files.Files.is_closed.Given as goal

-- where those left have a place, all have
abbrev pub invariant-loop-path : goal.invariant-loop-path
invariant-loop-path l = list_all (has_place l.self) (map (λ e. e.0) l.path-iterator) ≡ list_all (has_place l.self) (keys l.self)
