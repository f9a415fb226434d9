use Rattle.std.proofs.Common.{◌≡◌, ◌++◌, true}
use Rattle.std.specs.List.{All}
use Rattle.bs_outside.specs.SourceTree.{names_below}
use Rattle.bs_outside.specs.Paths.{is_segment}
use Rattle.mem_outside.proofs.files.names_in.Given as goal

-- the names so far and those of what is left are those of all
abbrev pub invariant-loop-path : goal.invariant-loop-path
invariant-loop-path l =
    record {
      answer : l.names ++ names_below l.stem l.path-iterator ≡ names_below l.stem l.items.entries;
      names : All (λ listed. is_segment listed.name ≡ true) l.names;
    }
