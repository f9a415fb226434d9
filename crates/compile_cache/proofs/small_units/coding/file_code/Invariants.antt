use Rattle.std.proofs.Common.{◌≡◌, ◌++◌, ◌+◌, drop}
use Rattle.cache_meaning.specs.SmallUnit.{numbered, statements_code}
use Rattle.compile_cache.specs.SmallSlots.{code_from}
use Rattle.compile_cache.proofs.small_units.coding.file_code.Given as goal

-- the code so far, and that of the lines that are left, is that of all
abbrev pub invariant-loop-index : goal.invariant-loop-index
invariant-loop-index l =
    l.code ++ code_from l.locals l.follows (numbered (l.index + 1) (drop l.index l.lines)) ≡ statements_code l.locals (numbered 1 l.lines)
