use Rattle.std.proofs.Common.{◌≡◌, [], drop}
use Rattle.cache_meaning.specs.SmallUnit.{locals_behind}
use Rattle.compile_cache.proofs.small_units.locals.locals_of.Given as goal

-- the lines that are left lead to the locals behind all
abbrev pub invariant-loop-line : goal.invariant-loop-line
invariant-loop-line l = locals_behind l.locals (drop l.line-index l.lines) ≡ locals_behind [] l.lines
