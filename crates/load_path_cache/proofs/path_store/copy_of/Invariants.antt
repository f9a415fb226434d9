use Rattle.std.proofs.Common.{◌≡◌, take}
use Rattle.load_path_cache.proofs.path_store.copy_of.Given as goal

-- what was copied so far
abbrev pub invariant-loop-text : goal.invariant-loop-text
invariant-loop-text l = l.copies ≡ take l.text-index l.texts
