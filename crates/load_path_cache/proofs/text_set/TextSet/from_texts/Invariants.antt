use Rattle.std.proofs.Common.{◌≡◌, take}
use Rattle.std.specs.Ordering.{nat_cmp}
use Rattle.std.specs.Cmp.Lexicographic.{slice_cmp}
use Rattle.std.specs.FinSet.{from_list}
use Rattle.load_path_cache.proofs.text_set.TextSet.from_texts.Given as goal

-- the set of what was copied so far
abbrev pub invariant-loop-text : goal.invariant-loop-text
invariant-loop-text l = from_list {R = slice_cmp nat_cmp} l.members.keys ≡ from_list (take l.text-index l.texts)
