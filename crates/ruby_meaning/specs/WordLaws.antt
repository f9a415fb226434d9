-- What holds of the plan of each list of words.
use Rattle.std.specs.Prelude.{◌≡◌, ℕ, ◌+◌, ◌≤◌, List, [], ◌∷◌, length, Some, ⊤}
use Rattle.ruby_tree.specs.Names.{Bytes}
use Rattle.ruby_meaning.specs.Words.{path_named, most_turns, most_workers, most_files, Plan, run_file, precompile, workload, bad}

-- a word names this path
abbrev pub IsNamed : Bytes → Type 0
IsNamed path = (word : Bytes) × (path_named word ≡ Some path)

abbrev pub AreNamed : List Bytes → Type 0
AreNamed [] = ⊤
AreNamed (path ∷ paths) = IsNamed path × AreNamed paths

-- The plan may be that of so many words: its paths are named by words, its numbers are those that the command takes, and a bad place is that of a
-- word or the one behind the last.
abbrev pub IsPlanOf : ℕ → Plan → Type 0
IsPlanOf n (run_file p) = AreNamed p.load_path × (AreNamed p.stable × (IsNamed p.file × (p.turns ≤ most_turns)))
IsPlanOf n (precompile p) = (1 ≤ p.workers) × ((p.workers ≤ most_workers) × ((1 ≤ length p.folders) × AreNamed p.folders))
IsPlanOf n (workload k) = (1 ≤ k) × (k ≤ most_files)
IsPlanOf n (bad k) = (1 ≤ k) × (k ≤ n + 1)
