-- The plan of each list of words is one of so many words.
use Rattle.std.proofs.Common.{◌≡◌, ℕ, suc, ◌+◌, ◌≤◌, Bool, true, false, cond, ◌&&◌, refl, arith, List, [], ◌∷◌, ◌++◌, length, Option, Some, None, IfSome, leb-true, ap}
use Rattle.std.specs.Prelude.{nat_le, is_some, not, codes, unwrap_or}
use Rattle.bs_outside.specs.Paths.{same_bytes}
use Rattle.ruby_tree.specs.Names.{Bytes}
use Rattle.ruby_meaning.specs.Words.{Due, no_value, folder_value, prefix_value, cache_value, turns_value, workers_value, path_named, is_number, value_of, only_if, within, number_in, cache_use_of, most_turns, turns_unsaid, most_workers, workers_unsaid, most_files, if_good, is_operand, behind_options, unless_named, with_value, RunOptions, no_run_options, run_option, read_run, run_with, run_operands, PoolOptions, no_pool_options, with_kinds, pool_option, read_pool, with_paths, pool_with, pool_operands, workload_of, workload_words, Plan, run_file, precompile, plan_of}
use Rattle.ruby_meaning.specs.WordLaws.{IsNamed, AreNamed, IsPlanOf}

-- what holds of both sides
either : {A : Type 0} (P : A → Type 0) (b : Bool) (x y : A) → P x → P y → P (cond b x y)
either P true x y p q = p
either P false x y p q = q

itself : {A : Type 0} (a : Option A) → IfSome a (λ s. a ≡ Some s)
itself None = tt
itself (Some s) = refl

good_or : {A : Type 0} (n place : ℕ) (P : A → Type 0) (a : Option A) (f : A → Plan) → 1 ≤ place → place ≤ n + 1 → IfSome a P → ((s : A) → P s → IsPlanOf n (f s)) → IsPlanOf n (if_good place a f)
good_or n place P None f l m p go = (l, m)
good_or n place P (Some s) f l m p go = go s p

-- The options.
module _ {O : Type 0} (read : Due → O → Bytes → Option (Due × O)) (operands : ℕ → O → Bytes → List Bytes → Plan) (Good : O → Type 0) (n : ℕ)
    (keeps : (due : Due) (o : O) (word : Bytes) → Good o → IfSome (read due o word) (λ s. Good s.1))
    (fine : (place : ℕ) (o : O) (word : Bytes) (words : List Bytes) → Good o → 1 ≤ place → place + suc (length words) ≤ n + 1 → IsPlanOf n (operands place o word words)) where
  at_word : (b : Bool) (place : ℕ) (due : Due) (o : O) (word : Bytes) (words : List Bytes) → Good o → 1 ≤ place → place + suc (length words) ≤ n + 1
      → ((s : Due × O) → Good s.1 → IsPlanOf n (behind_options read operands (suc place) s.0 s.1 words))
      → IsPlanOf n (cond b (operands place o word words) (if_good place (read due o word) (λ s. behind_options read operands (suc place) s.0 s.1 words)))
  at_word true place due o word words g l m go = fine place o word words g l m
  at_word false place due o word words g l m go =
      good_or n place (λ s. Good s.1) (read due o word) (λ s. behind_options read operands (suc place) s.0 s.1 words) l (omega arith) (keeps due o word g) go

  behind : (words : List Bytes) (place : ℕ) (due : Due) (o : O) → Good o → 1 ≤ place → place + length words ≤ n + 1 → IsPlanOf n (behind_options read operands place due o words)
  behind [] place due o g l m = (l, omega arith)
  behind (word ∷ words) place due o g l m =
      at_word (is_operand due word) place due o word words g l m (λ s h. behind words (suc place) s.0 s.1 h (omega arith) (omega arith))

unless_keeps : {O : Type 0} (Good : O → Type 0) (named : Bool) (due : Due) (o : O) → Good o → IfSome (unless_named named due o) (λ s. Good s.1)
unless_keeps Good true due o g = tt
unless_keeps Good false due o g = g

value_keeps : {A O : Type 0} (Good : O → Type 0) (P : A → Type 0) (value : Option A) (put : A → O) → IfSome value P → ((a : A) → P a → Good (put a)) → IfSome (with_value value put) (λ s. Good s.1)
value_keeps Good P None put p go = tt
value_keeps Good P (Some a) put p go = go a p

-- Words.
named : (word : Bytes) (path : Option Bytes) → path_named word ≡ path → IfSome path IsNamed
named word None e = tt
named word (Some path) e = (word, e)

and_named : (paths : List Bytes) (path : Bytes) → AreNamed paths → IsNamed path → AreNamed (paths ++ path ∷ [])
and_named [] path h p = (p, tt)
and_named (first ∷ paths) path h p = (h.0, and_named paths path h.1 p)

abbrev IsWithin : ℕ → ℕ → ℕ → Type 0
IsWithin least most n = (least ≤ n) × (n ≤ most)

within_by : (least most n : ℕ) (a b : Bool) → (a ≡ true → least ≤ n) → (b ≡ true → n ≤ most) → IfSome (only_if (a && b) n) (IsWithin least most)
within_by least most n false b l m = tt
within_by least most n true false l m = tt
within_by least most n true true l m = (l refl, m refl)

number_within : (least most : ℕ) (word : Bytes) → IfSome (number_in least most word) (IsWithin least most)
number_within least most word =
    either (λ a. IfSome a (IsWithin least most)) (is_number word) (within least most (value_of 0 word)) None
    (within_by least most (value_of 0 word) (nat_le least (value_of 0 word)) (nat_le (value_of 0 word) most) (leb-true least (value_of 0 word)) (leb-true (value_of 0 word) most))
    tt

said_within : (least most unsaid : ℕ) (said : Option ℕ) → IsWithin least most unsaid → IfSome said (IsWithin least most) → IsWithin least most (unwrap_or said unsaid)
said_within least most unsaid None u h = u
said_within least most unsaid (Some n) u h = h

-- `run`
record GoodRun (o : RunOptions) : Type 0 where
  load_path : AreNamed o.load_path
  stable : AreNamed o.stable
  turns : IfSome o.turns (IsWithin 0 most_turns)

abbrev StaysGoodRun : Option (Due × RunOptions) → Type 0
StaysGoodRun a = IfSome a (λ s. GoodRun s.1)

option_keeps : (o : RunOptions) (word : Bytes) → GoodRun o → StaysGoodRun (run_option o word)
option_keeps o word g =
    either StaysGoodRun (same_bytes word (codes "-I")) _ _ g
    (either StaysGoodRun (same_bytes word (codes "--stable")) _ _ g
    (either StaysGoodRun (same_bytes word (codes "--cache")) _ _ (unless_keeps GoodRun (is_some o.cache) cache_value o g)
    (either StaysGoodRun (same_bytes word (codes "--revalidate")) _ _ (unless_keeps GoodRun o.revalidate no_value (record o { revalidate = true }) (record { load_path = g.load_path; stable = g.stable; turns = g.turns }))
    (either StaysGoodRun (same_bytes word (codes "--instrument")) _ _ (unless_keeps GoodRun o.instrument no_value (record o { instrument = true }) (record { load_path = g.load_path; stable = g.stable; turns = g.turns }))
    (either StaysGoodRun (same_bytes word (codes "--turns")) _ _ (unless_keeps GoodRun (is_some o.turns) turns_value o g) tt)))))

run_keeps : (due : Due) (o : RunOptions) (word : Bytes) → GoodRun o → StaysGoodRun (read_run due o word)
run_keeps no_value o word g = option_keeps o word g
run_keeps folder_value o word g =
    value_keeps GoodRun IsNamed (path_named word) (λ d. record o { load_path = o.load_path ++ d ∷ [] }) (named word (path_named word) refl)
    (λ d p. record { load_path = and_named o.load_path d g.load_path p; stable = g.stable; turns = g.turns })
run_keeps prefix_value o word g =
    value_keeps GoodRun IsNamed (path_named word) (λ d. record o { stable = o.stable ++ d ∷ [] }) (named word (path_named word) refl)
    (λ d p. record { load_path = g.load_path; stable = and_named o.stable d g.stable p; turns = g.turns })
run_keeps cache_value o word g =
    value_keeps GoodRun (λ u. cache_use_of word ≡ Some u) (cache_use_of word) (λ u. record o { cache = Some u }) (itself (cache_use_of word))
    (λ u p. record { load_path = g.load_path; stable = g.stable; turns = g.turns })
run_keeps turns_value o word g =
    value_keeps GoodRun (IsWithin 0 most_turns) (number_in 0 most_turns word) (λ n. record o { turns = Some n }) (number_within 0 most_turns word)
    (λ n p. record { load_path = g.load_path; stable = g.stable; turns = p })
run_keeps workers_value o word g = tt

run_fine : (n place : ℕ) (o : RunOptions) (word : Bytes) (words : List Bytes) → GoodRun o → 1 ≤ place → place + suc (length words) ≤ n + 1 → IsPlanOf n (run_operands place o word words)
run_fine n place o word words g l m =
    good_or n place IsNamed (path_named word) (λ file. run_file (run_with o file words)) l (omega arith) (named word (path_named word) refl)
    (λ file p. (g.load_path, (g.stable, (p, (said_within 0 most_turns turns_unsaid o.turns (omega arith, omega arith) g.turns).1))))

-- `precompile`
abbrev GoodPool : PoolOptions → Type 0
GoodPool o = IfSome o.workers (IsWithin 1 most_workers)

abbrev StaysGoodPool : Option (Due × PoolOptions) → Type 0
StaysGoodPool a = IfSome a (λ s. GoodPool s.1)

kinds_keep : (o : PoolOptions) (word : Bytes) → GoodPool o → StaysGoodPool (pool_option o word)
kinds_keep o word g =
    either StaysGoodPool (same_bytes word (codes "-j")) _ _ (unless_keeps GoodPool (is_some o.workers) workers_value o g)
    (either StaysGoodPool (same_bytes word (codes "--no-iseq")) _ _ (unless_keeps GoodPool (not o.kinds.iseq) no_value (with_kinds o (record o.kinds { iseq = false })) g)
    (either StaysGoodPool (same_bytes word (codes "--no-yaml")) _ _ (unless_keeps GoodPool (not o.kinds.yaml) no_value (with_kinds o (record o.kinds { yaml = false })) g)
    (either StaysGoodPool (same_bytes word (codes "--no-json")) _ _ (unless_keeps GoodPool (not o.kinds.json) no_value (with_kinds o (record o.kinds { json = false })) g) tt)))

pool_keeps : (due : Due) (o : PoolOptions) (word : Bytes) → GoodPool o → StaysGoodPool (read_pool due o word)
pool_keeps no_value o word g = kinds_keep o word g
pool_keeps folder_value o word g = tt
pool_keeps prefix_value o word g = tt
pool_keeps cache_value o word g = tt
pool_keeps turns_value o word g = tt
pool_keeps workers_value o word g =
    value_keeps GoodPool (IsWithin 1 most_workers) (number_in 1 most_workers word) (λ n. record o { workers = Some n }) (number_within 1 most_workers word) (λ n p. p)

paths_fine : (n : ℕ) (words : List Bytes) (place : ℕ) (following : List Bytes → Plan) → 1 ≤ place → place + length words ≤ n + 1
    → ((ds : List Bytes) → AreNamed ds → length ds ≡ length words → IsPlanOf n (following ds)) → IsPlanOf n (with_paths place words following)
paths_fine n [] place following l m go = go [] tt refl
paths_fine n (word ∷ words) place following l m go =
    good_or n place IsNamed (path_named word) (λ d. with_paths (suc place) words (λ ds. following (d ∷ ds))) l (omega arith) (named word (path_named word) refl)
    (λ d p. paths_fine n words (suc place) (λ ds. following (d ∷ ds)) (omega arith) (omega arith) (λ ds h e. go (d ∷ ds) (p, h) (ap suc e)))

pool_fine : (n place : ℕ) (o : PoolOptions) (word : Bytes) (words : List Bytes) → GoodPool o → 1 ≤ place → place + suc (length words) ≤ n + 1 → IsPlanOf n (pool_operands place o word words)
pool_fine n place o word words g l m =
    paths_fine n (word ∷ words) place (λ folders. precompile (pool_with o folders)) l m
    (λ ds h e.
    let w : IsWithin 1 most_workers (unwrap_or o.workers workers_unsaid) = said_within 1 most_workers workers_unsaid o.workers (omega arith, omega arith) g in
    (w.0, (w.1, (omega (arith, e), h))))

-- `workload`
workload_fine : (n k : ℕ) (words : List Bytes) → length words + 2 ≤ n → IsWithin 1 most_files k → IsPlanOf n (workload_of k words)
workload_fine n k [] m p = p
workload_fine n k (word ∷ words) m p = (omega arith, omega arith)

workload_words_fine : (n : ℕ) (words : List Bytes) → length words + 1 ≤ n → IsPlanOf n (workload_words words)
workload_words_fine n [] m = (omega arith, omega arith)
workload_words_fine n (word ∷ words) m =
    good_or n 2 (IsWithin 1 most_files) (number_in 1 most_files word) (λ k. workload_of k words) (omega arith) (omega arith) (number_within 1 most_files word)
    (λ k p. workload_fine n k words (omega arith) p)

pub plan_fine : (words : List Bytes) → IsPlanOf (length words) (plan_of words)
plan_fine [] = (omega arith, omega arith)
plan_fine (word ∷ words) =
    let n : ℕ = suc (length words) in
    either (IsPlanOf n) (same_bytes word (codes "run")) _ _
    (behind read_run run_operands GoodRun n run_keeps (run_fine n) words 2 no_value no_run_options (record { load_path = tt; stable = tt; turns = tt }) (omega arith) (omega arith))
    (either (IsPlanOf n) (same_bytes word (codes "precompile")) _ _
    (behind read_pool pool_operands GoodPool n pool_keeps (pool_fine n) words 2 no_value no_pool_options tt (omega arith) (omega arith))
    (either (IsPlanOf n) (same_bytes word (codes "workload")) _ _ (workload_words_fine n words (omega arith)) (omega arith, omega arith)))
