-- What a list of words asks for. Words are counted from 1, and the first bad one counts.
use Rattle.std.specs.Prelude.{ℕ, suc, ◌+◌, ◌*◌, ◌-◌, ◌==◌, Bool, true, false, cond, not, ◌&&◌, nat_le, Option, None, Some, is_some, unwrap_or, List, [], ◌∷◌, ◌++◌, codes}
use Rattle.std.specs.Option.{option_map}
use Rattle.std.specs.List.{list_all}
use Rattle.bs_outside.specs.Paths.{same_bytes, normal_of}
use Rattle.ruby_tree.specs.Names.{Bytes}

pub data CacheUse : Type 0 where
  cache_on : CacheUse
  cache_off : CacheUse
  cache_readonly : CacheUse

pub record Mode : Type 0 where
  pub cache : CacheUse
  pub revalidate : Bool

-- A run of a file: the folders of the load path, the stable roots, the mode, whether it is noted how each file was fetched, the turns, the path
-- of the program file, and the arguments of the program.
pub record RunPlan : Type 0 where
  pub load_path : List Bytes
  pub stable : List Bytes
  pub mode : Mode
  pub instrument : Bool
  pub turns : ℕ
  pub file : Bytes
  pub arguments : List Bytes

-- the kinds of files that are compiled ahead
pub record Kinds : Type 0 where
  pub iseq : Bool
  pub yaml : Bool
  pub json : Bool

-- Compiling ahead: how many workers at most, which kinds of files, and below which folders.
pub record PoolPlan : Type 0 where
  pub workers : ℕ
  pub kinds : Kinds
  pub folders : List Bytes

-- What the words ask for, or the place of the first bad word. A missing word stands behind the last.
pub data Plan : Type 0 where
  run_file : RunPlan → Plan
  precompile : PoolPlan → Plan
  workload : ℕ → Plan
  bad : ℕ → Plan

-- Single words.

-- the path that a word names, from `/`
abbrev pub path_named : Bytes → Option Bytes
path_named word = normal_of (47 ∷ []) word

-- begins with `-`
abbrev pub begins_with_dash : Bytes → Bool
begins_with_dash [] = false
begins_with_dash (byte ∷ bytes) = byte == 45

abbrev pub is_digit : ℕ → Bool
is_digit byte = nat_le 48 byte && nat_le byte 57

-- `0`, or digits without a leading 0
abbrev pub is_number : Bytes → Bool
is_number [] = false
is_number (byte ∷ []) = is_digit byte
is_number (byte ∷ next ∷ bytes) = not (byte == 48) && list_all is_digit (byte ∷ next ∷ bytes)

-- the number that digits spell behind others of this value
abbrev pub value_of : ℕ → Bytes → ℕ
value_of n [] = n
value_of n (byte ∷ bytes) = value_of (10 * n + (byte - 48)) bytes

abbrev pub only_if : {A : Type 0} → Bool → A → Option A
only_if true a = Some a
only_if false a = None

abbrev pub within : ℕ → ℕ → ℕ → Option ℕ
within least most n = only_if (nat_le least n && nat_le n most) n

-- the number that a word spells, where it is one from the least to the most
abbrev pub number_in : ℕ → ℕ → Bytes → Option ℕ
number_in least most word = cond (is_number word) (within least most (value_of 0 word)) None

abbrev pub cache_use_of : Bytes → Option CacheUse
cache_use_of word =
    cond (same_bytes word (codes "on")) (Some cache_on)
    (cond (same_bytes word (codes "off")) (Some cache_off)
    (cond (same_bytes word (codes "readonly")) (Some cache_readonly) None))

abbrev pub most_turns : ℕ
most_turns = 9223372036854775807

abbrev pub turns_unsaid : ℕ
turns_unsaid = 50000000

abbrev pub most_workers : ℕ
most_workers = 16

abbrev pub workers_unsaid : ℕ
workers_unsaid = 4

abbrev pub most_files : ℕ
most_files = 2000

-- Options.

-- the value that the next word is, whatever it begins with
pub data Due : Type 0 where
  no_value : Due
  folder_value : Due
  prefix_value : Due
  cache_value : Due
  turns_value : Due
  workers_value : Due

-- The first operand is a word that is no value and does not begin with `-`. No word behind it is an option.
abbrev pub is_operand : Due → Bytes → Bool
is_operand no_value word = not (begins_with_dash word)
is_operand folder_value word = false
is_operand prefix_value word = false
is_operand cache_value word = false
is_operand turns_value word = false
is_operand workers_value word = false

-- what follows a word at a place, if the word is good
abbrev pub if_good : {A : Type 0} → ℕ → Option A → (A → Plan) → Plan
if_good place None following = bad place
if_good place (Some a) following = following a

-- The words from a place on, up to the first operand: each is read as an option, or as the value that is due, and gives the options with it and
-- what is due then, or nothing where it is bad. Where no word is left, the missing one is bad.
abbrev pub behind_options : {O : Type 0} → (Due → O → Bytes → Option (Due × O)) → (ℕ → O → Bytes → List Bytes → Plan) → ℕ → Due → O → List Bytes → Plan
behind_options read operands place due options [] = bad place
behind_options read operands place due options (word ∷ words) =
    cond (is_operand due word) (operands place options word words)
    (if_good place (read due options word) (λ s. behind_options read operands (suc place) s.0 s.1 words))

-- an option that may be named once alone: nothing where it was named before
abbrev pub unless_named : {O : Type 0} → Bool → Due → O → Option (Due × O)
unless_named named due options = only_if (not named) (due, options)

-- the options with a value, where the word is one; nothing is due then
abbrev pub with_value : {A O : Type 0} → Option A → (A → O) → Option (Due × O)
with_value value put = option_map (λ a. (no_value, put a)) value

-- `run`

pub record RunOptions : Type 0 where
  pub load_path : List Bytes
  pub stable : List Bytes
  pub cache : Option CacheUse
  pub revalidate : Bool
  pub instrument : Bool
  pub turns : Option ℕ

abbrev pub no_run_options : RunOptions
no_run_options = record { load_path = []; stable = []; cache = None; revalidate = false; instrument = false; turns = None }

abbrev pub run_option : RunOptions → Bytes → Option (Due × RunOptions)
run_option o word =
    cond (same_bytes word (codes "-I")) (Some (folder_value, o))
    (cond (same_bytes word (codes "--stable")) (Some (prefix_value, o))
    (cond (same_bytes word (codes "--cache")) (unless_named (is_some o.cache) cache_value o)
    (cond (same_bytes word (codes "--revalidate")) (unless_named o.revalidate no_value (record o { revalidate = true }))
    (cond (same_bytes word (codes "--instrument")) (unless_named o.instrument no_value (record o { instrument = true }))
    (cond (same_bytes word (codes "--turns")) (unless_named (is_some o.turns) turns_value o) None)))))

abbrev pub read_run : Due → RunOptions → Bytes → Option (Due × RunOptions)
read_run no_value o word = run_option o word
read_run folder_value o word = with_value (path_named word) (λ d. record o { load_path = o.load_path ++ d ∷ [] })
read_run prefix_value o word = with_value (path_named word) (λ d. record o { stable = o.stable ++ d ∷ [] })
read_run cache_value o word = with_value (cache_use_of word) (λ u. record o { cache = Some u })
read_run turns_value o word = with_value (number_in 0 most_turns word) (λ n. record o { turns = Some n })
read_run workers_value o word = None

abbrev pub run_with : RunOptions → Bytes → List Bytes → RunPlan
run_with o file arguments = record {
  load_path = o.load_path;
  stable = o.stable;
  mode = record { cache = unwrap_or o.cache cache_on; revalidate = o.revalidate };
  instrument = o.instrument;
  turns = unwrap_or o.turns turns_unsaid;
  file = file;
  arguments = arguments;
}

-- FILE at a place; the words behind it are the program's
abbrev pub run_operands : ℕ → RunOptions → Bytes → List Bytes → Plan
run_operands place o word words = if_good place (path_named word) (λ file. run_file (run_with o file words))

-- `precompile`

pub record PoolOptions : Type 0 where
  pub workers : Option ℕ
  pub kinds : Kinds

abbrev pub no_pool_options : PoolOptions
no_pool_options = record { workers = None; kinds = record { iseq = true; yaml = true; json = true } }

abbrev pub with_kinds : PoolOptions → Kinds → PoolOptions
with_kinds o kinds = record o { kinds = kinds }

abbrev pub pool_option : PoolOptions → Bytes → Option (Due × PoolOptions)
pool_option o word =
    cond (same_bytes word (codes "-j")) (unless_named (is_some o.workers) workers_value o)
    (cond (same_bytes word (codes "--no-iseq")) (unless_named (not o.kinds.iseq) no_value (with_kinds o (record o.kinds { iseq = false })))
    (cond (same_bytes word (codes "--no-yaml")) (unless_named (not o.kinds.yaml) no_value (with_kinds o (record o.kinds { yaml = false })))
    (cond (same_bytes word (codes "--no-json")) (unless_named (not o.kinds.json) no_value (with_kinds o (record o.kinds { json = false }))) None)))

abbrev pub read_pool : Due → PoolOptions → Bytes → Option (Due × PoolOptions)
read_pool no_value o word = pool_option o word
read_pool folder_value o word = None
read_pool prefix_value o word = None
read_pool cache_value o word = None
read_pool turns_value o word = None
read_pool workers_value o word = with_value (number_in 1 most_workers word) (λ n. record o { workers = Some n })

-- the paths that the words from a place on name
abbrev pub with_paths : ℕ → List Bytes → (List Bytes → Plan) → Plan
with_paths place [] following = following []
with_paths place (word ∷ words) following = if_good place (path_named word) (λ d. with_paths (suc place) words (λ ds. following (d ∷ ds)))

abbrev pub pool_with : PoolOptions → List Bytes → PoolPlan
pool_with o folders = record { workers = unwrap_or o.workers workers_unsaid; kinds = o.kinds; folders = folders }

-- the first folder at a place, and those behind it
abbrev pub pool_operands : ℕ → PoolOptions → Bytes → List Bytes → Plan
pool_operands place o word words = with_paths place (word ∷ words) (λ folders. precompile (pool_with o folders))

-- `workload`

-- nothing may follow the number of files
abbrev pub workload_of : ℕ → List Bytes → Plan
workload_of n [] = workload n
workload_of n (word ∷ words) = bad 3

abbrev pub workload_words : List Bytes → Plan
workload_words [] = bad 2
workload_words (word ∷ words) = if_good 2 (number_in 1 most_files word) (λ n. workload_of n words)

-- What the words ask for.
abbrev pub plan_of : List Bytes → Plan
plan_of [] = bad 1
plan_of (word ∷ words) =
    cond (same_bytes word (codes "run")) (behind_options read_run run_operands 2 no_value no_run_options words)
    (cond (same_bytes word (codes "precompile")) (behind_options read_pool pool_operands 2 no_value no_pool_options words)
    (cond (same_bytes word (codes "workload")) (workload_words words) (bad 1)))
