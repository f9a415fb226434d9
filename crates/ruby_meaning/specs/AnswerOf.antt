-- The answer to a source tree, a list of words and an input. It knows no cache.
use Rattle.std.specs.Prelude.{ℕ, zero, suc, ◌+◌, ◌*◌, ◌%◌, ◌^◌, ◌==◌, Bool, true, false, cond, not, ◌&&◌, ◌||◌, List, [], ◌∷◌, ◌++◌, length, take, drop, filter_map, Option, Some, None, codes}
use Rattle.std.specs.Option.{option_map}
use Rattle.std.specs.List.{list_any, ends_with}
use Rattle.std.specs.Fmt.{decimal}
use Rattle.std.specs.FinMap as finite
use Rattle.bs_outside.specs.Paths.{same_bytes, segments_of}
use Rattle.bs_outside.specs.SourceTree.{SourceTree, stem_of}
use Rattle.bs_outside.specs.declared.trees.Item.{Item}
use Rattle.bs_outside.specs.declared.trees.Item.TheVariants as item
use Rattle.msgpack_codec.specs.declared.value.DataKind.TheVariants as data_kind
use Rattle.ruby_tree.specs.Names.{Bytes}
use Rattle.ruby_meaning.specs.World.{FileKind, ruby_file, data_file, Step}
use Rattle.ruby_meaning.specs.Files.{Files, RubyFile, no_ruby, ruby_fault, ruby_tree, DataFile, no_data_file, data_fault, data_value}
use Rattle.ruby_meaning.specs.FilesOf.{ReadsData, DataReader, AreFilesOf, files_of}
use Rattle.ruby_meaning.specs.Words.{RunPlan, Kinds, PoolPlan, Plan, run_file, precompile, workload, bad, turns_unsaid, plan_of}
use Rattle.ruby_meaning.specs.PlainRun.{Program, Ending, exit, PlainAnswer, IsPlainRun, plain_run_of}

-- an answer ends as a run does, or at a bad word
pub data AnswerEnding : Type 0 where
  ended : Ending → AnswerEnding
  usage : ℕ → AnswerEnding

pub record Answer : Type 0 where
  pub output : Bytes
  pub error_text : Bytes
  pub ending : AnswerEnding
  pub features : List Bytes
  pub trace : List Step
  -- whether the input was asked for
  pub has_asked : Bool

-- A bad word.

abbrev pub usage_text : ℕ → Bytes
usage_text place = codes "bootsnap: word " ++ (decimal place ++ 10 ∷ [])

abbrev pub usage_answer : ℕ → Answer
usage_answer place = record { output = []; error_text = usage_text place; ending = usage place; features = []; trace = []; has_asked = false }

-- The run of a file.

abbrev pub program_of : RunPlan → Bytes → Program
program_of p input = record { folders = p.load_path; file = p.file; words = p.arguments; turns = p.turns; input = input }

abbrev pub answer_of_run : PlainAnswer → Answer
answer_of_run a = record { output = a.output; error_text = a.error_text; ending = ended a.ending; features = a.features; trace = a.trace; has_asked = a.has_asked }

-- Compiling ahead.

-- this output, the status 0, and nothing else
abbrev pub just_writes : Bytes → Answer
just_writes text = record { output = text; error_text = []; ending = ended (exit 0); features = []; trace = []; has_asked = false }

-- a file that is compiled ahead
pub record Job : Type 0 where
  pub kind : FileKind
  pub path : Bytes

abbrev pub has_ending : Bytes → Bytes → Bool
has_ending ending path = ends_with ◌==◌ path ending

-- the kind of file that a path ends as, where that is one of these
abbrev pub if_kind : Bool → FileKind → Option FileKind
if_kind true kind = Some kind
if_kind false kind = None

abbrev pub kind_of_path : Kinds → Bytes → Option FileKind
kind_of_path kinds path =
    cond (has_ending (codes ".rb") path) (if_kind kinds.iseq ruby_file)
    (cond (has_ending (codes ".yml") path || has_ending (codes ".yaml") path) (if_kind kinds.yaml (data_file data_kind.Yaml))
    (cond (has_ending (codes ".json") path) (if_kind kinds.json (data_file data_kind.Json)) None))

-- the segment begins with a dot
abbrev pub is_dot_name : Bytes → Bool
is_dot_name [] = false
is_dot_name (byte ∷ bytes) = byte == 46

-- The path lies below the folder whose paths begin with this stem, and no name behind it begins with a dot.
abbrev pub is_behind : Bytes → Bytes → Bool
is_behind stem path = same_bytes (take (length stem) path) stem && not (list_any is_dot_name (segments_of (drop (length stem) path)))

abbrev pub is_below : List Bytes → Bytes → Bool
is_below folders path = list_any (λ d. is_behind (stem_of d) path) folders

abbrev pub job_at : Bytes → Option FileKind → Option Job
job_at path kind = option_map (λ k. record { kind = k; path = path }) kind

-- the job that is made of what stands at a path
abbrev pub job_of : Kinds → List Bytes → Bytes → Item → Option Job
job_of kinds folders path (item.File bytes mtime) = cond (is_below folders path) (job_at path (kind_of_path kinds path)) None
job_of kinds folders path (item.Dir mtime) = None

abbrev pub jobs_in : Kinds → List Bytes → List (Bytes × Item) → List Job
jobs_in kinds folders entries = filter_map (λ e. job_of kinds folders e.0 e.1) entries

-- The files of these kinds below the folders, each once, ascending by their paths, since the tree's paths ascend.
abbrev pub jobs_of : SourceTree → PoolPlan → List Job
jobs_of tree p = jobs_in p.kinds p.folders (finite.entries tree)

abbrev pub line_of_ruby : RubyFile → Option ℕ
line_of_ruby no_ruby = None
line_of_ruby (ruby_fault line) = Some line
line_of_ruby (ruby_tree t) = None

abbrev pub line_of_datum : DataFile → Option ℕ
line_of_datum no_data_file = None
line_of_datum (data_fault line) = Some line
line_of_datum (data_value d) = None

-- the line at which what stands at the path cannot be read as this kind
abbrev pub fault_line : Files → FileKind → Bytes → Option ℕ
fault_line files ruby_file path = line_of_ruby (files.ruby path)
fault_line files (data_file kind) path = line_of_datum (files.datum kind path)

-- the paths and fault lines of the jobs that cannot be read
abbrev pub skipped : Files → List Job → List (Bytes × ℕ)
skipped files jobs = filter_map (λ j. option_map (λ line. (j.path, line)) (fault_line files j.kind j.path)) jobs

-- `PATH:LINE` for each
abbrev pub skipped_text : List (Bytes × ℕ) → Bytes
skipped_text [] = []
skipped_text (s ∷ all) = s.0 ++ (codes ":" ++ (decimal s.1 ++ (10 ∷ skipped_text all)))

abbrev pub counts_text : ℕ → List (Bytes × ℕ) → Bytes
counts_text count all = codes "sources " ++ (decimal count ++ (codes "\nskipped " ++ (decimal (length all) ++ (10 ∷ skipped_text all))))

abbrev pub report_text : Files → List Job → Bytes
report_text files jobs = counts_text (length jobs) (skipped files jobs)

-- A workload.

abbrev pub factor : ℕ → ℕ
factor k = ((1103515245 * k + 12345) % 2 ^ 31) % 97

-- File number k:
--     class FK
--       def self.go(n)
--         t = 0
--         n.times { |i| t += i * FACTOR }
--         t
--       end
--     end
abbrev pub workload_text : ℕ → Bytes
workload_text k =
    codes "class F" ++
    (decimal k ++
    (codes "\n  def self.go(n)\n    t = 0\n    n.times { |i| t += i * " ++ (decimal (factor k) ++ codes " }\n    t\n  end\nend\n")))

abbrev pub workload_path : ℕ → Bytes
workload_path k = codes "/lib/f" ++ (decimal k ++ codes ".rb")

-- for each file from number k on: `require "fK"` and `s += FK.go(10)`
abbrev pub calls_text : ℕ → ℕ → Bytes
calls_text k zero = []
calls_text k (suc n) = codes "require \"f" ++ (decimal k ++ (codes "\"\ns += F" ++ (decimal k ++ (codes ".go(10)\n" ++ calls_text (suc k) n))))

abbrev pub workload_main : ℕ → Bytes
workload_main n = codes "s = 0\n" ++ (calls_text 1 n ++ codes "puts s\n")

abbrev pub workload_files : ℕ → ℕ → List (Bytes × Item)
workload_files k zero = []
workload_files k (suc n) = (workload_path k, item.File (workload_text k) 1) ∷ workload_files (suc k) n

abbrev pub workload_entries : ℕ → List (Bytes × Item)
workload_entries n = (codes "/", item.Dir 1) ∷ (codes "/lib", item.Dir 1) ∷ (codes "/main.rb", item.File (workload_main n) 1) ∷ workload_files 1 n

-- the tree of the workload, with so many files in `/lib`; each time is 1
abbrev pub workload_tree : ℕ → SourceTree
workload_tree n = finite.from_entries (workload_entries n)

abbrev pub workload_program : Program
workload_program = record { folders = codes "/lib" ∷ []; file = codes "/main.rb"; words = []; turns = turns_unsaid; input = [] }

-- without its last newline
abbrev pub without_newline : Bytes → Bytes
without_newline [] = []
without_newline (byte ∷ []) = cond (byte == 10) [] (byte ∷ [])
without_newline (byte ∷ next ∷ bytes) = byte ∷ without_newline (next ∷ bytes)

-- what a run with an empty cache and one with a full cache come to, over so many files
abbrev pub misses_text : ℕ → Bytes
misses_text count = codes "cold miss " ++ (decimal count ++ (codes " hit 0\nwarm miss 0 hit " ++ (decimal count ++ 10 ∷ [])))

abbrev pub workload_lines : ℕ → Bytes → Bytes
workload_lines n output = codes "files " ++ (decimal (n + 1) ++ (codes "\nsum " ++ (without_newline output ++ (10 ∷ misses_text (n + 1)))))

-- The answer.

-- The answer to what the words ask for. `reads_data` is what data files are read as.
pub data IsAnswerTo (reads_data : ReadsData) (source : SourceTree) (input : Bytes) : Plan → Answer → Type 0 where
  to_bad : {k : ℕ} → IsAnswerTo reads_data source input (bad k) (usage_answer k)
  to_run : {p : RunPlan} {a : PlainAnswer} → IsPlainRun reads_data source (program_of p input) a → IsAnswerTo reads_data source input (run_file p) (answer_of_run a)
  to_precompile : {p : PoolPlan} (files : Files) → AreFilesOf reads_data source files → IsAnswerTo reads_data source input (precompile p) (just_writes (report_text files (jobs_of source p)))
  to_workload : {n : ℕ} {a : PlainAnswer} → IsPlainRun reads_data (workload_tree n) workload_program a → IsAnswerTo reads_data source input (workload n) (just_writes (workload_lines n a.output))

-- the answer to a source tree, words and input
abbrev pub IsAnswer : ReadsData → SourceTree → List Bytes → Bytes → Answer → Type 0
IsAnswer reads_data source words input answer = IsAnswerTo reads_data source input (plan_of words) answer

-- The same as functions.

abbrev pub answer_to : DataReader → SourceTree → Bytes → Plan → Answer
answer_to reader source input (bad k) = usage_answer k
answer_to reader source input (run_file p) = answer_of_run (plain_run_of reader source (program_of p input))
answer_to reader source input (precompile p) = just_writes (report_text (files_of reader source) (jobs_of source p))
answer_to reader source input (workload n) = just_writes (workload_lines n (plain_run_of reader (workload_tree n) workload_program).output)

-- the answer to a source tree, words and input
abbrev pub answer_for : DataReader → SourceTree → List Bytes → Bytes → Answer
answer_for reader source words input = answer_to reader source input (plan_of words)
