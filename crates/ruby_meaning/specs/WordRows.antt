-- Small lists of words with what they ask for, and whole answers.
use Rattle.std.specs.Prelude.{◌≡◌, pos, true, false, List, [], ◌∷◌, replicate, codes, Some, Ok, Err}
use Rattle.std.specs.FinMap as finite
use Rattle.bs_outside.specs.Parts.{parts_of}
use Rattle.bs_outside.specs.SourceTree.{SourceTree, IsSourceTree, bytes_at}
use Rattle.bs_outside.specs.declared.trees.Item.{Item}
use Rattle.bs_outside.specs.declared.trees.Item.TheVariants as item
use Rattle.msgpack_codec.specs.declared.value.DataKind.TheVariants as data_kind
use Rattle.msgpack_codec.specs.declared.value.Value.TheVariants as datum
use Rattle.ruby_tree.specs.Names.{Bytes}
use Rattle.ruby_meaning.specs.World.{ruby_file, ask_require, asked, loaded, entered}
use Rattle.ruby_meaning.specs.FilesOf.{DataReader}
use Rattle.ruby_meaning.specs.PlainRun.{exit}
use Rattle.ruby_meaning.specs.Words.{cache_on, cache_off, cache_readonly, RunPlan, Kinds, Plan, run_file, precompile, workload, bad, turns_unsaid, most_turns, plan_of}
use Rattle.ruby_meaning.specs.AnswerOf.{Answer, ended, usage, factor, workload_text, workload_main, workload_tree, workload_lines, just_writes, answer_for}

-- the words of a line, with a blank between two
abbrev pub words_of : Bytes → List Bytes
words_of line = parts_of 32 line

-- what a line of words asks for
abbrev pub asks : Bytes → Plan
asks line = plan_of (words_of line)

-- a word that names nothing: the byte 0
abbrev pub no_path : Bytes
no_path = 0 ∷ []

-- the run of this file with this load path, and nothing else said
abbrev pub only_runs : List Bytes → Bytes → RunPlan
only_runs folders file = record {
  load_path = folders;
  stable = [];
  mode = record { cache = cache_on; revalidate = false };
  instrument = false;
  turns = turns_unsaid;
  file = file;
  arguments = [];
}

abbrev pub all_kinds : Kinds
all_kinds = record { iseq = true; yaml = true; json = true }

-- Words that ask for a run.
pub record PlansOfRuns : Type 0 where
  pub a_file : asks (codes "run main.rb") ≡ run_file (only_runs [] (codes "/main.rb"))
  pub normal_paths : asks (codes "run -I lib -I ./x/../alt//y bin/../main.rb") ≡ run_file (only_runs (codes "/lib" ∷ codes "/alt/y" ∷ []) (codes "/main.rb"))
  pub value_with_a_dash : asks (codes "run -I --cache main.rb") ≡ run_file (only_runs (codes "/--cache" ∷ []) (codes "/main.rb"))
  pub the_empty_word : plan_of (codes "run" ∷ [] ∷ []) ≡ run_file (only_runs [] (codes "/"))
  pub cache_off_said : asks (codes "run --cache off main.rb") ≡ run_file (record (only_runs [] (codes "/main.rb")) { mode = record { cache = cache_off; revalidate = false } })
  pub cache_on_said : asks (codes "run --cache on main.rb") ≡ run_file (only_runs [] (codes "/main.rb"))
  pub no_turns : asks (codes "run --turns 0 main.rb") ≡ run_file (record (only_runs [] (codes "/main.rb")) { turns = 0 })
  pub all_turns : asks (codes "run --turns 9223372036854775807 main.rb") ≡ run_file (record (only_runs [] (codes "/main.rb")) { turns = most_turns })
  pub arguments_behind : asks (codes "run main.rb --cache x -I") ≡ run_file (record (only_runs [] (codes "/main.rb")) { arguments = codes "--cache" ∷ codes "x" ∷ codes "-I" ∷ [] })
  pub any_argument : plan_of (codes "run" ∷ codes "main.rb" ∷ no_path ∷ []) ≡ run_file (record (only_runs [] (codes "/main.rb")) { arguments = no_path ∷ [] })
  pub all_options : asks (codes "run --instrument --stable vendor/gems --turns 1000 --revalidate --stable /b --cache readonly -I lib bin/a.rb x") ≡ run_file (record {
    load_path = codes "/lib" ∷ [];
    stable = codes "/vendor/gems" ∷ codes "/b" ∷ [];
    mode = record { cache = cache_readonly; revalidate = true };
    instrument = true;
    turns = 1000;
    file = codes "/bin/a.rb";
    arguments = codes "x" ∷ [];
  })

-- Words behind `run` of which one is bad, or missing.
pub record BadRuns : Type 0 where
  pub no_file : asks (codes "run") ≡ bad 2
  pub no_file_behind : asks (codes "run --cache on") ≡ bad 4
  pub value_is_missing : asks (codes "run --cache") ≡ bad 3
  pub a_dash_alone : asks (codes "run - main.rb") ≡ bad 2
  pub unknown_option : asks (codes "run --revalidate -j 4 main.rb") ≡ bad 3
  pub no_cache_use : asks (codes "run --cache maybe main.rb") ≡ bad 3
  pub no_number : asks (codes "run --turns x main.rb") ≡ bad 3
  pub leading_zero : asks (codes "run --turns 007 main.rb") ≡ bad 3
  pub signed_number : asks (codes "run --turns -1 main.rb") ≡ bad 3
  pub too_many_turns : asks (codes "run --turns 9223372036854775808 main.rb") ≡ bad 3
  pub cache_twice : asks (codes "run --cache on --cache off m.rb") ≡ bad 4
  pub before_its_value : asks (codes "run --turns 1 --turns x m.rb") ≡ bad 4
  pub revalidate_twice : asks (codes "run --revalidate --revalidate m.rb") ≡ bad 3
  pub instrument_twice : asks (codes "run --instrument --instrument") ≡ bad 3
  pub file_names_nothing : plan_of (codes "run" ∷ no_path ∷ []) ≡ bad 2
  pub folder_names_nothing : plan_of (codes "run" ∷ codes "-I" ∷ no_path ∷ codes "main.rb" ∷ []) ≡ bad 3
  pub prefix_names_nothing : plan_of (codes "run" ∷ codes "--stable" ∷ no_path ∷ codes "main.rb" ∷ []) ≡ bad 3
  pub path_is_too_long : plan_of (codes "run" ∷ replicate 1024 97 ∷ []) ≡ bad 2
  pub first_bad_word : asks (codes "run --turns x --cache maybe") ≡ bad 3

-- Words that ask for compiling ahead, and bad ones.
pub record PlansOfPools : Type 0 where
  pub one_folder : asks (codes "precompile lib") ≡ precompile (record { workers = 4; kinds = all_kinds; folders = codes "/lib" ∷ [] })
  pub several_folders : asks (codes "precompile -j 16 lib vendor/gems -j") ≡ precompile (record { workers = 16; kinds = all_kinds; folders = codes "/lib" ∷ codes "/vendor/gems" ∷ codes "/-j" ∷ [] })
  pub no_iseq : asks (codes "precompile --no-iseq lib") ≡ precompile (record { workers = 4; kinds = record all_kinds { iseq = false }; folders = codes "/lib" ∷ [] })
  pub no_data : asks (codes "precompile --no-yaml -j 1 --no-json lib") ≡ precompile (record { workers = 1; kinds = record { iseq = true; yaml = false; json = false }; folders = codes "/lib" ∷ [] })
  pub no_folder : asks (codes "precompile") ≡ bad 2
  pub no_folder_behind : asks (codes "precompile -j 2") ≡ bad 4
  pub no_count : asks (codes "precompile -j") ≡ bad 3
  pub no_worker : asks (codes "precompile -j 0 lib") ≡ bad 3
  pub too_many_workers : asks (codes "precompile -j 17 lib") ≡ bad 3
  pub workers_twice : asks (codes "precompile -j 2 -j 2 lib") ≡ bad 4
  pub kind_twice : asks (codes "precompile --no-json --no-yaml --no-json lib") ≡ bad 4
  pub unknown_option : asks (codes "precompile -I lib lib") ≡ bad 2
  pub folder_names_nothing : plan_of (codes "precompile" ∷ codes "lib" ∷ no_path ∷ no_path ∷ []) ≡ bad 3

-- Words that ask for a workload, bad ones, and first words that are no command.
pub record OtherPlans : Type 0 where
  pub one_file : asks (codes "workload 1") ≡ workload 1
  pub most_files : asks (codes "workload 2000") ≡ workload 2000
  pub too_many_files : asks (codes "workload 2001") ≡ bad 2
  pub no_files : asks (codes "workload 0") ≡ bad 2
  pub no_count : asks (codes "workload") ≡ bad 2
  pub no_options : asks (codes "workload -j 1") ≡ bad 2
  pub one_word_more : asks (codes "workload 1 x") ≡ bad 3
  pub no_words : plan_of [] ≡ bad 1
  pub unknown_command : asks (codes "Run main.rb") ≡ bad 1
  pub option_first : asks (codes "--cache on run main.rb") ≡ bad 1

-- Whole answers.

abbrev pub a_file : Bytes → Item
a_file text = item.File text 1

abbrev pub a_folder : Item
a_folder = item.Dir 1

-- `/main.rb` asks for a file in the load path, which is empty
abbrev pub two_entries : List (Bytes × Item)
two_entries = (codes "/", a_folder) ∷ (codes "/lib", a_folder) ∷ (codes "/lib/a.rb", a_file []) ∷ (codes "/main.rb", a_file (codes "p require(\"a\")\n")) ∷ []

abbrev pub two_files : SourceTree
two_files = finite.from_sorted two_entries

abbrev pub answer_of_two_files : Answer
answer_of_two_files = record {
  output = codes "true\n";
  error_text = [];
  ending = ended (exit 0);
  features = codes "/lib/a.rb" ∷ [];
  trace = loaded ruby_file (codes "/main.rb") ∷ entered 0 0 ∷ asked (ask_require (codes "a")) (codes "/lib" ∷ []) [] [] ∷ loaded ruby_file (codes "/lib/a.rb") ∷ entered 1 0 ∷ [];
  has_asked = false;
}

abbrev pub answer_to_word_three : Answer
answer_to_word_three = record { output = []; error_text = codes "bootsnap: word 3\n"; ending = usage 3; features = []; trace = []; has_asked = false }

-- six files below `/lib`, and others that are no jobs; `/lib/bad.rb` has its fault in line 3
abbrev pub folder_entries : List (Bytes × Item)
folder_entries =
    (codes "/", a_folder) ∷ (codes "/lib", a_folder) ∷ (codes "/lib/.a.rb", a_file []) ∷ (codes "/lib/.git", a_folder) ∷ (codes "/lib/.git/a.rb", a_file []) ∷
    (codes "/lib/a.rb", a_file (codes "A = 1\n")) ∷ (codes "/lib/bad.rb", a_file (codes "a = 1\n\nb = )\n")) ∷ (codes "/lib/c.json", a_file (codes "{\n")) ∷
    (codes "/lib/c.yml", a_file (codes "5\n")) ∷ (codes "/lib/deep", a_folder) ∷ (codes "/lib/deep/d.rb", a_file []) ∷ (codes "/lib/e.rb", a_file (codes "puts 2\n")) ∷
    (codes "/lib/readme", a_file []) ∷ (codes "/library", a_folder) ∷ (codes "/library/f.rb", a_file []) ∷ (codes "/main.rb", a_file []) ∷ []

abbrev pub folder_tree : SourceTree
folder_tree = finite.from_sorted folder_entries

-- reads these two data files: `/lib/c.yml` as 5, and `/lib/c.json` with a fault in its first line
abbrev pub folder_reader : DataReader
folder_reader (data_kind.Yaml) f = Ok (datum.Int (pos 5))
folder_reader (data_kind.Json) f = Err 1

-- The answers to these words, with this input, where data is read so.
pub record WholeAnswers (reader : DataReader) (input : Bytes) : Type 0 where
  pub of_a_bad_word : (source : SourceTree) → answer_for reader source (words_of (codes "run --turns x main.rb")) input ≡ answer_to_word_three
  pub of_a_run : answer_for reader two_files (words_of (codes "run -I lib --turns 1000 main.rb x")) input ≡ answer_of_two_files
  pub of_a_pool : answer_for folder_reader folder_tree (words_of (codes "precompile -j 1 lib")) input ≡ just_writes (codes "sources 6\nskipped 2\n/lib/bad.rb:3\n/lib/c.json:1\n")
  pub of_one_kind : answer_for folder_reader folder_tree (words_of (codes "precompile --no-iseq --no-json lib")) input ≡ just_writes (codes "sources 1\nskipped 0\n")
  pub of_a_workload : (source : SourceTree) → answer_for reader source (words_of (codes "workload 1")) input ≡ just_writes (codes "files 2\nsum 405\ncold miss 2 hit 0\nwarm miss 0 hit 2\n")

-- Each of their source trees is one.
pub record TreesOfAnswers : Type 0 where
  pub of_two_files : IsSourceTree two_files
  pub of_a_folder : IsSourceTree folder_tree
  pub of_a_workload : IsSourceTree (workload_tree 1)

-- The texts of the workload of one file, and the lines that it writes.
pub record WorkloadRows : Type 0 where
  pub main : workload_main 1 ≡ codes "s = 0\nrequire \"f1\"\ns += F1.go(10)\nputs s\n"
  pub file : workload_text 1 ≡ codes "class F1\n  def self.go(n)\n    t = 0\n    n.times { |i| t += i * 9 }\n    t\n  end\nend\n"
  pub second_factor : factor 2 ≡ 23
  pub last_factor : factor 2000 ≡ 94
  pub main_in_tree : bytes_at (workload_tree 1) (codes "/main.rb") ≡ Some (workload_main 1)
  pub file_in_tree : bytes_at (workload_tree 1) (codes "/lib/f1.rb") ≡ Some (workload_text 1)
  pub folder_in_tree : finite.get (workload_tree 1) (codes "/lib") ≡ Some (item.Dir 1)
  pub lines : workload_lines 1 (codes "405\n") ≡ codes "files 2\nsum 405\ncold miss 2 hit 0\nwarm miss 0 hit 2\n"
