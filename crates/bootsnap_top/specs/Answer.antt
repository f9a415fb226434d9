use Rattle.std.specs.Prelude.{ℕ, Option, None, Some, Result, Ok, Err, List, [], ◌∷◌, ◌++◌, codes}
use Rattle.std.specs.Fmt.{decimal}
use Rattle.std.specs.FinMap as map
use Rattle.bs_outside.specs.SourceTree.{SourceTree, bytes_at}
use Rattle.compile_cache.specs.Fetching.{reads_of}
use Rattle.reference_parser.specs.ReadingOf.{Reading, reading_of}
use Rattle.reference_parser.specs.ReadingOf as reading
use Rattle.small_form.specs.SmallForm.{small_of}
use Rattle.small_form.specs.declared.tree.SmallFile.{SmallFile}
use Rattle.bootsnap_top.specs.Plan.{plan_of, path_of}
use Rattle.bootsnap_top.specs.SmallRun.{Answer, run_lines}
use Rattle.bootsnap_top.specs.declared.ending.Ending.TheVariants as ending
use Rattle.bootsnap_top.specs.declared.planning.Planned.{Planned}

abbrev pub usage_text : ℕ → List ℕ
usage_text place = codes "bootsnap: word " ++ (decimal place ++ 10 ∷ [])

abbrev pub missing_text : List ℕ → List ℕ
missing_text path = codes "cannot load such file -- " ++ (path ++ codes " (LoadError)\n")

-- the error text of a text that has no tree, with the line of its fault
abbrev pub syntax_text : List ℕ → ℕ → List ℕ
syntax_text path line = path ++ 58 ∷ (decimal line ++ codes ": syntax error (SyntaxError)\n")

-- the answer to a bad word
abbrev pub usage_answer : ℕ → Answer
usage_answer place = record { output = []; errors = usage_text place; ending = ending.Usage place }

-- the run of a program that is a small file; another one cannot be run yet
abbrev pub answer_of_program : List ℕ → Option SmallFile → Answer
answer_of_program path None = record { output = []; errors = []; ending = ending.NotYet }
answer_of_program path (Some file) = run_lines path 1 map.empty file.lines

-- what a text does by its reading: one that has no tree does nothing but say the line of its fault
abbrev pub answer_of_reading : List ℕ → Reading → Answer
answer_of_reading path (reading.fault line) = record { output = []; errors = syntax_text path line; ending = ending.Exit 1 }
answer_of_reading path (reading.tree t) = answer_of_program path (small_of t)

abbrev pub answer_of_file : List ℕ → Option (List ℕ) → Answer
answer_of_file path None = record { output = []; errors = missing_text path; ending = ending.Exit 1 }
answer_of_file path (Some text) = answer_of_reading path (reading_of text)

abbrev pub answer_of_plan : SourceTree → Result Planned ℕ → Answer
answer_of_plan tree (Err place) = usage_answer place
answer_of_plan tree (Ok planned) = answer_of_file (path_of planned) (bytes_at tree (path_of planned))

-- The answer to the words over a source tree: output, error text and ending. It knows no cache.
abbrev pub answer_of : SourceTree → List (List ℕ) → Answer
answer_of tree words = answer_of_plan tree (plan_of words)

-- the paths of the stats that the plan asks for: one, of the file that is run
abbrev pub paths_of_plan : Result Planned ℕ → List (List ℕ)
paths_of_plan (Err place) = []
paths_of_plan (Ok planned) = path_of planned ∷ []

-- the reads that the plan asks for without the cache: one, of the file that is run, where it is there
abbrev pub reads_of_plan : SourceTree → Result Planned ℕ → List (List ℕ)
reads_of_plan tree (Err place) = []
reads_of_plan tree (Ok planned) = reads_of tree (path_of planned)
