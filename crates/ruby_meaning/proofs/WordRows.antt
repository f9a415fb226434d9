-- Small lists of words ask for what their rows say, and whole answers are what theirs say, by computation.
use Rattle.std.proofs.Common.{◌≡◌, ℕ, true, false, refl, ap, sym, subst, ◌∙◌, List, [], ◌∷◌, Option, codes}
use Rattle.std.specs.Prelude.{⊤, is_some}
use Rattle.std.specs.FinMap as finite
use Rattle.std.specs.Ordering.{nat_cmp}
use Rattle.std.specs.Cmp.Lexicographic.{slice_cmp, nat_list_cmp_total}
use Rattle.std.specs.Fmt.{digits}
use Rattle.std.specs.Str.{is_utf8, chars}
use Rattle.bs_outside.specs.SourceTree.{SourceTree, bytes_of_found}
use Rattle.bs_outside.specs.declared.trees.Item.{Item}
use Rattle.ruby_lexer.specs.Classes as classes
use Rattle.ruby_lexer.specs.Cut as cut
use Rattle.ruby_lexer.specs.Marks as marks
use Rattle.ruby_lexer.specs.Numbers as numbers
use Rattle.ruby_lexer.specs.Scan as scan
use Rattle.ruby_lexer.specs.Texts as texts
use Rattle.ruby_lexer.specs.Tokens as tokens
use Rattle.ruby_lexer.specs.Words as lexed_words
use Rattle.ruby_tree.specs.FirstFault as first_fault
use Rattle.reference_parser.specs.Answers as answers
use Rattle.reference_parser.specs.Fronts as fronts
use Rattle.reference_parser.specs.ReadBodies as bodies
use Rattle.reference_parser.specs.ReadItems as items
use Rattle.reference_parser.specs.ReadLevels as levels
use Rattle.reference_parser.specs.ReadOperands as operands
use Rattle.reference_parser.specs.ReadStatements as statements
use Rattle.reference_parser.specs.ReadingOf as reading
use Rattle.reference_parser.specs.Scanned as scanned
use Rattle.reference_parser.specs.Stops as stops
use Rattle.ruby_tree.specs.Names.{Bytes}
use Rattle.ruby_meaning.specs.Files.{Files}
use Rattle.ruby_meaning.specs.FilesOf.{ReadsData, DataReader, ruby_file_of, data_file_of, files_of}
use Rattle.ruby_meaning.specs.Prelude.{prelude_text}
use Rattle.ruby_meaning.specs.PreludeTree.{prelude_tree}
use Rattle.ruby_meaning.specs.PlainRun.{Program, plain_run, tree_or_nowhere, prelude_of_text, plain_run_of}
use Rattle.ruby_meaning.specs.Words.{RunPlan, PoolPlan, Plan, run_file, precompile, workload, bad, plan_of}
use Rattle.ruby_meaning.specs.AnswerOf.{Answer, usage_answer, IsAnswerTo, to_bad, to_run, to_precompile, to_workload, jobs_in, workload_entries, workload_tree, workload_program, workload_lines, report_text, just_writes, program_of, answer_of_run, answer_to}
use Rattle.ruby_meaning.specs.WordRows.{PlansOfRuns, BadRuns, PlansOfPools, OtherPlans, WholeAnswers, WorkloadRows, only_runs, two_entries, two_files, answer_of_two_files, folder_entries, folder_tree, folder_reader, all_kinds}

pub runs : PlansOfRuns
unfolding is_utf8 chars lib.Utf8.encode
runs = record {
  a_file = refl;
  normal_paths = refl;
  value_with_a_dash = refl;
  the_empty_word = refl;
  cache_off_said = refl;
  cache_on_said = refl;
  no_turns = refl;
  all_turns = refl;
  arguments_behind = refl;
  any_argument = refl;
  all_options = refl;
}

pub bad_runs : BadRuns
unfolding is_utf8 chars lib.Utf8.encode
bad_runs = record {
  no_file = refl;
  no_file_behind = refl;
  value_is_missing = refl;
  a_dash_alone = refl;
  unknown_option = refl;
  no_cache_use = refl;
  no_number = refl;
  leading_zero = refl;
  signed_number = refl;
  too_many_turns = refl;
  cache_twice = refl;
  before_its_value = refl;
  revalidate_twice = refl;
  instrument_twice = refl;
  file_names_nothing = refl;
  folder_names_nothing = refl;
  prefix_names_nothing = refl;
  path_is_too_long = refl;
  first_bad_word = refl;
}

pub pools : PlansOfPools
unfolding is_utf8 chars lib.Utf8.encode
pools = record {
  one_folder = refl;
  several_folders = refl;
  no_iseq = refl;
  no_data = refl;
  no_folder = refl;
  no_folder_behind = refl;
  no_count = refl;
  no_worker = refl;
  too_many_workers = refl;
  workers_twice = refl;
  kind_twice = refl;
  unknown_option = refl;
  folder_names_nothing = refl;
}

pub others : OtherPlans
others = record {
  one_file = refl;
  most_files = refl;
  too_many_files = refl;
  no_files = refl;
  no_count = refl;
  no_options = refl;
  one_word_more = refl;
  no_words = refl;
  unknown_command = refl;
  option_first = refl;
}

pub workloads : WorkloadRows
unfolding digits
workloads = record {
  main = refl;
  file = refl;
  second_factor = refl;
  last_factor = refl;
  main_in_tree = ap bytes_of_found (finite.get-from_entries nat_list_cmp_total (workload_entries 1) (codes "/main.rb"));
  file_in_tree = ap bytes_of_found (finite.get-from_entries nat_list_cmp_total (workload_entries 1) (codes "/lib/f1.rb"));
  folder_in_tree = finite.get-from_entries nat_list_cmp_total (workload_entries 1) (codes "/lib");
  lines = refl;
}

-- The files of a list of entries, as the list tells them.
abbrev bytes_in : List (Bytes × Item) → Bytes → Option Bytes
bytes_in es path = bytes_of_found (finite.find (slice_cmp nat_cmp) path es)

abbrev listed : DataReader → List (Bytes × Item) → Files
listed reader es = record {
  is_file = λ path. is_some (bytes_in es path);
  ruby = λ path. ruby_file_of (bytes_in es path);
  datum = λ kind path. data_file_of (reader kind) (bytes_in es path);
}

same_files : (reader : DataReader) (source : SourceTree) (es : List (Bytes × Item)) → ((path : Bytes) → finite.get source path ≡ finite.find (slice_cmp nat_cmp) path es) → files_of reader source ≡ listed reader es
same_files reader source es h i = record {
  is_file = λ path. is_some (bytes_of_found (h path i));
  ruby = λ path. ruby_file_of (bytes_of_found (h path i));
  datum = λ kind path. data_file_of (reader kind) (bytes_of_found (h path i));
}

abbrev run_plan : RunPlan
run_plan = record (only_runs (codes "/lib" ∷ []) (codes "/main.rb")) { turns = 1000; arguments = codes "x" ∷ [] }

abbrev pool_plan : PoolPlan
pool_plan = record { workers = 1; kinds = all_kinds; folders = codes "/lib" ∷ [] }

abbrev kind_plan : PoolPlan
kind_plan = record { workers = 4; kinds = record { iseq = false; yaml = true; json = false }; folders = codes "/lib" ∷ [] }

abbrev report : PoolPlan → Bytes
report p = report_text (listed folder_reader folder_entries) (jobs_in p.kinds p.folders folder_entries)

-- What computes: the reading of each text, and what is run.
record Computed (reader : DataReader) (input : Bytes) : Type 0 where
  prelude : reading.reading_of prelude_text ≡ reading.tree prelude_tree
  run : answer_of_run (plain_run (listed reader two_entries) prelude_tree (program_of run_plan input)) ≡ answer_of_two_files
  pool : report pool_plan ≡ codes "sources 6\nskipped 2\n/lib/bad.rb:3\n/lib/c.json:1\n"
  one_kind : report kind_plan ≡ codes "sources 1\nskipped 0\n"
  sum : (plain_run (listed reader (workload_entries 1)) prelude_tree workload_program).output ≡ codes "405\n"

computed : (reader : DataReader) (input : Bytes) → Computed reader input
unfolding classes.blank_class_of classes.class_of cut.cutter marks.is_closing_mark marks.mark_length marks.operator_length marks.marks_at marks.operator_forms marks.colon_forms numbers.number_at scan.◌>>=◌ scan.scan_inside scan.scan_quoted scan.scan_symbol scan.scan_form scan.scan_piece scan.scan_code scan.coder scan.scan_all texts.single_text texts.single_at texts.unicode_escape texts.escape texts.list_at texts.block_comment_at tokens.before_end lexed_words.is_forbidden lexed_words.is_reserved lexed_words.word_at lexed_words.label_at lexed_words.variable_at lexed_words.global_at first_fault.earlier first_fault.first_of answers.◌>>=◌ answers.◌>>>◌ fronts.skip_newlines fronts.then_at fronts.loop_start_at fronts.brackets_at fronts.method_name_at fronts.on_self_at bodies.clauses bodies.read_else bodies.rescued_body bodies.read_body bodies.ended bodies.do_block bodies.brace_block bodies.read_block bodies.call_block bodies.command_block bodies.call_items bodies.text_parts bodies.read_else_branches bodies.when_list bodies.default_param bodies.named_param bodies.left_param bodies.method_params bodies.bracket_params bodies.parameter_list bodies.read_parameters bodies.read_superclass items.block_params items.read_bars items.exception_name items.with_goal items.more_targets items.read_targets items.closed items.several items.read_several items.read_element items.elements items.pair_by items.read_pair items.pair_list items.read_passed items.end_pairs items.pairs_from items.items_from items.items items.read_items items.in_brackets items.command_items items.read_classes levels.rest levels.read_rest levels.compare levels.ranged levels.operand_of levels.read_unary_operand levels.raised levels.read_power levels.read_minus levels.chosen levels.at_level levels.climb levels.read_level operands.called_name operands.read_name operands.read_constant operands.read_yield operands.read_super operands.read_choice operands.read_loop operands.read_begin operands.read_whens operands.read_case operands.read_method operands.read_class operands.read_module operands.block_form_at operands.read_form operands.read_word operands.read_list operands.read_hash operands.read_group operands.negative_by operands.read_mark operands.literal_by operands.primary_by operands.read_primary operands.read_call operands.end_index operands.read_index operands.path_at operands.postfix_at operands.postfixes operands.read_postfix statements.read_value statements.set_by statements.command_by statements.unassigned statements.start_by statements.read_unset statements.read_settable statements.read_arg statements.read_values statements.read_command statements.read_assigned_value statements.read_test statements.tests statements.read_expr statements.read_head statements.modifiers_from statements.read_stmt statements.stmt_list statements.read_stmts statements.readers reading.judged reading.stop_line reading.reading_of scanned.front_of_text scanned.scanned_of stops.front_behind stops.front_from stops.front_of stops.class_header stops.module_header stops.method_header stops.header_at stops.line_or stops.stop_behind stops.stops_from stops.stops_at digits is_utf8 chars lib.Utf8.encode
computed reader input = record { prelude = refl; run = refl; pool = refl; one_kind = refl; sum = refl }

pub prelude_is_read : reading.reading_of prelude_text ≡ reading.tree prelude_tree
prelude_is_read = (computed folder_reader []).prelude

pub prelude_of_text_is : prelude_of_text ≡ prelude_tree
prelude_of_text_is = ap tree_or_nowhere prelude_is_read

module _ (reader : DataReader) (input : Bytes) where
  abbrev here : Computed reader input
  here = computed reader input

  run_over : (source : SourceTree) (es : List (Bytes × Item)) → ((path : Bytes) → finite.get source path ≡ finite.find (slice_cmp nat_cmp) path es)
      → (p : Program) → plain_run_of reader source p ≡ plain_run (listed reader es) prelude_tree p
  run_over source es h p = ap (λ fs. plain_run fs prelude_of_text p) (same_files reader source es h) ∙ ap (λ t. plain_run (listed reader es) t p) prelude_of_text_is

  answer_run : answer_to reader two_files input (run_file run_plan) ≡ answer_of_two_files
  answer_run = ap answer_of_run (run_over two_files two_entries (λ path. finite.get-from_sorted (slice_cmp nat_cmp) two_entries path tt) (program_of run_plan input)) ∙ here.run

  answer_work : (source : SourceTree) → answer_to reader source input (workload 1) ≡ just_writes (workload_lines 1 (codes "405\n"))
  answer_work source =
      ap (λ a. just_writes (workload_lines 1 a.output)) (run_over (workload_tree 1) (workload_entries 1) (finite.get-from_entries nat_list_cmp_total (workload_entries 1)) workload_program)
      ∙ ap (λ f. just_writes (workload_lines 1 f)) here.sum

answer_pool : (input : Bytes) (p : PoolPlan) → answer_to folder_reader folder_tree input (precompile p) ≡ just_writes (report p)
answer_pool input p =
    ap (λ es. just_writes (report_text (files_of folder_reader folder_tree) (jobs_in p.kinds p.folders es))) (finite.entries-from_sorted (slice_cmp nat_cmp) folder_entries tt)
    ∙ ap (λ fs. just_writes (report_text fs (jobs_in p.kinds p.folders folder_entries)))
    (same_files folder_reader folder_tree folder_entries (λ path. finite.get-from_sorted (slice_cmp nat_cmp) folder_entries path tt))

pub whole : (reader : DataReader) (input : Bytes) → WholeAnswers reader input
unfolding digits is_utf8 chars lib.Utf8.encode
whole reader input = record {
  of_a_bad_word = λ source. refl;
  of_a_run = answer_run reader input;
  of_a_pool = answer_pool input pool_plan ∙ ap just_writes (computed reader input).pool;
  of_one_kind = answer_pool input kind_plan ∙ ap just_writes (computed reader input).one_kind;
  of_a_workload = answer_work reader input;
}

-- A bad word has this answer alone.
module _ (reads_data : ReadsData) (source : SourceTree) (input : Bytes) where
  abbrev Alone : Plan → Answer → Type 0
  Alone plan answer = (k : ℕ) → plan ≡ bad k → answer ≡ usage_answer k

  abbrev place_in : Plan → ℕ
  place_in (run_file p) = 0
  place_in (precompile p) = 0
  place_in (workload n) = 0
  place_in (bad k) = k

  abbrev is_bad : Plan → Type 0
  is_bad (run_file p) = ⊥
  is_bad (precompile p) = ⊥
  is_bad (workload n) = ⊥
  is_bad (bad k) = ⊤

  alone : {plan : Plan} {answer : Answer} → IsAnswerTo reads_data source input plan answer → Alone plan answer
  alone (to_bad {k = j}) k e = ap usage_answer (ap place_in e)
  alone (to_run {p = p} r) k e = absurd (subst is_bad (sym e) tt)
  alone (to_precompile {p = p} files r) k e = absurd (subst is_bad (sym e) tt)
  alone (to_workload {n = n} r) k e = absurd (subst is_bad (sym e) tt)

pub bad_is_alone : (reads_data : ReadsData) (source : SourceTree) (words : List Bytes) (input : Bytes) (k : ℕ) (answer : Answer) → plan_of words ≡ bad k → IsAnswerTo reads_data source input (plan_of words) answer → answer ≡ usage_answer k
bad_is_alone reads_data source words input k answer e a = alone reads_data source input a k e
