-- The files of a source tree, the tree of the prelude, and the answer to a source tree, words and input are one.
use Rattle.std.proofs.Common.{◌≡◌, ℕ, refl, sym, ◌∙◌, ap, subst, Option, Some, None, List}
use Rattle.std.specs.Prelude.{◌↔◌, Result}
use Rattle.bs_outside.specs.SourceTree.{SourceTree, bytes_at}
use Rattle.msgpack_codec.specs.declared.value.DataKind.{DataKind}
use Rattle.msgpack_codec.specs.declared.value.Value.{Value}
use Rattle.ruby_tree.specs.Names.{Bytes}
use Rattle.ruby_tree.specs.Tree.{Tree}
use Rattle.reference_parser.specs.ReadingOf.{Reading, tree, fault, reading_of}
use Rattle.reference_laws.proofs.ReadingOne.{is_read as reading_is, read_only}
use Rattle.ruby_meaning.specs.Files.{Files, RubyFile, DataFile}
use Rattle.ruby_meaning.specs.FilesOf.{DataReader, ReadsData, reads_by, as_data_file, data_file_of, IsDataFile, no_data, has_data, as_ruby_file, ruby_file_of, IsRubyFile, not_there, has_fault, has_tree, AreFilesOf, files_of}
use Rattle.ruby_meaning.specs.Prelude.{prelude_text}
use Rattle.ruby_meaning.specs.PreludeTree.{prelude_tree}
use Rattle.ruby_meaning.specs.PlainRun.{Program, PlainAnswer, plain_run, IsPrelude, is_read, is_unread, IsPlainRun, tree_or_nowhere, prelude_of_text, plain_run_of}
use Rattle.ruby_meaning.specs.Words.{Plan, run_file, precompile, workload, bad, plan_of}
use Rattle.ruby_meaning.specs.AnswerOf.{Answer, answer_of_run, workload_lines, workload_program, workload_tree, report_text, just_writes, jobs_of, program_of, IsAnswerTo, to_bad, to_run, to_precompile, to_workload, IsAnswer, answer_to, answer_for}
use Rattle.ruby_meaning.proofs.WordRows.{prelude_is_read, prelude_of_text_is}

-- Files.

-- no text is read in two ways
abbrev ReadsInOneWay : ReadsData → Type 0
ReadsInOneWay reads_data = (kind : DataKind) (f : Bytes) (r s : Result Value ℕ) → reads_data kind f r → reads_data kind f s → r ≡ s

data_one : (reads : Bytes → Result Value ℕ → Type 0) → ((f : Bytes) (r s : Result Value ℕ) → reads f r → reads f s → r ≡ s)
    → {contents : Option Bytes} {d e : DataFile} → IsDataFile reads contents d → IsDataFile reads contents e → d ≡ e
data_one reads same no_data no_data = refl
data_one reads same (has_data {f = f} {r = r} a) (has_data {r = s} b) = ap as_data_file (same f r s a b)

ruby_read : (f : Bytes) (x : Reading) → reading_of f ≡ x → IsRubyFile (Some f) (as_ruby_file x)
ruby_read f (tree t) e = has_tree (reading_is f (tree t) e)
ruby_read f (fault line) e = has_fault (reading_is f (fault line) e)

ruby_is : (contents : Option Bytes) → IsRubyFile contents (ruby_file_of contents)
ruby_is None = not_there
ruby_is (Some f) = ruby_read f (reading_of f) refl

ruby_only : {contents : Option Bytes} {r : RubyFile} → IsRubyFile contents r → r ≡ ruby_file_of contents
ruby_only not_there = refl
ruby_only (has_fault {f = f} {line = line} h) = ap as_ruby_file (sym (read_only f (fault line) h))
ruby_only (has_tree {f = f} {t = t} h) = ap as_ruby_file (sym (read_only f (tree t) h))

data_is : (reader : DataReader) (kind : DataKind) (contents : Option Bytes) → IsDataFile (reads_by reader kind) contents (data_file_of (reader kind) contents)
data_is reader kind None = no_data
data_is reader kind (Some f) = has_data refl

pub files_are : (reader : DataReader) (source : SourceTree) → AreFilesOf (reads_by reader) source (files_of reader source)
files_are reader source = record {
  found = λ path. refl;
  ruby = λ path. ruby_is (bytes_at source path);
  data_files = λ kind path. data_is reader kind (bytes_at source path);
}

-- The prelude.

pub is_prelude : IsPrelude prelude_tree
is_prelude = is_read (reading_is prelude_text (tree prelude_tree) prelude_is_read)

prelude_one : {t : Tree} → IsPrelude t → t ≡ prelude_tree
prelude_one (is_read {t = t} h) = ap tree_or_nowhere (sym (read_only prelude_text (tree t) h) ∙ prelude_is_read)
prelude_one (is_unread h) = absurd (h prelude_tree (reading_is prelude_text (tree prelude_tree) prelude_is_read))

pub preludes : (t : Tree) → IsPrelude t ↔ (t ≡ prelude_tree)
preludes t = (prelude_one, λ e. subst IsPrelude (sym e) is_prelude)

-- Runs and answers.

module _ (reads_data : ReadsData) (one : ReadsInOneWay reads_data) where
  files_one : (source : SourceTree) (files others : Files) → AreFilesOf reads_data source files → AreFilesOf reads_data source others → files ≡ others
  files_one source files others a b i = record {
    is_file = λ path. (a.found path ∙ sym (b.found path)) i;
    ruby = λ path. (ruby_only (a.ruby path) ∙ sym (ruby_only (b.ruby path))) i;
    datum = λ kind path. data_one (reads_data kind) (one kind) (a.data_files kind path) (b.data_files kind path) i;
  }

  run_one : (source : SourceTree) (p : Program) (a b : PlainAnswer) → IsPlainRun reads_data source p a → IsPlainRun reads_data source p b → a ≡ b
  run_one source p a b r s =
      sym r.runs ∙ ap (λ fs. plain_run fs r.prelude p) (files_one source r.files s.files r.are_files s.are_files)
      ∙ ap (λ t. plain_run s.files t p) (prelude_one r.is_prelude ∙ sym (prelude_one s.is_prelude)) ∙ s.runs

  answer_one : (source : SourceTree) (input : Bytes) {plan : Plan} {a b : Answer} → IsAnswerTo reads_data source input plan a → IsAnswerTo reads_data source input plan b → a ≡ b
  answer_one source input to_bad to_bad = refl
  answer_one source input (to_run {p = p} {a = a} r) (to_run {a = b} s) = ap answer_of_run (run_one source (program_of p input) a b r s)
  answer_one source input (to_precompile {p = p} files r) (to_precompile others s) = ap (λ fs. just_writes (report_text fs (jobs_of source p))) (files_one source files others r s)
  answer_one source input (to_workload {n = n} {a = a} r) (to_workload {a = b} s) =
      ap (λ x. just_writes (workload_lines n x.output)) (run_one (workload_tree n) workload_program a b r s)

run_is : (reader : DataReader) (source : SourceTree) (p : Program) → IsPlainRun (reads_by reader) source p (plain_run_of reader source p)
run_is reader source p = record {
  files = files_of reader source;
  prelude = prelude_of_text;
  are_files = files_are reader source;
  is_prelude = subst IsPrelude (sym prelude_of_text_is) is_prelude;
  runs = refl;
}

answer_is : (reader : DataReader) (source : SourceTree) (input : Bytes) (plan : Plan) → IsAnswerTo (reads_by reader) source input plan (answer_to reader source input plan)
answer_is reader source input (bad k) = to_bad
answer_is reader source input (run_file p) = to_run (run_is reader source (program_of p input))
answer_is reader source input (precompile p) = to_precompile (files_of reader source) (files_are reader source)
answer_is reader source input (workload n) = to_workload (run_is reader (workload_tree n) workload_program)

-- Where data is read by a function.
module _ (reader : DataReader) where
  by_function : ReadsInOneWay (reads_by reader)
  by_function kind f r s a b = sym a ∙ b

  pub files_same : (source : SourceTree) (files : Files) → AreFilesOf (reads_by reader) source files ↔ (files ≡ files_of reader source)
  files_same source files =
      (λ a. files_one (reads_by reader) by_function source files (files_of reader source) a (files_are reader source), λ e. subst (AreFilesOf (reads_by reader) source) (sym e) (files_are reader source))

  pub run_same : (source : SourceTree) (p : Program) (answer : PlainAnswer) → IsPlainRun (reads_by reader) source p answer ↔ (answer ≡ plain_run_of reader source p)
  run_same source p answer =
      (λ a. run_one (reads_by reader) by_function source p answer (plain_run_of reader source p) a (run_is reader source p), λ e. subst (IsPlainRun (reads_by reader) source p) (sym e) (run_is reader source p))

  pub answer_same : (source : SourceTree) (words : List Bytes) (input : Bytes) (answer : Answer) → IsAnswer (reads_by reader) source words input answer ↔ (answer ≡ answer_for reader source words input)
  answer_same source words input answer =
      (λ a. answer_one (reads_by reader) by_function source input a (answer_is reader source input (plan_of words)), λ e. subst (IsAnswer (reads_by reader) source words input) (sym e) (answer_is reader source input (plan_of words)))
