-- The answer of what a fetch gave.
use Rattle.std.proofs.Common.{◌≡◌, ℕ, List, [], Option, Some, None, refl, sym, ap, subst}
use Rattle.bs_outside.specs.SourceTree.{SourceTree, bytes_at}
use Rattle.iseq_types.specs.declared.sequences.Unit.{Unit as CompiledUnit}
use Rattle.reference_parser.specs.ReadingOf.{Reading, reading_of}
use Rattle.reference_parser.specs.ReadingOf as reading
use Rattle.small_form.specs.SmallForm.{small_of}
use Rattle.small_form.specs.declared.tree.SmallFile.{SmallFile}
use Rattle.cache_meaning.specs.SmallUnit.{unit_of}
use Rattle.compile_cache.specs.Fetching.{got_of_small, got_by, got_of_found, got_of}
use Rattle.compile_cache.specs.declared.fetched.FetchResult.TheVariants as got
use Rattle.compile_cache.proofs.Files.{got_unit}
use Rattle.bootsnap_top.specs.Answer.{answer_of_program, answer_of_reading, answer_of_file, missing_text, syntax_text}
use Rattle.bootsnap_top.specs.SmallRun.{Answer}
use Rattle.bootsnap_top.specs.Machine.{not_yet}
use Rattle.bootsnap_top.specs.declared.ending.Ending.TheVariants as ending

-- what a text that has no tree is answered with
abbrev pub syntax_answer : List ℕ → ℕ → Answer
syntax_answer path line = record { output = []; errors = syntax_text path line; ending = ending.Exit 1 }

-- ---- small files

small_no_fault : (path : List ℕ) (o : Option SmallFile) (line : ℕ) → got.Fault line ≡ got_of_small path o → ⊥
small_no_fault path None line is = absurd cc
small_no_fault path (Some file) line is = absurd cc

small_not_yet : (path : List ℕ) (o : Option SmallFile) → got.NotYet ≡ got_of_small path o → answer_of_program path o ≡ not_yet
small_not_yet path None is = refl
small_not_yet path (Some file) is = absurd cc

small_there : (path : List ℕ) (o : Option SmallFile) → got.Gone ≡ got_of_small path o → ⊥
small_there path None is = absurd cc
small_there path (Some file) is = absurd cc

-- ---- readings

same_line : {a b : ℕ} → got.Fault a ≡ got.Fault b → a ≡ b
same_line is = cc

fault_read : (path : List ℕ) (r : Reading) (line : ℕ) → got.Fault line ≡ got_by path r → answer_of_reading path r ≡ syntax_answer path line
fault_read path (reading.fault other) line is = ap (syntax_answer path) (sym (same_line is))
fault_read path (reading.tree t) line is = absurd (small_no_fault path (small_of t) line is)

not_yet_read : (path : List ℕ) (r : Reading) → got.NotYet ≡ got_by path r → answer_of_reading path r ≡ not_yet
not_yet_read path (reading.fault line) is = absurd cc
not_yet_read path (reading.tree t) is = small_not_yet path (small_of t) is

read_there : (path : List ℕ) (r : Reading) → got.Gone ≡ got_by path r → ⊥
read_there path (reading.fault line) is = absurd cc
read_there path (reading.tree t) is = small_there path (small_of t) is

-- ---- files

-- the unit is that of the text that stands there
pub record UnitOfFile (path : List ℕ) (found : Option (List ℕ)) (u : CompiledUnit) : Type 0 where
  pub text : List ℕ
  pub stands : found ≡ Some text
  pub unit : unit_of path text ≡ Some u

whole_found : (path : List ℕ) (found : Option (List ℕ)) (u : CompiledUnit) → got.Whole u ≡ got_of_found path found → UnitOfFile path found u
whole_found path None u is = absurd cc
whole_found path (Some text) u is = record { text = text; stands = refl; unit = got_unit path text u is }

fault_found : (path : List ℕ) (found : Option (List ℕ)) (line : ℕ) → got.Fault line ≡ got_of_found path found → answer_of_file path found ≡ syntax_answer path line
fault_found path None line is = absurd cc
fault_found path (Some text) line is = fault_read path (reading_of text) line is

not_yet_found : (path : List ℕ) (found : Option (List ℕ)) → got.NotYet ≡ got_of_found path found → answer_of_file path found ≡ not_yet
not_yet_found path None is = absurd cc
not_yet_found path (Some text) is = not_yet_read path (reading_of text) is

gone_found : (path : List ℕ) (found : Option (List ℕ)) → got.Gone ≡ got_of_found path found → answer_of_file path found ≡ record { output = []; errors = missing_text path; ending = ending.Exit 1 }
gone_found path None is = refl
gone_found path (Some text) is = absurd (read_there path (reading_of text) is)

pub whole_got : (m : SourceTree) (path : List ℕ) (u : CompiledUnit) → got.Whole u ≡ got_of m path → UnitOfFile path (bytes_at m path) u
whole_got m path u is = whole_found path (bytes_at m path) u is

-- what holds of each text that has the unit holds of the file
pub of_whole : (m : SourceTree) (path : List ℕ) (u : CompiledUnit) (P : Answer → Type 0) → got.Whole u ≡ got_of m path
    → ((text : List ℕ) → unit_of path text ≡ Some u → P (answer_of_file path (Some text))) → P (answer_of_file path (bytes_at m path))
of_whole m path u P is holds =
    let unit = whole_got m path u is in
    subst (λ (o : Option (List ℕ)). P (answer_of_file path o)) (sym unit.stands) (holds unit.text unit.unit)

pub fault_got : (m : SourceTree) (path : List ℕ) (line : ℕ) → got.Fault line ≡ got_of m path → answer_of_file path (bytes_at m path) ≡ syntax_answer path line
fault_got m path line is = fault_found path (bytes_at m path) line is

pub not_yet_got : (m : SourceTree) (path : List ℕ) → got.NotYet ≡ got_of m path → answer_of_file path (bytes_at m path) ≡ not_yet
not_yet_got m path is = not_yet_found path (bytes_at m path) is

pub gone_got : (m : SourceTree) (path : List ℕ) → got.Gone ≡ got_of m path → answer_of_file path (bytes_at m path) ≡ record { output = []; errors = missing_text path; ending = ending.Exit 1 }
gone_got m path is = gone_found path (bytes_at m path) is

pub ruleset got_rules = (whole_got, fault_got, not_yet_got, gone_got)
