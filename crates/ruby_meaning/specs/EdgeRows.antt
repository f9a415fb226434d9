-- Small programs as texts, and what their plain runs leave. Each stands for one sentence of the definitions that no other row would notice.
use Rattle.std.specs.Prelude.{◌≡◌, ℕ, ◌+◌, Bool, true, false, cond, List, [], ◌∷◌, codes}
use Rattle.ruby_lexer.specs.Bytes.{same}
use Rattle.ruby_tree.specs.Names.{Bytes}
use Rattle.reference_parser.specs.ReadingOf.{reading_of}
use Rattle.ruby_meaning.specs.World.{loaded, entered, ruby_file, world_of}
use Rattle.ruby_meaning.specs.Files.{Files, RubyFile, no_ruby, no_data_file}
use Rattle.ruby_meaning.specs.FilesOf.{as_ruby_file}
use Rattle.ruby_meaning.specs.PreludeTree.{prelude_tree}
use Rattle.ruby_meaning.specs.PlainRun.{exit, turns_spent, PlainAnswer, start_world, program_run, plain_run}
use Rattle.ruby_meaning.specs.Rows.{main, Shown, shows, shown}

abbrev pub has_text : Bytes → List (Bytes × Bytes) → Bool
has_text path [] = false
has_text path (f ∷ fs) = cond (same path f.0) true (has_text path fs)

abbrev pub read_at : Bytes → List (Bytes × Bytes) → RubyFile
read_at path [] = no_ruby
read_at path (f ∷ fs) = cond (same path f.0) (as_ruby_file (reading_of f.1)) (read_at path fs)

-- Ruby files with these texts, and nothing else
abbrev pub texts : List (Bytes × Bytes) → Files
texts fs = record { is_file = λ path. has_text path fs; ruby = λ path. read_at path fs; datum = λ kind path. no_data_file }

-- `/main.rb` with this text, and an empty `/lib/a.rb`
abbrev pub with_main : Bytes → Files
with_main f = texts ((codes "/main.rb", f) ∷ (codes "/lib/a.rb", []) ∷ [])

-- what the run of `/main.rb` with this text leaves, in so many turns
abbrev pub answer_in : ℕ → Bytes → PlainAnswer
answer_in turns f = plain_run (with_main f) prelude_tree (main turns (codes "line\n"))

abbrev pub shown_in : ℕ → Bytes → Shown
shown_in turns f = shown (answer_in turns f)

-- the same in 1,000 turns
abbrev pub leaves : Bytes → Shown
leaves = shown_in 1000

-- the cells that are used when the program has ended
abbrev pub cells_in : Bytes → ℕ
cells_in f = (world_of (program_run (with_main f) prelude_tree (main 1000 []) (start_world (main 1000 [])))).cells

pub record EdgeRows : Type 0 where
  -- The targets of a multiple assignment are set in order: `a` has its value where `$0` is refused.
  pub targets_in_order : leaves (codes "begin\n  a, $0 = 1, 2\nrescue NameError => e\n  p a\n  puts e.message\nend\n") ≡ shows (codes "1\n$0 is a read-only variable\n") [] (exit 0) []
  -- an ensure part's value counts for nothing
  pub ensured_value : leaves (codes "p((begin; 1; ensure; 2; end))\n") ≡ shows (codes "1\n") [] (exit 0) []
  -- the value of an attribute's assignment is what was assigned
  pub attribute_value : leaves (codes "class C\n  def x=(v) 9 end\nend\nc = C.new\np(c.x = 5)\n") ≡ shows (codes "5\n") [] (exit 0) []
  -- a frozen object takes no variable
  pub frozen_variable : leaves (codes "class C\n  def set() @a = 1 end\nend\nc = C.new\nc.freeze\nbegin\n  c.set\nrescue FrozenError => e\n  puts e.message\nend\n") ≡ shows (codes "can't modify frozen C\n") [] (exit 0) []
  -- an exception that is raised again keeps its place
  pub first_place : leaves (codes "begin\n  raise \"a\"\nrescue => e\nend\nraise e\n") ≡ shows [] (codes "/main.rb:2: a (RuntimeError)\n") (exit 1) []
  -- a class in a module is another one than Object's of that name
  pub class_in_a_module : leaves (codes "module M\n  class String\n    def hi() \"M\" end\n  end\nend\np M::String.name\np \"x\".respond_to?(:hi)\np M::String.new.hi\n") ≡ shows (codes "\"M::String\"\nfalse\n\"M\"\n") [] (exit 0) []
  -- a module makes no objects
  pub new_of_a_module : leaves (codes "module M\nend\nM.new\n") ≡ shows [] (codes "/main.rb:3: undefined method new for Module (NoMethodError)\n") (exit 1) []
  -- a Proc that is given as a block is bound as it is
  pub given_proc : leaves (codes "def f(&b) b end\nq = proc { 1 }\np f(&q) == q\np f { 1 } == q\n") ≡ shows (codes "true\nfalse\n") [] (exit 0) []
  -- what goes wrong in a block that the prelude calls has its place in the block
  pub place_in_a_block : leaves (codes "[0].each do |x|\n  1 / x\nend\n") ≡ shows [] (codes "/main.rb:2: divided by 0 (ZeroDivisionError)\n") (exit 1) []
  pub raised_in_a_block : leaves (codes "[0].map do |x|\n  raise \"b\"\nend\n") ≡ shows [] (codes "/main.rb:2: b (RuntimeError)\n") (exit 1) []
  -- what goes wrong in a block of the prelude's own has its place where the prelude was called
  pub place_outside : leaves (codes "x = 1\n[1].sum(\"a\")\n") ≡ shows [] (codes "/main.rb:2: no implicit conversion of Integer into String (TypeError)\n") (exit 1) []
  -- The `===` of a case stands for no token: it has the first line of the method or the block.
  pub case_in_a_method : leaves (codes "class K\n  def ===() 1 end\nend\ndef f(x)\n  y = x\n  case y\n  when K.new\n    1\n  end\nend\nf(1)\n") ≡ shows [] (codes "/main.rb:4: wrong number of arguments (given 1, expected 0) (ArgumentError)\n") (exit 1) []
  pub case_in_a_block : leaves (codes "class K\n  def ===() 1 end\nend\nx = 1\n[1].each do |y|\n  z = y\n  case z\n  when K.new\n    1\n  end\nend\n") ≡ shows [] (codes "/main.rb:5: wrong number of arguments (given 1, expected 0) (ArgumentError)\n") (exit 1) []
  -- A loop whose condition follows its body pays a turn only where it begins again.
  pub body_once : shown_in 1 (codes "begin\nend while false\n") ≡ shows [] [] (exit 0) []
  pub body_twice : shown_in 2 (codes "i = 0\nbegin\n  i += 1\nend while i < 2\n") ≡ shows [] [] (exit 0) []
  pub no_second_turn : shown_in 1 (codes "i = 0\nbegin\n  i += 1\nend while i < 2\n") ≡ shows [] [] turns_spent []
  -- a variable, a global and a constant cost a cell when they are set first
  pub set_once : cells_in (codes "@a = 1\n$g = 1\nX = 1\n") ≡ 3 + cells_in []
  pub set_twice : cells_in (codes "@a = 1\n$g = 1\nX = 1\n@a = 2\n$g = 2\nX = 2\n") ≡ 3 + cells_in []
  -- The String of a feature is made before the frozen list refuses it: 2 for `"a"`, 1 for the file's locals, 2 for the path, 5 for the exception.
  pub frozen_list : cells_in (codes "$LOADED_FEATURES.freeze\nbegin\n  require \"a\"\nrescue FrozenError\nend\n") ≡ 10 + cells_in []
  -- a method's body is entered before its arguments are counted
  pub entered_first : (answer_in 1000 (codes "def f(x) end\nf\n")).trace ≡ loaded ruby_file (codes "/main.rb") ∷ entered 0 0 ∷ entered 0 1 ∷ []
  -- a status above 199 is 1
  pub status_too_large : leaves (codes "class SystemExit\n  def set() @__status = 200 end\nend\ne = SystemExit.new(3)\ne.set\nraise e\n") ≡ shows [] [] (exit 1) []
  pub greatest_status : leaves (codes "class SystemExit\n  def set() @__status = 199 end\nend\ne = SystemExit.new(3)\ne.set\nraise e\n") ≡ shows [] [] (exit 199) []
  -- an exception without a message is called as its class is
  pub no_message : leaves (codes "class E < StandardError\n  def initialize() end\nend\nraise E\n") ≡ shows [] (codes "/main.rb:4: E (E)\n") (exit 1) []
  -- whether the input was asked for
  pub asked_for_input : (answer_in 1000 (codes "gets\n")).has_asked ≡ true
  pub no_input_asked : (answer_in 1000 (codes "1\n")).has_asked ≡ false
