-- The plain run of a program: the world of the start, the prelude, the program file, and how the run ends.
use Rattle.std.specs.Prelude.{◌≡◌, ℕ, zero, suc, ◌+◌, pos, Bool, true, false, cond, nat_eq, nat_le, List, [], ◌∷◌, ◌++◌, map, length, filter_map, Option, Some, None, codes}
use Rattle.bs_outside.specs.SourceTree.{SourceTree}
use Rattle.ruby_tree.specs.Names.{Bytes}
use Rattle.ruby_tree.specs.Tree.{Tree, at, statements, no_more}
use Rattle.ruby_tree.specs.Reading.{Reads}
use Rattle.reference_parser.specs.ReadingOf.{Reading, reading_of}
use Rattle.reference_parser.specs.ReadingOf as reading
use Rattle.ruby_meaning.specs.NativeName.{Native}
use Rattle.ruby_meaning.specs.Value.{Value, number, object, MethodRow, native, plain, elements, class_or_module, Object, Objects}
use Rattle.ruby_meaning.specs.Numbers.{object_class, module_class, exception, standard_error, script_error, runtime_error, name_error, index_error, arguments, system_exit}
use Rattle.ruby_meaning.specs.Store.{string_cells, array_cells, object_cells, name_cells, named, new_object, new_string, is_a, name_of_class_of, variables_at, Place, rows_of, class_rows_of}
use Rattle.ruby_meaning.specs.Natives.{native_rows}
use Rattle.ruby_meaning.specs.Files.{Files}
use Rattle.ruby_meaning.specs.FilesOf.{ReadsData, DataReader, AreFilesOf, files_of}
use Rattle.ruby_meaning.specs.World.{Step, World, Frame, Outcome, Done, Raise, Break, Next, Return, Retry, Spent, Full, Run, text_of, loaded_of}
use Rattle.ruby_meaning.specs.Steps.{then, changing, charge, message_name}
use Rattle.ruby_meaning.specs.Loads.{file_code, file_frame, run_code, load_ruby, fault_at}
use Rattle.ruby_meaning.specs.Evaluation.{eval}
use Rattle.ruby_meaning.specs.Prelude.{prelude_text}

-- What is run, by the words of the command: the folders of the load path, the path of the program file, the arguments, and the turns; and the
-- input.
pub record Program : Type 0 where
  pub folders : List Bytes
  pub file : Bytes
  pub words : List Bytes
  pub turns : ℕ
  pub input : Bytes

-- The start.

-- a class of the start: its name, whether it is a module, and its superclass
pub record StartClass : Type 0 where
  pub name : Bytes
  pub is_module : Bool
  pub superclass : Option ℕ

abbrev pub below : Bytes → ℕ → StartClass
below x c = record { name = x; is_module = false; superclass = Some c }

abbrev pub a_module : Bytes → StartClass
a_module x = record { name = x; is_module = true; superclass = None }

-- the classes of the start, in the order of their numbers
abbrev pub start_classes : List StartClass
start_classes =
    record { name = codes "Object"; is_module = false; superclass = None } ∷
    below (codes "Module") object_class ∷
    below (codes "Class") module_class ∷
    below (codes "NilClass") object_class ∷
    below (codes "TrueClass") object_class ∷
    below (codes "FalseClass") object_class ∷
    below (codes "Integer") object_class ∷
    below (codes "String") object_class ∷
    below (codes "Symbol") object_class ∷
    below (codes "Array") object_class ∷
    below (codes "Hash") object_class ∷
    below (codes "Range") object_class ∷
    below (codes "Proc") object_class ∷
    below (codes "Exception") object_class ∷
    below (codes "StandardError") exception ∷
    below (codes "ScriptError") exception ∷
    below (codes "SystemExit") exception ∷
    below (codes "SystemStackError") exception ∷
    below (codes "LoadError") script_error ∷
    below (codes "SyntaxError") script_error ∷
    below (codes "ArgumentError") standard_error ∷
    below (codes "IndexError") standard_error ∷
    below (codes "LocalJumpError") standard_error ∷
    below (codes "NameError") standard_error ∷
    below (codes "RangeError") standard_error ∷
    below (codes "RuntimeError") standard_error ∷
    below (codes "TypeError") standard_error ∷
    below (codes "ZeroDivisionError") standard_error ∷
    below (codes "KeyError") index_error ∷
    below (codes "NoMethodError") name_error ∷
    below (codes "FrozenError") runtime_error ∷
    a_module (codes "YAML") ∷
    a_module (codes "JSON") ∷
    []

abbrev pub is_rows_of : ℕ → Place → Bool
is_rows_of c (rows_of d) = nat_eq c d
is_rows_of c (class_rows_of d) = false

abbrev pub is_class_rows_of : ℕ → Place → Bool
is_class_rows_of c (rows_of d) = false
is_class_rows_of c (class_rows_of d) = nat_eq c d

abbrev pub row_if : Bool → Bytes → Native → Option MethodRow
row_if true x n = Some (record { name = x; body = native n })
row_if false x n = None

-- the rows of natives at a class, and on it
abbrev pub row_here : ℕ → Place × Bytes × Native → Option MethodRow
row_here c r = row_if (is_rows_of c r.0) r.1 r.2

abbrev pub class_row_here : ℕ → Place × Bytes × Native → Option MethodRow
class_row_here c r = row_if (is_class_rows_of c r.0) r.1 r.2

-- each start class with its name and its number
abbrev pub numbered : ℕ → List StartClass → List (Bytes × Value)
numbered n [] = []
numbered n (c ∷ cs) = (c.name, object n) ∷ numbered (suc n) cs

-- The constants of Object: the classes, and ARGV. No other class has any.
abbrev pub start_constants : ℕ → List (Bytes × Value)
start_constants zero = numbered 0 start_classes ++ (codes "ARGV", object arguments) ∷ []
start_constants (suc n) = []

abbrev pub start_class : ℕ → StartClass → Object
start_class n c = new_object (class_or_module (record {
  name = c.name;
  is_module = c.is_module;
  superclass = c.superclass;
  modules = [];
  methods = filter_map (row_here n) native_rows;
  class_methods = filter_map (class_row_here n) native_rows;
  constants = start_constants n;
}))

abbrev pub start_objects : ℕ → List StartClass → Objects
start_objects n [] = []
start_objects n (c ∷ cs) = start_class n c ∷ start_objects (suc n) cs

-- the objects from this number on
abbrev pub numbers_from : ℕ → List Bytes → List Value
numbers_from n [] = []
numbers_from n (x ∷ xs) = object n ∷ numbers_from (suc n) xs

-- The store of the start: the classes, the main object, the Arrays of the load path, the features and ARGV, the String of `$0`, and the Strings of
-- the Arrays.
abbrev pub start_store : Program → Objects
start_store p =
    start_objects 0 start_classes ++
    (new_object (plain object_class) ∷
    new_object (elements (numbers_from 38 p.folders)) ∷
    new_object (elements []) ∷
    new_object (elements (numbers_from (38 + length p.folders) p.words)) ∷
    new_string p.file ∷
    (map new_string p.folders ++ map new_string p.words))

abbrev pub strings_cells : List Bytes → ℕ
strings_cells [] = 0
strings_cells (x ∷ xs) = string_cells (length x) + strings_cells xs

-- What this costs: the main object, the three Arrays with their Strings, the String of `$0`, and the constant ARGV.
abbrev pub start_cells : Program → ℕ
start_cells p = object_cells + (array_cells (length p.folders) + strings_cells p.folders) + array_cells 0 + (array_cells (length p.words) + strings_cells p.words) + string_cells (length p.file) + name_cells

abbrev pub start_world : Program → World
start_world p = record {
  turns = 0;
  cells = 0;
  depth = 0;
  objects = start_store p;
  environments = [];
  closures = [];
  globals = [];
  output = [];
  error_text = [];
  input = p.input;
  has_asked = false;
  loading = [];
  trace = [];
}

-- The frame from which the prelude and the program file are run: it stands nowhere.
abbrev pub nowhere : Tree
nowhere = at (record { first = 0; line = 0; place = 0 }) (statements no_more)

abbrev pub top_frame : Frame
top_frame = record (file_frame (file_code [] None nowhere) 0 None [] []) { running = [] }

abbrev pub with_turns : ℕ → World → World
with_turns n w = record w { turns = n }

-- The run of a program: what the start makes costs its cells; the prelude is run with no turn to spend; then the program file is loaded.
abbrev pub program_run : Files → Tree → Program → Run
program_run files prelude p =
    charge (start_cells p)
    (then (run_code files (eval files 0) top_frame 0 (file_code [] None prelude)) (λ v.
    changing (with_turns p.turns)
    (load_ruby files (eval files p.turns) top_frame 0 p.file)))

-- The end.

pub data Ending : Type 0 where
  exit : ℕ → Ending
  turns_spent : Ending
  store_full : Ending

-- What a run leaves: its output and its error text, its ending, the loaded features, its trace, and whether it asked for input.
pub record PlainAnswer : Type 0 where
  pub output : Bytes
  pub error_text : Bytes
  pub ending : Ending
  pub features : List Bytes
  pub trace : List Step
  pub has_asked : Bool

-- the status of an exit that was raised: 1 where it is no Integer from 0 to 199
abbrev pub status_of : Option Value → ℕ
status_of (Some (number (pos n))) = cond (nat_le n 199) n 1
status_of v = 1

abbrev pub text_or : Bytes → Option Bytes → Bytes
text_or x None = x
text_or x (Some f) = f

abbrev pub text_in_variable : Objects → Option Value → Option Bytes
text_in_variable store None = None
text_in_variable store (Some v) = text_of store v

-- the stored message where it is a String, else the name of the class
abbrev pub message_of : Objects → ℕ → Bytes
message_of store n = text_or (name_of_class_of store (object n)) (text_in_variable store (named message_name (variables_at store n)))

abbrev pub position_at : Objects → ℕ → Option (Bytes × ℕ)
position_at [] n = None
position_at (o ∷ store) zero = o.thrown_at
position_at (o ∷ store) (suc n) = position_at store n

-- `MESSAGE (CLASS)`, and before it `PATH:LINE: ` where the exception has a position
abbrev pub with_position : Option (Bytes × ℕ) → Bytes → Bytes
with_position None x = x
with_position (Some p) x = fault_at p.0 p.1 x

abbrev pub last_words : Objects → ℕ → Bytes
last_words store n =
    with_position (position_at store n) (message_of store n ++ (codes " (" ++ (name_of_class_of store (object n) ++ codes ")"))) ++ 10 ∷ []

abbrev pub answer_with : Bytes → Ending → World → PlainAnswer
answer_with said e w = record {
  output = w.output;
  error_text = w.error_text ++ said;
  ending = e;
  features = loaded_of w;
  trace = w.trace;
  has_asked = w.has_asked;
}

-- What was raised and nothing rescued: SystemExit gives its status, another exception its text and the status 1.
abbrev pub raised_answer : Value → World → PlainAnswer
raised_answer (object n) w =
    cond (is_a w.objects (object n) system_exit) (answer_with [] (exit (status_of (named (codes "@__status") (variables_at w.objects n)))) w)
    (answer_with (last_words w.objects n) (exit 1) w)
raised_answer v w = answer_with [] (exit 1) w

abbrev pub answer_of : Outcome → PlainAnswer
answer_of (Done v w) = answer_with [] (exit 0) w
answer_of (Raise v w) = raised_answer v w
answer_of (Break t v w) = answer_with [] (exit 1) w
answer_of (Next v w) = answer_with [] (exit 1) w
answer_of (Return n v w) = answer_with [] (exit 1) w
answer_of (Retry w) = answer_with [] (exit 1) w
answer_of (Spent w) = answer_with [] turns_spent w
answer_of (Full w) = answer_with [] store_full w

-- The plain run over files that are read, with the tree of the prelude.
abbrev pub plain_run : Files → Tree → Program → PlainAnswer
plain_run files prelude p = answer_of (program_run files prelude p (start_world p))

-- The plain run over a source tree.

-- The tree of the prelude: what its text is read as, or a tree without statements where it is read as none.
pub data IsPrelude : Tree → Type 0 where
  is_read : {t : Tree} → Reads prelude_text t → IsPrelude t
  is_unread : ((t : Tree) → Reads prelude_text t → ⊥) → IsPrelude nowhere

-- The answer is that of the plain run of the program over the source tree, whose data files are read so.
pub record IsPlainRun (reads_data : ReadsData) (source : SourceTree) (p : Program) (answer : PlainAnswer) : Type 0 where
  pub files : Files
  pub prelude : Tree
  pub are_files : AreFilesOf reads_data source files
  pub is_prelude : IsPrelude prelude
  pub runs : plain_run files prelude p ≡ answer

-- The same as functions.

abbrev pub tree_or_nowhere : Reading → Tree
tree_or_nowhere (reading.tree t) = t
tree_or_nowhere (reading.fault line) = nowhere

-- the tree of the prelude
abbrev pub prelude_of_text : Tree
prelude_of_text = tree_or_nowhere (reading_of prelude_text)

-- the plain run of the program over the source tree
abbrev pub plain_run_of : DataReader → SourceTree → Program → PlainAnswer
plain_run_of reader source p = plain_run (files_of reader source) prelude_of_text p
