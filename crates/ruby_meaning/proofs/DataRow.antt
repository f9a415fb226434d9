-- The program that loads a data file: the value of the file is made, and the run goes on with it.
use Rattle.std.proofs.Common.{◌≡◌, ℤ, pos, false, refl, sym, ◌∙◌, ap, List, [], ◌∷◌, map, None, codes}
use Rattle.std.specs.Fmt.{digits}
use Rattle.std.specs.Str.{is_utf8, chars}
use Rattle.msgpack_codec.specs.declared.value.DataKind.TheVariants as data_kind
use Rattle.msgpack_codec.specs.declared.value.Value as message
use Rattle.msgpack_codec.specs.declared.value.Value.TheVariants as datum
use Rattle.msgpack_codec.specs.declared.value.Value.TheOpen.{Value-F}
use Rattle.msgpack_codec.specs.declared.value.Value.TheFolds.{fold-roll-Value}
use Rattle.ruby_tree.specs.Names.{Bytes}
use Rattle.ruby_tree.specs.Tree.{Tree, constant_path, send, text, more, no_more, with, without}
use Rattle.ruby_meaning.specs.Node.{node}
use Rattle.ruby_meaning.specs.Value.{Value}
use Rattle.ruby_meaning.specs.World.{data_file, no_block, loaded, World, Frame, Outcome, Done, Run}
use Rattle.ruby_meaning.specs.Steps.{then, changing, pay, charge}
use Rattle.ruby_meaning.specs.Calls.{with_step}
use Rattle.ruby_meaning.specs.Files.{Files}
use Rattle.ruby_meaning.specs.Loads.{Making, make_layer, make_datum, file_body, file_code, run_code, load_ruby}
use Rattle.ruby_meaning.specs.Evaluation.{run, eval, send_with}
use Rattle.ruby_meaning.specs.PreludeTree.{prelude_tree}
use Rattle.ruby_meaning.specs.PlainRun.{Program, start_cells, start_world, with_turns, top_frame, exit, answer_of}
use Rattle.ruby_meaning.specs.Rows.{shown, shows, main, data_files, data_tree, data_row}

-- The value of the file.

made-Int : (i : ℤ) → make_datum (datum.Int i) ≡ make_layer (Value-F.Int i)
unfolding make_datum
made-Int i = ap make_datum (sym (datum.rolls-Int i)) ∙ fold-roll-Value Making make_layer (Value-F.Int i)

made-Str : (f : Bytes) → make_datum (datum.Str f) ≡ make_layer (Value-F.Str f)
unfolding make_datum
made-Str f = ap make_datum (sym (datum.rolls-Str f)) ∙ fold-roll-Value Making make_layer (Value-F.Str f)

made-Sym : (f : Bytes) → make_datum (datum.Sym f) ≡ make_layer (Value-F.Sym f)
unfolding make_datum
made-Sym f = ap make_datum (sym (datum.rolls-Sym f)) ∙ fold-roll-Value Making make_layer (Value-F.Sym f)

made-List : (all : List message.Value) → make_datum (datum.List all) ≡ make_layer (Value-F.List (map make_datum all))
unfolding make_datum
made-List all = ap make_datum (sym (datum.rolls-List all)) ∙ fold-roll-Value Making make_layer (Value-F.List all)

abbrev made_pair : message.Value × message.Value → Making × Making
made_pair p = (make_datum p.0, make_datum p.1)

made-Map : (all : List (message.Value × message.Value)) → make_datum (datum.Map all) ≡ make_layer (Value-F.Map (map made_pair all))
unfolding make_datum
made-Map all = ap make_datum (sym (datum.rolls-Map all)) ∙ fold-roll-Value Making make_layer (Value-F.Map all)

abbrev one_and_s : List message.Value
one_and_s = datum.Int (pos 1) ∷ datum.Sym (codes "s") ∷ []

abbrev the_value : message.Value
the_value = datum.Map ((datum.Str (codes "a"), datum.List one_and_s) ∷ [])

abbrev the_making : Making
the_making = make_layer (Value-F.Map ((make_layer (Value-F.Str (codes "a")), make_layer (Value-F.List (make_layer (Value-F.Int (pos 1)) ∷ make_layer (Value-F.Sym (codes "s")) ∷ []))) ∷ []))

made : make_datum the_value ≡ the_making
made =
    made-Map ((datum.Str (codes "a"), datum.List one_and_s) ∷ [])
    ∙ (λ i. make_layer (Value-F.Map ((made-Str (codes "a") i, made-List one_and_s i) ∷ [])))
    ∙ (λ i. make_layer (Value-F.Map ((make_layer (Value-F.Str (codes "a")), make_layer (Value-F.List (made-Int (pos 1) i ∷ made-Sym (codes "s") i ∷ []))) ∷ [])))

-- The run of the program, where the value of the file is made so.

abbrev files : Files
files = data_files data_tree

abbrev loads : Making → Frame → Run
loads m frame =
    then (run files 1000 (eval files 999) (node 1 1 2 (constant_path without false (codes "YAML" ∷ []))) frame) (λ self.
    then (run files 1000 (eval files 999) (node 1 1 17 (text (codes "c.yml"))) frame) (λ name.
    pay (changing (with_step (loaded (data_file data_kind.Yaml) (codes "/c.yml"))) (m Done))))

abbrev arg : Tree
arg = node 1 1 2 (send (with (node 1 1 2 (constant_path without false (codes "YAML" ∷ [])))) (more (node 1 1 17 (text (codes "c.yml"))) no_more) [] without (codes "load_file") false without)

abbrev shows_value : Frame → Value → Run
shows_value frame v = send_with files 1000 (eval files 999) frame 1 frame.self_value (codes "p") [] (v ∷ []) false frame no_block

abbrev program : Program
program = main 1000 []

abbrev body_here : Tree
body_here = file_body data_tree

-- what the body of the file does
opened : (frame : Frame) (w : World) → eval files 1000 body_here frame w ≡ then (then (run files 1000 (eval files 999) arg frame) (shows_value frame)) Done w
opened frame w = refl

abbrev loaded_by : (Frame → Run) → Run
loaded_by go = load_ruby files (λ t. go) top_frame 0 (codes "/main.rb")

only_body : (w : World) → load_ruby files (eval files 1000) top_frame 0 (codes "/main.rb") w ≡ loaded_by (eval files 1000 body_here) w
only_body w = refl

abbrev program_with : (Frame → Run) → Outcome
program_with go =
    charge (start_cells program)
    (then (run_code files (eval files 0) top_frame 0 (file_code [] None prelude_tree)) (λ v.
    changing (with_turns 1000) (loaded_by go)))
    (start_world program)

arg_now : program_with (λ frame. then (then (run files 1000 (eval files 999) arg frame) (shows_value frame)) Done) ≡ program_with (λ frame. then (then (loads (make_datum the_value) frame) (shows_value frame)) Done)
unfolding digits is_utf8 chars lib.Utf8.encode
arg_now = refl

written : shown (answer_of (program_with (λ frame. then (then (loads the_making frame) (shows_value frame)) Done))) ≡ shows (123 ∷ 34 ∷ 97 ∷ 34 ∷ codes "=>[1, :s]}\n") [] (exit 0) []
unfolding digits is_utf8 chars lib.Utf8.encode
written = refl

pub data_row-holds : data_row
data_row-holds =
    ap (λ (go : Run). shown (answer_of (charge (start_cells program) (then (run_code files (eval files 0) top_frame 0 (file_code [] None prelude_tree)) (λ v. changing (with_turns 1000) go)) (start_world program)))) (λ i w. only_body w i)
    ∙ ap (λ (go : Frame → Run). shown (answer_of (program_with go))) (λ i frame w. opened frame w i)
    ∙ ap (λ o. shown (answer_of o)) arg_now
    ∙ ap (λ m. shown (answer_of (program_with (λ frame. then (then (loads m frame) (shows_value frame)) Done)))) made
    ∙ written
