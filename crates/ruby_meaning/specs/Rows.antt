-- Small programs, and what their plain runs leave. Each program stands as text in a comment, and as the tree of this text.
use Rattle.std.specs.Prelude.{◌≡◌, ℕ, ◌+◌, pos, negsuc, Bool, true, false, List, [], ◌∷◌, map, Some, None, codes, cond}
use Rattle.msgpack_codec.specs.declared.value.DataKind.{DataKind}
use Rattle.msgpack_codec.specs.declared.value.DataKind.TheVariants as data_kind
use Rattle.msgpack_codec.specs.declared.value.Value.TheVariants as datum
use Rattle.ruby_lexer.specs.Bytes.{same}
use Rattle.ruby_tree.specs.Names.{Bytes}
use Rattle.ruby_tree.specs.Tree.{Tree, and_index, array, assign, assign_all, bare_raise, bare_super, block_param, body, break_with, case_of, class, clause, code_piece, constant_path, ensure, ensure_sequence, false_value, file_name, global, hash, if_else, integer, joined, local, method, module_named, more, next_with, nil_value, no_clause, no_more, no_pair, no_param, no_piece, no_when, operate_attribute, operate_index, optional, or_index, pair, plain_piece, range, required, rescue, rescue_sequence, rest_param, retry, return_with, safe_send, self_value, send, statements, super, symbol, text, to_constant, to_global, to_instance, to_local, true_value, when, while_loop, with, without, yield}
use Rattle.ruby_meaning.specs.Node.{node}
use Rattle.ruby_meaning.specs.World.{ruby_file, ask_require, ask_relative, ask_load, Step, asked, loaded, entered, world_of}
use Rattle.ruby_meaning.specs.Files.{Files, RubyFile, no_ruby, ruby_fault, ruby_tree, DataFile, no_data_file, data_fault, data_value}
use Rattle.ruby_meaning.specs.Search.{is_indexed_ask}
use Rattle.ruby_meaning.specs.PreludeTree.{prelude_tree}
use Rattle.ruby_meaning.specs.PlainRun.{Program, Ending, exit, turns_spent, PlainAnswer, plain_run, program_run, start_world}

abbrev pub tree_at : Bytes → List (Bytes × Tree) → RubyFile
tree_at path [] = no_ruby
tree_at path (f ∷ fs) = cond (same path f.0) (ruby_tree f.1) (tree_at path fs)

abbrev pub has_path : Bytes → List (Bytes × Tree) → Bool
has_path path [] = false
has_path path (f ∷ fs) = cond (same path f.0) true (has_path path fs)

-- Ruby files with these trees, and nothing else
abbrev pub ruby_files : List (Bytes × Tree) → Files
ruby_files fs = record { is_file = λ path. has_path path fs; ruby = λ path. tree_at path fs; datum = λ kind path. no_data_file }

-- `/main.rb`, with `/lib` as the load path, so many turns, and this input
abbrev pub main : ℕ → Bytes → Program
main turns input = record { folders = codes "/lib" ∷ []; file = codes "/main.rb"; words = []; turns = turns; input = input }

-- `/main.rb` with this tree; `/c.yml` holds a map from `a` to a list of 1 and `:s`, and each JSON file is refused in its first line
abbrev pub data_at : DataKind → DataFile
data_at (data_kind.Yaml) = data_value (datum.Map ((datum.Str (codes "a"), datum.List (datum.Int (pos 1) ∷ datum.Sym (codes "s") ∷ [])) ∷ []))
data_at (data_kind.Json) = data_fault 1

abbrev pub data_files : Tree → Files
data_files t = record { is_file = λ path. true; ruby = λ path. ruby_tree t; datum = λ kind path. data_at kind }

-- the cells that are used when the program with this tree has ended
abbrev pub cells_of : Tree → ℕ
cells_of t = (world_of (program_run (ruby_files ((codes "/main.rb", t) ∷ [])) prelude_tree (main 1000 []) (start_world (main 1000 [])))).cells

-- what is compared: the output, the error text, the ending and the features
pub record Shown : Type 0 where
  pub output : Bytes
  pub error_text : Bytes
  pub ending : Ending
  pub features : List Bytes

abbrev pub shows : Bytes → Bytes → Ending → List Bytes → Shown
shows f g e xs = record { output = f; error_text = g; ending = e; features = xs }

abbrev pub shown : PlainAnswer → Shown
shown a = shows a.output a.error_text a.ending a.features

abbrev pub run_of : ℕ → Bytes → List (Bytes × Tree) → Shown
run_of turns input fs = shown (plain_run (ruby_files fs) prelude_tree (main turns input))

-- A sum is written:
--     /main.rb
--         puts 2 + 3
abbrev pub sum_row-run : Shown
sum_row-run = run_of 1000 [] ((codes "/main.rb", node 1 1 0 (statements (more (node 1 1 0 (send without (more (node 1 1 5 (send (with (node 1 1 5 (integer (pos 2)))) (more (node 1 1 9 (integer (pos 3))) no_more) [] without (codes "+") false without)) no_more) [] without (codes "puts") false without)) no_more))) ∷ [])

abbrev pub sum_row : Type 0
sum_row = sum_row-run ≡ shows (codes "5\n") [] (exit 0) ([])

-- A feature is loaded once, and a folder set before it changes nothing:
--     /main.rb
--         p require("a")
--         p require("a")
--         $LOAD_PATH.unshift("/alt")
--         p require("a")
--     /lib/a.rb
--     /alt/a.rb
abbrev pub require_twice-run : Shown
require_twice-run = run_of 1000 [] ((codes "/main.rb", node 1 1 0 (statements (more (node 1 1 0 (send without (more (node 1 1 2 (send without (more (node 1 1 10 (text (codes "a"))) no_more) [] without (codes "require") false without)) no_more) [] without (codes "p") false without)) (more (node 2 2 15 (send without (more (node 2 2 17 (send without (more (node 2 2 25 (text (codes "a"))) no_more) [] without (codes "require") false without)) no_more) [] without (codes "p") false without)) (more (node 3 3 30 (send (with (node 3 3 30 (global (codes "$LOAD_PATH")))) (more (node 3 3 49 (text (codes "/alt"))) no_more) [] without (codes "unshift") false without)) (more (node 4 4 57 (send without (more (node 4 4 59 (send without (more (node 4 4 67 (text (codes "a"))) no_more) [] without (codes "require") false without)) no_more) [] without (codes "p") false without)) no_more)))))) ∷ (codes "/lib/a.rb", node 0 0 0 (statements no_more)) ∷ (codes "/alt/a.rb", node 0 0 0 (statements no_more)) ∷ [])

abbrev pub require_twice : Type 0
require_twice = require_twice-run ≡ shows (codes "true\nfalse\nfalse\n") [] (exit 0) ((codes "/lib/a.rb") ∷ [])

-- A missing feature raises LoadError with its name:
--     /main.rb
--         begin
--           require "zz"
--         rescue LoadError => e
--           puts e.message
--         end
abbrev pub missing_feature-run : Shown
missing_feature-run = run_of 1000 [] ((codes "/main.rb", node 1 1 0 (statements (more (node 1 1 0 (rescue (node 1 1 5 (statements (more (node 2 2 8 (send without (more (node 2 2 16 (text (codes "zz"))) no_more) [] without (codes "require") false without)) no_more))) without (node 3 3 21 (rescue_sequence (clause (more (node 3 3 28 (constant_path without false ((codes "LoadError") ∷ []))) no_more) (Some (codes "e")) (node 4 4 45 (statements (more (node 4 4 45 (send without (more (node 4 4 50 (send (with (node 4 4 50 (local (codes "e")))) no_more [] without (codes "message") false without)) no_more) [] without (codes "puts") false without)) no_more))) no_clause))))) no_more))) ∷ [])

abbrev pub missing_feature : Type 0
missing_feature = missing_feature-run ≡ shows (codes "cannot load such file -- zz\n") [] (exit 0) ([])

-- A file that raised is no feature, and is loaded again:
--     /main.rb
--         begin
--           require "r"
--         rescue => e
--           puts e.message
--         end
--         begin
--           require "r"
--         rescue => e
--           puts e.message
--         end
--     /lib/r.rb
--         raise "no"
abbrev pub raise_in_feature-run : Shown
raise_in_feature-run = run_of 1000 [] ((codes "/main.rb", node 1 1 0 (statements (more (node 1 1 0 (rescue (node 1 1 5 (statements (more (node 2 2 8 (send without (more (node 2 2 16 (text (codes "r"))) no_more) [] without (codes "require") false without)) no_more))) without (node 3 3 20 (rescue_sequence (clause no_more (Some (codes "e")) (node 4 4 34 (statements (more (node 4 4 34 (send without (more (node 4 4 39 (send (with (node 4 4 39 (local (codes "e")))) no_more [] without (codes "message") false without)) no_more) [] without (codes "puts") false without)) no_more))) no_clause))))) (more (node 6 6 53 (rescue (node 6 6 58 (statements (more (node 7 7 61 (send without (more (node 7 7 69 (text (codes "r"))) no_more) [] without (codes "require") false without)) no_more))) without (node 8 8 73 (rescue_sequence (clause no_more (Some (codes "e")) (node 9 9 87 (statements (more (node 9 9 87 (send without (more (node 9 9 92 (send (with (node 9 9 92 (local (codes "e")))) no_more [] without (codes "message") false without)) no_more) [] without (codes "puts") false without)) no_more))) no_clause))))) no_more)))) ∷ (codes "/lib/r.rb", node 1 1 0 (statements (more (node 1 1 0 (send without (more (node 1 1 6 (text (codes "no"))) no_more) [] without (codes "raise") false without)) no_more))) ∷ [])

abbrev pub raise_in_feature : Type 0
raise_in_feature = raise_in_feature-run ≡ shows (codes "no\nno\n") [] (exit 0) ([])

-- A feature that is being loaded is provided:
--     /main.rb
--         p require("a")
--     /lib/a.rb
--         puts "a"
--         p require("b")
--     /lib/b.rb
--         p require("a")
--         puts "b"
abbrev pub cycle_of_features-run : Shown
cycle_of_features-run = run_of 1000 [] ((codes "/main.rb", node 1 1 0 (statements (more (node 1 1 0 (send without (more (node 1 1 2 (send without (more (node 1 1 10 (text (codes "a"))) no_more) [] without (codes "require") false without)) no_more) [] without (codes "p") false without)) no_more))) ∷ (codes "/lib/a.rb", node 1 1 0 (statements (more (node 1 1 0 (send without (more (node 1 1 5 (text (codes "a"))) no_more) [] without (codes "puts") false without)) (more (node 2 2 9 (send without (more (node 2 2 11 (send without (more (node 2 2 19 (text (codes "b"))) no_more) [] without (codes "require") false without)) no_more) [] without (codes "p") false without)) no_more)))) ∷ (codes "/lib/b.rb", node 1 1 0 (statements (more (node 1 1 0 (send without (more (node 1 1 2 (send without (more (node 1 1 10 (text (codes "a"))) no_more) [] without (codes "require") false without)) no_more) [] without (codes "p") false without)) (more (node 2 2 15 (send without (more (node 2 2 20 (text (codes "b"))) no_more) [] without (codes "puts") false without)) no_more)))) ∷ [])

abbrev pub cycle_of_features : Type 0
cycle_of_features = cycle_of_features-run ≡ shows (codes "a\nfalse\nb\ntrue\ntrue\n") [] (exit 0) ((codes "/lib/b.rb") ∷ (codes "/lib/a.rb") ∷ [])

-- A break runs the ensure part on its way:
--     /main.rb
--         def f
--           yield 1
--         ensure
--           puts "out"
--         end
--         x = f { |v| break v + 1 }
--         puts x
abbrev pub break_through_ensure-run : Shown
break_through_ensure-run = run_of 1000 [] ((codes "/main.rb", node 1 1 0 (statements (more (node 1 1 0 (method (codes "f") (node 1 1 0 (body no_param (node 2 2 8 (ensure (node 2 2 8 (statements (more (node 2 2 8 (yield (more (node 2 2 14 (integer (pos 1))) no_more) [])) no_more))) (node 3 3 16 (ensure_sequence (node 3 3 22 (statements (more (node 4 4 25 (send without (more (node 4 4 30 (text (codes "out"))) no_more) [] without (codes "puts") false without)) no_more))))))))) false)) (more (node 6 6 40 (assign (node 6 6 44 (send without no_more [] without (codes "f") false (with (node 6 6 46 (body (required (codes "v") no_param) (node 6 6 52 (statements (more (node 6 6 52 (break_with (more (node 6 6 58 (send (with (node 6 6 58 (local (codes "v")))) (more (node 6 6 62 (integer (pos 1))) no_more) [] without (codes "+") false without)) no_more))) no_more)))))))) (to_local (codes "x")))) (more (node 7 7 66 (send without (more (node 7 7 71 (local (codes "x"))) no_more) [] without (codes "puts") false without)) no_more))))) ∷ [])

abbrev pub break_through_ensure : Type 0
break_through_ensure = break_through_ensure-run ≡ shows (codes "out\n2\n") [] (exit 0) ([])

-- A loop without an end spends its turns:
--     /main.rb
--         while true; end
abbrev pub turns_are_spent-run : Shown
turns_are_spent-run = run_of 1000 [] ((codes "/main.rb", node 1 1 0 (statements (more (node 1 1 0 (while_loop (node 0 0 0 (statements no_more)) (node 1 1 6 true_value) false false)) no_more))) ∷ [])

abbrev pub turns_are_spent : Type 0
turns_are_spent = turns_are_spent-run ≡ shows [] [] turns_spent ([])

-- Without a turn nothing is loaded:
--     /main.rb
--         puts 1
abbrev pub no_turn-run : Shown
no_turn-run = run_of 0 [] ((codes "/main.rb", node 1 1 0 (statements (more (node 1 1 0 (send without (more (node 1 1 5 (integer (pos 1))) no_more) [] without (codes "puts") false without)) no_more))) ∷ [])

abbrev pub no_turn : Type 0
no_turn = no_turn-run ≡ shows [] [] turns_spent ([])

-- A sum past 64 bits raises RangeError:
--     /main.rb
--         puts 9223372036854775807 + 1
abbrev pub too_large-run : Shown
too_large-run = run_of 1000 [] ((codes "/main.rb", node 1 1 0 (statements (more (node 1 1 0 (send without (more (node 1 1 5 (send (with (node 1 1 5 (integer (pos 9223372036854775807)))) (more (node 1 1 27 (integer (pos 1))) no_more) [] without (codes "+") false without)) no_more) [] without (codes "puts") false without)) no_more))) ∷ [])

abbrev pub too_large : Type 0
too_large = too_large-run ≡ shows [] (codes "/main.rb:1: integer out of range (RangeError)\n") (exit 1) ([])

-- Quotients go down:
--     /main.rb
--         p 7 / -2, 7 % -2
abbrev pub floor_of_quotients-run : Shown
floor_of_quotients-run = run_of 1000 [] ((codes "/main.rb", node 1 1 0 (statements (more (node 1 1 0 (send without (more (node 1 1 2 (send (with (node 1 1 2 (integer (pos 7)))) (more (node 1 1 6 (integer (negsuc 1))) no_more) [] without (codes "/") false without)) (more (node 1 1 10 (send (with (node 1 1 10 (integer (pos 7)))) (more (node 1 1 14 (integer (negsuc 1))) no_more) [] without (codes "%") false without)) no_more)) [] without (codes "p") false without)) no_more))) ∷ [])

abbrev pub floor_of_quotients : Type 0
floor_of_quotients = floor_of_quotients-run ≡ shows (codes "-4\n-1\n") [] (exit 0) ([])

-- A division by zero is not rescued:
--     /main.rb
--         1 / 0
abbrev pub divided_by_zero-run : Shown
divided_by_zero-run = run_of 1000 [] ((codes "/main.rb", node 1 1 0 (statements (more (node 1 1 0 (send (with (node 1 1 0 (integer (pos 1)))) (more (node 1 1 4 (integer (pos 0))) no_more) [] without (codes "/") false without)) no_more))) ∷ [])

abbrev pub divided_by_zero : Type 0
divided_by_zero = divided_by_zero-run ≡ shows [] (codes "/main.rb:1: divided by 0 (ZeroDivisionError)\n") (exit 1) ([])

-- A Hash is shown with its keys, and puts goes into Arrays:
--     /main.rb
--         p({a: 1, "b" => 2})
--         puts [1, [nil, "x"]], []
abbrev pub texts_of_values-run : Shown
texts_of_values-run = run_of 1000 [] ((codes "/main.rb", node 1 1 0 (statements (more (node 1 1 0 (send without (more (node 1 1 2 (hash (pair (node 1 1 3 (symbol (codes "a"))) (node 1 1 6 (integer (pos 1))) (pair (node 1 1 9 (text (codes "b"))) (node 1 1 16 (integer (pos 2))) no_pair)))) no_more) [] without (codes "p") false without)) (more (node 2 2 20 (send without (more (node 2 2 25 (array (more (node 2 2 26 (integer (pos 1))) (more (node 2 2 29 (array (more (node 2 2 30 nil_value) (more (node 2 2 35 (text (codes "x"))) no_more)) [])) no_more)) [])) (more (node 2 2 42 (array no_more [])) no_more)) [] without (codes "puts") false without)) no_more)))) ∷ [])

abbrev pub texts_of_values : Type 0
texts_of_values = texts_of_values-run ≡ shows (codes "{:a=>1, \"b\"=>2}\n1\n\nx\n\n") [] (exit 0) ([])

-- An exit runs the ensure part:
--     /main.rb
--         begin
--           exit 7
--         ensure
--           puts "e"
--         end
abbrev pub exit_runs_ensure-run : Shown
exit_runs_ensure-run = run_of 1000 [] ((codes "/main.rb", node 1 1 0 (statements (more (node 1 1 0 (ensure (node 1 1 5 (statements (more (node 2 2 8 (send without (more (node 2 2 13 (integer (pos 7))) no_more) [] without (codes "exit") false without)) no_more))) (node 3 3 15 (ensure_sequence (node 3 3 21 (statements (more (node 4 4 24 (send without (more (node 4 4 29 (text (codes "e"))) no_more) [] without (codes "puts") false without)) no_more))))))) no_more))) ∷ [])

abbrev pub exit_runs_ensure : Type 0
exit_runs_ensure = exit_runs_ensure-run ≡ shows (codes "e\n") [] (exit 7) ([])

-- A status above 199 is refused:
--     /main.rb
--         exit 200
abbrev pub exit_out_of_range-run : Shown
exit_out_of_range-run = run_of 1000 [] ((codes "/main.rb", node 1 1 0 (statements (more (node 1 1 0 (send without (more (node 1 1 5 (integer (pos 200))) no_more) [] without (codes "exit") false without)) no_more))) ∷ [])

abbrev pub exit_out_of_range : Type 0
exit_out_of_range = exit_out_of_range-run ≡ shows [] (codes "/main.rb:1: exit status out of range (RangeError)\n") (exit 1) ([])

-- A retry begins the body again:
--     /main.rb
--         n = 0
--         begin
--           n += 1
--           raise "x" if n < 3
--           puts n
--         rescue
--           retry
--         end
abbrev pub retries-run : Shown
retries-run = run_of 1000 [] ((codes "/main.rb", node 1 1 0 (statements (more (node 1 1 0 (assign (node 1 1 4 (integer (pos 0))) (to_local (codes "n")))) (more (node 2 2 6 (rescue (node 2 2 11 (statements (more (node 3 3 14 (assign (node 3 3 14 (send (with (node 3 3 14 (local (codes "n")))) (more (node 3 3 19 (integer (pos 1))) no_more) [] without (codes "+") false without)) (to_local (codes "n")))) (more (node 4 4 23 (if_else (node 4 4 36 (send (with (node 4 4 36 (local (codes "n")))) (more (node 4 4 40 (integer (pos 3))) no_more) [] without (codes "<") false without)) (node 4 4 23 (statements (more (node 4 4 23 (send without (more (node 4 4 29 (text (codes "x"))) no_more) [] without (codes "raise") false without)) no_more))) without)) (more (node 5 5 44 (send without (more (node 5 5 49 (local (codes "n"))) no_more) [] without (codes "puts") false without)) no_more))))) without (node 6 6 51 (rescue_sequence (clause no_more None (node 7 7 60 (statements (more (node 7 7 60 retry) no_more))) no_clause))))) no_more)))) ∷ [])

abbrev pub retries : Type 0
retries = retries-run ≡ shows (codes "3\n") [] (exit 0) ([])

-- A retry in the body of a begin in a clause begins the body that the clause is of:
--     /main.rb
--         n = 0
--         begin
--           n += 1
--           raise "x" if n < 3
--           puts n
--         rescue
--           begin
--             retry
--           rescue
--           end
--         end
abbrev pub retry_in_a_body-run : Shown
retry_in_a_body-run = run_of 1000 [] ((codes "/main.rb", node 1 1 0 (statements (more (node 1 1 0 (assign (node 1 1 4 (integer (pos 0))) (to_local (codes "n")))) (more (node 2 2 6 (rescue (node 2 2 11 (statements (more (node 3 3 14 (assign (node 3 3 14 (send (with (node 3 3 14 (local (codes "n")))) (more (node 3 3 19 (integer (pos 1))) no_more) [] without (codes "+") false without)) (to_local (codes "n")))) (more (node 4 4 23 (if_else (node 4 4 36 (send (with (node 4 4 36 (local (codes "n")))) (more (node 4 4 40 (integer (pos 3))) no_more) [] without (codes "<") false without)) (node 4 4 23 (statements (more (node 4 4 23 (send without (more (node 4 4 29 (text (codes "x"))) no_more) [] without (codes "raise") false without)) no_more))) without)) (more (node 5 5 44 (send without (more (node 5 5 49 (local (codes "n"))) no_more) [] without (codes "puts") false without)) no_more))))) without (node 6 6 51 (rescue_sequence (clause no_more None (node 7 7 60 (statements (more (node 7 7 60 (rescue (node 7 7 65 (statements (more (node 8 8 70 retry) no_more))) without (node 9 9 78 (rescue_sequence (clause no_more None (node 0 0 0 (statements no_more)) no_clause))))) no_more))) no_clause))))) no_more)))) ∷ [])

abbrev pub retry_in_a_body : Type 0
retry_in_a_body = retry_in_a_body-run ≡ shows (codes "3\n") [] (exit 0) ([])

-- So does one in the else part of a begin in a clause:
--     /main.rb
--         n = 0
--         begin
--           n += 1
--           raise "x" if n < 3
--           puts n
--         rescue
--           begin
--           rescue
--           else
--             retry
--           end
--         end
abbrev pub retry_in_an_else-run : Shown
retry_in_an_else-run = run_of 1000 [] ((codes "/main.rb", node 1 1 0 (statements (more (node 1 1 0 (assign (node 1 1 4 (integer (pos 0))) (to_local (codes "n")))) (more (node 2 2 6 (rescue (node 2 2 11 (statements (more (node 3 3 14 (assign (node 3 3 14 (send (with (node 3 3 14 (local (codes "n")))) (more (node 3 3 19 (integer (pos 1))) no_more) [] without (codes "+") false without)) (to_local (codes "n")))) (more (node 4 4 23 (if_else (node 4 4 36 (send (with (node 4 4 36 (local (codes "n")))) (more (node 4 4 40 (integer (pos 3))) no_more) [] without (codes "<") false without)) (node 4 4 23 (statements (more (node 4 4 23 (send without (more (node 4 4 29 (text (codes "x"))) no_more) [] without (codes "raise") false without)) no_more))) without)) (more (node 5 5 44 (send without (more (node 5 5 49 (local (codes "n"))) no_more) [] without (codes "puts") false without)) no_more))))) without (node 6 6 51 (rescue_sequence (clause no_more None (node 7 7 60 (statements (more (node 7 7 60 (rescue (node 7 7 65 (statements no_more)) (with (node 9 9 81 (statements (more (node 10 10 86 retry) no_more)))) (node 8 8 68 (rescue_sequence (clause no_more None (node 0 0 0 (statements no_more)) no_clause))))) no_more))) no_clause))))) no_more)))) ∷ [])

abbrev pub retry_in_an_else : Type 0
retry_in_an_else = retry_in_an_else-run ≡ shows (codes "3\n") [] (exit 0) ([])

-- Gets takes line after line, and then nil:
--     /main.rb
--         p gets, gets, gets
abbrev pub lines_of_input-run : Shown
lines_of_input-run = run_of 1000 (codes "ab\nc") ((codes "/main.rb", node 1 1 0 (statements (more (node 1 1 0 (send without (more (node 1 1 2 (send without no_more [] without (codes "gets") true without)) (more (node 1 1 8 (send without no_more [] without (codes "gets") true without)) (more (node 1 1 14 (send without no_more [] without (codes "gets") true without)) no_more))) [] without (codes "p") false without)) no_more))) ∷ [])

abbrev pub lines_of_input : Type 0
lines_of_input = lines_of_input-run ≡ shows (codes "\"ab\\n\"\n\"c\"\nnil\n") [] (exit 0) ([])

-- Rescue or else, and then ensure:
--     /main.rb
--         def f(bad)
--           puts "body"
--           raise "bad" if bad
--         rescue => e
--           puts "rescue #{e.message}"
--         else
--           puts "else"
--         ensure
--           puts "ensure"
--         end
--         f(false)
--         f(true)
abbrev pub order_of_parts-run : Shown
order_of_parts-run = run_of 1000 [] ((codes "/main.rb", node 1 1 0 (statements (more (node 1 1 0 (method (codes "f") (node 1 1 0 (body (required (codes "bad") no_param) (node 1 1 10 (ensure (node 1 1 10 (rescue (node 1 1 10 (statements (more (node 2 2 13 (send without (more (node 2 2 18 (text (codes "body"))) no_more) [] without (codes "puts") false without)) (more (node 3 3 27 (if_else (node 3 3 42 (local (codes "bad"))) (node 3 3 27 (statements (more (node 3 3 27 (send without (more (node 3 3 33 (text (codes "bad"))) no_more) [] without (codes "raise") false without)) no_more))) without)) no_more)))) (with (node 6 6 91 (statements (more (node 7 7 94 (send without (more (node 7 7 99 (text (codes "else"))) no_more) [] without (codes "puts") false without)) no_more)))) (node 4 4 46 (rescue_sequence (clause no_more (Some (codes "e")) (node 5 5 60 (statements (more (node 5 5 60 (send without (more (node 5 5 65 (joined (plain_piece (codes "rescue ") (code_piece (node 5 5 75 (statements (more (node 5 5 75 (send (with (node 5 5 75 (local (codes "e")))) no_more [] without (codes "message") false without)) no_more))) no_piece)))) no_more) [] without (codes "puts") false without)) no_more))) no_clause))))) (node 8 8 106 (ensure_sequence (node 8 8 112 (statements (more (node 9 9 115 (send without (more (node 9 9 120 (text (codes "ensure"))) no_more) [] without (codes "puts") false without)) no_more))))))))) false)) (more (node 11 11 133 (send without (more (node 11 11 135 false_value) no_more) [] without (codes "f") false without)) (more (node 12 12 142 (send without (more (node 12 12 144 true_value) no_more) [] without (codes "f") false without)) no_more))))) ∷ [])

abbrev pub order_of_parts : Type 0
order_of_parts = order_of_parts-run ≡ shows (codes "body\nelse\nensure\nbody\nrescue bad\nensure\n") [] (exit 0) ([])

-- A Proc keeps the locals of a method that has ended:
--     /main.rb
--         def counter
--           n = 0
--           proc { n += 1 }
--         end
--         c = counter
--         c.call
--         puts c.call
abbrev pub block_outlives_method-run : Shown
block_outlives_method-run = run_of 1000 [] ((codes "/main.rb", node 1 1 0 (statements (more (node 1 1 0 (method (codes "counter") (node 1 1 0 (body no_param (node 2 2 14 (statements (more (node 2 2 14 (assign (node 2 2 18 (integer (pos 0))) (to_local (codes "n")))) (more (node 3 3 22 (send without no_more [] without (codes "proc") false (with (node 3 3 27 (body no_param (node 3 3 29 (statements (more (node 3 3 29 (assign (node 3 3 29 (send (with (node 3 3 29 (local (codes "n")))) (more (node 3 3 34 (integer (pos 1))) no_more) [] without (codes "+") false without)) (to_local (codes "n")))) no_more)))))))) no_more)))))) false)) (more (node 5 5 42 (assign (node 5 5 46 (send without no_more [] without (codes "counter") true without)) (to_local (codes "c")))) (more (node 6 6 54 (send (with (node 6 6 54 (local (codes "c")))) no_more [] without (codes "call") false without)) (more (node 7 7 61 (send without (more (node 7 7 66 (send (with (node 7 7 66 (local (codes "c")))) no_more [] without (codes "call") false without)) no_more) [] without (codes "puts") false without)) no_more)))))) ∷ [])

abbrev pub block_outlives_method : Type 0
block_outlives_method = block_outlives_method-run ≡ shows (codes "2\n") [] (exit 0) ([])

-- A break whose call has ended raises LocalJumpError:
--     /main.rb
--         b = proc { break 1 }
--         begin
--           b.call
--         rescue LocalJumpError => e
--           puts e.message
--         end
abbrev pub break_of_ended_call-run : Shown
break_of_ended_call-run = run_of 1000 [] ((codes "/main.rb", node 1 1 0 (statements (more (node 1 1 0 (assign (node 1 1 4 (send without no_more [] without (codes "proc") false (with (node 1 1 9 (body no_param (node 1 1 11 (statements (more (node 1 1 11 (break_with (more (node 1 1 17 (integer (pos 1))) no_more))) no_more)))))))) (to_local (codes "b")))) (more (node 2 2 21 (rescue (node 2 2 26 (statements (more (node 3 3 29 (send (with (node 3 3 29 (local (codes "b")))) no_more [] without (codes "call") false without)) no_more))) without (node 4 4 36 (rescue_sequence (clause (more (node 4 4 43 (constant_path without false ((codes "LocalJumpError") ∷ []))) no_more) (Some (codes "e")) (node 5 5 65 (statements (more (node 5 5 65 (send without (more (node 5 5 70 (send (with (node 5 5 70 (local (codes "e")))) no_more [] without (codes "message") false without)) no_more) [] without (codes "puts") false without)) no_more))) no_clause))))) no_more)))) ∷ [])

abbrev pub break_of_ended_call : Type 0
break_of_ended_call = break_of_ended_call-run ≡ shows (codes "break from proc-closure\n") [] (exit 0) ([])

-- A return whose method has ended raises LocalJumpError:
--     /main.rb
--         def f
--           proc { return 1 }
--         end
--         b = f
--         begin
--           b.call
--         rescue LocalJumpError => e
--           puts e.message
--         end
abbrev pub return_of_ended_method-run : Shown
return_of_ended_method-run = run_of 1000 [] ((codes "/main.rb", node 1 1 0 (statements (more (node 1 1 0 (method (codes "f") (node 1 1 0 (body no_param (node 2 2 8 (statements (more (node 2 2 8 (send without no_more [] without (codes "proc") false (with (node 2 2 13 (body no_param (node 2 2 15 (statements (more (node 2 2 15 (return_with (more (node 2 2 22 (integer (pos 1))) no_more))) no_more)))))))) no_more))))) false)) (more (node 4 4 30 (assign (node 4 4 34 (send without no_more [] without (codes "f") true without)) (to_local (codes "b")))) (more (node 5 5 36 (rescue (node 5 5 41 (statements (more (node 6 6 44 (send (with (node 6 6 44 (local (codes "b")))) no_more [] without (codes "call") false without)) no_more))) without (node 7 7 51 (rescue_sequence (clause (more (node 7 7 58 (constant_path without false ((codes "LocalJumpError") ∷ []))) no_more) (Some (codes "e")) (node 8 8 80 (statements (more (node 8 8 80 (send without (more (node 8 8 85 (send (with (node 8 8 85 (local (codes "e")))) no_more [] without (codes "message") false without)) no_more) [] without (codes "puts") false without)) no_more))) no_clause))))) no_more))))) ∷ [])

abbrev pub return_of_ended_method : Type 0
return_of_ended_method = return_of_ended_method-run ≡ shows (codes "unexpected return\n") [] (exit 0) ([])

-- A return in a block leaves the method:
--     /main.rb
--         def f
--           [1, 2, 3].each { |x| return x if x > 1 }
--           0
--         end
--         puts f
abbrev pub return_from_block-run : Shown
return_from_block-run = run_of 1000 [] ((codes "/main.rb", node 1 1 0 (statements (more (node 1 1 0 (method (codes "f") (node 1 1 0 (body no_param (node 2 2 8 (statements (more (node 2 2 8 (send (with (node 2 2 8 (array (more (node 2 2 9 (integer (pos 1))) (more (node 2 2 12 (integer (pos 2))) (more (node 2 2 15 (integer (pos 3))) no_more))) []))) no_more [] without (codes "each") false (with (node 2 2 23 (body (required (codes "x") no_param) (node 2 2 29 (statements (more (node 2 2 29 (if_else (node 2 2 41 (send (with (node 2 2 41 (local (codes "x")))) (more (node 2 2 45 (integer (pos 1))) no_more) [] without (codes ">") false without)) (node 2 2 29 (statements (more (node 2 2 29 (return_with (more (node 2 2 36 (local (codes "x"))) no_more))) no_more))) without)) no_more)))))))) (more (node 3 3 51 (integer (pos 0))) no_more)))))) false)) (more (node 5 5 57 (send without (more (node 5 5 62 (send without no_more [] without (codes "f") true without)) no_more) [] without (codes "puts") false without)) no_more)))) ∷ [])

abbrev pub return_from_block : Type 0
return_from_block = return_from_block-run ≡ shows (codes "2\n") [] (exit 0) ([])

-- Super takes the next row, with the arguments given or those of the method:
--     /main.rb
--         module M
--           def name(x) "m" + super end
--         end
--         class A
--           def name(x) "a" + x end
--         end
--         class B < A
--           include M
--           def name(x) "b" + super(x + "!") end
--         end
--         puts B.new.name("x")
abbrev pub super_rows-run : Shown
super_rows-run = run_of 1000 [] ((codes "/main.rb", node 1 1 0 (statements (more (node 1 1 0 (module_named (codes "M") (node 1 1 0 (body no_param (node 2 2 11 (statements (more (node 2 2 11 (method (codes "name") (node 2 2 11 (body (required (codes "x") no_param) (node 2 2 23 (statements (more (node 2 2 23 (send (with (node 2 2 23 (text (codes "m")))) (more (node 2 2 29 (bare_super without)) no_more) [] without (codes "+") false without)) no_more))))) false)) no_more))))))) (more (node 4 4 43 (class without (codes "A") (node 4 4 43 (body no_param (node 5 5 53 (statements (more (node 5 5 53 (method (codes "name") (node 5 5 53 (body (required (codes "x") no_param) (node 5 5 65 (statements (more (node 5 5 65 (send (with (node 5 5 65 (text (codes "a")))) (more (node 5 5 71 (local (codes "x"))) no_more) [] without (codes "+") false without)) no_more))))) false)) no_more))))))) (more (node 7 7 81 (class (with (node 7 7 91 (constant_path without false ((codes "A") ∷ [])))) (codes "B") (node 7 7 81 (body no_param (node 8 8 95 (statements (more (node 8 8 95 (send without (more (node 8 8 103 (constant_path without false ((codes "M") ∷ []))) no_more) [] without (codes "include") false without)) (more (node 9 9 107 (method (codes "name") (node 9 9 107 (body (required (codes "x") no_param) (node 9 9 119 (statements (more (node 9 9 119 (send (with (node 9 9 119 (text (codes "b")))) (more (node 9 9 125 (super (more (node 9 9 131 (send (with (node 9 9 131 (local (codes "x")))) (more (node 9 9 135 (text (codes "!"))) no_more) [] without (codes "+") false without)) no_more) [] without without)) no_more) [] without (codes "+") false without)) no_more))))) false)) no_more)))))))) (more (node 11 11 148 (send without (more (node 11 11 153 (send (with (node 11 11 153 (send (with (node 11 11 153 (constant_path without false ((codes "B") ∷ [])))) no_more [] without (codes "new") false without))) (more (node 11 11 164 (text (codes "x"))) no_more) [] without (codes "name") false without)) no_more) [] without (codes "puts") false without)) no_more)))))) ∷ [])

abbrev pub super_rows : Type 0
super_rows = super_rows-run ≡ shows (codes "bmax!\n") [] (exit 0) ([])

-- A constant is looked for in the class bodies outward, then in the ancestors:
--     /main.rb
--         X = 1
--         class A
--           Y = 2
--         end
--         module M
--           X = 3
--           class B < A
--             puts X, Y
--           end
--         end
--         puts M::X, ::X
--         puts M::B
abbrev pub constants_outward-run : Shown
constants_outward-run = run_of 1000 [] ((codes "/main.rb", node 1 1 0 (statements (more (node 1 1 0 (assign (node 1 1 4 (integer (pos 1))) (to_constant (codes "X")))) (more (node 2 2 6 (class without (codes "A") (node 2 2 6 (body no_param (node 3 3 16 (statements (more (node 3 3 16 (assign (node 3 3 20 (integer (pos 2))) (to_constant (codes "Y")))) no_more))))))) (more (node 5 5 26 (module_named (codes "M") (node 5 5 26 (body no_param (node 6 6 37 (statements (more (node 6 6 37 (assign (node 6 6 41 (integer (pos 3))) (to_constant (codes "X")))) (more (node 7 7 45 (class (with (node 7 7 55 (constant_path without false ((codes "A") ∷ [])))) (codes "B") (node 7 7 45 (body no_param (node 8 8 61 (statements (more (node 8 8 61 (send without (more (node 8 8 66 (constant_path without false ((codes "X") ∷ []))) (more (node 8 8 69 (constant_path without false ((codes "Y") ∷ []))) no_more)) [] without (codes "puts") false without)) no_more))))))) no_more)))))))) (more (node 11 11 81 (send without (more (node 11 11 86 (constant_path without false ((codes "M") ∷ (codes "X") ∷ []))) (more (node 11 11 92 (constant_path without true ((codes "X") ∷ []))) no_more)) [] without (codes "puts") false without)) (more (node 12 12 96 (send without (more (node 12 12 101 (constant_path without false ((codes "M") ∷ (codes "B") ∷ []))) no_more) [] without (codes "puts") false without)) no_more))))))) ∷ [])

abbrev pub constants_outward : Type 0
constants_outward = constants_outward-run ≡ shows (codes "3\n2\n3\n1\nM::B\n") [] (exit 0) ([])

-- A missing constant behind a class is told with it:
--     /main.rb
--         class A
--         end
--         A::Foo
abbrev pub missing_constant-run : Shown
missing_constant-run = run_of 1000 [] ((codes "/main.rb", node 1 1 0 (statements (more (node 1 1 0 (class without (codes "A") (node 1 1 0 (body no_param (node 0 0 0 (statements no_more)))))) (more (node 3 3 12 (constant_path without false ((codes "A") ∷ (codes "Foo") ∷ []))) no_more)))) ∷ [])

abbrev pub missing_constant : Type 0
missing_constant = missing_constant-run ≡ shows [] (codes "/main.rb:3: uninitialized constant A::Foo (NameError)\n") (exit 1) ([])

-- A wrong count of arguments is told at the call:
--     /main.rb
--         def f(a, b) a end
--         begin
--           f(1)
--         rescue ArgumentError => e
--           puts e.message
--         end
abbrev pub wrong_count-run : Shown
wrong_count-run = run_of 1000 [] ((codes "/main.rb", node 1 1 0 (statements (more (node 1 1 0 (method (codes "f") (node 1 1 0 (body (required (codes "a") (required (codes "b") no_param)) (node 1 1 12 (statements (more (node 1 1 12 (local (codes "a"))) no_more))))) false)) (more (node 2 2 18 (rescue (node 2 2 23 (statements (more (node 3 3 26 (send without (more (node 3 3 28 (integer (pos 1))) no_more) [] without (codes "f") false without)) no_more))) without (node 4 4 31 (rescue_sequence (clause (more (node 4 4 38 (constant_path without false ((codes "ArgumentError") ∷ []))) no_more) (Some (codes "e")) (node 5 5 59 (statements (more (node 5 5 59 (send without (more (node 5 5 64 (send (with (node 5 5 64 (local (codes "e")))) no_more [] without (codes "message") false without)) no_more) [] without (codes "puts") false without)) no_more))) no_clause))))) no_more)))) ∷ [])

abbrev pub wrong_count : Type 0
wrong_count = wrong_count-run ≡ shows (codes "wrong number of arguments (given 1, expected 2)\n") [] (exit 0) ([])

-- Optional, rest and block parameters:
--     /main.rb
--         def f(a, b = a + 1, *c, &d)
--           p a, b, c
--           d.call(a)
--         end
--         f(1) { |x| puts x }
--         f(1, 5, 6, 7) { |x| puts x + 1 }
abbrev pub parameters-run : Shown
parameters-run = run_of 1000 [] ((codes "/main.rb", node 1 1 0 (statements (more (node 1 1 0 (method (codes "f") (node 1 1 0 (body (required (codes "a") (optional (codes "b") (node 1 1 13 (send (with (node 1 1 13 (local (codes "a")))) (more (node 1 1 17 (integer (pos 1))) no_more) [] without (codes "+") false without)) (rest_param (codes "c") (block_param (codes "d") no_param)))) (node 1 1 27 (statements (more (node 2 2 30 (send without (more (node 2 2 32 (local (codes "a"))) (more (node 2 2 35 (local (codes "b"))) (more (node 2 2 38 (local (codes "c"))) no_more))) [] without (codes "p") false without)) (more (node 3 3 42 (send (with (node 3 3 42 (local (codes "d")))) (more (node 3 3 49 (local (codes "a"))) no_more) [] without (codes "call") false without)) no_more)))))) false)) (more (node 5 5 56 (send without (more (node 5 5 58 (integer (pos 1))) no_more) [] without (codes "f") false (with (node 5 5 61 (body (required (codes "x") no_param) (node 5 5 67 (statements (more (node 5 5 67 (send without (more (node 5 5 72 (local (codes "x"))) no_more) [] without (codes "puts") false without)) no_more)))))))) (more (node 6 6 76 (send without (more (node 6 6 78 (integer (pos 1))) (more (node 6 6 81 (integer (pos 5))) (more (node 6 6 84 (integer (pos 6))) (more (node 6 6 87 (integer (pos 7))) no_more)))) [] without (codes "f") false (with (node 6 6 90 (body (required (codes "x") no_param) (node 6 6 96 (statements (more (node 6 6 96 (send without (more (node 6 6 101 (send (with (node 6 6 101 (local (codes "x")))) (more (node 6 6 105 (integer (pos 1))) no_more) [] without (codes "+") false without)) no_more) [] without (codes "puts") false without)) no_more)))))))) no_more))))) ∷ [])

abbrev pub parameters : Type 0
parameters = parameters-run ≡ shows (codes "1\n2\n[]\n1\n1\n5\n[6, 7]\n2\n") [] (exit 0) ([])

-- Splats are spread, and a block spreads one Array:
--     /main.rb
--         def f(*a) p a end
--         f(*[1, 2], 3, *nil)
--         [[1, 2], [3, 4]].each { |a, b| puts a + b }
abbrev pub spread-run : Shown
spread-run = run_of 1000 [] ((codes "/main.rb", node 1 1 0 (statements (more (node 1 1 0 (method (codes "f") (node 1 1 0 (body (rest_param (codes "a") no_param) (node 1 1 10 (statements (more (node 1 1 10 (send without (more (node 1 1 12 (local (codes "a"))) no_more) [] without (codes "p") false without)) no_more))))) false)) (more (node 2 2 18 (send without (more (node 2 2 21 (array (more (node 2 2 22 (integer (pos 1))) (more (node 2 2 25 (integer (pos 2))) no_more)) [])) (more (node 2 2 29 (integer (pos 3))) (more (node 2 2 33 nil_value) no_more))) (0 ∷ 2 ∷ []) without (codes "f") false without)) (more (node 3 3 38 (send (with (node 3 3 38 (array (more (node 3 3 39 (array (more (node 3 3 40 (integer (pos 1))) (more (node 3 3 43 (integer (pos 2))) no_more)) [])) (more (node 3 3 47 (array (more (node 3 3 48 (integer (pos 3))) (more (node 3 3 51 (integer (pos 4))) no_more)) [])) no_more)) []))) no_more [] without (codes "each") false (with (node 3 3 60 (body (required (codes "a") (required (codes "b") no_param)) (node 3 3 69 (statements (more (node 3 3 69 (send without (more (node 3 3 74 (send (with (node 3 3 74 (local (codes "a")))) (more (node 3 3 78 (local (codes "b"))) no_more) [] without (codes "+") false without)) no_more) [] without (codes "puts") false without)) no_more)))))))) no_more))))) ∷ [])

abbrev pub spread : Type 0
spread = spread-run ≡ shows (codes "[1, 2, 3]\n3\n7\n") [] (exit 0) ([])

-- A class that is opened again keeps its methods, and def on self adds to the class:
--     /main.rb
--         class A
--           def self.make() new end
--           attr_accessor :v
--         end
--         class A
--           def initialize() @v = 1 end
--         end
--         a = A.make
--         a.v += 2
--         puts a.v
abbrev pub class_bodies-run : Shown
class_bodies-run = run_of 1000 [] ((codes "/main.rb", node 1 1 0 (statements (more (node 1 1 0 (class without (codes "A") (node 1 1 0 (body no_param (node 2 2 10 (statements (more (node 2 2 10 (method (codes "make") (node 2 2 10 (body no_param (node 2 2 26 (statements (more (node 2 2 26 (send without no_more [] without (codes "new") true without)) no_more))))) true)) (more (node 3 3 36 (send without (more (node 3 3 50 (symbol (codes "v"))) no_more) [] without (codes "attr_accessor") false without)) no_more)))))))) (more (node 5 5 57 (class without (codes "A") (node 5 5 57 (body no_param (node 6 6 67 (statements (more (node 6 6 67 (method (codes "initialize") (node 6 6 67 (body no_param (node 6 6 84 (statements (more (node 6 6 84 (assign (node 6 6 89 (integer (pos 1))) (to_instance (codes "@v")))) no_more))))) false)) no_more))))))) (more (node 8 8 99 (assign (node 8 8 103 (send (with (node 8 8 103 (constant_path without false ((codes "A") ∷ [])))) no_more [] without (codes "make") false without)) (to_local (codes "a")))) (more (node 9 9 110 (operate_attribute (node 9 9 110 (local (codes "a"))) (codes "v") (node 9 9 117 (integer (pos 2))) (codes "+") (codes "v=") 9)) (more (node 10 10 119 (send without (more (node 10 10 124 (send (with (node 10 10 124 (local (codes "a")))) no_more [] without (codes "v") false without)) no_more) [] without (codes "puts") false without)) no_more))))))) ∷ [])

abbrev pub class_bodies : Type 0
class_bodies = class_bodies-run ≡ shows (codes "3\n") [] (exit 0) ([])

-- Another superclass is refused:
--     /main.rb
--         class A
--         end
--         class A < String
--         end
abbrev pub superclass_mismatch-run : Shown
superclass_mismatch-run = run_of 1000 [] ((codes "/main.rb", node 1 1 0 (statements (more (node 1 1 0 (class without (codes "A") (node 1 1 0 (body no_param (node 0 0 0 (statements no_more)))))) (more (node 3 3 12 (class (with (node 3 3 22 (constant_path without false ((codes "String") ∷ [])))) (codes "A") (node 3 3 12 (body no_param (node 0 0 0 (statements no_more)))))) no_more)))) ∷ [])

abbrev pub superclass_mismatch : Type 0
superclass_mismatch = superclass_mismatch-run ≡ shows [] (codes "/main.rb:3: superclass mismatch for class A (TypeError)\n") (exit 1) ([])

-- Case compares by ===:
--     /main.rb
--         def f(x)
--           case x
--           when Integer then "i"
--           when 1..3, "a" then "s"
--           else "e"
--           end
--         end
--         puts f(2), f("a"), f(nil)
abbrev pub case_of_values-run : Shown
case_of_values-run = run_of 1000 [] ((codes "/main.rb", node 1 1 0 (statements (more (node 1 1 0 (method (codes "f") (node 1 1 0 (body (required (codes "x") no_param) (node 1 1 8 (statements (more (node 2 2 11 (case_of (node 2 2 16 (local (codes "x"))) (when (more (node 3 3 25 (constant_path without false ((codes "Integer") ∷ []))) no_more) (node 3 3 38 (statements (more (node 3 3 38 (text (codes "i"))) no_more))) (when (more (node 4 4 49 (range (node 4 4 49 (integer (pos 1))) (node 4 4 52 (integer (pos 3))) false)) (more (node 4 4 55 (text (codes "a"))) no_more)) (node 4 4 64 (statements (more (node 4 4 64 (text (codes "s"))) no_more))) no_when)) (with (node 5 5 75 (statements (more (node 5 5 75 (text (codes "e"))) no_more)))))) no_more))))) false)) (more (node 8 8 89 (send without (more (node 8 8 94 (send without (more (node 8 8 96 (integer (pos 2))) no_more) [] without (codes "f") false without)) (more (node 8 8 100 (send without (more (node 8 8 102 (text (codes "a"))) no_more) [] without (codes "f") false without)) (more (node 8 8 108 (send without (more (node 8 8 110 nil_value) no_more) [] without (codes "f") false without)) no_more))) [] without (codes "puts") false without)) no_more)))) ∷ [])

abbrev pub case_of_values : Type 0
case_of_values = case_of_values-run ≡ shows (codes "i\ns\ne\n") [] (exit 0) ([])

-- The === of a case in a rescue clause stands in the line of the first rescue:
--     /main.rb
--         class A
--           def self.===() end
--         end
--         begin
--           raise "x"
--         rescue
--           case 1
--           when A
--           end
--         end
abbrev pub case_in_a_clause-run : Shown
case_in_a_clause-run = run_of 1000 [] ((codes "/main.rb", node 1 1 0 (statements (more (node 1 1 0 (class without (codes "A") (node 1 1 0 (body no_param (node 2 2 10 (statements (more (node 2 2 10 (method (codes "===") (node 2 2 10 (body no_param (node 0 0 0 (statements no_more)))) true)) no_more))))))) (more (node 4 4 33 (rescue (node 4 4 38 (statements (more (node 5 5 41 (send without (more (node 5 5 47 (text (codes "x"))) no_more) [] without (codes "raise") false without)) no_more))) without (node 6 6 51 (rescue_sequence (clause no_more None (node 7 7 60 (statements (more (node 7 7 60 (case_of (node 7 7 65 (integer (pos 1))) (when (more (node 8 8 74 (constant_path without false ((codes "A") ∷ []))) no_more) (node 0 0 0 (statements no_more)) no_when) without)) no_more))) no_clause))))) no_more)))) ∷ [])

abbrev pub case_in_a_clause : Type 0
case_in_a_clause = case_in_a_clause-run ≡ shows [] (codes "/main.rb:6: wrong number of arguments (given 1, expected 0) (ArgumentError)\n") (exit 1) ([])

-- In an ensure part it stands in the line of ensure:
--     /main.rb
--         class A
--           def self.===() end
--         end
--         begin
--           puts 1
--         ensure
--           case 1
--           when A
--           end
--         end
abbrev pub case_in_an_ensure-run : Shown
case_in_an_ensure-run = run_of 1000 [] ((codes "/main.rb", node 1 1 0 (statements (more (node 1 1 0 (class without (codes "A") (node 1 1 0 (body no_param (node 2 2 10 (statements (more (node 2 2 10 (method (codes "===") (node 2 2 10 (body no_param (node 0 0 0 (statements no_more)))) true)) no_more))))))) (more (node 4 4 33 (ensure (node 4 4 38 (statements (more (node 5 5 41 (send without (more (node 5 5 46 (integer (pos 1))) no_more) [] without (codes "puts") false without)) no_more))) (node 6 6 48 (ensure_sequence (node 6 6 54 (statements (more (node 7 7 57 (case_of (node 7 7 62 (integer (pos 1))) (when (more (node 8 8 71 (constant_path without false ((codes "A") ∷ []))) no_more) (node 0 0 0 (statements no_more)) no_when) without)) no_more))))))) no_more)))) ∷ [])

abbrev pub case_in_an_ensure : Type 0
case_in_an_ensure = case_in_an_ensure-run ≡ shows (codes "1\n") (codes "/main.rb:6: wrong number of arguments (given 1, expected 0) (ArgumentError)\n") (exit 1) ([])

-- A bare raise raises the exception again:
--     /main.rb
--         begin
--           begin
--             raise "x"
--           rescue
--             raise
--           end
--         rescue => e
--           puts e.message
--         end
abbrev pub raised_again-run : Shown
raised_again-run = run_of 1000 [] ((codes "/main.rb", node 1 1 0 (statements (more (node 1 1 0 (rescue (node 1 1 5 (statements (more (node 2 2 8 (rescue (node 2 2 13 (statements (more (node 3 3 18 (send without (more (node 3 3 24 (text (codes "x"))) no_more) [] without (codes "raise") false without)) no_more))) without (node 4 4 30 (rescue_sequence (clause no_more None (node 5 5 41 (statements (more (node 5 5 41 bare_raise) no_more))) no_clause))))) no_more))) without (node 7 7 53 (rescue_sequence (clause no_more (Some (codes "e")) (node 8 8 67 (statements (more (node 8 8 67 (send without (more (node 8 8 72 (send (with (node 8 8 72 (local (codes "e")))) no_more [] without (codes "message") false without)) no_more) [] without (codes "puts") false without)) no_more))) no_clause))))) no_more))) ∷ [])

abbrev pub raised_again : Type 0
raised_again = raised_again-run ≡ shows (codes "x\n") [] (exit 0) ([])

-- A bare name that is nothing raises NameError:
--     /main.rb
--         foo
abbrev pub bare_name-run : Shown
bare_name-run = run_of 1000 [] ((codes "/main.rb", node 1 1 0 (statements (more (node 1 1 0 (send without no_more [] without (codes "foo") true without)) no_more))) ∷ [])

abbrev pub bare_name : Type 0
bare_name = bare_name-run ≡ shows [] (codes "/main.rb:1: undefined local variable or method foo (NameError)\n") (exit 1) ([])

-- Next and break of a loop, and a loop that tests after its body:
--     /main.rb
--         i = 0
--         while i < 5
--           i += 1
--           next if i == 2
--           break if i == 4
--           puts i
--         end
--         begin
--           i += 1
--         end until i > 5
--         puts i
abbrev pub loops-run : Shown
loops-run = run_of 1000 [] ((codes "/main.rb", node 1 1 0 (statements (more (node 1 1 0 (assign (node 1 1 4 (integer (pos 0))) (to_local (codes "i")))) (more (node 2 2 6 (while_loop (node 3 3 20 (statements (more (node 3 3 20 (assign (node 3 3 20 (send (with (node 3 3 20 (local (codes "i")))) (more (node 3 3 25 (integer (pos 1))) no_more) [] without (codes "+") false without)) (to_local (codes "i")))) (more (node 4 4 29 (if_else (node 4 4 37 (send (with (node 4 4 37 (local (codes "i")))) (more (node 4 4 42 (integer (pos 2))) no_more) [] without (codes "==") false without)) (node 4 4 29 (statements (more (node 4 4 29 (next_with no_more)) no_more))) without)) (more (node 5 5 46 (if_else (node 5 5 55 (send (with (node 5 5 55 (local (codes "i")))) (more (node 5 5 60 (integer (pos 4))) no_more) [] without (codes "==") false without)) (node 5 5 46 (statements (more (node 5 5 46 (break_with no_more)) no_more))) without)) (more (node 6 6 64 (send without (more (node 6 6 69 (local (codes "i"))) no_more) [] without (codes "puts") false without)) no_more)))))) (node 2 2 12 (send (with (node 2 2 12 (local (codes "i")))) (more (node 2 2 16 (integer (pos 5))) no_more) [] without (codes "<") false without)) false false)) (more (node 8 8 75 (while_loop (node 8 8 75 (statements (more (node 8 8 80 (statements (more (node 9 9 83 (assign (node 9 9 83 (send (with (node 9 9 83 (local (codes "i")))) (more (node 9 9 88 (integer (pos 1))) no_more) [] without (codes "+") false without)) (to_local (codes "i")))) no_more))) no_more))) (node 10 10 100 (send (with (node 10 10 100 (local (codes "i")))) (more (node 10 10 104 (integer (pos 5))) no_more) [] without (codes ">") false without)) true true)) (more (node 11 11 106 (send without (more (node 11 11 111 (local (codes "i"))) no_more) [] without (codes "puts") false without)) no_more)))))) ∷ [])

abbrev pub loops : Type 0
loops = loops-run ≡ shows (codes "1\n3\n6\n") [] (exit 0) ([])

-- A frozen Array is not changed:
--     /main.rb
--         a = [1].freeze
--         begin
--           a << 2
--         rescue FrozenError => e
--           puts e.message
--         end
abbrev pub frozen-run : Shown
frozen-run = run_of 1000 [] ((codes "/main.rb", node 1 1 0 (statements (more (node 1 1 0 (assign (node 1 1 4 (send (with (node 1 1 4 (array (more (node 1 1 5 (integer (pos 1))) no_more) []))) no_more [] without (codes "freeze") false without)) (to_local (codes "a")))) (more (node 2 2 15 (rescue (node 2 2 20 (statements (more (node 3 3 23 (send (with (node 3 3 23 (local (codes "a")))) (more (node 3 3 28 (integer (pos 2))) no_more) [] without (codes "<<") false without)) no_more))) without (node 4 4 30 (rescue_sequence (clause (more (node 4 4 37 (constant_path without false ((codes "FrozenError") ∷ []))) no_more) (Some (codes "e")) (node 5 5 56 (statements (more (node 5 5 56 (send without (more (node 5 5 61 (send (with (node 5 5 61 (local (codes "e")))) no_more [] without (codes "message") false without)) no_more) [] without (codes "puts") false without)) no_more))) no_clause))))) no_more)))) ∷ [])

abbrev pub frozen : Type 0
frozen = frozen-run ≡ shows (codes "can't modify frozen Array\n") [] (exit 0) ([])

-- A block's own locals are not those around it:
--     /main.rb
--         b = proc { x = 1; x }
--         x = 5
--         b.call
--         puts x
--         y = 1
--         [2].each { |v| y = v }
--         puts y
abbrev pub block_locals-run : Shown
block_locals-run = run_of 1000 [] ((codes "/main.rb", node 1 1 0 (statements (more (node 1 1 0 (assign (node 1 1 4 (send without no_more [] without (codes "proc") false (with (node 1 1 9 (body no_param (node 1 1 11 (statements (more (node 1 1 11 (assign (node 1 1 15 (integer (pos 1))) (to_local (codes "x")))) (more (node 1 1 18 (local (codes "x"))) no_more))))))))) (to_local (codes "b")))) (more (node 2 2 22 (assign (node 2 2 26 (integer (pos 5))) (to_local (codes "x")))) (more (node 3 3 28 (send (with (node 3 3 28 (local (codes "b")))) no_more [] without (codes "call") false without)) (more (node 4 4 35 (send without (more (node 4 4 40 (local (codes "x"))) no_more) [] without (codes "puts") false without)) (more (node 5 5 42 (assign (node 5 5 46 (integer (pos 1))) (to_local (codes "y")))) (more (node 6 6 48 (send (with (node 6 6 48 (array (more (node 6 6 49 (integer (pos 2))) no_more) []))) no_more [] without (codes "each") false (with (node 6 6 57 (body (required (codes "v") no_param) (node 6 6 63 (statements (more (node 6 6 63 (assign (node 6 6 67 (local (codes "v"))) (to_local (codes "y")))) no_more)))))))) (more (node 7 7 71 (send without (more (node 7 7 76 (local (codes "y"))) no_more) [] without (codes "puts") false without)) no_more))))))))) ∷ [])

abbrev pub block_locals : Type 0
block_locals = block_locals-run ≡ shows (codes "5\n2\n") [] (exit 0) ([])

-- Operator assignments of attributes and elements:
--     /main.rb
--         h = {}
--         h[:a] ||= 1
--         h[:a] += 2
--         h[:b] &&= 1
--         p h
--         a, b = 1, [2]
--         p a, b
--         n = nil
--         p n&.size
abbrev pub operators-run : Shown
operators-run = run_of 1000 [] ((codes "/main.rb", node 1 1 0 (statements (more (node 1 1 0 (assign (node 1 1 4 (hash no_pair)) (to_local (codes "h")))) (more (node 2 2 7 (or_index (node 2 2 7 (local (codes "h"))) (node 2 2 9 (symbol (codes "a"))) (node 2 2 17 (integer (pos 1))))) (more (node 3 3 19 (operate_index (node 3 3 19 (local (codes "h"))) (node 3 3 21 (symbol (codes "a"))) (node 3 3 28 (integer (pos 2))) (codes "+") 3)) (more (node 4 4 30 (and_index (node 4 4 30 (local (codes "h"))) (node 4 4 32 (symbol (codes "b"))) (node 4 4 40 (integer (pos 1))))) (more (node 5 5 42 (send without (more (node 5 5 44 (local (codes "h"))) no_more) [] without (codes "p") false without)) (more (node 6 6 46 (assign_all (more (node 6 6 53 (integer (pos 1))) (more (node 6 6 56 (array (more (node 6 6 57 (integer (pos 2))) no_more) [])) no_more)) ((to_local (codes "a")) ∷ (to_local (codes "b")) ∷ []))) (more (node 7 7 60 (send without (more (node 7 7 62 (local (codes "a"))) (more (node 7 7 65 (local (codes "b"))) no_more)) [] without (codes "p") false without)) (more (node 8 8 67 (assign (node 8 8 71 nil_value) (to_local (codes "n")))) (more (node 9 9 75 (send without (more (node 9 9 77 (safe_send (node 9 9 77 (local (codes "n"))) no_more [] without (codes "size") without)) no_more) [] without (codes "p") false without)) no_more))))))))))) ∷ [])

abbrev pub operators : Type 0
operators = operators-run ≡ shows (codes "{:a=>3}\n1\n[2]\nnil\n") [] (exit 0) ([])

-- A missing program file has no position:
abbrev pub missing_program-run : Shown
missing_program-run = run_of 1000 [] ([])

abbrev pub missing_program : Type 0
missing_program = missing_program-run ≡ shows [] (codes "cannot load such file -- /main.rb (LoadError)\n") (exit 1) ([])

-- A load answers true and records nothing:
--     /main.rb
--         p load("a.rb")
--         p load("a.rb")
--     /lib/a.rb
--         puts 1
abbrev pub load_twice-run : Shown
load_twice-run = run_of 1000 [] ((codes "/main.rb", node 1 1 0 (statements (more (node 1 1 0 (send without (more (node 1 1 2 (send without (more (node 1 1 7 (text (codes "a.rb"))) no_more) [] without (codes "load") false without)) no_more) [] without (codes "p") false without)) (more (node 2 2 15 (send without (more (node 2 2 17 (send without (more (node 2 2 22 (text (codes "a.rb"))) no_more) [] without (codes "load") false without)) no_more) [] without (codes "p") false without)) no_more)))) ∷ (codes "/lib/a.rb", node 1 1 0 (statements (more (node 1 1 0 (send without (more (node 1 1 5 (integer (pos 1))) no_more) [] without (codes "puts") false without)) no_more))) ∷ [])

abbrev pub load_twice : Type 0
load_twice = load_twice-run ≡ shows (codes "1\ntrue\n1\ntrue\n") [] (exit 0) ([])

-- A file is required from the folder of the file that asks:
--     /main.rb
--         require "sub/a"
--     /lib/sub/a.rb
--         p require_relative("b")
--     /lib/sub/b.rb
--         puts __FILE__
abbrev pub relative-run : Shown
relative-run = run_of 1000 [] ((codes "/main.rb", node 1 1 0 (statements (more (node 1 1 0 (send without (more (node 1 1 8 (text (codes "sub/a"))) no_more) [] without (codes "require") false without)) no_more))) ∷ (codes "/lib/sub/a.rb", node 1 1 0 (statements (more (node 1 1 0 (send without (more (node 1 1 2 (send without (more (node 1 1 19 (text (codes "b"))) no_more) [] without (codes "require_relative") false without)) no_more) [] without (codes "p") false without)) no_more))) ∷ (codes "/lib/sub/b.rb", node 1 1 0 (statements (more (node 1 1 0 (send without (more (node 1 1 5 file_name) no_more) [] without (codes "puts") false without)) no_more))) ∷ [])

abbrev pub relative : Type 0
relative = relative-run ≡ shows (codes "/lib/sub/b.rb\ntrue\n") [] (exit 0) ((codes "/lib/sub/b.rb") ∷ (codes "/lib/sub/a.rb") ∷ [])

-- A block is handed on with & and by a super:
--     /main.rb
--         class A
--           def f() yield 1 end
--         end
--         class B < A
--           def f(&b) [1, 2].map(&b) end
--         end
--         class C < A
--           def f() super end
--         end
--         p B.new.f { |x| x * 2 }
--         p C.new.f { |x| x + 5 }
--         p [1, 2].map(&:succ)
abbrev pub given_blocks-run : Shown
given_blocks-run = run_of 1000 [] ((codes "/main.rb", node 1 1 0 (statements (more (node 1 1 0 (class without (codes "A") (node 1 1 0 (body no_param (node 2 2 10 (statements (more (node 2 2 10 (method (codes "f") (node 2 2 10 (body no_param (node 2 2 18 (statements (more (node 2 2 18 (yield (more (node 2 2 24 (integer (pos 1))) no_more) [])) no_more))))) false)) no_more))))))) (more (node 4 4 34 (class (with (node 4 4 44 (constant_path without false ((codes "A") ∷ [])))) (codes "B") (node 4 4 34 (body no_param (node 5 5 48 (statements (more (node 5 5 48 (method (codes "f") (node 5 5 48 (body (block_param (codes "b") no_param) (node 5 5 58 (statements (more (node 5 5 58 (send (with (node 5 5 58 (array (more (node 5 5 59 (integer (pos 1))) (more (node 5 5 62 (integer (pos 2))) no_more)) []))) no_more [] (with (node 5 5 70 (local (codes "b")))) (codes "map") false without)) no_more))))) false)) no_more))))))) (more (node 7 7 81 (class (with (node 7 7 91 (constant_path without false ((codes "A") ∷ [])))) (codes "C") (node 7 7 81 (body no_param (node 8 8 95 (statements (more (node 8 8 95 (method (codes "f") (node 8 8 95 (body no_param (node 8 8 103 (statements (more (node 8 8 103 (bare_super without)) no_more))))) false)) no_more))))))) (more (node 10 10 117 (send without (more (node 10 10 119 (send (with (node 10 10 119 (send (with (node 10 10 119 (constant_path without false ((codes "B") ∷ [])))) no_more [] without (codes "new") false without))) no_more [] without (codes "f") false (with (node 10 10 127 (body (required (codes "x") no_param) (node 10 10 133 (statements (more (node 10 10 133 (send (with (node 10 10 133 (local (codes "x")))) (more (node 10 10 137 (integer (pos 2))) no_more) [] without (codes "*") false without)) no_more)))))))) no_more) [] without (codes "p") false without)) (more (node 11 11 141 (send without (more (node 11 11 143 (send (with (node 11 11 143 (send (with (node 11 11 143 (constant_path without false ((codes "C") ∷ [])))) no_more [] without (codes "new") false without))) no_more [] without (codes "f") false (with (node 11 11 151 (body (required (codes "x") no_param) (node 11 11 157 (statements (more (node 11 11 157 (send (with (node 11 11 157 (local (codes "x")))) (more (node 11 11 161 (integer (pos 5))) no_more) [] without (codes "+") false without)) no_more)))))))) no_more) [] without (codes "p") false without)) (more (node 12 12 165 (send without (more (node 12 12 167 (send (with (node 12 12 167 (array (more (node 12 12 168 (integer (pos 1))) (more (node 12 12 171 (integer (pos 2))) no_more)) []))) no_more [] without (codes "map") false (with (node 12 12 178 (body (required (codes "x") no_param) (node 12 12 178 (statements (more (node 12 12 178 (send (with (node 12 12 178 (local (codes "x")))) no_more [] without (codes "succ") false without)) no_more)))))))) no_more) [] without (codes "p") false without)) no_more)))))))) ∷ [])

abbrev pub given_blocks : Type 0
given_blocks = given_blocks-run ≡ shows (codes "[2, 4]\n6\n[2, 3]\n") [] (exit 0) ([])

-- An ensure part that returns replaces what was raised:
--     /main.rb
--         def f
--           raise "x"
--         ensure
--           return 2
--         end
--         puts f
abbrev pub ensure_replaces-run : Shown
ensure_replaces-run = run_of 1000 [] ((codes "/main.rb", node 1 1 0 (statements (more (node 1 1 0 (method (codes "f") (node 1 1 0 (body no_param (node 2 2 8 (ensure (node 2 2 8 (statements (more (node 2 2 8 (send without (more (node 2 2 14 (text (codes "x"))) no_more) [] without (codes "raise") false without)) no_more))) (node 3 3 18 (ensure_sequence (node 3 3 24 (statements (more (node 4 4 27 (return_with (more (node 4 4 34 (integer (pos 2))) no_more))) no_more))))))))) false)) (more (node 6 6 40 (send without (more (node 6 6 45 (send without no_more [] without (codes "f") true without)) no_more) [] without (codes "puts") false without)) no_more)))) ∷ [])

abbrev pub ensure_replaces : Type 0
ensure_replaces = ensure_replaces-run ≡ shows (codes "2\n") [] (exit 0) ([])

-- A return in a block of a file's body raises LocalJumpError:
--     /main.rb
--         begin
--           [1].each { |x| return x }
--         rescue LocalJumpError => e
--           puts e.message
--         end
abbrev pub return_in_file_block-run : Shown
return_in_file_block-run = run_of 1000 [] ((codes "/main.rb", node 1 1 0 (statements (more (node 1 1 0 (rescue (node 1 1 5 (statements (more (node 2 2 8 (send (with (node 2 2 8 (array (more (node 2 2 9 (integer (pos 1))) no_more) []))) no_more [] without (codes "each") false (with (node 2 2 17 (body (required (codes "x") no_param) (node 2 2 23 (statements (more (node 2 2 23 (return_with (more (node 2 2 30 (local (codes "x"))) no_more))) no_more)))))))) no_more))) without (node 3 3 34 (rescue_sequence (clause (more (node 3 3 41 (constant_path without false ((codes "LocalJumpError") ∷ []))) no_more) (Some (codes "e")) (node 4 4 63 (statements (more (node 4 4 63 (send without (more (node 4 4 68 (send (with (node 4 4 68 (local (codes "e")))) no_more [] without (codes "message") false without)) no_more) [] without (codes "puts") false without)) no_more))) no_clause))))) no_more))) ∷ [])

abbrev pub return_in_file_block : Type 0
return_in_file_block = return_in_file_block-run ≡ shows (codes "unexpected return\n") [] (exit 0) ([])

-- Def self. needs a class or a module:
--     /main.rb
--         def f
--           def self.g() 1 end
--         end
--         f
abbrev pub singleton_refused-run : Shown
singleton_refused-run = run_of 1000 [] ((codes "/main.rb", node 1 1 0 (statements (more (node 1 1 0 (method (codes "f") (node 1 1 0 (body no_param (node 2 2 8 (statements (more (node 2 2 8 (method (codes "g") (node 2 2 8 (body no_param (node 2 2 21 (statements (more (node 2 2 21 (integer (pos 1))) no_more))))) true)) no_more))))) false)) (more (node 4 4 31 (send without no_more [] without (codes "f") true without)) no_more)))) ∷ [])

abbrev pub singleton_refused : Type 0
singleton_refused = singleton_refused-run ≡ shows [] (codes "/main.rb:2: can't define singleton (TypeError)\n") (exit 1) ([])

-- A frame past the limit raises SystemStackError:
--     /main.rb
--         def f
--           f
--         end
--         begin
--           f
--         rescue SystemStackError => e
--           puts e.message
--         end
abbrev pub stack_too_deep-run : Shown
stack_too_deep-run = run_of 3000 [] ((codes "/main.rb", node 1 1 0 (statements (more (node 1 1 0 (method (codes "f") (node 1 1 0 (body no_param (node 2 2 8 (statements (more (node 2 2 8 (send without no_more [] without (codes "f") true without)) no_more))))) false)) (more (node 4 4 14 (rescue (node 4 4 19 (statements (more (node 5 5 22 (send without no_more [] without (codes "f") true without)) no_more))) without (node 6 6 24 (rescue_sequence (clause (more (node 6 6 31 (constant_path without false ((codes "SystemStackError") ∷ []))) no_more) (Some (codes "e")) (node 7 7 55 (statements (more (node 7 7 55 (send without (more (node 7 7 60 (send (with (node 7 7 60 (local (codes "e")))) no_more [] without (codes "message") false without)) no_more) [] without (codes "puts") false without)) no_more))) no_clause))))) no_more)))) ∷ [])

abbrev pub stack_too_deep : Type 0
stack_too_deep = stack_too_deep-run ≡ shows (codes "stack level too deep\n") [] (exit 0) ([])

-- A block value that is no Proc is refused:
--     /main.rb
--         begin
--           [1].each(&1)
--         rescue TypeError => e
--           puts e.message
--         end
--         p [[1, 2]].map { |a, *b| b }
abbrev pub block_values-run : Shown
block_values-run = run_of 1000 [] ((codes "/main.rb", node 1 1 0 (statements (more (node 1 1 0 (rescue (node 1 1 5 (statements (more (node 2 2 8 (send (with (node 2 2 8 (array (more (node 2 2 9 (integer (pos 1))) no_more) []))) no_more [] (with (node 2 2 18 (integer (pos 1)))) (codes "each") false without)) no_more))) without (node 3 3 21 (rescue_sequence (clause (more (node 3 3 28 (constant_path without false ((codes "TypeError") ∷ []))) no_more) (Some (codes "e")) (node 4 4 45 (statements (more (node 4 4 45 (send without (more (node 4 4 50 (send (with (node 4 4 50 (local (codes "e")))) no_more [] without (codes "message") false without)) no_more) [] without (codes "puts") false without)) no_more))) no_clause))))) (more (node 6 6 64 (send without (more (node 6 6 66 (send (with (node 6 6 66 (array (more (node 6 6 67 (array (more (node 6 6 68 (integer (pos 1))) (more (node 6 6 71 (integer (pos 2))) no_more)) [])) no_more) []))) no_more [] without (codes "map") false (with (node 6 6 79 (body (required (codes "a") (rest_param (codes "b") no_param)) (node 6 6 89 (statements (more (node 6 6 89 (local (codes "b"))) no_more)))))))) no_more) [] without (codes "p") false without)) no_more)))) ∷ [])

abbrev pub block_values : Type 0
block_values = block_values-run ≡ shows (codes "wrong argument type Integer (expected Proc)\n[[2]]\n") [] (exit 0) ([])

-- A module's methods come behind the class's, and include answers once:
--     /main.rb
--         module M
--           def m() "m" end
--         end
--         class A
--           include M
--           def self.k() self.name end
--         end
--         class B < A
--         end
--         puts B.new.m, B.k, B.superclass
--         p B.new.is_a?(M), A === B.new
abbrev pub module_methods-run : Shown
module_methods-run = run_of 1000 [] ((codes "/main.rb", node 1 1 0 (statements (more (node 1 1 0 (module_named (codes "M") (node 1 1 0 (body no_param (node 2 2 11 (statements (more (node 2 2 11 (method (codes "m") (node 2 2 11 (body no_param (node 2 2 19 (statements (more (node 2 2 19 (text (codes "m"))) no_more))))) false)) no_more))))))) (more (node 4 4 31 (class without (codes "A") (node 4 4 31 (body no_param (node 5 5 41 (statements (more (node 5 5 41 (send without (more (node 5 5 49 (constant_path without false ((codes "M") ∷ []))) no_more) [] without (codes "include") false without)) (more (node 6 6 53 (method (codes "k") (node 6 6 53 (body no_param (node 6 6 66 (statements (more (node 6 6 66 (send (with (node 6 6 66 self_value)) no_more [] without (codes "name") false without)) no_more))))) true)) no_more)))))))) (more (node 8 8 84 (class (with (node 8 8 94 (constant_path without false ((codes "A") ∷ [])))) (codes "B") (node 8 8 84 (body no_param (node 0 0 0 (statements no_more)))))) (more (node 10 10 100 (send without (more (node 10 10 105 (send (with (node 10 10 105 (send (with (node 10 10 105 (constant_path without false ((codes "B") ∷ [])))) no_more [] without (codes "new") false without))) no_more [] without (codes "m") false without)) (more (node 10 10 114 (send (with (node 10 10 114 (constant_path without false ((codes "B") ∷ [])))) no_more [] without (codes "k") false without)) (more (node 10 10 119 (send (with (node 10 10 119 (constant_path without false ((codes "B") ∷ [])))) no_more [] without (codes "superclass") false without)) no_more))) [] without (codes "puts") false without)) (more (node 11 11 132 (send without (more (node 11 11 134 (send (with (node 11 11 134 (send (with (node 11 11 134 (constant_path without false ((codes "B") ∷ [])))) no_more [] without (codes "new") false without))) (more (node 11 11 146 (constant_path without false ((codes "M") ∷ []))) no_more) [] without (codes "is_a?") false without)) (more (node 11 11 150 (send (with (node 11 11 150 (constant_path without false ((codes "A") ∷ [])))) (more (node 11 11 156 (send (with (node 11 11 156 (constant_path without false ((codes "B") ∷ [])))) no_more [] without (codes "new") false without)) no_more) [] without (codes "===") false without)) no_more)) [] without (codes "p") false without)) no_more))))))) ∷ [])

abbrev pub module_methods : Type 0
module_methods = module_methods-run ≡ shows (codes "m\nB\nA\ntrue\ntrue\n") [] (exit 0) ([])

-- A global that is read-only:
--     /main.rb
--         $x = 1
--         p $x, $y, $0
--         $0 = 1
abbrev pub global_names-run : Shown
global_names-run = run_of 1000 [] ((codes "/main.rb", node 1 1 0 (statements (more (node 1 1 0 (assign (node 1 1 5 (integer (pos 1))) (to_global (codes "$x")))) (more (node 2 2 7 (send without (more (node 2 2 9 (global (codes "$x"))) (more (node 2 2 13 (global (codes "$y"))) (more (node 2 2 17 (global (codes "$0"))) no_more))) [] without (codes "p") false without)) (more (node 3 3 20 (assign (node 3 3 25 (integer (pos 1))) (to_global (codes "$0")))) no_more))))) ∷ [])

abbrev pub global_names : Type 0
global_names = global_names-run ≡ shows (codes "1\nnil\n\"/main.rb\"\n") (codes "/main.rb:3: $0 is a read-only variable (NameError)\n") (exit 1) ([])

-- A yield without a block raises LocalJumpError:
--     /main.rb
--         def f() yield end
--         begin
--           f
--         rescue LocalJumpError => e
--           puts e.message
--         end
abbrev pub yield_without_block-run : Shown
yield_without_block-run = run_of 1000 [] ((codes "/main.rb", node 1 1 0 (statements (more (node 1 1 0 (method (codes "f") (node 1 1 0 (body no_param (node 1 1 8 (statements (more (node 1 1 8 (yield no_more [])) no_more))))) false)) (more (node 2 2 18 (rescue (node 2 2 23 (statements (more (node 3 3 26 (send without no_more [] without (codes "f") true without)) no_more))) without (node 4 4 28 (rescue_sequence (clause (more (node 4 4 35 (constant_path without false ((codes "LocalJumpError") ∷ []))) no_more) (Some (codes "e")) (node 5 5 57 (statements (more (node 5 5 57 (send without (more (node 5 5 62 (send (with (node 5 5 62 (local (codes "e")))) no_more [] without (codes "message") false without)) no_more) [] without (codes "puts") false without)) no_more))) no_clause))))) no_more)))) ∷ [])

abbrev pub yield_without_block : Type 0
yield_without_block = yield_without_block-run ≡ shows (codes "no block given (yield)\n") [] (exit 0) ([])

-- Ensure parts run inside out:
--     /main.rb
--         def f
--           begin
--             begin
--               yield
--             ensure
--               puts 1
--             end
--           ensure
--             puts 2
--           end
--         end
--         [1].each { |x| f { next } }
--         f { puts 0 }
--         puts [3].each { |x| f { break 9 } }
abbrev pub ensure_and_break-run : Shown
ensure_and_break-run = run_of 1000 [] ((codes "/main.rb", node 1 1 0 (statements (more (node 1 1 0 (method (codes "f") (node 1 1 0 (body no_param (node 2 2 8 (statements (more (node 2 2 8 (ensure (node 2 2 13 (statements (more (node 3 3 18 (ensure (node 3 3 23 (statements (more (node 4 4 30 (yield no_more [])) no_more))) (node 5 5 40 (ensure_sequence (node 5 5 46 (statements (more (node 6 6 53 (send without (more (node 6 6 58 (integer (pos 1))) no_more) [] without (codes "puts") false without)) no_more))))))) no_more))) (node 8 8 70 (ensure_sequence (node 8 8 76 (statements (more (node 9 9 81 (send without (more (node 9 9 86 (integer (pos 2))) no_more) [] without (codes "puts") false without)) no_more))))))) no_more))))) false)) (more (node 12 12 98 (send (with (node 12 12 98 (array (more (node 12 12 99 (integer (pos 1))) no_more) []))) no_more [] without (codes "each") false (with (node 12 12 107 (body (required (codes "x") no_param) (node 12 12 113 (statements (more (node 12 12 113 (send without no_more [] without (codes "f") false (with (node 12 12 115 (body no_param (node 12 12 117 (statements (more (node 12 12 117 (next_with no_more)) no_more)))))))) no_more)))))))) (more (node 13 13 126 (send without no_more [] without (codes "f") false (with (node 13 13 128 (body no_param (node 13 13 130 (statements (more (node 13 13 130 (send without (more (node 13 13 135 (integer (pos 0))) no_more) [] without (codes "puts") false without)) no_more)))))))) (more (node 14 14 139 (send without (more (node 14 14 144 (send (with (node 14 14 144 (array (more (node 14 14 145 (integer (pos 3))) no_more) []))) no_more [] without (codes "each") false (with (node 14 14 153 (body (required (codes "x") no_param) (node 14 14 159 (statements (more (node 14 14 159 (send without no_more [] without (codes "f") false (with (node 14 14 161 (body no_param (node 14 14 163 (statements (more (node 14 14 163 (break_with (more (node 14 14 169 (integer (pos 9))) no_more))) no_more)))))))) no_more)))))))) no_more) [] without (codes "puts") false without)) no_more)))))) ∷ [])

abbrev pub ensure_and_break : Type 0
ensure_and_break = ensure_and_break-run ≡ shows (codes "1\n2\n0\n1\n2\n1\n2\n3\n") [] (exit 0) ([])

-- One turn each for the file, puts, each, its loop, the block and the method in it:
--     /main.rb
--         puts 1
abbrev pub exact_turns-run : Shown
exact_turns-run = run_of 6 [] ((codes "/main.rb", node 1 1 0 (statements (more (node 1 1 0 (send without (more (node 1 1 5 (integer (pos 1))) no_more) [] without (codes "puts") false without)) no_more))) ∷ [])

abbrev pub exact_turns : Type 0
exact_turns = exact_turns-run ≡ shows (codes "1\n") [] (exit 0) ([])

-- One turn less does not do:
--     /main.rb
--         puts 1
abbrev pub one_turn_less-run : Shown
one_turn_less-run = run_of 5 [] ((codes "/main.rb", node 1 1 0 (statements (more (node 1 1 0 (send without (more (node 1 1 5 (integer (pos 1))) no_more) [] without (codes "puts") false without)) no_more))) ∷ [])

abbrev pub one_turn_less : Type 0
one_turn_less = one_turn_less-run ≡ shows [] [] turns_spent ([])

-- The arguments of a call are counted before its turn, which is not there:
--     /main.rb
--         def f(x) end
--         f
abbrev pub count_before_turn-run : Shown
count_before_turn-run = run_of 1 [] ((codes "/main.rb", node 1 1 0 (statements (more (node 1 1 0 (method (codes "f") (node 1 1 0 (body (required (codes "x") no_param) (node 0 0 0 (statements no_more)))) false)) (more (node 2 2 13 (send without no_more [] without (codes "f") true without)) no_more)))) ∷ [])

abbrev pub count_before_turn : Type 0
count_before_turn = count_before_turn-run ≡ shows [] (codes "/main.rb:2: wrong number of arguments (given 0, expected 1) (ArgumentError)\n") (exit 1) ([])

-- The turn of a call comes before its depth: both are at their end:
--     /main.rb
--         def f
--           f
--         end
--         f
abbrev pub turn_before_depth-run : Shown
turn_before_depth-run = run_of 2000 [] ((codes "/main.rb", node 1 1 0 (statements (more (node 1 1 0 (method (codes "f") (node 1 1 0 (body no_param (node 2 2 8 (statements (more (node 2 2 8 (send without no_more [] without (codes "f") true without)) no_more))))) false)) (more (node 4 4 14 (send without no_more [] without (codes "f") true without)) no_more)))) ∷ [])

abbrev pub turn_before_depth : Type 0
turn_before_depth = turn_before_depth-run ≡ shows [] [] turns_spent ([])

-- A return in a block leaves the method through the one that was given it:
--     /main.rb
--         def g
--           yield
--           puts "no"
--         ensure
--           puts "g"
--         end
--         def f
--           g { return 1 }
--           2
--         end
--         puts f
abbrev pub return_through_block-run : Shown
return_through_block-run = run_of 1000 [] ((codes "/main.rb", node 1 1 0 (statements (more (node 1 1 0 (method (codes "g") (node 1 1 0 (body no_param (node 2 2 8 (ensure (node 2 2 8 (statements (more (node 2 2 8 (yield no_more [])) (more (node 3 3 16 (send without (more (node 3 3 21 (text (codes "no"))) no_more) [] without (codes "puts") false without)) no_more)))) (node 4 4 26 (ensure_sequence (node 4 4 32 (statements (more (node 5 5 35 (send without (more (node 5 5 40 (text (codes "g"))) no_more) [] without (codes "puts") false without)) no_more))))))))) false)) (more (node 7 7 48 (method (codes "f") (node 7 7 48 (body no_param (node 8 8 56 (statements (more (node 8 8 56 (send without no_more [] without (codes "g") false (with (node 8 8 58 (body no_param (node 8 8 60 (statements (more (node 8 8 60 (return_with (more (node 8 8 67 (integer (pos 1))) no_more))) no_more)))))))) (more (node 9 9 73 (integer (pos 2))) no_more)))))) false)) (more (node 11 11 79 (send without (more (node 11 11 84 (send without no_more [] without (codes "f") true without)) no_more) [] without (codes "puts") false without)) no_more))))) ∷ [])

abbrev pub return_through_block : Type 0
return_through_block = return_through_block-run ≡ shows (codes "g\n1\n") [] (exit 0) ([])

-- What the else part raises is not rescued there:
--     /main.rb
--         begin
--           begin
--             1
--           rescue
--             puts "inner"
--           else
--             raise "x"
--           end
--         rescue => e
--           puts "outer #{e.message}"
--         end
abbrev pub raise_in_else-run : Shown
raise_in_else-run = run_of 1000 [] ((codes "/main.rb", node 1 1 0 (statements (more (node 1 1 0 (rescue (node 1 1 5 (statements (more (node 2 2 8 (rescue (node 2 2 13 (statements (more (node 3 3 18 (integer (pos 1))) no_more))) (with (node 6 6 52 (statements (more (node 7 7 57 (send without (more (node 7 7 63 (text (codes "x"))) no_more) [] without (codes "raise") false without)) no_more)))) (node 4 4 22 (rescue_sequence (clause no_more None (node 5 5 33 (statements (more (node 5 5 33 (send without (more (node 5 5 38 (text (codes "inner"))) no_more) [] without (codes "puts") false without)) no_more))) no_clause))))) no_more))) without (node 9 9 73 (rescue_sequence (clause no_more (Some (codes "e")) (node 10 10 87 (statements (more (node 10 10 87 (send without (more (node 10 10 92 (joined (plain_piece (codes "outer ") (code_piece (node 10 10 101 (statements (more (node 10 10 101 (send (with (node 10 10 101 (local (codes "e")))) no_more [] without (codes "message") false without)) no_more))) no_piece)))) no_more) [] without (codes "puts") false without)) no_more))) no_clause))))) no_more))) ∷ [])

abbrev pub raise_in_else : Type 0
raise_in_else = raise_in_else-run ≡ shows (codes "outer x\n") [] (exit 0) ([])

-- A rescue clause takes classes alone:
--     /main.rb
--         begin
--           begin
--             raise "x"
--           rescue 1
--           end
--         rescue TypeError => e
--           puts e.message
--         end
abbrev pub rescue_of_no_class-run : Shown
rescue_of_no_class-run = run_of 1000 [] ((codes "/main.rb", node 1 1 0 (statements (more (node 1 1 0 (rescue (node 1 1 5 (statements (more (node 2 2 8 (rescue (node 2 2 13 (statements (more (node 3 3 18 (send without (more (node 3 3 24 (text (codes "x"))) no_more) [] without (codes "raise") false without)) no_more))) without (node 4 4 30 (rescue_sequence (clause (more (node 4 4 37 (integer (pos 1))) no_more) None (node 0 0 0 (statements no_more)) no_clause))))) no_more))) without (node 6 6 45 (rescue_sequence (clause (more (node 6 6 52 (constant_path without false ((codes "TypeError") ∷ []))) no_more) (Some (codes "e")) (node 7 7 69 (statements (more (node 7 7 69 (send without (more (node 7 7 74 (send (with (node 7 7 74 (local (codes "e")))) no_more [] without (codes "message") false without)) no_more) [] without (codes "puts") false without)) no_more))) no_clause))))) no_more))) ∷ [])

abbrev pub rescue_of_no_class : Type 0
rescue_of_no_class = rescue_of_no_class-run ≡ shows (codes "class or module required for rescue clause\n") [] (exit 0) ([])

-- A clause with several classes, and the first that fits:
--     /main.rb
--         def f(e)
--           raise e
--         rescue KeyError, NameError => x
--           puts "a #{x.message}"
--         rescue StandardError
--           puts "b"
--         end
--         f(IndexError)
--         f(NoMethodError.new("m"))
abbrev pub several_classes-run : Shown
several_classes-run = run_of 1000 [] ((codes "/main.rb", node 1 1 0 (statements (more (node 1 1 0 (method (codes "f") (node 1 1 0 (body (required (codes "e") no_param) (node 1 1 8 (rescue (node 1 1 8 (statements (more (node 2 2 11 (send without (more (node 2 2 17 (local (codes "e"))) no_more) [] without (codes "raise") false without)) no_more))) without (node 3 3 19 (rescue_sequence (clause (more (node 3 3 26 (constant_path without false ((codes "KeyError") ∷ []))) (more (node 3 3 36 (constant_path without false ((codes "NameError") ∷ []))) no_more)) (Some (codes "x")) (node 4 4 53 (statements (more (node 4 4 53 (send without (more (node 4 4 58 (joined (plain_piece (codes "a ") (code_piece (node 4 4 63 (statements (more (node 4 4 63 (send (with (node 4 4 63 (local (codes "x")))) no_more [] without (codes "message") false without)) no_more))) no_piece)))) no_more) [] without (codes "puts") false without)) no_more))) (clause (more (node 5 5 82 (constant_path without false ((codes "StandardError") ∷ []))) no_more) None (node 6 6 98 (statements (more (node 6 6 98 (send without (more (node 6 6 103 (text (codes "b"))) no_more) [] without (codes "puts") false without)) no_more))) no_clause)))))))) false)) (more (node 8 8 111 (send without (more (node 8 8 113 (constant_path without false ((codes "IndexError") ∷ []))) no_more) [] without (codes "f") false without)) (more (node 9 9 125 (send without (more (node 9 9 127 (send (with (node 9 9 127 (constant_path without false ((codes "NoMethodError") ∷ [])))) (more (node 9 9 145 (text (codes "m"))) no_more) [] without (codes "new") false without)) no_more) [] without (codes "f") false without)) no_more))))) ∷ [])

abbrev pub several_classes : Type 0
several_classes = several_classes-run ≡ shows (codes "b\na m\n") [] (exit 0) ([])

-- A text with code asks for to_s, and takes what is no String by its class:
--     /main.rb
--         class A
--           def to_s() 1 end
--         end
--         class B
--           def to_s() "b" end
--         end
--         puts "#{A.new} #{B.new} #{nil}."
abbrev pub own_to_s-run : Shown
own_to_s-run = run_of 1000 [] ((codes "/main.rb", node 1 1 0 (statements (more (node 1 1 0 (class without (codes "A") (node 1 1 0 (body no_param (node 2 2 10 (statements (more (node 2 2 10 (method (codes "to_s") (node 2 2 10 (body no_param (node 2 2 21 (statements (more (node 2 2 21 (integer (pos 1))) no_more))))) false)) no_more))))))) (more (node 4 4 31 (class without (codes "B") (node 4 4 31 (body no_param (node 5 5 41 (statements (more (node 5 5 41 (method (codes "to_s") (node 5 5 41 (body no_param (node 5 5 52 (statements (more (node 5 5 52 (text (codes "b"))) no_more))))) false)) no_more))))))) (more (node 7 7 64 (send without (more (node 7 7 69 (joined (code_piece (node 7 7 72 (statements (more (node 7 7 72 (send (with (node 7 7 72 (constant_path without false ((codes "A") ∷ [])))) no_more [] without (codes "new") false without)) no_more))) (plain_piece (codes " ") (code_piece (node 7 7 81 (statements (more (node 7 7 81 (send (with (node 7 7 81 (constant_path without false ((codes "B") ∷ [])))) no_more [] without (codes "new") false without)) no_more))) (plain_piece (codes " ") (code_piece (node 7 7 90 (statements (more (node 7 7 90 nil_value) no_more))) (plain_piece (codes ".") no_piece)))))))) no_more) [] without (codes "puts") false without)) no_more))))) ∷ [])

abbrev pub own_to_s : Type 0
own_to_s = own_to_s-run ≡ shows (codes "#<A> b .\n") [] (exit 0) ([])

-- An exception stands where the block stands, not in the prelude:
--     /main.rb
--         [1].each do |x|
--           x.foo
--         end
abbrev pub place_in_a_block-run : Shown
place_in_a_block-run = run_of 1000 [] ((codes "/main.rb", node 1 1 0 (statements (more (node 1 1 0 (send (with (node 1 1 0 (array (more (node 1 1 1 (integer (pos 1))) no_more) []))) no_more [] without (codes "each") false (with (node 1 1 9 (body (required (codes "x") no_param) (node 2 2 18 (statements (more (node 2 2 18 (send (with (node 2 2 18 (local (codes "x")))) no_more [] without (codes "foo") false without)) no_more)))))))) no_more))) ∷ [])

abbrev pub place_in_a_block : Type 0
place_in_a_block = place_in_a_block-run ≡ shows [] (codes "/main.rb:2: undefined method foo for Integer (NoMethodError)\n") (exit 1) ([])

-- A frozen Array of features refuses the file that was loaded:
--     /main.rb
--         $LOADED_FEATURES.freeze
--         begin
--           require "a"
--         rescue FrozenError => e
--           puts e.message
--         end
--     /lib/a.rb
--         puts "a"
abbrev pub frozen_features-run : Shown
frozen_features-run = run_of 1000 [] ((codes "/main.rb", node 1 1 0 (statements (more (node 1 1 0 (send (with (node 1 1 0 (global (codes "$LOADED_FEATURES")))) no_more [] without (codes "freeze") false without)) (more (node 2 2 24 (rescue (node 2 2 29 (statements (more (node 3 3 32 (send without (more (node 3 3 40 (text (codes "a"))) no_more) [] without (codes "require") false without)) no_more))) without (node 4 4 44 (rescue_sequence (clause (more (node 4 4 51 (constant_path without false ((codes "FrozenError") ∷ []))) no_more) (Some (codes "e")) (node 5 5 70 (statements (more (node 5 5 70 (send without (more (node 5 5 75 (send (with (node 5 5 75 (local (codes "e")))) no_more [] without (codes "message") false without)) no_more) [] without (codes "puts") false without)) no_more))) no_clause))))) no_more)))) ∷ (codes "/lib/a.rb", node 1 1 0 (statements (more (node 1 1 0 (send without (more (node 1 1 5 (text (codes "a"))) no_more) [] without (codes "puts") false without)) no_more))) ∷ [])

abbrev pub frozen_features : Type 0
frozen_features = frozen_features-run ≡ shows (codes "a\ncan't modify frozen Array\n") [] (exit 0) ([])

-- A name that is no String is refused:
--     /main.rb
--         begin
--           require nil
--         rescue TypeError => e
--           puts e.message
--         end
--         begin
--           load "x.rb"
--         rescue LoadError => e
--           puts e.message
--         end
abbrev pub no_text-run : Shown
no_text-run = run_of 1000 [] ((codes "/main.rb", node 1 1 0 (statements (more (node 1 1 0 (rescue (node 1 1 5 (statements (more (node 2 2 8 (send without (more (node 2 2 16 nil_value) no_more) [] without (codes "require") false without)) no_more))) without (node 3 3 20 (rescue_sequence (clause (more (node 3 3 27 (constant_path without false ((codes "TypeError") ∷ []))) no_more) (Some (codes "e")) (node 4 4 44 (statements (more (node 4 4 44 (send without (more (node 4 4 49 (send (with (node 4 4 49 (local (codes "e")))) no_more [] without (codes "message") false without)) no_more) [] without (codes "puts") false without)) no_more))) no_clause))))) (more (node 6 6 63 (rescue (node 6 6 68 (statements (more (node 7 7 71 (send without (more (node 7 7 76 (text (codes "x.rb"))) no_more) [] without (codes "load") false without)) no_more))) without (node 8 8 83 (rescue_sequence (clause (more (node 8 8 90 (constant_path without false ((codes "LoadError") ∷ []))) no_more) (Some (codes "e")) (node 9 9 107 (statements (more (node 9 9 107 (send without (more (node 9 9 112 (send (with (node 9 9 112 (local (codes "e")))) no_more [] without (codes "message") false without)) no_more) [] without (codes "puts") false without)) no_more))) no_clause))))) no_more)))) ∷ [])

abbrev pub no_text : Type 0
no_text = no_text-run ≡ shows (codes "no implicit conversion of nil into String\ncannot load such file -- x.rb\n") [] (exit 0) ([])

-- Super of a method on self, with a block, and none above:
--     /main.rb
--         class A
--           def self.f(x) yield x end
--         end
--         class B < A
--           def self.f(x)
--             super(x) { |y| y + 1 }
--           end
--           def g() super end
--         end
--         puts B.f(1)
--         begin
--           B.new.g
--         rescue NoMethodError => e
--           puts e.message
--         end
abbrev pub super_on_self-run : Shown
super_on_self-run = run_of 1000 [] ((codes "/main.rb", node 1 1 0 (statements (more (node 1 1 0 (class without (codes "A") (node 1 1 0 (body no_param (node 2 2 10 (statements (more (node 2 2 10 (method (codes "f") (node 2 2 10 (body (required (codes "x") no_param) (node 2 2 24 (statements (more (node 2 2 24 (yield (more (node 2 2 30 (local (codes "x"))) no_more) [])) no_more))))) true)) no_more))))))) (more (node 4 4 40 (class (with (node 4 4 50 (constant_path without false ((codes "A") ∷ [])))) (codes "B") (node 4 4 40 (body no_param (node 5 5 54 (statements (more (node 5 5 54 (method (codes "f") (node 5 5 54 (body (required (codes "x") no_param) (node 5 5 67 (statements (more (node 6 6 72 (super (more (node 6 6 78 (local (codes "x"))) no_more) [] without (with (node 6 6 81 (body (required (codes "y") no_param) (node 6 6 87 (statements (more (node 6 6 87 (send (with (node 6 6 87 (local (codes "y")))) (more (node 6 6 91 (integer (pos 1))) no_more) [] without (codes "+") false without)) no_more)))))))) no_more))))) true)) (more (node 8 8 103 (method (codes "g") (node 8 8 103 (body no_param (node 8 8 111 (statements (more (node 8 8 111 (bare_super without)) no_more))))) false)) no_more)))))))) (more (node 10 10 125 (send without (more (node 10 10 130 (send (with (node 10 10 130 (constant_path without false ((codes "B") ∷ [])))) (more (node 10 10 134 (integer (pos 1))) no_more) [] without (codes "f") false without)) no_more) [] without (codes "puts") false without)) (more (node 11 11 137 (rescue (node 11 11 142 (statements (more (node 12 12 145 (send (with (node 12 12 145 (send (with (node 12 12 145 (constant_path without false ((codes "B") ∷ [])))) no_more [] without (codes "new") false without))) no_more [] without (codes "g") false without)) no_more))) without (node 13 13 153 (rescue_sequence (clause (more (node 13 13 160 (constant_path without false ((codes "NoMethodError") ∷ []))) no_more) (Some (codes "e")) (node 14 14 181 (statements (more (node 14 14 181 (send without (more (node 14 14 186 (send (with (node 14 14 186 (local (codes "e")))) no_more [] without (codes "message") false without)) no_more) [] without (codes "puts") false without)) no_more))) no_clause))))) no_more)))))) ∷ [])

abbrev pub super_on_self : Type 0
super_on_self = super_on_self-run ≡ shows (codes "2\nundefined method g for B\n") [] (exit 0) ([])

-- A method sees the constants of the bodies that it stands in:
--     /main.rb
--         module M
--           K = 1
--           class A
--             def k() K end
--           end
--         end
--         class B < M::A
--           K = 2
--         end
--         puts B.new.k, B::K
--         begin
--           M::A::String
--         rescue NameError => e
--           puts e.message
--         end
abbrev pub lexical_constants-run : Shown
lexical_constants-run = run_of 1000 [] ((codes "/main.rb", node 1 1 0 (statements (more (node 1 1 0 (module_named (codes "M") (node 1 1 0 (body no_param (node 2 2 11 (statements (more (node 2 2 11 (assign (node 2 2 15 (integer (pos 1))) (to_constant (codes "K")))) (more (node 3 3 19 (class without (codes "A") (node 3 3 19 (body no_param (node 4 4 31 (statements (more (node 4 4 31 (method (codes "k") (node 4 4 31 (body no_param (node 4 4 39 (statements (more (node 4 4 39 (constant_path without false ((codes "K") ∷ []))) no_more))))) false)) no_more))))))) no_more)))))))) (more (node 7 7 55 (class (with (node 7 7 65 (constant_path without false ((codes "M") ∷ (codes "A") ∷ [])))) (codes "B") (node 7 7 55 (body no_param (node 8 8 72 (statements (more (node 8 8 72 (assign (node 8 8 76 (integer (pos 2))) (to_constant (codes "K")))) no_more))))))) (more (node 10 10 82 (send without (more (node 10 10 87 (send (with (node 10 10 87 (send (with (node 10 10 87 (constant_path without false ((codes "B") ∷ [])))) no_more [] without (codes "new") false without))) no_more [] without (codes "k") false without)) (more (node 10 10 96 (constant_path without false ((codes "B") ∷ (codes "K") ∷ []))) no_more)) [] without (codes "puts") false without)) (more (node 11 11 101 (rescue (node 11 11 106 (statements (more (node 12 12 109 (constant_path without false ((codes "M") ∷ (codes "A") ∷ (codes "String") ∷ []))) no_more))) without (node 13 13 122 (rescue_sequence (clause (more (node 13 13 129 (constant_path without false ((codes "NameError") ∷ []))) no_more) (Some (codes "e")) (node 14 14 146 (statements (more (node 14 14 146 (send without (more (node 14 14 151 (send (with (node 14 14 151 (local (codes "e")))) no_more [] without (codes "message") false without)) no_more) [] without (codes "puts") false without)) no_more))) no_clause))))) no_more)))))) ∷ [])

abbrev pub lexical_constants : Type 0
lexical_constants = lexical_constants-run ≡ shows (codes "1\n2\nuninitialized constant M::A::String\n") [] (exit 0) ([])

-- A local is known from its place in the text on:
--     /main.rb
--         x = [2].map { |v| v + 1 } if true
--         p x
--         y = proc { z = 1; z }
--         z = 5
--         y.call
--         p z
--         i = 0
--         i += 1 while i < 3
--         p i
abbrev pub locals_of_modifiers-run : Shown
locals_of_modifiers-run = run_of 1000 [] ((codes "/main.rb", node 1 1 0 (statements (more (node 1 1 0 (if_else (node 1 1 29 true_value) (node 1 1 0 (statements (more (node 1 1 0 (assign (node 1 1 4 (send (with (node 1 1 4 (array (more (node 1 1 5 (integer (pos 2))) no_more) []))) no_more [] without (codes "map") false (with (node 1 1 12 (body (required (codes "v") no_param) (node 1 1 18 (statements (more (node 1 1 18 (send (with (node 1 1 18 (local (codes "v")))) (more (node 1 1 22 (integer (pos 1))) no_more) [] without (codes "+") false without)) no_more)))))))) (to_local (codes "x")))) no_more))) without)) (more (node 2 2 34 (send without (more (node 2 2 36 (local (codes "x"))) no_more) [] without (codes "p") false without)) (more (node 3 3 38 (assign (node 3 3 42 (send without no_more [] without (codes "proc") false (with (node 3 3 47 (body no_param (node 3 3 49 (statements (more (node 3 3 49 (assign (node 3 3 53 (integer (pos 1))) (to_local (codes "z")))) (more (node 3 3 56 (local (codes "z"))) no_more))))))))) (to_local (codes "y")))) (more (node 4 4 60 (assign (node 4 4 64 (integer (pos 5))) (to_local (codes "z")))) (more (node 5 5 66 (send (with (node 5 5 66 (local (codes "y")))) no_more [] without (codes "call") false without)) (more (node 6 6 73 (send without (more (node 6 6 75 (local (codes "z"))) no_more) [] without (codes "p") false without)) (more (node 7 7 77 (assign (node 7 7 81 (integer (pos 0))) (to_local (codes "i")))) (more (node 8 8 83 (while_loop (node 8 8 83 (statements (more (node 8 8 83 (assign (node 8 8 83 (send (with (node 8 8 83 (local (codes "i")))) (more (node 8 8 88 (integer (pos 1))) no_more) [] without (codes "+") false without)) (to_local (codes "i")))) no_more))) (node 8 8 96 (send (with (node 8 8 96 (local (codes "i")))) (more (node 8 8 100 (integer (pos 3))) no_more) [] without (codes "<") false without)) false false)) (more (node 9 9 102 (send without (more (node 9 9 104 (local (codes "i"))) no_more) [] without (codes "p") false without)) no_more))))))))))) ∷ [])

abbrev pub locals_of_modifiers : Type 0
locals_of_modifiers = locals_of_modifiers-run ≡ shows (codes "[3]\n5\n3\n") [] (exit 0) ([])

-- Receiver and arguments come before the method is found, and the count before the turn:
--     /main.rb
--         def a(n)
--           puts n
--           n
--         end
--         begin
--           a(1).foo(a(2))
--         rescue NoMethodError => e
--           puts e.message
--         end
abbrev pub order_of_a_call-run : Shown
order_of_a_call-run = run_of 1000 [] ((codes "/main.rb", node 1 1 0 (statements (more (node 1 1 0 (method (codes "a") (node 1 1 0 (body (required (codes "n") no_param) (node 1 1 8 (statements (more (node 2 2 11 (send without (more (node 2 2 16 (local (codes "n"))) no_more) [] without (codes "puts") false without)) (more (node 3 3 20 (local (codes "n"))) no_more)))))) false)) (more (node 5 5 26 (rescue (node 5 5 31 (statements (more (node 6 6 34 (send (with (node 6 6 34 (send without (more (node 6 6 36 (integer (pos 1))) no_more) [] without (codes "a") false without))) (more (node 6 6 43 (send without (more (node 6 6 45 (integer (pos 2))) no_more) [] without (codes "a") false without)) no_more) [] without (codes "foo") false without)) no_more))) without (node 7 7 49 (rescue_sequence (clause (more (node 7 7 56 (constant_path without false ((codes "NoMethodError") ∷ []))) no_more) (Some (codes "e")) (node 8 8 77 (statements (more (node 8 8 77 (send without (more (node 8 8 82 (send (with (node 8 8 82 (local (codes "e")))) no_more [] without (codes "message") false without)) no_more) [] without (codes "puts") false without)) no_more))) no_clause))))) no_more)))) ∷ [])

abbrev pub order_of_a_call : Type 0
order_of_a_call = order_of_a_call-run ≡ shows (codes "1\n2\nundefined method foo for Integer\n") [] (exit 0) ([])

-- What is no class is not opened:
--     /main.rb
--         A = 1
--         begin
--           class A
--           end
--         rescue TypeError => e
--           puts e.message
--         end
--         begin
--           class B < Integer
--           end
--         rescue TypeError => e
--           puts e.message
--         end
--         begin
--           class C < 1
--           end
--         rescue TypeError => e
--           puts e.message
--         end
abbrev pub reopened-run : Shown
reopened-run = run_of 1000 [] ((codes "/main.rb", node 1 1 0 (statements (more (node 1 1 0 (assign (node 1 1 4 (integer (pos 1))) (to_constant (codes "A")))) (more (node 2 2 6 (rescue (node 2 2 11 (statements (more (node 3 3 14 (class without (codes "A") (node 3 3 14 (body no_param (node 0 0 0 (statements no_more)))))) no_more))) without (node 5 5 28 (rescue_sequence (clause (more (node 5 5 35 (constant_path without false ((codes "TypeError") ∷ []))) no_more) (Some (codes "e")) (node 6 6 52 (statements (more (node 6 6 52 (send without (more (node 6 6 57 (send (with (node 6 6 57 (local (codes "e")))) no_more [] without (codes "message") false without)) no_more) [] without (codes "puts") false without)) no_more))) no_clause))))) (more (node 8 8 71 (rescue (node 8 8 76 (statements (more (node 9 9 79 (class (with (node 9 9 89 (constant_path without false ((codes "Integer") ∷ [])))) (codes "B") (node 9 9 79 (body no_param (node 0 0 0 (statements no_more)))))) no_more))) without (node 11 11 103 (rescue_sequence (clause (more (node 11 11 110 (constant_path without false ((codes "TypeError") ∷ []))) no_more) (Some (codes "e")) (node 12 12 127 (statements (more (node 12 12 127 (send without (more (node 12 12 132 (send (with (node 12 12 132 (local (codes "e")))) no_more [] without (codes "message") false without)) no_more) [] without (codes "puts") false without)) no_more))) no_clause))))) (more (node 14 14 146 (rescue (node 14 14 151 (statements (more (node 15 15 154 (class (with (node 15 15 164 (integer (pos 1)))) (codes "C") (node 15 15 154 (body no_param (node 0 0 0 (statements no_more)))))) no_more))) without (node 17 17 172 (rescue_sequence (clause (more (node 17 17 179 (constant_path without false ((codes "TypeError") ∷ []))) no_more) (Some (codes "e")) (node 18 18 196 (statements (more (node 18 18 196 (send without (more (node 18 18 201 (send (with (node 18 18 201 (local (codes "e")))) no_more [] without (codes "message") false without)) no_more) [] without (codes "puts") false without)) no_more))) no_clause))))) no_more)))))) ∷ [])

abbrev pub reopened : Type 0
reopened = reopened-run ≡ shows (codes "A is not a class\ncan't inherit from Integer\nsuperclass must be a Class\n") [] (exit 0) ([])

-- Def self needs a class or a module:
--     /main.rb
--         begin
--           def self.f() 1 end
--         rescue TypeError => e
--           puts e.message
--         end
--         module M
--           def self.f() 2 end
--         end
--         puts M.f
abbrev pub self_methods-run : Shown
self_methods-run = run_of 1000 [] ((codes "/main.rb", node 1 1 0 (statements (more (node 1 1 0 (rescue (node 1 1 5 (statements (more (node 2 2 8 (method (codes "f") (node 2 2 8 (body no_param (node 2 2 21 (statements (more (node 2 2 21 (integer (pos 1))) no_more))))) true)) no_more))) without (node 3 3 27 (rescue_sequence (clause (more (node 3 3 34 (constant_path without false ((codes "TypeError") ∷ []))) no_more) (Some (codes "e")) (node 4 4 51 (statements (more (node 4 4 51 (send without (more (node 4 4 56 (send (with (node 4 4 56 (local (codes "e")))) no_more [] without (codes "message") false without)) no_more) [] without (codes "puts") false without)) no_more))) no_clause))))) (more (node 6 6 70 (module_named (codes "M") (node 6 6 70 (body no_param (node 7 7 81 (statements (more (node 7 7 81 (method (codes "f") (node 7 7 81 (body no_param (node 7 7 94 (statements (more (node 7 7 94 (integer (pos 2))) no_more))))) true)) no_more))))))) (more (node 9 9 104 (send without (more (node 9 9 109 (send (with (node 9 9 109 (constant_path without false ((codes "M") ∷ [])))) no_more [] without (codes "f") false without)) no_more) [] without (codes "puts") false without)) no_more))))) ∷ [])

abbrev pub self_methods : Type 0
self_methods = self_methods-run ≡ shows (codes "can't define singleton\n2\n") [] (exit 0) ([])

-- A data file whose value is a map gives a Hash:
--     /main.rb
--         p YAML.load_file("c.yml")
abbrev pub data_tree : Tree
data_tree = node 1 1 0 (statements (more (node 1 1 0 (send without (more (node 1 1 2 (send (with (node 1 1 2 (constant_path without false ((codes "YAML") ∷ [])))) (more (node 1 1 17 (text (codes "c.yml"))) no_more) [] without (codes "load_file") false without)) no_more) [] without (codes "p") false without)) no_more))

abbrev pub data_row-run : Shown
data_row-run = shown (plain_run (data_files data_tree) prelude_tree (main 1000 []))

abbrev pub data_row : Type 0
data_row = data_row-run ≡ shows (123 ∷ 34 ∷ 97 ∷ 34 ∷ codes "=>[1, :s]}\n") [] (exit 0) []

-- A data file that is refused raises RuntimeError with its line:
--     /main.rb
--         p JSON.load_file("c.json")
abbrev pub data_fault_row-run : Shown
data_fault_row-run = shown (plain_run (data_files (node 1 1 0 (statements (more (node 1 1 0 (send without (more (node 1 1 2 (send (with (node 1 1 2 (constant_path without false ((codes "JSON") ∷ [])))) (more (node 1 1 17 (text (codes "c.json"))) no_more) [] without (codes "load_file") false without)) no_more) [] without (codes "p") false without)) no_more)))) prelude_tree (main 1000 []))

abbrev pub data_fault_row : Type 0
data_fault_row = data_fault_row-run ≡ shows [] (codes "/main.rb:1: /c.json:1: data fault (RuntimeError)\n") (exit 1) []

-- The trace has the load, each search, and the first entry of each body:
--     /main.rb
--         def f() 1 end
--         begin
--           f
--           f
--           require "zz"
--         rescue LoadError
--         ensure
--           2
--         end
abbrev pub trace_row-run : List Step
trace_row-run = (plain_run (ruby_files ((codes "/main.rb", node 1 1 0 (statements (more (node 1 1 0 (method (codes "f") (node 1 1 0 (body no_param (node 1 1 8 (statements (more (node 1 1 8 (integer (pos 1))) no_more))))) false)) (more (node 2 2 14 (ensure (node 2 2 14 (rescue (node 2 2 19 (statements (more (node 3 3 22 (send without no_more [] without (codes "f") true without)) (more (node 4 4 26 (send without no_more [] without (codes "f") true without)) (more (node 5 5 30 (send without (more (node 5 5 38 (text (codes "zz"))) no_more) [] without (codes "require") false without)) no_more))))) without (node 6 6 43 (rescue_sequence (clause (more (node 6 6 50 (constant_path without false ((codes "LoadError") ∷ []))) no_more) None (node 0 0 0 (statements no_more)) no_clause))))) (node 7 7 60 (ensure_sequence (node 7 7 66 (statements (more (node 8 8 69 (integer (pos 2))) no_more))))))) no_more)))) ∷ [])) prelude_tree (main 1000 [])).trace

abbrev pub trace_row : Type 0
trace_row = trace_row-run ≡ loaded ruby_file (codes "/main.rb") ∷ entered 0 0 ∷ entered 0 1 ∷ asked (ask_require (codes "zz")) (codes "/lib" ∷ []) [] [] ∷ entered 0 2 ∷ entered 0 3 ∷ []

-- A program that cannot be read raises SyntaxError, which has no position of its own: the fault is in its second line.
abbrev pub faulty_program-run : Shown
faulty_program-run = shown (plain_run (record { is_file = λ path. true; ruby = λ path. ruby_fault 2; datum = λ kind path. no_data_file }) prelude_tree (main 1000 []))

abbrev pub faulty_program : Type 0
faulty_program = faulty_program-run ≡ shows [] (codes "/main.rb:2: syntax error (SyntaxError)\n") (exit 1) []

-- A String of 3 bytes has two cells:
--         "abc"
abbrev pub cells_of_a_text : Type 0
cells_of_a_text = cells_of (node 1 1 0 (statements (more (node 1 1 0 (text (codes "abc"))) no_more))) ≡ 2 + cells_of (node 0 0 0 (statements no_more))

-- Searches that go by an index: those of plain features that end in `.rb`
abbrev pub indexed_asks : Type 0
indexed_asks = map is_indexed_ask (ask_require (codes "a/b") ∷ ask_require (codes "a.rb") ∷ ask_load (codes "a.rb") ∷ []) ≡ true ∷ true ∷ true ∷ []

abbrev pub other_asks : Type 0
other_asks = map is_indexed_ask (ask_require [] ∷ ask_require (codes "/a") ∷ ask_require (codes "./a") ∷ ask_require (codes "a//b") ∷ ask_require (codes "a/../b") ∷ ask_require (codes "a/") ∷ ask_load (codes "a") ∷ ask_relative (codes "/lib") (codes "a") ∷ []) ≡ false ∷ false ∷ false ∷ false ∷ false ∷ false ∷ false ∷ false ∷ []

-- A local is one cell of its environment, and an Array has one and one for each element:
--         a = [1, 2]
abbrev pub cells_of_a_local : Type 0
cells_of_a_local = cells_of (node 1 1 0 (statements (more (node 1 1 0 (assign (node 1 1 4 (array (more (node 1 1 5 (integer (pos 1))) (more (node 1 1 8 (integer (pos 2))) no_more)) [])) (to_local (codes "a")))) no_more))) ≡ 4 + cells_of (node 0 0 0 (statements no_more))

-- A Hash has one and two for each pair, and a Range three:
--         {1=>2, 1=>3}
--         1..2
abbrev pub cells_of_a_hash : Type 0
cells_of_a_hash = cells_of (node 1 1 0 (statements (more (node 1 1 0 (hash (pair (node 1 1 1 (integer (pos 1))) (node 1 1 4 (integer (pos 2))) (pair (node 1 1 7 (integer (pos 1))) (node 1 1 10 (integer (pos 3))) no_pair)))) (more (node 2 2 13 (range (node 2 2 13 (integer (pos 1))) (node 2 2 16 (integer (pos 2))) false)) no_more)))) ≡ 6 + cells_of (node 0 0 0 (statements no_more))

-- A class has four, its constant one, its environment one, and a method row one:
--         class A
--           def f() 1 end
--         end
abbrev pub cells_of_a_class : Type 0
cells_of_a_class = cells_of (node 1 1 0 (statements (more (node 1 1 0 (class without (codes "A") (node 1 1 0 (body no_param (node 2 2 10 (statements (more (node 2 2 10 (method (codes "f") (node 2 2 10 (body no_param (node 2 2 18 (statements (more (node 2 2 18 (integer (pos 1))) no_more))))) false)) no_more))))))) no_more))) ≡ 7 + cells_of (node 0 0 0 (statements no_more))

-- A call has an environment with its local, and the Proc of a literal block has two:
--         proc { 1 }
abbrev pub cells_of_a_proc : Type 0
cells_of_a_proc = cells_of (node 1 1 0 (statements (more (node 1 1 0 (send without no_more [] without (codes "proc") false (with (node 1 1 5 (body no_param (node 1 1 7 (statements (more (node 1 1 7 (integer (pos 1))) no_more)))))))) no_more))) ≡ 4 + cells_of (node 0 0 0 (statements no_more))

-- An exception has two, and its String of 12 bytes two; the name of the clause is a local:
--         begin
--           1 / 0
--         rescue => e
--         end
abbrev pub cells_of_an_exception : Type 0
cells_of_an_exception = cells_of (node 1 1 0 (statements (more (node 1 1 0 (rescue (node 1 1 5 (statements (more (node 2 2 8 (send (with (node 2 2 8 (integer (pos 1)))) (more (node 2 2 12 (integer (pos 0))) no_more) [] without (codes "/") false without)) no_more))) without (node 3 3 14 (rescue_sequence (clause no_more (Some (codes "e")) (node 0 0 0 (statements no_more)) no_clause))))) no_more))) ≡ 5 + cells_of (node 0 0 0 (statements no_more))
