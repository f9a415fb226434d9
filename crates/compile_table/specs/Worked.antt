-- Worked rows of the compile table: what small trees are compiled to.
use Rattle.std.specs.Prelude.{◌≡◌, ℕ, pos, true, false, List, [], ◌∷◌, ◌++◌, Some, None, map, codes, Bool}
use Rattle.std.specs.List.{flat_map}
use Rattle.ruby_tree.specs.Names.{Bytes}
use Rattle.ruby_tree.specs.Tree.{Params, rest_param, block_param, to_local, to_instance, to_global, to_constant, Tree, Form, nil_value, true_value, false_value, integer, symbol, text, self_value, file_name, folder_name, line_number, local, instance, global, joined, array, hash, range, constant_path, assign, assign_all, assign_attribute, assign_index, operate_attribute, or_attribute, and_attribute, operate_index, or_index, and_index, send, safe_send, yield, super, bare_super, bare_raise, statements, both, either, negated, if_else, while_loop, case_of, case_tests, return_with, break_with, next_with, retry, rescue, ensure, rescue_sequence, ensure_sequence, method, class, module_named, body, Trees, no_more, more, without, with, no_pair, pair, no_piece, plain_piece, code_piece, no_when, when, no_clause, clause, no_param, required, optional}
use Rattle.iseq_types.specs.declared.instructions.Instr.{Instr}
use Rattle.iseq_types.specs.declared.instructions.Instr.TheVariants.{Pop, Dup, TopN, SetN, AdjustStack, PutNil, PutSelf, PutObject, PutString, GetLocal, SetLocal, GetInstanceVariable, SetInstanceVariable, GetGlobal, SetGlobal, SetConstant, OptGetConstantPath, NewArray, NewHash, NewRange, ConcatStrings, ObjToString, AnyToString, Send, InvokeSuper, InvokeBlock, DefineMethod, DefineClass, CheckMatch, Jump, BranchIf, BranchUnless, BranchNil, Throw, Leave, ExpandArray}
use Rattle.iseq_types.specs.declared.instructions.Literal.TheVariants.{True, False, Int, Sym}
use Rattle.iseq_types.specs.declared.sequences.SeqKind.{SeqKind}
use Rattle.iseq_types.specs.declared.sequences.SeqKind.TheVariants as kinds
use Rattle.iseq_types.specs.declared.sequences.CatchKind.{CatchKind}
use Rattle.iseq_types.specs.declared.sequences.CatchKind.TheVariants as catches
use Rattle.iseq_types.specs.declared.sequences.CatchRow.{CatchRow}
use Rattle.iseq_types.specs.declared.sequences.IndexRow.{IndexRow}
use Rattle.iseq_types.specs.declared.sequences.Line.{Line}
use Rattle.iseq_types.specs.declared.sequences.Unit.{Unit as CompiledUnit}
use Rattle.iseq_dump.specs.Dump.{head_bytes, head_of, body_bytes}
use Rattle.ruby_meaning.specs.Node.{node}
use Rattle.code_meaning.specs.Code.{at_line}
use Rattle.compile_table.specs.Sequences.{unit_of, sequences_of, index_row, Compiled}
use Rattle.compile_table.specs.Order.{are_in_order}

-- the bytes of a unit's dump
abbrev pub bytes_of : CompiledUnit → List ℕ
bytes_of u = head_bytes (head_of u) ++ flat_map body_bytes u.bodies

-- the empty text
abbrev pub no_text : Tree
no_text = node 0 0 0 (statements no_more)

-- one statement
abbrev pub alone : Tree → Tree
alone t = node 1 1 0 (statements (more t no_more))

-- what is in line 1, at its place
abbrev pub at_place : ℕ → Form → Tree
at_place p f = node 1 1 p f

-- an integer, and its code
abbrev pub num : ℕ → Tree
num n = at_place 0 (integer (pos n))

abbrev pub put : ℕ → Instr
put n = PutObject (Int (pos n))

abbrev pub two : Trees
two = more (num 1) (more (num 2) no_more)

abbrev pub codes_of : List Compiled → List (List Instr)
codes_of cs = map (λ c. map (λ x. x.instr) c.body.code) cs

-- the instructions of each sequence of a program of one statement
abbrev pub codes_in : Form → List (List Instr)
codes_in f = codes_of (sequences_of (codes "/l/e.rb") (alone (at_place 0 f)))

abbrev pub row : CatchKind → ℕ → ℕ → ℕ → ℕ → ℕ → CatchRow
row kind from to cont sp q = record { kind = kind; from = from; to = to; cont = cont; sp = sp; seq = q }

-- the rows of the file's own sequence
abbrev pub rows_with : List Compiled → List CatchRow
rows_with [] = []
rows_with (c ∷ cs) = c.body.rows

abbrev pub rows_in : Form → List CatchRow
rows_in f = rows_with (sequences_of (codes "/l/e.rb") (alone (at_place 0 f)))

-- the code of one statement is this, and then it leaves
abbrev pub Gives : Form → List Instr → Type 0
Gives f is = codes_in f ≡ (is ++ Leave ∷ []) ∷ []

abbrev pub call : Bytes → ℕ → ℕ → Instr
call x n flags = Send x n [] flags 0

-- ---- units

-- the empty file has 56 bytes
abbrev pub empty_file : Type 0
empty_file = bytes_of (unit_of (codes "/e.rb") no_text) ≡
    0x59 ∷ 0x53 ∷ 0x51 ∷ 0x01 ∷ 0x05 ∷ 0x2f ∷ 0x65 ∷ 0x2e ∷ 0x72 ∷ 0x62 ∷ 0x01 ∷ 0x00 ∷
    0 ∷ 0 ∷ 0 ∷ 0 ∷ 0 ∷ 0 ∷ 0 ∷ 0 ∷ 0 ∷ 0 ∷ 0 ∷ 0 ∷ 0 ∷ 0 ∷ 0 ∷ 0 ∷
    0x2c ∷ 0 ∷ 0 ∷ 0 ∷ 0 ∷ 0 ∷ 0 ∷ 0 ∷ 0x0c ∷ 0 ∷ 0 ∷ 0 ∷ 0 ∷ 0 ∷ 0 ∷ 0 ∷
    0x00 ∷ 0x01 ∷ 0x00 ∷ 0x00 ∷ 0x00 ∷ 0x00 ∷ 0x00 ∷ 0x02 ∷ 0x01 ∷ 0x07 ∷ 0x01 ∷ 0x24 ∷ []

-- `puts 2 + 3`
abbrev pub sum_tree : Tree
sum_tree = alone (node 1 1 0 (send without (more (node 1 1 5 (send (with (node 1 1 5 (integer (pos 2)))) (more (node 1 1 9 (integer (pos 3))) no_more) [] without (codes "+") false without)) no_more) [] without (codes "puts") false without))

abbrev pub sum_unit : CompiledUnit
sum_unit = record {
  path = codes "/e.rb";
  rows = record { kind = kinds.File; parent = 0; locals = 0 } ∷ [];
  bodies = record {
    name = [];
    first_line = 1;
    locals = [];
    required = 0;
    entries = [];
    rest = false;
    block = false;
    rows = [];
    code = at_line 1 PutSelf ∷ at_line 1 (put 2) ∷ at_line 1 (put 3) ∷ at_line 1 (call (codes "+") 1 0) ∷ at_line 1 (call (codes "puts") 1 1) ∷ at_line 1 Leave ∷ [];
  } ∷ [];
}

abbrev pub sum_file : Type 0
sum_file = unit_of (codes "/e.rb") sum_tree ≡ sum_unit

-- ---- the table, row by row

abbrev pub constants_row : Type 0
constants_row =
    Gives nil_value (PutNil ∷ []) × Gives true_value (PutObject True ∷ []) × Gives false_value (PutObject False ∷ []) × Gives (integer (pos 7)) (put 7 ∷ [])
    × Gives (symbol (codes "a")) (PutObject (Sym (codes "a")) ∷ []) × Gives (text (codes "a")) (PutString (codes "a") ∷ []) × Gives self_value (PutSelf ∷ [])
    × Gives file_name (PutString (codes "/l/e.rb") ∷ []) × Gives folder_name (PutString (codes "/l") ∷ []) × Gives line_number (put 1 ∷ [])

abbrev pub statements_row : Type 0
statements_row = Gives (statements two) (put 1 ∷ Pop ∷ put 2 ∷ []) × Gives (statements no_more) (PutNil ∷ [])

abbrev pub text_row : Type 0
text_row = Gives (joined (plain_piece (codes "a") (code_piece (num 1) no_piece))) (PutString (codes "a") ∷ put 1 ∷ Dup ∷ ObjToString ∷ AnyToString ∷ ConcatStrings 2 ∷ [])

abbrev pub collections_row : Type 0
collections_row =
    Gives (array two (1 ∷ [])) (put 1 ∷ put 2 ∷ NewArray 2 (1 ∷ []) ∷ []) × Gives (hash (pair (num 1) (num 2) no_pair)) (put 1 ∷ put 2 ∷ NewHash 2 ∷ [])
    × Gives (range (num 1) (num 2) true) (put 1 ∷ put 2 ∷ NewRange 1 ∷ []) × Gives (constant_path without false (codes "A" ∷ codes "B" ∷ [])) (OptGetConstantPath 0 (codes "A" ∷ codes "B" ∷ []) ∷ [])
    × Gives (constant_path without true (codes "A" ∷ [])) (OptGetConstantPath 1 (codes "A" ∷ []) ∷ []) × Gives (constant_path (with (num 1)) false (codes "A" ∷ [])) (put 1 ∷ OptGetConstantPath 2 (codes "A" ∷ []) ∷ [])

abbrev pub variables_row : Type 0
variables_row =
    Gives (instance (codes "@x")) (GetInstanceVariable (codes "@x") ∷ []) × Gives (global (codes "$x")) (GetGlobal (codes "$x") ∷ [])
    × Gives (assign (num 1) (to_local (codes "x"))) (put 1 ∷ Dup ∷ SetLocal 0 0 ∷ []) × Gives (assign (num 1) (to_instance (codes "@x"))) (put 1 ∷ Dup ∷ SetInstanceVariable (codes "@x") ∷ [])
    × Gives (assign (num 1) (to_global (codes "$x"))) (put 1 ∷ Dup ∷ SetGlobal (codes "$x") ∷ []) × Gives (assign (num 1) (to_constant (codes "A"))) (put 1 ∷ Dup ∷ SetConstant (codes "A") ∷ [])
    × Gives (statements (more (at_place 0 (assign (num 1) (to_local (codes "x")))) (more (at_place 0 (assign (at_place 0 (local (codes "x"))) (to_local (codes "y")))) no_more)))
    (put 1 ∷ Dup ∷ SetLocal 0 0 ∷ Pop ∷ GetLocal 0 0 ∷ Dup ∷ SetLocal 1 0 ∷ [])

abbrev pub several_row : Type 0
several_row =
    Gives (assign_all (more (num 1) no_more) (to_local (codes "x") ∷ to_global (codes "$y") ∷ [])) (put 1 ∷ Dup ∷ ExpandArray 2 ∷ SetLocal 0 0 ∷ SetGlobal (codes "$y") ∷ [])
    × Gives (assign_all two (to_local (codes "x") ∷ to_global (codes "$y") ∷ [])) (put 1 ∷ put 2 ∷ NewArray 2 [] ∷ Dup ∷ ExpandArray 2 ∷ SetLocal 0 0 ∷ SetGlobal (codes "$y") ∷ [])

abbrev pub calls_row : Type 0
calls_row =
    Gives (send without no_more [] without (codes "f") true without) (PutSelf ∷ call (codes "f") 0 5 ∷ [])
    × Gives (send (with (num 3)) two (1 ∷ []) (with (at_place 0 nil_value)) (codes "f") false without) (put 3 ∷ put 1 ∷ put 2 ∷ PutNil ∷ Send (codes "f") 2 (1 ∷ []) 2 0 ∷ [])
    × Gives (send (with (at_place 0 self_value)) no_more [] without (codes "f") false without) (PutSelf ∷ call (codes "f") 0 1 ∷ [])
    × Gives (safe_send (num 3) two [] without (codes "f") without) (put 3 ∷ Dup ∷ BranchNil 6 ∷ put 1 ∷ put 2 ∷ call (codes "f") 2 0 ∷ [])

abbrev pub attributes_row : Type 0
attributes_row =
    Gives (assign_attribute (num 1) (num 2) (codes "m=")) (PutNil ∷ put 1 ∷ put 2 ∷ SetN 2 ∷ call (codes "m=") 1 0 ∷ Pop ∷ [])
    × Gives (assign_index (num 1) (num 2) (num 3)) (PutNil ∷ put 1 ∷ put 2 ∷ put 3 ∷ SetN 3 ∷ call (codes "[]=") 2 0 ∷ Pop ∷ [])
    × Gives (operate_attribute (num 1) (codes "m") (num 2) (codes "+") (codes "m=") 1)
    (PutNil ∷ put 1 ∷ Dup ∷ call (codes "m") 0 0 ∷ put 2 ∷ call (codes "+") 1 0 ∷ SetN 2 ∷ call (codes "m=") 1 0 ∷ Pop ∷ [])
    × Gives (or_attribute (num 1) (codes "m") (num 2) (codes "m="))
    (PutNil ∷ put 1 ∷ Dup ∷ call (codes "m") 0 0 ∷ Dup ∷ BranchIf 12 ∷ Pop ∷ put 2 ∷ SetN 2 ∷ call (codes "m=") 1 0 ∷ Pop ∷ Jump 14 ∷ SetN 2 ∷ AdjustStack 2 ∷ [])
    × Gives (and_attribute (num 1) (codes "m") (num 2) (codes "m="))
    (PutNil ∷ put 1 ∷ Dup ∷ call (codes "m") 0 0 ∷ Dup ∷ BranchUnless 12 ∷ Pop ∷ put 2 ∷ SetN 2 ∷ call (codes "m=") 1 0 ∷ Pop ∷ Jump 14 ∷ SetN 2 ∷ AdjustStack 2 ∷ [])

abbrev pub indices_row : Type 0
indices_row =
    Gives (operate_index (num 1) (num 2) (num 3) (codes "+") 1)
    (PutNil ∷ put 1 ∷ put 2 ∷ TopN 1 ∷ TopN 1 ∷ call (codes "[]") 1 0 ∷ put 3 ∷ call (codes "+") 1 0 ∷ SetN 3 ∷ call (codes "[]=") 2 0 ∷ Pop ∷ [])
    × Gives (or_index (num 1) (num 2) (num 3))
    (PutNil ∷ put 1 ∷ put 2 ∷ TopN 1 ∷ TopN 1 ∷ call (codes "[]") 1 0 ∷ Dup ∷ BranchIf 14 ∷ Pop ∷ put 3 ∷ SetN 3 ∷ call (codes "[]=") 2 0 ∷ Pop ∷ Jump 16 ∷ SetN 3 ∷ AdjustStack 3 ∷ [])
    × Gives (and_index (num 1) (num 2) (num 3))
    (PutNil ∷ put 1 ∷ put 2 ∷ TopN 1 ∷ TopN 1 ∷ call (codes "[]") 1 0 ∷ Dup ∷ BranchUnless 14 ∷ Pop ∷ put 3 ∷ SetN 3 ∷ call (codes "[]=") 2 0 ∷ Pop ∷ Jump 16 ∷ SetN 3 ∷ AdjustStack 3 ∷ [])

abbrev pub logic_row : Type 0
logic_row =
    Gives (both (num 1) (num 2)) (put 1 ∷ Dup ∷ BranchUnless 5 ∷ Pop ∷ put 2 ∷ []) × Gives (either (num 1) (num 2)) (put 1 ∷ Dup ∷ BranchIf 5 ∷ Pop ∷ put 2 ∷ [])
    × Gives (negated (num 1)) (put 1 ∷ call (codes "!") 0 0 ∷ [])
    × Gives (if_else (num 1) (num 2) (with (num 3))) (put 1 ∷ BranchUnless 4 ∷ put 2 ∷ Jump 5 ∷ put 3 ∷ []) × Gives (if_else (num 1) (num 2) without) (put 1 ∷ BranchUnless 4 ∷ put 2 ∷ Jump 5 ∷ PutNil ∷ [])

abbrev pub loops_row : Type 0
loops_row =
    Gives (while_loop (num 1) (num 2) false false) (Jump 3 ∷ put 1 ∷ Pop ∷ put 2 ∷ BranchIf 1 ∷ PutNil ∷ [])
    × (rows_in (while_loop (num 1) (num 2) false false) ≡ row catches.Break 1 2 6 0 0 ∷ row catches.Next 1 2 2 0 0 ∷ [])
    × Gives (while_loop (num 1) (num 2) true false) (Jump 3 ∷ put 1 ∷ Pop ∷ put 2 ∷ BranchUnless 1 ∷ PutNil ∷ [])
    × Gives (while_loop (num 1) (num 2) false true) (put 1 ∷ Pop ∷ put 2 ∷ BranchIf 0 ∷ PutNil ∷ [])
    × (rows_in (while_loop (num 1) (num 2) false true) ≡ row catches.Break 0 1 5 0 0 ∷ row catches.Next 0 1 1 0 0 ∷ [])

abbrev pub cases_row : Type 0
cases_row =
    Gives (case_of (num 1) (when (more (num 2) (more (num 3) no_more)) (num 4) (when (more (num 5) no_more) (num 6) no_when)) (with (num 7)))
    (put 1 ∷ put 2 ∷ TopN 1 ∷ call (codes "===") 1 0 ∷ BranchIf 16 ∷ put 3 ∷ TopN 1 ∷ call (codes "===") 1 0 ∷ BranchIf 16
    ∷ put 5 ∷ TopN 1 ∷ call (codes "===") 1 0 ∷ BranchIf 19 ∷ Pop ∷ put 7 ∷ Jump 22 ∷ Pop ∷ put 4 ∷ Jump 22 ∷ Pop ∷ put 6 ∷ Jump 22 ∷ [])
    × Gives (case_tests (when (more (num 2) (more (num 3) no_more)) (num 4) (when (more (num 5) no_more) (num 6) no_when)) without)
    (put 2 ∷ BranchIf 8 ∷ put 3 ∷ BranchIf 8 ∷ put 5 ∷ BranchIf 10 ∷ PutNil ∷ Jump 12 ∷ put 4 ∷ Jump 12 ∷ put 6 ∷ Jump 12 ∷ [])

-- the exits, of a loop and of a block
abbrev pub exits_row : Type 0
exits_row =
    Gives (return_with no_more) (PutNil ∷ Throw 1 ∷ []) × Gives (return_with (more (num 1) no_more)) (put 1 ∷ Throw 1 ∷ []) × Gives (return_with two) (put 1 ∷ put 2 ∷ NewArray 2 [] ∷ Throw 1 ∷ [])
    × Gives (while_loop (at_place 0 (break_with no_more)) (at_place 0 (next_with no_more)) false true) (PutNil ∷ Throw 2 ∷ Pop ∷ PutNil ∷ Throw 5 ∷ BranchIf 0 ∷ PutNil ∷ [])
    × Gives (while_loop (at_place 0 (next_with no_more)) (at_place 0 (break_with no_more)) false true) (PutNil ∷ Throw 3 ∷ Pop ∷ PutNil ∷ Throw 4 ∷ BranchIf 0 ∷ PutNil ∷ [])
    × Gives retry (PutNil ∷ Throw 7 ∷ [])

abbrev pub bodies_row : Type 0
bodies_row =
    (codes_in (method (codes "f") (at_place 0 (body (required (codes "a") (optional (codes "b") (num 1) no_param)) (alone (at_place 0 (bare_super without))))) true) ≡
    (DefineMethod (codes "f") 2 1 ∷ PutObject (Sym (codes "f")) ∷ Leave ∷ [])
    ∷ (put 1 ∷ SetLocal 1 0 ∷ PutSelf ∷ GetLocal 0 0 ∷ GetLocal 1 0 ∷ InvokeSuper 2 [] 1 0 ∷ Leave ∷ []) ∷ [])
    × (codes_in (class without (codes "A") (at_place 0 (body no_param (alone (at_place 0 nil_value))))) ≡ (PutNil ∷ DefineClass (codes "A") 2 0 ∷ Leave ∷ []) ∷ (PutNil ∷ Leave ∷ []) ∷ [])
    × (codes_in (class (with (num 1)) (codes "A") (at_place 0 (body no_param (alone (at_place 0 nil_value))))) ≡ (put 1 ∷ DefineClass (codes "A") 2 1 ∷ Leave ∷ []) ∷ (PutNil ∷ Leave ∷ []) ∷ [])
    × (codes_in (module_named (codes "A") (at_place 0 (body no_param (alone (at_place 0 nil_value))))) ≡ (PutNil ∷ DefineClass (codes "A") 2 2 ∷ Leave ∷ []) ∷ (PutNil ∷ Leave ∷ []) ∷ [])
    × Gives (yield two (0 ∷ [])) (put 1 ∷ put 2 ∷ InvokeBlock 2 (0 ∷ []) ∷ [])
    × Gives (super two (0 ∷ []) (with (at_place 0 nil_value)) without) (PutSelf ∷ put 1 ∷ put 2 ∷ PutNil ∷ InvokeSuper 2 (0 ∷ []) 3 0 ∷ [])

-- a local that a block sees around it: `x = 1; f { |y| x; y }`
abbrev pub block_body : Tree
block_body = at_place 9 (body (required (codes "y") no_param) (at_place 15 (statements (more (at_place 15 (local (codes "x"))) (more (at_place 18 (local (codes "y"))) no_more)))))

abbrev pub block_form : Form
block_form =
    statements (more (at_place 0 (assign (num 1) (to_local (codes "x")))) (more (at_place 7 (send without no_more [] without (codes "f") false (with block_body))) no_more))

-- `super() { 1 }`
abbrev pub super_form : Form
super_form = super no_more [] without (with (at_place 9 (body no_param (num 1))))

abbrev pub block_row : Type 0
block_row =
    (codes_in block_form ≡ (put 1 ∷ Dup ∷ SetLocal 0 0 ∷ Pop ∷ PutSelf ∷ Send (codes "f") 0 [] 1 2 ∷ Leave ∷ []) ∷ (GetLocal 0 1 ∷ Pop ∷ GetLocal 0 0 ∷ Leave ∷ []) ∷ [])
    × (rows_in block_form ≡ row catches.Break 5 6 6 0 0 ∷ [])
    × (codes_in super_form ≡ (PutSelf ∷ InvokeSuper 0 [] 1 2 ∷ Leave ∷ []) ∷ (put 1 ∷ Leave ∷ []) ∷ [])
    × (rows_in super_form ≡ row catches.Break 1 2 2 0 0 ∷ [])

-- `begin; 1; rescue A, B => e; raise; rescue; 3; else; 2; end`
abbrev pub rescue_form : Form
rescue_form = rescue (num 1) (with (num 2)) (at_place 10 (rescue_sequence (clause (more (at_place 0 (constant_path without false (codes "A" ∷ []))) (more (at_place 0 (constant_path without false (codes "B" ∷ []))) no_more)) (Some (codes "e")) (at_place 0 bare_raise)
    (clause no_more None (num 3) no_clause))))

abbrev pub rescue_row : Type 0
rescue_row =
    (codes_in rescue_form ≡ (put 1 ∷ Pop ∷ put 2 ∷ Leave ∷ [])
    ∷ (Dup ∷ OptGetConstantPath 0 (codes "A" ∷ []) ∷ CheckMatch ∷ BranchIf 13 ∷ Dup ∷ OptGetConstantPath 0 (codes "B" ∷ []) ∷ CheckMatch ∷ BranchIf 13
    ∷ Dup ∷ OptGetConstantPath 1 (codes "StandardError" ∷ []) ∷ CheckMatch ∷ BranchIf 19 ∷ Throw 0
    ∷ Dup ∷ SetLocal 0 0 ∷ PutSelf ∷ TopN 1 ∷ call (codes "raise") 1 1 ∷ Leave ∷ put 3 ∷ Leave ∷ []) ∷ [])
    × (rows_in rescue_form ≡ row catches.Rescue 0 1 3 0 1 ∷ [])

abbrev pub ensure_form : Form
ensure_form = ensure (num 1) (at_place 10 (ensure_sequence (num 2)))

abbrev pub ensure_row : Type 0
ensure_row = (codes_in ensure_form ≡ (put 1 ∷ Throw 6 ∷ Leave ∷ []) ∷ (put 2 ∷ Pop ∷ Throw 0 ∷ []) ∷ []) × (rows_in ensure_form ≡ row catches.Ensure 0 2 2 0 1 ∷ [])

-- Three rows and two on one end: a loop whose body is a body with clauses within another one, within a third.
abbrev pub held_by : Tree → ℕ → Tree
held_by t p = at_place 0 (rescue t without (at_place p (rescue_sequence (clause no_more None (num 9) no_clause))))

abbrev pub nested_form : Form
nested_form = while_loop (held_by (held_by (held_by (num 1) 10) 20) 30) (num 2) false true

abbrev pub nested_row : Type 0
nested_row =
    (rows_in nested_form ≡ row catches.Rescue 0 1 1 0 1 ∷ row catches.Rescue 0 1 1 0 2 ∷ row catches.Rescue 0 1 1 0 3 ∷ row catches.Break 0 1 5 0 0 ∷ row catches.Next 0 1 1 0 0 ∷ [])
    × (are_in_order (rows_in nested_form) ≡ true)

-- ---- sequences

-- a sequence as its index row and its head: kind, parent and locals; name, first line, locals, required ones, entries, rest and block
abbrev pub heads_of : List Compiled → List (IndexRow × (Bytes × ℕ × List Bytes × ℕ × List ℕ × Bool × Bool))
heads_of cs =
    map (λ c. (index_row c, (c.body.name, c.body.first_line, c.body.locals, c.body.required, c.body.entries, c.body.rest, c.body.block))) cs

abbrev pub index : SeqKind → ℕ → ℕ → IndexRow
index kind parent locals = record { kind = kind; parent = parent; locals = locals }

-- `def f(a, b = 1, c = 2, *d, &g)`, a newline, `begin; x = 3; ensure; f { 4 }; end`, a newline, `end`
abbrev pub method_params : Params
method_params = required (codes "a") (optional (codes "b") (num 1) (optional (codes "c") (num 2) (rest_param (codes "d") (block_param (codes "g") no_param))))

abbrev pub method_ensure : Tree
method_ensure = node 2 2 50 (ensure_sequence (node 2 2 60 (send without no_more [] without (codes "f") false (with (node 2 2 62 (body no_param (node 2 2 64 (integer (pos 4)))))))))

abbrev pub method_form : Form
method_form = method (codes "f") (node 1 1 0 (body method_params (node 2 2 40 (ensure (node 2 2 42 (assign (node 2 2 46 (integer (pos 3))) (to_local (codes "x")))) method_ensure)))) false

abbrev pub heads_row : Type 0
heads_row =
    heads_of (sequences_of (codes "/e.rb") (alone (node 1 1 0 method_form))) ≡
    (index kinds.File 0 0, ([], 1, [], 0, [], false, false))
    ∷ (index kinds.Method 0 6, (codes "f", 1, codes "a" ∷ codes "b" ∷ codes "c" ∷ codes "d" ∷ codes "g" ∷ codes "x" ∷ [], 1, 0 ∷ 2 ∷ 4 ∷ [], true, true))
    ∷ (index kinds.Ensure 1 0, ([], 2, [], 0, [], false, false))
    ∷ (index kinds.Block 2 0, ([], 2, [], 0, [], false, false)) ∷ []

-- ---- lines

abbrev pub lines_in : List Compiled → List (List Line)
lines_in cs = map (λ c. c.body.code) cs

-- In three lines: an operator's call of a name in line 2 and of a method in line 3, an `if` in line 4 without an else part, and a def in line 5.
-- What stands for no token has the first line of its sequence, and so has the last instruction.
abbrev pub lines_form : Form
lines_form = statements (more (node 2 3 0 (send (with (node 2 2 0 self_value)) no_more [] without (codes "f") false without)) (more (node 4 4 9 (if_else (node 4 4 12 true_value) (node 4 4 18 (statements (more (node 5 5 20 nil_value) no_more))) without))
    (more (node 6 6 30 (method (codes "g") (node 6 6 30 (body no_param (node 0 0 0 (statements no_more)))) false)) no_more)))

abbrev pub lines_row : Type 0
lines_row =
    lines_in (sequences_of (codes "/e.rb") (node 2 2 0 lines_form)) ≡
    (at_line 2 PutSelf ∷ at_line 3 (call (codes "f") 0 1) ∷ at_line 2 Pop ∷ at_line 4 (PutObject True) ∷ at_line 4 (BranchUnless 7) ∷ at_line 5 PutNil ∷ at_line 4 (Jump 8) ∷ at_line 1 PutNil
    ∷ at_line 2 Pop ∷ at_line 6 (DefineMethod (codes "g") 2 0) ∷ at_line 6 (PutObject (Sym (codes "g"))) ∷ at_line 1 Leave ∷ [])
    ∷ (at_line 6 PutNil ∷ at_line 6 Leave ∷ []) ∷ []
