-- The compile table: the code of each node, in parts. The code of a node leaves one value on the stack.
use Rattle.std.specs.Prelude.{ℕ, zero, suc, ◌+◌, ◌*◌, pos, Bool, true, false, List, [], ◌∷◌, length, Option, Some, None, codes}
use Rattle.bs_outside.specs.Paths.{parent_of}
use Rattle.ruby_tree.specs.Names.{Bytes}
use Rattle.ruby_tree.specs.Tree.{SourcePosition, Goal, to_local, to_instance, to_global, to_constant, Tree, at, Form, nil_value, true_value, false_value, integer, symbol, text, self_value, file_name, folder_name, line_number, local, instance, global, joined, array, hash, range, constant_path, assign, assign_all, assign_attribute, assign_index, operate_attribute, or_attribute, and_attribute, operate_index, or_index, and_index, send, safe_send, yield, super, bare_super, bare_raise, statements, both, either, negated, if_else, while_loop, case_of, case_tests, return_with, break_with, next_with, retry, rescue, ensure, rescue_sequence, ensure_sequence, method, class, module_named, body, Trees, no_more, more, Other, without, with, Pairs, no_pair, pair, Pieces, no_piece, plain_piece, code_piece, Whens, no_when, when, Rescues, no_clause, clause, Params, no_param, required, optional, rest_param, block_param}
use Rattle.iseq_types.specs.declared.instructions.Instr.{Instr}
use Rattle.iseq_types.specs.declared.instructions.Instr.TheVariants.{Pop, Dup, TopN, SetN, AdjustStack, PutNil, PutSelf, PutObject, PutString, GetLocal, SetLocal, GetInstanceVariable, SetInstanceVariable, GetGlobal, SetGlobal, SetConstant, OptGetConstantPath, NewArray, NewHash, NewRange, ConcatStrings, ObjToString, AnyToString, Send, InvokeSuper, InvokeBlock, DefineMethod, DefineClass, CheckMatch, Jump, BranchIf, BranchUnless, BranchNil, Throw, Leave, ExpandArray}
use Rattle.iseq_types.specs.declared.instructions.Literal.TheVariants.{True, False, Int, Sym}
use Rattle.iseq_types.specs.declared.sequences.CatchKind.TheVariants as catches
use Rattle.ruby_meaning.specs.Locals.{place_of, params_of, names_of_params}
use Rattle.ruby_meaning.specs.Sequences.{sequence_number}
use Rattle.ruby_meaning.specs.Levels.{Sight, level_of, slot_of}
use Rattle.code_meaning.specs.Code.{Shape, done, op, ahead, behind, deep, part, held, size}

-- Where a node stands: in a loop of its sequence or not; directly in the clauses of a rescue part or not; the number and the first line of its
-- sequence; what is in sight; and of its file the path and the places of the sequences.
pub record Where : Type 0 where
  pub loop : Bool
  pub clause : Bool
  pub number : ℕ
  pub first : ℕ
  pub sight : Sight
  pub path : Bytes
  pub places : List ℕ

-- in the body of a loop
abbrev pub looped : Where → Where
looped l = record l { loop = true }

-- the number of the sequence of a body, a rescue part or an ensure part
abbrev pub number_of : Where → Tree → ℕ
number_of l t = sequence_number l.places (place_of t)

-- What stands for no token has the first line of its sequence.
abbrev pub line_or : ℕ → ℕ → ℕ
line_or first zero = first
line_or first (suc n) = suc n

abbrev pub line_at : Where → ℕ → ℕ
line_at l n = line_or l.first n

-- the line of a node's name or operator, and that of its first token
abbrev pub own : Where → SourcePosition → ℕ
own l s = line_at l s.line

abbrev pub start : Where → SourcePosition → ℕ
start l s = line_at l s.first

abbrev pub count : Trees → ℕ
count no_more = 0
count (more t ts) = suc (count ts)

abbrev pub count_pairs : Pairs → ℕ
count_pairs no_pair = 0
count_pairs (pair t u ps) = suc (count_pairs ps)

abbrev pub count_pieces : Pieces → ℕ
count_pieces no_piece = 0
count_pieces (plain_piece x ps) = suc (count_pieces ps)
count_pieces (code_piece t ps) = suc (count_pieces ps)

-- ---- operands

-- locals

abbrev pub get_local : Where → Bytes → Instr
get_local l x = GetLocal (slot_of x l.sight.scopes) (level_of x l.sight.scopes)

abbrev pub set_local : Where → Bytes → Instr
set_local l x = SetLocal (slot_of x l.sight.scopes) (level_of x l.sight.scopes)

abbrev pub set_goal : Where → Goal → Instr
set_goal l (to_local x) = set_local l x
set_goal l (to_instance x) = SetInstanceVariable x
set_goal l (to_global x) = SetGlobal x
set_goal l (to_constant x) = SetConstant x

-- the sets of several targets, in order
abbrev pub sets : Where → ℕ → List Goal → Shape → Shape
sets l line [] s = s
sets l line (g ∷ gs) s = op line (set_goal l g) (sets l line gs s)

-- the flags of a call: 1 for the receiver self, 2 for a block value, 4 for a bare name

abbrev pub is_self_form : Form → ℕ
is_self_form self_value = 1
is_self_form f = 0

abbrev pub self_flag : Tree → ℕ
self_flag (at s f) = is_self_form f

abbrev pub receiver_flag : Other → ℕ
receiver_flag without = 1
receiver_flag (with t) = self_flag t

abbrev pub value_flag : Other → ℕ
value_flag without = 0
value_flag (with t) = 2

abbrev pub bare_flag : Bool → ℕ
bare_flag true = 4
bare_flag false = 0

-- a call without splats, block value and block
abbrev pub plain_send : Bytes → ℕ → ℕ → Instr
plain_send x n flags = Send x n [] flags 0

-- a call that may have a literal block, over which its own row lies
abbrev pub with_literal : Where → ℕ → (ℕ → Instr) → Other → Shape
with_literal l line call without = op line (call 0) done
with_literal l line call (with t) = held catches.Break 0 0 (op line (call (suc (number_of l t))) done) done

-- where the first name of a path is looked for
abbrev pub path_start : Bool → ℕ
path_start true = 1
path_start false = 0

abbrev pub open_end : Bool → ℕ
open_end true = 1
open_end false = 0

abbrev pub on_self : Bool → ℕ
on_self true = 1
on_self false = 0

-- `while` goes on where the condition holds, and `until` where it does not
abbrev pub branch_by : Bool → ℕ → Instr
branch_by true = BranchUnless
branch_by false = BranchIf

-- in a loop, or in a block
abbrev pub throw_by : Bool → ℕ → ℕ → ℕ
throw_by true n m = n
throw_by false n m = m

-- the name of a clause gets the exception
abbrev pub named : Where → ℕ → Option Bytes → Shape → Shape
named l line None s = s
named l line (Some x) s = op line Dup (op line (set_local l x) s)

-- the values of these parameters
abbrev pub gets : Where → ℕ → List Bytes → Shape → Shape
gets l line [] s = s
gets l line (x ∷ xs) s = op line (get_local l x) (gets l line xs s)

-- ---- the parts of rows that stand several times

-- `x.m = v` and `x[i] = v` from the value on: it goes below the receiver as the value of all, and what the call answers is dropped
abbrev pub set_by_send : ℕ → ℕ → ℕ → Bytes → ℕ → ℕ → Shape → Shape
set_by_send line call depth x n flags s = op line (SetN depth) (op call (plain_send x n flags) (op line Pop s))

-- `||=` and `&&=` of an attribute or an index, from the value that was read on: the branch to the end, the new value, and the end of the old one
abbrev pub or_set : ℕ → ℕ → (ℕ → Instr) → ℕ → Bytes → ℕ → ℕ → Shape → Shape
or_set line call branch depth x n flags v =
    op line Dup (ahead line branch (size v + 5)
    (op line Pop (part depth v (set_by_send line call depth x n flags
    (ahead line Jump 2 (op line (SetN depth) (op line (AdjustStack depth) done)))))))

-- the value of `a.m` above nil and the receiver, before it is set
abbrev pub attribute_read : ℕ → ℕ → Bytes → ℕ → Shape → Shape → Shape
attribute_read line call x flags a k = op line PutNil (part 1 a (op line Dup (op call (plain_send x 0 flags) k)))

-- the value of `a[i]` above nil, the receiver and the index, before it is set
abbrev pub index_read : ℕ → ℕ → ℕ → Shape → Shape → Shape → Shape
index_read line call flags a i k =
    op line PutNil (part 1 a (part 2 i (op line (TopN 1) (op line (TopN 1) (op call (plain_send (codes "[]") 1 flags) k)))))

-- a loop from its body on: the body, which its two rows hold, and the condition
abbrev pub turns : ℕ → Bool → Shape → Shape → Shape
turns line until_true a c =
    held catches.Next 0 0 (held catches.Break (size c + 3) 0 a done)
    (op line Pop (part 0 c (behind line (branch_by until_true) (size a + 1 + size c) (op line PutNil done))))

-- where nodes stand within rescue and ensure parts

abbrev pub in_rescue : Where → Tree → Where
in_rescue l (at s f) = record l { clause = true; number = sequence_number l.places s.place; first = s.first }

abbrev pub in_ensure : Where → Tree → Where
in_ensure l (at s f) = record l { clause = false; number = sequence_number l.places s.place; first = s.first }

-- ---- the table

abbrev mutual
  pub shape : Where → Tree → Shape
  shape l (at s f) = form_shape l f s

  pub form_shape : Where → Form → SourcePosition → Shape
  form_shape l nil_value = λ s. op (own l s) PutNil done
  form_shape l true_value = λ s. op (own l s) (PutObject True) done
  form_shape l false_value = λ s. op (own l s) (PutObject False) done
  form_shape l (integer i) = λ s. op (own l s) (PutObject (Int i)) done
  form_shape l (symbol x) = λ s. op (own l s) (PutObject (Sym x)) done
  form_shape l (text x) = λ s. op (own l s) (PutString x) done
  form_shape l self_value = λ s. op (own l s) PutSelf done
  form_shape l file_name = λ s. op (own l s) (PutString l.path) done
  form_shape l folder_name = λ s. op (own l s) (PutString (parent_of l.path)) done
  form_shape l line_number = λ s. op (own l s) (PutObject (Int (pos s.line))) done
  form_shape l (local x) = λ s. op (own l s) (get_local l x) done
  form_shape l (instance x) = λ s. op (own l s) (GetInstanceVariable x) done
  form_shape l (global x) = λ s. op (own l s) (GetGlobal x) done
  form_shape l (joined ps) = λ s. pieces_shape l (own l s) 0 ps (op (own l s) (ConcatStrings (count_pieces ps)) done)
  form_shape l (array ts ks) = λ s. args_shape l 0 ts (op (own l s) (NewArray (count ts) ks) done)
  form_shape l (hash ps) = λ s. pairs_shape l 0 ps (op (own l s) (NewHash (2 * count_pairs ps)) done)
  form_shape l (range a c e) = λ s. part 0 (shape l a) (part 1 (shape l c) (op (own l s) (NewRange (open_end e)) done))
  form_shape l (constant_path o top xs) = λ s. path_shape l o top xs (own l s)
  form_shape l (assign t g) = λ s. part 0 (shape l t) (op (own l s) Dup (op (own l s) (set_goal l g) done))
  form_shape l (assign_all ts gs) = λ s. values_shape l ts (own l s) (op (own l s) Dup (op (own l s) (ExpandArray (length gs)) (sets l (own l s) gs done)))
  form_shape l (assign_attribute a t m) = λ s.
      op (start l s) PutNil (part 1 (shape l a) (part 2 (shape l t) (set_by_send (start l s) (own l s) 2 m 1 (self_flag a) done)))
  form_shape l (assign_index a i t) = λ s.
      op (start l s) PutNil (part 1 (shape l a) (part 2 (shape l i) (part 3 (shape l t) (set_by_send (start l s) (own l s) 3 (codes "[]=") 2 (self_flag a) done))))
  form_shape l (operate_attribute a x t f m n) = λ s.
      attribute_read (start l s) (own l s) x (self_flag a) (shape l a) (part 3 (shape l t) (op (line_at l n) (plain_send f 1 0) (set_by_send (start l s) (own l s) 2 m 1 (self_flag a) done)))
  form_shape l (or_attribute a x t m) = λ s. attribute_read (start l s) (own l s) x (self_flag a) (shape l a) (or_set (start l s) (own l s) BranchIf 2 m 1 (self_flag a) (shape l t))
  form_shape l (and_attribute a x t m) = λ s. attribute_read (start l s) (own l s) x (self_flag a) (shape l a) (or_set (start l s) (own l s) BranchUnless 2 m 1 (self_flag a) (shape l t))
  form_shape l (operate_index a i t f n) = λ s.
      index_read (start l s) (own l s) (self_flag a) (shape l a) (shape l i) (part 4 (shape l t) (op (line_at l n) (plain_send f 1 0) (set_by_send (start l s) (own l s) 3 (codes "[]=") 2 (self_flag a) done)))
  form_shape l (or_index a i t) = λ s. index_read (start l s) (own l s) (self_flag a) (shape l a) (shape l i) (or_set (start l s) (own l s) BranchIf 3 (codes "[]=") 2 (self_flag a) (shape l t))
  form_shape l (and_index a i t) = λ s. index_read (start l s) (own l s) (self_flag a) (shape l a) (shape l i) (or_set (start l s) (own l s) BranchUnless 3 (codes "[]=") 2 (self_flag a) (shape l t))
  form_shape l (send o ts ks v x bare t) = λ s.
      receiver_shape l o (start l s) (args_shape l 1 ts (value_shape l (suc (count ts)) v
      (with_literal l (own l s) (Send x (count ts) ks (receiver_flag o + value_flag v + bare_flag bare)) t)))
  form_shape l (safe_send a ts ks v x t) = λ s.
      part 0 (shape l a) (op (start l s) Dup (ahead (start l s) BranchNil
      (size (args_shape l 1 ts (value_shape l (suc (count ts)) v (with_literal l (own l s) (Send x (count ts) ks (self_flag a + value_flag v)) t))))
      (args_shape l 1 ts (value_shape l (suc (count ts)) v (with_literal l (own l s) (Send x (count ts) ks (self_flag a + value_flag v)) t)))))
  form_shape l (yield ts ks) = λ s. args_shape l 0 ts (op (own l s) (InvokeBlock (count ts) ks) done)
  form_shape l (super ts ks v t) = λ s.
      op (own l s) PutSelf (args_shape l 1 ts (value_shape l (suc (count ts)) v (with_literal l (own l s) (InvokeSuper (count ts) ks (1 + value_flag v)) t)))
  form_shape l (bare_super t) = λ s.
      op (own l s) PutSelf (gets l (own l s) (names_of_params (params_of l.sight.body))
      (with_literal l (own l s) (InvokeSuper (length (names_of_params (params_of l.sight.body))) [] 1) t))
  form_shape l bare_raise = λ s. op (own l s) PutSelf (deep (own l s) TopN (op (own l s) (plain_send (codes "raise") 1 1) done))
  form_shape l (statements ts) = λ s. all_shape l (own l s) ts
  form_shape l (both a c) = λ s.
      part 0 (shape l a) (op (own l s) Dup (ahead (own l s) BranchUnless (suc (size (shape l c))) (op (own l s) Pop (part 0 (shape l c) done))))
  form_shape l (either a c) = λ s.
      part 0 (shape l a) (op (own l s) Dup (ahead (own l s) BranchIf (suc (size (shape l c))) (op (own l s) Pop (part 0 (shape l c) done))))
  form_shape l (negated a) = λ s. part 0 (shape l a) (op (own l s) (plain_send (codes "!") 0 (self_flag a)) done)
  form_shape l (if_else c a o) = λ s.
      part 0 (shape l c) (ahead (own l s) BranchUnless (size (shape l a) + 1)
      (part 0 (shape l a) (ahead (own l s) Jump (size (other_shape l o)) (part 0 (other_shape l o) done))))
  form_shape l (while_loop a c u false) = λ s. ahead (own l s) Jump (size (shape (looped l) a) + 1) (turns (own l s) u (shape (looped l) a) (shape l c))
  form_shape l (while_loop a c u true) = λ s. turns (own l s) u (shape (looped l) a) (shape l c)
  form_shape l (case_of a ws o) = λ s.
      part 0 (shape l a) (patterns_shape l (own l s) ws (size (other_shape l o) + 2)
      (op (own l s) Pop (part 0 (other_shape l o) (ahead (own l s) Jump (size (cases_shape l (own l s) ws)) (cases_shape l (own l s) ws)))))
  form_shape l (case_tests ws o) = λ s.
      tests_shape l (own l s) ws (size (other_shape l o) + 1)
      (part 0 (other_shape l o) (ahead (own l s) Jump (size (hits_shape l (own l s) ws)) (hits_shape l (own l s) ws)))
  form_shape l (return_with ts) = λ s. values_shape l ts (own l s) (op (own l s) (Throw 1) done)
  form_shape l (break_with ts) = λ s. values_shape l ts (own l s) (op (own l s) (Throw (throw_by l.loop 2 4)) done)
  form_shape l (next_with ts) = λ s. values_shape l ts (own l s) (op (own l s) (Throw (throw_by l.loop 3 5)) done)
  form_shape l retry = λ s. op (own l s) PutNil (op (own l s) (Throw 7) done)
  form_shape l (rescue a o c) = λ s. held catches.Rescue (size (last_shape l (own l s) o)) (number_of l c) (shape l a) (last_shape l (own l s) o)
  form_shape l (ensure a c) = λ s. held catches.Ensure 0 (number_of l c) (part 0 (shape l a) (op (own l s) (Throw 6) done)) done
  form_shape l (rescue_sequence cs) = λ s. clauses_shape l cs (own l s) 0 (op (own l s) (Throw 0) (bodies_shape l cs (own l s)))
  form_shape l (ensure_sequence a) = λ s. part 0 (shape l a) (op (own l s) Pop (op (own l s) (Throw 0) done))
  form_shape l (method x t f) = λ s. op (own l s) (DefineMethod x (suc (number_of l t)) (on_self f)) (op (own l s) (PutObject (Sym x)) done)
  form_shape l (class without x t) = λ s. op (own l s) PutNil (op (own l s) (DefineClass x (suc (number_of l t)) 0) done)
  form_shape l (class (with c) x t) = λ s. part 0 (shape l c) (op (own l s) (DefineClass x (suc (number_of l t)) 1) done)
  form_shape l (module_named x t) = λ s. op (own l s) PutNil (op (own l s) (DefineClass x (suc (number_of l t)) 2) done)
  form_shape l (body ps t) = λ s. params_shape l ps (part 0 (shape l t) (op l.first Leave done))

  -- the parameters that may be left out
  pub params_shape : Where → Params → Shape → Shape
  params_shape l no_param = λ s. s
  params_shape l (required x ps) = λ s. params_shape l ps s
  params_shape l (optional x t ps) = λ s. part 0 (shape l t) (op l.first (set_local l x) (params_shape l ps s))
  params_shape l (rest_param x ps) = λ s. params_shape l ps s
  params_shape l (block_param x ps) = λ s. params_shape l ps s

  pub all_shape : Where → ℕ → Trees → Shape
  all_shape l line no_more = op line PutNil done
  all_shape l line (more t ts) = part 0 (shape l t) (rest_shape l line ts)

  -- statements behind another one, whose value is dropped
  pub rest_shape : Where → ℕ → Trees → Shape
  rest_shape l line no_more = done
  rest_shape l line (more t ts) = op line Pop (part 0 (shape l t) (rest_shape l line ts))

  -- values, of which the first stands so much deeper
  pub args_shape : Where → ℕ → Trees → Shape → Shape
  args_shape l d no_more = λ s. s
  args_shape l d (more t ts) = λ s. part d (shape l t) (args_shape l (suc d) ts s)

  pub pairs_shape : Where → ℕ → Pairs → Shape → Shape
  pairs_shape l d no_pair = λ s. s
  pairs_shape l d (pair t u ps) = λ s. part d (shape l t) (part (suc d) (shape l u) (pairs_shape l (suc (suc d)) ps s))

  pub pieces_shape : Where → ℕ → ℕ → Pieces → Shape → Shape
  pieces_shape l line d no_piece = λ s. s
  pieces_shape l line d (plain_piece x ps) = λ s. op line (PutString x) (pieces_shape l line (suc d) ps s)
  pieces_shape l line d (code_piece t ps) = λ s.
      part d (shape l t) (op line Dup (op line ObjToString (op line AnyToString (pieces_shape l line (suc d) ps s))))

  pub path_shape : Where → Other → Bool → List Bytes → ℕ → Shape
  path_shape l without top xs line = op line (OptGetConstantPath (path_start top) xs) done
  path_shape l (with t) top xs line = part 0 (shape l t) (op line (OptGetConstantPath 2 xs) done)

  pub receiver_shape : Where → Other → ℕ → Shape → Shape
  receiver_shape l without = λ line s. op line PutSelf s
  receiver_shape l (with t) = λ line s. part 0 (shape l t) s

  -- the block value
  pub value_shape : Where → ℕ → Other → Shape → Shape
  value_shape l d without = λ s. s
  value_shape l d (with t) = λ s. part d (shape l t) s

  -- a part that may be missing, which has nil for its value then
  pub other_shape : Where → Other → Shape
  other_shape l without = op l.first PutNil done
  other_shape l (with t) = shape l t

  -- the part behind `else` of a body with clauses
  pub last_shape : Where → ℕ → Other → Shape
  last_shape l line without = done
  last_shape l line (with t) = op line Pop (part 0 (shape l t) done)

  -- nil for nothing, one value, or an array of several
  pub values_shape : Where → Trees → ℕ → Shape → Shape
  values_shape l no_more = λ line s. op line PutNil s
  values_shape l (more t no_more) = λ line s. part 0 (shape l t) s
  values_shape l (more t (more u us)) = λ line s.
      part 0 (shape l t) (part 1 (shape l u) (args_shape l 2 us (op line (NewArray (suc (suc (count us))) []) s)))

  -- What a case compares its value with, before the else part. The body of the first is so far behind the tests of all.
  pub patterns_shape : Where → ℕ → Whens → ℕ → Shape → Shape
  patterns_shape l line no_when far = λ s. s
  patterns_shape l line (when ts t ws) far = λ s.
      pattern_shape l line ts (size (patterns_shape l line ws 0 done) + far) (patterns_shape l line ws (far + (size (shape l t) + 2)) s)

  pub pattern_shape : Where → ℕ → Trees → ℕ → Shape → Shape
  pattern_shape l line no_more far = λ s. s
  pattern_shape l line (more t ts) far = λ s.
      part 1 (shape l t) (op line (TopN 1) (op l.first (plain_send (codes "===") 1 (self_flag t))
      (ahead line BranchIf (size (pattern_shape l line ts 0 done) + far) (pattern_shape l line ts far s))))

  -- the bodies of a case with a value, which is dropped
  pub cases_shape : Where → ℕ → Whens → Shape
  cases_shape l line no_when = done
  cases_shape l line (when ts t ws) = op line Pop (part 0 (shape l t) (ahead line Jump (size (cases_shape l line ws)) (cases_shape l line ws)))

  -- the tests of a case without a value
  pub tests_shape : Where → ℕ → Whens → ℕ → Shape → Shape
  tests_shape l line no_when far = λ s. s
  tests_shape l line (when ts t ws) far = λ s.
      test_shape l line ts (size (tests_shape l line ws 0 done) + far) (tests_shape l line ws (far + (size (shape l t) + 1)) s)

  pub test_shape : Where → ℕ → Trees → ℕ → Shape → Shape
  test_shape l line no_more far = λ s. s
  test_shape l line (more t ts) far = λ s.
      part 0 (shape l t) (ahead line BranchIf (size (test_shape l line ts 0 done) + far) (test_shape l line ts far s))

  -- the bodies of a case without a value
  pub hits_shape : Where → ℕ → Whens → Shape
  hits_shape l line no_when = done
  hits_shape l line (when ts t ws) = part 0 (shape l t) (ahead line Jump (size (hits_shape l line ws)) (hits_shape l line ws))

  -- The tests of the clauses, before the throw. The body of the first is so far behind the throw.
  pub clauses_shape : Where → Rescues → ℕ → ℕ → Shape → Shape
  clauses_shape l no_clause = λ line far s. s
  clauses_shape l (clause ts x t cs) = λ line far s.
      clause_shape l ts line (size (clauses_shape l cs line 0 done) + 1 + far)
      (clauses_shape l cs line (far + size (named l line x (part 0 (shape l t) (op line Leave done)))) s)

  -- a clause without classes takes StandardError
  pub clause_shape : Where → Trees → ℕ → ℕ → Shape → Shape
  clause_shape l no_more = λ line far s.
      op line Dup (op l.first (OptGetConstantPath 1 (codes "StandardError" ∷ [])) (op line CheckMatch (ahead line BranchIf far s)))
  clause_shape l (more t ts) = λ line far s.
      op line Dup (part 1 (shape l t) (op line CheckMatch (ahead line BranchIf (size (classes_shape l ts line 0 done) + far) (classes_shape l ts line far s))))

  pub classes_shape : Where → Trees → ℕ → ℕ → Shape → Shape
  classes_shape l no_more = λ line far s. s
  classes_shape l (more t ts) = λ line far s.
      op line Dup (part 1 (shape l t) (op line CheckMatch (ahead line BranchIf (size (classes_shape l ts line 0 done) + far) (classes_shape l ts line far s))))

  pub bodies_shape : Where → Rescues → ℕ → Shape
  bodies_shape l no_clause = λ line. done
  bodies_shape l (clause ts x t cs) = λ line. named l line x (part 0 (shape l t) (op line Leave (bodies_shape l cs line)))
