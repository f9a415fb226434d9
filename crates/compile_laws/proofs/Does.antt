-- The code of a tree does what the tree means.
use Rattle.std.proofs.Common.{zero, ◌≡◌, ℕ, suc, ◌+◌, ◌-◌, ◌≤◌, ◌<◌, ◌⊎◌, inl, inr, Bool, true, false, not, cond, refl, sym, subst, ap, ◌∙◌, arith, List, [], ◌∷◌, ◌++◌, length, Option, Some, None, length-append, append_assoc}
use Rattle.std.specs.Prelude.{⊤, nat_lt, slice_get, nat_le, codes, map, ◌*◌, pos}
use Rattle.bs_outside.specs.Paths.{parent_of}
use Rattle.ruby_tree.specs.Names.{Bytes}
use Rattle.ruby_tree.specs.Tree.{SourcePosition, Goal, to_local, to_instance, to_global, to_constant, Tree, at, Form, nil_value, true_value, false_value, integer, symbol, text, self_value, file_name, folder_name, line_number, local, instance, global, joined, array, hash, range, constant_path, assign, assign_all, assign_attribute, assign_index, operate_attribute, or_attribute, and_attribute, operate_index, or_index, and_index, send, safe_send, yield, super, bare_super, bare_raise, statements, both, either, negated, if_else, while_loop, case_of, case_tests, return_with, break_with, next_with, retry, rescue, ensure, rescue_sequence, ensure_sequence, method, class, module_named, body, Trees, no_more, more, Other, without, with, Pairs, no_pair, pair, Pieces, no_piece, plain_piece, code_piece, Whens, no_when, when, Rescues, no_clause, clause}
use Rattle.iseq_types.specs.declared.instructions.Instr.{Instr}
use Rattle.iseq_types.specs.declared.instructions.Instr.TheVariants.{Pop, Dup, TopN, SetN, AdjustStack, PutNil, PutSelf, PutObject, PutString, GetInstanceVariable, GetGlobal, OptGetConstantPath, NewArray, NewHash, NewRange, ConcatStrings, ObjToString, AnyToString, Send, InvokeSuper, InvokeBlock, DefineMethod, DefineClass, CheckMatch, Jump, BranchIf, BranchUnless, BranchNil, Throw, Leave, ExpandArray}
use Rattle.iseq_types.specs.declared.instructions.Literal.TheVariants.{True, False, Int, Sym}
use Rattle.iseq_types.specs.declared.sequences.CatchRow.{CatchRow}
use Rattle.iseq_types.specs.declared.sequences.SeqKind.TheVariants as kinds
use Rattle.ruby_meaning.specs.Value.{Value, nil, yes, no, number, symbol_named, object, elements, Source, written, class_or_module, Object}
use Rattle.ruby_meaning.specs.Numbers.{object_class, type_error, frozen_error, name_error, closed_classes}
use Rattle.ruby_meaning.specs.Natives.Messages.{no_change}
use Rattle.ruby_meaning.specs.Constants.{innermost, own_constant, name_behind}
use Rattle.ruby_meaning.specs.Store.{next_number, class_cells, name_cells, environment_cells, is_one_of, class_name, array_cells, method_cells, string_cells, object_cells, variable_cells, cell_limit, new_object, new_string, is_true, is_a, has_name, variables_at, class_at, name_of_class_of}
use Rattle.ruby_meaning.specs.Locals.{place_of, locals_of, params_of, names_of_params}
use Rattle.ruby_meaning.specs.Sequences.{sequence_number}
use Rattle.ruby_meaning.specs.World.{Given, no_block, literal_block, Running, entered, World, Frame, to_loop, Outcome, Done, Raise, Break, Next, Return, Retry, Spent, Full, Run, world_of, text_of, frame_limit}
use Rattle.ruby_meaning.specs.Steps.{changing, then_do, then, reading, choose, charge, charged, ended, at_depth, deeper_if, with_object, make, make_string, exception_of, raise_new, line_in, stand_in, stand, broken}
use Rattle.ruby_meaning.specs.Calls.{all_nil, with_environment, next_environment, enter, enter_load, is_entered, with_step, with_entry, call_fault, call_fault_class, spread, spread_from, variable_of, set_in, settable, first_cost, with_variable}
use Rattle.ruby_meaning.specs.Blocks.{run_given}
use Rattle.ruby_meaning.specs.Files.{Files}
use Rattle.ruby_meaning.specs.Invoke.{call_method}
use Rattle.ruby_meaning.specs.Definitions.{read_local, set_local, read_global, fixed_global, set_goals, set_global_if, with_global, name_cost, with_constant, set_goal, path_from, path_around, closure_here, with_closure, class_number, code_of, with_row, with_class_row, define_on, define_method}
use Rattle.ruby_meaning.specs.ClassBodies.{class_alone, module_alone, same_class, class_frame, open_class, make_class, refused, open_found, class_or_new, module_or_new, if_same_superclass, below_base, with_base, class_below, class_named, module_of_name}
use Rattle.ruby_meaning.specs.Levels.{Scopes, AllHeld, GoalHeld, GoalsHeld, NameHeld, is_held, level_of, slot_of}
use Rattle.ruby_meaning.specs.Parts.{parts_of, piece_found, piece_of, make_joined, make_array, make_hash, make_range, of_values, leave_home, leave_block, leave_loop, given_value, match_found, match_class, handling, in_sequence}
use Rattle.ruby_meaning.specs.Evaluation.{run_patterns, run_whens, run_any, run_tests, unless_nil, run_pairs, run_pieces, set_by_send, loop, set_exception, with_block, send_with, super_with, super_to, run, run_form, run_all, run_trees, run_other, run_last, run_receiver, run_given_value, run_clauses, run_clause, run_classes}
use Rattle.code_meaning.specs.Code.{at_line, Routine, rows_at, Shape, done, op, ahead, part, size, Placed, finish}
use Rattle.code_meaning.specs.Slots.{read_slot, set_slot}
use Rattle.ruby_meaning.specs.InSight.{HaveNames}
use Rattle.code_meaning.specs.Machine.{first_values, is_nil, pairs_of, Step, goes, pends, answer, drops, branch, with_value, with_args, with_top, call_answer, is_valued, is_bare, literal_given, value_given, sent, super_to_method, super_sent, act, step, rescue_frame, ensure_frame, entered_in, entered_at, Runs, Follows}
use Rattle.code_meaning.proofs.Sizes.{finish_size}
use Rattle.code_meaning.proofs.Placing.{placed}
use Rattle.compile_table.specs.Shapes as table
use Rattle.compile_table.specs.Shapes.{Where, looped, line_or, line_at, own, start, count, is_self_form, self_flag, receiver_flag, value_flag, bare_flag, plain_send, number_of, with_literal, path_start, throw_by, named, in_rescue, in_ensure, get_local, shape, form_shape, count_pairs, pairs_shape, params_shape, all_shape, rest_shape, args_shape, path_shape, receiver_shape, value_shape, other_shape, last_shape, values_shape, clauses_shape, clause_shape, classes_shape, bodies_shape}
use Rattle.compile_laws.specs.Likeness.{with_flag}
use Rattle.compile_laws.specs.Finds.{part_routine, FindsBlock, Finds, FindsForm, FindsPairs, FindsPieces, FindsWhens, FindsTrees, FindsOther, FindsRescue, FindsRescueForm, FindsEnsure, FindsEnsureForm, FindsClauses, StandsIn}
use Rattle.compile_laws.proofs.AlikeCalls.{raising_same, no_method_same, range_same, path_same, around_same, goal_same, method_defined_same, open_same, class_named_same, class_below_same, module_same, home_same, leave_same, given_same, given_block_same, call_same, super_same}
use Rattle.compile_laws.proofs.After.{deeper_pending, leap_ahead, Pending, After, here, go, pend, answers, after_then}
use Rattle.compile_laws.proofs.Ready.{Ready, KeepsReady}
use Rattle.compile_laws.proofs.Control.{emptied, Does, turn_ends, turns_run, rescues_run, ensures_run}
use Rattle.compile_laws.proofs.Stack.{append_none, High, plus_zero, high_over, item_last, pushed, pushed_last, pushed_length, pushed_over, args_off}
use Rattle.compile_laws.proofs.Clauses.{clauses_step, clauses_tail, named_tail}
use Rattle.compile_laws.proofs.Leave.{enter_turns, whole_then, emptied_then, left_with, raised_end, block_ends}

-- What the induction stands on: what every run keeps, that bodies are a fixed point, and where locals are found.
pub record Known (files : Files) (b : Tree → Frame → Run) (top : ℕ) : Type 0 where
  pub trees : (scopes : Scopes) (frame it : Frame) → it.environment ≡ frame.environment → (t : Tree) → KeepsReady scopes frame top (run files top b t it)
  pub calls : (scopes : Scopes) (frame it : Frame) → it.environment ≡ frame.environment → (line : ℕ) (self : Value) (x : Bytes) (vs : List Value) (given : Given) (bare : Bool)
      → KeepsReady scopes frame top (call_method files b it line self x vs given bare)
  pub paths : (scopes : Scopes) (frame it : Frame) → it.environment ≡ frame.environment → (line : ℕ) (xs : List Bytes) (v : Value) → KeepsReady scopes frame top (path_from it line xs v)
  pub locals : (scopes : Scopes) (frame : Frame) (n : ℕ) (x : Bytes) (v : Value) (w : World) → Ready scopes frame n w → Ready scopes frame n (set_local frame x v w)
  pub reads : (scopes : Scopes) (frame : Frame) (n : ℕ) (x : Bytes) (w : World) → Ready scopes frame n w → is_held x scopes ≡ true → read_slot frame (slot_of x scopes) (level_of x scopes) w ≡ read_local frame x w
  pub sets : (scopes : Scopes) (frame : Frame) (n : ℕ) (x : Bytes) (v : Value) (w : World) → Ready scopes frame n w → is_held x scopes ≡ true → set_slot frame (slot_of x scopes) (level_of x scopes) v w ≡ set_local frame x v w
  pub fixed : (t : Tree) (frame : Frame) (w : World) → w.turns ≤ top → run files top b t frame w ≡ b t frame w

abbrev pub with_loop : Where → Frame → Frame
with_loop l frame = with_flag l.loop frame

-- The line of the code stands where the line of the tree does.
pub own_lines : (l : Where) (frame : Frame) → frame.first ≡ l.first → (n : ℕ) → stand (with_loop l frame) n ≡ stand frame (line_at l n)
own_lines l frame e n = by_load frame.code.source.load
  where
    first_line : (m : ℕ) → frame.first ≡ m → frame.first ≡ line_in frame m
    first_line zero same = refl
    first_line (suc m) same = same

    lines : (m : ℕ) → line_in (with_loop l frame) m ≡ line_in frame (line_or l.first m)
    lines zero = first_line l.first e
    lines (suc m) = refl

    by_load : (o : Option ℕ) → stand_in o (with_loop l frame) n ≡ stand_in o frame (line_at l n)
    by_load None = refl
    by_load (Some load) = ap (λ y. Some (frame.code.source.path, y)) (lines n)

-- the first flag is a bit
pub self_bit : (a : Tree) → (self_flag a ≡ 0) ⊎ (self_flag a ≡ 1)
self_bit (at s f) = by_form f
  where
    by_form : (f : Form) → (is_self_form f ≡ 0) ⊎ (is_self_form f ≡ 1)
    by_form self_value = inr refl
    by_form f = inl refl

pub choose_not : (x : Bool) (m n : Run) (z : World) → choose x m n z ≡ choose (not x) n m z
choose_not true m n z = refl
choose_not false m n z = refl

pub then_done : (o : Outcome) → o ≡ then_do o Done
then_done (Done v z) = refl
then_done (Raise v z) = refl
then_done (Break t v z) = refl
then_done (Next v z) = refl
then_done (Return n v z) = refl
then_done (Retry z) = refl
then_done (Spent z) = refl
then_done (Full z) = refl

module _ (files : Files) (b : Tree → Frame → Run) (seqs : ℕ → Routine) (bodies : ℕ → Tree) (top : ℕ) (known : Known files b top) where
  -- a run, from a place with a stack and a world to an outcome
  abbrev pub R : Routine → Frame → Outcome → ℕ → List Value → World → Type 0
  R seq frame c p st w = Runs files b seqs bodies seq frame p st w c

  abbrev pub A : Routine → Frame → Outcome → ℕ → List Value → List CatchRow → Outcome → Type 0
  A seq frame c p st out o = After files b seqs bodies seq frame c p st out o

  abbrev pub G : Where → Frame → World → Type 0
  G l frame w = Ready l.sight.scopes frame top w

  abbrev pub D : Where → Routine → Frame → List CatchRow → ℕ → ℕ → ℕ → Run → Type 0
  D l seq frame out h p p1 m = Does files b seqs bodies top l.clause l.sight.scopes seq frame out h p p1 m

  abbrev pub run_it : Where → Frame → Tree → Run
  run_it l frame t = run files top b t (with_loop l frame)

  pub keeps : (l : Where) (frame : Frame) (t : Tree) (w : World) → G l frame w → G l frame (world_of (run_it l frame t w))
  keeps l frame t w le = known.trees l.sight.scopes frame (with_loop l frame) refl t top w (omega arith) le

  -- an instruction that goes on
  pub on : (seq : Routine) (frame : Frame) (c : Outcome) (p : ℕ) (st : List Value) (w : World) (line : ℕ) (i : Instr) (p1 : ℕ) (st1 : List Value) (w1 : World)
      → slice_get seq.body.code p ≡ Some (at_line line i) → act files b seqs bodies seq.kind frame p st w line i ≡ goes p1 st1 w1 → R seq frame c p1 st1 w1 → R seq frame c p st w
  on seq frame c p st w line i p1 st1 w1 e f r = go files b seqs bodies seq frame c p st w p1 st1 w1 (here files b seqs bodies seq frame c p st w line i e ∙ f) r

  -- an instruction that is an outcome, whose value is pushed
  pub answered : (seq : Routine) (frame : Frame) (c : Outcome) (p p1 : ℕ) (st base extra : List Value) (w : World) (out : List CatchRow) (line : ℕ) (i : Instr) (o m : Outcome)
      → slice_get seq.body.code p ≡ Some (at_line line i) → rows_at p seq.body.rows ≡ out → act files b seqs bodies seq.kind frame p st w line i ≡ answer p1 base o → st ≡ extra ++ base → m ≡ o
      → A seq frame c p1 base out m → R seq frame c p st w
  answered seq frame c p p1 st base extra w out line i o m e rows f over same k =
      answers files b seqs bodies seq frame c p p1 st base extra w out o (here files b seqs bodies seq frame c p st w line i e ∙ f) rows over (subst (λ y. A seq frame c p1 base out y) same k)

  -- a tree, and what follows its value
  pub tree_then : (seq : Routine) (frame : Frame) (out : List CatchRow) (h p p1 p2 : ℕ) (l : Where) (t : Tree) → D l seq frame out h p p1 (run_it l frame t)
      → (c : Outcome) (stk over st : List Value) (w : World) (next : Value → Run) {h0 : ℕ} → High l.clause frame.handled h0 st → length stk ≡ h → stk ≡ over ++ st → G l frame w
      → ((v : Value) (z : World) → G l frame z → A seq frame c p2 st out (next v z) → R seq frame c p1 (v ∷ stk) z) → A seq frame c p2 st out (then_do (run_it l frame t w) next) → R seq frame c p stk w
  tree_then seq frame out h p p1 p2 l t d c stk over st w next {h0} base high e le g k =
      d c stk w (high_over l.clause frame.handled h0 h stk over st base high e) le (after_then files b seqs bodies seq frame c (G l frame) p1 p2 stk over st out (run_it l frame t w) next e (keeps l frame t w le) g k)

  -- a jump ahead over the rest of the way
  pub jump_to : (seq : Routine) (frame : Frame) (c : Outcome) (p n line p1 : ℕ) (st : List Value) (w : World) → slice_get seq.body.code p ≡ Some (at_line line (Jump (p + 1 + n))) → p + 1 + n ≡ p1 → R seq frame c p1 st w → R seq frame c p st w
  jump_to seq frame c p n line p1 st w e f r =
      on seq frame c p st w line (Jump (p + 1 + n)) p1 st w e (leap_ahead p (p + 1 + n) st w (omega arith) ∙ ap (λ x. goes x st w) f) r

  pub branch_over : (x : Bool) (p n p1 : ℕ) (st : List Value) (w : World) → x ≡ true → p + 1 + n ≡ p1 → branch x p (p + 1 + n) st w ≡ goes p1 st w
  branch_over x p n p1 st w e f = ap (λ y. branch y p (p + 1 + n) st w) e ∙ leap_ahead p (p + 1 + n) st w (omega arith) ∙ ap (λ y. goes y st w) f

  pub branch_on : (x : Bool) (p t : ℕ) (st : List Value) (w : World) → x ≡ false → branch x p t st w ≡ goes (p + 1) st w
  branch_on x p t st w e = ap (λ y. branch y p t st w) e

  -- the same outcome, at another place behind it
  pub after_move : (seq : Routine) (frame : Frame) (c : Outcome) (p1 p2 : ℕ) (st : List Value) (out : List CatchRow) (o : Outcome) → ((v : Value) (z : World) → R seq frame c p2 (v ∷ st) z → R seq frame c p1 (v ∷ st) z)
      → A seq frame c p2 st out o → A seq frame c p1 st out o
  after_move seq frame c p1 p2 st out (Done v z) g k = g v z k
  after_move seq frame c p1 p2 st out (Raise v z) g k = k
  after_move seq frame c p1 p2 st out (Break t v z) g k = k
  after_move seq frame c p1 p2 st out (Next v z) g k = k
  after_move seq frame c p1 p2 st out (Return n v z) g k = k
  after_move seq frame c p1 p2 st out (Retry z) g k = k
  after_move seq frame c p1 p2 st out (Spent z) g k = k
  after_move seq frame c p1 p2 st out (Full z) g k = k

  -- `and` and `or`, from the branch on
  pub short_ends : (l : Where) (seq : Routine) (frame : Frame) (out : List CatchRow) (h pb n line fin : ℕ) (i : Instr) (m : Run) (c : Outcome) (st : List Value) (v : Value) (z : World) (y : Bool) → slice_get seq.body.code pb ≡ Some (at_line line i)
      → act files b seqs bodies seq.kind frame pb (v ∷ (v ∷ st)) z line i ≡ branch y pb (pb + 1 + n) (v ∷ st) z → pb + 1 + n ≡ fin → slice_get seq.body.code (pb + 1) ≡ Some (at_line line Pop)
      → D l seq frame out h (pb + 1 + 1) fin m → High l.clause frame.handled h st → G l frame z → (x : Bool) → y ≡ x → A seq frame c fin st out (choose x (Done v) m z) → R seq frame c pb (v ∷ (v ∷ st)) z
  short_ends l seq frame out h pb n line fin i m c st v z y e f over pop d high le true same k =
      on seq frame c pb (v ∷ (v ∷ st)) z line i fin (v ∷ st) z e (f ∙ branch_over y pb n fin (v ∷ st) z same over) k
  short_ends l seq frame out h pb n line fin i m c st v z y e f over pop d high le false same k =
      on seq frame c pb (v ∷ (v ∷ st)) z line i (pb + 1) (v ∷ st) z e (f ∙ branch_on y pb (pb + 1 + n) (v ∷ st) z same)
      (on seq frame c (pb + 1) (v ∷ st) z line Pop (pb + 1 + 1) st z pop refl (d c st z high le k))

  -- an `if`, from the branch on
  pub if_ends : (l : Where) (seq : Routine) (frame : Frame) (out : List CatchRow) (h pb n pa n2 line fin : ℕ) (m m2 : Run) (c : Outcome) (st : List Value) (v : Value) (z : World) → slice_get seq.body.code pb ≡ Some (at_line line (BranchUnless (pb + 1 + n)))
      → pb + 1 + n ≡ pa + 1 → slice_get seq.body.code pa ≡ Some (at_line line (Jump (pa + 1 + n2))) → pa + 1 + n2 ≡ fin
      → D l seq frame out h (pb + 1) pa m → D l seq frame out h (pa + 1) fin m2 → High l.clause frame.handled h st → G l frame z
      → (x : Bool) → is_true v ≡ x → A seq frame c fin st out (choose x m m2 z) → R seq frame c pb (v ∷ st) z
  if_ends l seq frame out h pb n pa n2 line fin m m2 c st v z e over jump over2 d d2 high le true same k =
      on seq frame c pb (v ∷ st) z line (BranchUnless (pb + 1 + n)) (pb + 1) st z e (branch_on (not (is_true v)) pb (pb + 1 + n) st z (ap not same))
      (d c st z high le (after_move seq frame c pa fin st out (m z) (λ u y r. jump_to seq frame c pa n2 line fin (u ∷ st) y jump over2 r) k))
  if_ends l seq frame out h pb n pa n2 line fin m m2 c st v z e over jump over2 d d2 high le false same k =
      on seq frame c pb (v ∷ st) z line (BranchUnless (pb + 1 + n)) (pa + 1) st z e (branch_over (not (is_true v)) pb n (pa + 1) st z (ap not same) over) (d2 c st z high le k)

  -- an outcome whose value is dropped for one that lies below
  pub drops_behind : (seq : Routine) (frame : Frame) (c : Outcome) (p p1 : ℕ) (v : Value) (st : List Value) (out : List CatchRow) (o : Outcome) → ((u : Value) (z : World) → R seq frame c p1 (v ∷ st) z → R seq frame c p (u ∷ (v ∷ st)) z)
      → A seq frame c p1 st out (then_do o (λ u. Done v)) → A seq frame c p (v ∷ st) out o
  drops_behind seq frame c p p1 v st out (Done u z) g k = g u z k
  drops_behind seq frame c p p1 v st out (Raise u z) g k = deeper_pending files b seqs bodies seq frame c (v ∷ st) (v ∷ []) st out (Raise u z) refl k
  drops_behind seq frame c p p1 v st out (Break t u z) g k = deeper_pending files b seqs bodies seq frame c (v ∷ st) (v ∷ []) st out (Break t u z) refl k
  drops_behind seq frame c p p1 v st out (Next u z) g k = deeper_pending files b seqs bodies seq frame c (v ∷ st) (v ∷ []) st out (Next u z) refl k
  drops_behind seq frame c p p1 v st out (Return n u z) g k = deeper_pending files b seqs bodies seq frame c (v ∷ st) (v ∷ []) st out (Return n u z) refl k
  drops_behind seq frame c p p1 v st out (Retry z) g k = deeper_pending files b seqs bodies seq frame c (v ∷ st) (v ∷ []) st out (Retry z) refl k
  drops_behind seq frame c p p1 v st out (Spent z) g k = deeper_pending files b seqs bodies seq frame c (v ∷ st) (v ∷ []) st out (Spent z) refl k
  drops_behind seq frame c p p1 v st out (Full z) g k = deeper_pending files b seqs bodies seq frame c (v ∷ st) (v ∷ []) st out (Full z) refl k

  -- what a call means by what its code does: with a literal block, a break to it is its value
  abbrev pub Means : Where → Other → ℕ → (ℕ → Outcome) → Outcome → Type 0
  Means l without k coded m = coded 0 ≡ m
  Means l (with t) k coded m = broken k (coded (suc (number_of l t))) ≡ m

  -- a call that may have a literal block
  pub call_ends : (t : Other) (l : Where) (seq : Routine) (frame : Frame) (out : List CatchRow) (h q line : ℕ) (call : ℕ → Instr) → Placed seq.body.code seq.body.rows out h q (with_literal l line call t)
      → (c : Outcome) (st : List Value) (z : World) (fin : ℕ) (stk extra : List Value) → finish q (with_literal l line call t) ≡ fin → length st ≡ h → stk ≡ extra ++ st
      → (coded : ℕ → Outcome) → ((j : ℕ) → act files b seqs bodies seq.kind frame q stk z line (call j) ≡ call_answer j (length z.closures) (q + 1) st (coded j))
      → (m : Outcome) → Means l t (length z.closures) coded m → A seq frame c fin st out m → R seq frame c q stk z
  call_ends without l seq frame out h q line call pl c st z fin stk extra e high over coded acts m means k =
      answered seq frame c q (q + 1) stk st extra z out line (call 0) (coded 0) m pl.0 pl.1 (acts 0) over (sym means) (subst (λ y. A seq frame c y st out m) (sym e) k)
  call_ends (with t) l seq frame out h q line call pl c st z fin stk extra e high over coded acts m means k =
      let i : ℕ = length z.closures in let j : ℕ = suc (number_of l t) in
      block_ends files b seqs bodies seq frame c i h q 0 stk st extra z out high pl.0.1 over (coded j)
      (here files b seqs bodies seq frame c q stk z line (call j) pl.0.0 ∙ acts j)
      (subst (λ y. A seq frame c (q + 1) st out y) (sym means) (subst (λ y. A seq frame c y st out m) (sym e) k))

  -- ---- what the frame is for

  pub call_at : (l : Where) (frame : Frame) → frame.first ≡ l.first → (n : ℕ) (self : Value) (x : Bytes) (us : List Value) (given : Given) (bare : Bool) (w : World)
      → call_method files b (with_loop l frame) n self x us given bare w ≡ call_method files b frame (line_at l n) self x us given bare w
  call_at l frame e n self x us given bare w = ap (λ f. f w) (call_same (with_loop l frame) frame n (line_at l n) refl (own_lines l frame e n) files b self x us given bare)

  spread_none : (us : List Value) (z : World) → spread [] us z ≡ us
  spread_none us z = from 0 us
    where
      from : (i : ℕ) (vs : List Value) → spread_from i [] z.objects vs ≡ vs
      from i [] = refl
      from i (v ∷ vs) = ap (λ x. v ∷ x) (from (suc i) vs)

  -- a call without splats, block value and block
  plain_acts : (seq : Routine) (frame : Frame) (p : ℕ) (w : World) (line : ℕ) (x : Bytes) (n flags : ℕ) (us : List Value) (self : Value) (st : List Value) → (flags ≡ 0) ⊎ (flags ≡ 1) → n ≡ length us
      → act files b seqs bodies seq.kind frame p (pushed us (self ∷ st)) w line (plain_send x n flags) ≡ answer (p + 1) st (call_method files b frame line self x us no_block false w)
  plain_acts seq frame p w line x n flags us self st (inl e) m =
      ap (λ y. act files b seqs bodies seq.kind frame p (pushed us (self ∷ st)) w line (plain_send x n y)) e ∙ args_off us (self ∷ st) n _ m
      ∙ ap (λ vs. answer (p + 1) st (call_method files b frame line self x vs no_block false w)) (spread_none us w)
  plain_acts seq frame p w line x n flags us self st (inr e) m =
      ap (λ y. act files b seqs bodies seq.kind frame p (pushed us (self ∷ st)) w line (plain_send x n y)) e ∙ args_off us (self ∷ st) n _ m
      ∙ ap (λ vs. answer (p + 1) st (call_method files b frame line self x vs no_block false w)) (spread_none us w)

  plain_ends : (l : Where) (seq : Routine) (frame : Frame) (out : List CatchRow) (p n0 : ℕ) (x : Bytes) (n flags : ℕ) (us : List Value) (self : Value) (st : List Value) (w : World) (c : Outcome) → frame.first ≡ l.first → (flags ≡ 0) ⊎ (flags ≡ 1) → n ≡ length us
      → slice_get seq.body.code p ≡ Some (at_line (line_at l n0) (plain_send x n flags)) → rows_at p seq.body.rows ≡ out
      → A seq frame c (p + 1) st out (call_method files b (with_loop l frame) n0 self x us no_block false w) → R seq frame c p (pushed us (self ∷ st)) w
  plain_ends l seq frame out p n0 x n flags us self st w c e bit m fetch rows k =
      answered seq frame c p (p + 1) (pushed us (self ∷ st)) st (pushed us (self ∷ [])) w out (line_at l n0) (plain_send x n flags) (call_method files b frame (line_at l n0) self x us no_block false w)
      (call_method files b (with_loop l frame) n0 self x us no_block false w) fetch rows (plain_acts seq frame p w (line_at l n0) x n flags us self st bit m) (pushed_over us (self ∷ []) st) (call_at l frame e n0 self x us no_block false w) k

  -- `x.m = v` from the value on
  set_ends : (l : Where) (seq : Routine) (frame : Frame) (out : List CatchRow) (h p line depth n0 : ℕ) (x : Bytes) (n flags : ℕ) (us : List Value) (self r : Value) (stk st : List Value) (w : World) (c : Outcome) (fin : ℕ) (s : Shape) → frame.first ≡ l.first
      → (flags ≡ 0) ⊎ (flags ≡ 1) → n ≡ length us → Placed seq.body.code seq.body.rows out h p (table.set_by_send line (line_at l n0) depth x n flags s)
      → act files b seqs bodies seq.kind frame p stk w line (SetN depth) ≡ goes (p + 1) (pushed us (self ∷ (r ∷ st))) w
      → ((z : World) → R seq frame c fin (r ∷ st) z → R seq frame c (p + 1 + 1 + 1) (r ∷ st) z)
      → A seq frame c fin st out (set_by_send files top b (with_loop l frame) n0 self x us r w) → R seq frame c p stk w
  set_ends l seq frame out h p line depth n0 x n flags us self r stk st w c fin s e bit m pl put g k =
      on seq frame c p stk w line (SetN depth) (p + 1) (pushed us (self ∷ (r ∷ st))) w pl.0 put
      (plain_ends l seq frame out (p + 1) n0 x n flags us self (r ∷ st) w c e bit m pl.2.0 pl.2.1
      (drops_behind seq frame c (p + 1 + 1) fin r st out (call_method files b (with_loop l frame) n0 self x us no_block false w)
      (λ u z a. on seq frame c (p + 1 + 1) (u ∷ (r ∷ st)) z line Pop (p + 1 + 1 + 1) (r ∷ st) z pl.2.2.0 refl (g z a)) k))

  -- ---- calls with blocks

  abbrev is_with : Other → Bool
  is_with without = false
  is_with (with t) = true

  abbrev stacked : Option Value → List Value → List Value
  stacked None st = st
  stacked (Some v) st = v ∷ st

  flags_valued : (n : ℕ) (v : Other) (bare : Bool) → (n ≡ 0) ⊎ (n ≡ 1) → is_valued (n + value_flag v + bare_flag bare) ≡ is_with v
  flags_valued n v bare (inl e) = ap (λ x. is_valued (x + value_flag v + bare_flag bare)) e ∙ by_cases v bare
    where
      by_cases : (v : Other) (bare : Bool) → is_valued (0 + value_flag v + bare_flag bare) ≡ is_with v
      by_cases without true = refl
      by_cases without false = refl
      by_cases (with t) true = refl
      by_cases (with t) false = refl
  flags_valued n v bare (inr e) = ap (λ x. is_valued (x + value_flag v + bare_flag bare)) e ∙ by_cases v bare
    where
      by_cases : (v : Other) (bare : Bool) → is_valued (1 + value_flag v + bare_flag bare) ≡ is_with v
      by_cases without true = refl
      by_cases without false = refl
      by_cases (with t) true = refl
      by_cases (with t) false = refl

  flags_bare : (n : ℕ) (v : Other) (bare : Bool) → (n ≡ 0) ⊎ (n ≡ 1) → is_bare (n + value_flag v + bare_flag bare) ≡ bare
  flags_bare n v bare (inl e) = ap (λ x. is_bare (x + value_flag v + bare_flag bare)) e ∙ by_cases v bare
    where
      by_cases : (v : Other) (bare : Bool) → is_bare (0 + value_flag v + bare_flag bare) ≡ bare
      by_cases without true = refl
      by_cases without false = refl
      by_cases (with t) true = refl
      by_cases (with t) false = refl
  flags_bare n v bare (inr e) = ap (λ x. is_bare (x + value_flag v + bare_flag bare)) e ∙ by_cases v bare
    where
      by_cases : (v : Other) (bare : Bool) → is_bare (1 + value_flag v + bare_flag bare) ≡ bare
      by_cases without true = refl
      by_cases without false = refl
      by_cases (with t) true = refl
      by_cases (with t) false = refl

  receiver_bit : (o : Other) → (receiver_flag o ≡ 0) ⊎ (receiver_flag o ≡ 1)
  receiver_bit without = inr refl
  receiver_bit (with t) = self_bit t

  send_acts : (seq : Routine) (frame : Frame) (q : ℕ) (stk : List Value) (z : World) (line : ℕ) (x : Bytes) (n : ℕ) (ks : List ℕ) (flags : ℕ) (valued bare : Bool) (g : Option Value) (us : List Value) (self : Value) (st : List Value)
      → is_valued flags ≡ valued → is_bare flags ≡ bare → n ≡ length us → ((next : Option Value → List Value → Step) → with_value valued stk next ≡ next g (pushed us (self ∷ st)))
      → (j : ℕ) → act files b seqs bodies seq.kind frame q stk z line (Send x n ks flags j) ≡ call_answer j (length z.closures) (q + 1) st (sent files b seqs bodies j frame line self x ks us bare g z)
  send_acts seq frame q stk z line x n ks flags valued bare g us self st e1 e2 m taken j =
      ap (λ y. with_value y stk (λ v st1. with_args n [] st1 (λ vs st2. with_top st2 (λ u rest. call_answer j (length z.closures) (q + 1) rest (sent files b seqs bodies j frame line u x ks vs (is_bare flags) v z))))) e1
      ∙ taken _ ∙ args_off us (self ∷ st) n _ m ∙ ap (λ y. call_answer j (length z.closures) (q + 1) st (sent files b seqs bodies j frame line self x ks us y g z)) e2

  -- what a call means, once its parts have values
  abbrev meant : Where → Frame → ℕ → Value → Bytes → List ℕ → List Value → Bool → Other → Option Value → Run
  meant l frame n self x ks us bare t g = value_given (with_loop l frame) n no_block g (λ given. with_block t (with_loop l frame) given (send_with files top b (with_loop l frame) n self x ks us bare))

  send_means : (t v : Other) (l : Where) (frame : Frame) → frame.first ≡ l.first → FindsBlock seqs bodies l t v → (n : ℕ) (self : Value) (x : Bytes) (ks : List ℕ) (us : List Value) (bare : Bool) (g : Option Value) (z : World) → (is_with v ≡ false → g ≡ None)
      → Means l t (length z.closures) (λ j. sent files b seqs bodies j frame (line_at l n) self x ks us bare g z) (meant l frame n self x ks us bare t g z)
  send_means without v l frame e fs n self x ks us bare None z only = sym (call_at l frame e n self x (spread ks us z) no_block bare z)
  send_means without v l frame e fs n self x ks us bare (Some y) z only =
      sym (ap (λ f. f z) (given_same (with_loop l frame) frame n (line_at l n) refl (own_lines l frame e n) y
      (λ given. send_with files top b (with_loop l frame) n self x ks us bare (with_loop l frame) given) (λ given. send_with files top b frame (line_at l n) self x ks us bare frame given)
      (λ i given w. call_same (with_loop l frame) frame n (line_at l n) refl (own_lines l frame e n) files b self x (spread ks us w) given bare i w)))
  send_means (with t) (with u) l frame e fs n self x ks us bare g z only = absurd fs
  send_means (with t) without l frame e fs n self x ks us bare (Some y) z only = absurd (let r : Some y ≡ None = only refl in cc)
  send_means (with t) without l frame e fs n self x ks us bare None z only =
      let i : ℕ = length z.closures in
      let inner : Frame = record frame { calling = i ∷ frame.calling } in
      let z1 : World = with_closure (closure_here frame t) z in
      ap (λ y. broken i (literal_given frame y (send_with files top b frame (line_at l n) self x ks us bare) z)) fs
      ∙ ap (broken i) (sym (call_at l inner e n self x (spread ks us z1) (literal_block i) bare z1))

  -- an exception that is made is no value, and no break
  raised_then : (frame : Frame) (line k : ℕ) (message : Bytes) (w : World) (next : Value → Run) → then_do (raise_new frame line k message w) next ≡ raise_new frame line k message w
  raised_then frame line k message w next = by_room (nat_le (w.cells + (string_cells (length message) + object_cells + variable_cells)) cell_limit)
    where
      by_room : (x : Bool) → then_do (charged x (string_cells (length message) + object_cells + variable_cells) w (make (new_string message) (λ n. make (exception_of k n (stand frame line)) (λ m. Raise (object m))))) next
          ≡ charged x (string_cells (length message) + object_cells + variable_cells) w (make (new_string message) (λ n. make (exception_of k n (stand frame line)) (λ m. Raise (object m))))
      by_room true = refl
      by_room false = refl

  raised_broken : (i : ℕ) (frame : Frame) (line k : ℕ) (message : Bytes) (w : World) → broken i (raise_new frame line k message w) ≡ raise_new frame line k message w
  raised_broken i frame line k message w = by_room (nat_le (w.cells + (string_cells (length message) + object_cells + variable_cells)) cell_limit)
    where
      by_room : (x : Bool) → broken i (charged x (string_cells (length message) + object_cells + variable_cells) w (make (new_string message) (λ n. make (exception_of k n (stand frame line)) (λ m. Raise (object m)))))
          ≡ charged x (string_cells (length message) + object_cells + variable_cells) w (make (new_string message) (λ n. make (exception_of k n (stand frame line)) (λ m. Raise (object m))))
      by_room true = refl
      by_room false = refl

  charged_then : (x : Bool) (cells : ℕ) (w : World) (f : World → World) (v : Value) → charged x cells w (changing f (Done v)) ≡ then_do (charged x cells w (changing f (Done v))) (λ u. Done v)
  charged_then true cells w f v = refl
  charged_then false cells w f v = refl

  -- a goal that is set answers the value
  set_value : (frame : Frame) (line : ℕ) (g : Goal) (v : Value) (w : World) → set_goal frame line g v w ≡ then_do (set_goal frame line g v w) (λ u. Done v)
  set_value frame line (to_local x) v w = refl
  set_value frame line (to_instance x) v w = by_place (settable w.objects frame.self_value)
    where
      by_place : (o : Option ℕ) → set_in frame line frame.self_value x v o w ≡ then_do (set_in frame line frame.self_value x v o w) (λ u. Done v)
      by_place None = sym (raised_then frame line frozen_error (no_change (name_of_class_of w.objects frame.self_value)) w (λ u. Done v))
      by_place (Some n) = charged_then (nat_le (w.cells + first_cost (has_name x (variables_at w.objects n))) cell_limit) (first_cost (has_name x (variables_at w.objects n))) w (with_variable n x v) v
  set_value frame line (to_global x) v w = by_fixed (fixed_global x)
    where
      by_fixed : (o : Option Value) → set_global_if frame line x v o w ≡ then_do (set_global_if frame line x v o w) (λ u. Done v)
      by_fixed None = charged_then (nat_le (w.cells + name_cost (has_name x w.globals)) cell_limit) (name_cost (has_name x w.globals)) w (with_global x v) v
      by_fixed (Some y) = sym (raised_then frame line name_error (x ++ codes " is a read-only variable") w (λ u. Done v))
  set_value frame line (to_constant x) v w =
      charged_then (nat_le (w.cells + name_cost (has_name x (class_at w.objects (innermost frame.code.classes)).constants)) cell_limit) (name_cost (has_name x (class_at w.objects (innermost frame.code.classes)).constants)) w
      (with_constant (innermost frame.code.classes) x v) v

  goal_acts : (g : Goal) (l : Where) (seq : Routine) (frame : Frame) (p line : ℕ) (v : Value) (st : List Value) (z : World) → GoalHeld l.sight g → G l frame z
      → act files b seqs bodies seq.kind frame p (v ∷ st) z line (table.set_goal l g) ≡ drops (p + 1) st (set_goal frame line g v z)
  goal_acts (to_local x) l seq frame p line v st z held le = ap (λ y. goes (p + 1) st y) (known.sets l.sight.scopes frame top x v z le held)
  goal_acts (to_instance x) l seq frame p line v st z held le = refl
  goal_acts (to_global x) l seq frame p line v st z held le = refl
  goal_acts (to_constant x) l seq frame p line v st z held le = refl

  -- an instruction that is an outcome, whose value is dropped
  dropped : (seq : Routine) (frame : Frame) (c : Outcome) (p p1 fin : ℕ) (stk base st extra : List Value) (w : World) (out : List CatchRow) (line : ℕ) (i : Instr) (o : Outcome) (next : Value → Run) (P : World → Type 0)
      → slice_get seq.body.code p ≡ Some (at_line line i) → rows_at p seq.body.rows ≡ out → act files b seqs bodies seq.kind frame p stk w line i ≡ drops p1 base o → stk ≡ extra ++ st → P (world_of o)
      → ((u : Value) (z : World) → P z → A seq frame c fin st out (next u z) → R seq frame c p1 base z) → A seq frame c fin st out (then_do o next) → R seq frame c p stk w
  dropped seq frame c p p1 fin stk base st extra w out line i o next P fetch rows f over ready g k = by_outcome o f ready k
    where
      pending : (o : Outcome) → act files b seqs bodies seq.kind frame p stk w line i ≡ pends o → Pending files b seqs bodies seq frame c st out o → R seq frame c p stk w
      pending o e k = pend files b seqs bodies seq frame c p stk w out o (here files b seqs bodies seq frame c p stk w line i fetch ∙ e) rows (subst (λ x. Follows files b seqs bodies seq frame out x (pends o) c) (sym over) (k extra))

      by_outcome : (o : Outcome) → act files b seqs bodies seq.kind frame p stk w line i ≡ drops p1 base o → P (world_of o) → A seq frame c fin st out (then_do o next) → R seq frame c p stk w
      by_outcome (Done u z) e r k = on seq frame c p stk w line i p1 base z fetch e (g u z r k)
      by_outcome (Raise u z) e r k = pending (Raise u z) e k
      by_outcome (Break t u z) e r k = pending (Break t u z) e k
      by_outcome (Next u z) e r k = pending (Next u z) e k
      by_outcome (Return n u z) e r k = pending (Return n u z) e k
      by_outcome (Retry z) e r k = pending (Retry z) e k
      by_outcome (Spent z) e r k = pending (Spent z) e k
      by_outcome (Full z) e r k = pending (Full z) e k

  -- ---- parts of sequences

  -- a sequence is entered by its number
  entered_same : (l : Where) (frame : Frame) (t : Tree) (z : World) → frame.code.source.places ≡ l.places → entered_at (number_of l t) frame z ≡ enter frame.code.source (place_of t) z
  entered_same l frame t z e = by_load frame.code.source.load
    where
      by_load : (o : Option ℕ) → entered_in o (number_of l t) z ≡ enter_load o frame.code.source (place_of t) z
      by_load None = refl
      by_load (Some load) = ap (λ ps. with_entry load (sequence_number ps (place_of t)) z) (sym e)

  enter_stays : (source : Source) (place : ℕ) (w : World) → (enter source place w).environments ≡ w.environments
  enter_stays source place w = by_load source.load
    where
      by_entry : (x : Bool) (load n : ℕ) → (cond x w (with_step (entered load n) w)).environments ≡ w.environments
      by_entry true load n = refl
      by_entry false load n = refl

      by_load : (x : Option ℕ) → (enter_load x source place w).environments ≡ w.environments
      by_load None = refl
      by_load (Some load) = by_entry (is_entered load (sequence_number source.places place) w.trace) load (sequence_number source.places place)

  ready_entered : (scopes : Scopes) (frame it : Frame) (n : ℕ) (source : Source) (place : ℕ) (w : World) → it.environment ≡ frame.environment → Ready scopes frame n w → Ready scopes it n (enter source place w)
  ready_entered scopes frame it n source place w e r = record {
    turns = omega (arith, r.turns, enter_turns source place w);
    names = subst (λ all. HaveNames (length all) scopes all (Some it.environment)) (sym (enter_stays source place w))
        (subst (λ m. HaveNames (length w.environments) scopes w.environments (Some m)) (sym e) r.names);
  }

  -- ---- several values and leaving

  many_values : (vs : List Value) (next : Value → Run) → 1 < length vs → of_values vs next ≡ make_array vs next
  many_values [] next less = absurd (omega arith)
  many_values (v ∷ []) next less = absurd (omega arith)
  many_values (v ∷ (u ∷ vs)) next less = refl

  -- an array of several values, and what follows it
  several : (l : Where) (seq : Routine) (frame : Frame) (out : List CatchRow) (h q n line : ℕ) (s : Shape) (c : Outcome) (st vs : List Value) (z : World) (fin : ℕ) (next : Value → Run) → Placed seq.body.code seq.body.rows out h q (op line (NewArray n []) s)
      → finish (q + 1) s ≡ fin → n ≡ length vs → G l frame z → A seq frame c fin st out (make_array vs next z)
      → ((v : Value) (q1 : ℕ) (z1 : World) → Placed seq.body.code seq.body.rows out h q1 s → finish q1 s ≡ fin → G l frame z1 → A seq frame c fin st out (next v z1) → R seq frame c q1 (v ∷ st) z1) → R seq frame c q (pushed vs st) z
  several l seq frame out h q n line s c st vs z fin next pl e m le k g =
      answers files b seqs bodies seq frame c q (q + 1) (pushed vs st) st (pushed vs []) z out (make_array vs Done z) (here files b seqs bodies seq frame c q (pushed vs st) z line (NewArray n []) pl.0 ∙ args_off vs st n _ m
      ∙ ap (λ us. answer (q + 1) st (make_array us Done z)) (spread_none vs z)) pl.1 (pushed_over vs [] st) (by_room (nat_le (z.cells + array_cells (length vs)) cell_limit) k)
    where
      by_room : (x : Bool) → A seq frame c fin st out (charged x (array_cells (length vs)) z (make (new_object (elements vs)) (λ i. next (object i)))) → A seq frame c (q + 1) st out (charged x (array_cells (length vs)) z (make (new_object (elements vs)) (λ i. Done (object i))))
      by_room true a = g _ (q + 1) _ pl.2 e (record { turns = le.turns; names = le.names }) a
      by_room false a = a

  leave_by : (x : Bool) (l : Where) (seq : Routine) (frame : Frame) (out : List CatchRow) (q n : ℕ) (c : Outcome) (st : List Value) (v : Value) (z : World) → frame.first ≡ l.first → slice_get seq.body.code q ≡ Some (at_line (line_at l n) (Throw (throw_by x 2 4))) → rows_at q seq.body.rows ≡ out
      → A seq frame c (q + 1) st out (choose x (Break to_loop v) (leave_block frame.in_block (with_loop l frame) n v) z) → R seq frame c q (v ∷ st) z
  leave_by true l seq frame out q n c st v z first e rows k = pend files b seqs bodies seq frame c q (v ∷ st) z out (Break to_loop v z) (here files b seqs bodies seq frame c q (v ∷ st) z (line_at l n) (Throw 2) e) rows (k (v ∷ []))
  leave_by false l seq frame out q n c st v z first e rows k =
      answered seq frame c q (q + 1) (v ∷ st) st (v ∷ []) z out (line_at l n) (Throw 4) (leave_block frame.in_block frame (line_at l n) v z) _ e rows refl refl
      (ap (λ f. f z) (leave_same (with_loop l frame) frame n (line_at l n) refl (own_lines l frame first n) frame.in_block v)) k

  next_by : (x : Bool) (seq : Routine) (frame : Frame) (out : List CatchRow) (q line : ℕ) (c : Outcome) (st : List Value) (v : Value) (z : World) → slice_get seq.body.code q ≡ Some (at_line line (Throw (throw_by x 3 5))) → rows_at q seq.body.rows ≡ out
      → A seq frame c (q + 1) st out (Next v z) → R seq frame c q (v ∷ st) z
  next_by true seq frame out q line c st v z e rows k = pend files b seqs bodies seq frame c q (v ∷ st) z out (Next v z) (here files b seqs bodies seq frame c q (v ∷ st) z line (Throw 3) e) rows (k (v ∷ []))
  next_by false seq frame out q line c st v z e rows k = pend files b seqs bodies seq frame c q (v ∷ st) z out (Next v z) (here files b seqs bodies seq frame c q (v ∷ st) z line (Throw 5) e) rows (k (v ∷ []))

  -- A rescue sequence, in which the exception alone lies on the stack between the clauses.
  module _ (l : Where) (seq : Routine) (frame : Frame) (c : Outcome) (first : frame.first ≡ l.first) where
    abbrev exception_only : List Value
    exception_only = frame.handled ∷ []

    -- a class is on top: whether the exception is one of it
    match_does : (q n n0 hit_place : ℕ) (v : Value) (z : World) (hit rest : Run) → slice_get seq.body.code q ≡ Some (at_line (line_at l n0) CheckMatch) → rows_at q seq.body.rows ≡ [] → slice_get seq.body.code (q + 1) ≡ Some (at_line (line_at l n0) (BranchIf (q + 1 + 1 + n)))
        → q + 1 + 1 + n ≡ hit_place → (c ≡ hit z → R seq frame c hit_place exception_only z) → (c ≡ rest z → R seq frame c (q + 1 + 1) exception_only z)
        → c ≡ match_class (with_loop l frame) n0 v hit rest z → R seq frame c q (v ∷ (frame.handled ∷ exception_only)) z
    match_does q n n0 hit_place v z hit rest check rows turn over to_hit to_rest e = by_class (class_number z.objects v) refl e
      where
        stk : List Value
        stk = v ∷ (frame.handled ∷ (frame.handled ∷ []))

        checked : (k : Option ℕ) → class_number z.objects v ≡ k → step files b seqs bodies seq frame q (v ∷ (frame.handled ∷ (frame.handled ∷ []))) z ≡ answer (q + 1) (frame.handled ∷ []) (match_found frame (line_at l n0) (Done yes) (Done no) k z)
        checked k same = here files b seqs bodies seq frame c q (v ∷ (frame.handled ∷ (frame.handled ∷ []))) z (line_at l n0) CheckMatch check ∙ ap (λ y. answer (q + 1) (frame.handled ∷ []) (match_found frame (line_at l n0) (Done yes) (Done no) y z)) same

        by_kind : (k : ℕ) (x : Bool) → class_number z.objects v ≡ Some k → is_a z.objects frame.handled k ≡ x → c ≡ choose x hit rest z → R seq frame c q (v ∷ (frame.handled ∷ (frame.handled ∷ []))) z
        by_kind k true same fits e1 =
            go files b seqs bodies seq frame c q (v ∷ (frame.handled ∷ (frame.handled ∷ []))) z (q + 1) (yes ∷ (frame.handled ∷ [])) z (checked (Some k) same ∙ ap (λ y. answer (q + 1) (frame.handled ∷ []) (choose y (Done yes) (Done no) z)) fits)
            (on seq frame c (q + 1) (yes ∷ (frame.handled ∷ [])) z (line_at l n0) (BranchIf (q + 1 + 1 + n)) hit_place (frame.handled ∷ []) z turn (branch_over true (q + 1) n hit_place (frame.handled ∷ []) z refl over) (to_hit e1))
        by_kind k false same fits e1 =
            go files b seqs bodies seq frame c q (v ∷ (frame.handled ∷ (frame.handled ∷ []))) z (q + 1) (no ∷ (frame.handled ∷ [])) z (checked (Some k) same ∙ ap (λ y. answer (q + 1) (frame.handled ∷ []) (choose y (Done yes) (Done no) z)) fits)
            (on seq frame c (q + 1) (no ∷ (frame.handled ∷ [])) z (line_at l n0) (BranchIf (q + 1 + 1 + n)) (q + 1 + 1) (frame.handled ∷ []) z turn (branch_on false (q + 1) (q + 1 + 1 + n) (frame.handled ∷ []) z refl) (to_rest e1))

        by_class : (k : Option ℕ) → class_number z.objects v ≡ k → c ≡ match_found (with_loop l frame) n0 hit rest k z → R seq frame c q (v ∷ (frame.handled ∷ (frame.handled ∷ []))) z
        by_class None same e1 =
            answers files b seqs bodies seq frame c q (q + 1) (v ∷ (frame.handled ∷ (frame.handled ∷ []))) (frame.handled ∷ []) (v ∷ (frame.handled ∷ [])) z [] (raise_new frame (line_at l n0) type_error (codes "class or module required for rescue clause") z) (checked None same) rows refl
            (raised_end files b seqs bodies seq frame c (q + 1) (line_at l n0) type_error (frame.handled ∷ []) z (codes "class or module required for rescue clause") (e1 ∙ ap (λ f. f z) (raising_same (with_loop l frame) frame n0 (line_at l n0) refl (own_lines l frame first n0) type_error (codes "class or module required for rescue clause"))))
        by_class (Some k) same e1 = by_kind k (is_a z.objects frame.handled k) same refl e1

    leave_ends : (line p : ℕ) (a s : Shape) (m : Run) (z : World) → Placed seq.body.code seq.body.rows [] 1 p (part 0 a (op line Leave s)) → D l seq frame [] (1 + 0) p (finish p a) m → G l frame z → c ≡ m z → R seq frame c p exception_only z
    leave_ends line p a s m z pl d le e =
        d c exception_only z (record { tall = refl; bottom = λ y. refl }) le (whole_then files b seqs bodies seq frame c (finish p a) exception_only (m z) Done (e ∙ then_done (m z))
        (λ v y eo e1. left_with files b seqs bodies seq frame c (finish p a) (v ∷ exception_only) y (Done v y) (here files b seqs bodies seq frame c (finish p a) (v ∷ exception_only) y line Leave pl.1.0) e1))

    hit_ends : (x : Option Bytes) (line p : ℕ) (a s : Shape) (m : Run) (z : World) → Placed seq.body.code seq.body.rows [] 1 p (named l line x (part 0 a (op line Leave s)))
        → ((q : ℕ) → Placed seq.body.code seq.body.rows [] (1 + 0) q a → D l seq frame [] (1 + 0) q (finish q a) m) → NameHeld l.sight x → G l frame z → c ≡ m (set_exception (with_loop l frame) x z) → R seq frame c p exception_only z
    hit_ends None line p a s m z pl d held le e = leave_ends line p a s m z pl (d p pl.0) le e
    hit_ends (Some x) line p a s m z pl d held le e =
        on seq frame c p exception_only z line Dup (p + 1) (frame.handled ∷ exception_only) z pl.0 refl
        (on seq frame c (p + 1) (frame.handled ∷ exception_only) z line (table.set_local l x) (p + 1 + 1) exception_only (set_local frame x frame.handled z) pl.2.0 (ap (λ y. goes (p + 1 + 1) exception_only y) (known.sets l.sight.scopes frame top x frame.handled z le held))
        (leave_ends line (p + 1 + 1) a s m (set_local frame x frame.handled z) pl.2.2 (d (p + 1 + 1) pl.2.2.0) (known.locals l.sight.scopes frame top x frame.handled z le) e))

  range_flag : (x : Bool) (seq : Routine) (frame : Frame) (p : ℕ) (v u : Value) (st : List Value) (z : World) (line : ℕ)
      → act files b seqs bodies seq.kind frame p (v ∷ (u ∷ st)) z line (NewRange (table.open_end x)) ≡ answer (p + 1) st (make_range frame line x u v z)
  range_flag true seq frame p v u st z line = refl
  range_flag false seq frame p v u st z line = refl

  -- a call, and what follows its value
  send_then : (l : Where) (seq : Routine) (frame : Frame) (out : List CatchRow) (p fin n0 : ℕ) (x : Bytes) (n flags : ℕ) (us : List Value) (self : Value) (base over st : List Value) (w : World) (c : Outcome) (next : Value → Run) → frame.first ≡ l.first → (flags ≡ 0) ⊎ (flags ≡ 1) → n ≡ length us
      → slice_get seq.body.code p ≡ Some (at_line (line_at l n0) (plain_send x n flags)) → rows_at p seq.body.rows ≡ out → base ≡ over ++ st → G l frame w
      → ((u : Value) (z : World) → G l frame z → A seq frame c fin st out (next u z) → R seq frame c (p + 1) (u ∷ base) z)
      → A seq frame c fin st out (then_do (call_method files b (with_loop l frame) n0 self x us no_block false w) next) → R seq frame c p (pushed us (self ∷ base)) w
  send_then l seq frame out p fin n0 x n flags us self base over st w c next e bit m fetch rows same le g k =
      plain_ends l seq frame out p n0 x n flags us self base w c e bit m fetch rows
      (after_then files b seqs bodies seq frame c (G l frame) (p + 1) fin base over st out (call_method files b (with_loop l frame) n0 self x us no_block false w) next same
      (known.calls l.sight.scopes frame (with_loop l frame) refl n0 self x us no_block false top w (omega arith) le) g k)

  -- `||=` and `&&=` of an attribute or an index, from the value that was read on
  or_ends : (x1 : Bool) (l : Where) (seq : Routine) (frame : Frame) (out : List CatchRow) (h p line depth n0 : ℕ) (x : Bytes) (n flags : ℕ) (t : Tree) (us : Value → List Value) (self : Value) (under over st old : List Value) (u : Value) (z : World) (c : Outcome) (br : ℕ → Instr) (y : Bool)
      → frame.first ≡ l.first → (flags ≡ 0) ⊎ (flags ≡ 1) → ((v : Value) → n ≡ length (us v)) → Placed seq.body.code seq.body.rows out h p (table.or_set line (line_at l n0) br depth x n flags (shape l t))
      → length under ≡ h + depth → under ≡ over ++ st → High l.clause frame.handled h st → G l frame z
      → ((q : ℕ) → act files b seqs bodies seq.kind frame (p + 1) (u ∷ (u ∷ under)) z line (br q) ≡ branch y (p + 1) q (u ∷ under) z)
      → ((q : ℕ) (v : Value) (w : World) → act files b seqs bodies seq.kind frame q (v ∷ under) w line (SetN depth) ≡ goes (q + 1) (pushed (us v) (self ∷ (v ∷ st))) w)
      → ((q : ℕ) → act files b seqs bodies seq.kind frame q (u ∷ under) z line (SetN depth) ≡ goes (q + 1) old z)
      → ((q : ℕ) → act files b seqs bodies seq.kind frame q old z line (AdjustStack depth) ≡ goes (q + 1) (u ∷ st) z)
      → D l seq frame out (h + depth) (p + 1 + 1 + 1) (finish (p + 1 + 1 + 1) (shape l t)) (run_it l frame t) → y ≡ x1
      → A seq frame c (finish (p + 1 + 1 + 1) (shape l t) + 1 + 1 + 1 + 1 + 1 + 1) st out (choose x1 (Done u) (then (run_it l frame t) (λ v. set_by_send files top b (with_loop l frame) n0 self x (us v) v)) z) → R seq frame c p (u ∷ under) z
  or_ends true l seq frame out h p line depth n0 x n flags t us self under over st old u z c br y e bit m pl tall same high le turn put put_old tidy d e1 k =
      let pv = finish (p + 1 + 1 + 1) (shape l t) in let g = finish_size (shape l t) (p + 1 + 1 + 1) in
      on seq frame c p (u ∷ under) z line Dup (p + 1) (u ∷ (u ∷ under)) z pl.0 refl
      (on seq frame c (p + 1) (u ∷ (u ∷ under)) z line (br (p + 1 + 1 + (size (shape l t) + 5))) (pv + 1 + 1 + 1 + 1) (u ∷ under) z pl.2.0
      (turn (p + 1 + 1 + (size (shape l t) + 5)) ∙ branch_over y (p + 1) (size (shape l t) + 5) (pv + 1 + 1 + 1 + 1) (u ∷ under) z e1 (omega arith))
      (on seq frame c (pv + 1 + 1 + 1 + 1) (u ∷ under) z line (SetN depth) (pv + 1 + 1 + 1 + 1 + 1) old z pl.2.2.2.1.2.2.2.2.0 (put_old (pv + 1 + 1 + 1 + 1))
      (on seq frame c (pv + 1 + 1 + 1 + 1 + 1) old z line (AdjustStack depth) (pv + 1 + 1 + 1 + 1 + 1 + 1) (u ∷ st) z pl.2.2.2.1.2.2.2.2.2.0 (tidy (pv + 1 + 1 + 1 + 1 + 1)) k)))
  or_ends false l seq frame out h p line depth n0 x n flags t us self under over st old u z c br y e bit m pl tall same high le turn put put_old tidy d e1 k =
      let pv = finish (p + 1 + 1 + 1) (shape l t) in
      on seq frame c p (u ∷ under) z line Dup (p + 1) (u ∷ (u ∷ under)) z pl.0 refl
      (on seq frame c (p + 1) (u ∷ (u ∷ under)) z line (br (p + 1 + 1 + (size (shape l t) + 5))) (p + 1 + 1) (u ∷ under) z pl.2.0
      (turn (p + 1 + 1 + (size (shape l t) + 5)) ∙ branch_on y (p + 1) (p + 1 + 1 + (size (shape l t) + 5)) (u ∷ under) z e1)
      (on seq frame c (p + 1 + 1) (u ∷ under) z line Pop (p + 1 + 1 + 1) under z pl.2.2.0 refl
      (tree_then seq frame out (h + depth) (p + 1 + 1 + 1) pv (pv + 1 + 1 + 1 + 1 + 1 + 1) l t d c under over st z (λ v. set_by_send files top b (with_loop l frame) n0 self x (us v) v) high tall same le
      (λ v z1 b1 k1. set_ends l seq frame out h pv line depth n0 x n flags (us v) self v (v ∷ under) st z1 c (pv + 1 + 1 + 1 + 1 + 1 + 1) (ahead line Jump 2 (op line (SetN depth) (op line (AdjustStack depth) done))) e bit (m v) pl.2.2.2.1 (put pv v z1)
      (λ z2 r. jump_to seq frame c (pv + 1 + 1 + 1) 2 line (pv + 1 + 1 + 1 + 1 + 1 + 1) (v ∷ st) z2 pl.2.2.2.1.2.2.2.0 (omega arith) r) k1) k)))

  -- `a.x op= t` from the value that was read on
  operate_ends : (l : Where) (seq : Routine) (frame : Frame) (out : List CatchRow) (h p line depth n0 n1 : ℕ) (op_name x : Bytes) (n flags : ℕ) (t : Tree) (us : Value → List Value) (self : Value) (under over st : List Value) (u : Value) (z : World) (c : Outcome)
      → frame.first ≡ l.first → (flags ≡ 0) ⊎ (flags ≡ 1) → ((v : Value) → n ≡ length (us v)) → Placed seq.body.code seq.body.rows out h p (part (suc depth) (shape l t) (op (line_at l n1) (plain_send op_name 1 0) (table.set_by_send line (line_at l n0) depth x n flags done)))
      → length under ≡ h + depth → under ≡ over ++ st → High l.clause frame.handled h st → G l frame z
      → ((q : ℕ) (v : Value) (w : World) → act files b seqs bodies seq.kind frame q (v ∷ under) w line (SetN depth) ≡ goes (q + 1) (pushed (us v) (self ∷ (v ∷ st))) w)
      → D l seq frame out (h + suc depth) p (finish p (shape l t)) (run_it l frame t)
      → A seq frame c (finish p (shape l t) + 1 + 1 + 1 + 1) st out (then_do (run_it l frame t z) (λ v. then (call_method files b (with_loop l frame) n1 u op_name (v ∷ []) no_block false) (λ r. set_by_send files top b (with_loop l frame) n0 self x (us r) r))) → R seq frame c p (u ∷ under) z
  operate_ends l seq frame out h p line depth n0 n1 op_name x n flags t us self under over st u z c e bit m pl tall same high le put d k =
      let pt = finish p (shape l t) in
      tree_then seq frame out (h + suc depth) p pt (pt + 1 + 1 + 1 + 1) l t d c (u ∷ under) (u ∷ over) st z
      (λ v. then (call_method files b (with_loop l frame) n1 u op_name (v ∷ []) no_block false) (λ r. set_by_send files top b (with_loop l frame) n0 self x (us r) r)) high (omega arith) (ap (λ y. u ∷ y) same) le
      (λ v z1 b1 k1. send_then l seq frame out pt (pt + 1 + 1 + 1 + 1) n1 op_name 1 0 (v ∷ []) u under over st z1 c (λ r. set_by_send files top b (with_loop l frame) n0 self x (us r) r) e (inl refl) refl pl.1.0 pl.1.1 same b1
      (λ r z2 b2 k2. set_ends l seq frame out h (pt + 1) line depth n0 x n flags (us r) self r (r ∷ under) st z2 c (pt + 1 + 1 + 1 + 1) done e bit (m r) pl.1.2 (put (pt + 1) r z2) (λ z3 y. y) k2) k1) k

  -- methods
  defined_value : (frame : Frame) (line : ℕ) (x : Bytes) (t : Tree) (f : Bool) (w : World) → define_method frame line x t f w ≡ then_do (define_method frame line x t f w) (λ u. Done (symbol_named x))
  defined_value frame line x t false w =
      charged_then (nat_le (w.cells + method_cells) cell_limit) method_cells w (with_row (innermost frame.code.classes) (record { name = x; body = written (code_of frame t) })) (symbol_named x)
  defined_value frame line x t true w = by_class (class_number w.objects frame.self_value)
    where
      by_class : (o : Option ℕ) → define_on frame line x t o w ≡ then_do (define_on frame line x t o w) (λ u. Done (symbol_named x))
      by_class None = sym (raised_then frame line type_error (codes "can't define singleton") w (λ u. Done (symbol_named x)))
      by_class (Some n) = charged_then (nat_le (w.cells + method_cells) cell_limit) method_cells w (with_class_row n (record { name = x; body = written (code_of frame t) })) (symbol_named x)

  method_acts : (f : Bool) (seq : Routine) (frame : Frame) (p line : ℕ) (st : List Value) (w : World) (x : Bytes) (q : ℕ) (t : Tree) → bodies q ≡ t
      → act files b seqs bodies seq.kind frame p st w line (DefineMethod x (suc q) (table.on_self f)) ≡ drops (p + 1) st (define_method frame line x t f w)
  method_acts true seq frame p line st w x q t e = ap (λ y. drops (p + 1) st (define_method frame line x y true w)) e
  method_acts false seq frame p line st w x q t e = ap (λ y. drops (p + 1) st (define_method frame line x y false w)) e

  flags_safe : (n : ℕ) (v : Other) → (n ≡ 0) ⊎ (n ≡ 1) → is_valued (n + value_flag v) ≡ is_with v
  flags_safe n without (inl e) = ap (λ x. is_valued (x + 0)) e
  flags_safe n without (inr e) = ap (λ x. is_valued (x + 0)) e
  flags_safe n (with t) (inl e) = ap (λ x. is_valued (x + 2)) e
  flags_safe n (with t) (inr e) = ap (λ x. is_valued (x + 2)) e

  bare_safe : (n : ℕ) (v : Other) → (n ≡ 0) ⊎ (n ≡ 1) → is_bare (n + value_flag v) ≡ false
  bare_safe n without (inl e) = ap (λ x. is_bare (x + 0)) e
  bare_safe n without (inr e) = ap (λ x. is_bare (x + 0)) e
  bare_safe n (with t) (inl e) = ap (λ x. is_bare (x + 2)) e
  bare_safe n (with t) (inr e) = ap (λ x. is_bare (x + 2)) e

  nil_or : (v : Value) → (v ≡ nil) ⊎ ((is_nil v ≡ false) × ((go : Run) → unless_nil v go ≡ go))
  nil_or nil = inl refl
  nil_or v = inr (refl, λ go. refl)

  flag_super : (v : Other) → is_valued (1 + value_flag v) ≡ is_with v
  flag_super without = refl
  flag_super (with t) = refl

  super_acts : (seq : Routine) (frame : Frame) (q : ℕ) (stk : List Value) (z : World) (line n : ℕ) (ks : List ℕ) (flags : ℕ) (valued : Bool) (g : Option Value) (us : List Value) (self : Value) (st : List Value)
      → is_valued flags ≡ valued → n ≡ length us → ((next : Option Value → List Value → Step) → with_value valued stk next ≡ next g (pushed us (self ∷ st)))
      → (j : ℕ) → act files b seqs bodies seq.kind frame q stk z line (InvokeSuper n ks flags j) ≡ call_answer j (length z.closures) (q + 1) st (super_sent files b seqs bodies j frame line ks us g z)
  super_acts seq frame q stk z line n ks flags valued g us self st e1 m taken j =
      ap (λ y. with_value y stk (λ v st1. with_args n [] st1 (λ vs st2. with_top st2 (λ u rest. call_answer j (length z.closures) (q + 1) rest (super_sent files b seqs bodies j frame line ks vs v z))))) e1
      ∙ taken _ ∙ args_off us (self ∷ st) n _ m

  to_same : (l : Where) (frame : Frame) → frame.first ≡ l.first → (n : ℕ) (m : Option Running) (given : Given) (ys : List Value)
      → super_to files top b m (with_loop l frame) n without given ys ≡ super_to_method files b seqs bodies m 0 frame (line_at l n) ys given
  to_same l frame e n None given ys = no_method_same (with_loop l frame) frame n (line_at l n) refl (own_lines l frame e n) frame.self_value [] false
  to_same l frame e n (Some r) given ys = super_same (with_loop l frame) frame n (line_at l n) refl (own_lines l frame e n) files b top ys given r given

  super_means : (t v : Other) (l : Where) (frame : Frame) → frame.first ≡ l.first → FindsBlock seqs bodies l t v → (n : ℕ) (ks : List ℕ) (us : List Value) (g : Option Value) (z : World) → (is_with v ≡ false → g ≡ None)
      → Means l t (length z.closures) (λ j. super_sent files b seqs bodies j frame (line_at l n) ks us g z) (value_given (with_loop l frame) n frame.block g (λ given. reading (spread ks us) (λ ys. super_to files top b frame.method (with_loop l frame) n t given ys)) z)
  super_means without v l frame e fs n ks us None z only = sym (ap (λ f. f z) (to_same l frame e n frame.method frame.block (spread ks us z)))
  super_means without v l frame e fs n ks us (Some y) z only =
      sym (ap (λ f. f z) (given_same (with_loop l frame) frame n (line_at l n) refl (own_lines l frame e n) y
      (λ given. reading (spread ks us) (λ ys. super_to files top b frame.method (with_loop l frame) n without given ys)) (λ given. reading (spread ks us) (λ ys. super_to_method files b seqs bodies frame.method 0 frame (line_at l n) ys given))
      (λ i given w. to_same l frame e n frame.method given (spread ks us w) i w)))
  super_means (with t) (with u) l frame e fs n ks us g z only = absurd fs
  super_means (with t) without l frame e fs n ks us (Some y) z only = absurd (let r : Some y ≡ None = only refl in cc)
  super_means (with t) without l frame e fs n ks us None z only = by_method frame.method
    where
      by_method : (m : Option Running) → broken (length z.closures) (super_to_method files b seqs bodies m (suc (number_of l t)) frame (line_at l n) (spread ks us z) frame.block z) ≡ super_to files top b m (with_loop l frame) n (with t) frame.block (spread ks us z) z
      by_method None =
          raised_broken (length z.closures) frame (line_at l n) (call_fault_class false) (call_fault false [] (name_of_class_of z.objects frame.self_value)) z
          ∙ sym (ap (λ f. f z) (no_method_same (with_loop l frame) frame n (line_at l n) refl (own_lines l frame e n) frame.self_value [] false))
      by_method (Some r) =
          ap (λ y. broken (length z.closures) (literal_given frame y (super_with files top b (line_at l n) (spread ks us z) frame.block r) z)) fs
          ∙ ap (broken (length z.closures)) (sym (ap (λ f. f (with_closure (closure_here frame t) z)) (super_same (with_loop l (record frame { calling = length z.closures ∷ frame.calling })) (record frame { calling = length z.closures ∷ frame.calling }) n (line_at l n) refl
          (own_lines l (record frame { calling = length z.closures ∷ frame.calling }) e n) files b top (spread ks us z) frame.block r (literal_block (length z.closures)))))

  -- the values of locals, pushed in order
  gets_does : (xs : List Bytes) (l : Where) (seq : Routine) (frame : Frame) (out : List CatchRow) (h p line : ℕ) (s : Shape) → AllHeld l.sight xs → Placed seq.body.code seq.body.rows out h p (table.gets l line xs s)
      → (c : Outcome) (under : List Value) (w : World) (fin : ℕ) (vs : List Value) → finish p (table.gets l line xs s) ≡ fin → G l frame w
      → ((us : List Value) (q : ℕ) → Placed seq.body.code seq.body.rows out h q s → finish q s ≡ fin → us ≡ vs ++ map (λ x. read_local frame x w) xs → R seq frame c q (pushed us under) w) → R seq frame c p (pushed vs under) w
  gets_does [] l seq frame out h p line s held pl c under w fin vs e le g = g vs p pl e (sym (append_none vs))
  gets_does (x ∷ xs) l seq frame out h p line s held pl c under w fin vs e le g =
      let v : Value = read_local frame x w in
      on seq frame c p (pushed vs under) w line (get_local l x) (p + 1) (v ∷ pushed vs under) w pl.0 (ap (λ y. goes (p + 1) (y ∷ pushed vs under) w) (known.reads l.sight.scopes frame top x w le held.0))
      (subst (λ y. R seq frame c (p + 1) y w) (pushed_last vs v under)
      (gets_does xs l seq frame out h (p + 1) line s held.1 pl.2 c under w fin (vs ++ v ∷ []) e le (λ us q pl1 e1 same. g us q pl1 e1 (same ∙ append_assoc vs (v ∷ []) (map (λ y. read_local frame y w) xs)))))

  map_length : (f : Bytes → Value) (xs : List Bytes) → length (map f xs) ≡ length xs
  map_length f [] = refl
  map_length f (x ∷ xs) = ap suc (map_length f xs)

  -- keys and values on the stack
  abbrev flat : List (Value × Value) → List Value
  flat [] = []
  flat (q ∷ qs) = q.0 ∷ (q.1 ∷ flat qs)

  flat_pairs : (qs : List (Value × Value)) → pairs_of (flat qs) ≡ qs
  flat_pairs [] = refl
  flat_pairs (q ∷ qs) = ap (λ x. q ∷ x) (flat_pairs qs)

  flat_last : (qs : List (Value × Value)) (k v : Value) (st : List Value) → pushed (flat (qs ++ (k, v) ∷ [])) st ≡ v ∷ (k ∷ pushed (flat qs) st)
  flat_last [] k v st = refl
  flat_last (q ∷ qs) k v st = flat_last qs k v (q.1 ∷ (q.0 ∷ st))

  flat_length : (qs : List (Value × Value)) → length (flat qs) ≡ length qs + length qs
  flat_length [] = refl
  flat_length (q ∷ qs) = let e = flat_length qs in omega arith

  -- what the code of a tree does, wherever it stands
  abbrev T : Where → Routine → Frame → Tree → Type 0
  T l seq frame t = (out : List CatchRow) (h p : ℕ) → Placed seq.body.code seq.body.rows out h p (shape l t) → D l seq frame out h p (finish p (shape l t)) (run_it l frame t)

  abbrev TL : Where → Routine → Frame → Tree → Type 0
  TL l seq frame t = T (looped l) seq frame t

  form_range_ends : (a : Tree) (e : Tree) (x : Bool) (l : Where) (s : SourcePosition) (seq : Routine) (frame : Frame) (out : List CatchRow) (h p : ℕ) → StandsIn l frame → T l seq frame a → T l seq frame e → FindsForm seqs bodies l (range a e x) → Placed seq.body.code seq.body.rows out h p (form_shape l (range a e x) s)
      → D l seq frame out h p (finish p (form_shape l (range a e x) s)) (run_form files top b (range a e x) s (with_loop l frame))
  form_range_ends a e x l s seq frame out h p sd da de fs pl = λ c st w high le k.
      let pa = finish p (shape l a) in let pe = finish pa (shape l e) in
      tree_then seq frame out (h + 0) p pa (pe + 1) l a (da out (h + 0) p pl.0) c st [] st w (λ u. then (run_it l frame e) (λ v. make_range (with_loop l frame) s.line x u v)) high (omega arith) refl le
      (λ u z b1 k1. tree_then seq frame out (h + 1) pa pe (pe + 1) l e (de out (h + 1) pa pl.1.0) c (u ∷ st) (u ∷ []) st z (λ v. make_range (with_loop l frame) s.line x u v) high (omega arith) refl b1
      (λ v z1 b2 k2. answered seq frame c pe (pe + 1) (v ∷ (u ∷ st)) st (v ∷ (u ∷ [])) z1 out (own l s) (NewRange (table.open_end x)) (make_range frame (own l s) x u v z1) (make_range (with_loop l frame) s.line x u v z1) pl.1.1.0 pl.1.1.1 (range_flag x seq frame pe v u st z1 (own l s)) refl
      (ap (λ f. f z1) (range_same (with_loop l frame) frame s.line (own l s) refl (own_lines l frame sd.of_first s.line) x u v)) k2) k1) k

  form_assign_ends : (t : Tree) (g : Goal) (l : Where) (s : SourcePosition) (seq : Routine) (frame : Frame) (out : List CatchRow) (h p : ℕ) → StandsIn l frame → T l seq frame t → FindsForm seqs bodies l (assign t g) → Placed seq.body.code seq.body.rows out h p (form_shape l (assign t g) s)
      → D l seq frame out h p (finish p (form_shape l (assign t g) s)) (run_form files top b (assign t g) s (with_loop l frame))
  form_assign_ends t g l s seq frame out h p sd dt fs pl = λ c st w high le k.
      let p1 = finish p (shape l t) in
      tree_then seq frame out (h + 0) p p1 (p1 + 1 + 1) l t (dt out (h + 0) p pl.0) c st [] st w (set_goal (with_loop l frame) s.line g) high (omega arith) refl le
      (λ v z b1 a. on seq frame c p1 (v ∷ st) z (own l s) Dup (p1 + 1) (v ∷ (v ∷ st)) z pl.1.0 refl
      (dropped seq frame c (p1 + 1) (p1 + 1 + 1) (p1 + 1 + 1) (v ∷ (v ∷ st)) (v ∷ st) st (v ∷ (v ∷ [])) z out (own l s) (table.set_goal l g) (set_goal frame (own l s) g v z) (λ u. Done v) (λ y. ⊤) pl.1.2.0 pl.1.2.1
      (goal_acts g l seq frame (p1 + 1) (own l s) v (v ∷ st) z fs.1 b1) refl tt (λ u z1 y k1. k1)
      (subst (λ o. A seq frame c (p1 + 1 + 1) st out o) (ap (λ f. f z) (goal_same (with_loop l frame) frame s.line (own l s) refl (own_lines l frame sd.of_first s.line) g v) ∙ set_value frame (own l s) g v z) a))) k

  form_assign_attribute_ends : (a : Tree) (t : Tree) (m : Bytes) (l : Where) (s : SourcePosition) (seq : Routine) (frame : Frame) (out : List CatchRow) (h p : ℕ) → StandsIn l frame → T l seq frame a → T l seq frame t → FindsForm seqs bodies l (assign_attribute a t m) → Placed seq.body.code seq.body.rows out h p (form_shape l (assign_attribute a t m) s)
      → D l seq frame out h p (finish p (form_shape l (assign_attribute a t m) s)) (run_form files top b (assign_attribute a t m) s (with_loop l frame))
  form_assign_attribute_ends a t m l s seq frame out h p sd da dt fs pl = λ c st w high le k.
      let pa = finish (p + 1) (shape l a) in let pt = finish pa (shape l t) in
      on seq frame c p st w (start l s) PutNil (p + 1) (nil ∷ st) w pl.0 refl
      (tree_then seq frame out (h + 1) (p + 1) pa (pt + 1 + 1 + 1) l a (da out (h + 1) (p + 1) pl.2.0) c (nil ∷ st) (nil ∷ []) st w
      (λ o. then (run_it l frame t) (λ v. set_by_send files top b (with_loop l frame) s.line o m (v ∷ []) v)) high (omega arith) refl le
      (λ o w1 b1 k1. tree_then seq frame out (h + 2) pa pt (pt + 1 + 1 + 1) l t (dt out (h + 2) pa pl.2.1.0) c (o ∷ (nil ∷ st)) (o ∷ (nil ∷ [])) st w1
      (λ v. set_by_send files top b (with_loop l frame) s.line o m (v ∷ []) v) high (omega arith) refl b1
      (λ v w2 b2 k2. set_ends l seq frame out h pt (start l s) 2 s.line m 1 (self_flag a) (v ∷ []) o v (v ∷ (o ∷ (nil ∷ st))) st w2 c (pt + 1 + 1 + 1) done sd.of_first (self_bit a) refl pl.2.1.1 refl (λ z r. r) k2) k1) k)

  form_assign_index_ends : (a : Tree) (i : Tree) (t : Tree) (l : Where) (s : SourcePosition) (seq : Routine) (frame : Frame) (out : List CatchRow) (h p : ℕ) → StandsIn l frame → T l seq frame a → T l seq frame i → T l seq frame t → FindsForm seqs bodies l (assign_index a i t) → Placed seq.body.code seq.body.rows out h p (form_shape l (assign_index a i t) s)
      → D l seq frame out h p (finish p (form_shape l (assign_index a i t) s)) (run_form files top b (assign_index a i t) s (with_loop l frame))
  form_assign_index_ends a i t l s seq frame out h p sd da di dt fs pl = λ c st w high le k.
      let pa = finish (p + 1) (shape l a) in let pi = finish pa (shape l i) in let pt = finish pi (shape l t) in let set = codes "[]=" in
      on seq frame c p st w (start l s) PutNil (p + 1) (nil ∷ st) w pl.0 refl
      (tree_then seq frame out (h + 1) (p + 1) pa (pt + 1 + 1 + 1) l a (da out (h + 1) (p + 1) pl.2.0) c (nil ∷ st) (nil ∷ []) st w
      (λ o. then (run_it l frame i) (λ j. then (run_it l frame t) (λ v. set_by_send files top b (with_loop l frame) s.line o set (j ∷ (v ∷ [])) v))) high (omega arith) refl le
      (λ o w1 b1 k1. tree_then seq frame out (h + 2) pa pi (pt + 1 + 1 + 1) l i (di out (h + 2) pa pl.2.1.0) c (o ∷ (nil ∷ st)) (o ∷ (nil ∷ [])) st w1
      (λ j. then (run_it l frame t) (λ v. set_by_send files top b (with_loop l frame) s.line o set (j ∷ (v ∷ [])) v)) high (omega arith) refl b1
      (λ j w2 b2 k2. tree_then seq frame out (h + 3) pi pt (pt + 1 + 1 + 1) l t (dt out (h + 3) pi pl.2.1.1.0) c (j ∷ (o ∷ (nil ∷ st))) (j ∷ (o ∷ (nil ∷ []))) st w2
      (λ v. set_by_send files top b (with_loop l frame) s.line o set (j ∷ (v ∷ [])) v) high (omega arith) refl b2
      (λ v w3 b3 k3. set_ends l seq frame out h pt (start l s) 3 s.line set 2 (self_flag a) (j ∷ (v ∷ [])) o v (v ∷ (j ∷ (o ∷ (nil ∷ st)))) st w3 c (pt + 1 + 1 + 1) done sd.of_first (self_bit a) refl pl.2.1.1.1 refl (λ z r. r) k3) k2) k1) k)

  form_operate_attribute_ends : (a : Tree) (x : Bytes) (t : Tree) (f : Bytes) (m : Bytes) (n : ℕ) (l : Where) (s : SourcePosition) (seq : Routine) (frame : Frame) (out : List CatchRow) (h p : ℕ) → StandsIn l frame → T l seq frame a → T l seq frame t → FindsForm seqs bodies l (operate_attribute a x t f m n) → Placed seq.body.code seq.body.rows out h p (form_shape l (operate_attribute a x t f m n) s)
      → D l seq frame out h p (finish p (form_shape l (operate_attribute a x t f m n) s)) (run_form files top b (operate_attribute a x t f m n) s (with_loop l frame))
  form_operate_attribute_ends a x t f m n l s seq frame out h p sd da dt fs pl = λ c st w high le k.
      let pa = finish (p + 1) (shape l a) in let pv = finish (pa + 1 + 1) (shape l t) in let fin = pv + 1 + 1 + 1 + 1 in
      on seq frame c p st w (start l s) PutNil (p + 1) (nil ∷ st) w pl.0 refl
      (tree_then seq frame out (h + 1) (p + 1) pa fin l a (da out (h + 1) (p + 1) pl.2.0) c (nil ∷ st) (nil ∷ []) st w
      (λ o. then (call_method files b (with_loop l frame) s.line o x [] no_block false) (λ u. then (run_it l frame t) (λ v. then (call_method files b (with_loop l frame) n u f (v ∷ []) no_block false) (λ r. set_by_send files top b (with_loop l frame) s.line o m (r ∷ []) r)))) high (omega arith) refl le
      (λ o w1 b1 k1. on seq frame c pa (o ∷ (nil ∷ st)) w1 (start l s) Dup (pa + 1) (o ∷ (o ∷ (nil ∷ st))) w1 pl.2.1.0 refl
      (send_then l seq frame out (pa + 1) fin s.line x 0 (self_flag a) [] o (o ∷ (nil ∷ st)) (o ∷ (nil ∷ [])) st w1 c (λ u. then (run_it l frame t) (λ v. then (call_method files b (with_loop l frame) n u f (v ∷ []) no_block false) (λ r. set_by_send files top b (with_loop l frame) s.line o m (r ∷ []) r))) sd.of_first (self_bit a) refl pl.2.1.2.0 pl.2.1.2.1 refl b1
      (λ u w2 b2 k2. operate_ends l seq frame out h (pa + 1 + 1) (start l s) 2 s.line n f m 1 (self_flag a) t (λ r. r ∷ []) o (o ∷ (nil ∷ st)) (o ∷ (nil ∷ [])) st u w2 c sd.of_first (self_bit a) (λ v. refl) pl.2.1.2.2 (omega (arith, high.tall)) refl high b2 (λ q v z. refl) (dt out (h + 3) (pa + 1 + 1) pl.2.1.2.2.0) k2) k1)) k)

  form_or_attribute_ends : (a : Tree) (x : Bytes) (t : Tree) (m : Bytes) (l : Where) (s : SourcePosition) (seq : Routine) (frame : Frame) (out : List CatchRow) (h p : ℕ) → StandsIn l frame → T l seq frame a → T l seq frame t → FindsForm seqs bodies l (or_attribute a x t m) → Placed seq.body.code seq.body.rows out h p (form_shape l (or_attribute a x t m) s)
      → D l seq frame out h p (finish p (form_shape l (or_attribute a x t m) s)) (run_form files top b (or_attribute a x t m) s (with_loop l frame))
  form_or_attribute_ends a x t m l s seq frame out h p sd da dt fs pl = λ c st w high le k.
      let pa = finish (p + 1) (shape l a) in let pv = finish (pa + 1 + 1 + 1 + 1 + 1) (shape l t) in let fin = pv + 1 + 1 + 1 + 1 + 1 + 1 in
      on seq frame c p st w (start l s) PutNil (p + 1) (nil ∷ st) w pl.0 refl
      (tree_then seq frame out (h + 1) (p + 1) pa fin l a (da out (h + 1) (p + 1) pl.2.0) c (nil ∷ st) (nil ∷ []) st w
      (λ o. then (call_method files b (with_loop l frame) s.line o x [] no_block false) (λ u. choose (is_true u) (Done u) (then (run_it l frame t) (λ v. set_by_send files top b (with_loop l frame) s.line o m (v ∷ []) v)))) high (omega arith) refl le
      (λ o w1 b1 k1. on seq frame c pa (o ∷ (nil ∷ st)) w1 (start l s) Dup (pa + 1) (o ∷ (o ∷ (nil ∷ st))) w1 pl.2.1.0 refl
      (send_then l seq frame out (pa + 1) fin s.line x 0 (self_flag a) [] o (o ∷ (nil ∷ st)) (o ∷ (nil ∷ [])) st w1 c (λ u. choose (is_true u) (Done u) (then (run_it l frame t) (λ v. set_by_send files top b (with_loop l frame) s.line o m (v ∷ []) v))) sd.of_first (self_bit a) refl pl.2.1.2.0 pl.2.1.2.1 refl b1
      (λ u w2 b2 k2. or_ends (is_true u) l seq frame out h (pa + 1 + 1) (start l s) 2 s.line m 1 (self_flag a) t (λ v. v ∷ []) o (o ∷ (nil ∷ st)) (o ∷ (nil ∷ [])) st (u ∷ (o ∷ (u ∷ st))) u w2 c BranchIf (is_true u) sd.of_first (self_bit a) (λ v. refl) pl.2.1.2.2 (omega (arith, high.tall)) refl high b2 (λ q. refl) (λ q v z. refl) (λ q. refl) (λ q. refl) (dt out (h + 2) (pa + 1 + 1 + 1 + 1 + 1) pl.2.1.2.2.2.2.2.0) refl k2) k1)) k)

  form_and_attribute_ends : (a : Tree) (x : Bytes) (t : Tree) (m : Bytes) (l : Where) (s : SourcePosition) (seq : Routine) (frame : Frame) (out : List CatchRow) (h p : ℕ) → StandsIn l frame → T l seq frame a → T l seq frame t → FindsForm seqs bodies l (and_attribute a x t m) → Placed seq.body.code seq.body.rows out h p (form_shape l (and_attribute a x t m) s)
      → D l seq frame out h p (finish p (form_shape l (and_attribute a x t m) s)) (run_form files top b (and_attribute a x t m) s (with_loop l frame))
  form_and_attribute_ends a x t m l s seq frame out h p sd da dt fs pl = λ c st w high le k.
      let pa = finish (p + 1) (shape l a) in let pv = finish (pa + 1 + 1 + 1 + 1 + 1) (shape l t) in let fin = pv + 1 + 1 + 1 + 1 + 1 + 1 in
      on seq frame c p st w (start l s) PutNil (p + 1) (nil ∷ st) w pl.0 refl
      (tree_then seq frame out (h + 1) (p + 1) pa fin l a (da out (h + 1) (p + 1) pl.2.0) c (nil ∷ st) (nil ∷ []) st w
      (λ o. then (call_method files b (with_loop l frame) s.line o x [] no_block false) (λ u. choose (is_true u) (then (run_it l frame t) (λ v. set_by_send files top b (with_loop l frame) s.line o m (v ∷ []) v)) (Done u))) high (omega arith) refl le
      (λ o w1 b1 k1. on seq frame c pa (o ∷ (nil ∷ st)) w1 (start l s) Dup (pa + 1) (o ∷ (o ∷ (nil ∷ st))) w1 pl.2.1.0 refl
      (send_then l seq frame out (pa + 1) fin s.line x 0 (self_flag a) [] o (o ∷ (nil ∷ st)) (o ∷ (nil ∷ [])) st w1 c (λ u. choose (is_true u) (then (run_it l frame t) (λ v. set_by_send files top b (with_loop l frame) s.line o m (v ∷ []) v)) (Done u)) sd.of_first (self_bit a) refl pl.2.1.2.0 pl.2.1.2.1 refl b1
      (λ u w2 b2 k2. or_ends (not (is_true u)) l seq frame out h (pa + 1 + 1) (start l s) 2 s.line m 1 (self_flag a) t (λ v. v ∷ []) o (o ∷ (nil ∷ st)) (o ∷ (nil ∷ [])) st (u ∷ (o ∷ (u ∷ st))) u w2 c BranchUnless (not (is_true u)) sd.of_first (self_bit a) (λ v. refl) pl.2.1.2.2 (omega (arith, high.tall)) refl high b2 (λ q. refl) (λ q v z. refl) (λ q. refl) (λ q. refl) (dt out (h + 2) (pa + 1 + 1 + 1 + 1 + 1) pl.2.1.2.2.2.2.2.0) refl (subst (λ y. A seq frame c fin st out y) (choose_not (is_true u) (then (run_it l frame t) (λ v. set_by_send files top b (with_loop l frame) s.line o m (v ∷ []) v)) (Done u) w2) k2)) k1)) k)

  form_operate_index_ends : (a : Tree) (i : Tree) (t : Tree) (f : Bytes) (n : ℕ) (l : Where) (s : SourcePosition) (seq : Routine) (frame : Frame) (out : List CatchRow) (h p : ℕ) → StandsIn l frame → T l seq frame a → T l seq frame i → T l seq frame t → FindsForm seqs bodies l (operate_index a i t f n) → Placed seq.body.code seq.body.rows out h p (form_shape l (operate_index a i t f n) s)
      → D l seq frame out h p (finish p (form_shape l (operate_index a i t f n) s)) (run_form files top b (operate_index a i t f n) s (with_loop l frame))
  form_operate_index_ends a i t f n l s seq frame out h p sd da di dt fs pl = λ c st w high le k.
      let pa = finish (p + 1) (shape l a) in let pi = finish pa (shape l i) in let pr = pi + 1 + 1 + 1 in let pv = finish (pr) (shape l t) in let fin = pv + 1 + 1 + 1 + 1 in let set = codes "[]=" in
      on seq frame c p st w (start l s) PutNil (p + 1) (nil ∷ st) w pl.0 refl
      (tree_then seq frame out (h + 1) (p + 1) pa fin l a (da out (h + 1) (p + 1) pl.2.0) c (nil ∷ st) (nil ∷ []) st w
      (λ o. then (run_it l frame i) (λ j. then (call_method files b (with_loop l frame) s.line o (codes "[]") (j ∷ []) no_block false) (λ u. then (run_it l frame t) (λ v. then (call_method files b (with_loop l frame) n u f (v ∷ []) no_block false) (λ r. set_by_send files top b (with_loop l frame) s.line o set (j ∷ (r ∷ [])) r))))) high (omega arith) refl le
      (λ o w1 b1 k1. tree_then seq frame out (h + 2) pa pi fin l i (di out (h + 2) pa pl.2.1.0) c (o ∷ (nil ∷ st)) (o ∷ (nil ∷ [])) st w1
      (λ j. then (call_method files b (with_loop l frame) s.line o (codes "[]") (j ∷ []) no_block false) (λ u. then (run_it l frame t) (λ v. then (call_method files b (with_loop l frame) n u f (v ∷ []) no_block false) (λ r. set_by_send files top b (with_loop l frame) s.line o set (j ∷ (r ∷ [])) r)))) high (omega arith) refl b1
      (λ j w3 b3 k3. on seq frame c pi (j ∷ (o ∷ (nil ∷ st))) w3 (start l s) (TopN 1) (pi + 1) (o ∷ (j ∷ (o ∷ (nil ∷ st)))) w3 pl.2.1.1.0 refl
      (on seq frame c (pi + 1) (o ∷ (j ∷ (o ∷ (nil ∷ st)))) w3 (start l s) (TopN 1) (pi + 1 + 1) (j ∷ (o ∷ (j ∷ (o ∷ (nil ∷ st))))) w3 pl.2.1.1.2.0 refl
      (send_then l seq frame out (pi + 1 + 1) fin s.line (codes "[]") 1 (self_flag a) (j ∷ []) o (j ∷ (o ∷ (nil ∷ st))) (j ∷ (o ∷ (nil ∷ []))) st w3 c (λ u. then (run_it l frame t) (λ v. then (call_method files b (with_loop l frame) n u f (v ∷ []) no_block false) (λ r. set_by_send files top b (with_loop l frame) s.line o set (j ∷ (r ∷ [])) r))) sd.of_first (self_bit a) refl pl.2.1.1.2.2.0 pl.2.1.1.2.2.1 refl b3
      (λ u w2 b2 k2. operate_ends l seq frame out h pr (start l s) 3 s.line n f set 2 (self_flag a) t (λ r. j ∷ (r ∷ [])) o (j ∷ (o ∷ (nil ∷ st))) (j ∷ (o ∷ (nil ∷ []))) st u w2 c sd.of_first (self_bit a) (λ v. refl) pl.2.1.1.2.2.2 (omega (arith, high.tall)) refl high b2 (λ q v z. refl) (dt out (h + 4) pr pl.2.1.1.2.2.2.0) k2) k3))) k1) k)

  form_or_index_ends : (a : Tree) (i : Tree) (t : Tree) (l : Where) (s : SourcePosition) (seq : Routine) (frame : Frame) (out : List CatchRow) (h p : ℕ) → StandsIn l frame → T l seq frame a → T l seq frame i → T l seq frame t → FindsForm seqs bodies l (or_index a i t) → Placed seq.body.code seq.body.rows out h p (form_shape l (or_index a i t) s)
      → D l seq frame out h p (finish p (form_shape l (or_index a i t) s)) (run_form files top b (or_index a i t) s (with_loop l frame))
  form_or_index_ends a i t l s seq frame out h p sd da di dt fs pl = λ c st w high le k.
      let pa = finish (p + 1) (shape l a) in let pi = finish pa (shape l i) in let pr = pi + 1 + 1 + 1 in let pv = finish (pr + 1 + 1 + 1) (shape l t) in let fin = pv + 1 + 1 + 1 + 1 + 1 + 1 in let set = codes "[]=" in
      on seq frame c p st w (start l s) PutNil (p + 1) (nil ∷ st) w pl.0 refl
      (tree_then seq frame out (h + 1) (p + 1) pa fin l a (da out (h + 1) (p + 1) pl.2.0) c (nil ∷ st) (nil ∷ []) st w
      (λ o. then (run_it l frame i) (λ j. then (call_method files b (with_loop l frame) s.line o (codes "[]") (j ∷ []) no_block false) (λ u. choose (is_true u) (Done u) (then (run_it l frame t) (λ v. set_by_send files top b (with_loop l frame) s.line o set (j ∷ (v ∷ [])) v))))) high (omega arith) refl le
      (λ o w1 b1 k1. tree_then seq frame out (h + 2) pa pi fin l i (di out (h + 2) pa pl.2.1.0) c (o ∷ (nil ∷ st)) (o ∷ (nil ∷ [])) st w1
      (λ j. then (call_method files b (with_loop l frame) s.line o (codes "[]") (j ∷ []) no_block false) (λ u. choose (is_true u) (Done u) (then (run_it l frame t) (λ v. set_by_send files top b (with_loop l frame) s.line o set (j ∷ (v ∷ [])) v)))) high (omega arith) refl b1
      (λ j w3 b3 k3. on seq frame c pi (j ∷ (o ∷ (nil ∷ st))) w3 (start l s) (TopN 1) (pi + 1) (o ∷ (j ∷ (o ∷ (nil ∷ st)))) w3 pl.2.1.1.0 refl
      (on seq frame c (pi + 1) (o ∷ (j ∷ (o ∷ (nil ∷ st)))) w3 (start l s) (TopN 1) (pi + 1 + 1) (j ∷ (o ∷ (j ∷ (o ∷ (nil ∷ st))))) w3 pl.2.1.1.2.0 refl
      (send_then l seq frame out (pi + 1 + 1) fin s.line (codes "[]") 1 (self_flag a) (j ∷ []) o (j ∷ (o ∷ (nil ∷ st))) (j ∷ (o ∷ (nil ∷ []))) st w3 c (λ u. choose (is_true u) (Done u) (then (run_it l frame t) (λ v. set_by_send files top b (with_loop l frame) s.line o set (j ∷ (v ∷ [])) v))) sd.of_first (self_bit a) refl pl.2.1.1.2.2.0 pl.2.1.1.2.2.1 refl b3
      (λ u w2 b2 k2. or_ends (is_true u) l seq frame out h pr (start l s) 3 s.line set 2 (self_flag a) t (λ v. j ∷ (v ∷ [])) o (j ∷ (o ∷ (nil ∷ st))) (j ∷ (o ∷ (nil ∷ []))) st (u ∷ (j ∷ (o ∷ (u ∷ st)))) u w2 c BranchIf (is_true u) sd.of_first (self_bit a) (λ v. refl) pl.2.1.1.2.2.2 (omega (arith, high.tall)) refl high b2 (λ q. refl) (λ q v z. refl) (λ q. refl) (λ q. refl) (dt out (h + 3) (pr + 1 + 1 + 1) pl.2.1.1.2.2.2.2.2.2.0) refl k2) k3))) k1) k)

  form_and_index_ends : (a : Tree) (i : Tree) (t : Tree) (l : Where) (s : SourcePosition) (seq : Routine) (frame : Frame) (out : List CatchRow) (h p : ℕ) → StandsIn l frame → T l seq frame a → T l seq frame i → T l seq frame t → FindsForm seqs bodies l (and_index a i t) → Placed seq.body.code seq.body.rows out h p (form_shape l (and_index a i t) s)
      → D l seq frame out h p (finish p (form_shape l (and_index a i t) s)) (run_form files top b (and_index a i t) s (with_loop l frame))
  form_and_index_ends a i t l s seq frame out h p sd da di dt fs pl = λ c st w high le k.
      let pa = finish (p + 1) (shape l a) in let pi = finish pa (shape l i) in let pr = pi + 1 + 1 + 1 in let pv = finish (pr + 1 + 1 + 1) (shape l t) in let fin = pv + 1 + 1 + 1 + 1 + 1 + 1 in let set = codes "[]=" in
      on seq frame c p st w (start l s) PutNil (p + 1) (nil ∷ st) w pl.0 refl
      (tree_then seq frame out (h + 1) (p + 1) pa fin l a (da out (h + 1) (p + 1) pl.2.0) c (nil ∷ st) (nil ∷ []) st w
      (λ o. then (run_it l frame i) (λ j. then (call_method files b (with_loop l frame) s.line o (codes "[]") (j ∷ []) no_block false) (λ u. choose (is_true u) (then (run_it l frame t) (λ v. set_by_send files top b (with_loop l frame) s.line o set (j ∷ (v ∷ [])) v)) (Done u)))) high (omega arith) refl le
      (λ o w1 b1 k1. tree_then seq frame out (h + 2) pa pi fin l i (di out (h + 2) pa pl.2.1.0) c (o ∷ (nil ∷ st)) (o ∷ (nil ∷ [])) st w1
      (λ j. then (call_method files b (with_loop l frame) s.line o (codes "[]") (j ∷ []) no_block false) (λ u. choose (is_true u) (then (run_it l frame t) (λ v. set_by_send files top b (with_loop l frame) s.line o set (j ∷ (v ∷ [])) v)) (Done u))) high (omega arith) refl b1
      (λ j w3 b3 k3. on seq frame c pi (j ∷ (o ∷ (nil ∷ st))) w3 (start l s) (TopN 1) (pi + 1) (o ∷ (j ∷ (o ∷ (nil ∷ st)))) w3 pl.2.1.1.0 refl
      (on seq frame c (pi + 1) (o ∷ (j ∷ (o ∷ (nil ∷ st)))) w3 (start l s) (TopN 1) (pi + 1 + 1) (j ∷ (o ∷ (j ∷ (o ∷ (nil ∷ st))))) w3 pl.2.1.1.2.0 refl
      (send_then l seq frame out (pi + 1 + 1) fin s.line (codes "[]") 1 (self_flag a) (j ∷ []) o (j ∷ (o ∷ (nil ∷ st))) (j ∷ (o ∷ (nil ∷ []))) st w3 c (λ u. choose (is_true u) (then (run_it l frame t) (λ v. set_by_send files top b (with_loop l frame) s.line o set (j ∷ (v ∷ [])) v)) (Done u)) sd.of_first (self_bit a) refl pl.2.1.1.2.2.0 pl.2.1.1.2.2.1 refl b3
      (λ u w2 b2 k2. or_ends (not (is_true u)) l seq frame out h pr (start l s) 3 s.line set 2 (self_flag a) t (λ v. j ∷ (v ∷ [])) o (j ∷ (o ∷ (nil ∷ st))) (j ∷ (o ∷ (nil ∷ []))) st (u ∷ (j ∷ (o ∷ (u ∷ st)))) u w2 c BranchUnless (not (is_true u)) sd.of_first (self_bit a) (λ v. refl) pl.2.1.1.2.2.2 (omega (arith, high.tall)) refl high b2 (λ q. refl) (λ q v z. refl) (λ q. refl) (λ q. refl) (dt out (h + 3) (pr + 1 + 1 + 1) pl.2.1.1.2.2.2.2.2.2.0) refl (subst (λ y. A seq frame c fin st out y) (choose_not (is_true u) (then (run_it l frame t) (λ v. set_by_send files top b (with_loop l frame) s.line o set (j ∷ (v ∷ [])) v)) (Done u) w2) k2)) k3))) k1) k)

  form_both_ends : (a : Tree) (e : Tree) (l : Where) (s : SourcePosition) (seq : Routine) (frame : Frame) (out : List CatchRow) (h p : ℕ) → StandsIn l frame → T l seq frame a → T l seq frame e → FindsForm seqs bodies l (both a e) → Placed seq.body.code seq.body.rows out h p (form_shape l (both a e) s)
      → D l seq frame out h p (finish p (form_shape l (both a e) s)) (run_form files top b (both a e) s (with_loop l frame))
  form_both_ends a e l s seq frame out h p sd da de fs pl = λ c st w high le k.
      let p1 = finish p (shape l a) in let n = suc (size (shape l e)) in let fin = finish (p1 + 1 + 1 + 1) (shape l e) in
      tree_then seq frame out (h + 0) p p1 fin l a (da out (h + 0) p pl.0) c st [] st w (λ v. choose (is_true v) (run_it l frame e) (Done v)) high (omega arith) refl le
      (λ v z b1 k1. on seq frame c p1 (v ∷ st) z (own l s) Dup (p1 + 1) (v ∷ (v ∷ st)) z pl.1.0 refl
      (short_ends l seq frame out (h + 0) (p1 + 1) n (own l s) fin (BranchUnless (p1 + 1 + 1 + n)) (run_it l frame e) c st v z (not (is_true v)) pl.1.2.0 refl (let g = finish_size (shape l e) (p1 + 1 + 1 + 1) in omega arith) pl.1.2.2.0
      (de out (h + 0) (p1 + 1 + 1 + 1) pl.1.2.2.2.0) (plus_zero _ _ _ _ high) b1 (not (is_true v)) refl (subst (λ y. A seq frame c fin st out y) (choose_not (is_true v) (run_it l frame e) (Done v) z) k1))) k

  form_either_ends : (a : Tree) (e : Tree) (l : Where) (s : SourcePosition) (seq : Routine) (frame : Frame) (out : List CatchRow) (h p : ℕ) → StandsIn l frame → T l seq frame a → T l seq frame e → FindsForm seqs bodies l (either a e) → Placed seq.body.code seq.body.rows out h p (form_shape l (either a e) s)
      → D l seq frame out h p (finish p (form_shape l (either a e) s)) (run_form files top b (either a e) s (with_loop l frame))
  form_either_ends a e l s seq frame out h p sd da de fs pl = λ c st w high le k.
      let p1 = finish p (shape l a) in let n = suc (size (shape l e)) in let fin = finish (p1 + 1 + 1 + 1) (shape l e) in
      tree_then seq frame out (h + 0) p p1 fin l a (da out (h + 0) p pl.0) c st [] st w (λ v. choose (is_true v) (Done v) (run_it l frame e)) high (omega arith) refl le
      (λ v z b1 k1. on seq frame c p1 (v ∷ st) z (own l s) Dup (p1 + 1) (v ∷ (v ∷ st)) z pl.1.0 refl
      (short_ends l seq frame out (h + 0) (p1 + 1) n (own l s) fin (BranchIf (p1 + 1 + 1 + n)) (run_it l frame e) c st v z (is_true v) pl.1.2.0 refl (let g = finish_size (shape l e) (p1 + 1 + 1 + 1) in omega arith) pl.1.2.2.0
      (de out (h + 0) (p1 + 1 + 1 + 1) pl.1.2.2.2.0) (plus_zero _ _ _ _ high) b1 (is_true v) refl k1)) k

  form_negated_ends : (a : Tree) (l : Where) (s : SourcePosition) (seq : Routine) (frame : Frame) (out : List CatchRow) (h p : ℕ) → StandsIn l frame → T l seq frame a → FindsForm seqs bodies l (negated a) → Placed seq.body.code seq.body.rows out h p (form_shape l (negated a) s)
      → D l seq frame out h p (finish p (form_shape l (negated a) s)) (run_form files top b (negated a) s (with_loop l frame))
  form_negated_ends a l s seq frame out h p sd da fs pl = λ c st w high le k.
      let p1 = finish p (shape l a) in
      tree_then seq frame out (h + 0) p p1 (p1 + 1) l a (da out (h + 0) p pl.0) c st [] st w (λ v. call_method files b (with_loop l frame) s.line v (codes "!") [] no_block false) high (omega arith) refl le
      (λ v z b1 k1. plain_ends l seq frame out p1 s.line (codes "!") 0 (self_flag a) [] v st z c sd.of_first (self_bit a) refl pl.1.0 pl.1.1 k1) k

  form_while_loop_first_ends : (a : Tree) (e : Tree) (u : Bool) (l : Where) (s : SourcePosition) (seq : Routine) (frame : Frame) (out : List CatchRow) (h p : ℕ) → StandsIn l frame → TL l seq frame a → T l seq frame e → FindsForm seqs bodies l (while_loop a e u true) → Placed seq.body.code seq.body.rows out h p (form_shape l (while_loop a e u true) s)
      → D l seq frame out h p (finish p (form_shape l (while_loop a e u true) s)) (run_form files top b (while_loop a e u true) s (with_loop l frame))
  form_while_loop_first_ends a e u l s seq frame out h p sd da de fs pl = λ c st w high le k.
      let pn = finish p (shape (looped l) a) in let pc = finish (pn + 1) (shape l e) in let n = size (shape (looped l) a) + 1 + size (shape l e) in
      let g1 = finish_size (shape (looped l) a) p in let g2 = finish_size (shape l e) (pn + 1) in
      da _ h p pl.0.0 c st w high le
      (turn_ends files b seqs bodies top l.clause l.sight.scopes seq frame out h p pn pc (size (shape l e) + 3) (own l s) (own l s) (own l s) (pc - n) u (run_it l frame e) (run_it (looped l) frame a) pl.1.0 pl.1.1 pl.1.2.1.0 pl.1.2.1.1 (omega arith) (omega arith) pl.1.2.1.2.0 (omega arith)
      (known.trees l.sight.scopes frame (with_loop l frame) refl e) (known.trees l.sight.scopes frame (with_loop (looped l) frame) refl a) (da _ h p pl.0.0) (λ c1 st1 w1 high1. de out (h + 0) (pn + 1) pl.1.2.0 c1 st1 w1 (plus_zero _ _ _ _ high1)) c st high
      top (loop top u (run_it l frame e) (run_it (looped l) frame a))
      (λ w1 b1 k1. turns_run files b seqs bodies top l.clause l.sight.scopes seq frame out h p pn pc (size (shape l e) + 3) (own l s) (own l s) (own l s) (pc - n) u (run_it l frame e) (run_it (looped l) frame a) pl.1.0 pl.1.1 pl.1.2.1.0 pl.1.2.1.1 (omega arith) (omega arith) pl.1.2.1.2.0 (omega arith)
      (known.trees l.sight.scopes frame (with_loop l frame) refl e) (known.trees l.sight.scopes frame (with_loop (looped l) frame) refl a) (da _ h p pl.0.0) (λ c1 st1 w2 high1. de out (h + 0) (pn + 1) pl.1.2.0 c1 st1 w2 (plus_zero _ _ _ _ high1)) c st high
      top top w1 (omega arith) (omega arith) b1 k1)
      (run_it (looped l) frame a w) (known.trees l.sight.scopes frame (with_loop (looped l) frame) refl a top w (omega arith) le) k)

  form_while_loop_later_ends : (a : Tree) (e : Tree) (u : Bool) (l : Where) (s : SourcePosition) (seq : Routine) (frame : Frame) (out : List CatchRow) (h p : ℕ) → StandsIn l frame → TL l seq frame a → T l seq frame e → FindsForm seqs bodies l (while_loop a e u false) → Placed seq.body.code seq.body.rows out h p (form_shape l (while_loop a e u false) s)
      → D l seq frame out h p (finish p (form_shape l (while_loop a e u false) s)) (run_form files top b (while_loop a e u false) s (with_loop l frame))
  form_while_loop_later_ends a e u l s seq frame out h p sd da de fs pl = λ c st w high le k.
      let pn = finish (p + 1) (shape (looped l) a) in let pc = finish (pn + 1) (shape l e) in let n = size (shape (looped l) a) + 1 + size (shape l e) in
      let g1 = finish_size (shape (looped l) a) (p + 1) in let g2 = finish_size (shape l e) (pn + 1) in
      jump_to seq frame c p (size (shape (looped l) a) + 1) (own l s) (pn + 1) st w pl.0 (omega arith)
      (turns_run files b seqs bodies top l.clause l.sight.scopes seq frame out h (p + 1) pn pc (size (shape l e) + 3) (own l s) (own l s) (own l s) (pc - n) u (run_it l frame e) (run_it (looped l) frame a) pl.2.1.0 pl.2.1.1 pl.2.1.2.1.0 pl.2.1.2.1.1 (omega arith) (omega arith) pl.2.1.2.1.2.0 (omega arith)
      (known.trees l.sight.scopes frame (with_loop l frame) refl e) (known.trees l.sight.scopes frame (with_loop (looped l) frame) refl a) (da _ h (p + 1) pl.2.0.0) (λ c1 st1 w2 high1. de out (h + 0) (pn + 1) pl.2.1.2.0 c1 st1 w2 (plus_zero _ _ _ _ high1)) c st high
      top top w (omega arith) (omega arith) le k)

  abbrev TS : Where → Routine → Frame → Trees → Type 0
  TS l seq frame no_more = ⊤
  TS l seq frame (more t ts) = T l seq frame t × TS l seq frame ts

  abbrev TO : Where → Routine → Frame → Other → Type 0
  TO l seq frame without = ⊤
  TO l seq frame (with t) = T l seq frame t

  abbrev TP : Where → Routine → Frame → Pairs → Type 0
  TP l seq frame no_pair = ⊤
  TP l seq frame (pair t u ps) = T l seq frame t × T l seq frame u × TP l seq frame ps

  abbrev TC : Where → Routine → Frame → Rescues → Type 0
  TC l seq frame no_clause = ⊤
  TC l seq frame (clause ts x t cs) = TS l seq frame ts × NameHeld l.sight x × T l seq frame t × TC l seq frame cs

  rest_does : (ts : Trees) (l : Where) (seq : Routine) (frame : Frame) (out : List CatchRow) (h p : ℕ) (line : ℕ) → StandsIn l frame → TS l seq frame ts → Placed seq.body.code seq.body.rows out h p (rest_shape l line ts) → (c : Outcome) (st : List Value) (w : World) (v : Value) → High l.clause frame.handled h st → G l frame w
      → A seq frame c (finish p (rest_shape l line ts)) st out (run_all files top b ts (with_loop l frame) v w) → R seq frame c p (v ∷ st) w
  rest_does no_more l seq frame out h p line sd fs pl c st w v high le k = k
  rest_does (more t ts) l seq frame out h p line sd fs pl c st w v high le k =
      let p1 = finish (p + 1) (shape l t) in
      on seq frame c p (v ∷ st) w line Pop (p + 1) st w pl.0 refl
      (tree_then seq frame out (h + 0) (p + 1) p1 (finish p1 (rest_shape l line ts)) l t (fs.0 out (h + 0) (p + 1) pl.2.0) c st [] st w (run_all files top b ts (with_loop l frame)) high (omega arith) refl le
      (λ u z b1 k1. rest_does ts l seq frame out h p1 line sd fs.1 pl.2.1 c st z u high b1 k1) k)

  all_does : (ts : Trees) (l : Where) (seq : Routine) (frame : Frame) (out : List CatchRow) (h p : ℕ) (line : ℕ) → StandsIn l frame → TS l seq frame ts → Placed seq.body.code seq.body.rows out h p (all_shape l line ts) → D l seq frame out h p (finish p (all_shape l line ts)) (run_all files top b ts (with_loop l frame) nil)
  all_does no_more l seq frame out h p line sd fs pl = λ c st w high le k. on seq frame c p st w line PutNil (p + 1) (nil ∷ st) w pl.0 refl k
  all_does (more t ts) l seq frame out h p line sd fs pl = λ c st w high le k.
      let p1 = finish p (shape l t) in
      tree_then seq frame out (h + 0) p p1 (finish p1 (rest_shape l line ts)) l t (fs.0 out (h + 0) p pl.0) c st [] st w (run_all files top b ts (with_loop l frame)) high (omega arith) refl le
      (λ v z b1 k1. rest_does ts l seq frame out h p1 line sd fs.1 pl.1 c st z v high b1 k1) k

  other_does : (o : Other) (l : Where) (seq : Routine) (frame : Frame) (out : List CatchRow) (h p : ℕ) → StandsIn l frame → TO l seq frame o → Placed seq.body.code seq.body.rows out (h + 0) p (other_shape l o) → D l seq frame out h p (finish p (other_shape l o)) (run_other files top b o (with_loop l frame))
  other_does without l seq frame out h p sd fs pl = λ c st w high le k. on seq frame c p st w l.first PutNil (p + 1) (nil ∷ st) w pl.0 refl k
  other_does (with t) l seq frame out h p sd fs pl = λ c st w high le k. fs out (h + 0) p pl c st w (plus_zero _ _ _ _ high) le k

  last_does : (o : Other) (l : Where) (seq : Routine) (frame : Frame) (out : List CatchRow) (h p : ℕ) (line : ℕ) → StandsIn l frame → TO l seq frame o → Placed seq.body.code seq.body.rows out h p (last_shape l line o) → (c : Outcome) (st : List Value) → High l.clause frame.handled h st → (v : Value) (z : World) → G l frame z
      → A seq frame c (finish p (last_shape l line o)) st out (run_last files top b o (with_loop l frame) v z) → R seq frame c p (v ∷ st) z
  last_does without l seq frame out h p line sd fs pl c st high v z le k = k
  last_does (with t) l seq frame out h p line sd fs pl c st high v z le k =
      on seq frame c p (v ∷ st) z line Pop (p + 1) st z pl.0 refl (fs out (h + 0) (p + 1) pl.2.0 c st z (plus_zero _ _ _ _ high) le k)

  receiver_does : (o : Other) (l : Where) (seq : Routine) (frame : Frame) (out : List CatchRow) (h p : ℕ) (line : ℕ) (s : Shape) → StandsIn l frame → TO l seq frame o → Placed seq.body.code seq.body.rows out h p (receiver_shape l o line s)
      → (c : Outcome) (st : List Value) (w : World) (fin : ℕ) (next : Value → Run) → finish p (receiver_shape l o line s) ≡ fin → High l.clause frame.handled h st → G l frame w
      → ((v : Value) (q : ℕ) (z : World) → Placed seq.body.code seq.body.rows out h q s → finish q s ≡ fin → G l frame z → A seq frame c fin st out (next v z) → R seq frame c q (v ∷ st) z)
      → A seq frame c fin st out (run_receiver files top b o (with_loop l frame) next w) → R seq frame c p st w
  receiver_does without l seq frame out h p line s sd fs pl c st w fin next e high le g k = on seq frame c p st w line PutSelf (p + 1) (frame.self_value ∷ st) w pl.0 refl (g frame.self_value (p + 1) w pl.2 e le k)
  receiver_does (with t) l seq frame out h p line s sd fs pl c st w fin next e high le g k =
      let p1 = finish p (shape l t) in
      tree_then seq frame out (h + 0) p p1 fin l t (fs out (h + 0) p pl.0) c st [] st w next high (omega arith) refl le (λ v z b1 k1. g v p1 z pl.1 e b1 k1) k

  args_does : (ts : Trees) (l : Where) (seq : Routine) (frame : Frame) (out : List CatchRow) (h p : ℕ) (d : ℕ) (s : Shape) → StandsIn l frame → TS l seq frame ts → Placed seq.body.code seq.body.rows out h p (args_shape l d ts s)
      → (c : Outcome) (st : List Value) (under : List Value) (w : World) (fin : ℕ) (vs : List Value) (next : List Value → Run) → finish p (args_shape l d ts s) ≡ fin → length vs + length under ≡ d → High l.clause frame.handled h st → G l frame w
      → ((us : List Value) (q : ℕ) (z : World) → Placed seq.body.code seq.body.rows out h q s → finish q s ≡ fin → length us ≡ length vs + count ts → G l frame z → A seq frame c fin st out (next us z) → R seq frame c q (pushed us (under ++ st)) z)
      → A seq frame c fin st out (run_trees files top b ts (with_loop l frame) vs next w) → R seq frame c p (pushed vs (under ++ st)) w
  args_does no_more l seq frame out h p d s sd fs pl c st under w fin vs next e n high le g k = g vs p w pl e (omega arith) le k
  args_does (more t ts) l seq frame out h p d s sd fs pl c st under w fin vs next e n high le g k =
      let p1 = finish p (shape l t) in
      tree_then seq frame out (h + d) p p1 fin l t (fs.0 out (h + d) p pl.0) c (pushed vs (under ++ st)) (pushed vs under) st w (λ v. run_trees files top b ts (with_loop l frame) (vs ++ v ∷ []) next)
      high (let m = pushed_length vs (under ++ st) in let m1 = length-append under st in omega (arith, high.tall)) (pushed_over vs under st) le
      (λ v z b1 k1. let m = length-append vs (v ∷ []) in
      subst (λ y. R seq frame c p1 y z) (pushed_last vs v (under ++ st)) (args_does ts l seq frame out h p1 (suc d) s sd fs.1 pl.1 c st under z fin (vs ++ v ∷ []) next e (omega arith) high b1 (λ us q z1 pl1 e1 n1 b2 k2. g us q z1 pl1 e1 (omega arith) b2 k2) k1)) k

  value_does : (v : Other) (l : Where) (seq : Routine) (frame : Frame) (out : List CatchRow) (h p : ℕ) (d : ℕ) (s : Shape) → StandsIn l frame → TO l seq frame v → Placed seq.body.code seq.body.rows out h p (value_shape l d v s)
      → (c : Outcome) (st stk over : List Value) (w : World) (fin n : ℕ) (own_block : Given) (next : Given → Run) → finish p (value_shape l d v s) ≡ fin → High l.clause frame.handled h st → length stk ≡ h + d → stk ≡ over ++ st → G l frame w
      → ((g : Option Value) (q : ℕ) (z : World) (stk1 over1 : List Value) → Placed seq.body.code seq.body.rows out h q s → finish q s ≡ fin → stk1 ≡ over1 ++ st → (is_with v ≡ false → g ≡ None) → ((go : Option Value → List Value → Step) → with_value (is_with v) stk1 go ≡ go g stk)
      → A seq frame c fin st out (value_given (with_loop l frame) n own_block g next z) → R seq frame c q stk1 z)
      → A seq frame c fin st out (run_given_value files top b v (with_loop l frame) n own_block next w) → R seq frame c p stk w
  value_does without l seq frame out h p d s sd fs pl c st stk over w fin n own_block next e high tall same le g k = g None p w stk over pl e same (λ y. refl) (λ go. refl) k
  value_does (with u) l seq frame out h p d s sd fs pl c st stk over w fin n own_block next e high tall same le g k =
      let p1 = finish p (shape l u) in
      tree_then seq frame out (h + d) p p1 fin l u (fs out (h + d) p pl.0) c stk over st w (λ v. given_value (with_loop l frame) n v next) high tall same le
      (λ v z b1 k1. g (Some v) p1 z (v ∷ stk) (v ∷ over) pl.1 e (ap (λ y. v ∷ y) same) (λ y. absurd (cc y)) (λ go. refl) k1) k

  values_does : (ts : Trees) (l : Where) (seq : Routine) (frame : Frame) (out : List CatchRow) (h p : ℕ) (line : ℕ) (s : Shape) → StandsIn l frame → TS l seq frame ts → Placed seq.body.code seq.body.rows out h p (values_shape l ts line s)
      → (c : Outcome) (st : List Value) (w : World) (fin : ℕ) (next : Value → Run) → finish p (values_shape l ts line s) ≡ fin → High l.clause frame.handled h st → G l frame w
      → ((v : Value) (q : ℕ) (z : World) → Placed seq.body.code seq.body.rows out h q s → finish q s ≡ fin → G l frame z → A seq frame c fin st out (next v z) → R seq frame c q (v ∷ st) z)
      → A seq frame c fin st out (run_trees files top b ts (with_loop l frame) [] (λ vs. of_values vs next) w) → R seq frame c p st w
  values_does no_more l seq frame out h p line s sd fs pl c st w fin next e high le g k = on seq frame c p st w line PutNil (p + 1) (nil ∷ st) w pl.0 refl (g nil (p + 1) w pl.2 e le k)
  values_does (more t no_more) l seq frame out h p line s sd fs pl c st w fin next e high le g k =
      let p1 = finish p (shape l t) in
      tree_then seq frame out (h + 0) p p1 fin l t (fs.0 out (h + 0) p pl.0) c st [] st w next high (omega arith) refl le (λ v z b1 k1. g v p1 z pl.1 e b1 k1) k
  values_does (more t (more u us)) l seq frame out h p line s sd fs pl c st w fin next e high le g k =
      let p1 = finish p (shape l t) in let p2 = finish p1 (shape l u) in
      tree_then seq frame out (h + 0) p p1 fin l t (fs.0 out (h + 0) p pl.0) c st [] st w (λ v. then (run_it l frame u) (λ y. run_trees files top b us (with_loop l frame) (v ∷ (y ∷ [])) (λ vs. of_values vs next))) high (omega arith) refl le
      (λ v z b1 k1. tree_then seq frame out (h + 1) p1 p2 fin l u (fs.1.0 out (h + 1) p1 pl.1.0) c (v ∷ st) (v ∷ []) st z (λ y. run_trees files top b us (with_loop l frame) (v ∷ (y ∷ [])) (λ vs. of_values vs next)) high (omega arith) refl b1
      (λ y z1 b2 k2. args_does us l seq frame out h p2 2 _ sd fs.1.1 pl.1.1 c st [] z1 fin (v ∷ (y ∷ [])) (λ vs. of_values vs next) e refl high b2
      (λ vs q z2 pl1 e1 n1 b3 k3. several l seq frame out h q (suc (suc (count us))) line s c st vs z2 fin next pl1 e1 (omega arith) b3 (subst (λ o. A seq frame c fin st out (o z2)) (many_values vs next (omega arith)) k3) g) k2) k1) k

  pairs_does : (ps : Pairs) (l : Where) (seq : Routine) (frame : Frame) (out : List CatchRow) (h p : ℕ) (d : ℕ) (s : Shape) → StandsIn l frame → TP l seq frame ps → Placed seq.body.code seq.body.rows out h p (pairs_shape l d ps s)
      → (c : Outcome) (st : List Value) (w : World) (fin : ℕ) (qs : List (Value × Value)) (next : List (Value × Value) → Run) → finish p (pairs_shape l d ps s) ≡ fin → length qs + length qs ≡ d → High l.clause frame.handled h st → G l frame w
      → ((rs : List (Value × Value)) (q : ℕ) (z : World) → Placed seq.body.code seq.body.rows out h q s → finish q s ≡ fin → length rs ≡ length qs + count_pairs ps → G l frame z → A seq frame c fin st out (next rs z) → R seq frame c q (pushed (flat rs) st) z)
      → A seq frame c fin st out (run_pairs files top b ps (with_loop l frame) qs next w) → R seq frame c p (pushed (flat qs) st) w
  pairs_does no_pair l seq frame out h p d s sd fs pl c st w fin qs next e n high le g k = g qs p w pl e (omega arith) le k
  pairs_does (pair t u ps) l seq frame out h p d s sd fs pl c st w fin qs next e n high le g k =
      let p1 = finish p (shape l t) in let p2 = finish p1 (shape l u) in
      tree_then seq frame out (h + d) p p1 fin l t (fs.0 out (h + d) p pl.0) c (pushed (flat qs) st) (pushed (flat qs) []) st w (λ x. then (run_it l frame u) (λ v. run_pairs files top b ps (with_loop l frame) (qs ++ (x, v) ∷ []) next))
      high (let m = pushed_length (flat qs) st in omega (arith, high.tall, flat_length qs)) (pushed_over (flat qs) [] st) le
      (λ x z b1 k1. tree_then seq frame out (h + suc d) p1 p2 fin l u (fs.1 out (h + suc d) p1 pl.1.0) c (x ∷ pushed (flat qs) st) (x ∷ pushed (flat qs) []) st z (λ v. run_pairs files top b ps (with_loop l frame) (qs ++ (x, v) ∷ []) next)
      high (let m = pushed_length (flat qs) st in omega (arith, high.tall, flat_length qs)) (ap (λ y. x ∷ y) (pushed_over (flat qs) [] st)) b1
      (λ v z1 b2 k2. let m = length-append qs ((x, v) ∷ []) in
      subst (λ y. R seq frame c p2 y z1) (flat_last qs x v st) (pairs_does ps l seq frame out h p2 (suc (suc d)) s sd fs.2 pl.1.1 c st z1 fin (qs ++ (x, v) ∷ []) next e (omega arith) high b2 (λ rs q z2 pl1 e1 n1 b3 k3. g rs q z2 pl1 e1 (omega arith) b3 k3) k2)) k1) k

  -- the call of a safe send, behind its receiver
  safe_does : (ts : Trees) (v t : Other) (l : Where) (s : SourcePosition) (seq : Routine) (frame : Frame) (out : List CatchRow) (h p : ℕ) (ks : List ℕ) (x : Bytes) (flags : ℕ) → StandsIn l frame → TS l seq frame ts → TO l seq frame v → FindsBlock seqs bodies l t v
      → Placed seq.body.code seq.body.rows out h p (ahead (start l s) BranchNil (size (args_shape l 1 ts (value_shape l (suc (count ts)) v (with_literal l (own l s) (Send x (count ts) ks flags) t)))) (args_shape l 1 ts (value_shape l (suc (count ts)) v (with_literal l (own l s) (Send x (count ts) ks flags) t))))
      → is_valued flags ≡ is_with v → is_bare flags ≡ false
      → (c : Outcome) (st : List Value) (self : Value) (w : World) (fin : ℕ) → finish (p + 1) (args_shape l 1 ts (value_shape l (suc (count ts)) v (with_literal l (own l s) (Send x (count ts) ks flags) t))) ≡ fin → High l.clause frame.handled h st → G l frame w
      → (self ≡ nil) ⊎ ((is_nil self ≡ false) × ((go : Run) → unless_nil self go ≡ go))
      → A seq frame c fin st out (unless_nil self (run_trees files top b ts (with_loop l frame) [] (λ vs. run_given_value files top b v (with_loop l frame) s.line no_block (λ given. with_block t (with_loop l frame) given (send_with files top b (with_loop l frame) s.line self x ks vs false)))) w) → R seq frame c p (self ∷ (self ∷ st)) w
  safe_does ts v t l s seq frame out h p ks x flags sd fts fv ft pl valued bare c st self w fin e high le (inl same) k =
      let rest = args_shape l 1 ts (value_shape l (suc (count ts)) v (with_literal l (own l s) (Send x (count ts) ks flags) t)) in let g = finish_size rest (p + 1) in
      let go : Run = run_trees files top b ts (with_loop l frame) [] (λ vs. run_given_value files top b v (with_loop l frame) s.line no_block (λ given. with_block t (with_loop l frame) given (send_with files top b (with_loop l frame) s.line self x ks vs false))) in
      on seq frame c p (self ∷ (self ∷ st)) w (start l s) (BranchNil (p + 1 + size rest)) fin (self ∷ st) w pl.0 (branch_over (is_nil self) p (size rest) fin (self ∷ st) w (ap is_nil same) (omega arith))
      (subst (λ y. R seq frame c fin (y ∷ st) w) (sym same) (subst (λ y. A seq frame c fin st out (unless_nil y go w)) same k))
  safe_does ts v t l s seq frame out h p ks x flags sd fts fv ft pl valued bare c st self w fin e high le (inr other) k =
      let rest = args_shape l 1 ts (value_shape l (suc (count ts)) v (with_literal l (own l s) (Send x (count ts) ks flags) t)) in
      let go : Run = run_trees files top b ts (with_loop l frame) [] (λ vs. run_given_value files top b v (with_loop l frame) s.line no_block (λ given. with_block t (with_loop l frame) given (send_with files top b (with_loop l frame) s.line self x ks vs false))) in
      on seq frame c p (self ∷ (self ∷ st)) w (start l s) (BranchNil (p + 1 + size rest)) (p + 1) (self ∷ st) w pl.0 (branch_on (is_nil self) p (p + 1 + size rest) (self ∷ st) w other.0)
      (args_does ts l seq frame out h (p + 1) 1 _ sd fts pl.2 c st (self ∷ []) w fin []
      (λ vs. run_given_value files top b v (with_loop l frame) s.line no_block (λ given. with_block t (with_loop l frame) given (send_with files top b (with_loop l frame) s.line self x ks vs false)))
      e refl high le
      (λ us q2 z2 pl2 e2 n2 b2 a2. value_does v l seq frame out h q2 (suc (count ts)) _ sd fv pl2 c st (pushed us (self ∷ st)) (pushed us (self ∷ [])) z2 fin s.line no_block
      (λ given. with_block t (with_loop l frame) given (send_with files top b (with_loop l frame) s.line self x ks us false)) e2 high (let m1 = pushed_length us (self ∷ st) in omega (arith, high.tall)) (pushed_over us (self ∷ []) st) b2
      (λ g q3 z3 stk3 extra3 pl3 e3 over3 only taken a3. call_ends t l seq frame out h q3 (own l s) (Send x (count ts) ks flags) pl3 c st z3 fin stk3 extra3 e3 high.tall over3
      (λ j. sent files b seqs bodies j frame (own l s) self x ks us false g z3)
      (send_acts seq frame q3 stk3 z3 (own l s) x (count ts) ks flags (is_with v) false g us self st valued bare (omega arith) taken)
      _ (send_means t v l frame sd.of_first ft s.line self x ks us false g z3 only) a3) a2) (subst (λ y. A seq frame c fin st out (y w)) (other.1 go) k))

  -- the tests of the classes of a clause, behind the first
  classes_does : (ts : Trees) (l : Where) (seq : Routine) (frame : Frame) (p n0 far : ℕ) (s : Shape) → StandsIn l frame → TS l seq frame ts → Placed seq.body.code seq.body.rows [] 1 p (classes_shape l ts (line_at l n0) far s)
      → (c : Outcome) (w : World) (hit rest : Run) (hit_place : ℕ) → p + size (classes_shape l ts (line_at l n0) 0 done) + far ≡ hit_place → G l frame w
      → ((z : World) → G l frame z → c ≡ hit z → R seq frame c hit_place (frame.handled ∷ []) z)
      → ((q : ℕ) (z : World) → Placed seq.body.code seq.body.rows [] 1 q s → q + far ≡ hit_place → G l frame z → c ≡ rest z → R seq frame c q (frame.handled ∷ []) z)
      → c ≡ run_classes files top b ts (with_loop l frame) n0 hit rest w → R seq frame c p (frame.handled ∷ []) w
  classes_does no_more l seq frame p n0 far s sd fs pl c w hit rest hit_place over le to_hit to_rest e = to_rest p w pl (omega arith) le e
  classes_does (more t ts) l seq frame p n0 far s sd fs pl c w hit rest hit_place over le to_hit to_rest e =
      let line = line_at l n0 in let q = finish (p + 1) (shape l t) in let g = finish_size (shape l t) (p + 1) in let n = size (classes_shape l ts line 0 done) + far in
      on seq frame c p (frame.handled ∷ []) w line Dup (p + 1) (frame.handled ∷ (frame.handled ∷ [])) w pl.0 refl
      (fs.0 [] (1 + 1) (p + 1) pl.2.0 c (frame.handled ∷ (frame.handled ∷ [])) w (record { tall = refl; bottom = λ y. refl }) le
      (whole_then files b seqs bodies seq frame c q (frame.handled ∷ (frame.handled ∷ [])) (run_it l frame t w) (λ v. match_class (with_loop l frame) n0 v hit (run_classes files top b ts (with_loop l frame) n0 hit rest)) e
      (λ v z eo e1. let b1 : G l frame z = subst (λ o. G l frame (world_of o)) eo (keeps l frame t w le) in
      match_does l seq frame c sd.of_first q n n0 hit_place v z hit (run_classes files top b ts (with_loop l frame) n0 hit rest) pl.2.1.0 pl.2.1.1 pl.2.1.2.0 (omega arith) (to_hit z b1)
      (λ e2. classes_does ts l seq frame (q + 1 + 1) n0 far s sd fs.1 pl.2.1.2.2 c z hit rest hit_place (omega arith) b1 to_hit to_rest e2) e1)))

  clause_does : (ts : Trees) (l : Where) (seq : Routine) (frame : Frame) (p n0 far : ℕ) (s : Shape) → StandsIn l frame → TS l seq frame ts → Placed seq.body.code seq.body.rows [] 1 p (clause_shape l ts (line_at l n0) far s)
      → (c : Outcome) (w : World) (hit rest : Run) (hit_place : ℕ) → p + size (clause_shape l ts (line_at l n0) 0 done) + far ≡ hit_place → G l frame w
      → ((z : World) → G l frame z → c ≡ hit z → R seq frame c hit_place (frame.handled ∷ []) z)
      → ((q : ℕ) (z : World) → Placed seq.body.code seq.body.rows [] 1 q s → q + far ≡ hit_place → G l frame z → c ≡ rest z → R seq frame c q (frame.handled ∷ []) z)
      → c ≡ run_clause files top b ts (with_loop l frame) n0 hit rest w → R seq frame c p (frame.handled ∷ []) w
  clause_does no_more l seq frame p n0 far s sd fs pl c w hit rest hit_place over le to_hit to_rest e =
      let xs : List Bytes = codes "StandardError" ∷ [] in let line = line_at l n0 in
      let o : Outcome = path_from frame l.first xs (object object_class) w in
      let same : path_from (with_loop l frame) 0 xs (object object_class) w ≡ o = ap (λ f. f w) (path_same (with_loop l frame) frame 0 l.first refl (own_lines l frame sd.of_first 0) xs (object object_class)) in
      on seq frame c p (frame.handled ∷ []) w line Dup (p + 1) (frame.handled ∷ (frame.handled ∷ [])) w pl.0 refl
      (answers files b seqs bodies seq frame c (p + 1) (p + 1 + 1) (frame.handled ∷ (frame.handled ∷ [])) (frame.handled ∷ (frame.handled ∷ [])) [] w [] o (here files b seqs bodies seq frame c (p + 1) (frame.handled ∷ (frame.handled ∷ [])) w l.first (OptGetConstantPath 1 xs) pl.2.0) pl.2.1 refl
      (whole_then files b seqs bodies seq frame c (p + 1 + 1) (frame.handled ∷ (frame.handled ∷ [])) o (λ v. match_class (with_loop l frame) n0 v hit rest) (subst (λ y. c ≡ then_do y (λ v. match_class (with_loop l frame) n0 v hit rest)) same e)
      (λ v z eo e1. let b1 : G l frame z = subst (λ y. G l frame (world_of y)) eo (known.paths l.sight.scopes frame frame refl l.first xs (object object_class) top w (omega arith) le) in
      match_does l seq frame c sd.of_first (p + 1 + 1) far n0 hit_place v z hit rest pl.2.2.0 pl.2.2.1 pl.2.2.2.0 (omega arith) (to_hit z b1)
      (λ e2. to_rest (p + 1 + 1 + 1 + 1) z pl.2.2.2.2 (omega arith) b1 e2) e1)))
  clause_does (more t ts) l seq frame p n0 far s sd fs pl c w hit rest hit_place over le to_hit to_rest e =
      let line = line_at l n0 in let q = finish (p + 1) (shape l t) in let g = finish_size (shape l t) (p + 1) in let n = size (classes_shape l ts line 0 done) + far in
      on seq frame c p (frame.handled ∷ []) w line Dup (p + 1) (frame.handled ∷ (frame.handled ∷ [])) w pl.0 refl
      (fs.0 [] (1 + 1) (p + 1) pl.2.0 c (frame.handled ∷ (frame.handled ∷ [])) w (record { tall = refl; bottom = λ y. refl }) le
      (whole_then files b seqs bodies seq frame c q (frame.handled ∷ (frame.handled ∷ [])) (run_it l frame t w) (λ v. match_class (with_loop l frame) n0 v hit (run_classes files top b ts (with_loop l frame) n0 hit rest)) e
      (λ v z eo e1. let b1 : G l frame z = subst (λ o. G l frame (world_of o)) eo (keeps l frame t w le) in
      match_does l seq frame c sd.of_first q n n0 hit_place v z hit (run_classes files top b ts (with_loop l frame) n0 hit rest) pl.2.1.0 pl.2.1.1 pl.2.1.2.0 (omega arith) (to_hit z b1)
      (λ e2. classes_does ts l seq frame (q + 1 + 1) n0 far s sd fs.1 pl.2.1.2.2 c z hit rest hit_place (omega arith) b1 to_hit to_rest e2) e1)))

  clauses_does : (cs : Rescues) (l : Where) (seq : Routine) (frame : Frame) (p n0 far : ℕ) (s : Shape) (body_place : ℕ) → StandsIn l frame → TC l seq frame cs → Placed seq.body.code seq.body.rows [] 1 p (clauses_shape l cs (line_at l n0) far s)
      → Placed seq.body.code seq.body.rows [] 1 body_place (bodies_shape l cs (line_at l n0)) → (c : Outcome) (w : World) → p + size (clauses_shape l cs (line_at l n0) 0 done) + 1 + far ≡ body_place → G l frame w
      → ((q : ℕ) (z : World) → Placed seq.body.code seq.body.rows [] 1 q s → c ≡ Raise frame.handled z → R seq frame c q (frame.handled ∷ []) z)
      → c ≡ run_clauses files top b cs (with_loop l frame) n0 w → R seq frame c p (frame.handled ∷ []) w
  clauses_does no_clause l seq frame p n0 far s body_place sd fs pl its_bodies c w over le to_end e = to_end p w pl e
  clauses_does (clause ts x t cs) l seq frame p n0 far s body_place sd fs pl its_bodies c w over le to_end e =
      let line = line_at l n0 in
      let n = size (named l line x (part 0 (shape l t) (op line Leave done))) in let g = clauses_step ts x t cs l line in
      clause_does ts l seq frame p n0 (size (clauses_shape l cs line 0 done) + 1 + far) (clauses_shape l cs line (far + n) s) sd fs.0 pl c w
      (λ z. run_it l frame t (set_exception (with_loop l frame) x z)) (run_clauses files top b cs (with_loop l frame) n0) body_place (omega arith) le
      (λ z b1 e1. hit_ends l seq frame c sd.of_first x line body_place (shape l t) (bodies_shape l cs line) (run_it l frame t) z its_bodies (λ q pl1. fs.2 [] (1 + 0) q pl1) fs.1 b1 e1)
      (λ q z pl1 over1 b1 e1. clauses_does cs l seq frame q n0 (far + n) s (body_place + n) sd fs.3 pl1 (named_tail seq.body.code seq.body.rows [] 1 x l line body_place (shape l t) (bodies_shape l cs line) its_bodies) c z (omega arith) b1 to_end e1) e

  string_ready : (l : Where) (frame : Frame) (x : Bytes) (w : World) → G l frame w → G l frame (world_of (make_string x (λ n. Done (object n)) w))
  string_ready l frame x w le = by_room (nat_le (w.cells + string_cells (length x)) cell_limit)
    where
      by_room : (y : Bool) → G l frame (world_of (charged y (string_cells (length x)) w (make (new_string x) (λ n. Done (object n)))))
      by_room true = record { turns = le.turns; names = le.names }
      by_room false = le

  piece_ready : (l : Where) (frame : Frame) (v u : Value) (w : World) → G l frame w → G l frame (world_of (piece_of v u w))
  piece_ready l frame v u w le = by_text (text_of w.objects u)
    where
      by_text : (o : Option Bytes) → G l frame (world_of (piece_found v u o w))
      by_text None = string_ready l frame (codes "#<" ++ (name_of_class_of w.objects v ++ codes ">")) w le
      by_text (Some x) = le

  abbrev TPc : Where → Routine → Frame → Pieces → Type 0
  TPc l seq frame no_piece = ⊤
  TPc l seq frame (plain_piece x ps) = TPc l seq frame ps
  TPc l seq frame (code_piece t ps) = T l seq frame t × TPc l seq frame ps

  pieces_does : (ps : Pieces) (l : Where) (seq : Routine) (frame : Frame) (out : List CatchRow) (h p n0 d : ℕ) (s : Shape) → StandsIn l frame → TPc l seq frame ps → Placed seq.body.code seq.body.rows out h p (table.pieces_shape l (line_at l n0) d ps s)
      → (c : Outcome) (st : List Value) (w : World) (fin : ℕ) (vs : List Value) (next : List Value → Run) → finish p (table.pieces_shape l (line_at l n0) d ps s) ≡ fin → length vs ≡ d → High l.clause frame.handled h st → G l frame w
      → ((us : List Value) (q : ℕ) (z : World) → Placed seq.body.code seq.body.rows out h q s → finish q s ≡ fin → length us ≡ length vs + table.count_pieces ps → A seq frame c fin st out (next us z) → R seq frame c q (pushed us st) z)
      → A seq frame c fin st out (run_pieces files top b ps (with_loop l frame) n0 vs next w) → R seq frame c p (pushed vs st) w
  pieces_does no_piece l seq frame out h p n0 d s sd fs pl c st w fin vs next e m high le g k = g vs p w pl e (omega arith) k
  pieces_does (plain_piece x ps) l seq frame out h p n0 d s sd fs pl c st w fin vs next e m high le g k =
      answered seq frame c p (p + 1) (pushed vs st) (pushed vs st) [] w out (line_at l n0) (PutString x) (make_string x (λ n. Done (object n)) w) (make_string x (λ n. Done (object n)) w) pl.0 pl.1 refl refl refl
      (after_then files b seqs bodies seq frame c (G l frame) (p + 1) fin (pushed vs st) (pushed vs []) st out (make_string x (λ n. Done (object n)) w) (λ v. run_pieces files top b ps (with_loop l frame) n0 (vs ++ v ∷ []) next) (pushed_over vs [] st) (string_ready l frame x w le)
      (λ v z b1 k1. let m1 = length-append vs (v ∷ []) in
      subst (λ y. R seq frame c (p + 1) y z) (pushed_last vs v st) (pieces_does ps l seq frame out h (p + 1) n0 (suc d) s sd fs pl.2 c st z fin (vs ++ v ∷ []) next e (omega arith) high b1 (λ us q z1 pl1 e1 n1 k2. g us q z1 pl1 e1 (omega arith) k2) k1)) k)
  pieces_does (code_piece t ps) l seq frame out h p n0 d s sd fs pl c st w fin vs next e m high le g k =
      let p1 = finish p (shape l t) in let line = line_at l n0 in let to = codes "to_s" in
      tree_then seq frame out (h + d) p p1 fin l t (fs.0 out (h + d) p pl.0) c (pushed vs st) (pushed vs []) st w
      (λ v. then (call_method files b (with_loop l frame) n0 v to [] no_block false) (λ u. then (piece_of v u) (λ y. run_pieces files top b ps (with_loop l frame) n0 (vs ++ y ∷ []) next))) high (let m1 = pushed_length vs st in omega (arith, high.tall)) (pushed_over vs [] st) le
      (λ v z b1 k1. on seq frame c p1 (v ∷ pushed vs st) z line Dup (p1 + 1) (v ∷ (v ∷ pushed vs st)) z pl.1.0 refl
      (answered seq frame c (p1 + 1) (p1 + 1 + 1) (v ∷ (v ∷ pushed vs st)) (v ∷ pushed vs st) (v ∷ []) z out line ObjToString (call_method files b frame line v to [] no_block false z) (call_method files b (with_loop l frame) n0 v to [] no_block false z) pl.1.2.0 pl.1.2.1 refl refl (call_at l frame sd.of_first n0 v to [] no_block false z)
      (after_then files b seqs bodies seq frame c (G l frame) (p1 + 1 + 1) fin (v ∷ pushed vs st) (v ∷ pushed vs []) st out (call_method files b (with_loop l frame) n0 v to [] no_block false z) (λ u. then (piece_of v u) (λ y. run_pieces files top b ps (with_loop l frame) n0 (vs ++ y ∷ []) next)) (ap (λ y. v ∷ y) (pushed_over vs [] st))
      (known.calls l.sight.scopes frame (with_loop l frame) refl n0 v to [] no_block false top z (omega arith) b1)
      (λ u z1 b2 k2. answered seq frame c (p1 + 1 + 1) (p1 + 1 + 1 + 1) (u ∷ (v ∷ pushed vs st)) (pushed vs st) (u ∷ (v ∷ [])) z1 out line AnyToString (piece_of v u z1) (piece_of v u z1) pl.1.2.2.0 pl.1.2.2.1 refl refl refl
      (after_then files b seqs bodies seq frame c (G l frame) (p1 + 1 + 1 + 1) fin (pushed vs st) (pushed vs []) st out (piece_of v u z1) (λ y. run_pieces files top b ps (with_loop l frame) n0 (vs ++ y ∷ []) next) (pushed_over vs [] st) (piece_ready l frame v u z1 b2)
      (λ y z2 b3 k3. let m1 = length-append vs (y ∷ []) in
      subst (λ x. R seq frame c (p1 + 1 + 1 + 1) x z2) (pushed_last vs y st) (pieces_does ps l seq frame out h (p1 + 1 + 1 + 1) n0 (suc d) s sd fs.1 pl.1.2.2.2 c st z2 fin (vs ++ y ∷ []) next e (omega arith) high b3 (λ us q z3 pl1 e1 n1 k4. g us q z3 pl1 e1 (omega arith) k4) k3)) k2)) k1))) k

  -- class bodies: a body is run as the evaluation does it
  module _ (frame : Frame) (line : ℕ) (t : Tree) where
    abbrev opens_run : ℕ → Run
    opens_run = open_class frame line t (run files top b t)

    abbrev opens_b : ℕ → Run
    opens_b = open_class frame line t (b t)

    opened_fixed : (n : ℕ) (w : World) → w.turns ≤ top → opens_run n w ≡ opens_b n w
    opened_fixed n w le = by_depth (nat_lt w.depth frame_limit)
      where
        by_room : (x : Bool) (z : World) → z.turns ≤ top → charged x (environment_cells (length (locals_of [] t))) z (reading next_environment (λ m. changing (with_environment None (all_nil (locals_of [] t))) (run files top b t (class_frame frame line t n m))))
            ≡ charged x (environment_cells (length (locals_of [] t))) z (reading next_environment (λ m. changing (with_environment None (all_nil (locals_of [] t))) (b t (class_frame frame line t n m))))
        by_room true z lt = known.fixed t _ _ lt
        by_room false z lt = refl

        by_depth : (x : Bool) → deeper_if x frame line (changing (enter frame.code.source (place_of t)) (charge (environment_cells (length (locals_of [] t))) (reading next_environment (λ m. changing (with_environment None (all_nil (locals_of [] t))) (run files top b t (class_frame frame line t n m)))))) w
            ≡ deeper_if x frame line (changing (enter frame.code.source (place_of t)) (charge (environment_cells (length (locals_of [] t))) (reading next_environment (λ m. changing (with_environment None (all_nil (locals_of [] t))) (b t (class_frame frame line t n m)))))) w
        by_depth true = ap (ended (at_depth w.depth)) (by_room _ (enter frame.code.source (place_of t) (at_depth (suc w.depth) w)) (omega (arith, enter_turns frame.code.source (place_of t) (at_depth (suc w.depth) w))))
        by_depth false = refl

    found_fixed : (x kind : Bytes) (o : Option ℕ) (w : World) → w.turns ≤ top → open_found frame line x kind opens_run o w ≡ open_found frame line x kind opens_b o w
    found_fixed x kind None w le = refl
    found_fixed x kind (Some n) w le = opened_fixed n w le

    object_fixed : (x : Bytes) (o : Object) (z : World) → z.turns ≤ top → make o (λ n. changing (with_constant (innermost frame.code.classes) x (object n)) (opens_run n)) z ≡ make o (λ n. changing (with_constant (innermost frame.code.classes) x (object n)) (opens_b n)) z
    object_fixed x o z le = opened_fixed (next_number z.objects) (with_constant (innermost frame.code.classes) x (object (next_number z.objects)) (with_object o z)) le

    room_fixed : (y : Bool) (x : Bytes) (o : Object) (w : World) → w.turns ≤ top → charged y (class_cells + name_cells) w (make o (λ n. changing (with_constant (innermost frame.code.classes) x (object n)) (opens_run n)))
        ≡ charged y (class_cells + name_cells) w (make o (λ n. changing (with_constant (innermost frame.code.classes) x (object n)) (opens_b n)))
    room_fixed true x o w le = object_fixed x o (record w { cells = w.cells + (class_cells + name_cells) }) le
    room_fixed false x o w le = refl

    made_fixed : (x : Bytes) (is_module : Bool) (base : Option ℕ) (w : World) → w.turns ≤ top → make_class frame x is_module base opens_run w ≡ make_class frame x is_module base opens_b w
    made_fixed x is_module base w le = room_fixed (nat_le (w.cells + (class_cells + name_cells)) cell_limit) x
        (new_object (class_or_module (record { name = name_behind w.objects (innermost frame.code.classes) x; is_module = is_module; superclass = base; modules = []; methods = []; class_methods = []; constants = [] }))) w le

    named_fixed : (x : Bytes) (w : World) → w.turns ≤ top → class_named frame line x opens_run w ≡ class_named frame line x opens_b w
    named_fixed x w le = by_found (own_constant w.objects (innermost frame.code.classes) x)
      where
        by_found : (o : Option Value) → class_or_new frame line x opens_run o w ≡ class_or_new frame line x opens_b o w
        by_found None = made_fixed x false (Some object_class) w le
        by_found (Some v) = found_fixed x (codes "class") (class_alone w.objects v) w le

    module_fixed : (x : Bytes) (w : World) → w.turns ≤ top → module_of_name frame line x opens_run w ≡ module_of_name frame line x opens_b w
    module_fixed x w le = by_found (own_constant w.objects (innermost frame.code.classes) x)
      where
        by_found : (o : Option Value) → module_or_new frame line x opens_run o w ≡ module_or_new frame line x opens_b o w
        by_found None = made_fixed x true None w le
        by_found (Some v) = found_fixed x (codes "module") (module_alone w.objects v) w le

    below_fixed : (x : Bytes) (v : Value) (w : World) → w.turns ≤ top → class_below frame line x v opens_run w ≡ class_below frame line x v opens_b w
    below_fixed x v w le = by_base (class_alone w.objects v)
      where
        if_same : (n : ℕ) (y : Bool) → choose y (opens_run n) (refused frame line (codes "superclass mismatch for class " ++ x)) w ≡ choose y (opens_b n) (refused frame line (codes "superclass mismatch for class " ++ x)) w
        if_same n true = opened_fixed n w le
        if_same n false = refl

        by_class : (base : ℕ) (o : Option ℕ) → open_found frame line x (codes "class") (if_same_superclass frame line x opens_run base) o w ≡ open_found frame line x (codes "class") (if_same_superclass frame line x opens_b base) o w
        by_class base None = refl
        by_class base (Some n) = if_same n (same_class (class_at w.objects n).superclass base)

        closed : (base : ℕ) (y : Bool) → choose y (reading (λ z. class_name z.objects base) (λ name. refused frame line (codes "can't inherit from " ++ name))) (make_class frame x false (Some base) opens_run) w
            ≡ choose y (reading (λ z. class_name z.objects base) (λ name. refused frame line (codes "can't inherit from " ++ name))) (make_class frame x false (Some base) opens_b) w
        closed base true = refl
        closed base false = made_fixed x false (Some base) w le

        by_found : (base : ℕ) (o : Option Value) → below_base frame line x opens_run base o w ≡ below_base frame line x opens_b base o w
        by_found base None = closed base (is_one_of base closed_classes)
        by_found base (Some u) = by_class base (class_alone w.objects u)

        by_base : (o : Option ℕ) → with_base frame line x opens_run o w ≡ with_base frame line x opens_b o w
        by_base None = refl
        by_base (Some base) = by_found base (own_constant w.objects (innermost frame.code.classes) x)

  then_assoc : (o : Outcome) (f g : Value → Run) → then_do (then_do o f) g ≡ then_do o (λ u. then (f u) g)
  then_assoc (Done v z) f g = refl
  then_assoc (Raise v z) f g = refl
  then_assoc (Break t v z) f g = refl
  then_assoc (Next v z) f g = refl
  then_assoc (Return n v z) f g = refl
  then_assoc (Retry z) f g = refl
  then_assoc (Spent z) f g = refl
  then_assoc (Full z) f g = refl

  raised_ready : (l : Where) (frame it : Frame) (line k : ℕ) (message : Bytes) (w : World) → G l frame w → G l frame (world_of (raise_new it line k message w))
  raised_ready l frame it line k message w le = by_room (nat_le (w.cells + (string_cells (length message) + object_cells + variable_cells)) cell_limit)
    where
      by_room : (x : Bool) → G l frame (world_of (charged x (string_cells (length message) + object_cells + variable_cells) w (make (new_string message) (λ n. make (exception_of k n (stand it line)) (λ m. Raise (object m))))))
      by_room true = record { turns = le.turns; names = le.names }
      by_room false = le

  goal_ready : (l : Where) (frame : Frame) (line : ℕ) (g : Goal) (v : Value) (w : World) → G l frame w → G l frame (world_of (set_goal frame line g v w))
  goal_ready l frame line (to_local x) v w le = known.locals l.sight.scopes frame top x v w le
  goal_ready l frame line (to_instance x) v w le = by_place (settable w.objects frame.self_value)
    where
      by_room : (y : Bool) (n : ℕ) → G l frame (world_of (charged y (first_cost (has_name x (variables_at w.objects n))) w (changing (with_variable n x v) (Done v))))
      by_room true n = record { turns = le.turns; names = le.names }
      by_room false n = le

      by_place : (o : Option ℕ) → G l frame (world_of (set_in frame line frame.self_value x v o w))
      by_place None = raised_ready l frame frame line frozen_error (no_change (name_of_class_of w.objects frame.self_value)) w le
      by_place (Some n) = by_room (nat_le (w.cells + first_cost (has_name x (variables_at w.objects n))) cell_limit) n
  goal_ready l frame line (to_global x) v w le = by_fixed (fixed_global x)
    where
      by_room : (y : Bool) → G l frame (world_of (charged y (name_cost (has_name x w.globals)) w (changing (with_global x v) (Done v))))
      by_room true = record { turns = le.turns; names = le.names }
      by_room false = le

      by_fixed : (o : Option Value) → G l frame (world_of (set_global_if frame line x v o w))
      by_fixed None = by_room (nat_le (w.cells + name_cost (has_name x w.globals)) cell_limit)
      by_fixed (Some y) = raised_ready l frame frame line name_error (x ++ codes " is a read-only variable") w le
  goal_ready l frame line (to_constant x) v w le = by_room (nat_le (w.cells + name_cost (has_name x (class_at w.objects (innermost frame.code.classes)).constants)) cell_limit)
    where
      by_room : (y : Bool) → G l frame (world_of (charged y (name_cost (has_name x (class_at w.objects (innermost frame.code.classes)).constants)) w (changing (with_constant (innermost frame.code.classes) x v) (Done v))))
      by_room true = record { turns = le.turns; names = le.names }
      by_room false = le

  -- one of several targets, and those behind it
  set_one : (g : Goal) (l : Where) (seq : Routine) (frame : Frame) (out : List CatchRow) (p fin n0 : ℕ) (u v : Value) (us over st : List Value) (w : World) (c : Outcome) (next : Run) → frame.first ≡ l.first → GoalHeld l.sight g → G l frame w
      → slice_get seq.body.code p ≡ Some (at_line (line_at l n0) (table.set_goal l g)) → rows_at p seq.body.rows ≡ out → us ≡ over ++ st
      → ((z : World) → G l frame z → A seq frame c fin st out (then_do (next z) (λ y. Done v)) → R seq frame c (p + 1) us z)
      → A seq frame c fin st out (then_do (then_do (set_goal (with_loop l frame) n0 g u w) (λ y. next)) (λ y. Done v)) → R seq frame c p (u ∷ us) w
  set_one g l seq frame out p fin n0 u v us over st w c next e held le fetch rows same k1 k =
      dropped seq frame c p (p + 1) fin (u ∷ us) us st (u ∷ over) w out (line_at l n0) (table.set_goal l g) (set_goal frame (line_at l n0) g u w) (λ y. then next (λ y1. Done v)) (G l frame) fetch rows
      (goal_acts g l seq frame p (line_at l n0) u us w held le) (ap (λ y. u ∷ y) same) (goal_ready l frame (line_at l n0) g u w le) (λ y z r a. k1 z r a)
      (subst (λ o. A seq frame c fin st out (then_do o (λ y. then next (λ y1. Done v)))) (ap (λ f. f w) (goal_same (with_loop l frame) frame n0 (line_at l n0) refl (own_lines l frame e n0) g u))
      (subst (λ o. A seq frame c fin st out o) (then_assoc (set_goal (with_loop l frame) n0 g u w) (λ y. next) (λ y. Done v)) k))

  sets_do : (gs : List Goal) (us : List Value) (l : Where) (seq : Routine) (frame : Frame) (out : List CatchRow) (h p n0 : ℕ) (v : Value) (st : List Value) (w : World) (c : Outcome) (fin : ℕ) → frame.first ≡ l.first → GoalsHeld l.sight gs → G l frame w
      → Placed seq.body.code seq.body.rows out h p (table.sets l (line_at l n0) gs done) → finish p (table.sets l (line_at l n0) gs done) ≡ fin
      → A seq frame c fin st out (then_do (set_goals (with_loop l frame) n0 gs us w) (λ y. Done v)) → R seq frame c p (first_values (length gs) us ++ (v ∷ st)) w
  sets_do [] us l seq frame out h p n0 v st w c fin e held le pl f k = subst (λ q. R seq frame c q (v ∷ st) w) (sym f) k
  sets_do (g ∷ gs) [] l seq frame out h p n0 v st w c fin e held le pl f k =
      set_one g l seq frame out p fin n0 nil v (first_values (length gs) [] ++ (v ∷ st)) (first_values (length gs) [] ++ (v ∷ [])) st w c (set_goals (with_loop l frame) n0 gs []) e held.0 le pl.0 pl.1 (sym (append_assoc (first_values (length gs) []) (v ∷ []) st))
      (λ z r a. sets_do gs [] l seq frame out h (p + 1) n0 v st z c fin e held.1 r pl.2 f a) k
  sets_do (g ∷ gs) (u ∷ us) l seq frame out h p n0 v st w c fin e held le pl f k =
      set_one g l seq frame out p fin n0 u v (first_values (length gs) us ++ (v ∷ st)) (first_values (length gs) us ++ (v ∷ [])) st w c (set_goals (with_loop l frame) n0 gs us) e held.0 le pl.0 pl.1 (sym (append_assoc (first_values (length gs) us) (v ∷ []) st))
      (λ z r a. sets_do gs us l seq frame out h (p + 1) n0 v st z c fin e held.1 r pl.2 f a) k

  -- behind a test
  chosen_ends : (x : Bool) (seq : Routine) (frame : Frame) (c : Outcome) (p n line hit_place : ℕ) (v : Value) (st : List Value) (z : World) (out : List CatchRow) (fin : ℕ) (hit rest : Run) → slice_get seq.body.code p ≡ Some (at_line line (BranchIf (p + 1 + n))) → p + 1 + n ≡ hit_place → is_true v ≡ x
      → (A seq frame c fin st out (hit z) → R seq frame c hit_place st z) → (A seq frame c fin st out (rest z) → R seq frame c (p + 1) st z) → A seq frame c fin st out (choose x hit rest z) → R seq frame c p (v ∷ st) z
  chosen_ends true seq frame c p n line hit_place v st z out fin hit rest turn over same to_hit to_rest k =
      on seq frame c p (v ∷ st) z line (BranchIf (p + 1 + n)) hit_place st z turn (branch_over (is_true v) p n hit_place st z same over) (to_hit k)
  chosen_ends false seq frame c p n line hit_place v st z out fin hit rest turn over same to_hit to_rest k =
      on seq frame c p (v ∷ st) z line (BranchIf (p + 1 + n)) (p + 1) st z turn (branch_on (is_true v) p (p + 1 + n) st z same) (to_rest k)

  abbrev TW : Where → Routine → Frame → Whens → Type 0
  TW l seq frame no_when = ⊤
  TW l seq frame (when ts t ws) = TS l seq frame ts × T l seq frame t × TW l seq frame ws

  test_size : (ts : Trees) (l : Where) (line far : ℕ) (s : Shape) → size (table.test_shape l line ts far s) ≡ size (table.test_shape l line ts 0 done) + size s
  test_size no_more l line far s = omega arith
  test_size (more t ts) l line far s = let e = test_size ts l line far s in let f = test_size ts l line 0 done in omega arith

  tests_size : (ws : Whens) (l : Where) (line far : ℕ) (s : Shape) → size (table.tests_shape l line ws far s) ≡ size (table.tests_shape l line ws 0 done) + size s
  tests_size no_when l line far s = omega arith
  tests_size (when ts t ws) l line far s =
      let n = size (table.tests_shape l line ws 0 done) in let k = size (shape l t) + 1 in
      let e = test_size ts l line (n + far) (table.tests_shape l line ws (far + k) s) in let f = test_size ts l line (n + 0) (table.tests_shape l line ws (0 + k) done) in
      let g = tests_size ws l line (far + k) s in let g0 = tests_size ws l line (0 + k) done in omega arith

  test_tail : (ts : Trees) (l : Where) (seq : Routine) (frame : Frame) (out : List CatchRow) (h p line far : ℕ) (s : Shape) → Placed seq.body.code seq.body.rows out h p (table.test_shape l line ts far s) → Placed seq.body.code seq.body.rows out h (p + size (table.test_shape l line ts 0 done)) s
  test_tail no_more l seq frame out h p line far s pl = subst (λ q. Placed seq.body.code seq.body.rows out h q s) (let e : p ≡ p + 0 = omega arith in e) pl
  test_tail (more t ts) l seq frame out h p line far s pl =
      let p1 = finish p (shape l t) in let g = finish_size (shape l t) p in
      subst (λ q. Placed seq.body.code seq.body.rows out h q s) (let e : p1 + 1 + size (table.test_shape l line ts 0 done) ≡ p + size (table.test_shape l line (more t ts) 0 done) = omega arith in e) (test_tail ts l seq frame out h (p1 + 1) line far s pl.1.2)

  tests_tail : (ws : Whens) (l : Where) (seq : Routine) (frame : Frame) (out : List CatchRow) (h p line far : ℕ) (s : Shape) → Placed seq.body.code seq.body.rows out h p (table.tests_shape l line ws far s) → Placed seq.body.code seq.body.rows out h (p + size (table.tests_shape l line ws 0 done)) s
  tests_tail no_when l seq frame out h p line far s pl = subst (λ q. Placed seq.body.code seq.body.rows out h q s) (let e : p ≡ p + 0 = omega arith in e) pl
  tests_tail (when ts t ws) l seq frame out h p line far s pl =
      let n = size (table.tests_shape l line ws 0 done) in let k = size (shape l t) + 1 in
      let f = test_size ts l line (n + 0) (table.tests_shape l line ws (0 + k) done) in let g0 = tests_size ws l line (0 + k) done in
      subst (λ q. Placed seq.body.code seq.body.rows out h q s) (let e : p + size (table.test_shape l line ts 0 done) + n ≡ p + size (table.tests_shape l line (when ts t ws) 0 done) = omega arith in e)
      (tests_tail ws l seq frame out h (p + size (table.test_shape l line ts 0 done)) line (far + k) s (test_tail ts l seq frame out h p line (n + far) (table.tests_shape l line ws (far + k) s) pl))

  -- the tests of one branch of a case without a value
  any_does : (ts : Trees) (l : Where) (seq : Routine) (frame : Frame) (out : List CatchRow) (h p line far : ℕ) (s : Shape) → StandsIn l frame → TS l seq frame ts → Placed seq.body.code seq.body.rows out h p (table.test_shape l line ts far s)
      → (c : Outcome) (st : List Value) (w : World) (hit rest : Run) (hit_place fin : ℕ) → p + size (table.test_shape l line ts 0 done) + far ≡ hit_place → High l.clause frame.handled h st → G l frame w
      → ((z : World) → G l frame z → A seq frame c fin st out (hit z) → R seq frame c hit_place st z)
      → ((q : ℕ) (z : World) → Placed seq.body.code seq.body.rows out h q s → q + far ≡ hit_place → G l frame z → A seq frame c fin st out (rest z) → R seq frame c q st z)
      → A seq frame c fin st out (run_any files top b ts (with_loop l frame) hit rest w) → R seq frame c p st w
  any_does no_more l seq frame out h p line far s sd fs pl c st w hit rest hit_place fin over high le to_hit to_rest k = to_rest p w pl (omega arith) le k
  any_does (more t ts) l seq frame out h p line far s sd fs pl c st w hit rest hit_place fin over high le to_hit to_rest k =
      let p1 = finish p (shape l t) in let g = finish_size (shape l t) p in let n = size (table.test_shape l line ts 0 done) + far in
      tree_then seq frame out (h + 0) p p1 fin l t (fs.0 out (h + 0) p pl.0) c st [] st w (λ r. choose (is_true r) hit (run_any files top b ts (with_loop l frame) hit rest)) high (omega (arith, high.tall)) refl le
      (λ v z b1 k1. chosen_ends (is_true v) seq frame c p1 n line hit_place v st z out fin hit (run_any files top b ts (with_loop l frame) hit rest) pl.1.0 (omega arith) refl (to_hit z b1)
      (λ k2. any_does ts l seq frame out h (p1 + 1) line far s sd fs.1 pl.1.2 c st z hit rest hit_place fin (omega arith) high b1 to_hit to_rest k2) k1) k

  tests_does : (ws : Whens) (l : Where) (seq : Routine) (frame : Frame) (out : List CatchRow) (h p line far : ℕ) (s : Shape) → StandsIn l frame → TW l seq frame ws → Placed seq.body.code seq.body.rows out h p (table.tests_shape l line ws far s)
      → (c : Outcome) (st : List Value) (w : World) (last : Run) (hits fin : ℕ) → Placed seq.body.code seq.body.rows out h hits (table.hits_shape l line ws) → p + size (table.tests_shape l line ws 0 done) + far ≡ hits → finish hits (table.hits_shape l line ws) ≡ fin → High l.clause frame.handled h st → G l frame w
      → ((q : ℕ) (z : World) → Placed seq.body.code seq.body.rows out h q s → q + far ≡ hits → G l frame z → A seq frame c fin st out (last z) → R seq frame c q st z)
      → A seq frame c fin st out (run_tests files top b ws (with_loop l frame) last w) → R seq frame c p st w
  tests_does no_when l seq frame out h p line far s sd fs pl c st w last hits fin hp over e high le to_last k = to_last p w pl (omega arith) le k
  tests_does (when ts t ws) l seq frame out h p line far s sd fs pl c st w last hits fin hp over e high le to_last k =
      let n = size (table.tests_shape l line ws 0 done) in let m = size (shape l t) + 1 in let ph = finish hits (shape l t) in let g = finish_size (shape l t) hits in
      let f = test_size ts l line (n + 0) (table.tests_shape l line ws (0 + m) done) in let g0 = tests_size ws l line (0 + m) done in let gh = finish_size (table.hits_shape l line ws) (ph + 1) in
      any_does ts l seq frame out h p line (n + far) (table.tests_shape l line ws (far + m) s) sd fs.0 pl c st w (run_it l frame t) (run_tests files top b ws (with_loop l frame) last) hits fin (omega arith) high le
      (λ z b1 k1. fs.1 out (h + 0) hits hp.0 c st z (plus_zero _ _ _ _ high) b1 (after_move seq frame c ph fin st out (run_it l frame t z) (λ u y r. jump_to seq frame c ph (size (table.hits_shape l line ws)) line fin (u ∷ st) y hp.1.0 (omega arith) r) k1))
      (λ q z pl1 over1 b1 k1. tests_does ws l seq frame out h q line (far + m) s sd fs.2 pl1 c st z last (ph + 1) fin hp.1.2 (omega arith) e high b1 (λ q1 z1 pl2 e2 b2 k2. to_last q1 z1 pl2 (omega arith) b2 k2) k1) k

  -- behind a pattern, over what lies on the stack
  chosen_ends_over : (x : Bool) (seq : Routine) (frame : Frame) (c : Outcome) (p n line hit_place : ℕ) (v : Value) (stk st : List Value) (z : World) (out : List CatchRow) (fin : ℕ) (hit rest : Run) → slice_get seq.body.code p ≡ Some (at_line line (BranchIf (p + 1 + n))) → p + 1 + n ≡ hit_place → is_true v ≡ x
      → (A seq frame c fin st out (hit z) → R seq frame c hit_place stk z) → (A seq frame c fin st out (rest z) → R seq frame c (p + 1) stk z) → A seq frame c fin st out (choose x hit rest z) → R seq frame c p (v ∷ stk) z
  chosen_ends_over true seq frame c p n line hit_place v stk st z out fin hit rest turn over same to_hit to_rest k =
      on seq frame c p (v ∷ stk) z line (BranchIf (p + 1 + n)) hit_place stk z turn (branch_over (is_true v) p n hit_place stk z same over) (to_hit k)
  chosen_ends_over false seq frame c p n line hit_place v stk st z out fin hit rest turn over same to_hit to_rest k =
      on seq frame c p (v ∷ stk) z line (BranchIf (p + 1 + n)) (p + 1) stk z turn (branch_on (is_true v) p (p + 1 + n) stk z same) (to_rest k)

  pattern_size : (ts : Trees) (l : Where) (line far : ℕ) (s : Shape) → size (table.pattern_shape l line ts far s) ≡ size (table.pattern_shape l line ts 0 done) + size s
  pattern_size no_more l line far s = omega arith
  pattern_size (more t ts) l line far s = let e = pattern_size ts l line far s in let f = pattern_size ts l line 0 done in omega arith

  patterns_size : (ws : Whens) (l : Where) (line far : ℕ) (s : Shape) → size (table.patterns_shape l line ws far s) ≡ size (table.patterns_shape l line ws 0 done) + size s
  patterns_size no_when l line far s = omega arith
  patterns_size (when ts t ws) l line far s =
      let n = size (table.patterns_shape l line ws 0 done) in let k = size (shape l t) + 2 in
      let e = pattern_size ts l line (n + far) (table.patterns_shape l line ws (far + k) s) in let f = pattern_size ts l line (n + 0) (table.patterns_shape l line ws (0 + k) done) in
      let g = patterns_size ws l line (far + k) s in let g0 = patterns_size ws l line (0 + k) done in omega arith

  pattern_tail : (ts : Trees) (l : Where) (seq : Routine) (frame : Frame) (out : List CatchRow) (h p line far : ℕ) (s : Shape) → Placed seq.body.code seq.body.rows out h p (table.pattern_shape l line ts far s) → Placed seq.body.code seq.body.rows out h (p + size (table.pattern_shape l line ts 0 done)) s
  pattern_tail no_more l seq frame out h p line far s pl = subst (λ q. Placed seq.body.code seq.body.rows out h q s) (let e : p ≡ p + 0 = omega arith in e) pl
  pattern_tail (more t ts) l seq frame out h p line far s pl =
      let p1 = finish p (shape l t) in let g = finish_size (shape l t) p in
      subst (λ q. Placed seq.body.code seq.body.rows out h q s) (let e : p1 + 1 + 1 + 1 + size (table.pattern_shape l line ts 0 done) ≡ p + size (table.pattern_shape l line (more t ts) 0 done) = omega arith in e) (pattern_tail ts l seq frame out h (p1 + 1 + 1 + 1) line far s pl.1.2.2.2)

  patterns_tail : (ws : Whens) (l : Where) (seq : Routine) (frame : Frame) (out : List CatchRow) (h p line far : ℕ) (s : Shape) → Placed seq.body.code seq.body.rows out h p (table.patterns_shape l line ws far s) → Placed seq.body.code seq.body.rows out h (p + size (table.patterns_shape l line ws 0 done)) s
  patterns_tail no_when l seq frame out h p line far s pl = subst (λ q. Placed seq.body.code seq.body.rows out h q s) (let e : p ≡ p + 0 = omega arith in e) pl
  patterns_tail (when ts t ws) l seq frame out h p line far s pl =
      let n = size (table.patterns_shape l line ws 0 done) in let k = size (shape l t) + 2 in
      let f = pattern_size ts l line (n + 0) (table.patterns_shape l line ws (0 + k) done) in let g0 = patterns_size ws l line (0 + k) done in
      subst (λ q. Placed seq.body.code seq.body.rows out h q s) (let e : p + size (table.pattern_shape l line ts 0 done) + n ≡ p + size (table.patterns_shape l line (when ts t ws) 0 done) = omega arith in e)
      (patterns_tail ws l seq frame out h (p + size (table.pattern_shape l line ts 0 done)) line (far + k) s (pattern_tail ts l seq frame out h p line (n + far) (table.patterns_shape l line ws (far + k) s) pl))

  -- the tests of one branch of a case without a value
  pattern_does : (ts : Trees) (l : Where) (seq : Routine) (frame : Frame) (out : List CatchRow) (h p line far : ℕ) (s : Shape) → StandsIn l frame → TS l seq frame ts → Placed seq.body.code seq.body.rows out h p (table.pattern_shape l line ts far s)
      → (c : Outcome) (st : List Value) (v : Value) (w : World) (hit rest : Run) (hit_place fin : ℕ) → p + size (table.pattern_shape l line ts 0 done) + far ≡ hit_place → High l.clause frame.handled h st → G l frame w
      → ((z : World) → G l frame z → A seq frame c fin st out (hit z) → R seq frame c hit_place (v ∷ st) z)
      → ((q : ℕ) (z : World) → Placed seq.body.code seq.body.rows out h q s → q + far ≡ hit_place → G l frame z → A seq frame c fin st out (rest z) → R seq frame c q (v ∷ st) z)
      → A seq frame c fin st out (run_patterns files top b ts (with_loop l frame) v hit rest w) → R seq frame c p (v ∷ st) w
  pattern_does no_more l seq frame out h p line far s sd fs pl c st v w hit rest hit_place fin over high le to_hit to_rest k = to_rest p w pl (omega arith) le k
  pattern_does (more t ts) l seq frame out h p line far s sd fs pl c st v w hit rest hit_place fin over high le to_hit to_rest k =
      let p1 = finish p (shape l t) in let g = finish_size (shape l t) p in let n = size (table.pattern_shape l line ts 0 done) + far in
      tree_then seq frame out (h + 1) p p1 fin l t (fs.0 out (h + 1) p pl.0) c (v ∷ st) (v ∷ []) st w (λ y. then (call_method files b (with_loop l frame) 0 y (codes "===") (v ∷ []) no_block false) (λ r. choose (is_true r) hit (run_patterns files top b ts (with_loop l frame) v hit rest))) high (omega (arith, high.tall)) refl le
      (λ y z b1 k1. on seq frame c p1 (y ∷ (v ∷ st)) z line (TopN 1) (p1 + 1) (v ∷ (y ∷ (v ∷ st))) z pl.1.0 refl
      (send_then l seq frame out (p1 + 1) fin 0 (codes "===") 1 (self_flag t) (v ∷ []) y (v ∷ st) (v ∷ []) st z c (λ r. choose (is_true r) hit (run_patterns files top b ts (with_loop l frame) v hit rest)) sd.of_first (self_bit t) refl pl.1.2.0 pl.1.2.1 refl b1
      (λ r z1 b2 k2. chosen_ends_over (is_true r) seq frame c (p1 + 1 + 1) n line hit_place r (v ∷ st) st z1 out fin hit (run_patterns files top b ts (with_loop l frame) v hit rest) pl.1.2.2.0 (omega arith) refl (to_hit z1 b2)
      (λ k3. pattern_does ts l seq frame out h (p1 + 1 + 1 + 1) line far s sd fs.1 pl.1.2.2.2 c st v z1 hit rest hit_place fin (omega arith) high b2 to_hit to_rest k3) k2) k1)) k

  patterns_does : (ws : Whens) (l : Where) (seq : Routine) (frame : Frame) (out : List CatchRow) (h p line far : ℕ) (s : Shape) → StandsIn l frame → TW l seq frame ws → Placed seq.body.code seq.body.rows out h p (table.patterns_shape l line ws far s)
      → (c : Outcome) (st : List Value) (v : Value) (w : World) (last : Run) (hits fin : ℕ) → Placed seq.body.code seq.body.rows out h hits (table.cases_shape l line ws) → p + size (table.patterns_shape l line ws 0 done) + far ≡ hits → finish hits (table.cases_shape l line ws) ≡ fin → High l.clause frame.handled h st → G l frame w
      → ((q : ℕ) (z : World) → Placed seq.body.code seq.body.rows out h q s → q + far ≡ hits → G l frame z → A seq frame c fin st out (last z) → R seq frame c q (v ∷ st) z)
      → A seq frame c fin st out (run_whens files top b ws (with_loop l frame) v last w) → R seq frame c p (v ∷ st) w
  patterns_does no_when l seq frame out h p line far s sd fs pl c st v w last hits fin hp over e high le to_last k = to_last p w pl (omega arith) le k
  patterns_does (when ts t ws) l seq frame out h p line far s sd fs pl c st v w last hits fin hp over e high le to_last k =
      let n = size (table.patterns_shape l line ws 0 done) in let m = size (shape l t) + 2 in let ph = finish (hits + 1) (shape l t) in let g = finish_size (shape l t) (hits + 1) in
      let f = pattern_size ts l line (n + 0) (table.patterns_shape l line ws (0 + m) done) in let g0 = patterns_size ws l line (0 + m) done in let gh = finish_size (table.cases_shape l line ws) (ph + 1) in
      pattern_does ts l seq frame out h p line (n + far) (table.patterns_shape l line ws (far + m) s) sd fs.0 pl c st v w (run_it l frame t) (run_whens files top b ws (with_loop l frame) v last) hits fin (omega arith) high le
      (λ z b1 k1. on seq frame c hits (v ∷ st) z line Pop (hits + 1) st z hp.0 refl (fs.1 out (h + 0) (hits + 1) hp.2.0 c st z (plus_zero _ _ _ _ high) b1 (after_move seq frame c ph fin st out (run_it l frame t z) (λ u y r. jump_to seq frame c ph (size (table.cases_shape l line ws)) line fin (u ∷ st) y hp.2.1.0 (omega arith) r) k1)))
      (λ q z pl1 over1 b1 k1. patterns_does ws l seq frame out h q line (far + m) s sd fs.2 pl1 c st v z last (ph + 1) fin hp.2.1.2 (omega arith) e high b1 (λ q1 z1 pl2 e2 b2 k2. to_last q1 z1 pl2 (omega arith) b2 k2) k1) k

  mutual
    pub tree_does : (t : Tree) (l : Where) (seq : Routine) (frame : Frame) (out : List CatchRow) (h p : ℕ) → StandsIn l frame → Finds seqs bodies l t → Placed seq.body.code seq.body.rows out h p (shape l t) → D l seq frame out h p (finish p (shape l t)) (run_it l frame t)
    tree_does (at s f) l seq frame out h p sd fs pl = form_does f l s seq frame out h p sd fs pl

    form_does : (f : Form) (l : Where) (s : SourcePosition) (seq : Routine) (frame : Frame) (out : List CatchRow) (h p : ℕ) → StandsIn l frame → FindsForm seqs bodies l f → Placed seq.body.code seq.body.rows out h p (form_shape l f s) → D l seq frame out h p (finish p (form_shape l f s)) (run_form files top b f s (with_loop l frame))
    form_does nil_value l s seq frame out h p sd fs pl = λ c st w high le k. on seq frame c p st w (own l s) PutNil (p + 1) (nil ∷ st) w pl.0 refl k
    form_does true_value l s seq frame out h p sd fs pl = λ c st w high le k. on seq frame c p st w (own l s) (PutObject True) (p + 1) (yes ∷ st) w pl.0 refl k
    form_does false_value l s seq frame out h p sd fs pl = λ c st w high le k. on seq frame c p st w (own l s) (PutObject False) (p + 1) (no ∷ st) w pl.0 refl k
    form_does (integer i) l s seq frame out h p sd fs pl = λ c st w high le k. on seq frame c p st w (own l s) (PutObject (Int i)) (p + 1) (number i ∷ st) w pl.0 refl k
    form_does (symbol x) l s seq frame out h p sd fs pl = λ c st w high le k. on seq frame c p st w (own l s) (PutObject (Sym x)) (p + 1) (symbol_named x ∷ st) w pl.0 refl k
    form_does (text x) l s seq frame out h p sd fs pl = λ c st w high le k.
        answered seq frame c p (p + 1) st st [] w out (own l s) (PutString x) (make_string x (λ n. Done (object n)) w) (make_string x (λ n. Done (object n)) w) pl.0 pl.1 refl refl refl k
    form_does self_value l s seq frame out h p sd fs pl = λ c st w high le k. on seq frame c p st w (own l s) PutSelf (p + 1) (frame.self_value ∷ st) w pl.0 refl k
    form_does file_name l s seq frame out h p sd fs pl = λ c st w high le k.
        answered seq frame c p (p + 1) st st [] w out (own l s) (PutString l.path) (make_string l.path (λ n. Done (object n)) w) (make_string frame.code.source.path (λ n. Done (object n)) w) pl.0 pl.1 refl refl (ap (λ x. make_string x (λ n. Done (object n)) w) sd.of_path) k
    form_does folder_name l s seq frame out h p sd fs pl = λ c st w high le k.
        answered seq frame c p (p + 1) st st [] w out (own l s) (PutString (parent_of l.path)) (make_string (parent_of l.path) (λ n. Done (object n)) w) (make_string (parent_of frame.code.source.path) (λ n. Done (object n)) w) pl.0 pl.1 refl refl (ap (λ x. make_string (parent_of x) (λ n. Done (object n)) w) sd.of_path) k
    form_does line_number l s seq frame out h p sd fs pl = λ c st w high le k. on seq frame c p st w (own l s) (PutObject (Int (pos s.line))) (p + 1) (number (pos s.line) ∷ st) w pl.0 refl k
    form_does (local x) l s seq frame out h p sd fs pl = λ c st w high le k.
        on seq frame c p st w (own l s) (get_local l x) (p + 1) (read_local frame x w ∷ st) w pl.0 (ap (λ v. goes (p + 1) (v ∷ st) w) (known.reads l.sight.scopes frame top x w le fs)) k
    form_does (instance x) l s seq frame out h p sd fs pl = λ c st w high le k. on seq frame c p st w (own l s) (GetInstanceVariable x) (p + 1) (variable_of frame.self_value x w ∷ st) w pl.0 refl k
    form_does (global x) l s seq frame out h p sd fs pl = λ c st w high le k. on seq frame c p st w (own l s) (GetGlobal x) (p + 1) (read_global x w ∷ st) w pl.0 refl k
    form_does (joined ps) l s seq frame out h p sd fs pl = λ c st w high le k.
        pieces_does ps l seq frame out h p s.line 0 _ sd (pieces_all ps l seq frame sd fs) pl c st w (finish p (form_shape l (joined ps) s)) [] make_joined refl refl high le
        (λ vs q z pl1 e1 n1 k1. answered seq frame c q (q + 1) (pushed vs st) st (pushed vs []) z out (own l s) (ConcatStrings (table.count_pieces ps)) (make_joined vs z) (make_joined vs z) pl1.0 pl1.1
        (args_off vs st (table.count_pieces ps) _ (omega arith)) (pushed_over vs [] st) refl (subst (λ y. A seq frame c y st out (make_joined vs z)) (sym e1) k1)) k
    form_does (array ts ks) l s seq frame out h p sd fs pl = λ c st w high le k.
        args_does ts l seq frame out h p 0 _ sd (trees_all ts l seq frame sd fs) pl c st [] w (finish p (form_shape l (array ts ks) s)) [] (λ vs. reading (spread ks vs) (λ us. make_array us Done)) refl refl high le
        (λ vs q z pl1 e1 n1 b1 k1. answers files b seqs bodies seq frame c q (q + 1) (pushed vs st) st (pushed vs []) z out (reading (spread ks vs) (λ us. make_array us Done) z)
        (here files b seqs bodies seq frame c q (pushed vs st) z (own l s) (NewArray (count ts) ks) pl1.0 ∙ args_off vs st (count ts) _ (omega arith)) pl1.1 (pushed_over vs [] st) (subst (λ y. A seq frame c y st out (reading (spread ks vs) (λ us. make_array us Done) z)) (sym e1) k1)) k
    form_does (hash ps) l s seq frame out h p sd fs pl = λ c st w high le k.
        pairs_does ps l seq frame out h p 0 _ sd (pairs_all ps l seq frame sd fs) pl c st w (finish p (form_shape l (hash ps) s)) [] make_hash refl refl high le
        (λ qs q z pl1 e1 n1 b1 k1. answered seq frame c q (q + 1) (pushed (flat qs) st) st (pushed (flat qs) []) z out (own l s) (NewHash (2 * count_pairs ps)) (make_hash (pairs_of (flat qs)) z) (make_hash qs z) pl1.0 pl1.1
        (args_off (flat qs) st (2 * count_pairs ps) _ (omega (arith, flat_length qs))) (pushed_over (flat qs) [] st) (ap (λ y. make_hash y z) (sym (flat_pairs qs))) (subst (λ y. A seq frame c y st out (make_hash qs z)) (sym e1) k1)) k
    form_does (range a e x) l s seq frame out h p sd fs pl = form_range_ends a e x l s seq frame out h p sd (λ o1 h1 p1 pl1. tree_does a l seq frame o1 h1 p1 sd fs.0 pl1) (λ o1 h1 p1 pl1. tree_does e l seq frame o1 h1 p1 sd fs.1 pl1) fs pl
    form_does (constant_path without true xs) l s seq frame out h p sd fs pl = λ c st w high le k.
        answered seq frame c p (p + 1) st st [] w out (own l s) (OptGetConstantPath 1 xs) (path_from frame (own l s) xs (object object_class) w) (path_from (with_loop l frame) s.line xs (object object_class) w) pl.0 pl.1 refl refl
        (ap (λ f. f w) (path_same (with_loop l frame) frame s.line (own l s) refl (own_lines l frame sd.of_first s.line) xs (object object_class))) k
    form_does (constant_path without false xs) l s seq frame out h p sd fs pl = λ c st w high le k.
        answered seq frame c p (p + 1) st st [] w out (own l s) (OptGetConstantPath 0 xs) (path_around frame (own l s) xs w) (path_around (with_loop l frame) s.line xs w) pl.0 pl.1 refl refl
        (ap (λ f. f w) (around_same (with_loop l frame) frame s.line (own l s) refl (own_lines l frame sd.of_first s.line) xs)) k
    form_does (constant_path (with t) top_one xs) l s seq frame out h p sd fs pl = λ c st w high le k.
        let p1 = finish p (shape l t) in
        tree_then seq frame out (h + 0) p p1 (p1 + 1) l t (tree_does t l seq frame out (h + 0) p sd fs pl.0) c st [] st w (path_from (with_loop l frame) s.line xs) high (omega arith) refl le
        (λ v z b1 k1. answered seq frame c p1 (p1 + 1) (v ∷ st) st (v ∷ []) z out (own l s) (OptGetConstantPath 2 xs) (path_from frame (own l s) xs v z) (path_from (with_loop l frame) s.line xs v z) pl.1.0 pl.1.1 refl refl
        (ap (λ f. f z) (path_same (with_loop l frame) frame s.line (own l s) refl (own_lines l frame sd.of_first s.line) xs v)) k1) k
    form_does (assign t g) l s seq frame out h p sd fs pl = form_assign_ends t g l s seq frame out h p sd (λ o1 h1 p1 pl1. tree_does t l seq frame o1 h1 p1 sd fs.0 pl1) fs pl
    form_does (assign_all ts gs) l s seq frame out h p sd fs pl = λ c st w high le k.
        values_does ts l seq frame out h p (own l s) _ sd (trees_all ts l seq frame sd fs.0) pl c st w (finish p (form_shape l (assign_all ts gs) s)) (λ v. reading (λ z. parts_of z.objects v) (λ us. then (set_goals (with_loop l frame) s.line gs us) (λ u. Done v))) refl high le
        (λ v q z pl1 e1 b1 k1. on seq frame c q (v ∷ st) z (own l s) Dup (q + 1) (v ∷ (v ∷ st)) z pl1.0 refl
        (on seq frame c (q + 1) (v ∷ (v ∷ st)) z (own l s) (ExpandArray (length gs)) (q + 1 + 1) (first_values (length gs) (parts_of z.objects v) ++ (v ∷ st)) z pl1.2.0 refl
        (sets_do gs (parts_of z.objects v) l seq frame out h (q + 1 + 1) s.line v st z c (finish p (form_shape l (assign_all ts gs) s)) sd.of_first fs.1 b1 pl1.2.2 e1 k1))) k
    form_does (assign_attribute a t m) l s seq frame out h p sd fs pl = form_assign_attribute_ends a t m l s seq frame out h p sd (λ o1 h1 p1 pl1. tree_does a l seq frame o1 h1 p1 sd fs.0 pl1) (λ o1 h1 p1 pl1. tree_does t l seq frame o1 h1 p1 sd fs.1 pl1) fs pl
    form_does (assign_index a i t) l s seq frame out h p sd fs pl = form_assign_index_ends a i t l s seq frame out h p sd (λ o1 h1 p1 pl1. tree_does a l seq frame o1 h1 p1 sd fs.0 pl1) (λ o1 h1 p1 pl1. tree_does i l seq frame o1 h1 p1 sd fs.1 pl1) (λ o1 h1 p1 pl1. tree_does t l seq frame o1 h1 p1 sd fs.2 pl1) fs pl
    form_does (operate_attribute a x t f m n) l s seq frame out h p sd fs pl = form_operate_attribute_ends a x t f m n l s seq frame out h p sd (λ o1 h1 p1 pl1. tree_does a l seq frame o1 h1 p1 sd fs.0 pl1) (λ o1 h1 p1 pl1. tree_does t l seq frame o1 h1 p1 sd fs.1 pl1) fs pl
    form_does (or_attribute a x t m) l s seq frame out h p sd fs pl = form_or_attribute_ends a x t m l s seq frame out h p sd (λ o1 h1 p1 pl1. tree_does a l seq frame o1 h1 p1 sd fs.0 pl1) (λ o1 h1 p1 pl1. tree_does t l seq frame o1 h1 p1 sd fs.1 pl1) fs pl
    form_does (and_attribute a x t m) l s seq frame out h p sd fs pl = form_and_attribute_ends a x t m l s seq frame out h p sd (λ o1 h1 p1 pl1. tree_does a l seq frame o1 h1 p1 sd fs.0 pl1) (λ o1 h1 p1 pl1. tree_does t l seq frame o1 h1 p1 sd fs.1 pl1) fs pl
    form_does (operate_index a i t f n) l s seq frame out h p sd fs pl = form_operate_index_ends a i t f n l s seq frame out h p sd (λ o1 h1 p1 pl1. tree_does a l seq frame o1 h1 p1 sd fs.0 pl1) (λ o1 h1 p1 pl1. tree_does i l seq frame o1 h1 p1 sd fs.1 pl1) (λ o1 h1 p1 pl1. tree_does t l seq frame o1 h1 p1 sd fs.2 pl1) fs pl
    form_does (or_index a i t) l s seq frame out h p sd fs pl = form_or_index_ends a i t l s seq frame out h p sd (λ o1 h1 p1 pl1. tree_does a l seq frame o1 h1 p1 sd fs.0 pl1) (λ o1 h1 p1 pl1. tree_does i l seq frame o1 h1 p1 sd fs.1 pl1) (λ o1 h1 p1 pl1. tree_does t l seq frame o1 h1 p1 sd fs.2 pl1) fs pl
    form_does (and_index a i t) l s seq frame out h p sd fs pl = form_and_index_ends a i t l s seq frame out h p sd (λ o1 h1 p1 pl1. tree_does a l seq frame o1 h1 p1 sd fs.0 pl1) (λ o1 h1 p1 pl1. tree_does i l seq frame o1 h1 p1 sd fs.1 pl1) (λ o1 h1 p1 pl1. tree_does t l seq frame o1 h1 p1 sd fs.2 pl1) fs pl
    form_does (send o ts ks v x bare t) l s seq frame out h p sd fs pl = λ c st w high le k.
        let fin = finish p (form_shape l (send o ts ks v x bare t) s) in let flags = receiver_flag o + value_flag v + bare_flag bare in
        receiver_does o l seq frame out h p (start l s) _ sd (other_all o l seq frame sd fs.0) pl c st w fin
        (λ self. run_trees files top b ts (with_loop l frame) [] (λ vs. run_given_value files top b v (with_loop l frame) s.line no_block (λ given. with_block t (with_loop l frame) given (send_with files top b (with_loop l frame) s.line self x ks vs bare))))
        refl high le
        (λ self q z pl1 e1 b1 a1. args_does ts l seq frame out h q 1 _ sd (trees_all ts l seq frame sd fs.1) pl1 c st (self ∷ []) z fin []
        (λ vs. run_given_value files top b v (with_loop l frame) s.line no_block (λ given. with_block t (with_loop l frame) given (send_with files top b (with_loop l frame) s.line self x ks vs bare)))
        e1 refl high b1
        (λ us q2 z2 pl2 e2 n2 b2 a2. value_does v l seq frame out h q2 (suc (count ts)) _ sd (other_all v l seq frame sd fs.2) pl2 c st (pushed us (self ∷ st)) (pushed us (self ∷ [])) z2 fin s.line no_block
        (λ given. with_block t (with_loop l frame) given (send_with files top b (with_loop l frame) s.line self x ks us bare)) e2 high (let m1 = pushed_length us (self ∷ st) in omega arith) (pushed_over us (self ∷ []) st) b2
        (λ g q3 z3 stk3 extra3 pl3 e3 over3 only taken a3. call_ends t l seq frame out h q3 (own l s) (Send x (count ts) ks flags) pl3 c st z3 fin stk3 extra3 e3 high.tall over3
        (λ j. sent files b seqs bodies j frame (own l s) self x ks us bare g z3)
        (send_acts seq frame q3 stk3 z3 (own l s) x (count ts) ks flags (is_with v) bare g us self st (flags_valued (receiver_flag o) v bare (receiver_bit o)) (flags_bare (receiver_flag o) v bare (receiver_bit o)) (omega arith) taken)
        _ (send_means t v l frame sd.of_first fs.3 s.line self x ks us bare g z3 only) a3) a2) a1) k
    form_does (safe_send a ts ks v x t) l s seq frame out h p sd fs pl = λ c st w high le k.
        let flags = self_flag a + value_flag v in let rest = args_shape l 1 ts (value_shape l (suc (count ts)) v (with_literal l (own l s) (Send x (count ts) ks flags) t)) in
        let p1 = finish p (shape l a) in let fin = finish (p1 + 1 + 1) rest in
        tree_then seq frame out (h + 0) p p1 fin l a (tree_does a l seq frame out (h + 0) p sd fs.0 pl.0) c st [] st w
        (λ self. unless_nil self (run_trees files top b ts (with_loop l frame) [] (λ vs. run_given_value files top b v (with_loop l frame) s.line no_block (λ given. with_block t (with_loop l frame) given (send_with files top b (with_loop l frame) s.line self x ks vs false))))) high (omega arith) refl le
        (λ self z b1 k1. on seq frame c p1 (self ∷ st) z (start l s) Dup (p1 + 1) (self ∷ (self ∷ st)) z pl.1.0 refl
        (safe_does ts v t l s seq frame out h (p1 + 1) ks x flags sd (trees_all ts l seq frame sd fs.1) (other_all v l seq frame sd fs.2) fs.3 pl.1.2 (flags_safe (self_flag a) v (self_bit a)) (bare_safe (self_flag a) v (self_bit a)) c st self z fin refl high b1 (nil_or self) k1)) k
    form_does (yield ts ks) l s seq frame out h p sd fs pl = λ c st w high le k.
        args_does ts l seq frame out h p 0 _ sd (trees_all ts l seq frame sd fs) pl c st [] w (finish p (form_shape l (yield ts ks) s)) [] (λ vs. reading (spread ks vs) (λ us. run_given b (with_loop l frame) s.line frame.block us)) refl refl high le
        (λ vs q z pl1 e1 n1 b1 k1. answered seq frame c q (q + 1) (pushed vs st) st (pushed vs []) z out (own l s) (InvokeBlock (count ts) ks) (run_given b frame (own l s) frame.block (spread ks vs z) z) (run_given b (with_loop l frame) s.line frame.block (spread ks vs z) z) pl1.0 pl1.1
        (args_off vs st (count ts) _ (omega arith)) (pushed_over vs [] st) (ap (λ f. f z) (given_block_same (with_loop l frame) frame s.line (own l s) refl (own_lines l frame sd.of_first s.line) files b frame.block (spread ks vs z)))
        (subst (λ y. A seq frame c y st out (run_given b (with_loop l frame) s.line frame.block (spread ks vs z) z)) (sym e1) k1)) k
    form_does (super ts ks v t) l s seq frame out h p sd fs pl = λ c st w high le k.
        let fin = finish p (form_shape l (super ts ks v t) s) in
        on seq frame c p st w (own l s) PutSelf (p + 1) (frame.self_value ∷ st) w pl.0 refl
        (args_does ts l seq frame out h (p + 1) 1 _ sd (trees_all ts l seq frame sd fs.0) pl.2 c st (frame.self_value ∷ []) w fin []
        (λ vs. run_given_value files top b v (with_loop l frame) s.line frame.block (λ given. reading (spread ks vs) (λ ys. super_to files top b frame.method (with_loop l frame) s.line t given ys)))
        refl refl high le
        (λ us q2 z2 pl2 e2 n2 b2 a2. value_does v l seq frame out h q2 (suc (count ts)) _ sd (other_all v l seq frame sd fs.1) pl2 c st (pushed us (frame.self_value ∷ st)) (pushed us (frame.self_value ∷ [])) z2 fin s.line frame.block
        (λ given. reading (spread ks us) (λ ys. super_to files top b frame.method (with_loop l frame) s.line t given ys)) e2 high (let m1 = pushed_length us (frame.self_value ∷ st) in omega (arith, high.tall)) (pushed_over us (frame.self_value ∷ []) st) b2
        (λ g q3 z3 stk3 extra3 pl3 e3 over3 only taken a3. call_ends t l seq frame out h q3 (own l s) (InvokeSuper (count ts) ks (1 + value_flag v)) pl3 c st z3 fin stk3 extra3 e3 high.tall over3
        (λ j. super_sent files b seqs bodies j frame (own l s) ks us g z3)
        (super_acts seq frame q3 stk3 z3 (own l s) (count ts) ks (1 + value_flag v) (is_with v) g us frame.self_value st (flag_super v) (omega arith) taken)
        _ (super_means t v l frame sd.of_first fs.2 s.line ks us g z3 only) a3) a2) k)
    form_does (bare_super t) l s seq frame out h p sd fs pl = λ c st w high le k.
        let names = names_of_params (params_of l.sight.body) in let fin = finish p (form_shape l (bare_super t) s) in
        let k1 : A seq frame c fin st out (super_to files top b frame.method (with_loop l frame) s.line t frame.block (map (λ x. read_local frame x w) names) w) =
        subst (λ y. A seq frame c fin st out (super_to files top b frame.method (with_loop l frame) s.line t frame.block (map (λ x. read_local frame x w) (names_of_params (params_of y))) w)) sd.of_body k in
        on seq frame c p st w (own l s) PutSelf (p + 1) (frame.self_value ∷ st) w pl.0 refl
        (gets_does names l seq frame out h (p + 1) (own l s) _ fs.0 pl.2 c (frame.self_value ∷ st) w fin [] refl le
        (λ us q pl1 e1 same. call_ends t l seq frame out h q (own l s) (InvokeSuper (length names) [] 1) pl1 c st w fin (pushed us (frame.self_value ∷ st)) (pushed us (frame.self_value ∷ [])) e1 high.tall (pushed_over us (frame.self_value ∷ []) st)
        (λ j. super_sent files b seqs bodies j frame (own l s) [] us None w)
        (super_acts seq frame q (pushed us (frame.self_value ∷ st)) w (own l s) (length names) [] 1 false None us frame.self_value st refl (omega (arith, ap length same, map_length (λ x. read_local frame x w) names)) (λ next. refl))
        _ (super_means t without l frame sd.of_first fs.1 s.line [] us None w (λ y. refl))
        (subst (λ y. A seq frame c fin st out (super_to files top b frame.method (with_loop l frame) s.line t frame.block y w)) (sym same ∙ sym (spread_none us w)) k1)))
    form_does bare_raise l s seq frame out h p sd fs pl = λ c st w high le k.
        let stk = frame.handled ∷ (frame.self_value ∷ st) in
        on seq frame c p st w (own l s) PutSelf (p + 1) (frame.self_value ∷ st) w pl.0 refl
        (on seq frame c (p + 1) (frame.self_value ∷ st) w (own l s) (TopN h) (p + 1 + 1) stk w pl.2.0 (item_last frame.handled frame.self_value st h (λ v. goes (p + 1 + 1) (v ∷ (frame.self_value ∷ st)) w) (high.bottom fs) high.tall)
        (plain_ends l seq frame out (p + 1 + 1) s.line (codes "raise") 1 1 (frame.handled ∷ []) frame.self_value st w c sd.of_first (inr refl) refl pl.2.2.0 pl.2.2.1 k))
    form_does (negated a) l s seq frame out h p sd fs pl = form_negated_ends a l s seq frame out h p sd (λ o1 h1 p1 pl1. tree_does a l seq frame o1 h1 p1 sd fs pl1) fs pl
    form_does (statements ts) l s seq frame out h p sd fs pl = all_does ts l seq frame out h p (own l s) sd (trees_all ts l seq frame sd fs) pl
    form_does (both a e) l s seq frame out h p sd fs pl = form_both_ends a e l s seq frame out h p sd (λ o1 h1 p1 pl1. tree_does a l seq frame o1 h1 p1 sd fs.0 pl1) (λ o1 h1 p1 pl1. tree_does e l seq frame o1 h1 p1 sd fs.1 pl1) fs pl
    form_does (either a e) l s seq frame out h p sd fs pl = form_either_ends a e l s seq frame out h p sd (λ o1 h1 p1 pl1. tree_does a l seq frame o1 h1 p1 sd fs.0 pl1) (λ o1 h1 p1 pl1. tree_does e l seq frame o1 h1 p1 sd fs.1 pl1) fs pl
    form_does (if_else e a o) l s seq frame out h p sd fs pl = λ c st w high le k.
        let pb = finish p (shape l e) in let pa = finish (pb + 1) (shape l a) in let fin = finish (pa + 1) (other_shape l o) in
        tree_then seq frame out (h + 0) p pb fin l e (tree_does e l seq frame out (h + 0) p sd fs.0 pl.0) c st [] st w (λ v. choose (is_true v) (run_it l frame a) (run_other files top b o (with_loop l frame))) high (omega arith) refl le
        (λ v z b1 k1. if_ends l seq frame out h pb (size (shape l a) + 1) pa (size (other_shape l o)) (own l s) fin (run_it l frame a) (run_other files top b o (with_loop l frame)) c st v z pl.1.0
        (let g = finish_size (shape l a) (pb + 1) in omega arith) pl.1.2.1.0 (let g = finish_size (other_shape l o) (pa + 1) in omega arith)
        (λ c1 st1 w1 high1. tree_does a l seq frame out (h + 0) (pb + 1) sd fs.1 pl.1.2.0 c1 st1 w1 (plus_zero _ _ _ _ high1)) (other_does o l seq frame out h (pa + 1) sd (other_all o l seq frame sd fs.2) pl.1.2.1.2.0) high b1 (is_true v) refl k1) k
    form_does (while_loop a e u true) l s seq frame out h p sd fs pl = form_while_loop_first_ends a e u l s seq frame out h p sd (λ o1 h1 p1 pl1. tree_does a (looped l) seq frame o1 h1 p1 sd fs.0 pl1) (λ o1 h1 p1 pl1. tree_does e l seq frame o1 h1 p1 sd fs.1 pl1) fs pl
    form_does (while_loop a e u false) l s seq frame out h p sd fs pl = form_while_loop_later_ends a e u l s seq frame out h p sd (λ o1 h1 p1 pl1. tree_does a (looped l) seq frame o1 h1 p1 sd fs.0 pl1) (λ o1 h1 p1 pl1. tree_does e l seq frame o1 h1 p1 sd fs.1 pl1) fs pl
    form_does (return_with ts) l s seq frame out h p sd fs pl = λ c st w high le k.
        values_does ts l seq frame out h p (own l s) _ sd (trees_all ts l seq frame sd fs) pl c st w (finish p (form_shape l (return_with ts) s)) (leave_home (with_loop l frame) s.line) refl high le
        (λ v q z pl1 e1 b1 k1. answered seq frame c q (q + 1) (v ∷ st) st (v ∷ []) z out (own l s) (Throw 1) (leave_home frame (own l s) v z) (leave_home (with_loop l frame) s.line v z) pl1.0 pl1.1 refl refl
        (ap (λ f. f z) (home_same (with_loop l frame) frame s.line (own l s) refl (own_lines l frame sd.of_first s.line) v)) (subst (λ y. A seq frame c y st out (leave_home (with_loop l frame) s.line v z)) (sym e1) k1)) k
    form_does (break_with ts) l s seq frame out h p sd fs pl = λ c st w high le k.
        values_does ts l seq frame out h p (own l s) _ sd (trees_all ts l seq frame sd fs) pl c st w (finish p (form_shape l (break_with ts) s)) (leave_loop (with_loop l frame) s.line) refl high le
        (λ v q z pl1 e1 b1 k1. leave_by l.loop l seq frame out q s.line c st v z sd.of_first pl1.0 pl1.1 (subst (λ y. A seq frame c y st out (leave_loop (with_loop l frame) s.line v z)) (sym e1) k1)) k
    form_does (next_with ts) l s seq frame out h p sd fs pl = λ c st w high le k.
        values_does ts l seq frame out h p (own l s) _ sd (trees_all ts l seq frame sd fs) pl c st w (finish p (form_shape l (next_with ts) s)) Next refl high le
        (λ v q z pl1 e1 b1 k1. next_by l.loop seq frame out q (own l s) c st v z pl1.0 pl1.1 k1) k
    form_does retry l s seq frame out h p sd fs pl = λ c st w high le k.
        on seq frame c p st w (own l s) PutNil (p + 1) (nil ∷ st) w pl.0 refl
        (pend files b seqs bodies seq frame c (p + 1) (nil ∷ st) w out (Retry w) (here files b seqs bodies seq frame c (p + 1) (nil ∷ st) w (own l s) (Throw 7) pl.2.0) pl.2.1 (k (nil ∷ [])))
    form_does (rescue a o e) l s seq frame out h p sd fs pl = λ c st w high le k.
        let line = own l s in let pe = finish p (shape l a) in let px = finish pe (last_shape l line o) in
        rescues_run files b seqs bodies top l.clause l.sight.scopes seq frame out h p pe px (size (last_shape l line o)) (number_of l e) (run_it l frame a) (λ v. run files top b e (handling (with_loop l frame) v)) (λ v. run_last files top b o (with_loop l frame) v)
        (let g = finish_size (last_shape l line o) pe in omega arith) (known.trees l.sight.scopes frame (with_loop l frame) refl a) (λ v. known.trees l.sight.scopes frame (handling (with_loop l frame) v) refl e) (tree_does a l seq frame _ h p sd fs.0 pl.0)
        (λ v z b1. subst (λ y. Runs files b seqs bodies y (rescue_frame y frame v) 0 (v ∷ []) (entered_at (number_of l e) frame z) (run files top b e (handling (with_loop l frame) v) z)) (sym fs.2)
        (subst (λ y. Runs files b seqs bodies (part_routine (in_rescue l e) kinds.Rescue e) (rescue_frame (part_routine (in_rescue l e) kinds.Rescue e) frame v) 0 (v ∷ []) y (run files top b e (handling (with_loop l frame) v) z)) (sym (entered_same l frame e z sd.of_places))
        (rescue_part e l frame v z sd fs.3 b1)))
        c st high (last_does o l seq frame out h pe line sd (other_all o l seq frame sd fs.1) pl.1 c st high) top top w (omega arith) (omega arith) le k
    form_does (ensure a e) l s seq frame out h p sd fs pl = λ c st w high le k.
        let p6 = finish p (shape l a) in
        ensures_run files b seqs bodies top l.clause l.sight.scopes seq frame out h p p6 (number_of l e) (own l s) (run_it l frame a) (run_it l frame e) pl.0.1.0 pl.0.1.1 (λ c1 st1 w1 high1. tree_does a l seq frame _ (h + 0) p sd fs.0 pl.0.0 c1 st1 w1 (plus_zero _ _ _ _ high1)) (known.trees l.sight.scopes frame (with_loop l frame) refl a)
        (λ z b1. subst (λ y. Runs files b seqs bodies y (ensure_frame y frame) 0 [] (entered_at (number_of l e) frame z) (emptied (run_it l frame e z))) (sym fs.1)
        (subst (λ y. Runs files b seqs bodies (part_routine (in_ensure l e) kinds.Ensure e) (ensure_frame (part_routine (in_ensure l e) kinds.Ensure e) frame) 0 [] y (emptied (run_it l frame e z))) (sym (entered_same l frame e z sd.of_places))
        (ensure_part e l frame z sd fs.2 b1))) c st high w le k
    form_does (case_of a ws o) l s seq frame out h p sd fs pl = λ c st w high le k.
        let line = own l s in let n = size (other_shape l o) + 2 in let rest = op line Pop (part 0 (other_shape l o) (ahead line Jump (size (table.cases_shape l line ws)) (table.cases_shape l line ws))) in
        let pa = finish p (shape l a) in let q0 = pa + size (table.patterns_shape l line ws 0 done) in let hits = finish (q0 + 1) (other_shape l o) + 1 in let fin = finish hits (table.cases_shape l line ws) in
        let g = finish_size (other_shape l o) (q0 + 1) in let g0 = finish_size (shape l a) p in let g1 = finish_size (form_shape l (case_of a ws o) s) p in let g2 = patterns_size ws l line n rest in let g3 = finish_size (table.cases_shape l line ws) hits in
        let tail = patterns_tail ws l seq frame out h pa line n rest pl.1 in
        let e : finish p (form_shape l (case_of a ws o) s) ≡ fin = omega arith in
        tree_then seq frame out (h + 0) p pa fin l a (tree_does a l seq frame out (h + 0) p sd fs.0 pl.0) c st [] st w (λ v. run_whens files top b ws (with_loop l frame) v (run_other files top b o (with_loop l frame))) high (omega arith) refl le
        (λ v z0 b0 k0. patterns_does ws l seq frame out h pa line n rest sd (whens_all ws l seq frame sd fs.1) pl.1 c st v z0 (run_other files top b o (with_loop l frame)) hits fin tail.2.1.2 (omega arith) refl high b0
        (λ q z pl1 e1 b1 k1. let gq = finish_size (other_shape l o) (q + 1) in
        on seq frame c q (v ∷ st) z line Pop (q + 1) st z pl1.0 refl
        (other_does o l seq frame out h (q + 1) sd (other_all o l seq frame sd fs.2) pl1.2.0 c st z high b1 (after_move seq frame c (finish (q + 1) (other_shape l o)) fin st out (run_other files top b o (with_loop l frame) z) (λ u y r. jump_to seq frame c (finish (q + 1) (other_shape l o)) (size (table.cases_shape l line ws)) line fin (u ∷ st) y pl1.2.1.0 (omega arith) r) k1))) k0)
        (subst (λ y. A seq frame c y st out (then_do (run_it l frame a w) (λ v. run_whens files top b ws (with_loop l frame) v (run_other files top b o (with_loop l frame))))) e k)
    form_does (case_tests ws o) l s seq frame out h p sd fs pl = λ c st w high le k.
        let line = own l s in let n = size (other_shape l o) + 1 in let rest = part 0 (other_shape l o) (ahead line Jump (size (table.hits_shape l line ws)) (table.hits_shape l line ws)) in
        let q0 = p + size (table.tests_shape l line ws 0 done) in let hits = finish q0 (other_shape l o) + 1 in let fin = finish hits (table.hits_shape l line ws) in
        let g = finish_size (other_shape l o) q0 in let g1 = finish_size (form_shape l (case_tests ws o) s) p in let g2 = tests_size ws l line n rest in let g3 = finish_size (table.hits_shape l line ws) hits in
        let tail = tests_tail ws l seq frame out h p line n rest pl in
        let e : finish p (form_shape l (case_tests ws o) s) ≡ fin = omega arith in
        tests_does ws l seq frame out h p line n rest sd (whens_all ws l seq frame sd fs.0) pl c st w (run_other files top b o (with_loop l frame)) hits fin tail.1.2 (omega arith) refl high le
        (λ q z pl1 e1 b1 k1. let gq = finish_size (other_shape l o) q in let gf = finish_size (table.hits_shape l line ws) (finish q (other_shape l o) + 1) in
        other_does o l seq frame out h q sd (other_all o l seq frame sd fs.1) pl1.0 c st z high b1 (after_move seq frame c (finish q (other_shape l o)) fin st out (run_other files top b o (with_loop l frame) z) (λ u y r. jump_to seq frame c (finish q (other_shape l o)) (size (table.hits_shape l line ws)) line fin (u ∷ st) y pl1.1.0 (omega arith) r) k1)) (subst (λ y. A seq frame c y st out (run_tests files top b ws (with_loop l frame) (run_other files top b o (with_loop l frame)) w)) e k)
    form_does (method x t f) l s seq frame out h p sd fs pl = λ c st w high le k.
        dropped seq frame c p (p + 1) (p + 1 + 1) st st st [] w out (own l s) (DefineMethod x (suc (number_of l t)) (table.on_self f)) (define_method frame (own l s) x t f w) (λ u. Done (symbol_named x)) (λ y. ⊤) pl.0 pl.1
        (method_acts f seq frame p (own l s) st w x (number_of l t) t fs) refl tt (λ u z y k1. on seq frame c (p + 1) st z (own l s) (PutObject (Sym x)) (p + 1 + 1) (symbol_named x ∷ st) z pl.2.0 refl k1)
        (subst (λ o. A seq frame c (p + 1 + 1) st out o) (ap (λ g. g w) (method_defined_same (with_loop l frame) frame s.line (own l s) refl (own_lines l frame sd.of_first s.line) x t f) ∙ defined_value frame (own l s) x t f w) k)
    form_does (class without x t) l s seq frame out h p sd fs pl = λ c st w high le k.
        on seq frame c p st w (own l s) PutNil (p + 1) (nil ∷ st) w pl.0 refl
        (answered seq frame c (p + 1) (p + 1 + 1) (nil ∷ st) st (nil ∷ []) w out (own l s) (DefineClass x (suc (number_of l t)) 0) (class_named frame (own l s) x (open_class frame (own l s) t (b t)) w) (class_named (with_loop l frame) s.line x (open_class (with_loop l frame) s.line t (run files top b t)) w) pl.2.0 pl.2.1
        (ap (λ y. answer (p + 1 + 1) st (class_named frame (own l s) x (open_class frame (own l s) y (b y)) w)) fs.1) refl
        (ap (λ f. f w) (class_named_same (with_loop l frame) frame s.line (own l s) refl (own_lines l frame sd.of_first s.line) x _ _ (λ i n. open_same (with_loop l frame) frame s.line (own l s) refl (own_lines l frame sd.of_first s.line) t (run files top b t) n i)) ∙ named_fixed frame (own l s) t x w le.turns) k)
    form_does (class (with e) x t) l s seq frame out h p sd fs pl = λ c st w high le k.
        let p1 = finish p (shape l e) in
        tree_then seq frame out (h + 0) p p1 (p1 + 1) l e (tree_does e l seq frame out (h + 0) p sd fs.0 pl.0) c st [] st w (λ v. class_below (with_loop l frame) s.line x v (open_class (with_loop l frame) s.line t (run files top b t))) high (omega arith) refl le
        (λ v z b1 k1. answered seq frame c p1 (p1 + 1) (v ∷ st) st (v ∷ []) z out (own l s) (DefineClass x (suc (number_of l t)) 1) (class_below frame (own l s) x v (open_class frame (own l s) t (b t)) z) (class_below (with_loop l frame) s.line x v (open_class (with_loop l frame) s.line t (run files top b t)) z) pl.1.0 pl.1.1
        (ap (λ y. answer (p1 + 1) st (class_below frame (own l s) x v (open_class frame (own l s) y (b y)) z)) fs.1) refl
        (ap (λ f. f z) (class_below_same (with_loop l frame) frame s.line (own l s) refl (own_lines l frame sd.of_first s.line) x v _ _ (λ i n. open_same (with_loop l frame) frame s.line (own l s) refl (own_lines l frame sd.of_first s.line) t (run files top b t) n i)) ∙ below_fixed frame (own l s) t x v z b1.turns) k1) k
    form_does (module_named x t) l s seq frame out h p sd fs pl = λ c st w high le k.
        on seq frame c p st w (own l s) PutNil (p + 1) (nil ∷ st) w pl.0 refl
        (answered seq frame c (p + 1) (p + 1 + 1) (nil ∷ st) st (nil ∷ []) w out (own l s) (DefineClass x (suc (number_of l t)) 2) (module_of_name frame (own l s) x (open_class frame (own l s) t (b t)) w) (module_of_name (with_loop l frame) s.line x (open_class (with_loop l frame) s.line t (run files top b t)) w) pl.2.0 pl.2.1
        (ap (λ y. answer (p + 1 + 1) st (module_of_name frame (own l s) x (open_class frame (own l s) y (b y)) w)) fs) refl
        (ap (λ f. f w) (module_same (with_loop l frame) frame s.line (own l s) refl (own_lines l frame sd.of_first s.line) x _ _ (λ i n. open_same (with_loop l frame) frame s.line (own l s) refl (own_lines l frame sd.of_first s.line) t (run files top b t) n i)) ∙ module_fixed frame (own l s) t x w le.turns) k)
    form_does (rescue_sequence cs) l s seq frame out h p sd fs pl = absurd fs
    form_does (ensure_sequence a) l s seq frame out h p sd fs pl = absurd fs
    form_does (body ps t) l s seq frame out h p sd fs pl = absurd fs

    rescue_part : (e : Tree) (l : Where) (frame : Frame) (v : Value) (z : World) → StandsIn l frame → FindsRescue seqs bodies (in_rescue l e) e → G l frame z
        → Runs files b seqs bodies (part_routine (in_rescue l e) kinds.Rescue e) (rescue_frame (part_routine (in_rescue l e) kinds.Rescue e) frame v) 0 (v ∷ []) (enter frame.code.source (place_of e) z) (run files top b e (handling (with_loop l frame) v) z)
    rescue_part (at s f) l frame v z sd fs le = rescue_form f (in_rescue l (at s f)) s frame v z refl (record { of_first = refl; of_path = sd.of_path; of_places = sd.of_places; of_body = sd.of_body }) fs le

    rescue_form : (f : Form) (l : Where) (s : SourcePosition) (frame : Frame) (v : Value) (z : World) → l.clause ≡ true → StandsIn l (in_sequence s.first (handling frame v)) → FindsRescueForm seqs bodies l f → G l frame z
        → Runs files b seqs bodies (part_routine l kinds.Rescue (at s f)) (in_sequence s.first (handling frame v)) 0 (v ∷ []) (enter frame.code.source s.place z) (run_form files top b f s (handling (with_loop l frame) v) z)
    rescue_form (rescue_sequence cs) l s frame v z in_clause sd fs le =
        let seq : Routine = part_routine l kinds.Rescue (at s (rescue_sequence cs)) in let fr : Frame = in_sequence s.first (handling frame v) in let z1 : World = enter frame.code.source s.place z in
        let line = own l s in
        let c : Outcome = run_clauses files top b cs (with_loop l fr) s.line z1 in let n = size (clauses_shape l cs line 0 done) in
        let pl = placed (form_shape l (rescue_sequence cs) s) 1 in
        let tail = clauses_tail seq.body.code seq.body.rows [] 1 cs l 0 line 0 (op line (Throw 0) (bodies_shape l cs line)) pl in
        clauses_does cs l seq fr 0 s.line 0 (op line (Throw 0) (bodies_shape l cs line)) (0 + n + 1) sd (clauses_all cs l seq fr sd fs) pl tail.2 c z1 (omega arith) (ready_entered l.sight.scopes frame fr top frame.code.source s.place z refl le)
        (λ q y pl1 e1. left_with files b seqs bodies seq fr c q (fr.handled ∷ []) y (Raise fr.handled y) (here files b seqs bodies seq fr c q (fr.handled ∷ []) y line (Throw 0) pl1.0) e1) refl
    rescue_form f l s frame v z in_clause sd fs le = absurd fs

    ensure_part : (e : Tree) (l : Where) (frame : Frame) (z : World) → StandsIn l frame → FindsEnsure seqs bodies (in_ensure l e) e → G l frame z
        → Runs files b seqs bodies (part_routine (in_ensure l e) kinds.Ensure e) (ensure_frame (part_routine (in_ensure l e) kinds.Ensure e) frame) 0 [] (enter frame.code.source (place_of e) z) (emptied (run_it l frame e z))
    ensure_part (at s f) l frame z sd fs le = ensure_form f (in_ensure l (at s f)) s frame z refl (record { of_first = refl; of_path = sd.of_path; of_places = sd.of_places; of_body = sd.of_body }) fs le

    ensure_form : (f : Form) (l : Where) (s : SourcePosition) (frame : Frame) (z : World) → l.clause ≡ false → StandsIn l (in_sequence s.first frame) → FindsEnsureForm seqs bodies l f → G l frame z
        → Runs files b seqs bodies (part_routine l kinds.Ensure (at s f)) (in_sequence s.first frame) 0 [] (enter frame.code.source s.place z) (emptied (run_form files top b f s (with_loop l frame) z))
    ensure_form (ensure_sequence a) l s frame z no_exception sd fs le =
        let seq : Routine = part_routine l kinds.Ensure (at s (ensure_sequence a)) in let fr : Frame = in_sequence s.first frame in let z1 : World = enter frame.code.source s.place z in
        let line = own l s in
        let c : Outcome = emptied (run_it l fr a z1) in let p1 = finish 0 (shape l a) in
        let pl = placed (form_shape l (ensure_sequence a) s) 0 in
        tree_does a l seq fr [] 0 0 sd fs pl.0 c [] z1 (record { tall = refl; bottom = λ y. absurd (let e : true ≡ false = sym y ∙ no_exception in cc e) }) (ready_entered l.sight.scopes frame fr top frame.code.source s.place z refl le)
        (emptied_then files b seqs bodies seq fr c p1 [] (run_it l fr a z1) refl (λ v y e1. on seq fr c p1 (v ∷ []) y line Pop (p1 + 1) [] y pl.1.0 refl
        (left_with files b seqs bodies seq fr c (p1 + 1) [] y (Done nil y) (here files b seqs bodies seq fr c (p1 + 1) [] y line (Throw 0) pl.1.2.0) e1)))
    ensure_form f l s frame z no_exception sd fs le = absurd fs

    trees_all : (ts : Trees) (l : Where) (seq : Routine) (frame : Frame) → StandsIn l frame → FindsTrees seqs bodies l ts → TS l seq frame ts
    trees_all no_more l seq frame sd fs = tt
    trees_all (more t ts) l seq frame sd fs = (λ out h p pl. tree_does t l seq frame out h p sd fs.0 pl, trees_all ts l seq frame sd fs.1)

    other_all : (o : Other) (l : Where) (seq : Routine) (frame : Frame) → StandsIn l frame → FindsOther seqs bodies l o → TO l seq frame o
    other_all without l seq frame sd fs = tt
    other_all (with t) l seq frame sd fs = λ out h p pl. tree_does t l seq frame out h p sd fs pl

    pairs_all : (ps : Pairs) (l : Where) (seq : Routine) (frame : Frame) → StandsIn l frame → FindsPairs seqs bodies l ps → TP l seq frame ps
    pairs_all no_pair l seq frame sd fs = tt
    pairs_all (pair t u ps) l seq frame sd fs = (λ out h p pl. tree_does t l seq frame out h p sd fs.0 pl, λ out h p pl. tree_does u l seq frame out h p sd fs.1 pl, pairs_all ps l seq frame sd fs.2)

    clauses_all : (cs : Rescues) (l : Where) (seq : Routine) (frame : Frame) → StandsIn l frame → FindsClauses seqs bodies l cs → TC l seq frame cs
    clauses_all no_clause l seq frame sd fs = tt
    clauses_all (clause ts x t cs) l seq frame sd fs = (trees_all ts l seq frame sd fs.0, fs.1, λ out h p pl. tree_does t l seq frame out h p sd fs.2 pl, clauses_all cs l seq frame sd fs.3)

    pieces_all : (ps : Pieces) (l : Where) (seq : Routine) (frame : Frame) → StandsIn l frame → FindsPieces seqs bodies l ps → TPc l seq frame ps
    pieces_all no_piece l seq frame sd fs = tt
    pieces_all (plain_piece x ps) l seq frame sd fs = pieces_all ps l seq frame sd fs
    pieces_all (code_piece t ps) l seq frame sd fs = (λ out h p pl. tree_does t l seq frame out h p sd fs.0 pl, pieces_all ps l seq frame sd fs.1)

    whens_all : (ws : Whens) (l : Where) (seq : Routine) (frame : Frame) → StandsIn l frame → FindsWhens seqs bodies l ws → TW l seq frame ws
    whens_all no_when l seq frame sd fs = tt
    whens_all (when ts t ws) l seq frame sd fs = (trees_all ts l seq frame sd fs.0, λ out h p pl. tree_does t l seq frame out h p sd fs.1 pl, whens_all ws l seq frame sd fs.2)
