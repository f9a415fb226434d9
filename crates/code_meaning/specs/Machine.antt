-- What the code of one sequence does in one frame. Calls go through `b`, so that no other frame appears.
use Rattle.std.specs.Prelude.{◌≡◌, ℕ, zero, suc, ◌+◌, ◌-◌, ◌/◌, ◌%◌, Bool, true, false, not, nat_eq, nat_lt, List, [], ◌∷◌, ◌++◌, length, drop, Option, Some, None, slice_get, codes}
use Rattle.ruby_tree.specs.Names.{Bytes}
use Rattle.ruby_tree.specs.Tree.{Tree, to_instance, to_global, to_constant}
use Rattle.iseq_types.specs.declared.instructions.Instr.{Instr}
use Rattle.iseq_types.specs.declared.instructions.Instr.TheVariants.{Nop, Pop, Dup, Swap, TopN, SetN, AdjustStack, PutNil, PutSelf, PutObject, PutString, GetLocal, SetLocal, GetInstanceVariable, SetInstanceVariable, GetGlobal, SetGlobal, SetConstant, OptGetConstantPath, NewArray, NewHash, NewRange, ConcatStrings, ObjToString, AnyToString, Send, InvokeSuper, InvokeBlock, DefineMethod, DefineClass, CheckMatch, Jump, BranchIf, BranchUnless, BranchNil, Throw, Leave, ExpandArray}
use Rattle.iseq_types.specs.declared.instructions.Literal.{Literal}
use Rattle.iseq_types.specs.declared.instructions.Literal.TheVariants.{True, False, Int, Sym}
use Rattle.iseq_types.specs.declared.sequences.CatchKind.{CatchKind}
use Rattle.iseq_types.specs.declared.sequences.CatchKind as catches
use Rattle.iseq_types.specs.declared.sequences.CatchRow.{CatchRow}
use Rattle.iseq_types.specs.declared.sequences.Line.{Line}
use Rattle.iseq_types.specs.declared.sequences.SeqKind.{SeqKind}
use Rattle.iseq_types.specs.declared.sequences.SeqKind as kinds
use Rattle.ruby_meaning.specs.Value.{Value, nil, yes, no, number, symbol_named, object}
use Rattle.ruby_meaning.specs.Numbers.{object_class}
use Rattle.ruby_meaning.specs.Store.{is_true}
use Rattle.ruby_meaning.specs.World.{Given, no_block, literal_block, Running, World, Frame, Target, to_loop, Outcome, Done, Raise, Break, Next, Return, Retry, Spent, Full, Run}
use Rattle.ruby_meaning.specs.Steps.{reading, changing, make_string, is_call}
use Rattle.ruby_meaning.specs.Calls.{with_entry, spread, variable_of, no_method}
use Rattle.ruby_meaning.specs.Blocks.{run_given}
use Rattle.ruby_meaning.specs.Files.{Files}
use Rattle.ruby_meaning.specs.Invoke.{send_to}
use Rattle.ruby_meaning.specs.Definitions.{read_global, set_goal, path_from, path_around, closure_here, with_closure, define_method}
use Rattle.ruby_meaning.specs.ClassBodies.{open_class, class_below, class_named, module_of_name}
use Rattle.ruby_meaning.specs.Parts.{make_array, make_hash, make_range, make_joined, piece_of, parts_of, leave_home, leave_block, given_value, match_class, in_sequence, handling}
use Rattle.ruby_meaning.specs.Evaluation.{send_with, super_with}
use Rattle.code_meaning.specs.Code.{Routine, rows_at}
use Rattle.code_meaning.specs.Slots.{read_slot, set_slot}

-- What an instruction does: the frame goes on at a place with a stack, or an outcome is pending there, or the sequence is left.
pub data Step : Type 0 where
  goes : ℕ → List Value → World → Step
  pends : Outcome → Step
  -- pending for the rows behind the first, which is the call's own
  pends_behind : Outcome → Step
  ends : Outcome → Step
  stuck : Step

-- a value is pushed, and all else is pending
abbrev pub answer : ℕ → List Value → Outcome → Step
answer p st (Done v w) = goes p (v ∷ st) w
answer p st (Raise v w) = pends (Raise v w)
answer p st (Break t v w) = pends (Break t v w)
answer p st (Next v w) = pends (Next v w)
answer p st (Return n v w) = pends (Return n v w)
answer p st (Retry w) = pends (Retry w)
answer p st (Spent w) = pends (Spent w)
answer p st (Full w) = pends (Full w)

-- the value is dropped
abbrev pub drops : ℕ → List Value → Outcome → Step
drops p st (Done v w) = goes p st w
drops p st (Raise v w) = pends (Raise v w)
drops p st (Break t v w) = pends (Break t v w)
drops p st (Next v w) = pends (Next v w)
drops p st (Return n v w) = pends (Return n v w)
drops p st (Retry w) = pends (Retry w)
drops p st (Spent w) = pends (Spent w)
drops p st (Full w) = pends (Full w)

-- a turn is paid on the way back
abbrev pub back : ℕ → ℕ → List Value → World → Step
back zero t st w = pends (Spent w)
back (suc n) t st w = goes t st (record w { turns = n })

abbrev pub leap_if : Bool → ℕ → List Value → World → Step
leap_if true t st w = goes t st w
leap_if false t st w = back w.turns t st w

-- goes from a place to another, and pays a turn where that one does not stand behind it
abbrev pub leap : ℕ → ℕ → List Value → World → Step
leap p t st w = leap_if (nat_lt p t) t st w

abbrev pub branch : Bool → ℕ → ℕ → List Value → World → Step
branch true p t st w = leap p t st w
branch false p t st w = goes (p + 1) st w

abbrev pub with_top : List Value → (Value → List Value → Step) → Step
with_top [] go = stuck
with_top (v ∷ st) go = go v st

-- takes so many values off the stack, the last one first, in front of these
abbrev pub with_args : ℕ → List Value → List Value → (List Value → List Value → Step) → Step
with_args zero vs st go = go vs st
with_args (suc n) vs [] go = stuck
with_args (suc n) vs (v ∷ st) go = with_args n (v ∷ vs) st go

-- the value in the place of the one that stands so far below the top
abbrev pub put_at : ℕ → Value → List Value → List Value
put_at n v [] = []
put_at zero v (u ∷ st) = v ∷ st
put_at (suc n) v (u ∷ st) = u ∷ put_at n v st

abbrev pub with_item : ℕ → List Value → (Value → Step) → Step
with_item n [] go = stuck
with_item zero (v ∷ st) go = go v
with_item (suc n) (v ∷ st) go = with_item n st go

abbrev pub with_value : Bool → List Value → (Option Value → List Value → Step) → Step
with_value false st go = go None st
with_value true [] go = stuck
with_value true (v ∷ st) go = go (Some v) st

abbrev pub literal_value : Literal → Value
literal_value True = yes
literal_value False = no
literal_value (Int i) = number i
literal_value (Sym x) = symbol_named x

abbrev pub is_nil : Value → Bool
is_nil nil = true
is_nil v = false

-- whether the flags say that a block value stands on top, and that the name stands alone
abbrev pub is_valued : ℕ → Bool
is_valued flags = nat_eq (flags / 2 % 2) 1

abbrev pub is_bare : ℕ → Bool
is_bare flags = nat_eq (flags / 4 % 2) 1

-- keys and values in turn, as pairs
abbrev pub pairs_of : List Value → List (Value × Value)
pairs_of (k ∷ v ∷ vs) = (k, v) ∷ pairs_of vs
pairs_of vs = []

-- the first so many, nil for those that there are not
abbrev pub first_values : ℕ → List Value → List Value
first_values zero vs = []
first_values (suc n) [] = nil ∷ first_values n []
first_values (suc n) (v ∷ vs) = v ∷ first_values n vs

-- A call with a literal block: the row that is its own takes the breaks to this call, and nothing else.
abbrev pub break_by : Bool → Target → Value → World → Step
break_by true t v w = pends (Break to_loop v w)
break_by false t v w = pends_behind (Break t v w)

abbrev pub block_answer : ℕ → ℕ → List Value → Outcome → Step
block_answer k p st (Done v w) = goes p (v ∷ st) w
block_answer k p st (Raise v w) = pends_behind (Raise v w)
block_answer k p st (Break t v w) = break_by (is_call k t) t v w
block_answer k p st (Next v w) = pends_behind (Next v w)
block_answer k p st (Return n v w) = pends_behind (Return n v w)
block_answer k p st (Retry w) = pends_behind (Retry w)
block_answer k p st (Spent w) = pends_behind (Spent w)
block_answer k p st (Full w) = pends_behind (Full w)

-- a call with the literal block q, plus 1, which is the closure k
abbrev pub call_answer : ℕ → ℕ → ℕ → List Value → Outcome → Step
call_answer zero k p st o = answer p st o
call_answer (suc q) k p st o = block_answer k p st o

abbrev pub literal_given : Frame → Tree → (Frame → Given → Run) → Run
literal_given frame t go =
    reading (λ w. length w.closures) (λ k.
    changing (with_closure (closure_here frame t))
    (go (record frame { calling = k ∷ frame.calling }) (literal_block k)))

-- the block value, or what stands for it
abbrev pub value_given : Frame → ℕ → Given → Option Value → (Given → Run) → Run
value_given frame line given None go = go given
value_given frame line given (Some v) go = given_value frame line v go

-- what an outcome that is pending finds in a row
pub data Meet : Type 0 where
  passes : Meet
  lands : Value → World → Meet
  rescues : Value → World → Meet
  ensures : World → Meet

abbrev pub meet_kind : CatchKind → Outcome → Meet
meet_kind catches.TheVariants.Rescue (Raise v w) = rescues v w
meet_kind catches.TheVariants.Rescue o = passes
meet_kind catches.TheVariants.Ensure (Done v w) = ensures w
meet_kind catches.TheVariants.Ensure (Raise v w) = ensures w
meet_kind catches.TheVariants.Ensure (Break t v w) = ensures w
meet_kind catches.TheVariants.Ensure (Next v w) = ensures w
meet_kind catches.TheVariants.Ensure (Return n v w) = ensures w
meet_kind catches.TheVariants.Ensure (Retry w) = ensures w
meet_kind catches.TheVariants.Ensure (Spent w) = passes
meet_kind catches.TheVariants.Ensure (Full w) = passes
meet_kind catches.TheVariants.Break (Break to_loop v w) = lands v w
meet_kind catches.TheVariants.Break o = passes
meet_kind catches.TheVariants.Next (Next v w) = lands v w
meet_kind catches.TheVariants.Next o = passes

abbrev pub meet : CatchRow → Outcome → Meet
meet r o = meet_kind r.kind o

-- the stack down to this depth
abbrev pub cut : ℕ → List Value → List Value
cut h st = drop (length st - h) st

-- how a rescue part that has ended goes on
abbrev pub after_rescue : CatchRow → List Value → Outcome → Step
after_rescue r st (Done v w) = goes r.cont (v ∷ cut r.sp st) w
after_rescue r st (Raise v w) = pends (Raise v w)
after_rescue r st (Break t v w) = pends (Break t v w)
after_rescue r st (Next v w) = pends (Next v w)
after_rescue r st (Return n v w) = pends (Return n v w)
after_rescue r st (Retry w) = back w.turns r.from (cut r.sp st) w
after_rescue r st (Spent w) = pends (Spent w)
after_rescue r st (Full w) = pends (Full w)

-- what was pending goes on behind an ensure part
abbrev pub resumed : CatchRow → List Value → Outcome → World → Step
resumed r st (Done v w) z = goes r.cont (v ∷ cut r.sp st) z
resumed r st (Raise v w) z = pends (Raise v z)
resumed r st (Break t v w) z = pends (Break t v z)
resumed r st (Next v w) z = pends (Next v z)
resumed r st (Return n v w) z = pends (Return n v z)
resumed r st (Retry w) z = pends (Retry z)
resumed r st (Spent w) z = pends (Spent z)
resumed r st (Full w) z = pends (Full z)

abbrev pub after_ensure : CatchRow → List Value → Outcome → Outcome → Step
after_ensure r st o (Done u z) = resumed r st o z
after_ensure r st o (Raise v w) = pends (Raise v w)
after_ensure r st o (Break t v w) = pends (Break t v w)
after_ensure r st o (Next v w) = pends (Next v w)
after_ensure r st o (Return n v w) = pends (Return n v w)
after_ensure r st o (Retry w) = pends (Retry w)
after_ensure r st o (Spent w) = pends (Spent w)
after_ensure r st o (Full w) = pends (Full w)

abbrev pub rescue_frame : Routine → Frame → Value → Frame
rescue_frame seq frame v = in_sequence seq.body.first_line (handling frame v)

abbrev pub ensure_frame : Routine → Frame → Frame
ensure_frame seq frame = in_sequence seq.body.first_line frame

abbrev pub entered_in : Option ℕ → ℕ → World → World
entered_in None q w = w
entered_in (Some load) q w = with_entry load q w

-- the sequence of this number is entered
abbrev pub entered_at : ℕ → Frame → World → World
entered_at q frame w = entered_in frame.code.source.load q w

-- files: what is loaded; b: what a body does that a turn was paid for; seqs and bodies: the sequences by their numbers, and the trees of those that
-- are bodies
module _ (files : Files) (b : Tree → Frame → Run) (seqs : ℕ → Routine) (bodies : ℕ → Tree) where
  abbrev pub block_given : ℕ → Frame → Given → (Frame → Given → Run) → Run
  block_given zero frame given go = go frame given
  block_given (suc q) frame given go = literal_given frame (bodies q) go

  -- a call that was given a block, or none
  abbrev pub sent : ℕ → Frame → ℕ → Value → Bytes → List ℕ → List Value → Bool → Option Value → Run
  sent q frame l self x ks vs bare v = value_given frame l no_block v (λ given. block_given q frame given (send_with files 0 b frame l self x ks vs bare))

  abbrev pub super_to_method : Option Running → ℕ → Frame → ℕ → List Value → Given → Run
  super_to_method None q frame l vs given = no_method frame l frame.self_value [] false
  super_to_method (Some r) q frame l vs given = block_given q frame given (super_with files 0 b l vs given r)

  -- a call of the method above, with the running method's block where it is given none
  abbrev pub super_sent : ℕ → Frame → ℕ → List ℕ → List Value → Option Value → Run
  super_sent q frame l ks vs v = value_given frame l frame.block v (λ given. reading (spread ks vs) (λ us. super_to_method frame.method q frame l us given))

  -- the names of a path: the first is looked for where the frame stands, behind Object, or behind the value on the stack
  abbrev pub path_by : ℕ → Frame → ℕ → ℕ → List Value → World → List Bytes → Step
  path_by zero frame l p st w xs = answer (p + 1) st (path_around frame l xs w)
  path_by (suc zero) frame l p st w xs = answer (p + 1) st (path_from frame l xs (object object_class) w)
  path_by (suc (suc zero)) frame l p st w xs = with_top st (λ v rest. answer (p + 1) rest (path_from frame l xs v w))
  path_by n frame l p st w xs = stuck

  -- a method is defined whose body is the sequence of this number, less 1
  abbrev pub method_by : ℕ → Frame → ℕ → ℕ → List Value → World → Bytes → Bool → Step
  method_by zero frame l p st w x on_self = stuck
  method_by (suc q) frame l p st w x on_self = drops (p + 1) st (define_method frame l x (bodies q) on_self w)

  -- a class or a module is opened whose body is the sequence of this number, less 1: a class, a class below this value, or a module
  abbrev pub opened : ℕ → Frame → ℕ → ℕ → Run
  opened q frame l = open_class frame l (bodies q) (b (bodies q))

  abbrev pub class_by : ℕ → ℕ → Frame → ℕ → ℕ → List Value → World → Bytes → Value → Step
  class_by (suc q) zero frame l p st w x v = answer (p + 1) st (class_named frame l x (opened q frame l) w)
  class_by (suc q) (suc zero) frame l p st w x v = answer (p + 1) st (class_below frame l x v (opened q frame l) w)
  class_by (suc q) (suc (suc zero)) frame l p st w x v = answer (p + 1) st (module_of_name frame l x (opened q frame l) w)
  class_by q n frame l p st w x v = stuck

  -- goes on with what was pending: in a rescue part the exception, in an ensure part what the frame below has
  abbrev pub goes_on_pending : SeqKind → Frame → World → Step
  goes_on_pending kinds.TheVariants.Rescue frame w = ends (Raise frame.handled w)
  goes_on_pending kinds.TheVariants.Ensure frame w = ends (Done nil w)
  goes_on_pending kind frame w = stuck

  -- by the number less 1: return; break and next of a loop; break and next of a block; the end of an ensured part; retry
  abbrev pub thrown_with : ℕ → Frame → ℕ → ℕ → List Value → World → Value → Step
  thrown_with zero frame l p st w v = answer (p + 1) st (leave_home frame l v w)
  thrown_with (suc zero) frame l p st w v = pends (Break to_loop v w)
  thrown_with (suc (suc zero)) frame l p st w v = pends (Next v w)
  thrown_with (suc (suc (suc zero))) frame l p st w v = answer (p + 1) st (leave_block frame.in_block frame l v w)
  thrown_with (suc (suc (suc (suc zero)))) frame l p st w v = pends (Next v w)
  thrown_with (suc (suc (suc (suc (suc zero))))) frame l p st w v = pends (Done v w)
  thrown_with (suc (suc (suc (suc (suc (suc zero)))))) frame l p st w v = pends (Retry w)
  thrown_with n frame l p st w v = stuck

  abbrev pub thrown_at : ℕ → SeqKind → Frame → ℕ → ℕ → List Value → World → Step
  thrown_at zero kind frame l p st w = goes_on_pending kind frame w
  thrown_at (suc n) kind frame l p st w = with_top st (λ v rest. thrown_with n frame l p rest w v)

  -- What an instruction does at a place with a stack, in a world, at a line.
  abbrev pub act : SeqKind → Frame → ℕ → List Value → World → ℕ → Instr → Step
  act kind frame p st w l Nop = goes (p + 1) st w
  act kind frame p st w l Pop = with_top st (λ v rest. goes (p + 1) rest w)
  act kind frame p st w l Dup = with_top st (λ v rest. goes (p + 1) (v ∷ (v ∷ rest)) w)
  act kind frame p st w l Swap = with_top st (λ v st1. with_top st1 (λ u rest. goes (p + 1) (u ∷ (v ∷ rest)) w))
  act kind frame p st w l (TopN n) = with_item n st (λ v. goes (p + 1) (v ∷ st) w)
  act kind frame p st w l (SetN n) = with_top st (λ v rest. with_item n st (λ u. goes (p + 1) (put_at n v st) w))
  act kind frame p st w l (AdjustStack n) = with_args n [] st (λ vs rest. goes (p + 1) rest w)
  act kind frame p st w l PutNil = goes (p + 1) (nil ∷ st) w
  act kind frame p st w l PutSelf = goes (p + 1) (frame.self_value ∷ st) w
  act kind frame p st w l (PutObject x) = goes (p + 1) (literal_value x ∷ st) w
  act kind frame p st w l (PutString x) = answer (p + 1) st (make_string x (λ n. Done (object n)) w)
  act kind frame p st w l (GetLocal slot level) = goes (p + 1) (read_slot frame slot level w ∷ st) w
  act kind frame p st w l (SetLocal slot level) = with_top st (λ v rest. goes (p + 1) rest (set_slot frame slot level v w))
  act kind frame p st w l (GetInstanceVariable x) = goes (p + 1) (variable_of frame.self_value x w ∷ st) w
  act kind frame p st w l (SetInstanceVariable x) = with_top st (λ v rest. drops (p + 1) rest (set_goal frame l (to_instance x) v w))
  act kind frame p st w l (GetGlobal x) = goes (p + 1) (read_global x w ∷ st) w
  act kind frame p st w l (SetGlobal x) = with_top st (λ v rest. drops (p + 1) rest (set_goal frame l (to_global x) v w))
  act kind frame p st w l (SetConstant x) = with_top st (λ v rest. drops (p + 1) rest (set_goal frame l (to_constant x) v w))
  act kind frame p st w l (OptGetConstantPath n xs) = path_by n frame l p st w xs
  act kind frame p st w l (NewArray n ks) = with_args n [] st (λ vs rest. answer (p + 1) rest (reading (spread ks vs) (λ us. make_array us Done) w))
  act kind frame p st w l (NewHash n) = with_args n [] st (λ vs rest. answer (p + 1) rest (make_hash (pairs_of vs) w))
  act kind frame p st w l (NewRange n) = with_top st (λ v st1. with_top st1 (λ u rest. answer (p + 1) rest (make_range frame l (nat_eq n 1) u v w)))
  act kind frame p st w l (ConcatStrings n) = with_args n [] st (λ vs rest. answer (p + 1) rest (make_joined vs w))
  act kind frame p st w l ObjToString = with_top st (λ v rest. answer (p + 1) rest (send_to files b frame l v (codes "to_s") [] w))
  act kind frame p st w l AnyToString = with_top st (λ u st1. with_top st1 (λ v rest. answer (p + 1) rest (piece_of v u w)))
  act kind frame p st w l (Send x n ks flags q) =
      with_value (is_valued flags) st (λ v st1. with_args n [] st1 (λ vs st2. with_top st2 (λ self rest.
      call_answer q (length w.closures) (p + 1) rest (sent q frame l self x ks vs (is_bare flags) v w))))
  act kind frame p st w l (InvokeSuper n ks flags q) =
      with_value (is_valued flags) st (λ v st1. with_args n [] st1 (λ vs st2. with_top st2 (λ self rest.
      call_answer q (length w.closures) (p + 1) rest (super_sent q frame l ks vs v w))))
  act kind frame p st w l (InvokeBlock n ks) = with_args n [] st (λ vs rest. answer (p + 1) rest (reading (spread ks vs) (λ us. run_given b frame l frame.block us) w))
  act kind frame p st w l (DefineMethod x q n) = method_by q frame l p st w x (nat_eq n 1)
  act kind frame p st w l (DefineClass x q n) = with_top st (λ v rest. class_by q n frame l p rest w x v)
  act kind frame p st w l CheckMatch =
      with_top st (λ c st1. with_top st1 (λ v rest. answer (p + 1) rest (match_class (handling frame v) l c (Done yes) (Done no) w)))
  act kind frame p st w l (Jump t) = leap p t st w
  act kind frame p st w l (BranchIf t) = with_top st (λ v rest. branch (is_true v) p t rest w)
  act kind frame p st w l (BranchUnless t) = with_top st (λ v rest. branch (not (is_true v)) p t rest w)
  act kind frame p st w l (BranchNil t) = with_top st (λ v rest. branch (is_nil v) p t rest w)
  act kind frame p st w l (Throw n) = thrown_at n kind frame l p st w
  act kind frame p st w l Leave = with_top st (λ v rest. ends (Done v w))
  act kind frame p st w l (ExpandArray n) = with_top st (λ v rest. goes (p + 1) (first_values n (parts_of w.objects v) ++ rest) w)

  abbrev pub act_at : SeqKind → Frame → ℕ → List Value → World → Option Line → Step
  act_at kind frame p st w None = stuck
  act_at kind frame p st w (Some x) = act kind frame p st w x.line x.instr

  abbrev pub step : Routine → Frame → ℕ → List Value → World → Step
  step seq frame p st w = act_at seq.kind frame p st w (slice_get seq.body.code p)

  mutual
    -- from a place, with a stack and a world, the sequence is left with an outcome
    pub data Runs : Routine → Frame → ℕ → List Value → World → Outcome → Type 0 where
      runs : {seq : Routine} {frame : Frame} {p : ℕ} {st : List Value} {w : World} {o : Outcome}
          → Follows seq frame (rows_at p seq.body.rows) st (step seq frame p st w) o → Runs seq frame p st w o

    -- what a step leads to, with the rows that are still to be searched
    pub data Follows : Routine → Frame → List CatchRow → List Value → Step → Outcome → Type 0 where
      moves : {seq : Routine} {frame : Frame} {rs : List CatchRow} {st : List Value} {p : ℕ} {st1 : List Value} {w : World} {o : Outcome}
          → Runs seq frame p st1 w o → Follows seq frame rs st (goes p st1 w) o
      leaves : {seq : Routine} {frame : Frame} {rs : List CatchRow} {st : List Value} {o : Outcome} → Follows seq frame rs st (ends o) o
      falls : {seq : Routine} {frame : Frame} {st : List Value} {o : Outcome} → Follows seq frame [] st (pends o) o
      behind : {seq : Routine} {frame : Frame} {r : CatchRow} {rs : List CatchRow} {st : List Value} {c o : Outcome}
          → Follows seq frame rs st (pends c) o → Follows seq frame (r ∷ rs) st (pends_behind c) o
      passing : {seq : Routine} {frame : Frame} {r : CatchRow} {rs : List CatchRow} {st : List Value} {c o : Outcome}
          → meet r c ≡ passes → Follows seq frame rs st (pends c) o → Follows seq frame (r ∷ rs) st (pends c) o
      landing : {seq : Routine} {frame : Frame} {r : CatchRow} {rs : List CatchRow} {st : List Value} {c o : Outcome} (v : Value) (w : World)
          → meet r c ≡ lands v w → Runs seq frame r.cont (v ∷ cut r.sp st) w o → Follows seq frame (r ∷ rs) st (pends c) o
      rescuing : {seq : Routine} {frame : Frame} {r : CatchRow} {rs : List CatchRow} {st : List Value} {c o : Outcome} (v : Value) (w : World) (c1 : Outcome)
          → meet r c ≡ rescues v w → Runs (seqs r.seq) (rescue_frame (seqs r.seq) frame v) 0 (v ∷ []) (entered_at r.seq frame w) c1
          → Follows seq frame rs st (after_rescue r st c1) o → Follows seq frame (r ∷ rs) st (pends c) o
      ensuring : {seq : Routine} {frame : Frame} {r : CatchRow} {rs : List CatchRow} {st : List Value} {c o : Outcome} (w : World) (c1 : Outcome)
          → meet r c ≡ ensures w → Runs (seqs r.seq) (ensure_frame (seqs r.seq) frame) 0 [] (entered_at r.seq frame w) c1
          → Follows seq frame rs st (after_ensure r st c c1) o → Follows seq frame (r ∷ rs) st (pends c) o

  -- what a run goes on with where its next row does this with what is pending
  abbrev pub Met : Routine → Frame → CatchRow → List CatchRow → List Value → Outcome → Outcome → Meet → Type 0
  Met seq frame r rs st c o passes = Follows seq frame rs st (pends c) o
  Met seq frame r rs st c o (lands v w) = Runs seq frame r.cont (v ∷ cut r.sp st) w o
  Met seq frame r rs st c o (rescues v w) =
      (c1 : Outcome) × Runs (seqs r.seq) (rescue_frame (seqs r.seq) frame v) 0 (v ∷ []) (entered_at r.seq frame w) c1 × Follows seq frame rs st (after_rescue r st c1) o
  Met seq frame r rs st c o (ensures w) =
      (c1 : Outcome) × Runs (seqs r.seq) (ensure_frame (seqs r.seq) frame) 0 [] (entered_at r.seq frame w) c1 × Follows seq frame rs st (after_ensure r st c c1) o
