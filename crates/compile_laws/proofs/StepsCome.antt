-- Which steps of a frame are calls, and what each of them comes to.
use Rattle.std.proofs.Common.{◌≡◌, ℕ, zero, suc, ◌+◌, Bool, true, false, refl, ap, ◌∙◌, List, [], ◌∷◌, length, Option, Some, None}
use Rattle.std.specs.Prelude.{nat_eq, codes, slice_get, is_some}
use Rattle.std.proofs.lemmas.Option.{same_Some}
use Rattle.ruby_tree.specs.Names.{Bytes}
use Rattle.ruby_tree.specs.Tree.{Tree}
use Rattle.iseq_types.specs.declared.instructions.Instr.{Instr}
use Rattle.iseq_types.specs.declared.instructions.Instr.TheVariants.{Nop, Pop, Dup, Swap, TopN, SetN, AdjustStack, PutNil, PutSelf, PutObject, PutString, GetLocal, SetLocal, GetInstanceVariable, SetInstanceVariable, GetGlobal, SetGlobal, SetConstant, OptGetConstantPath, NewArray, NewHash, NewRange, ConcatStrings, ObjToString, AnyToString, Send, InvokeSuper, InvokeBlock, DefineMethod, DefineClass, CheckMatch, Jump, BranchIf, BranchUnless, BranchNil, Throw, Leave, ExpandArray}
use Rattle.iseq_types.specs.declared.sequences.Line.{Line}
use Rattle.iseq_types.specs.declared.sequences.SeqKind.{SeqKind}
use Rattle.iseq_types.specs.declared.sequences.SeqKind as kinds
use Rattle.ruby_meaning.specs.Value.{Value}
use Rattle.ruby_meaning.specs.Numbers.{type_error}
use Rattle.ruby_meaning.specs.Store.{name_of_class_of}
use Rattle.ruby_meaning.specs.World.{Given, no_block, Running, World, Frame, Outcome, Run}
use Rattle.ruby_meaning.specs.Steps.{reading, raise_new}
use Rattle.ruby_meaning.specs.Calls.{spread, no_method}
use Rattle.ruby_meaning.specs.Files.{Files}
use Rattle.ruby_meaning.specs.Blocks.{run_given}
use Rattle.ruby_meaning.specs.Invoke.{run_if_found, call_method}
use Rattle.ruby_meaning.specs.ClassBodies.{open_class, class_named, class_below, module_of_name}
use Rattle.ruby_meaning.specs.Parts.{given_of, given_found, super_found, wrong_block}
use Rattle.ruby_meaning.specs.Evaluation.{send_with, super_with}
use Rattle.code_meaning.specs.Code.{at_line, Routine}
use Rattle.code_meaning.specs.Machine.{Step, stuck, answer, call_answer, with_top, with_args, with_value, is_valued, is_bare, value_given, block_given, sent, super_to_method, super_sent, path_by, method_by, class_by, goes_on_pending, thrown_with, thrown_at, act, act_at, step}
use Rattle.code_meaning.specs.Frames.{Tables}
use Rattle.compile_laws.specs.Calling.{Comes, at_once, enters, IsFresh, ComesTo, given_by, calling_frame, calling_given, calling_world, pushed, with_block_value, StepCalls, StepComes, same_step, calls_body}
use Rattle.compile_laws.proofs.CallsCome.{Some_call, ends, same_call, by_option, given_comes, class_comes, if_found_comes, call_comes}
use Rattle.compile_laws.proofs.ClassesCome.{class_named_comes, class_below_comes, module_comes}
use Rattle.compile_laws.proofs.Stack.{args_off}

module _ (files : Files) (seqs : ℕ → Routine) (bodies : ℕ → Tree) where
  -- a literal block
  pub block_given_at : (b : Tree → Frame → Run) (q : ℕ) (frame : Frame) (given : Given) (go : Frame → Given → Run) (w : World)
      → block_given files b seqs bodies q frame given go w ≡ go (calling_frame q frame w) (calling_given q given w) (calling_world bodies q frame w)
  block_given_at b zero frame given go w = refl
  block_given_at b (suc q) frame given go w = refl

  -- a block value
  pub value_read : (frame : Frame) (l : ℕ) (own given : Given) (v : Option Value) (go : Given → Run) (w : World) → given_by w.objects own v ≡ Some given → value_given frame l own v go w ≡ go given w
  value_read frame l own given None go w e = ap (λ g. go g w) (same_Some own given e)
  value_read frame l own given (Some v) go w e = ap (λ o. given_found frame l v go o w) e

  pub value_refused : (frame : Frame) (l : ℕ) (own : Given) (v : Value) (go : Given → Run) (w : World) → given_of w.objects v ≡ None
      → value_given frame l own (Some v) go w ≡ raise_new frame l type_error (wrong_block (name_of_class_of w.objects v)) w
  value_refused frame l own v go w e = ap (λ o. given_found frame l v go o w) e

  module _ (b : Tree → Frame → Run) where
    -- a send is a call of the method
    pub sent_at : (q : ℕ) (frame : Frame) (l : ℕ) (self : Value) (x : Bytes) (ks : List ℕ) (vs : List Value) (bare : Bool) (v : Option Value) (given : Given) (w : World) → given_by w.objects no_block v ≡ Some given
        → sent files b seqs bodies q frame l self x ks vs bare v w
        ≡ call_method files b (calling_frame q frame w) l self x (spread ks vs (calling_world bodies q frame w)) (calling_given q given w) bare (calling_world bodies q frame w)
    sent_at q frame l self x ks vs bare v given w e =
        value_read frame l no_block given v (λ g. block_given files b seqs bodies q frame g (send_with files 0 b frame l self x ks vs bare)) w e
        ∙ block_given_at b q frame given (send_with files 0 b frame l self x ks vs bare) w

    pub sent_refused : (q : ℕ) (frame : Frame) (l : ℕ) (self : Value) (x : Bytes) (ks : List ℕ) (vs : List Value) (bare : Bool) (v : Value) (w : World) → given_of w.objects v ≡ None
        → sent files b seqs bodies q frame l self x ks vs bare (Some v) w ≡ raise_new frame l type_error (wrong_block (name_of_class_of w.objects v)) w
    sent_refused q frame l self x ks vs bare v w e = value_refused frame l no_block v (λ g. block_given files b seqs bodies q frame g (send_with files 0 b frame l self x ks vs bare)) w e

    -- a super is a run of what is found above
    pub super_at : (q : ℕ) (frame : Frame) (l : ℕ) (ks : List ℕ) (vs : List Value) (v : Option Value) (r : Running) (given : Given) (w : World) → given_by w.objects frame.block v ≡ Some given → frame.method ≡ Some r
        → super_sent files b seqs bodies q frame l ks vs v w
        ≡ run_if_found files b (calling_frame q frame w) l (calling_frame q frame w).self_value r.name (spread ks vs w) (calling_given q given w) false
        (super_found (calling_frame q frame w) r (calling_world bodies q frame w)) (calling_world bodies q frame w)
    super_at q frame l ks vs v r given w e f =
        value_read frame l frame.block given v (λ g. reading (spread ks vs) (λ us. super_to_method files b seqs bodies frame.method q frame l us g)) w e
        ∙ ap (λ o. super_to_method files b seqs bodies o q frame l (spread ks vs w) given w) f
        ∙ block_given_at b q frame given (super_with files 0 b l (spread ks vs w) given r) w

    pub super_nowhere : (q : ℕ) (frame : Frame) (l : ℕ) (ks : List ℕ) (vs : List Value) (v : Option Value) (given : Given) (w : World) → given_by w.objects frame.block v ≡ Some given → frame.method ≡ None
        → super_sent files b seqs bodies q frame l ks vs v w ≡ no_method frame l frame.self_value [] false w
    super_nowhere q frame l ks vs v given w e f =
        value_read frame l frame.block given v (λ g. reading (spread ks vs) (λ us. super_to_method files b seqs bodies frame.method q frame l us g)) w e
        ∙ ap (λ o. super_to_method files b seqs bodies o q frame l (spread ks vs w) given w) f

    pub super_refused : (q : ℕ) (frame : Frame) (l : ℕ) (ks : List ℕ) (vs : List Value) (v : Value) (w : World) → given_of w.objects v ≡ None
        → super_sent files b seqs bodies q frame l ks vs (Some v) w ≡ raise_new frame l type_error (wrong_block (name_of_class_of w.objects v)) w
    super_refused q frame l ks vs v w e = value_refused frame l frame.block v (λ g. reading (spread ks vs) (λ us. super_to_method files b seqs bodies frame.method q frame l us g)) w e

    -- The instructions that call.
    module _ (seq : Routine) (frame : Frame) (p l : ℕ) (w : World) where
      abbrev S : List Value → Step
      S st = step files b seqs bodies seq frame p st w

      here : (st : List Value) (i : Instr) → slice_get seq.body.code p ≡ Some (at_line l i) → S st ≡ act files b seqs bodies seq.kind frame p st w l i
      here st i e = ap (act_at files b seqs bodies seq.kind frame p st w) e

      -- the block value and the arguments are taken off the stack
      operands_off : (t : Bool) (v : Option Value) (n : ℕ) (vs : List Value) (self : Value) (rest : List Value) (go : Option Value → List Value → Value → List Value → Step) → t ≡ is_some v → n ≡ length vs
          → with_value t (with_block_value v (pushed vs (self ∷ rest))) (λ y st1. with_args n [] st1 (λ us st2. with_top st2 (λ u st3. go y us u st3))) ≡ go v vs self rest
      operands_off t None n vs self rest go e f = ap (λ y. with_value y (pushed vs (self ∷ rest)) (λ y st1. with_args n [] st1 (λ us st2. with_top st2 (λ u st3. go y us u st3)))) e ∙ args_off vs (self ∷ rest) n (λ us st2. with_top st2 (λ u st3. go None us u st3)) f
      operands_off t (Some v) n vs self rest go e f = ap (λ y. with_value y (v ∷ pushed vs (self ∷ rest)) (λ y st1. with_args n [] st1 (λ us st2. with_top st2 (λ u st3. go y us u st3)))) e ∙ args_off vs (self ∷ rest) n (λ us st2. with_top st2 (λ u st3. go (Some v) us u st3)) f

      pub send_step : (x : Bytes) (n : ℕ) (ks : List ℕ) (flags q : ℕ) (v : Option Value) (vs : List Value) (self : Value) (rest : List Value) → slice_get seq.body.code p ≡ Some (at_line l (Send x n ks flags q)) → is_valued flags ≡ is_some v → n ≡ length vs
          → S (with_block_value v (pushed vs (self ∷ rest))) ≡ call_answer q (length w.closures) (p + 1) rest (sent files b seqs bodies q frame l self x ks vs (is_bare flags) v w)
      send_step x n ks flags q v vs self rest e f g =
          here _ (Send x n ks flags q) e ∙ operands_off (is_valued flags) v n vs self rest (λ y us u st. call_answer q (length w.closures) (p + 1) st (sent files b seqs bodies q frame l u x ks us (is_bare flags) y w)) f g

      pub super_step : (n : ℕ) (ks : List ℕ) (flags q : ℕ) (v : Option Value) (vs : List Value) (self : Value) (rest : List Value) → slice_get seq.body.code p ≡ Some (at_line l (InvokeSuper n ks flags q)) → is_valued flags ≡ is_some v → n ≡ length vs
          → S (with_block_value v (pushed vs (self ∷ rest))) ≡ call_answer q (length w.closures) (p + 1) rest (super_sent files b seqs bodies q frame l ks vs v w)
      super_step n ks flags q v vs self rest e f g =
          here _ (InvokeSuper n ks flags q) e ∙ operands_off (is_valued flags) v n vs self rest (λ y us u st. call_answer q (length w.closures) (p + 1) st (super_sent files b seqs bodies q frame l ks us y w)) f g

      pub yield_step : (n : ℕ) (ks : List ℕ) (vs rest : List Value) → slice_get seq.body.code p ≡ Some (at_line l (InvokeBlock n ks)) → n ≡ length vs
          → S (pushed vs rest) ≡ call_answer 0 (length w.closures) (p + 1) rest (run_given b frame l frame.block (spread ks vs w) w)
      yield_step n ks vs rest e f = here (pushed vs rest) (InvokeBlock n ks) e ∙ args_off vs rest n (λ us st. answer (p + 1) st (run_given b frame l frame.block (spread ks us w) w)) f

      pub text_step : (v : Value) (rest : List Value) → slice_get seq.body.code p ≡ Some (at_line l ObjToString)
          → S (v ∷ rest) ≡ call_answer 0 (length w.closures) (p + 1) rest (call_method files b frame l v (codes "to_s") [] no_block false w)
      text_step v rest e = here (v ∷ rest) ObjToString e

      pub class_step : (x : Bytes) (q : ℕ) (v : Value) (rest : List Value) → slice_get seq.body.code p ≡ Some (at_line l (DefineClass x (suc q) 0))
          → S (v ∷ rest) ≡ call_answer 0 (length w.closures) (p + 1) rest (class_named frame l x (open_class frame l (bodies q) (b (bodies q))) w)
      class_step x q v rest e = here (v ∷ rest) (DefineClass x (suc q) 0) e

      pub class_below_step : (x : Bytes) (q : ℕ) (v : Value) (rest : List Value) → slice_get seq.body.code p ≡ Some (at_line l (DefineClass x (suc q) 1))
          → S (v ∷ rest) ≡ call_answer 0 (length w.closures) (p + 1) rest (class_below frame l x v (open_class frame l (bodies q) (b (bodies q))) w)
      class_below_step x q v rest e = here (v ∷ rest) (DefineClass x (suc q) 1) e

      pub module_step : (x : Bytes) (q : ℕ) (v : Value) (rest : List Value) → slice_get seq.body.code p ≡ Some (at_line l (DefineClass x (suc q) 2))
          → S (v ∷ rest) ≡ call_answer 0 (length w.closures) (p + 1) rest (module_of_name frame l x (open_class frame l (bodies q) (b (bodies q))) w)
      module_step x q v rest e = here (v ∷ rest) (DefineClass x (suc q) 2) e

-- Each step is the same whatever bodies do, or it is a call that comes to a body.
module _ (k p : ℕ) where
  answer_comes : (q : ℕ) (rest : List Value) (call : (Tree → Frame → Run) → Outcome) → Some_call call → StepComes (λ b. call_answer q k (p + 1) rest (call b)) k p
  answer_comes q rest call s = by_comes s.0 s.1 s.2
    where
      by_comes : (c : Comes) → IsFresh c → ComesTo call c → StepComes (λ b. call_answer q k (p + 1) rest (call b)) k p
      by_comes (at_once o) f e = same_step (call_answer q k (p + 1) rest o) (λ b. ap (call_answer q k (p + 1) rest) (e b))
      by_comes (enters m t fr z) f e = calls_body q rest m t fr z f (λ b. ap (call_answer q k (p + 1) rest) (e b))

  alike : (steps : (Tree → Frame → Run) → Step) (s : Step) → ((b : Tree → Frame → Run) → steps b ≡ s) → StepComes steps k p
  alike steps s e = same_step s e

  value_off : (t : Bool) (st : List Value) (go : (Tree → Frame → Run) → Option Value → List Value → Step) → ((v : Option Value) (st1 : List Value) → StepComes (λ b. go b v st1) k p) → StepComes (λ b. with_value t st (go b)) k p
  value_off false st go each = each None st
  value_off true [] go each = same_step stuck (λ b. refl)
  value_off true (v ∷ st) go each = each (Some v) st

  top_off : (st : List Value) (go : (Tree → Frame → Run) → Value → List Value → Step) → ((v : Value) (rest : List Value) → StepComes (λ b. go b v rest) k p) → StepComes (λ b. with_top st (go b)) k p
  top_off [] go each = same_step stuck (λ b. refl)
  top_off (v ∷ rest) go each = each v rest

  all_off : (n : ℕ) (vs st : List Value) (go : (Tree → Frame → Run) → List Value → List Value → Step) → ((us rest : List Value) → StepComes (λ b. go b us rest) k p) → StepComes (λ b. with_args n vs st (go b)) k p
  all_off zero vs st go each = each vs st
  all_off (suc n) vs [] go each = same_step stuck (λ b. refl)
  all_off (suc n) vs (v ∷ st) go each = all_off n (v ∷ vs) st go each

module _ (files : Files) (seqs : ℕ → Routine) (bodies : ℕ → Tree) (frame : Frame) (p l : ℕ) (w : World) where
  sent_comes : (q : ℕ) (self : Value) (x : Bytes) (ks : List ℕ) (vs : List Value) (bare : Bool) (v : Option Value) → Some_call (λ b. sent files b seqs bodies q frame l self x ks vs bare v w)
  sent_comes q self x ks vs bare v = by_value v
    where
      given_to : (v : Option Value) (given : Given) → given_by w.objects no_block v ≡ Some given → Some_call (λ b. sent files b seqs bodies q frame l self x ks vs bare v w)
      given_to v given e =
          same_call (λ b. sent files b seqs bodies q frame l self x ks vs bare v w)
          (λ b. call_method files b (calling_frame q frame w) l self x (spread ks vs (calling_world bodies q frame w)) (calling_given q given w) bare (calling_world bodies q frame w))
          (λ b. sent_at files seqs bodies b q frame l self x ks vs bare v given w e)
          (call_comes files (calling_frame q frame w) l self x (spread ks vs (calling_world bodies q frame w)) (calling_given q given w) bare (calling_world bodies q frame w))

      by_value : (v : Option Value) → Some_call (λ b. sent files b seqs bodies q frame l self x ks vs bare v w)
      by_value None = given_to None no_block refl
      by_value (Some u) =
          by_option (given_of w.objects u) (λ e. ends _ (λ b. sent files b seqs bodies q frame l self x ks vs bare (Some u) w) (λ b. sent_refused files seqs bodies b q frame l self x ks vs bare u w e))
          (λ given e. given_to (Some u) given e)

  super_comes : (q : ℕ) (ks : List ℕ) (vs : List Value) (v : Option Value) → Some_call (λ b. super_sent files b seqs bodies q frame l ks vs v w)
  super_comes q ks vs v = by_value v
    where
      given_to : (v : Option Value) (given : Given) → given_by w.objects frame.block v ≡ Some given → Some_call (λ b. super_sent files b seqs bodies q frame l ks vs v w)
      given_to v given e =
          by_option frame.method (λ f. ends _ (λ b. super_sent files b seqs bodies q frame l ks vs v w) (λ b. super_nowhere files seqs bodies b q frame l ks vs v given w e f))
          (λ r f. same_call (λ b. super_sent files b seqs bodies q frame l ks vs v w)
          (λ b. run_if_found files b (calling_frame q frame w) l (calling_frame q frame w).self_value r.name (spread ks vs w) (calling_given q given w) false (super_found (calling_frame q frame w) r (calling_world bodies q frame w)) (calling_world bodies q frame w))
          (λ b. super_at files seqs bodies b q frame l ks vs v r given w e f)
          (if_found_comes files (calling_frame q frame w) l (calling_frame q frame w).self_value r.name (spread ks vs w) (calling_given q given w) false (super_found (calling_frame q frame w) r (calling_world bodies q frame w)) (calling_world bodies q frame w)))

      by_value : (v : Option Value) → Some_call (λ b. super_sent files b seqs bodies q frame l ks vs v w)
      by_value None = given_to None frame.block refl
      by_value (Some u) =
          by_option (given_of w.objects u) (λ e. ends _ (λ b. super_sent files b seqs bodies q frame l ks vs (Some u) w) (λ b. super_refused files seqs bodies b q frame l ks vs u w e))
          (λ given e. given_to (Some u) given e)

  abbrev C : ((Tree → Frame → Run) → Step) → Type 0
  C steps = StepComes steps (length w.closures) p

  abbrev k : ℕ
  k = length w.closures

  abbrev body_opened : ℕ → (Tree → Frame → Run) → ℕ → Run
  body_opened q b = open_class frame l (bodies q) (b (bodies q))

  class_by_comes : (q n : ℕ) (st : List Value) (x : Bytes) (v : Value) → C (λ b. class_by files b seqs bodies q n frame l p st w x v)
  class_by_comes zero n st x v = same_step stuck (λ b. refl)
  class_by_comes (suc q) zero st x v = answer_comes k p 0 st (λ b. class_named frame l x (open_class frame l (bodies q) (b (bodies q))) w) (class_named_comes frame l x w (body_opened q) (class_comes frame l (bodies q)))
  class_by_comes (suc q) (suc zero) st x v = answer_comes k p 0 st (λ b. class_below frame l x v (open_class frame l (bodies q) (b (bodies q))) w) (class_below_comes frame l x w (body_opened q) (class_comes frame l (bodies q)) v)
  class_by_comes (suc q) (suc (suc zero)) st x v = answer_comes k p 0 st (λ b. module_of_name frame l x (open_class frame l (bodies q) (b (bodies q))) w) (module_comes frame l x w (body_opened q) (class_comes frame l (bodies q)))
  class_by_comes (suc q) (suc (suc (suc n))) st x v = same_step stuck (λ b. refl)

  path_alike : (n : ℕ) (st : List Value) (xs : List Bytes) → C (λ b. path_by files b seqs bodies n frame l p st w xs)
  path_alike zero st xs = same_step _ (λ b. refl)
  path_alike (suc zero) st xs = same_step _ (λ b. refl)
  path_alike (suc (suc zero)) st xs = same_step _ (λ b. refl)
  path_alike (suc (suc (suc n))) st xs = same_step stuck (λ b. refl)

  method_alike : (q : ℕ) (st : List Value) (x : Bytes) (on_self : Bool) → C (λ b. method_by files b seqs bodies q frame l p st w x on_self)
  method_alike zero st x on_self = same_step stuck (λ b. refl)
  method_alike (suc q) st x on_self = same_step _ (λ b. refl)

  pending_alike : (kind : SeqKind) → C (λ b. goes_on_pending files b seqs bodies kind frame w)
  pending_alike kinds.TheVariants.Rescue = same_step _ (λ b. refl)
  pending_alike kinds.TheVariants.Ensure = same_step _ (λ b. refl)
  pending_alike kind = same_step stuck (λ b. refl)

  thrown_alike : (n : ℕ) (st : List Value) (v : Value) → C (λ b. thrown_with files b seqs bodies n frame l p st w v)
  thrown_alike zero st v = same_step _ (λ b. refl)
  thrown_alike (suc zero) st v = same_step _ (λ b. refl)
  thrown_alike (suc (suc zero)) st v = same_step _ (λ b. refl)
  thrown_alike (suc (suc (suc zero))) st v = same_step _ (λ b. refl)
  thrown_alike (suc (suc (suc (suc zero)))) st v = same_step _ (λ b. refl)
  thrown_alike (suc (suc (suc (suc (suc zero))))) st v = same_step _ (λ b. refl)
  thrown_alike (suc (suc (suc (suc (suc (suc zero)))))) st v = same_step _ (λ b. refl)
  thrown_alike (suc (suc (suc (suc (suc (suc (suc n))))))) st v = same_step stuck (λ b. refl)

  throw_alike : (n : ℕ) (kind : SeqKind) (st : List Value) → C (λ b. thrown_at files b seqs bodies n kind frame l p st w)
  throw_alike zero kind st = pending_alike kind
  throw_alike (suc n) kind st = top_off k p st (λ b v rest. thrown_with files b seqs bodies n frame l p rest w v) (λ v rest. thrown_alike n rest v)

  act_comes : (i : Instr) (kind : SeqKind) (st : List Value) → C (λ b. act files b seqs bodies kind frame p st w l i)
  act_comes (Send x n ks flags q) kind st =
      value_off k p (is_valued flags) st (λ b v st1. with_args n [] st1 (λ vs st2. with_top st2 (λ self rest. call_answer q k (p + 1) rest (sent files b seqs bodies q frame l self x ks vs (is_bare flags) v w)))) (λ v st1.
      all_off k p n [] st1 (λ b vs st2. with_top st2 (λ self rest. call_answer q k (p + 1) rest (sent files b seqs bodies q frame l self x ks vs (is_bare flags) v w))) (λ vs st2.
      top_off k p st2 (λ b self rest. call_answer q k (p + 1) rest (sent files b seqs bodies q frame l self x ks vs (is_bare flags) v w)) (λ self rest.
      answer_comes k p q rest (λ b. sent files b seqs bodies q frame l self x ks vs (is_bare flags) v w) (sent_comes q self x ks vs (is_bare flags) v))))
  act_comes (InvokeSuper n ks flags q) kind st =
      value_off k p (is_valued flags) st (λ b v st1. with_args n [] st1 (λ vs st2. with_top st2 (λ self rest. call_answer q k (p + 1) rest (super_sent files b seqs bodies q frame l ks vs v w)))) (λ v st1.
      all_off k p n [] st1 (λ b vs st2. with_top st2 (λ self rest. call_answer q k (p + 1) rest (super_sent files b seqs bodies q frame l ks vs v w))) (λ vs st2.
      top_off k p st2 (λ b self rest. call_answer q k (p + 1) rest (super_sent files b seqs bodies q frame l ks vs v w)) (λ self rest.
      answer_comes k p q rest (λ b. super_sent files b seqs bodies q frame l ks vs v w) (super_comes q ks vs v))))
  act_comes (InvokeBlock n ks) kind st =
      all_off k p n [] st (λ b vs rest. answer (p + 1) rest (run_given b frame l frame.block (spread ks vs w) w)) (λ vs rest.
      answer_comes k p 0 rest (λ b. run_given b frame l frame.block (spread ks vs w) w) (given_comes frame l frame.block (spread ks vs w) w))
  act_comes ObjToString kind st =
      top_off k p st (λ b v rest. answer (p + 1) rest (call_method files b frame l v (codes "to_s") [] no_block false w)) (λ v rest.
      answer_comes k p 0 rest (λ b. call_method files b frame l v (codes "to_s") [] no_block false w) (call_comes files frame l v (codes "to_s") [] no_block false w))
  act_comes (DefineClass x q n) kind st = top_off k p st (λ b v rest. class_by files b seqs bodies q n frame l p rest w x v) (λ v rest. class_by_comes q n rest x v)
  act_comes (OptGetConstantPath n xs) kind st = path_alike n st xs
  act_comes (DefineMethod x q n) kind st = method_alike q st x (nat_eq n 1)
  act_comes (Throw n) kind st = throw_alike n kind st
  act_comes Nop kind st = same_step _ (λ b. refl)
  act_comes Pop kind st = same_step _ (λ b. refl)
  act_comes Dup kind st = same_step _ (λ b. refl)
  act_comes Swap kind st = same_step _ (λ b. refl)
  act_comes (TopN n) kind st = same_step _ (λ b. refl)
  act_comes (SetN n) kind st = same_step _ (λ b. refl)
  act_comes (AdjustStack n) kind st = same_step _ (λ b. refl)
  act_comes PutNil kind st = same_step _ (λ b. refl)
  act_comes PutSelf kind st = same_step _ (λ b. refl)
  act_comes (PutObject x) kind st = same_step _ (λ b. refl)
  act_comes (PutString x) kind st = same_step _ (λ b. refl)
  act_comes (GetLocal slot level) kind st = same_step _ (λ b. refl)
  act_comes (SetLocal slot level) kind st = same_step _ (λ b. refl)
  act_comes (GetInstanceVariable x) kind st = same_step _ (λ b. refl)
  act_comes (SetInstanceVariable x) kind st = same_step _ (λ b. refl)
  act_comes (GetGlobal x) kind st = same_step _ (λ b. refl)
  act_comes (SetGlobal x) kind st = same_step _ (λ b. refl)
  act_comes (SetConstant x) kind st = same_step _ (λ b. refl)
  act_comes (NewArray n ks) kind st = same_step _ (λ b. refl)
  act_comes (NewHash n) kind st = same_step _ (λ b. refl)
  act_comes (NewRange n) kind st = same_step _ (λ b. refl)
  act_comes (ConcatStrings n) kind st = same_step _ (λ b. refl)
  act_comes AnyToString kind st = same_step _ (λ b. refl)
  act_comes CheckMatch kind st = same_step _ (λ b. refl)
  act_comes (Jump t) kind st = same_step _ (λ b. refl)
  act_comes (BranchIf t) kind st = same_step _ (λ b. refl)
  act_comes (BranchUnless t) kind st = same_step _ (λ b. refl)
  act_comes (BranchNil t) kind st = same_step _ (λ b. refl)
  act_comes Leave kind st = same_step _ (λ b. refl)
  act_comes (ExpandArray n) kind st = same_step _ (λ b. refl)

pub step_comes : (files : Files) (seqs : ℕ → Routine) (bodies : ℕ → Tree) (seq : Routine) (frame : Frame) (p : ℕ) (st : List Value) (w : World) → StepComes (λ b. step files b seqs bodies seq frame p st w) (length w.closures) p
step_comes files seqs bodies seq frame p st w = by_line (slice_get seq.body.code p)
  where
    by_line : (o : Option Line) → StepComes (λ b. act_at files b seqs bodies seq.kind frame p st w o) (length w.closures) p
    by_line None = same_step stuck (λ b. refl)
    by_line (Some x) = act_comes files seqs bodies frame p x.line w x.instr seq.kind st

-- The step of each instruction that calls, from what its call comes to.
module _ (files : Files) (unit : Tables) (seq : Routine) (frame : Frame) (p l : ℕ) (w : World) (c : Comes) where
  pub send_calls : (x : Bytes) (n : ℕ) (ks : List ℕ) (flags q : ℕ) (v : Option Value) (given : Given) (vs : List Value) (self : Value) (rest : List Value) → slice_get seq.body.code p ≡ Some (at_line l (Send x n ks flags q)) → is_valued flags ≡ is_some v → n ≡ length vs
      → given_by w.objects no_block v ≡ Some given
      → ComesTo (λ b. call_method files b (calling_frame q frame w) l self x (spread ks vs (calling_world unit.bodies q frame w)) (calling_given q given w) (is_bare flags) (calling_world unit.bodies q frame w)) c
      → StepCalls files unit seq frame p (with_block_value v (pushed vs (self ∷ rest))) w q rest c
  send_calls x n ks flags q v given vs self rest e f g is comes b =
      send_step files unit.seqs unit.bodies b seq frame p l w x n ks flags q v vs self rest e f g
      ∙ ap (call_answer q (length w.closures) (p + 1) rest) (sent_at files unit.seqs unit.bodies b q frame l self x ks vs (is_bare flags) v given w is ∙ comes b)

  pub super_calls : (n : ℕ) (ks : List ℕ) (flags q : ℕ) (v : Option Value) (given : Given) (r : Running) (vs : List Value) (self : Value) (rest : List Value) → slice_get seq.body.code p ≡ Some (at_line l (InvokeSuper n ks flags q)) → is_valued flags ≡ is_some v → n ≡ length vs
      → given_by w.objects frame.block v ≡ Some given → frame.method ≡ Some r
      → ComesTo (λ b. run_if_found files b (calling_frame q frame w) l (calling_frame q frame w).self_value r.name (spread ks vs w) (calling_given q given w) false (super_found (calling_frame q frame w) r (calling_world unit.bodies q frame w)) (calling_world unit.bodies q frame w)) c
      → StepCalls files unit seq frame p (with_block_value v (pushed vs (self ∷ rest))) w q rest c
  super_calls n ks flags q v given r vs self rest e f g is of comes b =
      super_step files unit.seqs unit.bodies b seq frame p l w n ks flags q v vs self rest e f g
      ∙ ap (call_answer q (length w.closures) (p + 1) rest) (super_at files unit.seqs unit.bodies b q frame l ks vs v r given w is of ∙ comes b)

  pub text_calls : (v : Value) (rest : List Value) → slice_get seq.body.code p ≡ Some (at_line l ObjToString) → ComesTo (λ b. call_method files b frame l v (codes "to_s") [] no_block false w) c → StepCalls files unit seq frame p (v ∷ rest) w 0 rest c
  text_calls v rest e comes b = text_step files unit.seqs unit.bodies b seq frame p l w v rest e ∙ ap (call_answer 0 (length w.closures) (p + 1) rest) (comes b)

  pub yield_calls : (n : ℕ) (ks : List ℕ) (vs rest : List Value) → slice_get seq.body.code p ≡ Some (at_line l (InvokeBlock n ks)) → n ≡ length vs
      → ComesTo (λ b. run_given b frame l frame.block (spread ks vs w) w) c → StepCalls files unit seq frame p (pushed vs rest) w 0 rest c
  yield_calls n ks vs rest e f comes b = yield_step files unit.seqs unit.bodies b seq frame p l w n ks vs rest e f ∙ ap (call_answer 0 (length w.closures) (p + 1) rest) (comes b)

  pub class_calls : (x : Bytes) (q : ℕ) (v : Value) (rest : List Value) → slice_get seq.body.code p ≡ Some (at_line l (DefineClass x (suc q) 0))
      → ComesTo (λ b. class_named frame l x (open_class frame l (unit.bodies q) (b (unit.bodies q))) w) c → StepCalls files unit seq frame p (v ∷ rest) w 0 rest c
  class_calls x q v rest e comes b = class_step files unit.seqs unit.bodies b seq frame p l w x q v rest e ∙ ap (call_answer 0 (length w.closures) (p + 1) rest) (comes b)

  pub class_below_calls : (x : Bytes) (q : ℕ) (v : Value) (rest : List Value) → slice_get seq.body.code p ≡ Some (at_line l (DefineClass x (suc q) 1))
      → ComesTo (λ b. class_below frame l x v (open_class frame l (unit.bodies q) (b (unit.bodies q))) w) c → StepCalls files unit seq frame p (v ∷ rest) w 0 rest c
  class_below_calls x q v rest e comes b = class_below_step files unit.seqs unit.bodies b seq frame p l w x q v rest e ∙ ap (call_answer 0 (length w.closures) (p + 1) rest) (comes b)

  pub module_calls : (x : Bytes) (q : ℕ) (v : Value) (rest : List Value) → slice_get seq.body.code p ≡ Some (at_line l (DefineClass x (suc q) 2))
      → ComesTo (λ b. module_of_name frame l x (open_class frame l (unit.bodies q) (b (unit.bodies q))) w) c → StepCalls files unit seq frame p (v ∷ rest) w 0 rest c
  module_calls x q v rest e comes b = module_step files unit.seqs unit.bodies b seq frame p l w x q v rest e ∙ ap (call_answer 0 (length w.closures) (p + 1) rest) (comes b)

-- What is refused before the call: a block value that is no block, and a super where no method runs.
module _ (files : Files) (unit : Tables) (seq : Routine) (frame : Frame) (p l : ℕ) (w : World) where
  pub send_refused : (x : Bytes) (n : ℕ) (ks : List ℕ) (flags q : ℕ) (v : Value) (vs : List Value) (self : Value) (rest : List Value) → slice_get seq.body.code p ≡ Some (at_line l (Send x n ks flags q)) → is_valued flags ≡ true → n ≡ length vs
      → given_of w.objects v ≡ None → StepCalls files unit seq frame p (v ∷ pushed vs (self ∷ rest)) w q rest (at_once (raise_new frame l type_error (wrong_block (name_of_class_of w.objects v)) w))
  send_refused x n ks flags q v vs self rest e f g wrong b =
      send_step files unit.seqs unit.bodies b seq frame p l w x n ks flags q (Some v) vs self rest e f g
      ∙ ap (call_answer q (length w.closures) (p + 1) rest) (sent_refused files unit.seqs unit.bodies b q frame l self x ks vs (is_bare flags) v w wrong)

  pub super_value_refused : (n : ℕ) (ks : List ℕ) (flags q : ℕ) (v : Value) (vs : List Value) (self : Value) (rest : List Value) → slice_get seq.body.code p ≡ Some (at_line l (InvokeSuper n ks flags q)) → is_valued flags ≡ true → n ≡ length vs
      → given_of w.objects v ≡ None → StepCalls files unit seq frame p (v ∷ pushed vs (self ∷ rest)) w q rest (at_once (raise_new frame l type_error (wrong_block (name_of_class_of w.objects v)) w))
  super_value_refused n ks flags q v vs self rest e f g wrong b =
      super_step files unit.seqs unit.bodies b seq frame p l w n ks flags q (Some v) vs self rest e f g
      ∙ ap (call_answer q (length w.closures) (p + 1) rest) (super_refused files unit.seqs unit.bodies b q frame l ks vs v w wrong)

  pub super_without_method : (n : ℕ) (ks : List ℕ) (flags q : ℕ) (v : Option Value) (given : Given) (vs : List Value) (self : Value) (rest : List Value) → slice_get seq.body.code p ≡ Some (at_line l (InvokeSuper n ks flags q)) → is_valued flags ≡ is_some v → n ≡ length vs
      → given_by w.objects frame.block v ≡ Some given → frame.method ≡ None
      → StepCalls files unit seq frame p (with_block_value v (pushed vs (self ∷ rest))) w q rest (at_once (no_method frame l frame.self_value [] false w))
  super_without_method n ks flags q v given vs self rest e f g is none b =
      super_step files unit.seqs unit.bodies b seq frame p l w n ks flags q v vs self rest e f g
      ∙ ap (call_answer q (length w.closures) (p + 1) rest) (super_nowhere files unit.seqs unit.bodies b q frame l ks vs v given w is none)
