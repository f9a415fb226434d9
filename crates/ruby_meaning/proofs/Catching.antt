-- What leaves an inner frame, as the frame around it gets it.
use Rattle.std.proofs.Common.{◌≡◌, ℕ, Bool, true, false, refl, sym, ◌∷◌, Option, Some}
use Rattle.std.specs.Prelude.{nat_eq, ◌||◌}
use Rattle.ruby_tree.specs.Names.{Bytes}
use Rattle.ruby_tree.specs.Tree.{Tree}
use Rattle.ruby_meaning.specs.Value.{Value, Code}
use Rattle.ruby_meaning.specs.Store.{is_one_of}
use Rattle.ruby_meaning.specs.World.{Home, in_file, in_method, in_class, Running, Given, Closure, World, Frame, Target, to_loop, to_call, Outcome, Done, Raise, Break, Next, Return, Retry, Spent, Full, world_of}
use Rattle.ruby_meaning.specs.Steps.{if_here, returned, gone_on, is_call, broken}
use Rattle.ruby_meaning.specs.Calls.{method_frame, block_frame}
use Rattle.ruby_meaning.specs.Loads.{file_frame}
use Rattle.ruby_meaning.specs.ClassBodies.{class_frame}
use Rattle.ruby_meaning.specs.Parts.{handling, in_sequence}
use Rattle.ruby_meaning.specs.Laws.{given, given_out, IsOver}
use Rattle.ruby_meaning.specs.RunLaws.{is_own, MayReturn, MayBreak, Allowed}
use Rattle.ruby_meaning.proofs.Truths.{false_true, or_left, or_second}
use Rattle.ruby_meaning.proofs.Relation.{Catches, moved}

-- Breaks that may leave an inner frame may leave the frame around it.
breaks_out : (e inner : Frame) → ((k : ℕ) → is_one_of k inner.calling ≡ true → is_one_of k e.calling ≡ true) → (inner.in_loop ≡ true → e.in_loop ≡ true) → (t : Target) → MayBreak inner t → MayBreak e t
breaks_out e inner calls loops to_loop h = loops h
breaks_out e inner calls loops (to_call k) h = calls k h

-- What is caught here or goes on has the same world, and the same turns more.
pub here_world : (t : Bool) (v : Value) (o : Outcome) (w : World) → world_of o ≡ w → world_of (if_here t (Done v w) o) ≡ w
here_world true v o w h = refl
here_world false v o w h = h

here_turns : (t : Bool) (i : ℕ) (v : Value) (o : Outcome) (w : World) → if_here t (Done v (given i w)) (given_out i o) ≡ given_out i (if_here t (Done v w) o)
here_turns true i v o w = refl
here_turns false i v o w = refl

-- what may leave the inner frame may leave the frame around it
record Outward (e inner : Frame) : Type 0 where
  returns : (n : ℕ) → MayReturn inner n → MayReturn e n
  calls : (k : ℕ) → is_one_of k inner.calling ≡ true → is_one_of k e.calling ≡ true
  loops : inner.in_loop ≡ true → e.in_loop ≡ true

-- The outcome as it is.

outward : (e inner : Frame) → Outward e inner → (o : Outcome) → Allowed inner o → Allowed e o
outward e inner out (Done v w) h = tt
outward e inner out (Raise v w) h = tt
outward e inner out (Break t v w) h = breaks_out e inner out.calls out.loops t h
outward e inner out (Next v w) h = tt
outward e inner out (Return n v w) h = out.returns n h
outward e inner out (Retry w) h = tt
outward e inner out (Spent w) h = h
outward e inner out (Full w) h = tt

as_it_is : (e inner : Frame) → Outward e inner → Catches e inner (λ o. o)
as_it_is e inner out = record { world = λ o. refl; allowed = outward e inner out; turns = λ k o. refl; over = λ o h. h }

pub handled_out : (frame : Frame) (v : Value) → Catches frame (handling frame v) (λ o. o)
handled_out frame v = as_it_is frame (handling frame v) (record { returns = λ n h. h; calls = λ k h. h; loops = λ h. h })

pub sequence_out : (frame : Frame) (n : ℕ) → Catches frame (in_sequence n frame) (λ o. o)
sequence_out frame n = as_it_is frame (in_sequence n frame) (record { returns = λ m h. h; calls = λ k h. h; loops = λ h. h })

-- what may leave a frame does not turn on its environment
pub moved_out : (e : Frame) (k : ℕ) → Catches e (moved e k) (λ o. o)
moved_out e k = as_it_is e (moved e k) (record { returns = λ n h. h; calls = λ i h. h; loops = λ h. h })

-- where there is no return of its own, there is one to what is running
none_own : (a b : Bool) → (a || false) ≡ true → (a || b) ≡ true
none_own true b h = refl
none_own false b h = false_true h

pub class_out : (frame : Frame) (line : ℕ) (t : Tree) (c k : ℕ) → Catches frame (class_frame frame line t c k) (λ o. o)
class_out frame line t c k = as_it_is frame (class_frame frame line t c k) (record { returns = λ n h. none_own (is_one_of n frame.running) _ h; calls = λ m h. h; loops = λ h. false_true h })

-- A return to the number of the inner frame's environment.

module _ (e inner : Frame) (k : ℕ) (returns : (n : ℕ) → nat_eq n k ≡ false → MayReturn inner n → MayReturn e n) (calls : (m : ℕ) → is_one_of m inner.calling ≡ true → is_one_of m e.calling ≡ true) (loops : inner.in_loop ≡ true → e.in_loop ≡ true) where
  returned_world : (o : Outcome) → world_of (returned k o) ≡ world_of o
  returned_world (Done v w) = refl
  returned_world (Raise v w) = refl
  returned_world (Break t v w) = refl
  returned_world (Next v w) = refl
  returned_world (Return n v w) = here_world (nat_eq n k) v (Return n v w) w refl
  returned_world (Retry w) = refl
  returned_world (Spent w) = refl
  returned_world (Full w) = refl

  return_allowed : (t : Bool) (n : ℕ) (v : Value) (w : World) → nat_eq n k ≡ t → MayReturn inner n → Allowed e (if_here t (Done v w) (Return n v w))
  return_allowed true n v w s h = tt
  return_allowed false n v w s h = returns n s h

  returned_allowed : (o : Outcome) → Allowed inner o → Allowed e (returned k o)
  returned_allowed (Done v w) h = tt
  returned_allowed (Raise v w) h = tt
  returned_allowed (Break t v w) h = breaks_out e inner calls loops t h
  returned_allowed (Next v w) h = tt
  returned_allowed (Return n v w) h = return_allowed (nat_eq n k) n v w refl h
  returned_allowed (Retry w) h = tt
  returned_allowed (Spent w) h = h
  returned_allowed (Full w) h = tt

  returned_turns : (i : ℕ) (o : Outcome) → returned k (given_out i o) ≡ given_out i (returned k o)
  returned_turns i (Done v w) = refl
  returned_turns i (Raise v w) = refl
  returned_turns i (Break t v w) = refl
  returned_turns i (Next v w) = refl
  returned_turns i (Return n v w) = here_turns (nat_eq n k) i v (Return n v w) w
  returned_turns i (Retry w) = refl
  returned_turns i (Spent w) = refl
  returned_turns i (Full w) = refl

  returned_over : (o : Outcome) → IsOver (returned k o) → IsOver o
  returned_over (Done v w) h = tt
  returned_over (Raise v w) h = tt
  returned_over (Break t v w) h = tt
  returned_over (Next v w) h = tt
  returned_over (Return n v w) h = tt
  returned_over (Retry w) h = tt
  returned_over (Spent w) h = h
  returned_over (Full w) h = tt

  return_out : Catches e inner (returned k)
  return_out = record { world = returned_world; allowed = returned_allowed; turns = returned_turns; over = returned_over }

-- a return that is not to the body's own number is to what is running around it
further : (a b : Bool) → a ≡ false → ((a || b) || a) ≡ true → b ≡ true
further a true s h = refl
further true false s h = false_true (sym s)
further false false s h = false_true h

pub method_out : (frame : Frame) (line : ℕ) (code : Code) (self : Value) (k : ℕ) (r : Running) (g : Given) (i : ℕ) → Catches frame (method_frame frame line code self k r g i) (returned k)
method_out frame line code self k r g i =
    return_out frame (method_frame frame line code self k r g i) k
    (λ n s h. or_left (is_one_of n frame.running) _ (further (nat_eq n k) (is_one_of n frame.running) s h)) (λ m h. h) (λ h. false_true h)

-- the frame e may be left to whatever is running, and by a break to whatever is called, in the other frame
pub record Within (e frame : Frame) : Type 0 where
  pub returns : (n : ℕ) → is_one_of n frame.running ≡ true → MayReturn e n
  pub calls : (k : ℕ) → is_one_of k frame.calling ≡ true → is_one_of k e.calling ≡ true

pub within_self : (frame : Frame) → Within frame frame
within_self frame = record { returns = λ n h. or_left (is_one_of n frame.running) _ h; calls = λ k h. h }

pub file_out : (e frame : Frame) → Within e frame → (code : Code) (k : ℕ) (outside : Option (Bytes × ℕ)) → Catches e (file_frame code k outside frame.running frame.calling) (returned k)
file_out e frame in_it code k outside =
    return_out e (file_frame code k outside frame.running frame.calling) k
    (λ n s h. in_it.returns n (further (nat_eq n k) (is_one_of n frame.running) s h)) in_it.calls (λ h. false_true h)

-- A next, which is the value of its block.

module _ (e inner : Frame) (out : Outward e inner) where
  gone_on_world : (o : Outcome) → world_of (gone_on o) ≡ world_of o
  gone_on_world (Done v w) = refl
  gone_on_world (Raise v w) = refl
  gone_on_world (Break t v w) = refl
  gone_on_world (Next v w) = refl
  gone_on_world (Return n v w) = refl
  gone_on_world (Retry w) = refl
  gone_on_world (Spent w) = refl
  gone_on_world (Full w) = refl

  gone_on_allowed : (o : Outcome) → Allowed inner o → Allowed e (gone_on o)
  gone_on_allowed (Done v w) h = tt
  gone_on_allowed (Raise v w) h = tt
  gone_on_allowed (Break t v w) h = breaks_out e inner out.calls out.loops t h
  gone_on_allowed (Next v w) h = tt
  gone_on_allowed (Return n v w) h = out.returns n h
  gone_on_allowed (Retry w) h = tt
  gone_on_allowed (Spent w) h = h
  gone_on_allowed (Full w) h = tt

  gone_on_turns : (i : ℕ) (o : Outcome) → gone_on (given_out i o) ≡ given_out i (gone_on o)
  gone_on_turns i (Done v w) = refl
  gone_on_turns i (Raise v w) = refl
  gone_on_turns i (Break t v w) = refl
  gone_on_turns i (Next v w) = refl
  gone_on_turns i (Return n v w) = refl
  gone_on_turns i (Retry w) = refl
  gone_on_turns i (Spent w) = refl
  gone_on_turns i (Full w) = refl

  gone_on_over : (o : Outcome) → IsOver (gone_on o) → IsOver o
  gone_on_over (Done v w) h = tt
  gone_on_over (Raise v w) h = tt
  gone_on_over (Break t v w) h = tt
  gone_on_over (Next v w) h = tt
  gone_on_over (Return n v w) h = tt
  gone_on_over (Retry w) h = tt
  gone_on_over (Spent w) h = h
  gone_on_over (Full w) h = tt

  next_out : Catches e inner gone_on
  next_out = record { world = gone_on_world; allowed = gone_on_allowed; turns = gone_on_turns; over = gone_on_over }

-- in a block no return is the block's own
not_own : (running : Bool) (home : Home) (k i : ℕ) → (running || is_own home (Some k) i) ≡ true → (running || false) ≡ true
not_own running (in_file j) k i h = h
not_own running (in_method j) k i h = h
not_own running in_class k i h = h

pub block_out : (frame : Frame) (m line : ℕ) (c : Closure) (k n : ℕ) → Catches (moved frame m) (block_frame frame line c k n) gone_on
block_out frame m line c k n =
    next_out (moved frame m) (block_frame frame line c k n)
    (record { returns = λ i h. none_own (is_one_of i frame.running) _ (not_own (is_one_of i frame.running) c.home k i h); calls = λ i h. h; loops = λ h. false_true h })

-- A break to the call that was given this block.

module _ (frame : Frame) (k : ℕ) where
  abbrev inside : Frame
  inside = record frame { calling = k ∷ frame.calling }

  broken_world : (o : Outcome) → world_of (broken k o) ≡ world_of o
  broken_world (Done v w) = refl
  broken_world (Raise v w) = refl
  broken_world (Break t v w) = here_world (is_call k t) v (Break t v w) w refl
  broken_world (Next v w) = refl
  broken_world (Return n v w) = refl
  broken_world (Retry w) = refl
  broken_world (Spent w) = refl
  broken_world (Full w) = refl

  call_allowed : (t : Bool) (n : ℕ) (v : Value) (w : World) → nat_eq n k ≡ t → is_one_of n (k ∷ frame.calling) ≡ true → Allowed frame (if_here t (Done v w) (Break (to_call n) v w))
  call_allowed true n v w s h = tt
  call_allowed false n v w s h = or_second (nat_eq n k) (is_one_of n frame.calling) s h

  stopped_allowed : (t : Target) (v : Value) (w : World) → MayBreak inside t → Allowed frame (broken k (Break t v w))
  stopped_allowed to_loop v w h = h
  stopped_allowed (to_call n) v w h = call_allowed (nat_eq n k) n v w refl h

  broken_allowed : (o : Outcome) → Allowed inside o → Allowed frame (broken k o)
  broken_allowed (Done v w) h = tt
  broken_allowed (Raise v w) h = tt
  broken_allowed (Break t v w) h = stopped_allowed t v w h
  broken_allowed (Next v w) h = tt
  broken_allowed (Return n v w) h = h
  broken_allowed (Retry w) h = tt
  broken_allowed (Spent w) h = h
  broken_allowed (Full w) h = tt

  broken_turns : (i : ℕ) (o : Outcome) → broken k (given_out i o) ≡ given_out i (broken k o)
  broken_turns i (Done v w) = refl
  broken_turns i (Raise v w) = refl
  broken_turns i (Break t v w) = here_turns (is_call k t) i v (Break t v w) w
  broken_turns i (Next v w) = refl
  broken_turns i (Return n v w) = refl
  broken_turns i (Retry w) = refl
  broken_turns i (Spent w) = refl
  broken_turns i (Full w) = refl

  broken_over : (o : Outcome) → IsOver (broken k o) → IsOver o
  broken_over (Done v w) h = tt
  broken_over (Raise v w) h = tt
  broken_over (Break t v w) h = tt
  broken_over (Next v w) h = tt
  broken_over (Return n v w) h = tt
  broken_over (Retry w) h = tt
  broken_over (Spent w) h = h
  broken_over (Full w) h = tt

  pub break_out : Catches frame inside (broken k)
  break_out = record { world = broken_world; allowed = broken_allowed; turns = broken_turns; over = broken_over }
