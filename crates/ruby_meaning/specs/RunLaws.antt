-- What a proof about every run may rely on.
use Rattle.std.specs.Prelude.{◌≡◌, ℕ, ◌≤◌, nat_eq, Bool, true, false, ◌||◌, Option, Some, None, ⊤}
use Rattle.ruby_tree.specs.Tree.{Other, without, with}
use Rattle.ruby_meaning.specs.Value.{Value, nil}
use Rattle.ruby_meaning.specs.Store.{is_one_of}
use Rattle.ruby_meaning.specs.World.{Home, in_file, in_method, in_class, World, Frame, Target, to_loop, to_call, Outcome, Done, Raise, Break, Next, Return, Retry, Spent, Full, Run, world_of}
use Rattle.ruby_meaning.specs.Steps.{then, choose, pay, after_turn, rescued, retried}
use Rattle.ruby_meaning.specs.Files.{Files}
use Rattle.ruby_meaning.specs.Evaluation.{goes_on, evaluate}

-- from a world of at most n turns, no outcome of the run has more turns left than there were
abbrev pub GainsNone : ℕ → Run → Type 0
GainsNone n m = (w : World) → w.turns ≤ n → (world_of (m w)).turns ≤ w.turns

-- a loop's condition, a turn and its body, and what follows the body
abbrev pub loop_turn : Bool → Run → Run → Run → Run
loop_turn until_true test inner again = then test (λ v. choose (goes_on until_true v) (pay (λ w. after_turn (inner w) again)) (Done nil))

-- a body with its clauses and its else part, and what follows a retry
abbrev pub rescue_turn : Run → (Value → Run) → (Value → Run) → Run → Run
rescue_turn inner clauses last again w = rescued (inner w) (λ v z. retried (clauses v z) again) last

-- an else part that is evaluated, or the value where there is none
abbrev pub last_of : Files → Other → Frame → Value → Run
last_of files without frame v = Done v
last_of files (with t) frame v = evaluate files t frame

-- How a run in a frame may end.

-- the home's own number, outside of its blocks
abbrev pub is_own : Home → Option ℕ → ℕ → Bool
is_own (in_file m) None n = nat_eq n m
is_own (in_file m) (Some k) n = false
is_own (in_method m) None n = nat_eq n m
is_own (in_method m) (Some k) n = false
is_own in_class k n = false

-- a return leaves a method or a file that has not ended, or the frame's own
abbrev pub MayReturn : Frame → ℕ → Type 0
MayReturn frame n = (is_one_of n frame.running || is_own frame.home frame.in_block n) ≡ true

-- a break leaves a loop around it, or a call that has not ended
abbrev pub MayBreak : Frame → Target → Type 0
MayBreak frame to_loop = frame.in_loop ≡ true
MayBreak frame (to_call k) = is_one_of k frame.calling ≡ true

-- A run is spent only where no turn is left.
abbrev pub Allowed : Frame → Outcome → Type 0
Allowed frame (Done v w) = ⊤
Allowed frame (Raise v w) = ⊤
Allowed frame (Break t v w) = MayBreak frame t
Allowed frame (Next v w) = ⊤
Allowed frame (Return n v w) = MayReturn frame n
Allowed frame (Retry w) = ⊤
Allowed frame (Spent w) = w.turns ≡ 0
Allowed frame (Full w) = ⊤

-- Where nothing is run around it, a run ends with no return and no break.
abbrev pub EndsOutside : Outcome → Type 0
EndsOutside (Done v w) = ⊤
EndsOutside (Raise v w) = ⊤
EndsOutside (Break t v w) = ⊥
EndsOutside (Next v w) = ⊤
EndsOutside (Return n v w) = ⊥
EndsOutside (Retry w) = ⊤
EndsOutside (Spent w) = w.turns ≡ 0
EndsOutside (Full w) = ⊤
