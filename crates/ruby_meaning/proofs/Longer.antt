-- A run that has ended is the same with more turns.
use Rattle.std.proofs.Common.{◌≡◌, ℕ, zero, suc, ◌+◌, ◌≤◌, ◌<◌, Bool, true, false, refl, sym, subst, ap, ◌∙◌, arith, List, length, Option, Some, None, IfSome}
use Rattle.std.specs.Prelude.{nat_le, slice_get}
use Rattle.ruby_tree.specs.Names.{Bytes}
use Rattle.ruby_tree.specs.Tree.{Tree}
use Rattle.ruby_meaning.specs.Value.{Value, nil}
use Rattle.ruby_meaning.specs.Store.{cell_limit}
use Rattle.ruby_meaning.specs.World.{Closure, Frame, World, Target, to_loop, to_call, Outcome, Done, Raise, Break, Next, Return, Retry, Spent, Full, Run, world_of}
use Rattle.ruby_meaning.specs.Steps.{then_do, then, reading, changing, choose, paid_from, pay, charged, charge, ended, loop_left, after_turn, rescued, retried, finished}
use Rattle.ruby_meaning.specs.Calls.{with_environment, next_environment}
use Rattle.ruby_meaning.specs.Files.{Files}
use Rattle.ruby_meaning.specs.Parts.{in_loop_of}
use Rattle.ruby_meaning.specs.Evaluation.{goes_on, loop, loop_from, rescuing, eval, evaluate}
use Rattle.ruby_meaning.specs.Laws.{IsSound, given, given_out, IsOver}
use Rattle.ruby_meaning.specs.RunLaws.{Allowed}
use Rattle.ruby_meaning.proofs.Leading.{le_on}
use Rattle.ruby_meaning.proofs.Relation.{Stays, Keeps, Wraps, Catches, moved, Respects, RespectsLoops}
use Rattle.ruby_meaning.proofs.StepsOfTrees.{same_run}
use Rattle.ruby_meaning.proofs.Same.{Same, same_respects, fewer, same_turn, same_rescued, same_retried}

module _ (k : ℕ) where
  -- o' is o with k turns more, where o is over
  pub record LongerOut (o o' : Outcome) : Type 0 where
    pub same : IsOver o → o' ≡ given_out k o

  -- From each world of at most n turns, where the first run ends, the second does the same with k turns more. The first is itself such a run
  -- as every run is.
  pub record Longer (n : ℕ) (e : Frame) (m m' : Run) : Type 0 where
    pub self : Same n e m m
    pub by : (w : World) → w.turns ≤ n → LongerOut (m w) (m' (given k w))

  -- an outcome that is given the turns
  as_given : (o : Outcome) → LongerOut o (given_out k o)
  as_given o = record { same = λ over. refl }

  -- a step after an outcome that the frame may end with
  longer_along_allowed : (n : ℕ) (e : Frame) (w : World) (m m' : Run) (go go' : Outcome → Outcome) → Longer n e m m' → w.turns ≤ n → ((o : Outcome) → IsOver (go o) → IsOver o) →
      ((o : Outcome) → (world_of o).turns ≤ n → IsOver o → Allowed e o → LongerOut (go o) (go' (given_out k o))) → LongerOut (go (m w)) (go' (m' (given k w)))
  longer_along_allowed n e w m m' go go' h le back step =
      let falls : (world_of (m w)).turns ≤ w.turns = (h.self.by w le).leads.turns in
      record { same = λ over. ap go' ((h.by w le).same (back (m w) over)) ∙ (step (m w) (le_on (world_of (m w)).turns w.turns n falls le) (back (m w) over) (h.self.by w le).allowed).same over }

  longer_along : (n : ℕ) (e : Frame) (w : World) (m m' : Run) (go go' : Outcome → Outcome) → Longer n e m m' → w.turns ≤ n → ((o : Outcome) → IsOver (go o) → IsOver o) →
      ((o : Outcome) → (world_of o).turns ≤ n → IsOver o → LongerOut (go o) (go' (given_out k o))) → LongerOut (go (m w)) (go' (m' (given k w)))
  longer_along n e w m m' go go' h le back step = longer_along_allowed n e w m m' go go' h le back (λ o b over a. step o b over)

  longer_stay : (n : ℕ) (e : Frame) (m : Run) → Stays e m → Longer n e m m
  longer_stay n e m h = record { self = same_respects.same_stay n e m h; by = λ w le. record { same = λ over. h.turns k w } }

  then_back : (go : Value → Run) (o : Outcome) → IsOver (then_do o go) → IsOver o
  then_back go (Done v w) h = tt
  then_back go (Raise v w) h = tt
  then_back go (Break t v w) h = tt
  then_back go (Next v w) h = tt
  then_back go (Return m v w) h = tt
  then_back go (Retry w) h = tt
  then_back go (Spent w) h = h
  then_back go (Full w) h = tt

  then_longer : (n : ℕ) (e : Frame) (go go' : Value → Run) → ((v : Value) → Longer n e (go v) (go' v)) → (o : Outcome) → (world_of o).turns ≤ n → IsOver o → LongerOut (then_do o go) (then_do (given_out k o) go')
  then_longer n e go go' h (Done v w) le over = (h v).by w le
  then_longer n e go go' h (Raise v w) le over = as_given (Raise v w)
  then_longer n e go go' h (Break t v w) le over = as_given (Break t v w)
  then_longer n e go go' h (Next v w) le over = as_given (Next v w)
  then_longer n e go go' h (Return m v w) le over = as_given (Return m v w)
  then_longer n e go go' h (Retry w) le over = as_given (Retry w)
  then_longer n e go go' h (Spent w) le over = as_given (Spent w)
  then_longer n e go go' h (Full w) le over = as_given (Full w)

  longer_then : (n : ℕ) (e : Frame) (m m' : Run) (go go' : Value → Run) → Longer n e m m' → ((v : Value) → Longer n e (go v) (go' v)) → Longer n e (then m go) (then m' go')
  longer_then n e m m' go go' h hs = record {
    self = same_respects.same_then n e m m go go h.self (λ v. (hs v).self);
    by = λ w le. longer_along n e w m m' (λ o. then_do o go) (λ o. then_do o go') h le (then_back go) (then_longer n e go go' hs);
  }

  longer_reading : (n : ℕ) (e : Frame) {A : Type 0} (r : World → A) (go go' : A → Run) → ((i : ℕ) (w : World) → r (given i w) ≡ r w) → ((x : A) → Longer n e (go x) (go' x)) → Longer n e (reading r go) (reading r go')
  longer_reading n e r go go' s h = record {
    self = same_respects.same_reading n e r go go s (λ x. (h x).self);
    by = λ w le. record { same = λ over. ap (λ x. go' x (given k w)) (s k w) ∙ ((h (r w)).by w le).same over };
  }

  longer_changing : (n : ℕ) (e : Frame) (f : World → World) (go go' : Run) → Keeps e f → Longer n e go go' → Longer n e (changing f go) (changing f go')
  longer_changing n e f go go' s h = record {
    self = same_respects.same_changing n e f go go s h.self;
    by = λ w le. record { same = λ over. ap go' (s.turns k w) ∙ (h.by (f w) (le_on (f w).turns w.turns n (s.leads w).turns le)).same over };
  }

  longer_choose : (n : ℕ) (e : Frame) (t : Bool) (m m' a a' : Run) → Longer n e m m' → Longer n e a a' → Longer n e (choose t m a) (choose t m' a')
  longer_choose n e true m m' a a' h g = h
  longer_choose n e false m m' a a' h g = g

  paid_longer : (n : ℕ) (e : Frame) (turns : ℕ) (w w' : World) (go go' : Run) → turns ≤ n → ((j : ℕ) → j < n → LongerOut (go (record w { turns = j })) (go' (record w' { turns = j + k }))) → LongerOut (paid_from turns w go) (paid_from (turns + k) w' go')
  paid_longer n e zero w w' go go' le h = record { same = λ over. absurd over }
  paid_longer n e (suc j) w w' go go' le h =
      let s : suc j + k ≡ suc (j + k) = omega arith in
      record { same = λ over. ap (λ i. paid_from i w' go') s ∙ (h j (omega arith)).same over }

  longer_pay : (n : ℕ) (e : Frame) (go go' : Run) → ((j : ℕ) → j < n → Longer j e go go') → Longer n e (pay go) (pay go')
  longer_pay n e go go' h = record {
    self = same_respects.same_pay n e go go (λ j lt. (h j lt).self);
    by = λ w le. paid_longer n e w.turns w (given k w) go go' le (λ j lt. (h j lt).by (record w { turns = j }) (omega arith));
  }

  charged_longer : (n : ℕ) (e : Frame) (cells : ℕ) (fits : Bool) (w : World) (go go' : Run) → w.turns ≤ n → Longer n e go go' → LongerOut (charged fits cells w go) (charged fits cells (given k w) go')
  charged_longer n e cells true w go go' le h = h.by (record w { cells = w.cells + cells }) le
  charged_longer n e cells false w go go' le h = as_given (Full w)

  longer_charge : (n : ℕ) (e : Frame) (cells : ℕ) (go go' : Run) → Longer n e go go' → Longer n e (charge cells go) (charge cells go')
  longer_charge n e cells go go' h = record {
    self = same_respects.same_charge n e cells go go h.self;
    by = λ w le. charged_longer n e cells (nat_le (w.cells + cells) cell_limit) w go go' le h;
  }

  ended_back : (f : World → World) (o : Outcome) → IsOver (ended f o) → IsOver o
  ended_back f (Done v w) h = tt
  ended_back f (Raise v w) h = tt
  ended_back f (Break t v w) h = tt
  ended_back f (Next v w) h = tt
  ended_back f (Return m v w) h = tt
  ended_back f (Retry w) h = tt
  ended_back f (Spent w) h = h
  ended_back f (Full w) h = tt

  ended_longer : (f f' : World → World) → ((w : World) → f' (given k w) ≡ given k (f w)) → (o : Outcome) → IsOver o → LongerOut (ended f o) (ended f' (given_out k o))
  ended_longer f f' s (Done v w) over = record { same = λ x. ap (Done v) (s w) }
  ended_longer f f' s (Raise v w) over = record { same = λ x. ap (Raise v) (s w) }
  ended_longer f f' s (Break t v w) over = record { same = λ x. ap (Break t v) (s w) }
  ended_longer f f' s (Next v w) over = record { same = λ x. ap (Next v) (s w) }
  ended_longer f f' s (Return m v w) over = record { same = λ x. ap (Return m v) (s w) }
  ended_longer f f' s (Retry w) over = record { same = λ x. ap Retry (s w) }
  ended_longer f f' s (Spent w) over = absurd over
  ended_longer f f' s (Full w) over = record { same = λ x. ap Full (s w) }

  longer_between : (n : ℕ) (e : Frame) (f : World → World) (g : World → World → World) (m m' : Run) → Wraps e f g → Longer n e m m' → Longer n e (λ w. ended (g w) (m (f w))) (λ w. ended (g w) (m' (f w)))
  longer_between n e f g m m' s h = record {
    self = same_respects.same_between n e f g m m s h.self;
    by = λ w le. record {
      same = λ over.
          let there : IsOver (m (f w)) = ended_back (g w) (m (f w)) over in
          ap (λ x. ended (g (given k w)) (m' x)) (s.turns_before k w) ∙
          (ap (ended (g (given k w))) ((h.by (f w) (subst (λ i. i ≤ n) (sym (s.before w)) le)).same there) ∙
          (ended_longer (g w) (g (given k w)) (λ x. s.turns_behind k w x) (m (f w)) there).same over);
    };
  }

  longer_caught : (n : ℕ) (e inner : Frame) (catch : Outcome → Outcome) (m m' : Run) → inner.environment ≡ e.environment → Catches e inner catch → Longer n inner m m' → Longer n e (λ w. catch (m w)) (λ w. catch (m' w))
  longer_caught n e inner catch m m' at s h = record {
    self = same_respects.same_caught n e inner catch m m at s h.self;
    by = λ w le. record { same = λ over. ap catch ((h.by w le).same (s.over (m w) over)) ∙ s.turns k (m w) };
  }

  finished_back : (go : Run) (o : Outcome) → IsOver (finished o go) → IsOver o
  finished_back go (Done v w) h = tt
  finished_back go (Raise v w) h = tt
  finished_back go (Break t v w) h = tt
  finished_back go (Next v w) h = tt
  finished_back go (Return m v w) h = tt
  finished_back go (Retry w) h = tt
  finished_back go (Spent w) h = h
  finished_back go (Full w) h = tt

  -- after the ensure part, an outcome that waits
  waiting : (n : ℕ) (e : Frame) (go go' : Run) (stay : Run) → Longer n e go go' → Stays e stay → (w : World) → w.turns ≤ n → LongerOut (then go (λ u. stay) w) (then go' (λ u. stay) (given k w))
  waiting n e go go' stay h s w le = (longer_then n e go go' (λ u. stay) (λ u. stay) h (λ u. longer_stay n e stay s)).by w le

  finished_longer : (n : ℕ) (e : Frame) (go go' : Run) → Longer n e go go' → (o : Outcome) → (world_of o).turns ≤ n → IsOver o → Allowed e o → LongerOut (finished o go) (finished (given_out k o) go')
  finished_longer n e go go' h (Done v w) le over a = waiting n e go go' (Done v) h (record { world = λ x. refl; turns = λ i x. refl; allowed = λ x. tt }) w le
  finished_longer n e go go' h (Raise v w) le over a = waiting n e go go' (Raise v) h (record { world = λ x. refl; turns = λ i x. refl; allowed = λ x. tt }) w le
  finished_longer n e go go' h (Break t v w) le over a = waiting n e go go' (Break t v) h (record { world = λ x. refl; turns = λ i x. refl; allowed = λ x. a }) w le
  finished_longer n e go go' h (Next v w) le over a = waiting n e go go' (Next v) h (record { world = λ x. refl; turns = λ i x. refl; allowed = λ x. tt }) w le
  finished_longer n e go go' h (Return m v w) le over a = waiting n e go go' (Return m v) h (record { world = λ x. refl; turns = λ i x. refl; allowed = λ x. a }) w le
  finished_longer n e go go' h (Retry w) le over a = waiting n e go go' Retry h (record { world = λ x. refl; turns = λ i x. refl; allowed = λ x. tt }) w le
  finished_longer n e go go' h (Spent w) le over a = as_given (Spent w)
  finished_longer n e go go' h (Full w) le over a = as_given (Full w)

  longer_finished : (n : ℕ) (e : Frame) (m m' go go' : Run) → Longer n e m m' → Longer n e go go' → Longer n e (λ w. finished (m w) go) (λ w. finished (m' w) go')
  longer_finished n e m m' go go' h g = record {
    self = same_respects.same_finished n e m m go go h.self g.self;
    by = λ w le. longer_along_allowed n e w m m' (λ o. finished o go) (λ o. finished o go') h le (finished_back go) (finished_longer n e go go' g);
  }

  longer_open : (n : ℕ) (e : Frame) (parent : Option ℕ) (locals : List (Bytes × Value)) (inner : ℕ → Frame) (catch : ℕ → Outcome → Outcome) (go go' : ℕ → Run) →
      ((w : World) → e.environment < length w.environments → IsSound w → IfSome parent (λ p. p < length w.environments)) → ((i : ℕ) → (inner i).environment ≡ i) → ((i : ℕ) → Catches e (inner i) (catch i)) → ((i : ℕ) → Longer n (inner i) (go i) (go' i)) →
      Longer n e (reading next_environment (λ i. changing (with_environment parent locals) (λ w. catch i (go i w)))) (reading next_environment (λ i. changing (with_environment parent locals) (λ w. catch i (go' i w))))
  longer_open n e parent locals inner catch go go' below own out h = record {
    self = same_respects.same_open n e parent locals inner catch go go below own out (λ i. (h i).self);
    by = λ w le.
        let i : ℕ = length w.environments in
        let z : World = with_environment parent locals w in
        record { same = λ over. ap (catch i) (((h i).by z le).same ((out i).over (go i z) over)) ∙ (out i).turns k (go i z) };
  }

  closure_longer : (n : ℕ) (e : Frame) (go go' : Option Closure → Run) → Longer n e (go None) (go' None) → ((c : Closure) → Longer n (moved e c.environment) (go (Some c)) (go' (Some c))) → (o : Option Closure) (w : World) → w.turns ≤ n → LongerOut (go o w) (go' o (given k w))
  closure_longer n e go go' h hs None w le = h.by w le
  closure_longer n e go go' h hs (Some c) w le = (hs c).by w le

  longer_closures : (n : ℕ) (e : Frame) (i : ℕ) (go go' : Option Closure → Run) → Longer n e (go None) (go' None) → ((c : Closure) → Longer n (moved e c.environment) (go (Some c)) (go' (Some c))) →
      Longer n e (reading (λ w. slice_get w.closures i) go) (reading (λ w. slice_get w.closures i) go')
  longer_closures n e i go go' h hs = record {
    self = same_respects.same_closures n e i go go h.self (λ c. (hs c).self);
    by = λ w le. closure_longer n e go go' h hs (slice_get w.closures i) w le;
  }

  pub longer_respects : Respects Longer
  longer_respects = record {
    same_stay = longer_stay;
    same_then = longer_then;
    same_reading = λ n e {A} r go go'. longer_reading n e r go go';
    same_changing = longer_changing;
    same_choose = longer_choose;
    same_pay = longer_pay;
    same_charge = longer_charge;
    same_between = longer_between;
    same_caught = longer_caught;
    same_finished = longer_finished;
    same_open = longer_open;
    same_closures = longer_closures;
  }

  -- Loops and retries.

  longer_fewer : (j n : ℕ) (e : Frame) (m m' : Run) → j ≤ n → Longer n e m m' → Longer j e m m'
  longer_fewer j n e m m' le h = record { self = fewer j n e m m le h.self; by = λ w b. h.by w (le_on w.turns j n b le) }

  turn_back : (go : Run) (o : Outcome) → IsOver (after_turn o go) → IsOver o
  turn_back go (Done v w) h = tt
  turn_back go (Raise v w) h = tt
  turn_back go (Break t v w) h = tt
  turn_back go (Next v w) h = tt
  turn_back go (Return m v w) h = tt
  turn_back go (Retry w) h = tt
  turn_back go (Spent w) h = h
  turn_back go (Full w) h = tt

  left_longer : (t : Target) (v : Value) (w : World) → LongerOut (loop_left t v w) (loop_left t v (given k w))
  left_longer to_loop v w = as_given (Done v w)
  left_longer (to_call i) v w = as_given (Break (to_call i) v w)

  turn_longer : (n : ℕ) (e : Frame) (go go' : Run) → Longer n e go go' → (o : Outcome) → (world_of o).turns ≤ n → IsOver o → LongerOut (after_turn o go) (after_turn (given_out k o) go')
  turn_longer n e go go' h (Done v w) le over = h.by w le
  turn_longer n e go go' h (Raise v w) le over = as_given (Raise v w)
  turn_longer n e go go' h (Break t v w) le over = left_longer t v w
  turn_longer n e go go' h (Next v w) le over = h.by w le
  turn_longer n e go go' h (Return m v w) le over = as_given (Return m v w)
  turn_longer n e go go' h (Retry w) le over = as_given (Retry w)
  turn_longer n e go go' h (Spent w) le over = as_given (Spent w)
  turn_longer n e go go' h (Full w) le over = as_given (Full w)

  longer_turn : (n : ℕ) (e : Frame) (m m' go go' : Run) → Longer n (in_loop_of e) m m' → Longer n e go go' → Longer n e (λ w. after_turn (m w) go) (λ w. after_turn (m' w) go')
  longer_turn n e m m' go go' h g = record {
    self = same_turn n e m m go go h.self g.self;
    by = λ w le. longer_along n (in_loop_of e) w m m' (λ o. after_turn o go) (λ o. after_turn o go') h le (turn_back go) (turn_longer n e go go' g);
  }

  none_below : (j n : ℕ) → j < n → n ≤ 0 → ⊥
  none_below j n lt le = omega arith

  longer_loop : (n : ℕ) (e : Frame) (f g : ℕ) (u : Bool) (t t' a a' : Run) → n ≤ f → f ≤ g → Longer n e t t' → Longer n (in_loop_of e) a a' → Longer n e (loop f u t a) (loop g u t' a')
  longer_loop n e zero zero u t t' a a' lf lg ht ha =
      longer_then n e _ _ _ _ ht (λ v. longer_choose n e (goes_on u v) _ _ _ _ (longer_pay n e _ _ (λ j lt. absurd (none_below j n lt lf))) (longer_stay n e (Done nil) (record { world = λ w. refl; turns = λ i w. refl; allowed = λ w. tt })))
  longer_loop n e zero (suc g) u t t' a a' lf lg ht ha =
      longer_then n e _ _ _ _ ht (λ v. longer_choose n e (goes_on u v) _ _ _ _ (longer_pay n e _ _ (λ j lt. absurd (none_below j n lt lf))) (longer_stay n e (Done nil) (record { world = λ w. refl; turns = λ i w. refl; allowed = λ w. tt })))
  longer_loop n e (suc f) zero u t t' a a' lf lg ht ha = absurd (omega arith)
  longer_loop n e (suc f) (suc g) u t t' a a' lf lg ht ha =
      longer_then n e _ _ _ _ ht (λ v. longer_choose n e (goes_on u v) _ _ _ _
      (longer_pay n e _ _ (λ j lt.
      longer_turn j e _ _ _ _ (longer_fewer j n (in_loop_of e) a a' (omega arith) ha) (longer_loop j e f g u t t' a a' (omega arith) (omega arith) (longer_fewer j n e t t' (omega arith) ht) (longer_fewer j n (in_loop_of e) a a' (omega arith) ha))))
      (longer_stay n e (Done nil) (record { world = λ w. refl; turns = λ i w. refl; allowed = λ w. tt })))

  longer_loop_from : (n : ℕ) (e : Frame) (f g : ℕ) (first u : Bool) (t t' a a' : Run) → n ≤ f → f ≤ g → Longer n e t t' → Longer n (in_loop_of e) a a' → Longer n e (loop_from first f u t a) (loop_from first g u t' a')
  longer_loop_from n e f g false u t t' a a' lf lg ht ha = longer_loop n e f g u t t' a a' lf lg ht ha
  longer_loop_from n e f g true u t t' a a' lf lg ht ha = longer_turn n e _ _ _ _ ha (longer_loop n e f g u t t' a a' lf lg ht ha)

  rescued_back : (c l : Value → Run) (o : Outcome) → IsOver (rescued o c l) → IsOver o
  rescued_back c l (Done v w) h = tt
  rescued_back c l (Raise v w) h = tt
  rescued_back c l (Break t v w) h = tt
  rescued_back c l (Next v w) h = tt
  rescued_back c l (Return m v w) h = tt
  rescued_back c l (Retry w) h = tt
  rescued_back c l (Spent w) h = h
  rescued_back c l (Full w) h = tt

  rescued_longer : (n : ℕ) (e : Frame) (c c' l l' : Value → Run) → ((v : Value) → Longer n e (c v) (c' v)) → ((v : Value) → Longer n e (l v) (l' v)) → (o : Outcome) → (world_of o).turns ≤ n → IsOver o → LongerOut (rescued o c l) (rescued (given_out k o) c' l')
  rescued_longer n e c c' l l' hc hl (Done v w) le over = (hl v).by w le
  rescued_longer n e c c' l l' hc hl (Raise v w) le over = (hc v).by w le
  rescued_longer n e c c' l l' hc hl (Break t v w) le over = as_given (Break t v w)
  rescued_longer n e c c' l l' hc hl (Next v w) le over = as_given (Next v w)
  rescued_longer n e c c' l l' hc hl (Return m v w) le over = as_given (Return m v w)
  rescued_longer n e c c' l l' hc hl (Retry w) le over = as_given (Retry w)
  rescued_longer n e c c' l l' hc hl (Spent w) le over = as_given (Spent w)
  rescued_longer n e c c' l l' hc hl (Full w) le over = as_given (Full w)

  longer_rescued : (n : ℕ) (e : Frame) (m m' : Run) (c c' l l' : Value → Run) → Longer n e m m' → ((v : Value) → Longer n e (c v) (c' v)) → ((v : Value) → Longer n e (l v) (l' v)) → Longer n e (λ w. rescued (m w) c l) (λ w. rescued (m' w) c' l')
  longer_rescued n e m m' c c' l l' h hc hl = record {
    self = same_rescued n e m m c c l l h.self (λ v. (hc v).self) (λ v. (hl v).self);
    by = λ w le. longer_along n e w m m' (λ o. rescued o c l) (λ o. rescued o c' l') h le (rescued_back c l) (rescued_longer n e c c' l l' hc hl);
  }

  retried_back : (go : Run) (o : Outcome) → IsOver (retried o go) → IsOver o
  retried_back go (Done v w) h = tt
  retried_back go (Raise v w) h = tt
  retried_back go (Break t v w) h = tt
  retried_back go (Next v w) h = tt
  retried_back go (Return m v w) h = tt
  retried_back go (Retry w) h = tt
  retried_back go (Spent w) h = h
  retried_back go (Full w) h = tt

  retried_longer : (n : ℕ) (e : Frame) (go go' : Run) → Longer n e (pay go) (pay go') → (o : Outcome) → (world_of o).turns ≤ n → IsOver o → LongerOut (retried o go) (retried (given_out k o) go')
  retried_longer n e go go' h (Done v w) le over = as_given (Done v w)
  retried_longer n e go go' h (Raise v w) le over = as_given (Raise v w)
  retried_longer n e go go' h (Break t v w) le over = as_given (Break t v w)
  retried_longer n e go go' h (Next v w) le over = as_given (Next v w)
  retried_longer n e go go' h (Return m v w) le over = as_given (Return m v w)
  retried_longer n e go go' h (Retry w) le over = h.by w le
  retried_longer n e go go' h (Spent w) le over = as_given (Spent w)
  retried_longer n e go go' h (Full w) le over = as_given (Full w)

  longer_retried : (n : ℕ) (e : Frame) (m m' go go' : Run) → Longer n e m m' → Longer n e (pay go) (pay go') → Longer n e (λ w. retried (m w) go) (λ w. retried (m' w) go')
  longer_retried n e m m' go go' h g = record {
    self = same_retried n e m m go go h.self g.self;
    by = λ w le. longer_along n e w m m' (λ o. retried o go) (λ o. retried o go') h le (retried_back go) (retried_longer n e go go' g);
  }

  longer_rescuing : (n : ℕ) (e : Frame) (f g : ℕ) (m m' : Run) (c c' l l' : Value → Run) → n ≤ f → f ≤ g → Longer n e m m' → ((v : Value) → Longer n e (c v) (c' v)) → ((v : Value) → Longer n e (l v) (l' v)) → Longer n e (rescuing f m c l) (rescuing g m' c' l')
  longer_rescuing n e zero zero m m' c c' l l' lf lg hm hc hl = longer_rescued n e m m' _ _ l l' hm (λ v. longer_retried n e (c v) (c' v) _ _ (hc v) (longer_pay n e _ _ (λ j lt. absurd (none_below j n lt lf)))) hl
  longer_rescuing n e zero (suc g) m m' c c' l l' lf lg hm hc hl = longer_rescued n e m m' _ _ l l' hm (λ v. longer_retried n e (c v) (c' v) _ _ (hc v) (longer_pay n e _ _ (λ j lt. absurd (none_below j n lt lf)))) hl
  longer_rescuing n e (suc f) zero m m' c c' l l' lf lg hm hc hl = absurd (omega arith)
  longer_rescuing n e (suc f) (suc g) m m' c c' l l' lf lg hm hc hl =
      longer_rescued n e m m' _ _ l l' hm (λ v. longer_retried n e (c v) (c' v) _ _ (hc v) (longer_pay n e _ _ (λ j lt.
      longer_rescuing j e f g m m' c c' l l' (omega arith) (omega arith) (longer_fewer j n e m m' (omega arith) hm) (λ v. longer_fewer j n e (c v) (c' v) (omega arith) (hc v)) (λ v. longer_fewer j n e (l v) (l' v) (omega arith) (hl v))))) hl

  longer_loops : (n f g : ℕ) → n ≤ f → f ≤ g → RespectsLoops Longer n f g
  longer_loops n f g lf lg = record {
    same_loop_from = λ e first u t t' a a'. longer_loop_from n e f g first u t t' a a' lf lg;
    same_rescuing = λ e m m' c c' l l'. longer_rescuing n e f g m m' c c' l l' lf lg;
  }

  pub longer_eval : (files : Files) (n f g : ℕ) (t : Tree) (frame : Frame) → n ≤ f → f ≤ g → Longer n frame (eval files f t frame) (eval files g t frame)
  longer_eval files n zero zero t frame lf lg = same_run Longer longer_respects files n zero zero (λ s x. Spent) (λ s x. Spent) (longer_loops n zero zero lf lg) (λ j s x lt. absurd (none_below j n lt lf)) t frame
  longer_eval files n zero (suc g) t frame lf lg = same_run Longer longer_respects files n zero (suc g) (λ s x. Spent) (eval files g) (longer_loops n zero (suc g) lf lg) (λ j s x lt. absurd (none_below j n lt lf)) t frame
  longer_eval files n (suc f) zero t frame lf lg = absurd (omega arith)
  longer_eval files n (suc f) (suc g) t frame lf lg = same_run Longer longer_respects files n (suc f) (suc g) (eval files f) (eval files g) (longer_loops n (suc f) (suc g) lf lg) (λ j s x lt. longer_eval files j f g s x (omega arith) (omega arith)) t frame

-- with k turns more the run ends in the same way, and keeps them
pub more_turns : (files : Files) (k : ℕ) (t : Tree) (frame : Frame) (w : World) → IsOver (evaluate files t frame w) → evaluate files t frame (given k w) ≡ given_out k (evaluate files t frame w)
more_turns files k t frame w over = ((longer_eval k files w.turns w.turns (w.turns + k) t frame (omega arith) (omega arith)).by w (omega arith)).same over
