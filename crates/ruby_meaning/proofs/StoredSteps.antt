-- One run from a good world ends in one, and its outcome is placed: what each small step needs.
use Rattle.std.proofs.Common.{◌≡◌, ℕ, zero, suc, ◌+◌, Bool, true, false, refl, sym, subst, length}
use Rattle.std.specs.Prelude.{codes, nat_eq, nat_le, nat_lt}
use Rattle.ruby_tree.specs.Names.{Bytes}
use Rattle.ruby_tree.specs.Placement.{Around, in_loop, in_clause, outside_clause}
use Rattle.ruby_meaning.specs.Value.{Value, nil, object, Object}
use Rattle.ruby_meaning.specs.Numbers.{system_stack_error}
use Rattle.ruby_meaning.specs.Store.{cell_limit, string_cells, object_cells, variable_cells, new_string, is_class_or_module}
use Rattle.ruby_meaning.specs.World.{World, Frame, Target, to_loop, to_call, Outcome, Done, Raise, Break, Next, Return, Retry, Spent, Full, Run, world_of, frame_limit}
use Rattle.ruby_meaning.specs.Steps.{then_do, then, reading, changing, choose, paid_from, pay, charged, charge, with_object, make, make_string, raise_new, exception_of, stand, ended, at_depth, deeper_if, deeper, if_here, returned, gone_on, is_call, broken, loop_left, after_turn, rescued, retried, finished}
use Rattle.ruby_meaning.specs.Evaluation.{goes_on, loop, loop_from, rescuing}
use Rattle.ruby_meaning.specs.Stored.{IsClass, PlacedOut}
use Rattle.ruby_meaning.proofs.Catching.{here_world}
use Rattle.ruby_meaning.proofs.StoreLeading.{stays_class}
use Rattle.ruby_meaning.proofs.StoredStores.{Asked, keeps_made}
use Rattle.ruby_meaning.proofs.StoredWorlds.{Good, Onward, onward_same, onward_on, Moves, moves_objects, moves_same}

-- What is known of the world while a run goes on, and stays known of each to which it goes on. Of housing it is known where that is asked.
pub record Known : Type 1 where
  pub asked : Asked
  pub holds : World → Type 0
  pub stays : (w z : World) → Onward asked w z → holds w → holds z

-- nothing is known
abbrev pub nothing : Asked → Known
nothing asked = record { asked = asked; holds = λ w. Unit {0}; stays = λ w z l h. tt }

-- and this number is a class's
abbrev pub with_class : Known → ℕ → Known
with_class k n = record { asked = k.asked; holds = λ w. k.holds w × IsClass w.objects n; stays = λ w z l h. (k.stays w z l h.0, stays_class w.objects z.objects n l.store h.1) }

-- What holds behind a run.
pub record GoodOut (asked : Asked) (c : Around) (w : World) (o : Outcome) : Type 0 where
  pub leads : Onward asked w (world_of o)
  pub good : Good asked (world_of o)
  pub placed : PlacedOut c o

-- from each good world of which this is known
pub record Keeps (k : Known) (c : Around) (m : Run) : Type 0 where
  pub by : (w : World) → k.holds w → Good k.asked w → GoodOut k.asked c w (m w)

pub out_on : (asked : Asked) (c : Around) (w z : World) (o : Outcome) → Onward asked w z → GoodOut asked c z o → GoodOut asked c w o
out_on asked c w z o l x = record { leads = onward_on asked w z (world_of o) l x.leads; good = x.good; placed = x.placed }

-- the world alone, whatever the outcome's placement
out_as : (asked : Asked) (c d : Around) (w : World) (o p : Outcome) → world_of p ≡ world_of o → PlacedOut d p → GoodOut asked c w o → GoodOut asked d w p
out_as asked c d w o p same placed x = record { leads = subst (λ z. Onward asked w z) (sym same) x.leads; good = subst (Good asked) (sym same) x.good; placed = placed }

module _ (k : Known) (c : Around) where
  -- on from a world that was gone on to
  pub keep_on : (go : Run) → Keeps k c go → (w z : World) → Onward k.asked w z → k.holds w → Good k.asked z → GoodOut k.asked c w (go z)
  keep_on go h w z l p s = out_on k.asked c w z (go z) l (h.by z (k.stays w z l p) s)

  pub keep_stay : (m : Run) → ((w : World) → world_of (m w) ≡ w) → ((w : World) → PlacedOut c (m w)) → Keeps k c m
  keep_stay m same placed = record { by = λ w h s. record { leads = subst (λ z. Onward k.asked w z) (sym (same w)) (onward_same k.asked w); good = subst (Good k.asked) (sym (same w)) s; placed = placed w } }

  pub keep_done : (v : Value) → Keeps k c (Done v)
  keep_done v = keep_stay (Done v) (λ w. refl) (λ w. tt)

  pub keep_raise : (v : Value) → Keeps k c (Raise v)
  keep_raise v = keep_stay (Raise v) (λ w. refl) (λ w. tt)

  then_out : (w : World) (o : Outcome) (go : Value → Run) → ((v : Value) → Keeps k c (go v)) → k.holds w → GoodOut k.asked c w o → GoodOut k.asked c w (then_do o go)
  then_out w (Done v z) go h p x = keep_on (go v) (h v) w z x.leads p x.good
  then_out w (Raise v z) go h p x = x
  then_out w (Break t v z) go h p x = x
  then_out w (Next v z) go h p x = x
  then_out w (Return n v z) go h p x = x
  then_out w (Retry z) go h p x = x
  then_out w (Spent z) go h p x = x
  then_out w (Full z) go h p x = x

  pub keep_then : (m : Run) (go : Value → Run) → Keeps k c m → ((v : Value) → Keeps k c (go v)) → Keeps k c (then m go)
  keep_then m go h g = record { by = λ w p s. then_out w (m w) go g p (h.by w p s) }

  pub keep_reading : {A : Type 0} (r : World → A) (go : A → Run) → ((x : A) → Keeps k c (go x)) → Keeps k c (reading r go)
  keep_reading r go h = record { by = λ w p s. (h (r w)).by w p s }

  -- with what is known of what was read
  pub keep_read : {A : Type 0} (r : World → A) (go : A → Run) → ((w : World) → k.holds w → Good k.asked w → GoodOut k.asked c w (go (r w) w)) → Keeps k c (reading r go)
  keep_read r go h = record { by = h }

  pub keep_changing : (f : World → World) (go : Run) → ((w : World) → k.holds w → Good k.asked w → Moves k.asked w (f w)) → Keeps k c go → Keeps k c (changing f go)
  keep_changing f go moves h = record { by = λ w p s. let x : Moves k.asked w (f w) = moves w p s in keep_on go h w (f w) x.leads p x.good }

  pub keep_choose : (t : Bool) (m a : Run) → Keeps k c m → Keeps k c a → Keeps k c (choose t m a)
  keep_choose true m a h g = h
  keep_choose false m a h g = g

  paid_out : (turns : ℕ) (w : World) (go : Run) → Keeps k c go → k.holds w → Good k.asked w → GoodOut k.asked c w (paid_from turns w go)
  paid_out zero w go h p s = record { leads = onward_same k.asked w; good = s; placed = tt }
  paid_out (suc n) w go h p s =
      let z : World = record w { turns = n } in
      let x : Moves k.asked w z = moves_same k.asked w z refl refl refl s in
      keep_on go h w z x.leads p x.good

  pub keep_pay : (go : Run) → Keeps k c go → Keeps k c (pay go)
  keep_pay go h = record { by = λ w p s. paid_out w.turns w go h p s }

  charged_out : (t : Bool) (n : ℕ) (w : World) (go : Run) → Keeps k c go → k.holds w → Good k.asked w → GoodOut k.asked c w (charged t n w go)
  charged_out true n w go h p s =
      let z : World = record w { cells = w.cells + n } in
      let x : Moves k.asked w z = moves_same k.asked w z refl refl refl s in
      keep_on go h w z x.leads p x.good
  charged_out false n w go h p s = record { leads = onward_same k.asked w; good = s; placed = tt }

  pub keep_charge : (n : ℕ) (go : Run) → Keeps k c go → Keeps k c (charge n go)
  keep_charge n go h = record { by = λ w p s. charged_out (nat_le (w.cells + n) cell_limit) n w go h p s }

  -- an object that is no class
  pub keep_make : (o : Object) (go : ℕ → Run) → is_class_or_module o.kind ≡ false → ((n : ℕ) → Keeps k c (go n)) → Keeps k c (make o go)
  keep_make o go other h =
      keep_reading (λ w. length w.objects) _ (λ n. keep_changing (with_object o) (go n) (λ w p s. moves_objects k.asked w (with_object o w) (keeps_made k.asked w.objects o other) refl refl s) (h n))

  pub keep_make_string : (f : Bytes) (go : ℕ → Run) → ((n : ℕ) → Keeps k c (go n)) → Keeps k c (make_string f go)
  keep_make_string f go h = keep_charge (string_cells (length f)) _ (keep_make (new_string f) go refl h)

  pub keep_raise_new : (frame : Frame) (line n : ℕ) (message : Bytes) → Keeps k c (raise_new frame line n message)
  keep_raise_new frame line n message =
      keep_charge (string_cells (length message) + object_cells + variable_cells) _
      (keep_make (new_string message) _ refl (λ i. keep_make (exception_of n i (stand frame line)) _ refl (λ m. keep_raise (object m))))

  -- A change of the world behind a run, which keeps its objects, environments and closures.
  ended_out : (f : World → World) → ((z : World) → (f z).objects ≡ z.objects) → ((z : World) → (f z).environments ≡ z.environments) → ((z : World) → (f z).closures ≡ z.closures) → (w : World) (o : Outcome) → GoodOut k.asked c w o → GoodOut k.asked c w (ended f o)
  ended_out f objects rooms closures w o x =
      let m : Moves k.asked (world_of o) (f (world_of o)) = moves_same k.asked (world_of o) (f (world_of o)) (objects (world_of o)) (rooms (world_of o)) (closures (world_of o)) x.good in
      record {
        leads = subst (λ z. Onward k.asked w z) (sym (world o)) (onward_on k.asked w (world_of o) (f (world_of o)) x.leads m.leads);
        good = subst (Good k.asked) (sym (world o)) m.good;
        placed = placed o x.placed;
      }
    where
      world : (o : Outcome) → world_of (ended f o) ≡ f (world_of o)
      world (Done v z) = refl
      world (Raise v z) = refl
      world (Break t v z) = refl
      world (Next v z) = refl
      world (Return n v z) = refl
      world (Retry z) = refl
      world (Spent z) = refl
      world (Full z) = refl

      placed : (o : Outcome) → PlacedOut c o → PlacedOut c (ended f o)
      placed (Done v z) h = h
      placed (Raise v z) h = h
      placed (Break t v z) h = h
      placed (Next v z) h = h
      placed (Return n v z) h = h
      placed (Retry z) h = h
      placed (Spent z) h = h
      placed (Full z) h = h

  -- a change before a run, and one behind it, of which neither touches objects, environments or closures
  pub keep_between : (f : World → World) (g : World → World → World) (m : Run) → ((w : World) → (f w).objects ≡ w.objects) → ((w : World) → (f w).environments ≡ w.environments) → ((w : World) → (f w).closures ≡ w.closures) →
      ((w z : World) → (g w z).objects ≡ z.objects) → ((w z : World) → (g w z).environments ≡ z.environments) → ((w z : World) → (g w z).closures ≡ z.closures) → Keeps k c m → Keeps k c (λ w. ended (g w) (m (f w)))
  keep_between f g m fo fr fc go gr gc h = record {
    by = λ w p s.
        let x : Moves k.asked w (f w) = moves_same k.asked w (f w) (fo w) (fr w) (fc w) s in
        let y : GoodOut k.asked c (f w) (m (f w)) = h.by (f w) (k.stays w (f w) x.leads p) x.good in
        out_on k.asked c w (f w) (ended (g w) (m (f w))) x.leads (ended_out (g w) (go w) (gr w) (gc w) (f w) (m (f w)) y);
  }

  pub keep_deeper : (frame : Frame) (line : ℕ) (go : Run) → Keeps k c go → Keeps k c (deeper frame line go)
  keep_deeper frame line go h = keep_reading (λ w. nat_lt w.depth frame_limit) _ at
    where
      at : (fits : Bool) → Keeps k c (deeper_if fits frame line go)
      at true = keep_between (λ w. at_depth (suc w.depth) w) (λ u w. at_depth u.depth w) go (λ w. refl) (λ w. refl) (λ w. refl) (λ w z. refl) (λ w z. refl) (λ w z. refl) h
      at false = keep_raise_new frame line system_stack_error (codes "stack level too deep")

-- What is known where the same of housing is asked.
pub keep_by : (k j : Known) (c : Around) (m : Run) → k.asked ≡ j.asked → ((w : World) → k.holds w → Good j.asked w → GoodOut j.asked c w (m w)) → Keeps k c m
keep_by k j c m same h = record { by = λ w p s. subst (λ asked. GoodOut asked c w (m w)) (sym same) (h w p (subst (λ asked. Good asked w) same s)) }

-- What is known may be more than is needed.
pub keep_known : (k j : Known) (c : Around) (m : Run) → k.asked ≡ j.asked → ((w : World) → k.holds w → j.holds w) → Keeps j c m → Keeps k c m
keep_known k j c m same more h = keep_by k j c m same (λ w p s. h.by w (more w p) s)

-- Where an inner frame's outcome is caught, or goes on.

here_placed : (c : Around) (t : Bool) (v : Value) (w : World) (o : Outcome) → PlacedOut c o → PlacedOut c (if_here t (Done v w) o)
here_placed c true v w o h = tt
here_placed c false v w o h = h

-- in a body that stands in no loop, block or clause
abbrev pub NoNext : Around → Type 0
NoNext d = d.loop ≡ false

abbrev pub NoRetry : Around → Type 0
NoRetry d = d.clause ≡ false

not_both : (b : Bool) → b ≡ true → b ≡ false → ⊥
not_both true h k = absurd (cc)
not_both false h k = absurd (cc)

pub returned_out : (asked : Asked) (c d : Around) (n : ℕ) (w : World) (o : Outcome) → NoNext d → NoRetry d → GoodOut asked d w o → GoodOut asked c w (returned n o)
returned_out asked c d n w (Done v z) next retry x = out_as asked d c w (Done v z) (Done v z) refl tt x
returned_out asked c d n w (Raise v z) next retry x = out_as asked d c w (Raise v z) (Raise v z) refl tt x
returned_out asked c d n w (Break t v z) next retry x = out_as asked d c w (Break t v z) (Break t v z) refl tt x
returned_out asked c d n w (Next v z) next retry x = absurd (not_both d.loop x.placed next)
returned_out asked c d n w (Return m v z) next retry x = out_as asked d c w (Return m v z) (if_here (nat_eq m n) (Done v z) (Return m v z)) (here_world (nat_eq m n) v (Return m v z) z refl) (here_placed c (nat_eq m n) v z (Return m v z) tt) x
returned_out asked c d n w (Retry z) next retry x = absurd (not_both d.clause x.placed retry)
returned_out asked c d n w (Spent z) next retry x = out_as asked d c w (Spent z) (Spent z) refl tt x
returned_out asked c d n w (Full z) next retry x = out_as asked d c w (Full z) (Full z) refl tt x

-- the outcome of a class body
pub class_out : (asked : Asked) (c d : Around) (w : World) (o : Outcome) → NoNext d → NoRetry d → GoodOut asked d w o → GoodOut asked c w o
class_out asked c d w (Done v z) next retry x = out_as asked d c w (Done v z) (Done v z) refl tt x
class_out asked c d w (Raise v z) next retry x = out_as asked d c w (Raise v z) (Raise v z) refl tt x
class_out asked c d w (Break t v z) next retry x = out_as asked d c w (Break t v z) (Break t v z) refl tt x
class_out asked c d w (Next v z) next retry x = absurd (not_both d.loop x.placed next)
class_out asked c d w (Return m v z) next retry x = out_as asked d c w (Return m v z) (Return m v z) refl tt x
class_out asked c d w (Retry z) next retry x = absurd (not_both d.clause x.placed retry)
class_out asked c d w (Spent z) next retry x = out_as asked d c w (Spent z) (Spent z) refl tt x
class_out asked c d w (Full z) next retry x = out_as asked d c w (Full z) (Full z) refl tt x

pub gone_on_out : (asked : Asked) (c d : Around) (w : World) (o : Outcome) → NoRetry d → GoodOut asked d w o → GoodOut asked c w (gone_on o)
gone_on_out asked c d w (Done v z) retry x = out_as asked d c w (Done v z) (Done v z) refl tt x
gone_on_out asked c d w (Raise v z) retry x = out_as asked d c w (Raise v z) (Raise v z) refl tt x
gone_on_out asked c d w (Break t v z) retry x = out_as asked d c w (Break t v z) (Break t v z) refl tt x
gone_on_out asked c d w (Next v z) retry x = out_as asked d c w (Next v z) (Done v z) refl tt x
gone_on_out asked c d w (Return m v z) retry x = out_as asked d c w (Return m v z) (Return m v z) refl tt x
gone_on_out asked c d w (Retry z) retry x = absurd (not_both d.clause x.placed retry)
gone_on_out asked c d w (Spent z) retry x = out_as asked d c w (Spent z) (Spent z) refl tt x
gone_on_out asked c d w (Full z) retry x = out_as asked d c w (Full z) (Full z) refl tt x

pub broken_out : (asked : Asked) (c : Around) (n : ℕ) (w : World) (o : Outcome) → GoodOut asked c w o → GoodOut asked c w (broken n o)
broken_out asked c n w (Done v z) x = x
broken_out asked c n w (Raise v z) x = x
broken_out asked c n w (Break t v z) x = out_as asked c c w (Break t v z) (if_here (is_call n t) (Done v z) (Break t v z)) (here_world (is_call n t) v (Break t v z) z refl) (here_placed c (is_call n t) v z (Break t v z) tt) x
broken_out asked c n w (Next v z) x = x
broken_out asked c n w (Return m v z) x = x
broken_out asked c n w (Retry z) x = x
broken_out asked c n w (Spent z) x = x
broken_out asked c n w (Full z) x = x

-- the outcome of a part that stands outside of a clause
pub part_out : (asked : Asked) (c : Around) (w : World) (o : Outcome) → GoodOut asked (outside_clause c) w o → GoodOut asked c w o
part_out asked c w (Done v z) x = out_as asked (outside_clause c) c w (Done v z) (Done v z) refl tt x
part_out asked c w (Raise v z) x = out_as asked (outside_clause c) c w (Raise v z) (Raise v z) refl tt x
part_out asked c w (Break t v z) x = out_as asked (outside_clause c) c w (Break t v z) (Break t v z) refl tt x
part_out asked c w (Next v z) x = out_as asked (outside_clause c) c w (Next v z) (Next v z) refl x.placed x
part_out asked c w (Return m v z) x = out_as asked (outside_clause c) c w (Return m v z) (Return m v z) refl tt x
part_out asked c w (Retry z) x = absurd (not_both false x.placed refl)
part_out asked c w (Spent z) x = out_as asked (outside_clause c) c w (Spent z) (Spent z) refl tt x
part_out asked c w (Full z) x = out_as asked (outside_clause c) c w (Full z) (Full z) refl tt x

-- Loops, rescues and ensure parts.

module _ (k : Known) (c : Around) where
  left_out : (w : World) (t : Target) (v : Value) (z : World) → GoodOut k.asked (in_loop c) w (Break t v z) → GoodOut k.asked c w (loop_left t v z)
  left_out w to_loop v z x = out_as k.asked (in_loop c) c w (Break to_loop v z) (Done v z) refl tt x
  left_out w (to_call n) v z x = out_as k.asked (in_loop c) c w (Break (to_call n) v z) (Break (to_call n) v z) refl tt x

  turn_out : (w : World) (o : Outcome) (again : Run) → Keeps k c again → k.holds w → GoodOut k.asked (in_loop c) w o → GoodOut k.asked c w (after_turn o again)
  turn_out w (Done v z) again h p x = keep_on k c again h w z x.leads p x.good
  turn_out w (Raise v z) again h p x = out_as k.asked (in_loop c) c w (Raise v z) (Raise v z) refl tt x
  turn_out w (Break t v z) again h p x = left_out w t v z x
  turn_out w (Next v z) again h p x = keep_on k c again h w z x.leads p x.good
  turn_out w (Return n v z) again h p x = out_as k.asked (in_loop c) c w (Return n v z) (Return n v z) refl tt x
  turn_out w (Retry z) again h p x = out_as k.asked (in_loop c) c w (Retry z) (Retry z) refl x.placed x
  turn_out w (Spent z) again h p x = out_as k.asked (in_loop c) c w (Spent z) (Spent z) refl tt x
  turn_out w (Full z) again h p x = out_as k.asked (in_loop c) c w (Full z) (Full z) refl tt x

  keep_turn : (inner again : Run) → Keeps k (in_loop c) inner → Keeps k c again → Keeps k c (λ w. after_turn (inner w) again)
  keep_turn inner again h g = record { by = λ w p s. turn_out w (inner w) again g p (h.by w p s) }

  keep_spent : Keeps k c Spent
  keep_spent = keep_stay k c Spent (λ w. refl) (λ w. tt)

  keep_loop : (fuel : ℕ) (u : Bool) (test inner : Run) → Keeps k c test → Keeps k (in_loop c) inner → Keeps k c (loop fuel u test inner)
  keep_loop zero u test inner h g = keep_then k c test _ h (λ v. keep_choose k c (goes_on u v) _ _ (keep_pay k c Spent keep_spent) (keep_done k c nil))
  keep_loop (suc fuel) u test inner h g =
      keep_then k c test _ h (λ v. keep_choose k c (goes_on u v) _ _ (keep_pay k c _ (keep_turn inner (loop fuel u test inner) g (keep_loop fuel u test inner h g))) (keep_done k c nil))

  pub keep_loop_from : (first : Bool) (fuel : ℕ) (u : Bool) (test inner : Run) → Keeps k c test → Keeps k (in_loop c) inner → Keeps k c (loop_from first fuel u test inner)
  keep_loop_from false fuel u test inner h g = keep_loop fuel u test inner h g
  keep_loop_from true fuel u test inner h g = keep_turn inner (loop fuel u test inner) g (keep_loop fuel u test inner h g)

  retried_out : (w : World) (o : Outcome) (again : Run) → Keeps k c again → k.holds w → GoodOut k.asked (in_clause c) w o → GoodOut k.asked c w (retried o again)
  retried_out w (Done v z) again h p x = out_as k.asked (in_clause c) c w (Done v z) (Done v z) refl tt x
  retried_out w (Raise v z) again h p x = out_as k.asked (in_clause c) c w (Raise v z) (Raise v z) refl tt x
  retried_out w (Break t v z) again h p x = out_as k.asked (in_clause c) c w (Break t v z) (Break t v z) refl tt x
  retried_out w (Next v z) again h p x = out_as k.asked (in_clause c) c w (Next v z) (Next v z) refl x.placed x
  retried_out w (Return n v z) again h p x = out_as k.asked (in_clause c) c w (Return n v z) (Return n v z) refl tt x
  retried_out w (Retry z) again h p x = keep_on k c (pay again) (keep_pay k c again h) w z x.leads p x.good
  retried_out w (Spent z) again h p x = out_as k.asked (in_clause c) c w (Spent z) (Spent z) refl tt x
  retried_out w (Full z) again h p x = out_as k.asked (in_clause c) c w (Full z) (Full z) refl tt x

  rescued_out : (w : World) (o : Outcome) (clauses last : Value → Run) → ((v : Value) → Keeps k c (clauses v)) → ((v : Value) → Keeps k c (last v)) → k.holds w → GoodOut k.asked c w o → GoodOut k.asked c w (rescued o clauses last)
  rescued_out w (Done v z) clauses last h g p x = keep_on k c (last v) (g v) w z x.leads p x.good
  rescued_out w (Raise v z) clauses last h g p x = keep_on k c (clauses v) (h v) w z x.leads p x.good
  rescued_out w (Break t v z) clauses last h g p x = x
  rescued_out w (Next v z) clauses last h g p x = x
  rescued_out w (Return n v z) clauses last h g p x = x
  rescued_out w (Retry z) clauses last h g p x = x
  rescued_out w (Spent z) clauses last h g p x = x
  rescued_out w (Full z) clauses last h g p x = x

  keep_clauses : (clauses : Value → Run) (again : Run) → ((v : Value) → Keeps k (in_clause c) (clauses v)) → Keeps k c again → (v : Value) → Keeps k c (λ z. retried (clauses v z) again)
  keep_clauses clauses again h g v = record { by = λ w p s. retried_out w (clauses v w) again g p ((h v).by w p s) }

  pub keep_rescuing : (fuel : ℕ) (inner : Run) (clauses last : Value → Run) → Keeps k c inner → ((v : Value) → Keeps k (in_clause c) (clauses v)) → ((v : Value) → Keeps k c (last v)) → Keeps k c (rescuing fuel inner clauses last)
  keep_rescuing zero inner clauses last h g l = record { by = λ w p s. rescued_out w (inner w) _ last (keep_clauses clauses Spent g keep_spent) l p (h.by w p s) }
  keep_rescuing (suc fuel) inner clauses last h g l = record { by = λ w p s. rescued_out w (inner w) _ last (keep_clauses clauses _ g (keep_rescuing fuel inner clauses last h g l)) l p (h.by w p s) }

  finished_out : (w : World) (o : Outcome) (last : Run) → Keeps k c last → k.holds w → GoodOut k.asked c w o → GoodOut k.asked c w (finished o last)
  finished_out w (Done v z) last h p x = keep_on k c _ (keep_then k c last (λ ignored. Done v) h (λ u. keep_stay k c (Done v) (λ y. refl) (λ y. tt))) w z x.leads p x.good
  finished_out w (Raise v z) last h p x = keep_on k c _ (keep_then k c last (λ ignored. Raise v) h (λ u. keep_stay k c (Raise v) (λ y. refl) (λ y. tt))) w z x.leads p x.good
  finished_out w (Break t v z) last h p x = keep_on k c _ (keep_then k c last (λ ignored. Break t v) h (λ u. keep_stay k c (Break t v) (λ y. refl) (λ y. tt))) w z x.leads p x.good
  finished_out w (Next v z) last h p x = keep_on k c _ (keep_then k c last (λ ignored. Next v) h (λ u. keep_stay k c (Next v) (λ y. refl) (λ y. x.placed))) w z x.leads p x.good
  finished_out w (Return n v z) last h p x = keep_on k c _ (keep_then k c last (λ ignored. Return n v) h (λ u. keep_stay k c (Return n v) (λ y. refl) (λ y. tt))) w z x.leads p x.good
  finished_out w (Retry z) last h p x = keep_on k c _ (keep_then k c last (λ ignored. Retry) h (λ u. keep_stay k c Retry (λ y. refl) (λ y. x.placed))) w z x.leads p x.good
  finished_out w (Spent z) last h p x = x
  finished_out w (Full z) last h p x = x

  pub keep_finished : (m last : Run) → Keeps k c m → Keeps k c last → Keeps k c (λ w. finished (m w) last)
  keep_finished m last h g = record { by = λ w p s. finished_out w (m w) last g p (h.by w p s) }
