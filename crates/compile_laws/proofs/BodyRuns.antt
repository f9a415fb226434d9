-- The sequence of a body, run from its entry, comes to what the body means.
use Rattle.std.proofs.Common.{zero, ◌≡◌, ℕ, suc, ◌+◌, Bool, true, false, refl, sym, subst, ap, ◌∙◌, arith, List, [], ◌∷◌}
use Rattle.ruby_tree.specs.Names.{Bytes}
use Rattle.ruby_tree.specs.Tree.{SourcePosition, Tree, at, Form, body, Params, no_param, required, optional, rest_param, block_param}
use Rattle.iseq_types.specs.declared.instructions.Instr.TheVariants.{Leave}
use Rattle.iseq_types.specs.declared.sequences.SeqKind.{SeqKind}
use Rattle.ruby_meaning.specs.Value.{Value}
use Rattle.ruby_meaning.specs.World.{World, Frame, Outcome, Done, Run, world_of}
use Rattle.ruby_meaning.specs.Steps.{changing}
use Rattle.ruby_meaning.specs.Files.{Files}
use Rattle.ruby_meaning.specs.Definitions.{set_local}
use Rattle.ruby_meaning.specs.Evaluation.{run, run_defaults, evaluate}
use Rattle.ruby_meaning.proofs.Fixed.{evaluation_is_fixed}
use Rattle.code_meaning.specs.Code.{Routine, Shape, done, op, part, finish, Placed}
use Rattle.ruby_meaning.specs.InSight.{HasScopes}
use Rattle.code_meaning.specs.Machine.{goes, Runs}
use Rattle.code_meaning.specs.Frames.{Tables, running, returning, Turns}
use Rattle.code_meaning.proofs.Placing.{placed}
use Rattle.code_meaning.proofs.Frames.{turns_keep}
use Rattle.compile_table.specs.Shapes as table
use Rattle.compile_table.specs.Shapes.{Where, shape, form_shape, params_shape}
use Rattle.compile_laws.specs.Finds.{body_routine, Finds, FindsParams, FindsBodyForm, FindsBody, StandsIn, entry, start_in, start_of}
use Rattle.compile_laws.proofs.After.{here}
use Rattle.compile_laws.proofs.Ready.{Ready}
use Rattle.compile_laws.proofs.Stack.{High}
use Rattle.compile_laws.proofs.Leave.{whole_then, left_with}
use Rattle.compile_laws.proofs.Does.{Known, with_loop, then_done, run_it, keeps, on, tree_does}
use Rattle.compile_laws.proofs.Keeps.{known}

entry_zero : (ps : Params) (l : Where) (p : ℕ) → entry l p ps zero ≡ p
entry_zero no_param l p = refl
entry_zero (required x ps) l p = entry_zero ps l p
entry_zero (optional x t ps) l p = refl
entry_zero (rest_param x ps) l p = entry_zero ps l p
entry_zero (block_param x ps) l p = entry_zero ps l p

-- with nothing on the stack, outside of the clauses of a rescue part
bare_stack : (k : Bool) (v : Value) → k ≡ false → High k v 0 []
bare_stack k v e = record { tall = refl; bottom = λ y. absurd (let z : false ≡ true = sym e ∙ y in cc) }

module _ (files : Files) (b : Tree → Frame → Run) (seqs : ℕ → Routine) (bodies : ℕ → Tree) (top : ℕ) (knows : Known files b top) where
  abbrev R : Routine → Frame → Outcome → ℕ → List Value → World → Type 0
  R seq frame c p st w = Runs files b seqs bodies seq frame p st w c

  abbrev G : Where → Frame → World → Type 0
  G l frame w = Ready l.sight.scopes frame top w

  abbrev it_runs : Where → Frame → Tree → Run
  it_runs l frame t = run_it files b seqs bodies top knows l frame t

  -- from the entry on, the parameters that were left out, and then the body
  params_does : (ps : Params) (l : Where) (seq : Routine) (frame : Frame) (p : ℕ) (s : Shape) (k : ℕ) (c : Outcome) (w : World) (next : Run) → l.clause ≡ false → StandsIn l frame → FindsParams seqs bodies l ps
      → Placed seq.body.code seq.body.rows [] 0 p (params_shape l ps s) → G l frame w → c ≡ run_defaults files top b ps (with_loop l frame) k next w
      → ((q : ℕ) (z : World) → Placed seq.body.code seq.body.rows [] 0 q s → G l frame z → c ≡ next z → R seq frame c q [] z) → R seq frame c (entry l p ps k) [] w
  params_does no_param l seq frame p s k c w next plain sd fs pl le e g = g p w pl le e
  params_does (required x ps) l seq frame p s k c w next plain sd fs pl le e g = params_does ps l seq frame p s k c w next plain sd fs pl le e g
  params_does (optional x t ps) l seq frame p s zero c w next plain sd fs pl le e g =
      let q = finish p (shape l t) in
      tree_does files b seqs bodies top knows t l seq frame [] (0 + 0) p sd fs.1 pl.0 c [] w (bare_stack l.clause frame.handled plain) le
      (whole_then files b seqs bodies seq frame c q [] (it_runs l frame t w) (λ v. changing (set_local (with_loop l frame) x v) (run_defaults files top b ps (with_loop l frame) zero next)) e
      (λ v z eo e1.
      let b1 : G l frame z = subst (λ o. G l frame (world_of o)) eo (keeps files b seqs bodies top knows l frame t w le) in
      on files b seqs bodies top knows seq frame c q (v ∷ []) z l.first (table.set_local l x) (q + 1) [] (set_local frame x v z) pl.1.0 (ap (λ y. goes (q + 1) [] y) (knows.sets l.sight.scopes frame top x v z b1 fs.0))
      (subst (λ y. R seq frame c y [] (set_local frame x v z)) (entry_zero ps l (q + 1))
      (params_does ps l seq frame (q + 1) s zero c (set_local frame x v z) next plain sd fs.2 pl.1.2 (knows.locals l.sight.scopes frame top x v z b1) e1 g))))
  params_does (optional x t ps) l seq frame p s (suc k) c w next plain sd fs pl le e g = params_does ps l seq frame (finish p (shape l t) + 1) s k c w next plain sd fs.2 pl.1.2 le e g
  params_does (rest_param x ps) l seq frame p s k c w next plain sd fs pl le e g = params_does ps l seq frame p s k c w next plain sd fs pl le e g
  params_does (block_param x ps) l seq frame p s k c w next plain sd fs pl le e g = params_does ps l seq frame p s k c w next plain sd fs pl le e g

  body_does : (ps : Params) (t : Tree) (l : Where) (kind : SeqKind) (name : Bytes) (s : SourcePosition) (frame : Frame) (w : World) → l.clause ≡ false → StandsIn l frame → FindsParams seqs bodies l ps → Finds seqs bodies l t → G l frame w
      → Runs files b seqs bodies (body_routine l kind name (at s (body ps t))) frame (entry l 0 ps frame.given) [] w (run files top b (at s (body ps t)) (with_loop l frame) w)
  body_does ps t l kind name s frame w plain sd fp fs le =
      let seq : Routine = body_routine l kind name (at s (body ps t)) in let c : Outcome = run files top b (at s (body ps t)) (with_loop l frame) w in
      params_does ps l seq frame 0 (part 0 (shape l t) (op l.first Leave done)) frame.given c w (it_runs l frame t) plain sd fp (placed (form_shape l (body ps t) s) 0) le refl
      (λ q z pl b1 e. let p1 = finish q (shape l t) in
      tree_does files b seqs bodies top knows t l seq frame [] (0 + 0) q sd fs pl.0 c [] z (bare_stack l.clause frame.handled plain) b1
      (whole_then files b seqs bodies seq frame c p1 [] (it_runs l frame t z) Done (e ∙ then_done (it_runs l frame t z))
      (λ v y eo e1. left_with files b seqs bodies seq frame c p1 (v ∷ []) y (Done v y) (here files b seqs bodies seq frame c p1 (v ∷ []) y l.first Leave pl.1.0) e1)))

-- With the evaluation itself for what a body does, nothing is assumed.
module _ (files : Files) (seqs : ℕ → Routine) (bodies : ℕ → Tree) where
  form_runs : (f : Form) (l : Where) (kind : SeqKind) (name : Bytes) (s : SourcePosition) (frame : Frame) (w : World) → l.loop ≡ false → l.clause ≡ false → StandsIn l frame → HasScopes l.sight.scopes frame w → FindsBodyForm seqs bodies l f → frame.in_loop ≡ false
      → Runs files (evaluate files) seqs bodies (body_routine l kind name (at s f)) frame (start_in l f frame.given) [] w (evaluate files (at s f) frame w)
  form_runs (body ps t) l kind name s frame w no_loop plain sd names fs out =
      let same : run files w.turns (evaluate files) (at s (body ps t)) (with_loop l frame) w ≡ evaluate files (at s (body ps t)) frame w =
      ap (λ x. run files w.turns (evaluate files) (at s (body ps t)) (record frame { in_loop = x }) w) (no_loop ∙ sym out) ∙ evaluation_is_fixed files w.turns (at s (body ps t)) frame w (omega arith) in
      subst (λ o. Runs files (evaluate files) seqs bodies (body_routine l kind name (at s (body ps t))) frame (entry l 0 ps frame.given) [] w o) same
      (body_does files (evaluate files) seqs bodies w.turns (known files w.turns) ps t l kind name s frame w plain sd fs.0 fs.1 (record { turns = omega arith; names = names }))
  form_runs f l kind name s frame w no_loop plain sd names fs out = absurd fs

  pub body_runs : (t : Tree) (l : Where) (kind : SeqKind) (name : Bytes) (frame : Frame) (w : World) → l.loop ≡ false → l.clause ≡ false → StandsIn l frame → HasScopes l.sight.scopes frame w → FindsBody seqs bodies l t → frame.in_loop ≡ false
      → Runs files (evaluate files) seqs bodies (body_routine l kind name t) frame (start_of l t frame.given) [] w (evaluate files t frame w)
  body_runs (at s f) l kind name frame w no_loop plain sd names fs out = form_runs f l kind name s frame w no_loop plain sd names fs out

-- a machine that begins with a body, and comes to an outcome, comes to what the body means
pub machine_ends : (files : Files) (unit : Tables) (t : Tree) (l : Where) (kind : SeqKind) (name : Bytes) (frame : Frame) (w : World) (o : Outcome) → l.loop ≡ false → l.clause ≡ false → StandsIn l frame → HasScopes l.sight.scopes frame w → FindsBody unit.seqs unit.bodies l t → frame.in_loop ≡ false
    → Turns files (evaluate files) (running unit (body_routine l kind name t) frame (start_of l t frame.given) [] w []) (returning o []) → o ≡ evaluate files t frame w
machine_ends files unit t l kind name frame w o no_loop plain sd names fs out ts =
    turns_keep files (evaluate files) ts (evaluate files t frame w) (evaluate files t frame w, body_runs files unit.seqs unit.bodies t l kind name frame w no_loop plain sd names fs out, refl)
