-- What a step of a body keeps of what its frame needs: no turn is gained, and the environments keep their parents and names.
use Rattle.std.proofs.Common.{ℕ, Bool, refl, arith, List, Option}
use Rattle.ruby_tree.specs.Names.{Bytes}
use Rattle.ruby_tree.specs.Tree.{Tree, Goal}
use Rattle.ruby_meaning.specs.Value.{Value, object, Source}
use Rattle.ruby_meaning.specs.World.{Closure, Given, World, Frame, Done, Run, world_of}
use Rattle.ruby_meaning.specs.Steps.{make_string}
use Rattle.ruby_meaning.specs.Calls.{enter}
use Rattle.ruby_meaning.specs.Files.{Files}
use Rattle.ruby_meaning.specs.Invoke.{call_method}
use Rattle.ruby_meaning.specs.Definitions.{set_goal, set_local, path_from, with_closure}
use Rattle.ruby_meaning.specs.Parts.{piece_of, of_values}
use Rattle.ruby_meaning.specs.Evaluation.{set_exception, run, evaluate}
use Rattle.ruby_meaning.specs.Laws.{Leads}
use Rattle.ruby_meaning.proofs.Scopes.{scopes_stay}
use Rattle.ruby_meaning.proofs.Relation.{Keeps}
use Rattle.ruby_meaning.proofs.Changes.{keeps_enter, keeps_set_local, keeps_exception}
use Rattle.ruby_meaning.proofs.StepsOfLoads.{same_call}
use Rattle.ruby_meaning.proofs.StepsOfParts.{same_set_goal, same_path_from, same_string, same_piece, same_values}
use Rattle.ruby_meaning.proofs.Same.{Same, same_respects}
use Rattle.ruby_meaning.proofs.Fixed.{evaluates, evaluation_is_fixed, evaluated}
use Rattle.code_meaning.proofs.Slots.{slot_read, slot_set}
use Rattle.compile_laws.proofs.Ready.{Ready, KeepsReady}
use Rattle.compile_laws.proofs.Does.{Known}

-- What a world leads to is as ready.
pub ready_leads : (scopes : List (List Bytes)) (frame it : Frame) (n : ℕ) (w z : World) → Leads it w z → Ready scopes frame n w → Ready scopes frame n z
ready_leads scopes frame it n w z l r = record { turns = omega (arith, l.turns, r.turns); names = scopes_stay scopes frame w z r.names l.stay }

module _ (scopes : List (List Bytes)) (frame : Frame) (top : ℕ) where
  -- a run that is known to be the same as another
  pub ready_same : (it : Frame) (m m' : Run) → Same top it m m' → KeepsReady scopes frame top m
  ready_same it m m' h n w le r = ready_leads scopes frame it n w (world_of (m w)) (h.by w (omega (arith, r.turns))).leads r

  -- Changes of the world.

  changed : (it : Frame) (f : World → World) → Keeps it f → (n : ℕ) (w : World) → Ready scopes frame n w → Ready scopes frame n (f w)
  changed it f k n w r = ready_leads scopes frame it n w (f w) (k.leads w) r

  pub ready_entered : (source : Source) (place n : ℕ) (w : World) → Ready scopes frame n w → Ready scopes frame n (enter source place w)
  ready_entered source place = changed frame (enter source place) (keeps_enter frame source place)

  pub ready_set_local : (it : Frame) (x : Bytes) (v : Value) (n : ℕ) (w : World) → Ready scopes frame n w → Ready scopes frame n (set_local it x v w)
  ready_set_local it x v = changed frame (set_local it x v) (keeps_set_local frame it x v)

  pub ready_exception : (it : Frame) (x : Option Bytes) (n : ℕ) (w : World) → Ready scopes frame n w → Ready scopes frame n (set_exception it x w)
  ready_exception it x = changed frame (set_exception it x) (keeps_exception frame it x)

  -- no environment is looked at or changed
  pub ready_closure : (c : Closure) (n : ℕ) (w : World) → Ready scopes frame n w → Ready scopes frame n (with_closure c w)
  ready_closure c n w r = record { turns = r.turns; names = r.names }

  -- Steps.

  pub ready_goal : (it : Frame) (line : ℕ) (g : Goal) (v : Value) → KeepsReady scopes frame top (set_goal it line g v)
  ready_goal it line g v = ready_same frame _ _ (same_set_goal Same same_respects top frame it line g v)

  pub ready_path : (it : Frame) (line : ℕ) (xs : List Bytes) (v : Value) → KeepsReady scopes frame top (path_from it line xs v)
  ready_path it line xs v = ready_same frame _ _ (same_path_from Same same_respects top frame it line xs v)

  pub ready_string : (f : Bytes) → KeepsReady scopes frame top (make_string f (λ k. Done (object k)))
  ready_string f = ready_same frame _ _ (same_string Same same_respects top frame f)

  pub ready_piece : (v u : Value) → KeepsReady scopes frame top (piece_of v u)
  ready_piece v u = ready_same frame _ _ (same_piece Same same_respects top frame v u)

  done : (v : Value) → Same top frame (Done v) (Done v)
  done v = same_respects.same_stay top frame (Done v) (record { world = λ w. refl; turns = λ k w. refl; allowed = λ w. tt })

  pub ready_values : (vs : List Value) → KeepsReady scopes frame top (of_values vs Done)
  ready_values vs = ready_same frame _ _ (same_values Same same_respects top frame vs Done Done done)

  module _ (files : Files) where
    pub ready_call : (it : Frame) (line : ℕ) (self : Value) (x : Bytes) (vs : List Value) (given : Given) (bare : Bool) → KeepsReady scopes frame top (call_method files (evaluate files) it line self x vs given bare)
    ready_call it line self x vs given bare = ready_same it _ _ (same_call Same same_respects files (evaluate files) (evaluate files) top (evaluates files top) it line self x vs given bare)

    pub ready_tree : (t : Tree) (it : Frame) → KeepsReady scopes frame top (run files top (evaluate files) t it)
    ready_tree t it = ready_same it _ _ (evaluated files top t it)

-- What the induction stands on, of bodies that are evaluated.
pub known : (files : Files) (top : ℕ) → Known files (evaluate files) top
known files top = record {
  trees = λ scopes frame it e t. ready_tree scopes frame top files t it;
  calls = λ scopes frame it e line self x vs given bare. ready_call scopes frame top files it line self x vs given bare;
  paths = λ scopes frame it e line xs v. ready_path scopes frame top it line xs v;
  locals = λ scopes frame n x v w r. ready_set_local scopes frame top frame x v n w r;
  reads = λ scopes frame n x w r h. slot_read scopes x frame w r.names h;
  sets = λ scopes frame n x v w r h. slot_set scopes x frame v w r.names h;
  fixed = λ t frame w le. evaluation_is_fixed files top t frame w le;
}
