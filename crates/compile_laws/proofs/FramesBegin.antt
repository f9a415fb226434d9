-- The frames that calls make begin as their sequences ask.
use Rattle.std.proofs.Common.{◌≡◌, ℕ, Bool, true, false, refl, sym, subst, ap, ◌∙◌, List, [], ◌∷◌, length, Option, Some, None}
use Rattle.std.specs.Prelude.{cond}
use Rattle.ruby_tree.specs.Names.{Bytes}
use Rattle.ruby_tree.specs.Tree.{Tree}
use Rattle.ruby_meaning.specs.Value.{Value, Source, Code}
use Rattle.ruby_meaning.specs.Store.{Place, environment_cells}
use Rattle.ruby_meaning.specs.Locals.{place_of, params_of, locals_of, seen_by}
use Rattle.ruby_meaning.specs.World.{Given, no_block, literal_block, given_proc, Environment, Closure, World, Frame, entered}
use Rattle.ruby_meaning.specs.Sequences.{sequence_number}
use Rattle.ruby_meaning.specs.Calls.{is_entered, with_step, with_entry, enter_load, enter, count_of_params, has_block_param, all_nil, with_environment, next_environment, optional_given}
use Rattle.ruby_meaning.specs.Definitions.{code_of, closure_here}
use Rattle.ruby_meaning.specs.Loads.{file_body, file_code, file_frame}
use Rattle.ruby_meaning.specs.Levels.{Scopes}
use Rattle.ruby_meaning.proofs.LocalNames.{names_nil, names_begin}
use Rattle.ruby_meaning.specs.PlainRun.{with_turns}
use Rattle.ruby_meaning.specs.InSight.{HaveNames, HasScopes}
use Rattle.code_meaning.specs.Frames.{Tables}
use Rattle.ruby_meaning.proofs.Scopes.{scopes_open}
use Rattle.compile_table.specs.Shapes.{Where}
use Rattle.compile_table.specs.Sequences.{in_file, in_body, in_block}
use Rattle.compile_laws.specs.Finds.{FindsBody, StandsIn}
use Rattle.compile_laws.specs.Begins.{Begins, IsCodeAt}
use Rattle.compile_laws.specs.Calling.{one_deeper, with_cells, rest_value, with_rest_made, proc_value, with_proc_made, rest_of, with_cells_of, with_proc_of, locals_made, environment_of, with_locals_made, at_method, method_world, called_frame, at_block, taken, block_world, yielded_frame, at_class, class_world, opened_frame}

-- No environment is made before a body's own.

abbrev but_trace : World → World → World
but_trace w z = record w { trace = z.trace }

entry_if : (t : Bool) (load n : ℕ) (w : World) → cond t w (with_step (entered load n) w) ≡ but_trace w (cond t w (with_step (entered load n) w))
entry_if true load n w = refl
entry_if false load n w = refl

-- an entry changes the trace alone
pub entry_keeps : (load n : ℕ) (w : World) → with_entry load n w ≡ record w { trace = (with_entry load n w).trace }
entry_keeps load n w = entry_if (is_entered load n w.trace) load n w

pub enter_keeps : (source : Source) (place : ℕ) (w : World) → enter source place w ≡ record w { trace = (enter source place w).trace }
enter_keeps source place w = by_load source.load
  where
    by_load : (o : Option ℕ) → enter_load o source place w ≡ record w { trace = (enter_load o source place w).trace }
    by_load None = refl
    by_load (Some load) = entry_keeps load (sequence_number source.places place) w

rest_keeps : (t : Bool) (vs : List Value) (w : World) → (with_rest_made t vs w).environments ≡ w.environments
rest_keeps false vs w = refl
rest_keeps true vs w = refl

proc_keeps : (t : Bool) (given : Given) (w : World) → (with_proc_made t given w).environments ≡ w.environments
proc_keeps false given w = refl
proc_keeps true no_block w = refl
proc_keeps true (literal_block k) w = refl
proc_keeps true (given_proc n k) w = refl

locals_keep : (code : Code) (vs : List Value) (given : Given) (w : World) → (with_proc_of code vs given w).environments ≡ w.environments
locals_keep code vs given w = proc_keeps (has_block_param (params_of code.body)) given (with_cells_of code vs w) ∙ rest_keeps (count_of_params (params_of code.body)).rest (rest_of code vs) w

have_as : (scopes : Scopes) (all after : List Environment) (p : Option ℕ) → after ≡ all → HaveNames (length all) scopes all p → HaveNames (length after) scopes after p
have_as scopes all after p e h = subst (λ y. HaveNames (length y) scopes y p) (sym e) h

-- The locals that a body begins with have the names of its code, before those of the environment around it.
opened_scopes : (scopes : Scopes) (parent : Option ℕ) (code : Code) (vs : List Value) (given : Given) (frame : Frame) (w : World) → code.locals ≡ locals_of code.seen code.body → frame.environment ≡ environment_of code vs given w
    → HaveNames (length w.environments) scopes w.environments parent → HasScopes (code.locals ∷ scopes) frame (with_locals_made parent code vs given w)
opened_scopes scopes parent code vs given frame w are is h =
    subst (λ xs. HasScopes (xs ∷ scopes) frame (with_locals_made parent code vs given w))
    (names_begin code.seen code.body code.locals vs (optional_given code vs) (rest_value (count_of_params (params_of code.body)).rest w) (proc_value (has_block_param (params_of code.body)) given (with_cells_of code vs w)) are)
    (scopes_open scopes parent (locals_made code vs given w) frame (with_proc_of code vs given w) is (have_as scopes w.environments (with_proc_of code vs given w).environments parent (locals_keep code vs given w) h))

nil_scopes : (xs : List Bytes) (frame : Frame) (w : World) → frame.environment ≡ next_environment w → HasScopes (xs ∷ []) frame (with_environment None (all_nil xs) w)
nil_scopes xs frame w is = subst (λ ys. HasScopes (ys ∷ []) frame (with_environment None (all_nil xs) w)) (names_nil xs) (scopes_open [] None (all_nil xs) frame w is tt)

module _ (unit : Tables) where
  -- a method
  pub method_begins : (l : Where) (frame : Frame) (line : ℕ) (code : Code) (self : Value) (x : Bytes) (place : Place) (vs : List Value) (given : Given) (turns : ℕ) (w : World) → IsCodeAt unit l [] code
      → Begins unit l code.body (called_frame frame line code self x place vs given turns w) (method_world code vs given turns w)
  method_begins l frame line code self x place vs given turns w is = record {
    no_loop = is.no_loop;
    no_clause = is.no_clause;
    stands = record { of_first = is.first; of_path = is.path; of_places = is.places; of_body = is.body };
    sight = record {
      body = is.body;
      seen = is.seen;
      scopes = subst (λ s. HasScopes s (called_frame frame line code self x place vs given turns w) (method_world code vs given turns w)) (sym is.sight)
          (opened_scopes [] None code vs given (called_frame frame line code self x place vs given turns w) (at_method code turns w) is.locals refl tt);
    };
    finds = is.finds;
    outside = refl;
  }

  -- a block, where the environments outward of the one in which it was made have the names of these scopes
  pub block_begins : (l : Where) (scopes : Scopes) (frame : Frame) (line k : ℕ) (vs : List Value) (c : Closure) (turns : ℕ) (w : World) → IsCodeAt unit l scopes c.code → HaveNames (length w.environments) scopes w.environments (Some c.environment)
      → Begins unit l c.code.body (yielded_frame frame line c k vs turns w) (block_world c vs turns w)
  block_begins l scopes frame line k vs c turns w is h =
      let z : World = at_block c.code turns w in
      let same_all : z.environments ≡ w.environments = ap (λ y. y.environments) (enter_keeps c.code.source (place_of c.code.body) (one_deeper (with_turns turns w))) in
      record {
        no_loop = is.no_loop;
        no_clause = is.no_clause;
        stands = record { of_first = is.first; of_path = is.path; of_places = is.places; of_body = is.body };
        sight = record {
          body = is.body;
          seen = is.seen;
          scopes = subst (λ s. HasScopes s (yielded_frame frame line c k vs turns w) (block_world c vs turns w)) (sym is.sight)
              (opened_scopes scopes (Some c.environment) c.code (taken c.code vs z) no_block (yielded_frame frame line c k vs turns w) z is.locals refl (have_as scopes w.environments z.environments (Some c.environment) same_all h));
        };
        finds = is.finds;
        outside = refl;
      }

  -- the body of a class, which a frame opens where it stands
  pub class_begins : (l : Where) (frame : Frame) (line : ℕ) (t : Tree) (c : ℕ) (w : World) → StandsIn l frame → FindsBody unit.seqs unit.bodies (in_body l t) t
      → Begins unit (in_body l t) t (opened_frame frame line t c w) (class_world frame t w)
  class_begins l frame line t c w sd fs = record {
    no_loop = refl;
    no_clause = refl;
    stands = record { of_first = refl; of_path = sd.of_path; of_places = sd.of_places; of_body = refl };
    sight = record { body = refl; seen = refl; scopes = nil_scopes (locals_of [] t) (opened_frame frame line t c w) (with_cells (environment_cells (length (locals_of [] t))) (at_class frame t w)) refl };
    finds = fs;
    outside = refl;
  }

  -- the body of a class, where its code is one whose nodes stand there
  pub opened_begins : (l : Where) (frame : Frame) (line : ℕ) (t : Tree) (c : ℕ) (w : World) → IsCodeAt unit l [] (opened_frame frame line t c w).code → Begins unit l t (opened_frame frame line t c w) (class_world frame t w)
  opened_begins l frame line t c w is = record {
    no_loop = is.no_loop;
    no_clause = is.no_clause;
    stands = record { of_first = is.first; of_path = is.path; of_places = is.places; of_body = is.body };
    sight = record {
      body = is.body;
      seen = is.seen;
      scopes = subst (λ s. HasScopes s (opened_frame frame line t c w) (class_world frame t w)) (sym is.sight)
          (nil_scopes (locals_of [] t) (opened_frame frame line t c w) (with_cells (environment_cells (length (locals_of [] t))) (at_class frame t w)) refl);
    };
    finds = is.finds;
    outside = refl;
  }

  -- a file, whatever asks for it, and the prelude
  pub file_begins : (path : Bytes) (load : Option ℕ) (t : Tree) (outside : Option (Bytes × ℕ)) (running calling : List ℕ) (w : World) → FindsBody unit.seqs unit.bodies (in_file path t) (file_body t)
      → Begins unit (in_file path t) (file_body t) (file_frame (file_code path load t) (next_environment w) outside running calling) (with_environment None (all_nil (locals_of [] t)) w)
  file_begins path load t outside running calling w fs = record {
    no_loop = refl;
    no_clause = refl;
    stands = record { of_first = refl; of_path = refl; of_places = refl; of_body = refl };
    sight = record { body = refl; seen = refl; scopes = nil_scopes (locals_of [] t) (file_frame (file_code path load t) (next_environment w) outside running calling) w refl };
    finds = fs;
    outside = refl;
  }

  -- the code of a method and of a block that a frame makes where it stands
  pub method_code_stands : (l : Where) (frame : Frame) (t : Tree) → StandsIn l frame → FindsBody unit.seqs unit.bodies (in_body l t) t → IsCodeAt unit (in_body l t) [] (code_of frame t)
  method_code_stands l frame t sd fs = record {
    no_loop = refl;
    no_clause = refl;
    first = refl;
    path = sd.of_path;
    places = sd.of_places;
    body = refl;
    seen = refl;
    locals = refl;
    sight = refl;
    finds = fs;
  }

  pub block_code_stands : (l : Where) (frame : Frame) (t : Tree) → StandsIn l frame → frame.code.seen ≡ l.sight.seen → FindsBody unit.seqs unit.bodies (in_block l t) t
      → IsCodeAt unit (in_block l t) l.sight.scopes (closure_here frame t).code
  block_code_stands l frame t sd seen fs = record {
    no_loop = refl;
    no_clause = refl;
    first = refl;
    path = sd.of_path;
    places = sd.of_places;
    body = refl;
    seen = λ i. seen_by (seen i) (sd.of_body i) (place_of t);
    locals = refl;
    sight = λ i. locals_of (seen_by (sym seen i) (sym sd.of_body i) (place_of t)) t ∷ l.sight.scopes;
    finds = fs;
  }
