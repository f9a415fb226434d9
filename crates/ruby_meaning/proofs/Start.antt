-- The plain run as a whole ends in a sound world, and its cells stay within the limit.
use Rattle.std.proofs.Common.{◌≡◌, ℕ, ◌+◌, ◌≤◌, ◌<◌, Bool, true, false, refl, sym, subst, ap, arith, leb-true, [], ◌∷◌, ◌++◌, length, None}
use Rattle.std.specs.Prelude.{nat_le}
use Rattle.ruby_tree.specs.Tree.{Tree}
use Rattle.ruby_meaning.specs.Value.{Value, Code}
use Rattle.ruby_meaning.specs.Store.{cell_limit, environment_cells}
use Rattle.ruby_meaning.specs.World.{World, Outcome, Done, Raise, Break, Next, Return, Retry, Spent, Full, Run, world_of}
use Rattle.ruby_meaning.specs.Steps.{then_do, then, reading, charged, changing, stand, returned}
use Rattle.ruby_meaning.specs.Calls.{all_nil, with_environment, next_environment}
use Rattle.ruby_meaning.specs.Files.{Files}
use Rattle.ruby_meaning.specs.Loads.{file_code, file_frame, in_file_frame, run_code, load_ruby}
use Rattle.ruby_meaning.specs.Evaluation.{eval}
use Rattle.ruby_meaning.specs.PlainRun.{Program, start_world, start_cells, top_frame, with_turns, program_run}
use Rattle.ruby_meaning.specs.Laws.{ParentsBelow, EnvironmentsBelow, IsSound}
use Rattle.ruby_meaning.proofs.Catching.{within_self, file_out}
use Rattle.ruby_meaning.proofs.StepsOfLoads.{same_load_ruby}
use Rattle.ruby_meaning.proofs.Same.{SameOut, Same, same_respects, same_eval}

-- a sound world within the limit
pub record Good (w : World) : Type 0 where
  pub sound : IsSound w
  pub within : w.cells ≤ cell_limit

-- an outcome in a good world, which has an environment where the outcome is a value
record GoodOut (o : Outcome) : Type 0 where
  good : Good (world_of o)
  there : 0 < length (world_of o).environments

-- before any environment is made
new_world : (w : World) → w.environments ≡ [] → w.closures ≡ [] → IsSound w
new_world w e c = record {
  parents = subst (ParentsBelow 0) (sym e) tt;
  closures = subst (EnvironmentsBelow (length w.environments)) (sym c) tt;
}

module _ (files : Files) (p : Program) where
  abbrev load : Run
  load = load_ruby files (eval files p.turns) top_frame 0 p.file

  loaded_good : (w : World) → Good w → 0 < length w.environments → Good (world_of (changing (with_turns p.turns) load w))
  loaded_good w g lt =
      let z : World = with_turns p.turns w in
      let x : SameOut top_frame z (load z) (load z) = (same_load_ruby Same same_respects files (eval files p.turns) (eval files p.turns) p.turns top_frame 0 p.file (λ j t frame l. same_eval files j p.turns p.turns t frame (omega arith) (omega arith))).by z (omega arith) in
      record {
        sound = x.leads.sound lt (record { parents = g.sound.parents; closures = g.sound.closures });
        within = x.leads.within g.within;
      }

  -- the load behind what the prelude left
  after : (o : Outcome) → Good (world_of o) → ((v : Value) (w : World) → o ≡ Done v w → 0 < length w.environments) → Good (world_of (then_do o (λ v. changing (with_turns p.turns) load)))
  after (Done v w) g lt = loaded_good w g (lt v w refl)
  after (Raise v w) g lt = g
  after (Break t v w) g lt = g
  after (Next v w) g lt = g
  after (Return n v w) g lt = g
  after (Retry w) g lt = g
  after (Spent w) g lt = g
  after (Full w) g lt = g

  -- the prelude's own environment is the first
  inside : (code : Code) (w : World) → w.environments ≡ [] → w.closures ≡ [] → w.turns ≤ 0 → w.cells ≤ cell_limit →
      GoodOut (in_file_frame files (eval files 0) top_frame 0 code 0 (with_environment None (all_nil code.locals) w))
  inside code w e c t le =
      let z : World = with_environment None (all_nil code.locals) w in
      let x : SameOut top_frame z (in_file_frame files (eval files 0) top_frame 0 code 0 z) (in_file_frame files (eval files 0) top_frame 0 code 0 z) =
      (same_respects.same_caught 0 top_frame (file_frame code 0 (stand top_frame 0) top_frame.running top_frame.calling) (returned 0) _ _ refl (file_out top_frame top_frame (within_self top_frame) code 0 (stand top_frame 0)) (same_eval files 0 0 0 code.body (file_frame code 0 (stand top_frame 0) top_frame.running top_frame.calling) (omega arith) (omega arith))).by z t in
      let one : 0 < length z.environments = subst (λ all. 0 < length (all ++ record { parent = None; locals = all_nil code.locals } ∷ [])) (sym e) (omega arith) in
      let sound : IsSound z = record {
        parents = subst (λ all. ParentsBelow 0 (all ++ record { parent = None; locals = all_nil code.locals } ∷ [])) (sym e) (tt, tt);
        closures = subst (EnvironmentsBelow (length z.environments)) (sym c) tt;
      } in
      record {
        good = record { sound = x.leads.sound one sound; within = x.leads.within le };
        there = less_on 0 (length z.environments) (length (world_of (in_file_frame files (eval files 0) top_frame 0 code 0 z)).environments) one x.leads.environments;
      }
    where
      less_on : (a b c : ℕ) → a < b → b ≤ c → a < c
      less_on a b c l m = omega arith

  -- the prelude, from a world without environments
  prelude_out : (code : Code) (w : World) (fits : Bool) → (fits ≡ true → w.cells + environment_cells (length code.locals) ≤ cell_limit) → w.environments ≡ [] → w.closures ≡ [] → w.turns ≤ 0 → w.cells ≤ cell_limit →
      Good (world_of (then_do (charged fits (environment_cells (length code.locals)) w (reading next_environment (λ n. changing (with_environment None (all_nil code.locals)) (in_file_frame files (eval files 0) top_frame 0 code n)))) (λ v. changing (with_turns p.turns) load)))
  prelude_out code w false h e c t le = record { sound = new_world w e c; within = le }
  prelude_out code w true h e c t le =
      let z : World = record w { cells = w.cells + environment_cells (length code.locals) } in
      let first : length z.environments ≡ 0 = ap length e in
      let x : GoodOut (in_file_frame files (eval files 0) top_frame 0 code (length z.environments) (with_environment None (all_nil code.locals) z)) =
      subst (λ n. GoodOut (in_file_frame files (eval files 0) top_frame 0 code n (with_environment None (all_nil code.locals) z))) (sym first) (inside code z e c t (h refl)) in
      after (in_file_frame files (eval files 0) top_frame 0 code (length z.environments) (with_environment None (all_nil code.locals) z)) x.good (λ v y same. subst (λ o. 0 < length (world_of o).environments) same x.there)

  start_out : (prelude : Tree) (fits : Bool) → (fits ≡ true → 0 + start_cells p ≤ cell_limit) →
      Good (world_of (charged fits (start_cells p) (start_world p) (then (run_code files (eval files 0) top_frame 0 (file_code [] None prelude)) (λ v. changing (with_turns p.turns) load))))
  start_out prelude false h = record { sound = new_world (start_world p) refl refl; within = omega arith }
  start_out prelude true h =
      let code : Code = file_code [] None prelude in
      let w : World = record (start_world p) { cells = 0 + start_cells p } in
      prelude_out code w (nat_le (w.cells + environment_cells (length code.locals)) cell_limit) (leb-true (w.cells + environment_cells (length code.locals)) cell_limit) refl refl (omega arith) (h refl)

  pub good_run : (prelude : Tree) → Good (world_of (program_run files prelude p (start_world p)))
  good_run prelude = start_out prelude (nat_le (0 + start_cells p) cell_limit) (leb-true (0 + start_cells p) cell_limit)
