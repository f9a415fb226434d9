-- A program that has ended leaves the same with more turns.
use Rattle.std.proofs.Common.{◌≡◌, ℕ, ◌+◌, Bool, true, false, refl, ap, ◌∙◌, arith, [], None}
use Rattle.std.specs.Prelude.{nat_le}
use Rattle.ruby_tree.specs.Tree.{Tree}
use Rattle.ruby_meaning.specs.Value.{Value, nil, yes, no, number, symbol_named, object}
use Rattle.ruby_meaning.specs.Store.{cell_limit}
use Rattle.ruby_meaning.specs.World.{World, Outcome, Done, Raise, Break, Next, Return, Retry, Spent, Full, Run}
use Rattle.ruby_meaning.specs.Steps.{then_do, then, changing, charged}
use Rattle.ruby_meaning.specs.Files.{Files}
use Rattle.ruby_meaning.specs.Loads.{file_code, run_code, load_ruby}
use Rattle.ruby_meaning.specs.Evaluation.{eval}
use Rattle.ruby_meaning.specs.PlainRun.{Program, top_frame, with_turns, start_cells, start_world, raised_answer, answer_of, plain_run}
use Rattle.ruby_meaning.specs.Laws.{given, given_out, IsOver, given_program, HasEnded}
use Rattle.ruby_meaning.proofs.StepsOfLoads.{same_load_ruby}
use Rattle.ruby_meaning.proofs.Longer.{Longer, longer_respects, longer_eval}

module _ (files : Files) (k : ℕ) where
  -- an answer says nothing of turns
  raised_same : (v : Value) (w : World) → raised_answer v (given k w) ≡ raised_answer v w
  raised_same nil w = refl
  raised_same yes w = refl
  raised_same no w = refl
  raised_same (number i) w = refl
  raised_same (symbol_named x) w = refl
  raised_same (object n) w = refl

  answer_same : (o : Outcome) → answer_of (given_out k o) ≡ answer_of o
  answer_same (Done v w) = refl
  answer_same (Raise v w) = raised_same v w
  answer_same (Break t v w) = refl
  answer_same (Next v w) = refl
  answer_same (Return n v w) = refl
  answer_same (Retry w) = refl
  answer_same (Spent w) = refl
  answer_same (Full w) = refl

  over : (o : Outcome) → HasEnded (answer_of o).ending → IsOver o
  over (Done v w) h = tt
  over (Raise v w) h = tt
  over (Break t v w) h = tt
  over (Next v w) h = tt
  over (Return n v w) h = tt
  over (Retry w) h = tt
  over (Spent w) h = h
  over (Full w) h = tt

  module _ (p : Program) where
    abbrev load : ℕ → Run
    load n = load_ruby files (eval files n) top_frame 0 p.file

    load_longer : Longer k p.turns top_frame (load p.turns) (load (p.turns + k))
    load_longer =
        same_load_ruby (Longer k) (longer_respects k) files (eval files p.turns) (eval files (p.turns + k)) p.turns top_frame 0 p.file
        (λ j t frame lt. longer_eval k files j p.turns (p.turns + k) t frame (omega arith) (omega arith))

    after_prelude : (o : Outcome) → HasEnded (answer_of (then_do o (λ v. changing (with_turns p.turns) (load p.turns)))).ending →
        answer_of (then_do o (λ v. changing (with_turns (p.turns + k)) (load (p.turns + k)))) ≡ answer_of (then_do o (λ v. changing (with_turns p.turns) (load p.turns)))
    after_prelude (Done v w) h =
        ap answer_of ((load_longer.by (with_turns p.turns w) (omega arith)).same (over (load p.turns (with_turns p.turns w)) h)) ∙ answer_same (load p.turns (with_turns p.turns w))
    after_prelude (Raise v w) h = refl
    after_prelude (Break t v w) h = refl
    after_prelude (Next v w) h = refl
    after_prelude (Return n v w) h = refl
    after_prelude (Retry w) h = refl
    after_prelude (Spent w) h = refl
    after_prelude (Full w) h = refl

    abbrev prelude_code : Tree → Run
    prelude_code t = run_code files (eval files 0) top_frame 0 (file_code [] None t)

    after_start : (t : Tree) (fits : Bool) → HasEnded (answer_of (charged fits (start_cells p) (start_world p) (then (prelude_code t) (λ v. changing (with_turns p.turns) (load p.turns))))).ending →
        answer_of (charged fits (start_cells p) (start_world p) (then (prelude_code t) (λ v. changing (with_turns (p.turns + k)) (load (p.turns + k)))))
        ≡ answer_of (charged fits (start_cells p) (start_world p) (then (prelude_code t) (λ v. changing (with_turns p.turns) (load p.turns))))
    after_start t true h = after_prelude (prelude_code t (record (start_world p) { cells = (start_world p).cells + start_cells p })) h
    after_start t false h = refl

pub same_answer : (files : Files) (k : ℕ) (prelude : Tree) (p : Program) → HasEnded (plain_run files prelude p).ending → plain_run files prelude (given_program k p) ≡ plain_run files prelude p
same_answer files k prelude p h = after_start files k p prelude (nat_le ((start_world p).cells + start_cells p) cell_limit) h
