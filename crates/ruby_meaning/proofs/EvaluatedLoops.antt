-- A loop and a rescue that are evaluated, unfolded: what comes again is the same node.
use Rattle.std.proofs.Common.{◌≡◌, ℕ, ◌≤◌, ◌<◌, Bool, false, refl, sym, ◌∙◌, arith}
use Rattle.ruby_tree.specs.Tree.{SourcePosition, Tree, at, while_loop, rescue, Other, without, with}
use Rattle.ruby_meaning.specs.Value.{Value}
use Rattle.ruby_meaning.specs.World.{World, Frame, Done, Run}
use Rattle.ruby_meaning.specs.Files.{Files}
use Rattle.ruby_meaning.specs.Parts.{in_loop_of, handling}
use Rattle.ruby_meaning.specs.Evaluation.{loop, rescuing, run, run_last, evaluate}
use Rattle.ruby_meaning.specs.RunLaws.{GainsNone, loop_turn, rescue_turn, last_of}
use Rattle.ruby_meaning.proofs.Catching.{handled_out}
use Rattle.ruby_meaning.proofs.Same.{Same, same_respects, loops_respected, leading}
use Rattle.ruby_meaning.proofs.Fixed.{evaluation_is_fixed, evaluated}
use Rattle.ruby_meaning.proofs.Unfolding.{turn_same, loop_unfolds, rescue_same, rescue_unfolds}

below : (a b : ℕ) → a < b → a ≤ b
below a b lt = omega arith

module _ (files : Files) where
  gains_none : (n : ℕ) (t : Tree) (frame : Frame) → GainsNone n (evaluate files t frame)
  gains_none n t frame w le = (leading files t frame w).turns

  module _ (s : SourcePosition) (frame : Frame) where
    module _ (a c : Tree) (u : Bool) where
      abbrev test : Run
      test = evaluate files c frame

      abbrev inner : Run
      inner = evaluate files a (in_loop_of frame)

      abbrev node : Run
      node = evaluate files (at s (while_loop a c u false)) frame

      -- the node is the loop at any fuel from the turns on
      node_is_loop : (n : ℕ) (w : World) → w.turns ≤ n → node w ≡ loop n u test inner w
      node_is_loop n w le =
          sym (evaluation_is_fixed files n (at s (while_loop a c u false)) frame w le) ∙
          (((loops_respected n n n (omega arith) (omega arith)).same_loop_from frame false u _ _ _ _ (evaluated files n c frame) (evaluated files n a (in_loop_of frame))).by w le).same

      pub loop_again : (w : World) → node w ≡ loop_turn u test inner node w
      loop_again w =
          let n : ℕ = w.turns in
          node_is_loop n w (omega arith) ∙
          (loop_unfolds n u test inner (gains_none n c frame) (gains_none n a (in_loop_of frame)) w (omega arith) ∙
          turn_same n u test inner (gains_none n c frame) (gains_none n a (in_loop_of frame)) n (omega arith) (loop n u test inner) node
          (λ z lt. sym (node_is_loop n z (below z.turns n lt))) w (omega arith))

    module _ (a : Tree) (o : Other) (c : Tree) where
      abbrev begun : Run
      begun = evaluate files a frame

      abbrev clauses : Value → Run
      clauses v = evaluate files c (handling frame v)

      abbrev whole : Run
      whole = evaluate files (at s (rescue a o c)) frame

      last_same : (n : ℕ) (p : Other) (v : Value) → Same n frame (run_last files n (evaluate files) p frame v) (last_of files p frame v)
      last_same n without v = same_respects.same_stay n frame (Done v) (record { world = λ w. refl; turns = λ k w. refl; allowed = λ w. tt })
      last_same n (with t) v = evaluated files n t frame

      clause_same : (n : ℕ) (v : Value) → Same n frame (run files n (evaluate files) c (handling frame v)) (clauses v)
      clause_same n v = same_respects.same_caught n frame (handling frame v) (λ x. x) (run files n (evaluate files) c (handling frame v)) (clauses v) refl (handled_out frame v) (evaluated files n c (handling frame v))

      whole_is_rescue : (n : ℕ) (w : World) → w.turns ≤ n → whole w ≡ rescuing n begun clauses (last_of files o frame) w
      whole_is_rescue n w le =
          sym (evaluation_is_fixed files n (at s (rescue a o c)) frame w le) ∙
          (((loops_respected n n n (omega arith) (omega arith)).same_rescuing frame _ _ _ _ _ _ (evaluated files n a frame) (clause_same n) (last_same n o)).by w le).same

      pub rescue_again : (w : World) → whole w ≡ rescue_turn begun clauses (last_of files o frame) whole w
      rescue_again w =
          let n : ℕ = w.turns in
          whole_is_rescue n w (omega arith) ∙
          (rescue_unfolds n begun clauses (last_of files o frame) (gains_none n a frame) (λ v. gains_none n c (handling frame v)) w (omega arith) ∙
          rescue_same n begun clauses (last_of files o frame) (gains_none n a frame) (λ v. gains_none n c (handling frame v)) n (omega arith) (rescuing n begun clauses (last_of files o frame)) whole
          (λ z lt. sym (whole_is_rescue n z (below z.turns n lt))) w (omega arith))
