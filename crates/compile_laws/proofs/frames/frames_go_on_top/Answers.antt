use Rattle.compile_laws.proofs.FrameTurns as turns
use Rattle.compile_laws.proofs.frames.frames_go_on_top.Goals as goal

pub returns : goal.returns
returns c = record {
  runs = λ files unit l kind name t frame w h. turns.begun_runs files unit l kind name t frame w h;
  turn = λ files unit its seq frame p st rest w us q m l kind name t fr z e h. turns.frame_on_top files unit its seq frame p st rest w us q m l kind name t fr z e h;
  without = λ files b unit seq frame p st rest w us q o e. turns.without_frame files b unit seq frame p st rest w us q o e;
}
