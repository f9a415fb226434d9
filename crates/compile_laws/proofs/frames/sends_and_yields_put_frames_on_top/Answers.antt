use Rattle.compile_laws.proofs.FrameTurns as of_frames
use Rattle.compile_laws.proofs.frames.sends_and_yields_put_frames_on_top.Goals as goal

pub returns : goal.returns
returns c = record {
  send = λ files unit its seq frame p line w us x n ks flags q v given vs self rest l kind name place code turns e f g is found may stands.
      of_frames.send_turn files unit its seq frame p line w us x n ks flags q v given vs self rest l kind name place code turns e f g is found may stands;
  yields = λ files unit its seq frame p line w us n ks vs rest l scopes kind name k d turns e f of there may stands names.
      of_frames.yield_turn files unit its seq frame p line w us n ks vs rest l scopes kind name k d turns e f of there may stands names;
}
