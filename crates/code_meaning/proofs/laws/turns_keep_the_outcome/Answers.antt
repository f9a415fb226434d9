use Rattle.code_meaning.proofs.Frames as frames
use Rattle.code_meaning.proofs.laws.turns_keep_the_outcome.Goals as goal

pub returns : goal.returns
returns c = record {
  one = λ files b s s1 o t h. frames.turn_keeps files b t o h;
  all = λ files b s s1 o t h. frames.turns_keep files b t o h;
}
