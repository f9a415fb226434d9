use Rattle.code_meaning.proofs.Once as once
use Rattle.code_meaning.proofs.laws.runs_go_by_steps.Goals as goal

pub returns : goal.returns
returns c = record {
  unrolled = λ files b seqs bodies seq frame p st w o r. once.unrolled files b seqs bodies r;
  went = λ files b seqs bodies. once.went files b seqs bodies;
  left = λ files b seqs bodies. once.left files b seqs bodies;
  fell = λ files b seqs bodies. once.fell files b seqs bodies;
  met = λ files b seqs bodies. once.met files b seqs bodies;
  was_behind = λ files b seqs bodies. once.was_behind files b seqs bodies;
  not_stuck = λ files b seqs bodies. once.not_stuck files b seqs bodies;
  has_own_row = λ files b seqs bodies. once.has_own_row files b seqs bodies;
}
