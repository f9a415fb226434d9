use Rattle.code_meaning.proofs.Once as once
use Rattle.code_meaning.proofs.laws.runs_have_one_outcome.Goals as goal

pub returns : goal.returns
returns c = λ files b seqs bodies seq frame p st w o o1 r s. once.one_run files b seqs bodies r o1 s
