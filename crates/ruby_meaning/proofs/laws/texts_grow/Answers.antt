use Rattle.ruby_meaning.proofs.Same.{leading}
use Rattle.ruby_meaning.proofs.laws.texts_grow.Goals as goal

pub returns : goal.returns
returns c = record { output = λ files t frame w. (leading files t frame w).output; error_text = λ files t frame w. (leading files t frame w).error_text }
