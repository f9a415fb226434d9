use Rattle.tree_laws.proofs.Apart.{places_apart}
use Rattle.tree_laws.proofs.LocalsHeld.{housed}
use Rattle.tree_laws.proofs.TextsFormed.{text_formed}
use Rattle.compile_laws.proofs.FoundPrograms.{all_known, numbered}
use Rattle.compile_laws.proofs.found.texts_find_their_bodies.Goals as goal

pub returns : goal.returns
returns c = record {
  each = λ path source t R. all_known path t (text_formed source t R) (housed source t R) (places_apart source t R);
  number = λ path source t n R less. numbered path t (text_formed source t R) (housed source t R) (places_apart source t R) n less;
}
