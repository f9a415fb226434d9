-- The test whether two lists of bytes are the same one.
use Rattle.std.proofs.Common.{◌≡◌, true, refl}
use Rattle.std.proofs.lemmas.Bool.Decides.{Decides-eqb}
use Rattle.std.proofs.lemmas.Slice.Eq.{slice_eq-Decides}
use Rattle.ruby_lexer.specs.Bytes.{Bytes, same}

pub same_is : (f g : Bytes) → same f g ≡ true → f ≡ g
same_is f g h = (slice_eq-Decides Decides-eqb f g (same f g) refl).0 h

pub is_same : (f g : Bytes) → f ≡ g → same f g ≡ true
is_same f g h = (slice_eq-Decides Decides-eqb f g (same f g) refl).1 h
