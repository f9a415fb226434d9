-- What a reader with one token of lookahead answers.
use Rattle.ruby_lexer.specs.Pieces.{Toks}
use Rattle.ruby_tree.specs.Rules.{Scope}

-- A part that was taken, with the tokens and the locals behind it. Or nothing is derived. Or symbols nest too deep.
pub data Answer (A : Type 0) : Type 0 where
  taken : A → Toks → Scope → Answer A
  fault : Answer A
  deep : Answer A

abbrev pub Parse : Type 0 → Type 0
Parse A = Toks → Scope → Answer A

-- one part, and then what is read behind it
infixl 10 ◌>>=◌
unfoldable pub ◌>>=◌ : {A B : Type 0} → Answer A → (A → Toks → Scope → Answer B) → Answer B
(taken a r z) >>= f = f a r z
fault >>= f = fault
deep >>= f = deep

-- what the tokens alone decide, with those behind it
pub data Found (A : Type 0) : Type 0 where
  found : A → Toks → Found A
  missing : Found A

-- and then what is read behind it
infixl 10 ◌>>>◌
unfoldable pub ◌>>>◌ : {A B : Type 0} → Found A → (A → Toks → Answer B) → Answer B
(found a r) >>> f = f a r
missing >>> f = fault
