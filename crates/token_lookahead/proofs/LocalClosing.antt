-- The locals while some of them are taken back.
use Rattle.std.proofs.Common.{◌≡◌, ℕ, ◌≤◌, List, ◌++◌, length}
use Rattle.ruby_lexer.specs.Bytes.{Bytes}
use Rattle.token_lookahead.specs.declared.locals.Locals.TheInside.{Inside}
use Rattle.token_lookahead.specs.LocalNames.{locals_of, IsIndexed}

pub record Closing (len : ℕ) (old a : Inside) : Type 0 where
  pub indexed : IsIndexed a
  pub gone : List Bytes
  pub left : gone ++ locals_of a ≡ locals_of old
  pub reached : len ≤ length a.declared.items
