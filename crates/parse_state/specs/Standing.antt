-- Where a parser stands, and what stays of it when it goes on.
use Rattle.std.specs.Prelude.{◌≡◌, ◌≤◌, List, ◌++◌, length}
use Rattle.ruby_lexer.specs.Bytes.{Bytes}
use Rattle.ruby_lexer.specs.Pieces.{Toks, seen_all}
use Rattle.ruby_tree.specs.Names.{Extends}
use Rattle.ruby_tree.specs.Rules.{Scope}
use Rattle.parse_state.specs.declared.standing.Parser.{Parser}

-- The parser stands before these tokens, in this scope.
pub record At (p : Parser) (w : Toks) (s : Scope) : Type 0 where
  pub tokens : seen_all p.rest.now ≡ w
  pub locals : p.locals ≡ s.locals
  pub clause : p.in_clause ≡ s.clause

-- what stands before a parser, and its scope
abbrev pub toks_of : Parser → Toks
toks_of p = seen_all p.rest.now

abbrev pub scope_of : Parser → Scope
scope_of p = record { locals = p.locals; clause = p.in_clause }

-- Locals with newer ones in front of them.
pub record Keeps (old new : List Bytes) : Type 0 where
  pub newer : List Bytes
  pub is : new ≡ newer ++ old

-- The parser q is p later on: its names are those of p and more, its locals too, and no more tokens are left than before.
pub record Later (p q : Parser) : Type 0 where
  pub names : Extends p.symbols q.symbols
  pub locals : Keeps p.locals q.locals
  pub rest : length q.rest.now ≤ length p.rest.now
