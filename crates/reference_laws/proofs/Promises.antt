-- What is shown of each symbol: its reader is sound and knows what is derived, and what is derived is shorter, keeps the locals and begins as
-- the rules say.
use Rattle.std.proofs.Common.{◌≡◌, ◌<◌, ◌≤◌, true, false, List, ◌++◌}
use Rattle.ruby_lexer.specs.Bytes.{Bytes}
use Rattle.ruby_lexer.specs.Pieces.{Toks}
use Rattle.ruby_tree.specs.Rules.{Scope, DoBlockOwner, begins_arg, begins_statement}
use Rattle.ruby_tree.specs.Grammar.{Rel, Rels}
use Rattle.ruby_tree.specs.FaultLine.{count_of}
use Rattle.reference_parser.specs.Answers.{Answer, taken, fault, deep, Parse}
use Rattle.reference_parser.specs.Fronts.{begins_command}
use Rattle.reference_parser.specs.ReadItems.{Readers}

-- P of what is taken
pub data Each {A : Type 0} (P : A → Toks → Scope → Type 0) : Answer A → Type 0 where
  got : {t : A} {r : Toks} {z : Scope} → P t r z → Each P (taken t r z)
  at_fault : Each P fault
  at_depth : Each P deep

-- each part that the reader takes is derived
abbrev pub Sound : {A : Type 0} → Rel A → Parse A → Type 0
Sound R Q = (w : Toks) (s : Scope) → Each (R w s) (Q w s)

pub record Sounds (R : Rels) (Q : Readers) : Type 0 where
  pub stmts : (d : DoBlockOwner) → Sound (R.stmts d) (Q.stmts d)
  pub expr : (d : DoBlockOwner) → Sound (R.expr d) (Q.expr d)
  pub test : (d : DoBlockOwner) → Sound (R.test d) (Q.test d)
  pub assigned_value : (d : DoBlockOwner) → Sound (R.assigned_value d) (Q.assigned_value d)
  pub arg : (d : DoBlockOwner) → Sound (R.arg d) (Q.arg d)
  pub minus : (d : DoBlockOwner) → Sound (R.minus d) (Q.minus d)
  pub power : (d : DoBlockOwner) → Sound (R.power d) (Q.power d)
  pub unary_operand : (d : DoBlockOwner) → Sound (R.unary_operand d) (Q.unary_operand d)
  pub else_branches : (d : DoBlockOwner) → Sound (R.else_branches d) (Q.else_branches d)

-- what is derived is taken
abbrev pub Knows : {A : Type 0} → Rel A → Parse A → Type 0
Knows {A} R Q = (w : Toks) (s : Scope) (t : A) (r : Toks) (z : Scope) → R w s t r z → Q w s ≡ taken t r z

pub record Known (R : Rels) (Q : Readers) : Type 0 where
  pub stmts : (d : DoBlockOwner) → Knows (R.stmts d) (Q.stmts d)
  pub expr : (d : DoBlockOwner) → Knows (R.expr d) (Q.expr d)
  pub test : (d : DoBlockOwner) → Knows (R.test d) (Q.test d)
  pub assigned_value : (d : DoBlockOwner) → Knows (R.assigned_value d) (Q.assigned_value d)
  pub arg : (d : DoBlockOwner) → Knows (R.arg d) (Q.arg d)
  pub minus : (d : DoBlockOwner) → Knows (R.minus d) (Q.minus d)
  pub power : (d : DoBlockOwner) → Knows (R.power d) (Q.power d)
  pub unary_operand : (d : DoBlockOwner) → Knows (R.unary_operand d) (Q.unary_operand d)
  pub else_branches : (d : DoBlockOwner) → Knows (R.else_branches d) (Q.else_branches d)

-- What is derived takes tokens; or it takes none that are not there.
abbrev pub Shorter : {A : Type 0} → Rel A → Type 0
Shorter {A} R = (w : Toks) (s : Scope) (t : A) (r : Toks) (z : Scope) → R w s t r z → count_of r < count_of w

abbrev pub NoLonger : {A : Type 0} → Rel A → Type 0
NoLonger {A} R = (w : Toks) (s : Scope) (t : A) (r : Toks) (z : Scope) → R w s t r z → count_of r ≤ count_of w

pub record Shorters (R : Rels) : Type 0 where
  pub stmts : (d : DoBlockOwner) → NoLonger (R.stmts d)
  pub expr : (d : DoBlockOwner) → Shorter (R.expr d)
  pub test : (d : DoBlockOwner) → Shorter (R.test d)
  pub assigned_value : (d : DoBlockOwner) → Shorter (R.assigned_value d)
  pub arg : (d : DoBlockOwner) → Shorter (R.arg d)
  pub minus : (d : DoBlockOwner) → Shorter (R.minus d)
  pub power : (d : DoBlockOwner) → Shorter (R.power d)
  pub unary_operand : (d : DoBlockOwner) → Shorter (R.unary_operand d)
  pub else_branches : (d : DoBlockOwner) → NoLonger (R.else_branches d)

-- The locals behind are those before, with newer ones in front of them.
pub record Keeps (s z : Scope) : Type 0 where
  pub newer : List Bytes
  pub locals : z.locals ≡ newer ++ s.locals

abbrev pub Kept : {A : Type 0} → Rel A → Type 0
Kept {A} R = (w : Toks) (s : Scope) (t : A) (r : Toks) (z : Scope) → R w s t r z → Keeps s z

pub record Keepers (R : Rels) : Type 0 where
  pub stmts : (d : DoBlockOwner) → Kept (R.stmts d)
  pub expr : (d : DoBlockOwner) → Kept (R.expr d)
  pub test : (d : DoBlockOwner) → Kept (R.test d)
  pub assigned_value : (d : DoBlockOwner) → Kept (R.assigned_value d)
  pub arg : (d : DoBlockOwner) → Kept (R.arg d)
  pub minus : (d : DoBlockOwner) → Kept (R.minus d)
  pub power : (d : DoBlockOwner) → Kept (R.power d)
  pub unary_operand : (d : DoBlockOwner) → Kept (R.unary_operand d)
  pub else_branches : (d : DoBlockOwner) → Kept (R.else_branches d)

module _ (source : Bytes) where
  -- What is derived begins an argument that is no command; or it begins a statement.
  pub record Argument (s : Scope) (w : Toks) : Type 0 where
    pub begins : begins_arg source w ≡ true
    pub alone : begins_command source s w ≡ false

  abbrev pub FirstOfArgument : {A : Type 0} → Rel A → Type 0
  FirstOfArgument {A} R = (w : Toks) (s : Scope) (t : A) (r : Toks) (z : Scope) → R w s t r z → Argument s w

  abbrev pub FirstOfStatement : {A : Type 0} → Rel A → Type 0
  FirstOfStatement {A} R = (w : Toks) (s : Scope) (t : A) (r : Toks) (z : Scope) → R w s t r z → begins_statement source w ≡ true

  pub record Firsts (R : Rels) : Type 0 where
    pub expr : (d : DoBlockOwner) → FirstOfStatement (R.expr d)
    pub test : (d : DoBlockOwner) → FirstOfStatement (R.test d)
    pub assigned_value : (d : DoBlockOwner) → FirstOfStatement (R.assigned_value d)
    pub arg : (d : DoBlockOwner) → FirstOfArgument (R.arg d)
    pub minus : (d : DoBlockOwner) → FirstOfArgument (R.minus d)
    pub power : (d : DoBlockOwner) → FirstOfArgument (R.power d)
    pub unary_operand : (d : DoBlockOwner) → FirstOfArgument (R.unary_operand d)
