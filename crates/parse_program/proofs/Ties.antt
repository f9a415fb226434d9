-- How the symbols are tied together.
use Rattle.std.proofs.Common.{◌≡◌, refl, sym, ap, ◌∙◌, subst, ℕ, suc, Option, Some, None, Result, Ok, Err}
use Rattle.std.specs.Prelude.{MatchOption}
use Rattle.ruby_lexer.specs.Bytes.{Bytes}
use Rattle.ruby_lexer.specs.Pieces.{Toks}
use Rattle.ruby_tree.specs.Names.{Texts}
use Rattle.ruby_tree.specs.Tree.{Tree, Other, without, with}
use Rattle.ruby_tree.specs.Rules.{Scope, DoBlockOwner}
use Rattle.tree_builder.specs.declared.Subtree.{Subtree}
use Rattle.tree_builder.specs.declared.lists.ElseSubtree.{ElseSubtree}
use Rattle.tree_builder.specs.Subtrees.{Holds, HoldsOther}
use Rattle.reference_parser.specs.Answers.{Answer, taken, fault, deep}
use Rattle.reference_parser.specs.ReadItems.{Readers}
use Rattle.reference_parser.specs.ReadStatements.{readers}
use Rattle.parse_state.specs.declared.failures.Failure.{Failure}
use Rattle.parse_state.specs.declared.nesting.NestedSymbol.{NestedSymbol}
use Rattle.parse_state.specs.declared.nesting.NestedSymbol.TheVariants as symbol
use Rattle.parse_state.specs.declared.standing.Parser.{Parser}
use Rattle.parse_state.specs.Gives.{Gives, gave, no_syntax, too_deep, no_memory}
use Rattle.parse_program.specs.Knot.{HoldsFound, found, nothing, there, reader_of, read_over}

module _ (source : Bytes) where
  -- where no symbol may nest
  pub none_deep : (x : NestedSymbol) (d : DoBlockOwner) (w : Toks) (s : Scope) → reader_of (readers source 0) x d w s ≡ deep
  unfolding readers reader_of there
  none_deep symbol.Statements d w s = refl
  none_deep symbol.Expression d w s = refl
  none_deep symbol.Test d w s = refl
  none_deep symbol.AssignedValue d w s = refl
  none_deep symbol.Argument d w s = refl
  none_deep symbol.Minus d w s = refl
  none_deep symbol.Power d w s = refl
  none_deep symbol.UnaryOperand d w s = refl
  none_deep symbol.ElseBranches d w s = refl

  -- where one more may nest
  pub one_more : (n : ℕ) (x : NestedSymbol) (d : DoBlockOwner) (w : Toks) (s : Scope) → reader_of (readers source (suc n)) x d w s ≡ read_over source (readers source n) x d w s
  unfolding readers reader_of read_over
  one_more n symbol.Statements d w s = refl
  one_more n symbol.Expression d w s = refl
  one_more n symbol.Test d w s = refl
  one_more n symbol.AssignedValue d w s = refl
  one_more n symbol.Argument d w s = refl
  one_more n symbol.Minus d w s = refl
  one_more n symbol.Power d w s = refl
  one_more n symbol.UnaryOperand d w s = refl
  one_more n symbol.ElseBranches d w s = refl

  pub at_none : {n : ℕ} (x : NestedSymbol) (d : DoBlockOwner) (w : Toks) (s : Scope) → n ≡ 0 → reader_of (readers source n) x d w s ≡ deep
  at_none x d w s is = ap (λ (k : ℕ). reader_of (readers source k) x d w s) is ∙ none_deep x d w s

  pub at_one_more : {n m : ℕ} (x : NestedSymbol) (d : DoBlockOwner) (w : Toks) (s : Scope) → n ≡ suc m → reader_of (readers source n) x d w s ≡ read_over source (readers source m) x d w s
  at_one_more {n} {m} x d w s is = ap (λ (k : ℕ). reader_of (readers source k) x d w s) is ∙ one_more m x d w s

module _ {p q : Parser} where
  -- A part that is there, as one that may be missing.
  pub found_there : {x : Subtree} {a : Answer Tree} → Gives Holds p q (Ok x) a → Gives HoldsFound p q (Ok (Some x)) (there a)
  unfolding there
  found_there (gave b l h) = gave b l (found h)

  pub found_failed : {e : Failure} {a : Answer Tree} → Gives Holds p q (Err e) a → Gives HoldsFound p q (Err e) (there a)
  unfolding there
  found_failed no_syntax = no_syntax
  found_failed too_deep = too_deep
  found_failed no_memory = no_memory

  -- The same back.
  pub part_there : {x : Subtree} (a : Answer Tree) → Gives HoldsFound p q (Ok (Some x)) (there a) → Gives Holds p q (Ok x) a
  unfolding there
  part_there (taken t r z) (gave b l (found h)) = gave b l h
  part_there fault g = elim g [ ]
  part_there deep g = elim g [ ]

  pub part_nothing : {B : Type 0} (a : Answer Tree) → Gives HoldsFound p q (Ok None) (there a) → B
  unfolding there
  part_nothing (taken t r z) (gave b l h) = elim h [ ]
  part_nothing fault g = elim g [ ]
  part_nothing deep g = elim g [ ]

  pub part_failed : {e : Failure} (a : Answer Tree) → Gives HoldsFound p q (Err e) (there a) → Gives Holds p q (Err e) a
  unfolding there
  part_failed (taken t r z) no_memory = no_memory
  part_failed fault no_syntax = no_syntax
  part_failed fault no_memory = no_memory
  part_failed deep too_deep = too_deep
  part_failed deep no_memory = no_memory

-- what an option says of a part that may be missing
found_by : {T : Texts} {o : Other} (y : Option Subtree) → MatchOption y (o ≡ without) (λ part. (t : Tree) × (o ≡ with t) × Holds T part t) → HoldsFound T y o
found_by {T} None is = subst (λ (o : Other). HoldsFound T None o) (sym is) nothing
found_by {T} (Some x) (t, is, h) = subst (λ (o : Other). HoldsFound T (Some x) o) (sym is) (found h)

module _ {p q : Parser} where
  -- A part that may be missing, as an option, and back.
  pub other_found : {x : ElseSubtree} {a : Answer Other} (y : Option Subtree) → ((T : Texts) (o : Other) → HoldsOther T x o → MatchOption y (o ≡ without) (λ part. (t : Tree) × (o ≡ with t) × Holds T part t)) → Gives HoldsOther p q (Ok x) a → Gives HoldsFound p q (Ok y) a
  other_found y f (gave b l h) = gave b l (found_by y (f _ _ h))

  pub other_there : {x : Subtree} {y : ElseSubtree} {a : Answer Other} → ((T : Texts) (t : Tree) → Holds T x t → HoldsOther T y (with t)) → Gives HoldsFound p q (Ok (Some x)) a → Gives HoldsOther p q (Ok y) a
  other_there f (gave b l (found h)) = gave b l (f _ _ h)

  pub other_nothing : {y : ElseSubtree} {a : Answer Other} → ((T : Texts) → HoldsOther T y without) → Gives HoldsFound p q (Ok None) a → Gives HoldsOther p q (Ok y) a
  other_nothing f (gave b l nothing) = gave b l (f _)

  pub failed_as : {X Y A : Type 0} {H : Texts → X → A → Type 0} {K : Texts → Y → A → Type 0} {e : Failure} {b : Answer A} → Gives H p q (Err e) b → Gives K p q (Err e) b
  failed_as no_syntax = no_syntax
  failed_as too_deep = too_deep
  failed_as no_memory = no_memory

-- what is read of a symbol by its name
pub over_as : {p q : Parser} {result : Result (Option Subtree) Failure} {x y : NestedSymbol} (source : Bytes) (Q : Readers) (d : DoBlockOwner) (w : Toks) (s : Scope) → x ≡ y → Gives HoldsFound p q result (read_over source Q y d w s) → Gives HoldsFound p q result (read_over source Q x d w s)
over_as {p} {q} {result} source Q d w s is g = subst (λ (z : NestedSymbol). Gives HoldsFound p q result (read_over source Q z d w s)) (sym is) g
