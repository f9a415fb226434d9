-- What the levels are, one by one.
use Rattle.std.proofs.Common.{◌≡◌, refl, sym, ap, ◌∙◌, subst, ℕ, ◌+◌, ◌<◌, true, false, List, [], ◌∷◌, ◌++◌, length, map, reverse, get_or, take, drop, Result, Ok, Err, arith}
use Rattle.std.proofs.lemmas.List.{map_more, map-append, reverse-append, take-append-drop}
use Rattle.std.proofs.Math.Seq.{take-length}
use Rattle.ruby_lexer.specs.declared.token.Token.{Token}
use Rattle.ruby_lexer.specs.Bytes.{Bytes}
use Rattle.ruby_lexer.specs.Pieces.{Toks, none, seen_all}
use Rattle.ruby_tree.specs.Tree.{Tree}
use Rattle.ruby_tree.specs.Rules.{Scope, DoBlockOwner}
use Rattle.tree_builder.specs.declared.Subtree.{Subtree}
use Rattle.tree_builder.specs.Subtrees.{Holds}
use Rattle.reference_parser.specs.Answers.{taken, Parse, ◌>>=◌}
use Rattle.reference_parser.specs.ReadItems.{Readers}
use Rattle.reference_parser.specs.ReadLevels.{read_rest, compare, ranged, chosen, at_level, climb, read_level}
use Rattle.reference_parser.specs.ReadLevels as reader
use Rattle.parse_state.specs.declared.failures.Failure.{Failure}
use Rattle.parse_state.specs.declared.standing.Parser.{Parser}
use Rattle.parse_state.specs.Standing.{At}
use Rattle.parse_state.specs.Gives.{Gives}
use Rattle.parse_state.proofs.Steps.{named, and_then, failed}
use Rattle.parse_operators.specs.declared.precedence.PrecedenceLevel.{PrecedenceLevel}
use Rattle.parse_operators.specs.declared.precedence.PrecedenceLevel.TheVariants as level
use Rattle.parse_operators.specs.declared.operations.BinaryOperation.{BinaryOperation}
use Rattle.parse_operators.specs.Levels.{level_of, levels_of, operation_of, joins, make_of, one_turn}

-- no operator stands where no token is left
module _ (source : Bytes) where
  joins_none : (v : PrecedenceLevel) → joins source v none ≡ false
  joins_none level.Product = refl
  joins_none level.Sum = refl
  joins_none level.Shift = refl
  joins_none level.Intersection = refl
  joins_none level.Union = refl
  joins_none level.Order = refl
  joins_none level.Equality = refl
  joins_none level.Conjunctions = refl
  joins_none level.Disjunctions = refl
  joins_none level.Ranges = refl
  joins_none level.Conditional = refl

  pub joins_some : (v : PrecedenceLevel) (ts : List Token) → joins source v (seen_all ts) ≡ true → 0 < length ts
  joins_some v [] is = absurd (let e : true ≡ false = sym is ∙ joins_none v in cc)
  joins_some v (t ∷ ts) is = omega arith

-- the levels up to one more
levels_next : (vs : List PrecedenceLevel) (e : PrecedenceLevel) (i : ℕ) → i < length vs → levels_of (take (i + 1) vs) ≡ level_of (get_or vs i e) ∷ levels_of (take i vs)
levels_next vs e i less = ap reverse (map_more level_of vs i e less) ∙ reverse-append (map level_of (take i vs)) (level_of (get_or vs i e) ∷ [])

levels_behind : (vs : List PrecedenceLevel) (i : ℕ) → levels_of vs ≡ levels_of (drop i vs) ++ levels_of (take i vs)
levels_behind vs i = ap levels_of (sym (take-append-drop i vs)) ∙ ap reverse (map-append level_of (take i vs) (drop i vs)) ∙ reverse-append (map level_of (take i vs)) (map level_of (drop i vs))

module _ (source : Bytes) (Q : Readers) (d : DoBlockOwner) (o : Toks) (a : Tree) (w : Toks) (s : Scope) {p q : Parser} {result : Result Subtree Failure} where
  pub climbed_none : {vs : List reader.Level} → vs ≡ [] → Gives Holds p q result (taken a w s) → Gives Holds p q result (climb source Q vs d o a w s)
  unfolding climb
  climbed_none is g = named (ap (λ (us : List reader.Level). climb source Q us d o a w s) is) g

  climbed : {v : reader.Level} {vs us : List reader.Level} → vs ≡ v ∷ us → Gives Holds p q result (climb source Q us d o a w s >>= λ b r z. at_level source Q v (read_level source Q us d) d o b r z) → Gives Holds p q result (climb source Q vs d o a w s)
  unfolding climb read_level
  climbed is g = named (ap (λ (us : List reader.Level). climb source Q us d o a w s) is) g

  -- one level more, behind what was read of those before it
  pub one_more : {u : Parser} {x : Subtree} (vs : List PrecedenceLevel) (e : PrecedenceLevel) (i : ℕ) → i < length vs → Gives Holds p u (Ok x) (climb source Q (levels_of (take i vs)) d o a w s) → ((t : Tree) (r : Toks) (z : Scope) → At u r z → Holds u.symbols x t → Gives Holds u q result (at_level source Q (level_of (get_or vs i e)) (read_level source Q (levels_of (take i vs)) d) d o t r z)) → Gives Holds p q result (climb source Q (levels_of (take (i + 1) vs)) d o a w s)
  one_more vs e i less read on = climbed (levels_next vs e i less) (and_then read on)

  -- all levels
  pub all_over : (vs : List PrecedenceLevel) (i : ℕ) → i ≡ length vs → Gives Holds p q result (climb source Q (levels_of (take i vs)) d o a w s) → Gives Holds p q result (climb source Q (levels_of vs) d o a w s)
  all_over vs i is g = named (ap (λ (us : List PrecedenceLevel). climb source Q (levels_of us) d o a w s) (sym (ap (λ (n : ℕ). take n vs) is ∙ take-length vs))) g

-- where a level fails, so do those behind it
module _ (source : Bytes) (Q : Readers) (d : DoBlockOwner) (o : Toks) (a : Tree) (w : Toks) (s : Scope) {p q : Parser} {e : Failure} where
  stopped_behind : (us vs : List reader.Level) → Gives Holds p q (Err e) (climb source Q vs d o a w s) → Gives Holds p q (Err e) (climb source Q (us ++ vs) d o a w s)
  stopped_behind [] vs g = g
  stopped_behind (u ∷ us) vs g = climbed source Q d o a w s refl (failed _ (stopped_behind us vs g))

  pub stopped_over : (vs : List PrecedenceLevel) (i : ℕ) → Gives Holds p q (Err e) (climb source Q (levels_of (take i vs)) d o a w s) → Gives Holds p q (Err e) (climb source Q (levels_of vs) d o a w s)
  stopped_over vs i g = named (ap (λ (us : List reader.Level). climb source Q us d o a w s) (levels_behind vs i)) (stopped_behind (levels_of (drop i vs)) (levels_of (take i vs)) g)

-- what a level does, by what it is
module _ (source : Bytes) (Q : Readers) (d : DoBlockOwner) (o : Toks) (a : Tree) (w : Toks) (s : Scope) {p q : Parser} {result : Result Subtree Failure} where
  module _ (O : Parse Tree) {v : PrecedenceLevel} where
    pub at_equality : v ≡ level.Equality → Gives Holds p q result (compare source O o a w s) → Gives Holds p q result (at_level source Q (level_of v) O d o a w s)
    unfolding at_level
    at_equality is g = named (ap (λ (u : PrecedenceLevel). at_level source Q (level_of u) O d o a w s) is) g

    pub at_ranges : v ≡ level.Ranges → Gives Holds p q result (ranged source O o a w s) → Gives Holds p q result (at_level source Q (level_of v) O d o a w s)
    unfolding at_level
    at_ranges is g = named (ap (λ (u : PrecedenceLevel). at_level source Q (level_of u) O d o a w s) is) g

    pub at_conditional : v ≡ level.Conditional → Gives Holds p q result (chosen source Q d o a w s) → Gives Holds p q result (at_level source Q (level_of v) O d o a w s)
    unfolding at_level
    at_conditional is g = named (ap (λ (u : PrecedenceLevel). at_level source Q (level_of u) O d o a w s) is) g

module _ (source : Bytes) (Q : Readers) (d : DoBlockOwner) (o : Toks) (a : Tree) (w : Toks) (s : Scope) (O : Parse Tree) where
  pub at_others : (v : PrecedenceLevel) → (v ≡ level.Equality → ⊥) → (v ≡ level.Ranges → ⊥) → (v ≡ level.Conditional → ⊥) → at_level source Q (level_of v) O d o a w s ≡ read_rest source (joins source v) (make_of source (operation_of v)) O o a w s
  unfolding at_level
  at_others level.Product x y z = refl
  at_others level.Sum x y z = refl
  at_others level.Shift x y z = refl
  at_others level.Intersection x y z = refl
  at_others level.Union x y z = refl
  at_others level.Order x y z = refl
  at_others level.Equality x y z = absurd (x refl)
  at_others level.Conjunctions x y z = refl
  at_others level.Disjunctions x y z = refl
  at_others level.Ranges x y z = absurd (y refl)
  at_others level.Conditional x y z = absurd (z refl)

-- an operation by another name
pub turned_by : {p q : Parser} {result : Result Subtree Failure} {k l : BinaryOperation} (source : Bytes) (O : Parse Tree) (o : Toks) (a : Tree) (w : Toks) (s : Scope) → k ≡ l → Gives Holds p q result (one_turn source k O o a w s) → Gives Holds p q result (one_turn source l O o a w s)
turned_by {p} {q} {result} source O o a w s is g = subst (λ (n : BinaryOperation). Gives Holds p q result (one_turn source n O o a w s)) is g
