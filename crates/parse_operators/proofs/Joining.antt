-- How the operators of a level join operands to the left, turn by turn.
use Rattle.std.proofs.Common.{◌≡◌, refl, sym, ap, ◌∙◌, ℕ, zero, suc, ◌<◌, Bool, true, false, List, [], ◌∷◌, length, if◌then◌else◌, Ok, Err, arith}
use Rattle.ruby_lexer.specs.declared.token.Token.{Token}
use Rattle.ruby_lexer.specs.Bytes.{Bytes}
use Rattle.ruby_lexer.specs.Pieces.{Toks, seen_all}
use Rattle.ruby_tree.specs.Tree.{Tree}
use Rattle.ruby_tree.specs.Rules.{Scope, next}
use Rattle.ruby_tree.specs.FaultLine.{count_of}
use Rattle.tree_builder.specs.declared.Subtree.{Subtree}
use Rattle.tree_builder.specs.Subtrees.{Holds}
use Rattle.reference_parser.specs.Answers.{Answer, taken, fault, deep, Parse, ◌>>=◌}
use Rattle.reference_parser.specs.ReadLevels.{rest, read_rest}
use Rattle.parse_state.specs.declared.failures.Failure.{Failure}
use Rattle.parse_state.specs.declared.standing.Parser.{Parser}
use Rattle.parse_state.specs.Standing.{At, Later}
use Rattle.parse_state.specs.Gives.{Gives, gave, no_syntax, too_deep, no_memory}
use Rattle.parse_state.proofs.Steps.{later_same, later_then, named}

-- the tokens that are left, as they are counted
seen_count : (ts : List Token) → count_of (seen_all ts) ≡ length ts
seen_count [] = refl
seen_count (t ∷ ts) = ap suc (seen_count ts)

counted : {p : Parser} {w : Toks} {s : Scope} → At p w s → count_of w ≡ length p.rest.now
counted {p} a = ap count_of (sym a.tokens) ∙ seen_count p.rest.now

-- what an operand became with what was taken behind it
record Made (f : Tree → Tree) (q v : Parser) (y : Subtree) (answer : Answer Tree) : Type 0 where
  tree : Tree
  toks : Toks
  scope : Scope
  is : answer ≡ taken tree toks scope
  stands : At v toks scope
  later : Later q v
  holds : Holds v.symbols y (f tree)

made_of : {q v : Parser} {y : Subtree} (f : Tree → Tree) (answer : Answer Tree) → Gives Holds q v (Ok y) (answer >>= λ b r z. taken (f b) r z) → Made f q v y answer
unfolding ◌>>=◌
made_of f (taken b r z) (gave n l h) = record { tree = b; toks = r; scope = z; is = refl; stands = n; later = l; holds = h }
made_of f fault g = elim g [ ]
made_of f deep g = elim g [ ]

failing : {p q v : Parser} {e : Failure} (f : Tree → Tree) (k : Tree → Parse Tree) (answer : Answer Tree) → Gives Holds q v (Err e) (answer >>= λ b r z. taken (f b) r z) → Gives Holds p v (Err e) (answer >>= k)
unfolding ◌>>=◌
failing f k (taken b r z) no_memory = no_memory
failing f k fault no_syntax = no_syntax
failing f k fault no_memory = no_memory
failing f k deep too_deep = too_deep
failing f k deep no_memory = no_memory

-- a number above another is one more than a number
record Above (m : ℕ) : Type 0 where
  less : ℕ
  is : m ≡ suc less

above : (n m : ℕ) → n < m → Above m
above n zero h = absurd (omega arith)
above n (suc k) h = record { less = k; is = refl }

module _ (source : Bytes) (P : Toks → Bool) (M : Toks → Toks → Tree → Tree → Tree) (O : Parse Tree) (o : Toks) where
  rest_stops : (m : ℕ) (a : Tree) (w : Toks) (s : Scope) → count_of w < m → P w ≡ false → rest source P M O m o a w s ≡ taken a w s
  unfolding rest
  rest_stops zero a w s less is = absurd (omega arith)
  rest_stops (suc m) a w s less is = ap (λ (b : Bool). if b then (O (next w) s >>= λ b q y. rest source P M O m o (M o w a b) q y) else taken a w s) is

  rest_goes : (m k : ℕ) (a : Tree) (w : Toks) (s : Scope) → m ≡ suc k → P w ≡ true → rest source P M O m o a w s ≡ (O (next w) s >>= λ b q y. rest source P M O k o (M o w a b) q y)
  unfolding rest
  rest_goes m k a w s is so = ap (λ (n : ℕ). rest source P M O n o a w s) is ∙ ap (λ (b : Bool). if b then (O (next w) s >>= λ b q y. rest source P M O k o (M o w a b) q y) else taken a w s) so

  -- The parser was p, and is q: what was read so far is x, and the whole answer is what the operators that are left make of it.
  pub record Going (p q : Parser) (x : Subtree) (answer : Answer Tree) : Type 0 where
    pub turns : ℕ
    pub tree : Tree
    pub toks : Toks
    pub scope : Scope
    pub stands : At q toks scope
    pub enough : count_of toks < turns
    pub holds : Holds q.symbols x tree
    pub later : Later p q
    pub is : answer ≡ rest source P M O turns o tree toks scope

  pub begins : {p : Parser} {x : Subtree} {w : Toks} {s : Scope} (a : Tree) → Holds p.symbols x a → At p w s → Going p p x (read_rest source P M O o a w s)
  unfolding read_rest
  begins {p} {x} {w} {s} a h b = record { turns = suc (count_of w); tree = a; toks = w; scope = s; stands = b; enough = omega arith; holds = h; later = later_same p; is = refl }

  pub ends : {p q : Parser} {x : Subtree} {answer : Answer Tree} (g : Going p q x answer) → P g.toks ≡ false → Gives Holds p q (Ok x) answer
  ends g is = named (g.is ∙ rest_stops g.turns g.tree g.toks g.scope g.enough is) (gave g.stands g.later g.holds)

  pub goes_on : {p q v : Parser} {x y : Subtree} {answer : Answer Tree} (g : Going p q x answer) → P g.toks ≡ true → length v.rest.now < length q.rest.now → Gives Holds q v (Ok y) (O (next g.toks) g.scope >>= λ b r z. taken (M o g.toks g.tree b) r z) → Going p v y answer
  unfolding ◌>>=◌
  goes_on {p} {q} {v} {x} {y} {answer} g is less turn =
      let k = made_of (M o g.toks g.tree) (O (next g.toks) g.scope) turn in
      let now : count_of k.toks ≡ length v.rest.now = counted k.stands in
      let before : count_of g.toks ≡ length q.rest.now = counted g.stands in
      let bound : count_of g.toks < g.turns = g.enough in
      let turns = above (count_of g.toks) g.turns g.enough in
      let more : g.turns ≡ suc turns.less = turns.is in
      record {
        turns = turns.less;
        tree = M o g.toks g.tree k.tree;
        toks = k.toks;
        scope = k.scope;
        stands = k.stands;
        enough = omega arith;
        holds = k.holds;
        later = later_then g.later k.later;
        is = g.is ∙ rest_goes g.turns turns.less g.tree g.toks g.scope turns.is is ∙ ap (λ (c : Answer Tree). c >>= λ b q y. rest source P M O turns.less o (M o g.toks g.tree b) q y) k.is;
      }

  pub fails : {p q v : Parser} {x : Subtree} {e : Failure} {answer : Answer Tree} (g : Going p q x answer) → P g.toks ≡ true → Gives Holds q v (Err e) (O (next g.toks) g.scope >>= λ b r z. taken (M o g.toks g.tree b) r z) → Gives Holds p v (Err e) answer
  fails g is turn =
      let turns = above (count_of g.toks) g.turns g.enough in
      named (g.is ∙ rest_goes g.turns turns.less g.tree g.toks g.scope turns.is is) (failing (M o g.toks g.tree) (λ b q y. rest source P M O turns.less o (M o g.toks g.tree b) q y) (O (next g.toks) g.scope) turn)
