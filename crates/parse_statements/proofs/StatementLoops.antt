-- What the loops over tests, modifiers and statements make, turn by turn.
use Rattle.std.proofs.Common.{◌≡◌, refl, sym, ap, ◌∙◌, subst, ℕ, suc, ◌<◌, ◌≤◌, ◌-◌, Bool, true, false, ◌||◌, List, [], ◌∷◌, length, codes, Option, Some, None, if◌then◌else◌, Result, Ok, Err, IfOk, arith}
use Rattle.ruby_lexer.specs.declared.token.Token.{Token}
use Rattle.ruby_lexer.specs.Bytes.{Bytes}
use Rattle.ruby_lexer.specs.Pieces.{Toks, seen_all}
use Rattle.ruby_tree.specs.Names.{Texts}
use Rattle.ruby_tree.specs.Tree.{SourcePosition, Tree, at, Form, statements, while_loop, without, Trees, no_more, more, trees_then}
use Rattle.ruby_tree.specs.Depth.{depth}
use Rattle.ruby_tree.specs.Build.{one, alone, or_empty}
use Rattle.ruby_tree.specs.Rules.{Scope, DoBlockOwner, next, position, nowhere, is_word, in_clause, behind, loops, begins_statement}
use Rattle.ruby_tree.specs.FaultLine.{count_of}
use Rattle.tree_builder.specs.declared.Subtree.{Subtree}
use Rattle.tree_builder.specs.Subtrees.{IsNode, Holds}
use Rattle.reference_parser.specs.Answers.{Answer, taken, Parse, ◌>>=◌}
use Rattle.reference_parser.specs.Fronts.{is_newline}
use Rattle.reference_parser.specs.ReadItems.{Readers}
use Rattle.reference_parser.specs.ReadStatements.{statements_at, tests, modifiers_from, read_stmt, stmt_list, read_stmts}
use Rattle.parse_state.specs.declared.failures.Failure.{Failure}
use Rattle.parse_state.specs.declared.standing.Parser.{Parser}
use Rattle.parse_state.specs.Standing.{At}
use Rattle.parse_state.specs.Gives.{Gives}
use Rattle.parse_state.proofs.Newlines.{newline_less}
use Rattle.parse_parts.proofs.Parts.{spot_held}
use Rattle.parse_parts.proofs.Gathering.{then_taken, then_itself, if_then, both_same, gathers, trees_join, trees_end}
use Rattle.parse_statements.specs.declared.logic.LogicalOperator.{LogicalOperator}
use Rattle.parse_statements.specs.declared.logic.LogicalOperator.TheVariants as joining
use Rattle.parse_statements.specs.declared.modifiers.Modifier.{Modifier}
use Rattle.parse_statements.specs.declared.modifiers.Modifier.TheVariants as modifier
use Rattle.parse_statements.specs.Statements.{joined_by, modified_by, condition_of, one_joining, one_modifier, joining_at, modifier_at, gathered_turn, statement_turn}
use Rattle.parse_statements.proofs.Growing.{into}

some_same : {A : Type 0} {a b : A} → Some a ≡ Some b → a ≡ b
some_same is = cc

-- what is none of those that are there
pub none_of : {A : Type 0} (x : Option A) → ((y : A) → x ≡ Some y → ⊥) → x ≡ None
none_of (Some y) not = absurd (not y refl)
none_of None not = refl

-- what a test chooses
module _ {A : Type 0} {c : Bool} where
  pub is_yes : {x : A} (y : A) → c ≡ true → x ≡ (if c then x else y)
  is_yes {x} y is = sym (ap (λ (b : Bool). if b then x else y) is)

  pub is_no : {z y : A} (x : A) → c ≡ false → z ≡ y → z ≡ (if c then x else y)
  is_no {z} {y} x is same = same ∙ sym (ap (λ (b : Bool). if b then x else y) is)

-- the tree of tests that are joined, and of a statement with a modifier, by what is made
pub joined_as : {E : Type 0} (T : Texts) (r : Result Subtree E) (j k : LogicalOperator) (o v : Toks) (a b : Tree) → k ≡ j → IfOk r (λ part. Holds T part (joined_by j o v a b)) → IfOk r (λ part. Holds T part (joined_by k o v a b))
joined_as T r j k o v a b is h = subst (λ (i : LogicalOperator). IfOk r (λ part. Holds T part (joined_by i o v a b))) (sym is) h

pub modified_as : {E : Type 0} (T : Texts) (r : Result Subtree E) (j k : Modifier) (o v : Toks) (b : Bool) (a c : Tree) → k ≡ j → IfOk r (λ part. Holds T part (modified_by j o v b a c)) → IfOk r (λ part. Holds T part (modified_by k o v b a c))
modified_as T r j k o v b a c is h = subst (λ (i : Modifier). IfOk r (λ part. Holds T part (modified_by i o v b a c))) (sym is) h

-- what stands behind the word of a modifier, by the modifier
pub condition_as : {p q : Parser} {result : Result Subtree Failure} (Q : Readers) (d : DoBlockOwner) (w : Toks) (s : Scope) {j k : Modifier} → k ≡ j → Gives Holds p q result (condition_of Q j d w s) → Gives Holds p q result (condition_of Q k d w s)
condition_as {p} {q} {result} Q d w s is g = subst (λ (i : Modifier). Gives Holds p q result (condition_of Q i d w s)) (sym is) g

-- a tree at its position, of a result
pub ok_at : {E : Type 0} (T : Texts) (r : Result Subtree E) (u o : SourcePosition) (f : Form) → u ≡ o → IfOk r (λ part. Holds T part (at u f)) → IfOk r (λ part. Holds T part (at o f))
ok_at T r u o f is h = subst (λ (x : SourcePosition). IfOk r (λ part. Holds T part (at x f))) is h

-- neither joins anything where no token is left
module _ (source : Bytes) where
  pub joining_some : (ts : List Token) (j : LogicalOperator) → joining_at source (seen_all ts) ≡ Some j → 0 < length ts
  joining_some [] j is = absurd cc
  joining_some (t ∷ ts) j is = omega arith

  pub modifier_some : (ts : List Token) (k : Modifier) → modifier_at source (seen_all ts) ≡ Some k → 0 < length ts
  modifier_some [] k is = absurd cc
  modifier_some (t ∷ ts) k is = omega arith

module _ (source : Bytes) (Q : Readers) (d : DoBlockOwner) (o : Toks) (m : ℕ) where
  joins_more : (x y : Bool) (j : LogicalOperator) (a : Tree) (w : Toks) (s : Scope) → (if x then Some joining.And else if y then Some joining.Or else None) ≡ Some j →
      (if x then (Q.test d (next w) s >>= λ b q y. tests source Q m d o (joined_by joining.And o w a b) q y)
      else if y then (Q.test d (next w) s >>= λ b q y. tests source Q m d o (joined_by joining.Or o w a b) q y)
      else taken a w s)
      ≡ (one_joining Q j d o a w s >>= λ b r z. tests source Q m d o b r z)
  joins_more true y j a w s is = sym (into (Q.test d (next w) s) (λ b. joined_by joining.And o w a b) (λ z. z) (λ b r z. tests source Q m d o b r z)) ∙ ap (λ (i : LogicalOperator). one_joining Q i d o a w s >>= λ b r z. tests source Q m d o b r z) (some_same is)
  joins_more false true j a w s is = sym (into (Q.test d (next w) s) (λ b. joined_by joining.Or o w a b) (λ z. z) (λ b r z. tests source Q m d o b r z)) ∙ ap (λ (i : LogicalOperator). one_joining Q i d o a w s >>= λ b r z. tests source Q m d o b r z) (some_same is)
  joins_more false false j a w s is = absurd cc

  joins_none : (x y : Bool) (A B C : Answer Tree) → (if x then Some joining.And else if y then Some joining.Or else None) ≡ None → (if x then A else if y then B else C) ≡ C
  joins_none true y A B C is = absurd cc
  joins_none false true A B C is = absurd cc
  joins_none false false A B C is = refl

  pub tests_more : (j : LogicalOperator) (a : Tree) (w : Toks) (s : Scope) → joining_at source w ≡ Some j → tests source Q (suc m) d o a w s ≡ (one_joining Q j d o a w s >>= λ b r z. tests source Q m d o b r z)
  unfolding tests
  tests_more j a w s is = joins_more (is_word source (codes "and") w) (is_word source (codes "or") w) j a w s is

  pub tests_end : (a : Tree) (w : Toks) (s : Scope) → joining_at source w ≡ None → tests source Q (suc m) d o a w s ≡ taken a w s
  unfolding tests
  tests_end a w s is =
      joins_none (is_word source (codes "and") w) (is_word source (codes "or") w)
      (Q.test d (next w) s >>= λ b q y. tests source Q m d o (joined_by joining.And o w a b) q y)
      (Q.test d (next w) s >>= λ b q y. tests source Q m d o (joined_by joining.Or o w a b) q y)
      (taken a w s) is

-- one of five, by the modifier
picked : {A : Type 0} → Modifier → A → A → A → A → A → A
picked modifier.If a b c d e = a
picked modifier.Unless a b c d e = b
picked modifier.While a b c d e = c
picked modifier.Until a b c d e = d
picked modifier.Rescue a b c d e = e

chosen : {A : Type 0} (i u h l r : Bool) (k : Modifier) (a b c d e f : A) →
    (if i then Some modifier.If else if u then Some modifier.Unless else if h then Some modifier.While else if l then Some modifier.Until else if r then Some modifier.Rescue else None) ≡ Some k →
    (if i then a else if u then b else if h then c else if l then d else if r then e else f) ≡ picked k a b c d e
unfolding picked
chosen true u h l r k a b c d e f is = ap (λ (j : Modifier). picked j a b c d e) (some_same is)
chosen false true h l r k a b c d e f is = ap (λ (j : Modifier). picked j a b c d e) (some_same is)
chosen false false true l r k a b c d e f is = ap (λ (j : Modifier). picked j a b c d e) (some_same is)
chosen false false false true r k a b c d e f is = ap (λ (j : Modifier). picked j a b c d e) (some_same is)
chosen false false false false true k a b c d e f is = ap (λ (j : Modifier). picked j a b c d e) (some_same is)
chosen false false false false false k a b c d e f is = absurd cc

unchosen : {A : Type 0} (i u h l r : Bool) (a b c d e f : A) →
    (if i then Some modifier.If else if u then Some modifier.Unless else if h then Some modifier.While else if l then Some modifier.Until else if r then Some modifier.Rescue else None) ≡ None →
    (if i then a else if u then b else if h then c else if l then d else if r then e else f) ≡ f
unchosen true u h l r a b c d e f is = absurd cc
unchosen false true h l r a b c d e f is = absurd cc
unchosen false false true l r a b c d e f is = absurd cc
unchosen false false false true r a b c d e f is = absurd cc
unchosen false false false false true a b c d e f is = absurd cc
unchosen false false false false false a b c d e f is = refl

module _ (source : Bytes) (Q : Readers) (d : DoBlockOwner) (o : Toks) (m : ℕ) where
  modifier_turn : (k : Modifier) (b : Bool) (a : Tree) (w : Toks) (s : Scope) →
      picked k
      (Q.expr d (next w) s >>= λ c q y. modifiers_from source Q m d o false (modified_by modifier.If o w b a c) q y)
      (Q.expr d (next w) s >>= λ c q y. modifiers_from source Q m d o false (modified_by modifier.Unless o w b a c) q y)
      (Q.expr loops (next w) s >>= λ c q y. modifiers_from source Q m d o false (modified_by modifier.While o w b a c) q y)
      (Q.expr loops (next w) s >>= λ c q y. modifiers_from source Q m d o false (modified_by modifier.Until o w b a c) q y)
      (Q.expr d (next w) (in_clause s) >>= λ c q y. modifiers_from source Q m d o false (modified_by modifier.Rescue o w b a c) q (behind s y))
      ≡ (one_modifier Q k d o b a w s >>= λ t r z. modifiers_from source Q m d o false t r z)
  unfolding picked ◌>>=◌
  modifier_turn modifier.If b a w s = sym (into (Q.expr d (next w) s) (λ c. modified_by modifier.If o w b a c) (λ z. z) (λ t r z. modifiers_from source Q m d o false t r z))
  modifier_turn modifier.Unless b a w s = sym (into (Q.expr d (next w) s) (λ c. modified_by modifier.Unless o w b a c) (λ z. z) (λ t r z. modifiers_from source Q m d o false t r z))
  modifier_turn modifier.While b a w s = sym (into (Q.expr loops (next w) s) (λ c. modified_by modifier.While o w b a c) (λ z. z) (λ t r z. modifiers_from source Q m d o false t r z))
  modifier_turn modifier.Until b a w s = sym (into (Q.expr loops (next w) s) (λ c. modified_by modifier.Until o w b a c) (λ z. z) (λ t r z. modifiers_from source Q m d o false t r z))
  modifier_turn modifier.Rescue b a w s =
      sym (ap (λ (x : Answer Tree). x >>= λ t r z. modifiers_from source Q m d o false t r z) (into (Q.expr d (next w) (in_clause s)) (λ c. c) (λ z. behind s z) (λ c r z. taken (modified_by modifier.Rescue o w b a c) r z))
      ∙ into (Q.expr d (next w) (in_clause s)) (λ c. modified_by modifier.Rescue o w b a c) (λ z. behind s z) (λ t r z. modifiers_from source Q m d o false t r z))

  pub modifiers_more : (k : Modifier) (b : Bool) (a : Tree) (w : Toks) (s : Scope) → modifier_at source w ≡ Some k → modifiers_from source Q (suc m) d o b a w s ≡ (one_modifier Q k d o b a w s >>= λ t r z. modifiers_from source Q m d o false t r z)
  unfolding modifiers_from
  modifiers_more k b a w s is =
      chosen (is_word source (codes "if") w) (is_word source (codes "unless") w) (is_word source (codes "while") w) (is_word source (codes "until") w) (is_word source (codes "rescue") w) k
      (Q.expr d (next w) s >>= λ c q y. modifiers_from source Q m d o false (modified_by modifier.If o w b a c) q y)
      (Q.expr d (next w) s >>= λ c q y. modifiers_from source Q m d o false (modified_by modifier.Unless o w b a c) q y)
      (Q.expr loops (next w) s >>= λ c q y. modifiers_from source Q m d o false (modified_by modifier.While o w b a c) q y)
      (Q.expr loops (next w) s >>= λ c q y. modifiers_from source Q m d o false (modified_by modifier.Until o w b a c) q y)
      (Q.expr d (next w) (in_clause s) >>= λ c q y. modifiers_from source Q m d o false (modified_by modifier.Rescue o w b a c) q (behind s y))
      (taken a w s) is
      ∙ modifier_turn k b a w s

  pub modifiers_end : (b : Bool) (a : Tree) (w : Toks) (s : Scope) → modifier_at source w ≡ None → modifiers_from source Q (suc m) d o b a w s ≡ taken a w s
  unfolding modifiers_from
  modifiers_end b a w s is =
      unchosen (is_word source (codes "if") w) (is_word source (codes "unless") w) (is_word source (codes "while") w) (is_word source (codes "until") w) (is_word source (codes "rescue") w)
      (Q.expr d (next w) s >>= λ c q y. modifiers_from source Q m d o false (modified_by modifier.If o w b a c) q y)
      (Q.expr d (next w) s >>= λ c q y. modifiers_from source Q m d o false (modified_by modifier.Unless o w b a c) q y)
      (Q.expr loops (next w) s >>= λ c q y. modifiers_from source Q m d o false (modified_by modifier.While o w b a c) q y)
      (Q.expr loops (next w) s >>= λ c q y. modifiers_from source Q m d o false (modified_by modifier.Until o w b a c) q y)
      (Q.expr d (next w) (in_clause s) >>= λ c q y. modifiers_from source Q m d o false (modified_by modifier.Rescue o w b a c) q (behind s y))
      (taken a w s) is

-- A statement, and whether it is told to be a body: of one that is too deep to be kept that is of no account.
pub record HoldsTold (T : Texts) (x : Bool × Subtree) (t : Bool × Tree) : Type 0 where
  pub tree : Holds T x.1 t.1
  pub told : depth t.1 ≤ 200 → x.0 ≡ t.0

-- a body that is no deeper than a loop over it
kept : (o : Toks) (a c : Tree) (u b : Bool) → depth (at (position o) (while_loop (alone o a) c u b)) ≤ 200 → depth a ≤ 200
kept o a c u b small = omega arith

-- the flag of a loop over a body that is kept
pub looped_as : (T : Texts) (x : Subtree) (o : Toks) (a c : Tree) (b e u : Bool) → (depth a ≤ 200 → b ≡ e) → Holds T x (at (position o) (while_loop (alone o a) c u b)) → Holds T x (at (position o) (while_loop (alone o a) c u e))
looped_as T x o a c b e u told h = record {
  shows = h.shows;
  reads = λ small U on. subst (λ (f : Bool). IsNode U x.node (at (position o) (while_loop (alone o a) c u f))) (told (kept o a c u e small)) (h.reads small U on);
}

pub looped_ok : {E : Type 0} (T : Texts) (r : Result Subtree E) (o : Toks) (a c : Tree) (b e u : Bool) → (depth a ≤ 200 → b ≡ e) → IfOk r (λ part. Holds T part (at (position o) (while_loop (alone o a) c u b))) → IfOk r (λ part. Holds T part (at (position o) (while_loop (alone o a) c u e)))
looped_ok T (Ok x) o a c b e u told h = looped_as T x o a c b e u told h
looped_ok T (Err f) o a c b e u told h = tt

neither : (x y : Bool) (A B C : Answer Trees) → (x || y) ≡ false → (if x then A else if y then B else C) ≡ C
neither true y A B C is = absurd cc
neither false true A B C is = absurd cc
neither false false A B C is = refl

module _ (source : Bytes) (Q : Readers) (d : DoBlockOwner) where
  -- what the turns that are left make, behind the statements that were gathered
  abbrev pub statements_rest : ℕ → Trees → Parse Trees
  statements_rest m ts w s = stmt_list source Q m d w s >>= λ us r z. taken (trees_then ts us) r z

  pub statements_unroll : (m : ℕ) (ts : Trees) (w : Toks) (s : Scope) → statements_rest (suc m) ts w s ≡ statement_turn source Q d ts (statements_rest m) w s
  unfolding stmt_list statement_turn gathered_turn
  statements_unroll m ts w s =
      if_then (is_newline w) (stmt_list source Q m d (next w) s)
      (if begins_statement source w then (read_stmt source Q d w s >>= λ t q y. if is_newline q then (stmt_list source Q m d (next q) y >>= λ us r z. taken (more t us) r z) else taken (one t) q y) else taken no_more w s)
      (λ us r z. taken (trees_then ts us) r z)
      ∙ both_same (is_newline w) refl
      (if_then (begins_statement source w) (read_stmt source Q d w s >>= λ t q y. if is_newline q then (stmt_list source Q m d (next q) y >>= λ us r z. taken (more t us) r z) else taken (one t) q y) (taken no_more w s) (λ us r z. taken (trees_then ts us) r z)
      ∙ both_same (begins_statement source w)
      (gathers is_newline (stmt_list source Q m d) (λ t us. more t us) (λ t. one t) (λ us. trees_then ts us)
      (λ t. stmt_list source Q m d) (λ t us. trees_then (trees_then ts (one t)) us) (λ t. trees_then ts (one t))
      (λ t v x. refl) (λ t us. sym (trees_join ts (one t) us)) (λ t. refl) (read_stmt source Q d w s))
      (then_taken no_more w s (λ us r z. taken (trees_then ts us) r z) ∙ ap (λ (us : Trees). taken us w s) (trees_end ts)))

  pub statements_whole : (m : ℕ) (w : Toks) (s : Scope) → stmt_list source Q m d w s ≡ statements_rest m no_more w s
  statements_whole m w s = sym (then_itself (stmt_list source Q m d w s))

  -- where neither a newline nor a statement begins
  pub statements_none : (m : ℕ) (w : Toks) (s : Scope) → (is_newline w || begins_statement source w) ≡ false → stmt_list source Q (suc m) d w s ≡ taken no_more w s
  unfolding stmt_list
  statements_none m w s is =
      neither (is_newline w) (begins_statement source w) (stmt_list source Q m d (next w) s)
      (read_stmt source Q d w s >>= λ t q y. if is_newline q then (stmt_list source Q m d (next q) y >>= λ us r z. taken (more t us) r z) else taken (one t) q y)
      (taken no_more w s) is

  pub statements_empty : (w : Toks) (s : Scope) → (is_newline w || begins_statement source w) ≡ false → read_stmts source Q d w s ≡ taken (or_empty without) w s
  unfolding read_stmts
  statements_empty w s is =
      ap (λ (x : Answer Trees). x >>= λ ts r z. taken (statements_at source w ts) r z) (statements_none (count_of w) w s is)
      ∙ then_taken no_more w s (λ ts r z. taken (statements_at source w ts) r z)
      ∙ ap (λ (b : Bool). taken (if b then at (position w) (statements no_more) else at nowhere (statements no_more)) w s) is

-- the node of statements, where they begin
pub statements_begun : (source : Bytes) (w : Toks) {T : Texts} {x : Subtree} {u : SourcePosition} {ts : Trees} → (is_newline w || begins_statement source w) ≡ true → u ≡ position w → Holds T x (at u (statements ts)) → Holds T x (statements_at source w ts)
statements_begun source w {T} {x} {u} {ts} is here h = subst (λ (b : Bool). Holds T x (if b then at (position w) (statements ts) else at nowhere (statements no_more))) (sym is) (spot_held here h)

-- a newline is one token less
pub bumped_newline : {p : Parser} {w : Toks} {s : Scope} {n : ℕ} → At p w s → is_newline w ≡ true → n ≡ length p.rest.now - 1 → n < length p.rest.now
bumped_newline {p} {w} {s} {n} a is one =
    let less : length p.rest.now - 1 < length p.rest.now = newline_less p.rest.now (subst (λ (v : Toks). is_newline v ≡ true) (sym a.tokens) is) in
    omega arith
