-- What is said of a part of the grammar: where it is placed it is formed, and behind it one is in a rescue clause or not as before it.
use Rattle.std.proofs.Common.{◌≡◌, ◌∙◌, ◌⊎◌, inl, inr, ℕ, zero, suc, ◌+◌, ◌<◌, Bool, true, false, not, ◌||◌, if◌then◌else◌, List, [], ◌∷◌, ◌++◌, length, refl, sym, ap, subst, arith}
use Rattle.std.specs.Prelude.{⊤}
use Rattle.std.specs.List.{IsDistinct, AllByRecursion}
use Rattle.std.proofs.lemmas.Bool.{not-false}
use Rattle.std.proofs.lemmas.List.Elements.{All-from_recursion}
use Rattle.ruby_lexer.specs.Bytes.{Bytes, same, is_in}
use Rattle.ruby_tree.specs.Tree.{SourcePosition, Tree, at, rescue_sequence, ensure_sequence, body, Trees, no_more, more, Pairs, Pieces, Other, without, with, Whens, Rescues, Params, no_param, required, optional, rest_param, block_param}
use Rattle.ruby_tree.specs.Build.{is_there, spread_at}
use Rattle.ruby_tree.specs.Placement.{Home, Around, in_loop, in_block, in_clause, outside_clause, at_home, names_of, stands_twice}
use Rattle.ruby_meaning.specs.Locals.{names_of_params}
use Rattle.reference_laws.specs.Placed.{IsPlaced, TreesPlaced, OtherPlaced, PairsPlaced, PiecesPlaced, WhensPlaced, ClausesPlaced, ParamsPlaced}
use Rattle.tree_laws.specs.Formed.{HasTreeAt, AreSpread, HasOneBlock, InOrder, IsFormed, IsBody, BlockFormed, IsRescuePart, IsEnsurePart, TreesFormed, OtherFormed, PairsFormed, PiecesFormed, WhensFormed, ClausesFormed, ParamsFormed}

-- from where one is in a clause or not to where one is or not: what is placed is formed
pub record Forming (s : Bool) (K : Around → Type 0) (H : Bool → Type 0) (z : Bool) : Type 0 where
  pub kept : z ≡ s
  pub is : (c : Around) → c.clause ≡ s → K c → H s

abbrev pub FormingTree : Bool → Tree → Bool → Type 0
FormingTree s t z = Forming s (λ c. IsPlaced c t) (λ b. IsFormed b t) z

abbrev pub FormingTrees : Bool → Trees → Bool → Type 0
FormingTrees s ts z = Forming s (λ c. TreesPlaced c ts) (λ b. TreesFormed b ts) z

abbrev pub FormingOther : Bool → Other → Bool → Type 0
FormingOther s v z = Forming s (λ c. OtherPlaced c v) (λ b. OtherFormed b v) z

abbrev pub FormingBlock : Bool → Other → Bool → Type 0
FormingBlock s v z = Forming s (λ c. OtherPlaced (in_block c) v) (λ b. BlockFormed v) z

abbrev pub FormingPairs : Bool → Pairs → Bool → Type 0
FormingPairs s ps z = Forming s (λ c. PairsPlaced c ps) (λ b. PairsFormed b ps) z

abbrev pub FormingPieces : Bool → Pieces → Bool → Type 0
FormingPieces s ps z = Forming s (λ c. PiecesPlaced c ps) (λ b. PiecesFormed b ps) z

abbrev pub FormingWhens : Bool → Whens → Bool → Type 0
FormingWhens s ws z = Forming s (λ c. WhensPlaced c ws) (λ b. WhensFormed b ws) z

-- the clauses of a rescue that begins there
abbrev pub FormingClauses : Bool → Rescues → Bool → Type 0
FormingClauses s rs z = Forming s (λ c. ClausesPlaced (in_clause c) rs) (λ b. ClausesFormed true rs) z

abbrev pub FormingParams : Bool → Params → Bool → Type 0
FormingParams s ps z = Forming s (λ c. ParamsPlaced c ps) (λ b. ParamsFormed b ps) z

-- a part without a tree
pub still : {s : Bool} {K : Around → Type 0} → Forming s K (λ b. ⊤) s
still = record { kept = refl; is = λ c e k. tt }

infixr 10 ◌⊕◌
infixr 10 ◌⊗◌
-- two parts, in the order of the text
pub ◌⊕◌ : {s y z : Bool} {K J : Around → Type 0} {H G : Bool → Type 0} → Forming s K H y → Forming y J G z → Forming s (λ c. K c × J c) (λ b. H b × G b) z
◌⊕◌ {G = G} a d = record { kept = d.kept ∙ a.kept; is = λ c e k. (a.is c e k.0, subst G a.kept (d.is c (e ∙ sym a.kept) k.1)) }

-- two parts, the later one first
pub ◌⊗◌ : {s y z : Bool} {K J : Around → Type 0} {H G : Bool → Type 0} → Forming s K H y → Forming y J G z → Forming s (λ c. J c × K c) (λ b. G b × H b) z
◌⊗◌ {G = G} a d = record { kept = d.kept ∙ a.kept; is = λ c e k. (subst G a.kept (d.is c (e ∙ sym a.kept) k.0), a.is c e k.1) }

-- a part behind one that leaves nothing, and one before such a part
pub after : {s y z : Bool} {K J : Around → Type 0} {H G : Bool → Type 0} → Forming s J G y → Forming y K H z → Forming s K H z
after {H = H} a d = record { kept = d.kept ∙ a.kept; is = λ c e k. subst H a.kept (d.is c (e ∙ sym a.kept) k) }

pub before : {s y z : Bool} {K J : Around → Type 0} {H G : Bool → Type 0} → Forming s K H y → Forming y J G z → Forming s K H z
before a d = record { kept = d.kept ∙ a.kept; is = a.is }

-- a node of such parts, and one of which something else is known
pub node : {s z : Bool} {A K : Around → Type 0} {H : Bool → Type 0} → Forming s K H z → Forming s (λ c. A c × K c) H z
node a = record { kept = a.kept; is = λ c e k. a.is c e k.1 }

pub node_with : {s z : Bool} {A K : Around → Type 0} {H : Bool → Type 0} {X : Type 0} → X → Forming s K H z → Forming s (λ c. A c × K c) (λ b. X × H b) z
node_with x a = record { kept = a.kept; is = λ c e k. (x, a.is c e k.1) }

-- the body of a loop
pub looped : {s z : Bool} (t : Tree) → FormingTree s t z → Forming s (λ c. IsPlaced (in_loop c) t) (λ b. IsFormed b t) z
looped t a = record { kept = a.kept; is = λ c e k. a.is (in_loop c) e k }

-- What is spread.

-- one of the trees has this place, where the first has the place k
abbrev pub IsFrom : ℕ → Trees → ℕ → Type 0
IsFrom k no_more p = ⊥
IsFrom k (more t ts) p = (p ≡ k) ⊎ IsFrom (suc k) ts p

abbrev pub SpreadFrom : ℕ → Trees → List ℕ → Type 0
SpreadFrom k ts ks = AllByRecursion (IsFrom k ts) ks

at_place : (k : ℕ) (ts : Trees) (p j : ℕ) → IsFrom k ts p → p ≡ k + j → HasTreeAt ts j
at_place k no_more p j f h = f
at_place k (more t ts) p zero f h = tt
at_place k (more t ts) p (suc j) (inl e) h = absurd (omega (arith, e, h))
at_place k (more t ts) p (suc j) (inr f) h = at_place (suc k) ts p j f (omega (arith, h))

later : (k : ℕ) (t : Tree) (ts : Trees) (ks : List ℕ) → SpreadFrom (suc k) ts ks → SpreadFrom k (more t ts) ks
later k t ts [] h = tt
later k t ts (p ∷ ks) h = (inr h.0, later k t ts ks h.1)

pub spread_later : (b : Bool) (k : ℕ) (t : Tree) (ts : Trees) (ks : List ℕ) → SpreadFrom (suc k) ts ks → SpreadFrom k (more t ts) (spread_at b k ks)
spread_later true k t ts ks h = (inl refl, later k t ts ks h)
spread_later false k t ts ks h = later k t ts ks h

all_placed : (ts : Trees) (ks : List ℕ) → SpreadFrom 0 ts ks → AllByRecursion (HasTreeAt ts) ks
all_placed ts [] h = tt
all_placed ts (p ∷ ks) h = (at_place 0 ts p p h.0 (omega arith), all_placed ts ks h.1)

pub are_spread : (ts : Trees) (ks : List ℕ) → SpreadFrom 0 ts ks → AreSpread ts ks
are_spread ts ks h = All-from_recursion (HasTreeAt ts) ks (all_placed ts ks h)

pub none_spread : (ts : Trees) → AreSpread ts []
none_spread ts = are_spread ts [] tt

-- Blocks.

-- no argument with `&`, so a literal block is the only one
pub only_block : (v b u : Other) → (if is_there v then true else is_there b) ≡ false → HasOneBlock v u
only_block without b u h = tt
only_block (with t) b u h = absurd cc

-- Names.

pub longer_path : (xs : List Bytes) (x : Bytes) → 0 < length (xs ++ x ∷ [])
longer_path [] x = omega arith
longer_path (y ∷ xs) x = omega arith

same_names : (ps : Params) → names_of ps ≡ names_of_params ps
same_names no_param = refl
same_names (required x ps) = ap (λ xs. x ∷ xs) (same_names ps)
same_names (optional x t ps) = ap (λ xs. x ∷ xs) (same_names ps)
same_names (rest_param x ps) = ap (λ xs. x ∷ xs) (same_names ps)
same_names (block_param x ps) = ap (λ xs. x ∷ xs) (same_names ps)

both_false : (a b : Bool) → (a || b) ≡ false → (a ≡ false) × (b ≡ false)
both_false true b h = absurd cc
both_false false b h = (refl, h)

none_same : (x : Bytes) (xs : List Bytes) → is_in x xs ≡ false → AllByRecursion (λ y. same x y ≡ false) xs
none_same x [] h = tt
none_same x (y ∷ xs) h = let k = both_false (same x y) (is_in x xs) h in (k.0, none_same x xs k.1)

distinct_names : (xs : List Bytes) → stands_twice xs ≡ false → IsDistinct same xs
unfolding IsDistinct
distinct_names [] h = tt
distinct_names (x ∷ xs) h = let k = both_false (is_in x xs) (stands_twice xs) h in (none_same x xs k.0, distinct_names xs k.1)

distinct : (ps : Params) → stands_twice (names_of ps) ≡ false → IsDistinct same (names_of_params ps)
distinct ps h = distinct_names (names_of_params ps) (sym (ap stands_twice (same_names ps)) ∙ h)

-- Bodies.

pub block_formed : {s y z : Bool} (o : SourcePosition) (ps : Params) (a : Tree) → InOrder 0 ps → FormingParams false ps y → FormingTree y a z → FormingBlock s (with (at o (body ps a))) s
block_formed o ps a i h j = record { kept = refl; is = λ c e k. ((i, distinct ps k.0), (h ⊕ j).is (in_block c) refl k.1) }

pub body_formed : {y z : Bool} (o : SourcePosition) (ps : Params) (a : Tree) → InOrder 0 ps → FormingParams false ps y → FormingTree y a z → (h : Home) → IsPlaced (at_home h) (at o (body ps a)) → IsBody (at o (body ps a))
body_formed o ps a i g j h k = ((i, distinct ps k.0), (g ⊕ j).is (at_home h) refl k.1)

-- the part of an ensure
pub ensure_formed : {s z : Bool} (o : SourcePosition) (a : Tree) → FormingTree false a z → Forming s (λ c. IsPlaced c (at o (ensure_sequence a))) (λ b. IsEnsurePart (at o (ensure_sequence a))) s
ensure_formed o a h = record { kept = refl; is = λ c e k. h.is (outside_clause c) refl k.1 }

-- one clause: its classes, its name, and its body
pub one_clause : {y u z : Bool} (ts : Trees) (t : Tree) → FormingTrees true ts y → Forming y (λ c. ⊤) (λ b. ⊤) u → FormingTree u t z → Forming true (λ c. TreesPlaced c ts × IsPlaced c t) (λ b. TreesFormed b ts × IsFormed b t) z
one_clause ts t a x h = a ⊕ after x h

-- the clauses of a rescue
pub rescue_formed : {s z : Bool} (o : SourcePosition) (rs : Rescues) → FormingClauses s rs z → Forming s (λ c. IsPlaced (in_clause c) (at o (rescue_sequence rs))) (λ b. IsRescuePart (at o (rescue_sequence rs))) z
rescue_formed o rs h = record { kept = h.kept; is = λ c e k. h.is c e k.1 }

-- what may begin the rescue again
pub in_clauses : {s : Bool} (c : Around) → c.clause ≡ s → not c.clause ≡ false → s ≡ true
in_clauses c e h = sym e ∙ not-false c.clause h
