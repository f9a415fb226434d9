-- What is said of a part of the grammar: where the locals before it are held and what it sets is, too, it is housed, and the locals behind it
-- are held.
use Rattle.std.proofs.Common.{◌≡◌, ◌∙◌, ℕ, ◌^◌, Bool, true, false, cond, ◌||◌, if◌then◌else◌, List, [], ◌∷◌, ◌++◌, Some, refl, sym, ap, None}
use Rattle.std.specs.Prelude.{⊤}
use Rattle.std.proofs.lemmas.List.Folds.{list_any-append}
use Rattle.ruby_lexer.specs.Bytes.{Bytes, same, is_in}
use Rattle.ruby_tree.specs.Tree.{SourcePosition, Goal, to_local, to_instance, to_global, to_constant, Tree, at, symbol, body, Trees, Other, without, with, Pairs, Pieces, Whens, Rescues, Params, no_param, required, optional, rest_param, block_param}
use Rattle.ruby_tree.specs.Rules.{Scope, declared}
use Rattle.ruby_tree.specs.Build.{is_there, symbol_of, read_form}
use Rattle.ruby_meaning.specs.Locals.{place_of, params_of, names_of_params, so_far, names_in, of_tree, without_names, locals_of, seen_by}
use Rattle.ruby_meaning.specs.Sequences.{places}
use Rattle.ruby_meaning.specs.Levels.{Scopes, is_held, Sight, body_sight, block_sight, names_seen, Held, AllHeld, GoalHeld, IsHoused, FormHoused, BlockHoused, TreesHoused, OtherHoused, PairsHoused, PiecesHoused, WhensHoused, ClausesHoused, ParamsHoused}
use Rattle.tree_laws.proofs.Known.{Absent, Shaped, FormShaped, TreesShaped, OtherShaped, BlockShaped, PairsShaped, PiecesShaped, WhensShaped, ClausesShaped, ParamsShaped, BlockKnown, Known, FormKnown, TreesKnown, OtherKnown, PairsKnown, PiecesKnown, WhensKnown, ClausesKnown, ParamsKnown}
use Rattle.tree_laws.proofs.Gathering.{same_is, itself, or_left, or_right, one_holds, NamesHeld, held_same, held_both, tree_part}

-- no sequence begins so far behind
abbrev pub top : ℕ
top = 2 ^ 64

-- The names that any block in the body would see are held, and those of its parameters.
pub record Sound (c : Sight) : Type 0 where
  pub seen : (q : ℕ) → NamesHeld c (seen_by c.seen c.body q)
  pub params : AllHeld c (names_of_params (params_of c.body))

-- from the locals s to the locals z
pub record Housing (s : List Bytes) (L : Type 0) (K H : Sight → Type 0) (z : List Bytes) : Type 0 where
  pub shape : L
  pub is : (c : Sight) → Sound c → NamesHeld c s → K c → H c × NamesHeld c z

abbrev pub HousedTree : List Bytes → Tree → List Bytes → Type 0
HousedTree s t z = Housing s (Shaped t) (λ c. Known top c t) (λ c. IsHoused None c t) z

abbrev pub HousedTrees : List Bytes → Trees → List Bytes → Type 0
HousedTrees s ts z = Housing s (TreesShaped ts) (λ c. TreesKnown top c ts) (λ c. TreesHoused None c ts) z

abbrev pub HousedOther : List Bytes → Other → List Bytes → Type 0
HousedOther s v z = Housing s (OtherShaped v) (λ c. OtherKnown top c v) (λ c. OtherHoused None c v) z

abbrev pub HousedBlock : List Bytes → Other → List Bytes → Type 0
HousedBlock s v z = Housing s (BlockShaped v) (λ c. BlockKnown top v) (λ c. BlockHoused None c v) z

abbrev pub HousedPairs : List Bytes → Pairs → List Bytes → Type 0
HousedPairs s ps z = Housing s (PairsShaped ps) (λ c. PairsKnown top c ps) (λ c. PairsHoused None c ps) z

abbrev pub HousedPieces : List Bytes → Pieces → List Bytes → Type 0
HousedPieces s ps z = Housing s (PiecesShaped ps) (λ c. PiecesKnown top c ps) (λ c. PiecesHoused None c ps) z

abbrev pub HousedWhens : List Bytes → Whens → List Bytes → Type 0
HousedWhens s ws z = Housing s (WhensShaped ws) (λ c. WhensKnown top c ws) (λ c. WhensHoused None c ws) z

abbrev pub HousedClauses : List Bytes → Rescues → List Bytes → Type 0
HousedClauses s rs z = Housing s (ClausesShaped rs) (λ c. ClausesKnown top c rs) (λ c. ClausesHoused None c rs) z

abbrev pub HousedParams : List Bytes → Params → List Bytes → Type 0
HousedParams s ps z = Housing s (ParamsShaped ps) (λ c. ParamsKnown top c ps) (λ c. ParamsHoused None c ps) z

pub still : {s : List Bytes} → Housing s ⊤ (λ c. ⊤) (λ c. ⊤) s
still = record { shape = tt; is = λ c o e k. (tt, e) }

infixr 10 ◌⊕◌
infixr 10 ◌⊗◌
-- two parts, in the order of the text
pub ◌⊕◌ : {s y z : List Bytes} {L M : Type 0} {K H J G : Sight → Type 0} → Housing s L K H y → Housing y M J G z → Housing s (L × M) (λ c. K c × J c) (λ c. H c × G c) z
◌⊕◌ a b = record { shape = (a.shape, b.shape); is = λ c o e k. let m = a.is c o e k.0 in let n = b.is c o m.1 k.1 in ((m.0, n.0), n.1) }

-- two parts, the later one first
pub ◌⊗◌ : {s y z : List Bytes} {L M : Type 0} {K H J G : Sight → Type 0} → Housing s L K H y → Housing y M J G z → Housing s (M × L) (λ c. J c × K c) (λ c. G c × H c) z
◌⊗◌ a b = record { shape = (b.shape, a.shape); is = λ c o e k. let m = a.is c o e k.1 in let n = b.is c o m.1 k.0 in ((n.0, m.0), n.1) }

-- the first of three parts stands between the others
pub between : {s z : List Bytes} {L M N : Type 0} {K H J G I F : Sight → Type 0} → Housing s (L × (M × N)) (λ c. K c × (J c × I c)) (λ c. H c × (G c × F c)) z → Housing s (M × (L × N)) (λ c. J c × (K c × I c)) (λ c. G c × (H c × F c)) z
between a =
    record {
      shape = (a.shape.1.0, (a.shape.0, a.shape.1.1));
      is = λ c o e k. let m = a.is c o e (k.1.0, (k.0, k.1.1)) in ((m.0.1.0, (m.0.0, m.0.1.1)), m.1);
    }

-- Names.

held_first : (c : Sight) (x : Bytes) (s : List Bytes) → Held c x → NamesHeld c s → NamesHeld c (x ∷ s)
held_first c x s h e y i = one_holds (same y x) (is_in y s) (held_same c x y h) (e y) i

pub name_housed : {s : List Bytes} (x : Bytes) → Housing s ⊤ (λ c. Held c x) (λ c. Held c x) (x ∷ s)
name_housed {s} x = record { shape = tt; is = λ c o e k. (k, held_first c x s k e) }

pub goal_housed : (g : Goal) (s : Scope) → Housing s.locals ⊤ (λ c. GoalHeld c g) (λ c. GoalHeld c g) (declared g s).locals
goal_housed (to_local x) s = name_housed x
goal_housed (to_instance x) s = still
goal_housed (to_global x) s = still
goal_housed (to_constant x) s = still

-- a local that is read
pub local_housed : {s : List Bytes} (x : Bytes) → is_in x s ≡ true → Housing s ⊤ (λ c. ⊤) (λ c. Held c x) s
local_housed x h = record { shape = tt; is = λ c o e k. (e x h, e) }

pub read_housed : (g : Goal) (s : Scope) → Housing (declared g s).locals (FormShaped (read_form g)) (λ c. FormKnown top c (read_form g)) (λ c. FormHoused None c (read_form g)) (declared g s).locals
read_housed (to_local x) s = local_housed x (or_left (same x x) (is_in x s.locals) (itself x))
read_housed (to_instance x) s = still
read_housed (to_global x) s = still
read_housed (to_constant x) s = still

-- Parts that the tree does not have.

pub without_block : {s y z : List Bytes} {L : Type 0} {K H : Sight → Type 0} (v b : Other) → (if is_there v then true else is_there b) ≡ false → Housing s (BlockShaped b) (λ c. BlockKnown top b) (λ c. BlockHoused None c b) y → Housing y L K H z → Housing s L K H z
without_block without without h a b = record { shape = b.shape; is = λ c o e k. b.is c o (a.is c o e tt).1 k }
without_block (with t) v h a b = absurd cc
without_block without (with t) h a b = absurd cc

pub alone_given : {s y x z : List Bytes} {L : Type 0} {K H : Sight → Type 0} (v b : Other) → (if is_there v then true else is_there b) ≡ false →
    Housing s L K H y → Housing y (OtherShaped v) (λ c. OtherKnown top c v) (λ c. OtherHoused None c v) x → Housing x (BlockShaped b) (λ c. BlockKnown top b) (λ c. BlockHoused None c b) z → Housing s L K H z
alone_given without without h a d b = record { shape = a.shape; is = λ c o e k. let m = a.is c o e k in (m.0, (b.is c o (d.is c o m.1 tt).1 tt).1) }
alone_given (with t) v h a d b = absurd cc
alone_given without (with t) h a d b = absurd cc

pub symbol_gone : {s z : List Bytes} (a : Tree) (m : Bytes) → symbol_of a ≡ Some m → Housing s (Shaped a) (λ c. Known top c a) (λ c. IsHoused None c a) z → Housing s ⊤ (λ c. ⊤) (λ c. ⊤) z
symbol_gone (at o (symbol f)) m h a = record { shape = tt; is = λ c o e k. (tt, (a.is c o e tt).1) }
symbol_gone (at o f) m h a = absurd cc

-- what a bare super hands on
pub params_housed : {s z : List Bytes} {L : Type 0} {K H : Sight → Type 0} → Housing s L K H z → Housing s L K (λ c. AllHeld c (names_of_params (params_of c.body)) × H c) z
params_housed a = record { shape = a.shape; is = λ c o e k. let m = a.is c o e k in ((o.params, m.0), m.1) }

-- Bodies.

left_over : (x : Bytes) (others xs : List Bytes) → is_in x others ≡ false → is_in x xs ≡ true → is_in x (without_names others xs) ≡ true
left_over x others [] n e = e
left_over x others (y ∷ xs) n e = step (left_over x others xs n) (is_in y others) (same x y) refl refl e
  where
    step : (is_in x xs ≡ true → is_in x (without_names others xs) ≡ true) → (b d : Bool) → is_in y others ≡ b → same x y ≡ d → (d || is_in x xs) ≡ true → is_in x (cond b (without_names others xs) (y ∷ without_names others xs)) ≡ true
    step go true true i j e = let bad : false ≡ true = sym n ∙ ap (λ z. is_in z others) (same_is x y j) ∙ i in absurd cc
    step go true false i j e = go e
    step go false true i j e = or_left (same x y) (is_in x (without_names others xs)) j
    step go false false i j e = or_right (same x y) (is_in x (without_names others xs)) (go e)

-- What a body's tree sets is held by its locals, or outside them.
pub locals_held : (t : Tree) (seen : List Bytes) (outer : Scopes) → ((x : Bytes) → is_in x seen ≡ true → is_held x outer ≡ true) → (x : Bytes) → is_in x (names_in (of_tree top t (so_far []))) ≡ true → is_held x (locals_of seen t ∷ outer) ≡ true
locals_held t seen outer h x e = by (is_in x (ps ++ seen)) refl
  where
    ps : List Bytes
    ps = names_of_params (params_of t)

    xs : List Bytes
    xs = without_names (ps ++ seen) (names_in (of_tree top t (so_far [])))

    here : is_in x ps ≡ true → is_held x (locals_of seen t ∷ outer) ≡ true
    here i = or_left (is_in x (ps ++ xs)) (is_held x outer) (list_any-append (same x) ps xs ∙ or_left (is_in x ps) (is_in x xs) i)

    by : (b : Bool) → is_in x (ps ++ seen) ≡ b → is_held x (locals_of seen t ∷ outer) ≡ true
    by true i = one_holds (is_in x ps) (is_in x seen) here (λ j. or_right (is_in x (ps ++ xs)) (is_held x outer) (h x j)) (sym (list_any-append (same x) ps seen) ∙ i)
    by false i = or_left (is_in x (ps ++ xs)) (is_held x outer) (list_any-append (same x) ps xs ∙ or_right (is_in x ps) (is_in x xs) (left_over x (ps ++ seen) (names_in (of_tree top t (so_far []))) i e))

-- the names of a body's parameters are among those that it sets
params_known : (c : Sight) (ps : Params) → ParamsKnown top c ps → AllHeld c (names_of_params ps)
params_known c no_param k = tt
params_known c (required x ps) k = (k.0, params_known c ps k.1)
params_known c (optional x t ps) k = (k.0, params_known c ps k.1.1)
params_known c (rest_param x ps) k = (k.0, params_known c ps k.1)
params_known c (block_param x ps) k = (k.0, params_known c ps k.1)

params_held : (c : Sight) (b : Tree) → Known top c b → AllHeld c (names_of_params (params_of b))
params_held c (at o (body ps a)) k = params_known c ps k.0
params_held c (at o f) k = tt

-- In sight within a body that has these names, all that it sets is known, and each block in it sees held names.
module _ (b : Tree) (seen names : List Bytes) (outer : Scopes) (l : Shaped b) (far : Absent top (places b)) (sets : (x : Bytes) → is_in x (names_in (of_tree top b (so_far []))) ≡ true → is_held x (names ∷ outer) ≡ true) (around : (x : Bytes) → is_in x seen ≡ true → is_held x outer ≡ true) where
  pub all_known : Known top (record { body = b; seen = seen; scopes = names ∷ outer }) b
  all_known = let r = (tree_part (record { body = b; seen = seen; scopes = names ∷ outer }) top top b l far).runs [] in r.known (λ x e. sets x (ap (λ g. is_in x (names_in g)) r.is ∙ e))

  pub is_sound : Sound (record { body = b; seen = seen; scopes = names ∷ outer })
  is_sound =
      let c : Sight = record { body = b; seen = seen; scopes = names ∷ outer } in
      record {
        seen = λ q. held_both c (names_in (of_tree q b (so_far []))) seen ((tree_part c top q b l far).within all_known (so_far []) (λ x e. absurd cc)) (λ x e. or_right (is_in x names) (is_held x outer) (around x e));
        params = params_held c b all_known;
      }

pub block_housed : {s y z : List Bytes} (o : SourcePosition) (ps : Params) (a : Tree) → HousedParams s ps y → HousedTree y a z → HousedBlock s (with (at o (body ps a))) s
block_housed o ps a h i =
    let b = at o (body ps a) in
    let n = h ⊕ i in
    record {
      shape = refl;
      is = λ c so e k.
          let seen = names_seen c b in
          let around = so.seen (place_of b) in
          let sets = locals_held b seen c.scopes around in
          (((n.is (block_sight c b) (is_sound b seen (locals_of seen b) c.scopes n.shape k sets around) (λ x j. or_right (is_in x (locals_of seen b)) (is_held x c.scopes) (e x j)) (all_known b seen (locals_of seen b) c.scopes n.shape k sets around)).0, tt), e);
    }

nothing_seen : (outer : Scopes) (x : Bytes) → is_in x [] ≡ true → is_held x outer ≡ true
nothing_seen outer x e = absurd cc

pub body_housed : {s y z : List Bytes} (o : SourcePosition) (ps : Params) (a : Tree) → HousedParams [] ps y → HousedTree y a z → Housing s ⊤ (λ c. Absent top (places (at o (body ps a)))) (λ c. IsHoused None (body_sight (at o (body ps a))) (at o (body ps a)) × ⊤) s
body_housed o ps a h i =
    let b = at o (body ps a) in
    let n = h ⊕ i in
    record {
      shape = tt;
      is = λ c so e k.
          let around = nothing_seen [] in
          let sets = locals_held b [] [] around in
          (((n.is (body_sight b) (is_sound b [] (locals_of [] b) [] n.shape k sets around) (λ x j. absurd cc) (all_known b [] (locals_of [] b) [] n.shape k sets around)).0, tt), e);
    }
