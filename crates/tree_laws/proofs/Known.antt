-- What is known of the names that a tree sets: they are held where it stands; and where its blocks do.
use Rattle.std.proofs.Common.{◌≡◌, ℕ, Bool, true, false, List}
use Rattle.std.specs.Prelude.{⊤}
use Rattle.ruby_tree.specs.Tree.{Tree, at, Form, joined, array, hash, range, constant_path, assign, assign_all, assign_attribute, assign_index, operate_attribute, or_attribute, and_attribute, operate_index, or_index, and_index, send, safe_send, yield, super, bare_super, statements, both, either, negated, if_else, while_loop, case_of, case_tests, return_with, break_with, next_with, rescue, ensure, rescue_sequence, ensure_sequence, method, class, module_named, body, Trees, no_more, more, Other, without, with, Pairs, no_pair, pair, Pieces, no_piece, plain_piece, code_piece, Whens, no_when, when, Rescues, no_clause, clause, Params, no_param, required, optional, rest_param, block_param}
use Rattle.ruby_meaning.specs.Sequences.{places}
use Rattle.ruby_meaning.specs.Levels.{Sight, Held, GoalHeld, GoalsHeld, NameHeld}
use Rattle.tree_laws.proofs.Spots.{count}

-- no sequence begins at the place
pub record Absent (p : ℕ) (qs : List ℕ) : Type 0 where
  pub holds : count p qs ≡ 0

abbrev pub is_body_form : Form → Bool
is_body_form (body ps a) = true
is_body_form f = false

abbrev pub is_body : Tree → Bool
is_body (at s f) = is_body_form f

-- a block is a body, which begins a sequence
abbrev pub BlockShaped : Other → Type 0
BlockShaped without = ⊤
BlockShaped (with t) = is_body t ≡ true

abbrev mutual
  -- Each block of a tree is a body; those within bodies are left out.
  pub Shaped : Tree → Type 0
  Shaped (at s f) = FormShaped f

  pub FormShaped : Form → Type 0
  FormShaped (joined ps) = PiecesShaped ps
  FormShaped (array ts ks) = TreesShaped ts
  FormShaped (hash ps) = PairsShaped ps
  FormShaped (range a b e) = Shaped a × Shaped b
  FormShaped (constant_path v b ns) = OtherShaped v
  FormShaped (assign v g) = ⊤ × Shaped v
  FormShaped (assign_all vs gs) = ⊤ × TreesShaped vs
  FormShaped (assign_attribute a v n) = Shaped a × Shaped v
  FormShaped (assign_index a i v) = Shaped a × (Shaped i × Shaped v)
  FormShaped (operate_attribute a n v o m l) = Shaped a × Shaped v
  FormShaped (or_attribute a n v m) = Shaped a × Shaped v
  FormShaped (and_attribute a n v m) = Shaped a × Shaped v
  FormShaped (operate_index a i v o l) = Shaped a × (Shaped i × Shaped v)
  FormShaped (or_index a i v) = Shaped a × (Shaped i × Shaped v)
  FormShaped (and_index a i v) = Shaped a × (Shaped i × Shaped v)
  FormShaped (send a ts ks v n alone b) = OtherShaped a × (TreesShaped ts × (OtherShaped v × BlockShaped b))
  FormShaped (safe_send a ts ks v n b) = Shaped a × (TreesShaped ts × (OtherShaped v × BlockShaped b))
  FormShaped (yield ts ks) = TreesShaped ts
  FormShaped (super ts ks v b) = TreesShaped ts × (OtherShaped v × BlockShaped b)
  FormShaped (bare_super b) = BlockShaped b
  FormShaped (statements ts) = TreesShaped ts
  FormShaped (both a b) = Shaped a × Shaped b
  FormShaped (either a b) = Shaped a × Shaped b
  FormShaped (negated a) = Shaped a
  FormShaped (if_else t a b) = Shaped t × (Shaped a × OtherShaped b)
  FormShaped (while_loop a t u f) = Shaped a × Shaped t
  FormShaped (case_of a ws e) = Shaped a × (WhensShaped ws × OtherShaped e)
  FormShaped (case_tests ws e) = WhensShaped ws × OtherShaped e
  FormShaped (return_with ts) = TreesShaped ts
  FormShaped (break_with ts) = TreesShaped ts
  FormShaped (next_with ts) = TreesShaped ts
  FormShaped (rescue a e t) = Shaped a × (OtherShaped e × Shaped t)
  FormShaped (ensure a t) = Shaped a × Shaped t
  FormShaped (rescue_sequence cs) = ClausesShaped cs
  FormShaped (ensure_sequence a) = Shaped a
  FormShaped (method n a s) = ⊤
  FormShaped (class v n a) = OtherShaped v × ⊤
  FormShaped (module_named n a) = ⊤
  FormShaped (body ps a) = ParamsShaped ps × Shaped a
  FormShaped f = ⊤

  pub TreesShaped : Trees → Type 0
  TreesShaped no_more = ⊤
  TreesShaped (more t ts) = Shaped t × TreesShaped ts

  pub OtherShaped : Other → Type 0
  OtherShaped without = ⊤
  OtherShaped (with t) = Shaped t

  pub PairsShaped : Pairs → Type 0
  PairsShaped no_pair = ⊤
  PairsShaped (pair k v ps) = Shaped k × (Shaped v × PairsShaped ps)

  pub PiecesShaped : Pieces → Type 0
  PiecesShaped no_piece = ⊤
  PiecesShaped (plain_piece x ps) = PiecesShaped ps
  PiecesShaped (code_piece t ps) = Shaped t × PiecesShaped ps

  pub WhensShaped : Whens → Type 0
  WhensShaped no_when = ⊤
  WhensShaped (when ts t ws) = TreesShaped ts × (Shaped t × WhensShaped ws)

  pub ClausesShaped : Rescues → Type 0
  ClausesShaped no_clause = ⊤
  ClausesShaped (clause ts x t cs) = TreesShaped ts × (⊤ × (Shaped t × ClausesShaped cs))

  pub ParamsShaped : Params → Type 0
  ParamsShaped no_param = ⊤
  ParamsShaped (required x ps) = ⊤ × ParamsShaped ps
  ParamsShaped (optional x t ps) = ⊤ × (Shaped t × ParamsShaped ps)
  ParamsShaped (rest_param x ps) = ⊤ × ParamsShaped ps
  ParamsShaped (block_param x ps) = ⊤ × ParamsShaped ps

module _ (place : ℕ) where
  -- What is known of a block is where the sequences in it begin: not at the place.
  abbrev pub BlockKnown : Other → Type 0
  BlockKnown without = ⊤
  BlockKnown (with t) = Absent place (places t)

  abbrev mutual
    -- Each name that a tree sets is held. Bodies within it are left out.
    pub Known : Sight → Tree → Type 0
    Known c (at s f) = FormKnown c f

    pub FormKnown : Sight → Form → Type 0
    FormKnown c (joined ps) = PiecesKnown c ps
    FormKnown c (array ts ks) = TreesKnown c ts
    FormKnown c (hash ps) = PairsKnown c ps
    FormKnown c (range a b e) = Known c a × Known c b
    FormKnown c (constant_path v b ns) = OtherKnown c v
    FormKnown c (assign v g) = GoalHeld c g × Known c v
    FormKnown c (assign_all vs gs) = GoalsHeld c gs × TreesKnown c vs
    FormKnown c (assign_attribute a v n) = Known c a × Known c v
    FormKnown c (assign_index a i v) = Known c a × (Known c i × Known c v)
    FormKnown c (operate_attribute a n v o m l) = Known c a × Known c v
    FormKnown c (or_attribute a n v m) = Known c a × Known c v
    FormKnown c (and_attribute a n v m) = Known c a × Known c v
    FormKnown c (operate_index a i v o l) = Known c a × (Known c i × Known c v)
    FormKnown c (or_index a i v) = Known c a × (Known c i × Known c v)
    FormKnown c (and_index a i v) = Known c a × (Known c i × Known c v)
    FormKnown c (send a ts ks v n alone b) = OtherKnown c a × (TreesKnown c ts × (OtherKnown c v × BlockKnown b))
    FormKnown c (safe_send a ts ks v n b) = Known c a × (TreesKnown c ts × (OtherKnown c v × BlockKnown b))
    FormKnown c (yield ts ks) = TreesKnown c ts
    FormKnown c (super ts ks v b) = TreesKnown c ts × (OtherKnown c v × BlockKnown b)
    FormKnown c (bare_super b) = BlockKnown b
    FormKnown c (statements ts) = TreesKnown c ts
    FormKnown c (both a b) = Known c a × Known c b
    FormKnown c (either a b) = Known c a × Known c b
    FormKnown c (negated a) = Known c a
    FormKnown c (if_else t a b) = Known c t × (Known c a × OtherKnown c b)
    FormKnown c (while_loop a t u f) = Known c a × Known c t
    FormKnown c (case_of a ws e) = Known c a × (WhensKnown c ws × OtherKnown c e)
    FormKnown c (case_tests ws e) = WhensKnown c ws × OtherKnown c e
    FormKnown c (return_with ts) = TreesKnown c ts
    FormKnown c (break_with ts) = TreesKnown c ts
    FormKnown c (next_with ts) = TreesKnown c ts
    FormKnown c (rescue a e t) = Known c a × (OtherKnown c e × Known c t)
    FormKnown c (ensure a t) = Known c a × Known c t
    FormKnown c (rescue_sequence cs) = ClausesKnown c cs
    FormKnown c (ensure_sequence a) = Known c a
    FormKnown c (method n a s) = Absent place (places a)
    FormKnown c (class v n a) = OtherKnown c v × Absent place (places a)
    FormKnown c (module_named n a) = Absent place (places a)
    FormKnown c (body ps a) = ParamsKnown c ps × Known c a
    FormKnown c f = ⊤

    pub TreesKnown : Sight → Trees → Type 0
    TreesKnown c no_more = ⊤
    TreesKnown c (more t ts) = Known c t × TreesKnown c ts

    pub OtherKnown : Sight → Other → Type 0
    OtherKnown c without = ⊤
    OtherKnown c (with t) = Known c t

    pub PairsKnown : Sight → Pairs → Type 0
    PairsKnown c no_pair = ⊤
    PairsKnown c (pair k v ps) = Known c k × (Known c v × PairsKnown c ps)

    pub PiecesKnown : Sight → Pieces → Type 0
    PiecesKnown c no_piece = ⊤
    PiecesKnown c (plain_piece x ps) = PiecesKnown c ps
    PiecesKnown c (code_piece t ps) = Known c t × PiecesKnown c ps

    pub WhensKnown : Sight → Whens → Type 0
    WhensKnown c no_when = ⊤
    WhensKnown c (when ts t ws) = TreesKnown c ts × (Known c t × WhensKnown c ws)

    pub ClausesKnown : Sight → Rescues → Type 0
    ClausesKnown c no_clause = ⊤
    ClausesKnown c (clause ts x t cs) = TreesKnown c ts × (NameHeld c x × (Known c t × ClausesKnown c cs))

    pub ParamsKnown : Sight → Params → Type 0
    ParamsKnown c no_param = ⊤
    ParamsKnown c (required x ps) = Held c x × ParamsKnown c ps
    ParamsKnown c (optional x t ps) = Held c x × (Known c t × ParamsKnown c ps)
    ParamsKnown c (rest_param x ps) = Held c x × ParamsKnown c ps
    ParamsKnown c (block_param x ps) = Held c x × ParamsKnown c ps
