-- Where the locals of a body are found: in its own environment, or so many environments outward.
use Rattle.std.specs.Prelude.{◌≡◌, ℕ, suc, Bool, true, false, cond, ◌||◌, List, [], ◌∷◌, Option, Some, None, ⊤}
use Rattle.ruby_lexer.specs.Bytes.{same, is_in}
use Rattle.ruby_tree.specs.Names.{Bytes}
use Rattle.ruby_tree.specs.Tree.{Goal, to_local, to_instance, to_global, to_constant, Tree, at, Form, local, joined, array, hash, range, constant_path, assign, assign_all, assign_attribute, assign_index, operate_attribute, or_attribute, and_attribute, operate_index, or_index, and_index, send, safe_send, yield, super, bare_super, statements, both, either, negated, if_else, while_loop, case_of, case_tests, return_with, break_with, next_with, rescue, ensure, rescue_sequence, ensure_sequence, method, class, module_named, body, Trees, no_more, more, Other, without, with, Pairs, no_pair, pair, Pieces, no_piece, plain_piece, code_piece, Whens, no_when, when, Rescues, no_clause, clause, Params, no_param, required, optional, rest_param, block_param}
use Rattle.ruby_meaning.specs.Locals.{place_of, params_of, names_of_params, locals_of, seen_by}
use Rattle.ruby_meaning.specs.Loads.{file_body}
use Rattle.ruby_meaning.specs.Value.{Source}

-- The names of environments outward, the innermost first.
abbrev pub Scopes : Type 0
Scopes = List (List Bytes)

-- whether one of them has the name
abbrev pub is_held : Bytes → Scopes → Bool
is_held x [] = false
is_held x (names ∷ scopes) = is_in x names || is_held x scopes

-- how many environments outward the first one stands that has the name
abbrev pub level_of : Bytes → Scopes → ℕ
level_of x [] = 0
level_of x (names ∷ scopes) = cond (is_in x names) 0 (suc (level_of x scopes))

-- the place of a name among others
abbrev pub slot_in : Bytes → List Bytes → ℕ
slot_in x [] = 0
slot_in x (y ∷ names) = cond (same x y) 0 (suc (slot_in x names))

-- its place in the environment that has it
abbrev pub slot_of : Bytes → Scopes → ℕ
slot_of x [] = 0
slot_of x (names ∷ scopes) = cond (is_in x names) (slot_in x names) (slot_of x scopes)

-- What is in sight within a body: the body, the names that it sees around it, and the names of its environment and of those outward.
pub record Sight : Type 0 where
  pub body : Tree
  pub seen : List Bytes
  pub scopes : Scopes

-- within a file
abbrev pub file_sight : Tree → Sight
file_sight t = record { body = file_body t; seen = []; scopes = locals_of [] t ∷ [] }

-- within a method, a class or a module, which sees no locals around it
abbrev pub body_sight : Tree → Sight
body_sight t = record { body = t; seen = []; scopes = locals_of [] t ∷ [] }

-- the names that a block sees where it stands
abbrev pub names_seen : Sight → Tree → List Bytes
names_seen c t = seen_by c.seen c.body (place_of t)

-- within a block
abbrev pub block_sight : Sight → Tree → Sight
block_sight c t = record { body = t; seen = names_seen c t; scopes = locals_of (names_seen c t) t ∷ c.scopes }

-- an environment in sight has the name
abbrev pub Held : Sight → Bytes → Type 0
Held c x = is_held x c.scopes ≡ true

-- each of the names is held
abbrev pub AllHeld : Sight → List Bytes → Type 0
AllHeld c [] = ⊤
AllHeld c (x ∷ xs) = Held c x × AllHeld c xs

abbrev pub GoalHeld : Sight → Goal → Type 0
GoalHeld c (to_local x) = Held c x
GoalHeld c (to_instance x) = ⊤
GoalHeld c (to_global x) = ⊤
GoalHeld c (to_constant x) = ⊤

abbrev pub GoalsHeld : Sight → List Goal → Type 0
GoalsHeld c [] = ⊤
GoalsHeld c (g ∷ gs) = GoalHeld c g × GoalsHeld c gs

abbrev pub NameHeld : Sight → Option Bytes → Type 0
NameHeld c None = ⊤
NameHeld c (Some x) = Held c x

-- The bodies of a file, each by the place at which it begins: what is in sight within it, and the body.
abbrev pub BodyTable : Type 0
BodyTable = ℕ → Option (Sight × Tree)

-- Of where code stands, the table in which its bodies are to be found, if there is to be one.
abbrev pub Telling : Type 0
Telling = Source → Option BodyTable

-- no body is to be found
abbrev pub untold : Telling
untold source = None

-- The table has this body, within which this is in sight.
abbrev pub Told : Option BodyTable → Sight → Tree → Type 0
Told None c t = ⊤
Told (Some table) c t = table (place_of t) ≡ Some (c, t)

module _ (told : Option BodyTable) where
  abbrev mutual
    -- Each local that is read or set in a tree is held where it stands: in the body in sight, and in the bodies within it as they see. And the table
    -- has each of the bodies within it.
    pub IsHoused : Sight → Tree → Type 0
    IsHoused c (at s f) = FormHoused c f

    pub FormHoused : Sight → Form → Type 0
    FormHoused c (local x) = Held c x
    FormHoused c (joined ps) = PiecesHoused c ps
    FormHoused c (array ts ks) = TreesHoused c ts
    FormHoused c (hash ps) = PairsHoused c ps
    FormHoused c (range a b e) = IsHoused c a × IsHoused c b
    FormHoused c (constant_path v b ns) = OtherHoused c v
    FormHoused c (assign v g) = GoalHeld c g × IsHoused c v
    FormHoused c (assign_all vs gs) = GoalsHeld c gs × TreesHoused c vs
    FormHoused c (assign_attribute a v n) = IsHoused c a × IsHoused c v
    FormHoused c (assign_index a i v) = IsHoused c a × (IsHoused c i × IsHoused c v)
    FormHoused c (operate_attribute a n v o m l) = IsHoused c a × IsHoused c v
    FormHoused c (or_attribute a n v m) = IsHoused c a × IsHoused c v
    FormHoused c (and_attribute a n v m) = IsHoused c a × IsHoused c v
    FormHoused c (operate_index a i v o l) = IsHoused c a × (IsHoused c i × IsHoused c v)
    FormHoused c (or_index a i v) = IsHoused c a × (IsHoused c i × IsHoused c v)
    FormHoused c (and_index a i v) = IsHoused c a × (IsHoused c i × IsHoused c v)
    FormHoused c (send a ts ks v n alone b) = OtherHoused c a × (TreesHoused c ts × (OtherHoused c v × BlockHoused c b))
    FormHoused c (safe_send a ts ks v n b) = IsHoused c a × (TreesHoused c ts × (OtherHoused c v × BlockHoused c b))
    FormHoused c (yield ts ks) = TreesHoused c ts
    FormHoused c (super ts ks v b) = TreesHoused c ts × (OtherHoused c v × BlockHoused c b)
    -- it hands on what the parameters of the body in sight are now
    FormHoused c (bare_super b) = AllHeld c (names_of_params (params_of c.body)) × BlockHoused c b
    FormHoused c (statements ts) = TreesHoused c ts
    FormHoused c (both a b) = IsHoused c a × IsHoused c b
    FormHoused c (either a b) = IsHoused c a × IsHoused c b
    FormHoused c (negated a) = IsHoused c a
    FormHoused c (if_else t a b) = IsHoused c t × (IsHoused c a × OtherHoused c b)
    FormHoused c (while_loop a t u f) = IsHoused c a × IsHoused c t
    FormHoused c (case_of a ws e) = IsHoused c a × (WhensHoused c ws × OtherHoused c e)
    FormHoused c (case_tests ws e) = WhensHoused c ws × OtherHoused c e
    FormHoused c (return_with ts) = TreesHoused c ts
    FormHoused c (break_with ts) = TreesHoused c ts
    FormHoused c (next_with ts) = TreesHoused c ts
    FormHoused c (rescue a e t) = IsHoused c a × (OtherHoused c e × IsHoused c t)
    FormHoused c (ensure a t) = IsHoused c a × IsHoused c t
    FormHoused c (rescue_sequence cs) = ClausesHoused c cs
    FormHoused c (ensure_sequence a) = IsHoused c a
    FormHoused c (method n a s) = IsHoused (body_sight a) a × Told told (body_sight a) a
    FormHoused c (class v n a) = OtherHoused c v × (IsHoused (body_sight a) a × Told told (body_sight a) a)
    FormHoused c (module_named n a) = IsHoused (body_sight a) a × Told told (body_sight a) a
    -- a body, in its own sight
    FormHoused c (body ps a) = ParamsHoused c ps × IsHoused c a
    FormHoused c f = ⊤

    -- a block that a call has
    pub BlockHoused : Sight → Other → Type 0
    BlockHoused c without = ⊤
    BlockHoused c (with t) = IsHoused (block_sight c t) t × Told told (block_sight c t) t

    pub TreesHoused : Sight → Trees → Type 0
    TreesHoused c no_more = ⊤
    TreesHoused c (more t ts) = IsHoused c t × TreesHoused c ts

    pub OtherHoused : Sight → Other → Type 0
    OtherHoused c without = ⊤
    OtherHoused c (with t) = IsHoused c t

    pub PairsHoused : Sight → Pairs → Type 0
    PairsHoused c no_pair = ⊤
    PairsHoused c (pair k v ps) = IsHoused c k × (IsHoused c v × PairsHoused c ps)

    pub PiecesHoused : Sight → Pieces → Type 0
    PiecesHoused c no_piece = ⊤
    PiecesHoused c (plain_piece x ps) = PiecesHoused c ps
    PiecesHoused c (code_piece t ps) = IsHoused c t × PiecesHoused c ps

    pub WhensHoused : Sight → Whens → Type 0
    WhensHoused c no_when = ⊤
    WhensHoused c (when ts t ws) = TreesHoused c ts × (IsHoused c t × WhensHoused c ws)

    pub ClausesHoused : Sight → Rescues → Type 0
    ClausesHoused c no_clause = ⊤
    ClausesHoused c (clause ts x t cs) = TreesHoused c ts × (NameHeld c x × (IsHoused c t × ClausesHoused c cs))

    pub ParamsHoused : Sight → Params → Type 0
    ParamsHoused c no_param = ⊤
    ParamsHoused c (required x ps) = Held c x × ParamsHoused c ps
    ParamsHoused c (optional x t ps) = Held c x × (IsHoused c t × ParamsHoused c ps)
    ParamsHoused c (rest_param x ps) = Held c x × ParamsHoused c ps
    ParamsHoused c (block_param x ps) = Held c x × ParamsHoused c ps
