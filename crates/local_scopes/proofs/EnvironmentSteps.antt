-- The environments of the open bodies, step by step.
use Rattle.std.proofs.Common.{Bor, ◌≡◌, ℕ, zero, suc, ◌+◌, ◌^◌, ◌<◌, List, [], ◌∷◌, ◌++◌, map, length, take, drop, reverse, get_or, nat_lt, cond, Bool, true, false, not, ◌||◌, Option, Some, None, MatchOption, refl, sym, ◌∙◌, ap, subst, arith, append_assoc, append-nil}
use Rattle.std.specs.Option.{option_to_list}
use Rattle.std.specs.List.{AllByRecursion, IsDistinct, position}
use Rattle.std.proofs.lemmas.Option.{slice_get-get_or, get_or_from_slice_get}
use Rattle.std.proofs.lemmas.List.{at_drop_more, take_more, map-append, reverse-append}
use Rattle.std.proofs.lemmas.List.Folds.{list_any-append}
use Rattle.ruby_lexer.specs.Bytes.{Bytes, same, is_in}
use Rattle.ruby_tree.specs.declared.names.Name.{Name}
use Rattle.ruby_tree.specs.declared.node.Param.{Param}
use Rattle.ruby_tree.specs.declared.node.Param.TheVariants as param
use Rattle.ruby_tree.specs.declared.node.Node.{Node}
use Rattle.ruby_tree.specs.declared.node.Node.TheViews.{out-Node}
use Rattle.ruby_tree.specs.FirstFault.{param_name}
use Rattle.ruby_tree.specs.Names.{Texts}
use Rattle.ruby_tree.specs.Tree.{Tree, Params}
use Rattle.ruby_tree.specs.Read.{tree_of, text_of_name}
use Rattle.ruby_tree.specs.Views.{read_kind, read_param, read_params}
use Rattle.ruby_meaning.specs.Locals.{so_far, names_in, of_tree, place_of, params_of, params_in, names_of_params, without_names, locals_of, seen_by}
use Rattle.ruby_meaning.specs.Levels.{Scopes, Sight, level_of, slot_of, slot_in}
use Rattle.local_scopes.specs.declared.kinds.BodyKind.{BodyKind}
use Rattle.local_scopes.specs.declared.kinds.BodyKind.TheVariants.{File, Home, Block}
use Rattle.local_scopes.specs.declared.environments.Environment.{Environment}
use Rattle.local_scopes.specs.Gathering.{Gathering, gathered}
use Rattle.local_scopes.specs.Opened.{Open, sight_as, sight, innermost_names, innermost_texts}
use Rattle.local_scopes.specs.Environments.{open_of, visible, seen_names, seen_at, scopes_in, sight_in, params_as, IsRight, AreRight}
use Rattle.local_scopes.proofs.KnownSteps.{lent, first, placed}
use Rattle.local_scopes.proofs.Walked.{place-tree, params-tree}
use Rattle.local_scopes.proofs.LocalSteps.{same-swap, below-first}

-- The last of a list is the first of the reversed one.

pub last-first : {X : Type 0} (xs : List X) (x : X) (rest : List X) → xs ≡ rest ++ x ∷ [] → reverse xs ≡ x ∷ reverse rest
last-first xs x rest is = ap reverse is ∙ reverse-append rest (x ∷ [])

pub none-there : {X : Type 0} (xs : List X) → length xs ≡ 0 → xs ≡ []
none-there [] h = refl
none-there (x ∷ xs) h = absurd (omega arith)

-- What is seen.

seen-visible : (k : BodyKind) (mark : ℕ) (es : List Environment) → seen_names mark (visible k es) ≡ visible k (seen_names mark es)
seen-visible File mark es = refl
seen-visible Home mark es = refl
seen-visible Block mark es = refl

scopes-visible : (k : BodyKind) (es : List Environment) → scopes_in (visible k es) ≡ visible k (scopes_in es)
scopes-visible File es = refl
scopes-visible Home es = refl
scopes-visible Block es = refl

seen-is : (place : ℕ) (es : List Environment) → AreRight es → seen_at place es ≡ seen_by (sight (map open_of es)).seen (sight (map open_of es)).body place
seen-is place [] h = refl
seen-is place (e ∷ es) h = ap (λ g. names_in g ++ visible e.kind (seen_names e.mark es)) (h.0.known place) ∙ ap (λ xs. names_in (of_tree place (sight_in e es).body (so_far [])) ++ xs) h.0.seen

scopes-are : (es : List Environment) → AreRight es → scopes_in es ≡ (sight (map open_of es)).scopes
scopes-are [] h = refl
scopes-are (e ∷ es) h = h.0.scopes

pub slot-are : (name : Bytes) (es : List Environment) (n : ℕ) → AreRight es → n ≡ slot_of name (scopes_in es) → n ≡ slot_of name (sight (map open_of es)).scopes
slot-are name es n h is = is ∙ ap (slot_of name) (scopes-are es h)

pub level-are : (name : Bytes) (es : List Environment) (n : ℕ) → AreRight es → n ≡ level_of name (scopes_in es) → n ≡ level_of name (sight (map open_of es)).scopes
level-are name es n h is = is ∙ ap (level_of name) (scopes-are es h)

-- A body that was opened.

abbrev tree_in : Environment → Tree
tree_in e = tree_of e.symbols.now e.body.now

gathers : (k : BodyKind) (t : Tree) (c : Sight) (known : Gathering) → ((p : ℕ) → gathered known p ≡ of_tree p t (so_far [])) → (p : ℕ) → gathered known p ≡ of_tree p (sight_as k t c).body (so_far [])
gathers File t c known h p = h p
gathers Home t c known h p = h p
gathers Block t c known h p = h p

sees : (k : BodyKind) (t : Tree) (mark : ℕ) (es : List Environment) → AreRight es → seen_names mark es ≡ seen_at (place_of t) es → visible k (seen_names mark es) ≡ (sight_as k t (sight (map open_of es))).seen
sees File t mark es h is = refl
sees Home t mark es h is = refl
sees Block t mark es h is = is ∙ seen-is (place_of t) es h

scoped : (k : BodyKind) (t : Tree) (es : List Environment) (locals : List Bytes) → AreRight es → locals ≡ locals_of (sight_as k t (sight (map open_of es))).seen t → locals ∷ visible k (scopes_in es) ≡ (sight_as k t (sight (map open_of es))).scopes
scoped File t es locals h is = ap (λ (x : List Bytes). x ∷ []) is
scoped Home t es locals h is = ap (λ (x : List Bytes). x ∷ []) is
scoped Block t es locals h is =
    ap (λ (x : List Bytes). x ∷ scopes_in es) is
    ∙ ap (λ (x : Scopes). locals_of (sight_as Block t (sight (map open_of es))).seen t ∷ x) (scopes-are es h)

pub opened-right : (e : Environment) (es : List Environment) → AreRight es → ((p : ℕ) → gathered e.known p ≡ of_tree p (tree_of e.symbols.now e.body.now) (so_far [])) → seen_names e.mark es ≡ seen_at (place_of (tree_of e.symbols.now e.body.now)) es → gathered e.known (2 ^ 64) ≡ so_far e.known.names → e.locals ≡ names_of_params (params_of (tree_of e.symbols.now e.body.now)) ++ without_names (names_of_params (params_of (tree_of e.symbols.now e.body.now)) ++ seen_names e.mark (visible e.kind es)) e.known.names → IsRight e es
opened-right e es h known mark all locals =
    let names : e.known.names ≡ names_in (of_tree (2 ^ 64) (tree_in e) (so_far [])) = ap names_in (sym all ∙ known (2 ^ 64)) in
    let seen : visible e.kind (seen_names e.mark es) ≡ (sight_in e es).seen = sees e.kind (tree_in e) e.mark es h mark in
    record {
      known = gathers e.kind (tree_in e) (sight (map open_of es)) e.known known;
      seen = seen;
      scopes = scoped e.kind (tree_in e) es e.locals h
          (locals
          ∙ ap (λ (xs : List Bytes). names_of_params (params_of (tree_in e)) ++ without_names (names_of_params (params_of (tree_in e)) ++ xs) e.known.names) (seen-visible e.kind e.mark es ∙ seen)
          ∙ ap (λ (xs : List Bytes). names_of_params (params_of (tree_in e)) ++ without_names (names_of_params (params_of (tree_in e)) ++ (sight_in e es).seen) xs) names);
    }

-- how many names a block sees of the innermost body
pub mark-last : (around rest : List Environment) (e : Environment) (count place : ℕ) → around ≡ rest ++ e ∷ [] → take count e.known.names ≡ names_in (gathered e.known place) → seen_names count (reverse around) ≡ seen_at place (reverse around)
mark-last around rest e count place is taken =
    ap (seen_names count) (last-first around e rest is)
    ∙ ap (λ (xs : List Bytes). xs ++ visible e.kind (seen_names e.mark (reverse rest))) taken
    ∙ sym (ap (seen_at place) (last-first around e rest is))

pub mark-none : (around : List Environment) (count place : ℕ) → length around ≡ 0 → seen_names count (reverse around) ≡ seen_at place (reverse around)
mark-none around count place h = ap (λ es. seen_names count (reverse es)) (none-there around h) ∙ sym (ap (λ es. seen_at place (reverse es)) (none-there around h))

-- Whether a name is seen.

pub seen-here : (name : Bytes) (count : ℕ) (around rest : List Environment) (e : Environment) → around ≡ rest ++ e ∷ [] → is_in name (take count e.known.names) ≡ true → is_in name (seen_names count (reverse around)) ≡ true
seen-here name count around rest e is there =
    ap (λ es. is_in name (seen_names count es)) (last-first around e rest is)
    ∙ list_any-append (same name) (take count e.known.names) (visible e.kind (seen_names e.mark (reverse rest)))
    ∙ ap (λ b. b || is_in name (visible e.kind (seen_names e.mark (reverse rest)))) there

pub seen-outward : (name : Bytes) (count : ℕ) (around rest next : List Environment) (e : Environment) → around ≡ rest ++ e ∷ [] → is_in name (take count e.known.names) ≡ false → reverse next ≡ visible e.kind (reverse rest) → is_in name (seen_names e.mark (reverse next)) ≡ is_in name (seen_names count (reverse around))
seen-outward name count around rest next e is there outward =
    ap (λ es. is_in name (seen_names e.mark es)) outward
    ∙ ap (is_in name) (seen-visible e.kind e.mark (reverse rest))
    ∙ sym (ap (λ es. is_in name (seen_names count es)) (last-first around e rest is)
    ∙ list_any-append (same name) (take count e.known.names) (visible e.kind (seen_names e.mark (reverse rest)))
    ∙ ap (λ b. b || is_in name (visible e.kind (seen_names e.mark (reverse rest)))) there)

pub seen-nowhere : (name : Bytes) (count : ℕ) (around : List Environment) → length around ≡ 0 → is_in name (seen_names count (reverse around)) ≡ false
seen-nowhere name count around h = ap (λ es. is_in name (seen_names count (reverse es))) (none-there around h)

-- Where a name is found.

slot-first : (name : Bytes) (names : List Bytes) → slot_in name names ≡ first name names
slot-first name [] = refl
slot-first name (y ∷ names) = by (same name y) (slot-first name names)
  where
    by : (b : Bool) → slot_in name names ≡ first name names → cond b 0 (suc (slot_in name names)) ≡ cond (not b) (1 + first name names) 0
    by true rest = refl
    by false rest = omega arith

is_in-first : (name : Bytes) (names : List Bytes) → nat_lt (first name names) (length names) ≡ true → is_in name names ≡ true
is_in-first name names h = sym (below-first name names) ∙ h

pub found-slot : (name : Bytes) (around rest : List Environment) (e : Environment) (slot : ℕ) → around ≡ rest ++ e ∷ [] → Some slot ≡ position (same name) e.locals → slot ≡ slot_of name (scopes_in (reverse around))
found-slot name around rest e slot is at =
    let p : (nat_lt (first name e.locals) (length e.locals) ≡ true) × (slot ≡ first name e.locals) = placed name e.locals slot at in
    p.1 ∙ sym (slot-first name e.locals)
    ∙ sym (ap (λ b. cond b (slot_in name e.locals) (slot_of name (visible e.kind (scopes_in (reverse rest))))) (is_in-first name e.locals p.0))
    ∙ sym (ap (λ es. slot_of name (scopes_in es)) (last-first around e rest is))

pub found-level : (name : Bytes) (around rest : List Environment) (e : Environment) (slot : ℕ) → around ≡ rest ++ e ∷ [] → Some slot ≡ position (same name) e.locals → level_of name (scopes_in (reverse around)) ≡ 0
found-level name around rest e slot is at =
    let p : (nat_lt (first name e.locals) (length e.locals) ≡ true) × (slot ≡ first name e.locals) = placed name e.locals slot at in
    ap (λ es. level_of name (scopes_in es)) (last-first around e rest is)
    ∙ ap (λ b. cond b 0 (suc (level_of name (visible e.kind (scopes_in (reverse rest)))))) (is_in-first name e.locals p.0)

missing : (name : Bytes) (names : List Bytes) → position (same name) names ≡ None → is_in name names ≡ false
missing name names h = sym (below-first name names) ∙ by (nat_lt (first name names) (length names)) h
  where
    by : (b : Bool) → cond b (Some (first name names)) None ≡ None → b ≡ false
    by true h = let o : Option ℕ = None in let no : Some (first name names) ≡ o = h in cc
    by false h = refl

pub outward-slot : (name : Bytes) (around rest next : List Environment) (e : Environment) → around ≡ rest ++ e ∷ [] → position (same name) e.locals ≡ None → reverse next ≡ visible e.kind (reverse rest) → slot_of name (scopes_in (reverse next)) ≡ slot_of name (scopes_in (reverse around))
outward-slot name around rest next e is none outward =
    ap (λ es. slot_of name (scopes_in es)) outward
    ∙ ap (slot_of name) (scopes-visible e.kind (reverse rest))
    ∙ sym (ap (λ es. slot_of name (scopes_in es)) (last-first around e rest is)
    ∙ ap (λ b. cond b (slot_in name e.locals) (slot_of name (visible e.kind (scopes_in (reverse rest))))) (missing name e.locals none))

pub outward-level : (name : Bytes) (around rest next : List Environment) (e : Environment) → around ≡ rest ++ e ∷ [] → position (same name) e.locals ≡ None → reverse next ≡ visible e.kind (reverse rest) → suc (level_of name (scopes_in (reverse next))) ≡ level_of name (scopes_in (reverse around))
outward-level name around rest next e is none outward =
    ap (λ es. suc (level_of name (scopes_in es))) outward
    ∙ ap (λ s. suc (level_of name s)) (scopes-visible e.kind (reverse rest))
    ∙ sym (ap (λ es. level_of name (scopes_in es)) (last-first around e rest is)
    ∙ ap (λ b. cond b 0 (suc (level_of name (visible e.kind (scopes_in (reverse rest)))))) (missing name e.locals none))

pub nowhere-slot : (name : Bytes) (around : List Environment) → length around ≡ 0 → slot_of name (scopes_in (reverse around)) ≡ 0
nowhere-slot name around h = ap (λ es. slot_of name (scopes_in (reverse es))) (none-there around h)

pub nowhere-level : (name : Bytes) (around : List Environment) → length around ≡ 0 → level_of name (scopes_in (reverse around)) ≡ 0
nowhere-level name around h = ap (λ es. level_of name (scopes_in (reverse es))) (none-there around h)

-- The locals of a body.

names-param : (texts : Texts) (p : Param Node) (ps : Params) → names_of_params (read_param texts p ps) ≡ text_of_name texts (param_name p) ∷ names_of_params ps
names-param texts (param.Required n) ps = refl
names-param texts (param.Optional n a) ps = refl
names-param texts (param.Rest n) ps = refl
names-param texts (param.Block n) ps = refl

-- a parameter more
pub next-param : (texts : Texts) (ps : List (Param Node)) (i : ℕ) (p : Param Node) (text : Bytes) (old new all : List Bytes) → i < length ps → p ≡ get_or ps i p → text ≡ text_of_name texts (param_name p) → new ≡ old ++ text ∷ [] → old ++ names_of_params (read_params texts (drop i ps)) ≡ all → new ++ names_of_params (read_params texts (drop (i + 1) ps)) ≡ all
next-param texts ps i p text old new all less is named pushed so_far_all =
    ap (λ (xs : List Bytes). xs ++ names_of_params (read_params texts (drop (i + 1) ps))) pushed
    ∙ append_assoc old (text ∷ []) (names_of_params (read_params texts (drop (i + 1) ps)))
    ∙ ap (λ (xs : List Bytes). old ++ xs) (sym (at_drop_more (λ x. names_of_params (read_params texts x)) ps i p less ∙ ap (λ (x : Param Node). names_of_params (read_param texts x (read_params texts (drop (i + 1) ps)))) (sym is) ∙ names-param texts p _ ∙ ap (λ (x : Bytes). x ∷ names_of_params (read_params texts (drop (i + 1) ps))) (sym named)))
    ∙ so_far_all

without-push : (others xs : List Bytes) (x : Bytes) → without_names others (xs ++ x ∷ []) ≡ without_names others xs ++ cond (is_in x others) [] (x ∷ [])
without-push others [] x = refl
without-push others (y ∷ xs) x = by (is_in y others) (without-push others xs x)
  where
    by : (b : Bool) → without_names others (xs ++ x ∷ []) ≡ without_names others xs ++ cond (is_in x others) [] (x ∷ []) → cond b (without_names others (xs ++ x ∷ [])) (y ∷ without_names others (xs ++ x ∷ [])) ≡ cond b (without_names others xs) (y ∷ without_names others xs) ++ cond (is_in x others) [] (x ∷ [])
    by true rest = rest
    by false rest = ap (λ (l : List Bytes). y ∷ l) rest

or-left : (a b : Bool) → (a || b) ≡ false → a ≡ false
or-left false b h = refl
or-left true b h = h

or-right : (a b : Bool) → (a || b) ≡ false → b ≡ false
or-right false b h = h
or-right true b h = let no : true ≡ false = h in cc

or-none : (a : Bool) → (a || false) ≡ a
or-none true = refl
or-none false = refl

-- what is not in a list is not in a part of it
without-none : (others xs : List Bytes) (x : Bytes) → is_in x xs ≡ false → is_in x (without_names others xs) ≡ false
without-none others [] x h = refl
without-none others (y ∷ xs) x h = by (is_in y others) (without-none others xs x (or-right (same x y) (is_in x xs) h))
  where
    by : (b : Bool) → is_in x (without_names others xs) ≡ false → is_in x (cond b (without_names others xs) (y ∷ without_names others xs)) ≡ false
    by true rest = rest
    by false rest = ap (λ c. c || is_in x (without_names others xs)) (or-left (same x y) (is_in x xs) h) ∙ rest

apart-at : (g : Bytes) (ks : List (Bor Bytes)) (i : ℕ) (x : Bor Bytes) → AllByRecursion (λ h. same g h ≡ false) (lent ks) → i < length ks → same g (get_or ks i x).now ≡ false
apart-at g [] i x h less = absurd (omega arith)
apart-at g (k ∷ ks) zero x h less = h.0
apart-at g (k ∷ ks) (suc i) x h less = apart-at g ks i x h.1 (omega arith)

-- a name of a list of distinct ones is none of those before it
fresh : (ks : List (Bor Bytes)) (i : ℕ) (x : Bor Bytes) → i < length ks → IsDistinct same (lent ks) → is_in (get_or ks i x).now (lent (take i ks)) ≡ false
unfolding IsDistinct
fresh [] i x less h = absurd (omega arith)
fresh (k ∷ ks) zero x less h = refl
fresh (k ∷ ks) (suc i) x less h =
    ap (λ b. b || is_in (get_or ks i x).now (lent (take i ks))) (same-swap (get_or ks i x).now k.now ∙ apart-at k.now ks i x h.0 (omega arith))
    ∙ fresh ks i x (omega arith) h.1

-- a name more, where it is new
pub next-name : (P S : List Bytes) (names : List (Bor Bytes)) (i : ℕ) (x : Bor Bytes) (old : List Bytes) (b : Bool) → i < length names → x ≡ get_or names i x → IsDistinct same (lent names) → old ≡ P ++ without_names (P ++ S) (lent (take i names)) → b ≡ not (is_in x.now old || is_in x.now S) → cond b (old ++ x.now ∷ []) old ≡ P ++ without_names (P ++ S) (lent (take (i + 1) names))
next-name P S names i x old b less at apart is told =
    let W : List Bytes = without_names (P ++ S) (lent (take i names)) in
    let taken : lent (take (i + 1) names) ≡ lent (take i names) ++ x.now ∷ [] = ap lent (take_more names i x less) ∙ map-append (λ (k : Bor Bytes). k.now) (take i names) (get_or names i x ∷ []) ∙ ap (λ (k : Bor Bytes). lent (take i names) ++ k.now ∷ []) (sym at) in
    let unseen : is_in x.now (lent (take i names)) ≡ false = ap (λ (k : Bor Bytes). is_in k.now (lent (take i names))) at ∙ fresh names i x less apart in
    let in_old : is_in x.now old ≡ is_in x.now P = ap (is_in x.now) is ∙ list_any-append (same x.now) P W ∙ ap (λ c. is_in x.now P || c) (without-none (P ++ S) (lent (take i names)) x.now unseen) ∙ or-none (is_in x.now P) in
    let test : b ≡ not (is_in x.now (P ++ S)) = told ∙ ap (λ c. not (c || is_in x.now S)) in_old ∙ ap not (sym (list_any-append (same x.now) P S)) in
    ap (λ c. cond c (old ++ x.now ∷ []) old) test
    ∙ by (is_in x.now (P ++ S))
    ∙ ap (λ (l : List Bytes). l ++ cond (is_in x.now (P ++ S)) [] (x.now ∷ [])) is
    ∙ append_assoc P W (cond (is_in x.now (P ++ S)) [] (x.now ∷ []))
    ∙ ap (λ (l : List Bytes). P ++ l) (sym (without-push (P ++ S) (lent (take i names)) x.now))
    ∙ ap (λ (l : List Bytes). P ++ without_names (P ++ S) l) (sym taken)
  where
    by : (c : Bool) → cond (not c) (old ++ x.now ∷ []) old ≡ old ++ cond c [] (x.now ∷ [])
    by true = sym (append-nil old)
    by false = refl

pub next-name-at : (P S : List Bytes) (names : List (Bor Bytes)) (i : ℕ) (d : Bor Bytes) (old : List Bytes) (b : Bool) → i < length names → IsDistinct same (lent names) → old ≡ P ++ without_names (P ++ S) (lent (take i names)) → b ≡ not (is_in (get_or names i d).now old || is_in (get_or names i d).now S) → cond b (old ++ (get_or names i d).now ∷ []) old ≡ P ++ without_names (P ++ S) (lent (take (i + 1) names))
next-name-at P S names i d old b less apart is told =
    next-name P S names i (get_or names i d) old b less (sym (get_or_from_slice_get names i (get_or names i d) (get_or names i d) (slice_get-get_or names i d less))) apart is told

-- what a choice is, by its test
pub where-true : {X : Type 0} (p q r : X) (b : Bool) → b ≡ true → cond b p q ≡ r → p ≡ r
where-true p q r b is e = sym (ap (λ c. cond c p q) is) ∙ e

pub where-false : {X : Type 0} (p q r : X) (b : Bool) → b ≡ false → cond b p q ≡ r → q ≡ r
where-false p q r b is e = sym (ap (λ c. cond c p q) is) ∙ e

-- What contracts see of all environments.

pub slot-told : (name : Bytes) (items slice : List Environment) (os : List Open) (n : ℕ) → AreRight (reverse items) → slice ≡ items → map open_of (reverse items) ≡ os → n ≡ slot_of name (scopes_in (reverse slice)) → n ≡ slot_of name (sight os).scopes
slot-told name items slice os n h same_items view is =
    slot-are name (reverse items) n h (is ∙ ap (λ es. slot_of name (scopes_in (reverse es))) same_items) ∙ ap (λ (x : List Open). slot_of name (sight x).scopes) view

pub level-told : (name : Bytes) (items slice : List Environment) (os : List Open) (n : ℕ) → AreRight (reverse items) → slice ≡ items → map open_of (reverse items) ≡ os → n ≡ level_of name (scopes_in (reverse slice)) → n ≡ level_of name (sight os).scopes
level-told name items slice os n h same_items view is =
    level-are name (reverse items) n h (is ∙ ap (λ es. level_of name (scopes_in (reverse es))) same_items) ∙ ap (λ (x : List Open). level_of name (sight x).scopes) view

pub names-told : (items slice : List Environment) (os : List Open) (names : List Bytes) → AreRight (reverse items) → slice ≡ items → map open_of (reverse items) ≡ os → names ≡ innermost_names (scopes_in (reverse slice)) → names ≡ innermost_names (sight os).scopes
names-told items slice os names h same_items view is =
    is ∙ ap (λ es. innermost_names (scopes_in (reverse es))) same_items ∙ ap innermost_names (scopes-are (reverse items) h) ∙ ap (λ (x : List Open). innermost_names (sight x).scopes) view

pub parameters-told : (items slice : List Environment) (os : List Open) (ps : List (Param Node)) → slice ≡ items → map open_of (reverse items) ≡ os → names_of_params (read_params (innermost_texts (map open_of (reverse slice))) ps) ≡ names_of_params (params_of (sight (map open_of (reverse slice))).body) → names_of_params (read_params (innermost_texts os) ps) ≡ names_of_params (params_of (sight os).body)
parameters-told items slice os ps same_items view is =
    let slice_view : map open_of (reverse slice) ≡ os = ap (λ es. map open_of (reverse es)) same_items ∙ view in
    subst (λ (x : List Open). names_of_params (read_params (innermost_texts x) ps) ≡ names_of_params (params_of (sight x).body)) slice_view is

params-as : (k : BodyKind) (t : Tree) (c : Sight) → params_as k t ≡ names_of_params (params_of (sight_as k t c).body)
params-as File t c = refl
params-as Home t c = refl
params-as Block t c = refl

pub params-told : (items slice rest : List Environment) (e : Environment) (os : List Open) (ps : List (Param Node)) → slice ≡ items → map open_of (reverse items) ≡ os → slice ≡ rest ++ e ∷ [] → ((texts : Texts) → names_of_params (read_params texts ps) ≡ params_as e.kind (tree_of texts e.body.now)) → names_of_params (read_params (innermost_texts os) ps) ≡ names_of_params (params_of (sight os).body)
params-told items slice rest e os ps same_items view is told =
    let os_is : os ≡ open_of e ∷ map open_of (reverse rest) = sym view ∙ ap (map open_of) (last-first items e rest (sym same_items ∙ is)) in
    ap (λ (x : List Open). names_of_params (read_params (innermost_texts x) ps)) os_is
    ∙ told e.symbols.now
    ∙ params-as e.kind (tree_in e) (sight (map open_of (reverse rest)))
    ∙ sym (ap (λ (x : List Open). names_of_params (params_of (sight x).body)) os_is)

-- the text of a name in the innermost body
pub text-told : (slice rest : List Environment) (e : Environment) (name : Name) (x : Bytes) → slice ≡ rest ++ e ∷ [] → x ≡ text_of_name e.symbols.now name → x ≡ text_of_name (innermost_texts (map open_of (reverse slice))) name
text-told slice rest e name x is told = told ∙ sym (ap (λ (os : List Open). text_of_name (innermost_texts os) name) (ap (map open_of) (last-first slice e rest is)))

pub text-viewed : (items slice : List Environment) (os : List Open) (name : Name) (x : Bytes) → slice ≡ items → map open_of (reverse items) ≡ os → x ≡ text_of_name (innermost_texts (map open_of (reverse slice))) name → x ≡ text_of_name (innermost_texts os) name
text-viewed items slice os name x same view is = is ∙ ap (λ (os : List Open). text_of_name (innermost_texts os) name) (ap (λ es. map open_of (reverse es)) same ∙ view)

-- a body more
pub opened-push : (items new : List Environment) (e : Environment) (o : Open) (os : List Open) → new ≡ items ++ e ∷ [] → open_of e ≡ o → map open_of (reverse items) ≡ os → map open_of (reverse new) ≡ o ∷ os
opened-push items new e o os is open_is view =
    ap (map open_of) (last-first new e items is) ∙ ap (λ (x : Open). x ∷ map open_of (reverse items)) open_is ∙ ap (λ (x : List Open). o ∷ x) view

pub right-push : (items slice new : List Environment) (e : Environment) → new ≡ items ++ e ∷ [] → slice ≡ items → IsRight e (reverse slice) → AreRight (reverse items) → AreRight (reverse new)
right-push items slice new e is same_items right h =
    subst AreRight (sym (last-first new e items is)) (subst (λ es. IsRight e (reverse es)) same_items right, h)

-- a body less
pub right-pop : (old new : List Environment) (r : Option Environment) → old ≡ new ++ option_to_list r → AreRight (reverse old) → AreRight (reverse new)
right-pop old new None is h = subst (λ es. AreRight (reverse es)) (is ∙ append-nil new) h
right-pop old new (Some e) is h = (subst AreRight (last-first old e new is) h).1

pub opened-pop : (old new : List Environment) (r : Option Environment) (os : List Open) → old ≡ new ++ option_to_list r → MatchOption r (length old ≡ 0) (λ _. Unit {0}) → map open_of (reverse old) ≡ os → map open_of (reverse new) ≡ drop 1 os
opened-pop old new None os is none view =
    let gone : old ≡ [] = none-there old none in
    let new_gone : new ≡ [] = sym (is ∙ append-nil new) ∙ gone in
    ap (λ es. map open_of (reverse es)) new_gone ∙ sym (ap (λ (x : List Open). drop 1 x) (sym view ∙ ap (λ es. map open_of (reverse es)) gone))
opened-pop old new (Some e) os is none view = ap (λ (x : List Open). drop 1 x) (sym (ap (map open_of) (last-first old e new is)) ∙ view)

pub right-slice : (items slice : List Environment) → slice ≡ items → AreRight (reverse items) → AreRight (reverse slice)
right-slice items slice same_items h = subst (λ es. AreRight (reverse es)) (sym same_items) h

pub first-push : (items new : List Environment) (e : Environment) (o : Open) → items ≡ [] → new ≡ items ++ e ∷ [] → open_of e ≡ o → map open_of (reverse new) ≡ o ∷ []
first-push items new e o none is open_is = opened-push items new e o [] is open_is (ap (λ es. map open_of (reverse es)) none)

pub first-right : (items new : List Environment) (e : Environment) → items ≡ [] → new ≡ items ++ e ∷ [] → IsRight e [] → AreRight (reverse new)
first-right items new e none is right = subst AreRight (sym (last-first new e items is)) (subst (λ es. IsRight e (reverse es)) (sym none) right, subst (λ es. AreRight (reverse es)) (sym none) tt)

-- the locals of a body that was opened
pub own-locals : (texts : Texts) (n : Node) (empty params new : List Bytes) (ps : List (Param Node)) (names known : List Bytes) (mark : ℕ) (seen around : List Environment) (k : BodyKind) → empty ≡ [] → params ≡ empty ++ names_of_params (read_params texts ps) → read_params texts ps ≡ params_in (read_kind texts (out-Node n).kind) → new ≡ params ++ without_names (params ++ seen_names mark (reverse seen)) names → names ≡ known → reverse seen ≡ visible k (reverse around) → new ≡ names_of_params (params_of (tree_of texts n)) ++ without_names (names_of_params (params_of (tree_of texts n)) ++ seen_names mark (visible k (reverse around))) known
own-locals texts n empty params new ps names known mark seen around k none pushed ps_is is same_names outward =
    let params_are : params ≡ names_of_params (params_of (tree_of texts n)) = pushed ∙ ap (λ (xs : List Bytes). xs ++ names_of_params (read_params texts ps)) none ∙ ap names_of_params (ps_is ∙ sym (params-tree texts n)) in
    is
    ∙ ap (λ (xs : List Bytes). xs ++ without_names (xs ++ seen_names mark (reverse seen)) names) params_are
    ∙ ap (λ (xs : List Bytes). names_of_params (params_of (tree_of texts n)) ++ without_names (names_of_params (params_of (tree_of texts n)) ++ seen_names mark (reverse seen)) xs) same_names
    ∙ ap (λ es. names_of_params (params_of (tree_of texts n)) ++ without_names (names_of_params (params_of (tree_of texts n)) ++ seen_names mark es) known) outward

-- what a walk from nothing gathers
pub gathered-tree : (texts : Texts) (n : Node) (old new : Gathering) → ((p : ℕ) → gathered old p ≡ so_far []) → ((p : ℕ) → gathered new p ≡ of_tree p (tree_of texts n) (gathered old p)) → (p : ℕ) → gathered new p ≡ of_tree p (tree_of texts n) (so_far [])
gathered-tree texts n old new none walked p = walked p ∙ ap (of_tree p (tree_of texts n)) (none p)

pub mark-tree : (texts : Texts) (n : Node) (mark : ℕ) (es : List Environment) → seen_names mark es ≡ seen_at (out-Node n).place es → seen_names mark es ≡ seen_at (place_of (tree_of texts n)) es
mark-tree texts n mark es is = is ∙ ap (λ p. seen_at p es) (sym (place-tree texts n))
