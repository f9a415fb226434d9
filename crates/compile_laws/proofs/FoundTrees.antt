-- Where the tables have each sequence of a tree, all that is to be found in the tree is found, and its sequences have the places of the tree.
use Rattle.std.proofs.Common.{◌≡◌, ℕ, true, false, refl, sym, ap, ap₂, ◌∙◌, subst, List, [], ◌∷◌, ◌++◌, None}
use Rattle.std.specs.List.{AllByRecursion}
use Rattle.std.proofs.lemmas.List.{map-append}
use Rattle.ruby_tree.specs.Names.{Bytes}
use Rattle.ruby_tree.specs.Tree.{SourcePosition, Tree, at, Form, nil_value, true_value, false_value, integer, symbol, text, self_value, file_name, folder_name, line_number, local, instance, global, joined, array, hash, range, constant_path, assign, assign_all, assign_attribute, assign_index, operate_attribute, or_attribute, and_attribute, operate_index, or_index, and_index, send, safe_send, yield, super, bare_super, bare_raise, statements, both, either, negated, if_else, while_loop, case_of, case_tests, return_with, break_with, next_with, retry, rescue, ensure, rescue_sequence, ensure_sequence, method, class, module_named, body, Trees, no_more, more, Other, without, with, Pairs, no_pair, pair, Pieces, no_piece, plain_piece, code_piece, Whens, no_when, when, Rescues, no_clause, clause, Params, no_param, required, optional, rest_param, block_param}
use Rattle.iseq_types.specs.declared.sequences.SeqKind.{SeqKind}
use Rattle.iseq_types.specs.declared.sequences.SeqKind.TheVariants as kinds
use Rattle.ruby_meaning.specs.Locals.{place_of, first_line_of}
use Rattle.ruby_meaning.specs.Sequences.{places, form_places, trees_places, other_places, pairs_places, pieces_places, whens_places, clauses_places, params_places, sequence_number}
use Rattle.ruby_meaning.specs.Levels.{Sight, body_sight, IsHoused, FormHoused, BlockHoused, TreesHoused, OtherHoused, PairsHoused, PiecesHoused, WhensHoused, ClausesHoused, ParamsHoused}
use Rattle.code_meaning.specs.Code.{Routine}
use Rattle.compile_table.specs.Shapes.{Where, looped, in_rescue, in_ensure}
use Rattle.compile_table.specs.Sequences.{Compiled, routine_of, compiled_body, compiled_part, in_body, in_block, sequences, form_sequences, block_sequences, trees_sequences, other_sequences, pairs_sequences, pieces_sequences, whens_sequences, clauses_sequences, params_sequences}
use Rattle.tree_laws.specs.Formed.{HasOneBlock, IsFormed, FormFormed, IsBody, IsBodyForm, BlockFormed, IsRescueForm, IsEnsureForm, TreesFormed, OtherFormed, PairsFormed, PiecesFormed, WhensFormed, ClausesFormed, ParamsFormed}
use Rattle.compile_laws.specs.Finds.{part_routine, Finds, FindsForm, FindsTrees, FindsOther, FindsPairs, FindsPieces, FindsWhens, FindsRescueForm, FindsEnsureForm, FindsClauses, FindsParams, FindsBlock}
use Rattle.compile_laws.specs.Found.{IsBodyKind, sight_in, where_in, IsFoundBody}
use Rattle.compile_laws.proofs.ByPlaces.{spots}

-- The nodes of a body stand where its kind, the file and what is in sight around it say.
same_where : (path : Bytes) (t : Tree) (kind : SeqKind) (l k : Where) (u : Tree) → IsBodyKind kind → l.path ≡ k.path → l.places ≡ k.places → l.sight ≡ k.sight → where_in path t kind l u ≡ where_in path t kind k u
same_where path t kinds.File l k u is e f g = refl
same_where path t kinds.Method l k u is e f g =
    ap₂ (λ (z : Bytes) (q : List ℕ). let w : Where = record { loop = false; clause = false; number = sequence_number q (place_of u); first = first_line_of u; sight = body_sight u; path = z; places = q } in w) e f
same_where path t kinds.Class l k u is e f g =
    ap₂ (λ (z : Bytes) (q : List ℕ). let w : Where = record { loop = false; clause = false; number = sequence_number q (place_of u); first = first_line_of u; sight = body_sight u; path = z; places = q } in w) e f
same_where path t kinds.Block l k u is e f g =
    ap₂ (λ (z : Bytes) (q : List ℕ). in_block (record l { path = z; places = q }) u) e f ∙ ap (λ (c : Sight). in_block (record l { path = k.path; places = k.places; sight = c }) u) g
same_where path t kinds.Rescue l k u is e f g = absurd is
same_where path t kinds.Ensure l k u is e f g = absurd is

-- The tables of a program: its sequences, their trees and where their nodes stand, by number; and the file's path and tree.
module _ (seqs : ℕ → Routine) (bodies : ℕ → Tree) (wheres : ℕ → Where) (home : Bytes) (file : Tree) where
  -- Of a file whose sequences have these places, the tables have this one under its number.
  pub record HasSequence (q : List ℕ) (c : Compiled) : Type 0 where
    pub routine : seqs (sequence_number q c.place) ≡ routine_of c
    pub tree : bodies (sequence_number q c.place) ≡ c.tree
    pub inner : wheres (sequence_number q c.place) ≡ c.inner

  -- the tables have each of these sequences
  abbrev pub Have : List ℕ → List Compiled → Type 0
  Have q cs = AllByRecursion (HasSequence q) cs

  -- What is known of one of the sequences of a file with this path and these places.
  pub record IsKnown (z : Bytes) (q : List ℕ) (c : Compiled) : Type 0 where
    pub number : c.inner.number ≡ sequence_number q c.place
    pub place : place_of c.tree ≡ c.place
    pub path : c.inner.path ≡ z
    pub places : c.inner.places ≡ q
    pub sees : c.inner.sight ≡ sight_in file c.kind (wheres c.parent).sight c.tree
    pub stands : IsBodyKind c.kind → c.inner ≡ where_in home file c.kind (wheres c.parent) c.tree
    pub body : IsBodyKind c.kind → IsFoundBody seqs bodies c

  abbrev pub Known : Bytes → List ℕ → List Compiled → Type 0
  Known z q cs = AllByRecursion (IsKnown z q) cs

  -- where the nodes of a body of this kind stand, which stands where l says
  record Opens (l inner : Where) (kind : SeqKind) (t : Tree) : Type 0 where
    no_loop : inner.loop ≡ false
    no_clause : inner.clause ≡ false
    number : inner.number ≡ sequence_number inner.places (place_of t)
    first : inner.first ≡ first_line_of t
    in_sight : inner.sight.body ≡ t
    sees : inner.sight ≡ sight_in file kind l.sight t
    stands : inner ≡ where_in home file kind l t

  -- where a rescue or an ensure part stands
  record Parts (l inner : Where) (kind : SeqKind) (s : SourcePosition) (f : Form) : Type 0 where
    no_body : IsBodyKind kind → ⊥
    number : inner.number ≡ sequence_number inner.places s.place
    sees : inner.sight ≡ sight_in file kind l.sight (at s f)

  -- The tables have what is in sight in the sequence of this place, and its file.
  abbrev pub Sees : Where → Type 0
  Sees l = ((wheres l.number).sight ≡ l.sight) × ((wheres l.number).path ≡ l.path) × ((wheres l.number).places ≡ l.places)

  seen_at : (l : Where) → wheres l.number ≡ l → Sees l
  seen_at l e = (ap (λ (k : Where). k.sight) e, ap (λ (k : Where). k.path) e, ap (λ (k : Where). k.places) e)

  -- What is told of the sequences of a part: their places, and that a fact holds where the tables have them and what is in sight around them.
  pub record Told (z : Bytes) (q : List ℕ) (S A : Type 0) (cs : List Compiled) (places : List ℕ) : Type 0 where
    pub same : spots cs ≡ places
    pub holds : S → Have q cs → A × Known z q cs

  split : (q : List ℕ) (xs ys : List Compiled) → Have q (xs ++ ys) → Have q xs × Have q ys
  split q [] ys h = (tt, h)
  split q (x ∷ xs) ys h = let r = split q xs ys h.1 in ((h.0, r.0), r.1)

  join : (z : Bytes) (q : List ℕ) (xs ys : List Compiled) → Known z q xs → Known z q ys → Known z q (xs ++ ys)
  join z q [] ys a b = b
  join z q (x ∷ xs) ys a b = (a.0, join z q xs ys a.1 b)

  -- nothing stands in it
  none : {z : Bytes} {q : List ℕ} {S A : Type 0} → A → Told z q S A [] []
  none a = record { same = refl; holds = λ e h. (a, tt) }

  -- the fact as it is to be read
  read : {z : Bytes} {q : List ℕ} {S A B : Type 0} {cs : List Compiled} {ps : List ℕ} → (A → B) → Told z q S A cs ps → Told z q S B cs ps
  read f a = record { same = a.same; holds = λ e h. let r = a.holds e h in (f r.0, r.1) }

  infixr 10 ◌⊕◌
  ◌⊕◌ : {z : Bytes} {q : List ℕ} {S A B : Type 0} {xs ys : List Compiled} {ps rs : List ℕ} → Told z q S A xs ps → Told z q S B ys rs → Told z q S (A × B) (xs ++ ys) (ps ++ rs)
  ◌⊕◌ {z} {q} {S} {A} {B} {xs} {ys} {ps} {rs} a b = record {
    same = map-append (λ (c : Compiled). c.place) xs ys ∙ ap₂ (λ (m n : List ℕ). m ++ n) a.same b.same;
    holds = λ e h. let r = split q xs ys h in let x = a.holds e r.0 in let y = b.holds e r.1 in ((x.0, y.0), join z q xs ys x.1 y.1);
  }

  three : {z : Bytes} {q : List ℕ} {S A B C : Type 0} {xs ys zs : List Compiled} {ps rs ss : List ℕ} → Told z q S A xs ps → Told z q S B ys rs → Told z q S C zs ss → Told z q S (A × B × C) (xs ++ (ys ++ zs)) (ps ++ (rs ++ ss))
  three a b c = read (λ x. (x.0, x.1.0, x.1.1)) (a ⊕ (b ⊕ c))

  four : {z : Bytes} {q : List ℕ} {S A B C D : Type 0} {xs ys zs us : List Compiled} {ps rs ss ts : List ℕ} → Told z q S A xs ps → Told z q S B ys rs → Told z q S C zs ss → Told z q S D us ts → Told z q S (A × B × C × D) (xs ++ (ys ++ (zs ++ us))) (ps ++ (rs ++ (ss ++ ts)))
  four a b c d = read (λ x. (x.0, x.1.0, x.1.1.0, x.1.1.1)) (a ⊕ (b ⊕ (c ⊕ d)))

  -- a body, of which all is found where the tables have its own sequence and those in it
  begun : (s : SourcePosition) (ps : Params) (t : Tree) (l inner : Where) (kind : SeqKind) (x : Bytes) → Opens l inner kind (at s (body ps t))
      → Told inner.path inner.places (Sees inner) (FindsParams seqs bodies inner ps × Finds seqs bodies inner t) (params_sequences inner ps ++ sequences inner t) (params_places ps ++ places t)
      → Told inner.path inner.places (Sees l) (bodies (sequence_number inner.places s.place) ≡ at s (body ps t)) (compiled_body l inner kind x (at s (body ps t)) ∷ sequences inner (at s (body ps t))) (places (at s (body ps t)))
  begun s ps t l inner kind x o a = record {
    same = ap (λ n. s.place ∷ n) a.same;
    holds = λ e h. let r = a.holds (seen_at inner (ap wheres o.number ∙ h.0.inner)) h.1 in (
      h.0.tree,
      (
        record {
          number = o.number;
          place = refl;
          path = refl;
          places = refl;
          sees = o.sees ∙ ap (λ c. sight_in file kind c (at s (body ps t))) (sym e.0);
          stands = λ k. o.stands ∙ same_where home file kind l (wheres l.number) (at s (body ps t)) k (sym e.1) (sym e.2) (sym e.0);
          body = λ k. record { routine = refl; no_loop = o.no_loop; no_clause = o.no_clause; first = o.first; in_sight = o.in_sight; finds = r.0 };
        },
        r.1,
      ),
    );
  }

  -- a rescue or an ensure part
  parted : {A : Type 0} {ps : List ℕ} (s : SourcePosition) (f : Form) (l inner : Where) (kind : SeqKind) → Parts l inner kind s f → Told inner.path inner.places (Sees inner) A (form_sequences inner f) ps
      → Told inner.path inner.places (Sees l) ((seqs (sequence_number inner.places s.place) ≡ part_routine inner kind (at s f)) × A) (compiled_part l inner kind (at s f) ∷ sequences inner (at s f)) (s.place ∷ ps)
  parted s f l inner kind o a = record {
    same = ap (λ n. s.place ∷ n) a.same;
    holds = λ e h. let r = a.holds (seen_at inner (ap wheres o.number ∙ h.0.inner)) h.1 in (
      (h.0.routine, r.0),
      (
        record {
          number = o.number;
          place = refl;
          path = refl;
          places = refl;
          sees = o.sees ∙ ap (λ c. sight_in file kind c (at s f)) (sym e.0);
          stands = λ k. absurd (o.no_body k);
          body = λ k. absurd (o.no_body k);
        },
        r.1,
      ),
    );
  }

  method_opens : (l : Where) (t : Tree) → Opens l (in_body l t) kinds.Method t
  method_opens l t = record { no_loop = refl; no_clause = refl; number = refl; first = refl; in_sight = refl; sees = refl; stands = refl }

  class_opens : (l : Where) (t : Tree) → Opens l (in_body l t) kinds.Class t
  class_opens l t = record { no_loop = refl; no_clause = refl; number = refl; first = refl; in_sight = refl; sees = refl; stands = refl }

  block_opens : (l : Where) (t : Tree) → Opens l (in_block l t) kinds.Block t
  block_opens l t = record { no_loop = refl; no_clause = refl; number = refl; first = refl; in_sight = refl; sees = refl; stands = refl }

  rescue_parts : (l : Where) (s : SourcePosition) (f : Form) → Parts l (in_rescue l (at s f)) kinds.Rescue s f
  rescue_parts l s f = record { no_body = λ k. k; number = refl; sees = refl }

  ensure_parts : (l : Where) (s : SourcePosition) (f : Form) → Parts l (in_ensure l (at s f)) kinds.Ensure s f
  ensure_parts l s f = record { no_body = λ k. k; number = refl; sees = refl }

  mutual
    pub tree_told : (t : Tree) (l : Where) → IsFormed l.clause t → IsHoused None l.sight t → Told l.path l.places (Sees l) (Finds seqs bodies l t) (sequences l t) (places t)
    tree_told (at s f) l fm hs = form_told f s l fm hs

    form_told : (f : Form) (s : SourcePosition) (l : Where) → FormFormed l.clause f → FormHoused None l.sight f → Told l.path l.places (Sees l) (FindsForm seqs bodies l f) (form_sequences l f) (form_places s.place f)
    form_told nil_value s l fm hs = none tt
    form_told true_value s l fm hs = none tt
    form_told false_value s l fm hs = none tt
    form_told (integer i) s l fm hs = none tt
    form_told (symbol x) s l fm hs = none tt
    form_told (text x) s l fm hs = none tt
    form_told self_value s l fm hs = none tt
    form_told file_name s l fm hs = none tt
    form_told folder_name s l fm hs = none tt
    form_told line_number s l fm hs = none tt
    form_told (local x) s l fm hs = none hs
    form_told (instance x) s l fm hs = none tt
    form_told (global x) s l fm hs = none tt
    form_told (joined ps) s l fm hs = pieces_told ps l fm hs
    form_told (array ts ks) s l fm hs = trees_told ts l fm.1 hs
    form_told (hash ps) s l fm hs = pairs_told ps l fm hs
    form_told (range a c e) s l fm hs = tree_told a l fm.0 hs.0 ⊕ tree_told c l fm.1 hs.1
    form_told (constant_path o top xs) s l fm hs = other_told o l fm.1 hs
    form_told (assign t g) s l fm hs = read (λ x. (x, hs.0)) (tree_told t l fm hs.1)
    form_told (assign_all ts gs) s l fm hs = read (λ x. (x, hs.0)) (trees_told ts l fm hs.1)
    form_told (assign_attribute a t m) s l fm hs = tree_told a l fm.0 hs.0 ⊕ tree_told t l fm.1 hs.1
    form_told (assign_index a i t) s l fm hs = three (tree_told a l fm.0 hs.0) (tree_told i l fm.1.0 hs.1.0) (tree_told t l fm.1.1 hs.1.1)
    form_told (operate_attribute a x t f m n) s l fm hs = tree_told a l fm.0 hs.0 ⊕ tree_told t l fm.1 hs.1
    form_told (or_attribute a x t m) s l fm hs = tree_told a l fm.0 hs.0 ⊕ tree_told t l fm.1 hs.1
    form_told (and_attribute a x t m) s l fm hs = tree_told a l fm.0 hs.0 ⊕ tree_told t l fm.1 hs.1
    form_told (operate_index a i t f n) s l fm hs = three (tree_told a l fm.0 hs.0) (tree_told i l fm.1.0 hs.1.0) (tree_told t l fm.1.1 hs.1.1)
    form_told (or_index a i t) s l fm hs = three (tree_told a l fm.0 hs.0) (tree_told i l fm.1.0 hs.1.0) (tree_told t l fm.1.1 hs.1.1)
    form_told (and_index a i t) s l fm hs = three (tree_told a l fm.0 hs.0) (tree_told i l fm.1.0 hs.1.0) (tree_told t l fm.1.1 hs.1.1)
    form_told (send o ts ks v x bare t) s l fm hs = four (other_told o l fm.1.0 hs.0) (trees_told ts l fm.1.1.0 hs.1.0) (other_told v l fm.1.1.1.0 hs.1.1.0) (block_told t v l fm.0.1 fm.1.1.1.1 hs.1.1.1)
    form_told (safe_send a ts ks v x t) s l fm hs = four (tree_told a l fm.1.0 hs.0) (trees_told ts l fm.1.1.0 hs.1.0) (other_told v l fm.1.1.1.0 hs.1.1.0) (block_told t v l fm.0.1 fm.1.1.1.1 hs.1.1.1)
    form_told (yield ts ks) s l fm hs = trees_told ts l fm.1 hs
    form_told (super ts ks v t) s l fm hs = three (trees_told ts l fm.1.0 hs.0) (other_told v l fm.1.1.0 hs.1.0) (block_told t v l fm.0.1 fm.1.1.1 hs.1.1)
    form_told (bare_super t) s l fm hs = read (λ x. (hs.0, x)) (block_told t without l tt fm hs.1)
    form_told bare_raise s l fm hs = none fm
    form_told (statements ts) s l fm hs = trees_told ts l fm hs
    form_told (both a c) s l fm hs = tree_told a l fm.0 hs.0 ⊕ tree_told c l fm.1 hs.1
    form_told (either a c) s l fm hs = tree_told a l fm.0 hs.0 ⊕ tree_told c l fm.1 hs.1
    form_told (negated a) s l fm hs = tree_told a l fm hs
    form_told (if_else c a o) s l fm hs = three (tree_told c l fm.0 hs.0) (tree_told a l fm.1.0 hs.1.0) (other_told o l fm.1.1 hs.1.1)
    form_told (while_loop a c u f) s l fm hs = tree_told a (looped l) fm.0 hs.0 ⊕ tree_told c l fm.1 hs.1
    form_told (case_of a ws o) s l fm hs = three (tree_told a l fm.0 hs.0) (whens_told ws l fm.1.0 hs.1.0) (other_told o l fm.1.1 hs.1.1)
    form_told (case_tests ws o) s l fm hs = whens_told ws l fm.0 hs.0 ⊕ other_told o l fm.1 hs.1
    form_told (return_with ts) s l fm hs = trees_told ts l fm hs
    form_told (break_with ts) s l fm hs = trees_told ts l fm hs
    form_told (next_with ts) s l fm hs = trees_told ts l fm hs
    form_told retry s l fm hs = none tt
    form_told (rescue a o (at r f)) s l fm hs =
        read (λ x. (x.0, x.1, x.2.0, x.2.1)) (three (tree_told a l fm.0 hs.0) (other_told o l fm.1.0 hs.1.0) (rescue_told f r l (in_rescue l (at r f)) refl (rescue_parts l r f) fm.1.1 hs.1.1))
    form_told (ensure a (at r f)) s l fm hs = read (λ x. (x.0, x.1.0, x.1.1)) (tree_told a l fm.0 hs.0 ⊕ ensure_told f r l (in_ensure l (at r f)) refl (ensure_parts l r f) fm.1 hs.1)
    form_told (rescue_sequence cs) s l fm hs = absurd fm
    form_told (ensure_sequence a) s l fm hs = absurd fm
    form_told (method x t f) s l fm hs = body_told t l (in_body l t) kinds.Method x (method_opens l t) fm hs.0
    form_told (class o x t) s l fm hs = other_told o l fm.0 hs.0 ⊕ body_told t l (in_body l t) kinds.Class x (class_opens l t) fm.1.0 hs.1.0
    form_told (module_named x t) s l fm hs = body_told t l (in_body l t) kinds.Class x (class_opens l t) fm.0 hs.0
    form_told (body ps t) s l fm hs = absurd fm

    body_told : (t : Tree) (l inner : Where) (kind : SeqKind) (x : Bytes) → Opens l inner kind t → IsBody t → IsHoused None inner.sight t
        → Told inner.path inner.places (Sees l) (bodies (sequence_number inner.places (place_of t)) ≡ t) (compiled_body l inner kind x t ∷ sequences inner t) (places t)
    body_told (at s f) l inner kind x o fm hs = body_form_told f s l inner kind x o fm hs

    body_form_told : (f : Form) (s : SourcePosition) (l inner : Where) (kind : SeqKind) (x : Bytes) → Opens l inner kind (at s f) → IsBodyForm f → FormHoused None inner.sight f
        → Told inner.path inner.places (Sees l) (bodies (sequence_number inner.places s.place) ≡ at s f) (compiled_body l inner kind x (at s f) ∷ sequences inner (at s f)) (places (at s f))
    body_form_told (body ps t) s l inner kind x o fm hs =
        begun s ps t l inner kind x o (params_told ps inner (subst (λ c. ParamsFormed c ps) (sym o.no_clause) fm.1.0) hs.0 ⊕ tree_told t inner (subst (λ c. IsFormed c t) (sym o.no_clause) fm.1.1) hs.1)
    body_form_told f s l inner kind x o fm hs = absurd fm

    -- a call with a block value has no literal block
    block_told : (t v : Other) (l : Where) → HasOneBlock v t → BlockFormed t → BlockHoused None l.sight t → Told l.path l.places (Sees l) (FindsBlock seqs bodies l t v) (block_sequences l t) (other_places t)
    block_told without v l one fm hs = none tt
    block_told (with t) without l one fm hs = body_told t l (in_block l t) kinds.Block [] (block_opens l t) fm hs.0
    block_told (with t) (with u) l one fm hs = absurd one

    rescue_told : (f : Form) (s : SourcePosition) (l inner : Where) → inner.clause ≡ true → Parts l inner kinds.Rescue s f → IsRescueForm f → FormHoused None inner.sight f
        → Told inner.path inner.places (Sees l) ((seqs (sequence_number inner.places s.place) ≡ part_routine inner kinds.Rescue (at s f)) × FindsRescueForm seqs bodies inner f) (compiled_part l inner kinds.Rescue (at s f) ∷ sequences inner (at s f)) (places (at s f))
    rescue_told (rescue_sequence cs) s l inner e n fm hs = parted s (rescue_sequence cs) l inner kinds.Rescue n (clauses_told cs inner (subst (λ c. ClausesFormed c cs) (sym e) fm) hs)
    rescue_told f s l inner e n fm hs = absurd fm

    ensure_told : (f : Form) (s : SourcePosition) (l inner : Where) → inner.clause ≡ false → Parts l inner kinds.Ensure s f → IsEnsureForm f → FormHoused None inner.sight f
        → Told inner.path inner.places (Sees l) ((seqs (sequence_number inner.places s.place) ≡ part_routine inner kinds.Ensure (at s f)) × FindsEnsureForm seqs bodies inner f) (compiled_part l inner kinds.Ensure (at s f) ∷ sequences inner (at s f)) (places (at s f))
    ensure_told (ensure_sequence a) s l inner e n fm hs = parted s (ensure_sequence a) l inner kinds.Ensure n (tree_told a inner (subst (λ c. IsFormed c a) (sym e) fm) hs)
    ensure_told f s l inner e n fm hs = absurd fm

    trees_told : (ts : Trees) (l : Where) → TreesFormed l.clause ts → TreesHoused None l.sight ts → Told l.path l.places (Sees l) (FindsTrees seqs bodies l ts) (trees_sequences l ts) (trees_places ts)
    trees_told no_more l fm hs = none tt
    trees_told (more t ts) l fm hs = tree_told t l fm.0 hs.0 ⊕ trees_told ts l fm.1 hs.1

    other_told : (o : Other) (l : Where) → OtherFormed l.clause o → OtherHoused None l.sight o → Told l.path l.places (Sees l) (FindsOther seqs bodies l o) (other_sequences l o) (other_places o)
    other_told without l fm hs = none tt
    other_told (with t) l fm hs = tree_told t l fm hs

    pairs_told : (ps : Pairs) (l : Where) → PairsFormed l.clause ps → PairsHoused None l.sight ps → Told l.path l.places (Sees l) (FindsPairs seqs bodies l ps) (pairs_sequences l ps) (pairs_places ps)
    pairs_told no_pair l fm hs = none tt
    pairs_told (pair t u ps) l fm hs = three (tree_told t l fm.0 hs.0) (tree_told u l fm.1.0 hs.1.0) (pairs_told ps l fm.1.1 hs.1.1)

    pieces_told : (ps : Pieces) (l : Where) → PiecesFormed l.clause ps → PiecesHoused None l.sight ps → Told l.path l.places (Sees l) (FindsPieces seqs bodies l ps) (pieces_sequences l ps) (pieces_places ps)
    pieces_told no_piece l fm hs = none tt
    pieces_told (plain_piece x ps) l fm hs = pieces_told ps l fm hs
    pieces_told (code_piece t ps) l fm hs = tree_told t l fm.0 hs.0 ⊕ pieces_told ps l fm.1 hs.1

    whens_told : (ws : Whens) (l : Where) → WhensFormed l.clause ws → WhensHoused None l.sight ws → Told l.path l.places (Sees l) (FindsWhens seqs bodies l ws) (whens_sequences l ws) (whens_places ws)
    whens_told no_when l fm hs = none tt
    whens_told (when ts t ws) l fm hs = three (trees_told ts l fm.0 hs.0) (tree_told t l fm.1.0 hs.1.0) (whens_told ws l fm.1.1 hs.1.1)

    clauses_told : (cs : Rescues) (l : Where) → ClausesFormed l.clause cs → ClausesHoused None l.sight cs → Told l.path l.places (Sees l) (FindsClauses seqs bodies l cs) (clauses_sequences l cs) (clauses_places cs)
    clauses_told no_clause l fm hs = none tt
    clauses_told (clause ts x t cs) l fm hs =
        read (λ y. (y.0, hs.1.0, y.1, y.2)) (three (trees_told ts l fm.0 hs.0) (tree_told t l fm.1.0 hs.1.1.0) (clauses_told cs l fm.1.1 hs.1.1.1))

    params_told : (ps : Params) (l : Where) → ParamsFormed l.clause ps → ParamsHoused None l.sight ps → Told l.path l.places (Sees l) (FindsParams seqs bodies l ps) (params_sequences l ps) (params_places ps)
    params_told no_param l fm hs = none tt
    params_told (required x ps) l fm hs = params_told ps l fm hs.1
    params_told (optional x t ps) l fm hs = read (λ y. (hs.0, y.0, y.1)) (tree_told t l fm.0 hs.1.0 ⊕ params_told ps l fm.1 hs.1.1)
    params_told (rest_param x ps) l fm hs = params_told ps l fm hs.1
    params_told (block_param x ps) l fm hs = params_told ps l fm hs.1
