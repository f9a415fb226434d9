-- The sequences of a tree are sound, where the index has a row for each.
use Rattle.std.proofs.Common.{◌≡◌, Bool, true, false, refl, sym, subst, List, [], ◌∷◌, ◌++◌, None}
use Rattle.std.specs.List.{AllByRecursion}
use Rattle.std.proofs.ByRecursion.{All-append}
use Rattle.ruby_tree.specs.Names.{Bytes}
use Rattle.ruby_tree.specs.Tree.{SourcePosition, Tree, at, Form, joined, array, hash, range, constant_path, assign, assign_all, assign_attribute, assign_index, operate_attribute, or_attribute, and_attribute, operate_index, or_index, and_index, send, safe_send, yield, super, bare_super, statements, both, either, negated, if_else, while_loop, case_of, case_tests, return_with, break_with, next_with, rescue, ensure, rescue_sequence, ensure_sequence, method, class, module_named, body, Trees, no_more, more, Other, without, with, Pairs, no_pair, pair, Pieces, no_piece, plain_piece, code_piece, Whens, no_when, when, Rescues, no_clause, clause, Params, no_param, required, optional, rest_param, block_param}
use Rattle.iseq_types.specs.declared.sequences.IndexRow.{IndexRow}
use Rattle.iseq_types.specs.declared.sequences.SeqKind.{SeqKind}
use Rattle.iseq_types.specs.declared.sequences.SeqKind.TheVariants as kinds
use Rattle.iseq_types.specs.Index.{AreIndexRows, IsChild}
use Rattle.iseq_types.specs.Sound.{IsSound}
use Rattle.iseq_types.proofs.Homes.{homes_child}
use Rattle.ruby_meaning.specs.Levels.{IsHoused, BlockHoused, TreesHoused, OtherHoused, PairsHoused, PiecesHoused, WhensHoused, ClausesHoused, ParamsHoused}
use Rattle.compile_table.specs.Shapes.{Where, looped, number_of, in_rescue, in_ensure}
use Rattle.compile_table.specs.Sequences.{Compiled, compiled_body, compiled_part, in_body, in_block, index_row, sequences, block_sequences, trees_sequences, other_sequences, pairs_sequences, pieces_sequences, whens_sequences, clauses_sequences, params_sequences}
use Rattle.tree_laws.specs.Formed.{IsFormed, IsBody, BlockFormed, IsRescuePart, IsEnsurePart, TreesFormed, OtherFormed, PairsFormed, PiecesFormed, WhensFormed, ClausesFormed, ParamsFormed}
use Rattle.compile_laws.proofs.FineTrees.{Children, children_split}
use Rattle.compile_laws.proofs.HomedLocals.{Homed}
use Rattle.compile_laws.proofs.SoundBodies.{HasRow, IsHomed, locals_at, sound_body, sound_rescue, sound_ensure}

module _ (rows : List IndexRow) (index : AreIndexRows rows) where
  abbrev pub SoundAt : Compiled → Type 0
  SoundAt c = IsSound c.body rows c.inner.number

  abbrev pub AllSound : List Compiled → Type 0
  AllSound cs = AllByRecursion SoundAt cs

  -- where the sequences within a sequence find their locals
  child_homes : (l : Where) (c : Compiled) (k : SeqKind) → c.kind ≡ k → c.parent ≡ l.number → HasRow rows index c → IsChild rows l.number k c.inner.number
  child_homes l c k e p row = (index_row c, row, e, p)

  block_homed : (l : Where) (t : Tree) → HasRow rows index (compiled_body l (in_block l t) kinds.Block [] t) → IsHomed rows index l → IsHomed rows index (in_block l t)
  block_homed l t row home =
      let c = compiled_body l (in_block l t) kinds.Block [] t in
      subst (λ hs. Homed rows hs (in_block l t).sight.scopes) (sym (homes_child rows l.number (number_of l t) kinds.Block index (child_homes l c kinds.Block refl refl row))) (locals_at rows index (number_of l t) (index_row c) row, home)

  method_homed : (l : Where) (x : Bytes) (t : Tree) → HasRow rows index (compiled_body l (in_body l t) kinds.Method x t) → IsHomed rows index (in_body l t)
  method_homed l x t row =
      let c = compiled_body l (in_body l t) kinds.Method x t in
      subst (λ hs. Homed rows hs (in_body l t).sight.scopes) (sym (homes_child rows l.number (number_of l t) kinds.Method index (child_homes l c kinds.Method refl refl row))) (locals_at rows index (number_of l t) (index_row c) row, tt)

  class_homed : (l : Where) (x : Bytes) (t : Tree) → HasRow rows index (compiled_body l (in_body l t) kinds.Class x t) → IsHomed rows index (in_body l t)
  class_homed l x t row =
      let c = compiled_body l (in_body l t) kinds.Class x t in
      subst (λ hs. Homed rows hs (in_body l t).sight.scopes) (sym (homes_child rows l.number (number_of l t) kinds.Class index (child_homes l c kinds.Class refl refl row))) (locals_at rows index (number_of l t) (index_row c) row, tt)

  rescue_homed : (l : Where) (s : SourcePosition) (f : Form) → HasRow rows index (compiled_part l (in_rescue l (at s f)) kinds.Rescue (at s f)) → IsHomed rows index l → IsHomed rows index (in_rescue l (at s f))
  rescue_homed l s f row home =
      let c = compiled_part l (in_rescue l (at s f)) kinds.Rescue (at s f) in
      subst (λ hs. Homed rows hs l.sight.scopes) (sym (homes_child rows l.number c.inner.number kinds.Rescue index (child_homes l c kinds.Rescue refl refl row))) home

  ensure_homed : (l : Where) (s : SourcePosition) (f : Form) → HasRow rows index (compiled_part l (in_ensure l (at s f)) kinds.Ensure (at s f)) → IsHomed rows index l → IsHomed rows index (in_ensure l (at s f))
  ensure_homed l s f row home =
      let c = compiled_part l (in_ensure l (at s f)) kinds.Ensure (at s f) in
      subst (λ hs. Homed rows hs l.sight.scopes) (sym (homes_child rows l.number c.inner.number kinds.Ensure index (child_homes l c kinds.Ensure refl refl row))) home

  abbrev C : List Compiled → Type 0
  C cs = Children rows cs

  abbrev H : Where → Type 0
  H l = IsHomed rows index l

  both_sound : (xs ys : List Compiled) → C (xs ++ ys) → (C xs → AllSound xs) → (C ys → AllSound ys) → AllSound (xs ++ ys)
  both_sound xs ys c f g = let d = children_split rows xs ys c in All-append SoundAt xs ys (f d.0) (g d.1)

  three_sound : (xs ys zs : List Compiled) → C (xs ++ (ys ++ zs)) → (C xs → AllSound xs) → (C ys → AllSound ys) → (C zs → AllSound zs) → AllSound (xs ++ (ys ++ zs))
  three_sound xs ys zs c f g h = both_sound xs (ys ++ zs) c f (λ d. both_sound ys zs d g h)

  mutual
    pub trees_in : (t : Tree) (l : Where) (k : Bool) → IsFormed k t → IsHoused None l.sight t → H l → C (sequences l t) → AllSound (sequences l t)
    trees_in (at s (joined ps)) l k f h m c = pieces_in ps l k f h m c
    trees_in (at s (array ts ks)) l k f h m c = all_in ts l k f.1 h m c
    trees_in (at s (hash ps)) l k f h m c = pairs_in ps l k f h m c
    trees_in (at s (range a u e)) l k f h m c = both_sound (sequences l a) (sequences l u) c (λ d. trees_in a l k f.0 h.0 m d) (λ d. trees_in u l k f.1 h.1 m d)
    trees_in (at s (constant_path o top xs)) l k f h m c = other_in o l k f.1 h m c
    trees_in (at s (assign t g)) l k f h m c = trees_in t l k f h.1 m c
    trees_in (at s (assign_all ts gs)) l k f h m c = all_in ts l k f h.1 m c
    trees_in (at s (assign_attribute a u x)) l k f h m c = both_sound (sequences l a) (sequences l u) c (λ d. trees_in a l k f.0 h.0 m d) (λ d. trees_in u l k f.1 h.1 m d)
    trees_in (at s (assign_index a i u)) l k f h m c = three_sound (sequences l a) (sequences l i) (sequences l u) c (λ d. trees_in a l k f.0 h.0 m d) (λ d. trees_in i l k f.1.0 h.1.0 m d) (λ d. trees_in u l k f.1.1 h.1.1 m d)
    trees_in (at s (operate_attribute a x u y z n)) l k f h m c = both_sound (sequences l a) (sequences l u) c (λ d. trees_in a l k f.0 h.0 m d) (λ d. trees_in u l k f.1 h.1 m d)
    trees_in (at s (or_attribute a x u y)) l k f h m c = both_sound (sequences l a) (sequences l u) c (λ d. trees_in a l k f.0 h.0 m d) (λ d. trees_in u l k f.1 h.1 m d)
    trees_in (at s (and_attribute a x u y)) l k f h m c = both_sound (sequences l a) (sequences l u) c (λ d. trees_in a l k f.0 h.0 m d) (λ d. trees_in u l k f.1 h.1 m d)
    trees_in (at s (operate_index a i u y n)) l k f h m c = three_sound (sequences l a) (sequences l i) (sequences l u) c (λ d. trees_in a l k f.0 h.0 m d) (λ d. trees_in i l k f.1.0 h.1.0 m d) (λ d. trees_in u l k f.1.1 h.1.1 m d)
    trees_in (at s (or_index a i u)) l k f h m c = three_sound (sequences l a) (sequences l i) (sequences l u) c (λ d. trees_in a l k f.0 h.0 m d) (λ d. trees_in i l k f.1.0 h.1.0 m d) (λ d. trees_in u l k f.1.1 h.1.1 m d)
    trees_in (at s (and_index a i u)) l k f h m c = three_sound (sequences l a) (sequences l i) (sequences l u) c (λ d. trees_in a l k f.0 h.0 m d) (λ d. trees_in i l k f.1.0 h.1.0 m d) (λ d. trees_in u l k f.1.1 h.1.1 m d)
    trees_in (at s (send o ts ks v x bare t)) l k f h m c =
        both_sound (other_sequences l o) (trees_sequences l ts ++ (other_sequences l v ++ block_sequences l t)) c (λ d. other_in o l k f.1.0 h.0 m d)
        (λ d. three_sound (trees_sequences l ts) (other_sequences l v) (block_sequences l t) d (λ e. all_in ts l k f.1.1.0 h.1.0 m e) (λ e. other_in v l k f.1.1.1.0 h.1.1.0 m e) (λ e. block_in t l f.1.1.1.1 h.1.1.1 m e))
    trees_in (at s (safe_send a ts ks v x t)) l k f h m c =
        both_sound (sequences l a) (trees_sequences l ts ++ (other_sequences l v ++ block_sequences l t)) c (λ d. trees_in a l k f.1.0 h.0 m d)
        (λ d. three_sound (trees_sequences l ts) (other_sequences l v) (block_sequences l t) d (λ e. all_in ts l k f.1.1.0 h.1.0 m e) (λ e. other_in v l k f.1.1.1.0 h.1.1.0 m e) (λ e. block_in t l f.1.1.1.1 h.1.1.1 m e))
    trees_in (at s (yield ts ks)) l k f h m c = all_in ts l k f.1 h m c
    trees_in (at s (super ts ks v t)) l k f h m c =
        three_sound (trees_sequences l ts) (other_sequences l v) (block_sequences l t) c (λ e. all_in ts l k f.1.0 h.0 m e) (λ e. other_in v l k f.1.1.0 h.1.0 m e) (λ e. block_in t l f.1.1.1 h.1.1 m e)
    trees_in (at s (bare_super t)) l k f h m c = block_in t l f h.1 m c
    trees_in (at s (statements ts)) l k f h m c = all_in ts l k f h m c
    trees_in (at s (both a u)) l k f h m c = both_sound (sequences l a) (sequences l u) c (λ d. trees_in a l k f.0 h.0 m d) (λ d. trees_in u l k f.1 h.1 m d)
    trees_in (at s (either a u)) l k f h m c = both_sound (sequences l a) (sequences l u) c (λ d. trees_in a l k f.0 h.0 m d) (λ d. trees_in u l k f.1 h.1 m d)
    trees_in (at s (negated a)) l k f h m c = trees_in a l k f h m c
    trees_in (at s (if_else a u o)) l k f h m c =
        both_sound (sequences l a) (sequences l u ++ other_sequences l o) c (λ d. trees_in a l k f.0 h.0 m d)
        (λ d. both_sound (sequences l u) (other_sequences l o) d (λ e. trees_in u l k f.1.0 h.1.0 m e) (λ e. other_in o l k f.1.1 h.1.1 m e))
    trees_in (at s (while_loop a u e first)) l k f h m c = both_sound (sequences (looped l) a) (sequences l u) c (λ d. trees_in a (looped l) k f.0 h.0 m d) (λ d. trees_in u l k f.1 h.1 m d)
    trees_in (at s (case_of a ws o)) l k f h m c =
        both_sound (sequences l a) (whens_sequences l ws ++ other_sequences l o) c (λ d. trees_in a l k f.0 h.0 m d)
        (λ d. both_sound (whens_sequences l ws) (other_sequences l o) d (λ e. whens_in ws l k f.1.0 h.1.0 m e) (λ e. other_in o l k f.1.1 h.1.1 m e))
    trees_in (at s (case_tests ws o)) l k f h m c = both_sound (whens_sequences l ws) (other_sequences l o) c (λ e. whens_in ws l k f.0 h.0 m e) (λ e. other_in o l k f.1 h.1 m e)
    trees_in (at s (return_with ts)) l k f h m c = all_in ts l k f h m c
    trees_in (at s (break_with ts)) l k f h m c = all_in ts l k f h m c
    trees_in (at s (next_with ts)) l k f h m c = all_in ts l k f h m c
    trees_in (at s (rescue a o u)) l k f h m c =
        both_sound (sequences l a) (other_sequences l o ++ (compiled_part l (in_rescue l u) kinds.Rescue u ∷ sequences (in_rescue l u) u)) c (λ d. trees_in a l k f.0 h.0 m d)
        (λ d. both_sound (other_sequences l o) (compiled_part l (in_rescue l u) kinds.Rescue u ∷ sequences (in_rescue l u) u) d (λ e. other_in o l k f.1.0 h.1.0 m e) (λ e. rescue_in u l f.1.1 h.1.1 m e))
    trees_in (at s (ensure a u)) l k f h m c =
        both_sound (sequences l a) (compiled_part l (in_ensure l u) kinds.Ensure u ∷ sequences (in_ensure l u) u) c (λ d. trees_in a l k f.0 h.0 m d) (λ d. ensure_in u l f.1 h.1 m d)
    trees_in (at s (method x t y)) l k f h m c =
        let home = method_homed l x t c.0 in (sound_body rows index l (in_body l t) kinds.Method x t c.0 refl (λ e. absurd cc) f h.0 home c.1, body_in t (in_body l t) f h.0 home c.1)
    trees_in (at s (class o x t)) l k f h m c =
        both_sound (other_sequences l o) (compiled_body l (in_body l t) kinds.Class x t ∷ sequences (in_body l t) t) c (λ d. other_in o l k f.0 h.0 m d)
        (λ d. let home = class_homed l x t d.0 in (sound_body rows index l (in_body l t) kinds.Class x t d.0 refl (λ e. absurd cc) f.1.0 h.1.0 home d.1, body_in t (in_body l t) f.1.0 h.1.0 home d.1))
    trees_in (at s (module_named x t)) l k f h m c =
        let home = class_homed l x t c.0 in (sound_body rows index l (in_body l t) kinds.Class x t c.0 refl (λ e. absurd cc) f.0 h.0 home c.1, body_in t (in_body l t) f.0 h.0 home c.1)
    trees_in (at s (rescue_sequence cs)) l k f h m c = absurd f
    trees_in (at s (ensure_sequence t)) l k f h m c = absurd f
    trees_in (at s (body ps t)) l k f h m c = absurd f
    trees_in (at s f) l k g h m c = tt

    block_in : (t : Other) (l : Where) → BlockFormed t → BlockHoused None l.sight t → H l → C (block_sequences l t) → AllSound (block_sequences l t)
    block_in without l f h m c = tt
    block_in (with t) l f h m c =
        let home = block_homed l t c.0 m in (sound_body rows index l (in_block l t) kinds.Block [] t c.0 refl (λ e. absurd cc) f h.0 home c.1, body_in t (in_block l t) f h.0 home c.1)

    rescue_in : (u : Tree) (l : Where) → IsRescuePart u → IsHoused None l.sight u → H l → C (compiled_part l (in_rescue l u) kinds.Rescue u ∷ sequences (in_rescue l u) u) → AllSound (compiled_part l (in_rescue l u) kinds.Rescue u ∷ sequences (in_rescue l u) u)
    rescue_in (at s (rescue_sequence cs)) l f h m c =
        let home = rescue_homed l s (rescue_sequence cs) c.0 m in
        (sound_rescue rows index l (in_rescue l (at s (rescue_sequence cs))) (at s (rescue_sequence cs)) c.0 f h home c.1, clauses_in cs (in_rescue l (at s (rescue_sequence cs))) true f h home c.1)
    rescue_in (at s f) l g h m c = absurd g

    ensure_in : (u : Tree) (l : Where) → IsEnsurePart u → IsHoused None l.sight u → H l → C (compiled_part l (in_ensure l u) kinds.Ensure u ∷ sequences (in_ensure l u) u) → AllSound (compiled_part l (in_ensure l u) kinds.Ensure u ∷ sequences (in_ensure l u) u)
    ensure_in (at s (ensure_sequence t)) l f h m c =
        let home = ensure_homed l s (ensure_sequence t) c.0 m in
        (sound_ensure rows index l (in_ensure l (at s (ensure_sequence t))) (at s (ensure_sequence t)) c.0 f h home c.1, trees_in t (in_ensure l (at s (ensure_sequence t))) false f h home c.1)
    ensure_in (at s f) l g h m c = absurd g

    -- those in a body
    body_in : (t : Tree) (l : Where) → IsBody t → IsHoused None l.sight t → H l → C (sequences l t) → AllSound (sequences l t)
    body_in (at s (body ps t)) l f h m c = both_sound (params_sequences l ps) (sequences l t) c (λ d. params_in ps l f.1.0 h.0 m d) (λ d. trees_in t l false f.1.1 h.1 m d)
    body_in (at s f) l g h m c = absurd g

    all_in : (ts : Trees) (l : Where) (k : Bool) → TreesFormed k ts → TreesHoused None l.sight ts → H l → C (trees_sequences l ts) → AllSound (trees_sequences l ts)
    all_in no_more l k f h m c = tt
    all_in (more t ts) l k f h m c = both_sound (sequences l t) (trees_sequences l ts) c (λ d. trees_in t l k f.0 h.0 m d) (λ d. all_in ts l k f.1 h.1 m d)

    other_in : (o : Other) (l : Where) (k : Bool) → OtherFormed k o → OtherHoused None l.sight o → H l → C (other_sequences l o) → AllSound (other_sequences l o)
    other_in without l k f h m c = tt
    other_in (with t) l k f h m c = trees_in t l k f h m c

    pairs_in : (ps : Pairs) (l : Where) (k : Bool) → PairsFormed k ps → PairsHoused None l.sight ps → H l → C (pairs_sequences l ps) → AllSound (pairs_sequences l ps)
    pairs_in no_pair l k f h m c = tt
    pairs_in (pair t u ps) l k f h m c =
        both_sound (sequences l t) (sequences l u ++ pairs_sequences l ps) c (λ d. trees_in t l k f.0 h.0 m d) (λ d. both_sound (sequences l u) (pairs_sequences l ps) d (λ e. trees_in u l k f.1.0 h.1.0 m e) (λ e. pairs_in ps l k f.1.1 h.1.1 m e))

    pieces_in : (ps : Pieces) (l : Where) (k : Bool) → PiecesFormed k ps → PiecesHoused None l.sight ps → H l → C (pieces_sequences l ps) → AllSound (pieces_sequences l ps)
    pieces_in no_piece l k f h m c = tt
    pieces_in (plain_piece x ps) l k f h m c = pieces_in ps l k f h m c
    pieces_in (code_piece t ps) l k f h m c = both_sound (sequences l t) (pieces_sequences l ps) c (λ d. trees_in t l k f.0 h.0 m d) (λ d. pieces_in ps l k f.1 h.1 m d)

    whens_in : (ws : Whens) (l : Where) (k : Bool) → WhensFormed k ws → WhensHoused None l.sight ws → H l → C (whens_sequences l ws) → AllSound (whens_sequences l ws)
    whens_in no_when l k f h m c = tt
    whens_in (when ts t ws) l k f h m c =
        both_sound (trees_sequences l ts) (sequences l t ++ whens_sequences l ws) c (λ d. all_in ts l k f.0 h.0 m d) (λ d. both_sound (sequences l t) (whens_sequences l ws) d (λ e. trees_in t l k f.1.0 h.1.0 m e) (λ e. whens_in ws l k f.1.1 h.1.1 m e))

    clauses_in : (cs : Rescues) (l : Where) (k : Bool) → ClausesFormed k cs → ClausesHoused None l.sight cs → H l → C (clauses_sequences l cs) → AllSound (clauses_sequences l cs)
    clauses_in no_clause l k f h m c = tt
    clauses_in (clause ts x t cs) l k f h m c =
        both_sound (trees_sequences l ts) (sequences l t ++ clauses_sequences l cs) c (λ d. all_in ts l k f.0 h.0 m d)
        (λ d. both_sound (sequences l t) (clauses_sequences l cs) d (λ e. trees_in t l k f.1.0 h.1.1.0 m e) (λ e. clauses_in cs l k f.1.1 h.1.1.1 m e))

    params_in : (ps : Params) (l : Where) → ParamsFormed false ps → ParamsHoused None l.sight ps → H l → C (params_sequences l ps) → AllSound (params_sequences l ps)
    params_in no_param l f h m c = tt
    params_in (required x ps) l f h m c = params_in ps l f h.1 m c
    params_in (optional x t ps) l f h m c = both_sound (sequences l t) (params_sequences l ps) c (λ d. trees_in t l false f.0 h.1.0 m d) (λ d. params_in ps l f.1 h.1.1 m d)
    params_in (rest_param x ps) l f h m c = params_in ps l f h.1 m c
    params_in (block_param x ps) l f h m c = params_in ps l f h.1 m c
