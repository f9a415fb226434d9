-- A sequence that is compiled is what the compile table says.
use Rattle.std.proofs.Common.{◌≡◌, ℕ, Bool, false, refl, sym, ap, ◌∙◌, subst, List, [], ◌∷◌, ◌++◌, map}
use Rattle.std.specs.Prelude.{IsPermutation}
use Rattle.std.proofs.lemmas.List.{append_assoc, append-nil, map-append}
use Rattle.std.proofs.lemmas.List.Sorted.{IsPermutation-sym, IsPermutation-map, IsPermutation-append_left, IsPermutation-append_right}
use Rattle.ruby_tree.specs.Names.{Bytes}
use Rattle.ruby_tree.specs.Tree.{Tree, at}
use Rattle.iseq_types.specs.declared.sequences.SeqKind.{SeqKind}
use Rattle.iseq_types.specs.declared.sequences.SeqKind.TheVariants as kinds
use Rattle.ruby_meaning.specs.Locals.{place_of, first_line_of, params_of, locals_of}
use Rattle.ruby_meaning.specs.Sequences.{sequence_number}
use Rattle.ruby_meaning.specs.Levels.{Sight, block_sight}
use Rattle.compile_table.specs.Shapes.{Where}
use Rattle.compile_table.specs.Sequences.{depth_in, entries_of, body_sequence}
use Rattle.local_scopes.specs.Opened.{Open, sight, innermost_names}
use Rattle.code_emitter.specs.Children.{Child, direct}
use Rattle.yarv_compile.specs.declared.places.SourceFile.{SourceFile}
use Rattle.yarv_compile.specs.declared.units.Finished.{Finished}
use Rattle.yarv_compile.specs.Alike.{Alike}
use Rattle.yarv_compile.specs.Children.{inner_by, inner_of, compiled_by, compiled_child, under, all_under}
use Rattle.yarv_compile.specs.Finishing.{standing, sight_within, loop_within, IsWithin, body_with, code_at, finished_of, finished_at, finished_child}
use Rattle.yarv_compile.proofs.Alike.{body_sequence_alike, part_sequence_alike}
use Rattle.yarv_compile.proofs.DirectChildren.{child_is_under}
use Rattle.yarv_compile.proofs.Reordered.{◌▸◌, of_same}

-- a sequence of a kind, which stands in one of the file, and within which these bodies are open
module _ (f : SourceFile) (os : List Open) (around : Sight) (n : ℕ) (l : Where) (w : IsWithin f around n l) where
  abbrev here : SeqKind → Bool → Tree → Where
  here kind loop t = standing f os (loop_within kind loop) (first_line_of t)

  inner_alike : (kind : SeqKind) (loop : Bool) (t : Tree) → sight os ≡ sight_within kind around t → Alike (inner_by kind (record l { loop = loop }) t) (here kind loop t)
  inner_alike kinds.Rescue loop (at s g) e = record { loop = refl; first = refl; sight = w.sight ∙ sym e; path = w.path; numbers = w.numbers }
  inner_alike kinds.Ensure loop (at s g) e = record { loop = refl; first = refl; sight = w.sight ∙ sym e; path = w.path; numbers = w.numbers }
  inner_alike kinds.Block loop t e = record { loop = refl; first = refl; sight = ap (λ c. block_sight c t) w.sight ∙ sym e; path = w.path; numbers = w.numbers }
  inner_alike kinds.File loop t e = record { loop = refl; first = refl; sight = sym e; path = w.path; numbers = w.numbers }
  inner_alike kinds.Method loop t e = record { loop = refl; first = refl; sight = sym e; path = w.path; numbers = w.numbers }
  inner_alike kinds.Class loop t e = record { loop = refl; first = refl; sight = sym e; path = w.path; numbers = w.numbers }

  inner_number : (kind : SeqKind) (loop : Bool) (t : Tree) → (inner_by kind (record l { loop = loop }) t).number ≡ sequence_number l.places (place_of t)
  inner_number kinds.Rescue loop (at s g) = refl
  inner_number kinds.Ensure loop (at s g) = refl
  inner_number kinds.Block loop t = refl
  inner_number kinds.File loop t = refl
  inner_number kinds.Method loop t = refl
  inner_number kinds.Class loop t = refl

  inner_within : (kind : SeqKind) (loop : Bool) (t : Tree) → sight os ≡ sight_within kind around t → IsWithin f (sight os) (sequence_number f.numbers.now (place_of t)) (inner_by kind (record l { loop = loop }) t)
  inner_within kind loop t e =
      let a = inner_alike kind loop t e in
      record { sight = a.sight; path = a.path; parent = inner_number kind loop t ∙ w.numbers (place_of t); numbers = a.numbers }

  -- the names of the innermost environment are the locals of the body
  body_found : (name : Bytes) (loop : Bool) (t : Tree) (m : Where) → locals_of m.sight.seen t ≡ innermost_names m.sight.scopes
      → body_sequence m name t ≡ body_with name (innermost_names m.sight.scopes) t (code_at 0 m t) (entries_of m (params_of t))
  body_found name loop t m e = ap (λ (locals : List Bytes). body_with name locals t (code_at 0 m t) (entries_of m (params_of t))) e

  child_found : (kind : SeqKind) (name : Bytes) (loop : Bool) (t : Tree) → sight os ≡ sight_within kind around t
      → finished_of (compiled_by kind (record l { loop = loop }) (inner_by kind (record l { loop = loop }) t) name t) ≡ finished_at f os n (here kind loop t) (record { kind = kind; name = name; loop = loop; tree = t })
  child_found kinds.Rescue name loop t e = λ k. record { place = place_of t; kind = kinds.Rescue; parent = w.parent k; body = part_sequence_alike _ (here kinds.Rescue loop t) (inner_alike kinds.Rescue loop t e) kinds.Rescue t k }
  child_found kinds.Ensure name loop t e = λ k. record { place = place_of t; kind = kinds.Ensure; parent = w.parent k; body = part_sequence_alike _ (here kinds.Ensure loop t) (inner_alike kinds.Ensure loop t e) kinds.Ensure t k }
  child_found kinds.Block name loop t e =
      let m = here kinds.Block loop t in
      let same = body_sequence_alike _ m (inner_alike kinds.Block loop t e) name t ∙ body_found name loop t m (ap (λ (c : Sight). locals_of c.seen t) e ∙ sym (ap (λ (c : Sight). innermost_names c.scopes) e)) in
      λ k. record { place = place_of t; kind = kinds.Block; parent = w.parent k; body = same k }
  child_found kinds.File name loop t e =
      let m = here kinds.File loop t in
      let same = body_sequence_alike _ m (inner_alike kinds.File loop t e) name t ∙ body_found name loop t m (ap (λ (c : Sight). locals_of c.seen t) e ∙ sym (ap (λ (c : Sight). innermost_names c.scopes) e)) in
      λ k. record { place = place_of t; kind = kinds.File; parent = w.parent k; body = same k }
  child_found kinds.Method name loop t e =
      let m = here kinds.Method loop t in
      let same = body_sequence_alike _ m (inner_alike kinds.Method loop t e) name t ∙ body_found name loop t m (ap (λ (c : Sight). locals_of c.seen t) e ∙ sym (ap (λ (c : Sight). innermost_names c.scopes) e)) in
      λ k. record { place = place_of t; kind = kinds.Method; parent = w.parent k; body = same k }
  child_found kinds.Class name loop t e =
      let m = here kinds.Class loop t in
      let same = body_sequence_alike _ m (inner_alike kinds.Class loop t e) name t ∙ body_found name loop t m (ap (λ (c : Sight). locals_of c.seen t) e ∙ sym (ap (λ (c : Sight). innermost_names c.scopes) e)) in
      λ k. record { place = place_of t; kind = kinds.Class; parent = w.parent k; body = same k }

  -- A sequence was done, and then those that stand directly in it, each with those within it.
  pub with_inner : (c : Child) (p : ℕ) (inner : List Child) (before own after : List Finished) → sight os ≡ sight_within c.kind around c.tree → p ≡ place_of c.tree
      → own ≡ before ++ finished_child f os n c ∷ [] → inner ≡ direct (loop_within c.kind c.loop) c.tree
      → ((m : Where) → IsWithin f (sight os) (sequence_number f.numbers.now p) m → IsPermutation (own ++ map finished_of (all_under m inner)) after)
      → IsPermutation (before ++ map finished_of (under l c)) after
  with_inner c p inner before own after e at_place is_own is_inner rest =
      let m = inner_of l c in
      let a = inner_alike c.kind c.loop c.tree e in
      let found : IsWithin f (sight os) (sequence_number f.numbers.now p) m = subst (λ q. IsWithin f (sight os) (sequence_number f.numbers.now q) m) (sym at_place) (inner_within c.kind c.loop c.tree e) in
      let kept = map finished_of (all_under m inner) in
      let children : inner ≡ direct m.loop c.tree = is_inner ∙ ap (λ b. direct b c.tree) (sym a.loop) in
      let one : map finished_of (compiled_child l c ∷ all_under m (direct m.loop c.tree)) ≡ finished_child f os n c ∷ kept =
      λ k. child_found c.kind c.name c.loop c.tree e k ∷ map finished_of (all_under m (sym children k)) in
      let all : IsPermutation (map finished_of (under l c)) (finished_child f os n c ∷ kept) =
      IsPermutation-sym _ _ (IsPermutation-map finished_of _ _ (child_is_under l c)) ▸ of_same one in
      IsPermutation-append_right before _ _ all
      ▸ (of_same (sym (append_assoc before (finished_child f os n c ∷ []) kept) ∙ ap (λ xs. xs ++ kept) (sym is_own)) ▸ rest m found)

-- One more child was done, with those within it.
pub one_more : (l : Where) (c : Child) (cs : List Child) (start before after : List Finished)
    → IsPermutation (start) (before ++ map finished_of (all_under l (c ∷ cs)))
    → IsPermutation (before ++ map finished_of (under l c)) after
    → IsPermutation start (after ++ map finished_of (all_under l cs))
one_more l c cs start before after so_far more =
    let rest = map finished_of (all_under l cs) in
    so_far
    ▸ (of_same (ap (λ xs. before ++ xs) (map-append finished_of (under l c) (all_under l cs)) ∙ sym (append_assoc before (map finished_of (under l c)) rest))
    ▸ IsPermutation-append_left rest _ _ more)
