-- The sequences of a file are those of its unit.
use Rattle.std.proofs.Common.{◌≡◌, ℕ, ◌≤◌, ◌<◌, false, nat_eq, refl, sym, ap, ap₂, ◌∙◌, subst, List, [], ◌∷◌, ◌++◌, map, length, arith}
use Rattle.std.specs.Prelude.{IsPermutation}
use Rattle.std.specs.List.{IsDistinct}
use Rattle.std.specs.List.Sorted.{IsNonDecreasing, IsNonDecreasingBy, IsStrictlyIncreasing}
use Rattle.std.proofs.Math.ListN.{get_or, get_or-map}
use Rattle.std.proofs.lemmas.Bool.Decides.{nat_tests}
use Rattle.std.proofs.lemmas.List.{length-map}
use Rattle.std.proofs.lemmas.List.Sorted.{IsPermutation-map, IsNonDecreasingBy-from_default}
use Rattle.std.proofs.lemmas.Map.Keys.{IsDistinct-IsPermutation, IsStrictlyIncreasing-from_distinct}
use Rattle.ruby_lexer.specs.Bytes.{Bytes as Source}
use Rattle.ruby_tree.specs.Names.{Bytes}
use Rattle.ruby_tree.specs.Tree.{Tree}
use Rattle.ruby_tree.specs.Reading.{Reads}
use Rattle.iseq_types.specs.declared.sequences.IndexRow.{IndexRow}
use Rattle.iseq_types.specs.declared.sequences.Sequence.{Sequence}
use Rattle.iseq_types.specs.declared.sequences.SeqKind.TheVariants as kinds
use Rattle.ruby_meaning.specs.Sequences.{places, sequence_number}
use Rattle.ruby_meaning.specs.Levels.{file_sight}
use Rattle.ruby_meaning.specs.Loads.{file_body}
use Rattle.compile_table.specs.Shapes.{Where}
use Rattle.compile_table.specs.Sequences.{Compiled, in_file, sequences, by_places, compiled_file, sequences_of, index_row, unit_with, unit_of, body_sequence}
use Rattle.tree_laws.proofs.TextsFormed.{text_formed}
use Rattle.compile_laws.proofs.HomedLocals.{file_locals}
use Rattle.yarv_compile.specs.declared.places.SourceFile.{SourceFile}
use Rattle.yarv_compile.specs.declared.units.Finished.{Finished}
use Rattle.yarv_compile.specs.Alike.{Alike}
use Rattle.yarv_compile.specs.Children.{places_in}
use Rattle.yarv_compile.specs.Finishing.{IsWithin, in_own, body_with, code_at, finished_of, finished_file, row_of, unit_from}
use Rattle.yarv_compile.proofs.Alike.{body_sequence_alike}
use Rattle.yarv_compile.proofs.ByNumbers.{apart}
use Rattle.yarv_compile.proofs.Lifted.{kept_in_order}

abbrev place_in : Finished → ℕ
place_in c = c.place

rows_kept : (cs : List Compiled) → map row_of (map finished_of cs) ≡ map index_row cs
rows_kept [] = refl
rows_kept (c ∷ cs) = ap (λ rs. index_row c ∷ rs) (rows_kept cs)

bodies_kept : (cs : List Compiled) → map (λ (c : Finished). c.body) (map finished_of cs) ≡ map (λ (c : Compiled). c.body) cs
bodies_kept [] = refl
bodies_kept (c ∷ cs) = ap (λ bs. c.body ∷ bs) (bodies_kept cs)

unit_kept : (path : Bytes) (cs : List Compiled) → unit_from path (map finished_of cs) ≡ unit_with path cs
unit_kept path cs = λ k. record { path = path; rows = rows_kept cs k; bodies = bodies_kept cs k }

places_kept : (cs : List Compiled) → map place_in (map finished_of cs) ≡ places_in cs
places_kept [] = refl
places_kept (c ∷ cs) = ap (λ ps. c.place ∷ ps) (places_kept cs)

-- the places of what does not fall do not fall
places_rise : (ys : List Finished) → IsNonDecreasingBy place_in ys → IsNonDecreasing (map place_in ys)
places_rise [] up = λ i j d less within. absurd (omega (arith, within))
places_rise (y ∷ ys) up =
    IsNonDecreasingBy-from_default (λ (x : ℕ). x) (map place_in (y ∷ ys)) y.place (λ i j less within.
    subst (λ p. p ≤ get_or (map place_in (y ∷ ys)) j y.place) (sym (get_or-map place_in (y ∷ ys) i y))
    (subst (λ p. (get_or (y ∷ ys) i y).place ≤ p) (sym (get_or-map place_in (y ∷ ys) j y)) (up i j y less (subst (λ n. j < n) (length-map (y ∷ ys) place_in) within))))

-- what is done of sequences of distinct places, and sorted, is what is kept of them in the order of their places
in_order : (cs : List Compiled) (ys : List Finished) → IsPermutation (map finished_of cs) ys → IsDistinct nat_eq (places_in cs) → IsNonDecreasingBy place_in ys → ys ≡ map finished_of (by_places cs)
in_order cs ys s apart up =
    let all : IsPermutation (places_in cs) (map place_in ys) = subst (λ ps. IsPermutation ps (map place_in ys)) (places_kept cs) (IsPermutation-map place_in (map finished_of cs) ys s) in
    let distinct : IsDistinct nat_eq (map place_in ys) = IsDistinct-IsPermutation nat_eq (λ x y. grind (arith, nat_tests)) (places_in cs) (map place_in ys) all apart in
    kept_in_order finished_of place_in (λ c. refl) cs ys s apart (IsStrictlyIncreasing-from_distinct (map place_in ys) (places_rise ys up) distinct)

-- the file whose sequences have their numbers
module _ (f : SourceFile) (source : Source) (t : Tree) (R : Reads source t) (numbers : (p : ℕ) → sequence_number f.numbers.now p ≡ sequence_number (places t) p) where
  abbrev l : Where
  l = in_file f.path.now t

  own_alike : Alike l (in_own f t)
  own_alike = record { loop = refl; first = refl; sight = refl; path = refl; numbers = λ p. sym (numbers p) }

  own_found : finished_of (compiled_file f.path.now t) ≡ finished_file f t
  own_found =
      let same = body_sequence_alike l (in_own f t) own_alike [] (file_body t) in
      let locals = ap (λ (xs : List Bytes). body_with [] xs (file_body t) (code_at 0 (in_own f t) (file_body t)) []) (sym (file_locals false t (text_formed source t R))) in
      λ k. record { place = 0; kind = kinds.File; parent = 0; body = (same ∙ locals) k }

  pub file_within : IsWithin f (file_sight t) 0 l
  file_within = record { sight = refl; path = refl; parent = refl; numbers = λ p. sym (numbers p) }

  pub unit_made : (own : Finished) (done : List Finished) → own ≡ finished_file f t → IsPermutation (map finished_of (sequences l t)) done → IsNonDecreasingBy place_in done → unit_from f.path.now (own ∷ done) ≡ unit_of f.path.now t
  unfolding unit_of
  unit_made own done is_own same up =
      ap₂ (λ (x : Finished) (xs : List Finished). unit_from f.path.now (x ∷ xs)) (is_own ∙ sym own_found) (in_order (sequences l t) done same (apart f.path.now source t R) up)
      ∙ unit_kept f.path.now (sequences_of f.path.now t)
