-- A program's tables have its sequences under their numbers, and all is found that its bodies have.
use Rattle.std.proofs.Common.{◌≡◌, ℕ, zero, suc, ◌<◌, false, nat_eq, refl, sym, ap, ◌∙◌, subst, List, length, get_or, All, arith, None}
use Rattle.std.specs.List.{AllByRecursion, IsDistinct}
use Rattle.std.proofs.lemmas.List.Elements.{All-from_recursion}
use Rattle.ruby_tree.specs.Names.{Bytes}
use Rattle.ruby_tree.specs.Tree.{Tree}
use Rattle.ruby_meaning.specs.Sequences.{places, count_below, sequence_number}
use Rattle.ruby_meaning.specs.Levels.{file_sight, IsHoused}
use Rattle.compile_table.specs.Shapes.{Where}
use Rattle.compile_table.specs.Sequences.{Compiled, in_file, sequences, by_places, compiled_file, sequences_of, routine_of, sequence_at, routines, bodies}
use Rattle.tree_laws.specs.Formed.{IsFormed}
use Rattle.compile_laws.specs.Finds.{Finds}
use Rattle.compile_laws.specs.Found.{IsOfProgram}
use Rattle.compile_laws.proofs.ByPlaces.{In, of_all, all_of, by_all, in_its_place, those_before}
use Rattle.compile_laws.proofs.FoundTrees.{Have, IsKnown, Sees, Told, tree_told}

-- where the nodes of the sequences of a program stand, by their numbers
abbrev wheres : Bytes → Tree → ℕ → Where
wheres path t n = (sequence_at path t n).inner

module _ (path : Bytes) (t : Tree) (fm : IsFormed false t) (hs : IsHoused None (file_sight t) t) (apart : IsDistinct nat_eq (places t)) where
  -- those that stand in the file
  abbrev pub within : List Compiled
  within = sequences (in_file path t) t

  told : Told (routines path t) (bodies path t) (wheres path t) path t path (places t) (Sees (routines path t) (bodies path t) (wheres path t) path t (in_file path t)) (Finds (routines path t) (bodies path t) (in_file path t) t) within (places t)
  told = tree_told (routines path t) (bodies path t) (wheres path t) path t t (in_file path t) fm hs

  pub at_number : (e : Compiled) → In e within → sequence_at path t (sequence_number (places t) e.place) ≡ e
  unfolding sequence_at
  at_number e i =
      subst (λ qs. get_or (sequences_of path t) (suc (count_below e.place qs)) (compiled_file path t) ≡ e) told.same
      (in_its_place e (compiled_file path t) within (subst (IsDistinct nat_eq) (sym told.same) apart) i)

  have : Have (routines path t) (bodies path t) (wheres path t) path t (places t) within
  have = all_of _ within (λ e i. record { routine = ap routine_of (at_number e i); tree = ap (λ (c : Compiled). c.tree) (at_number e i); inner = ap (λ (c : Compiled). c.inner) (at_number e i) })

  file_sees : Sees (routines path t) (bodies path t) (wheres path t) path t (in_file path t)
  unfolding sequence_at
  file_sees = (refl, refl, refl)

  known_within : AllByRecursion (IsKnown (routines path t) (bodies path t) (wheres path t) path t path (places t)) within
  known_within = (told.holds file_sees have).1

  pub known : (c : Compiled) → In c within → IsOfProgram path t c
  known c i =
      let k : IsKnown (routines path t) (bodies path t) (wheres path t) path t path (places t) c = of_all _ within c known_within i in
      record { numbered = ap (sequence_at path t) k.number ∙ at_number c i; place = k.place; in_file = k.path; in_places = k.places; sees = k.sees; stands = k.stands; body = k.body }

  pub file_known : IsOfProgram path t (compiled_file path t)
  unfolding sequence_at
  file_known = record {
    numbered = refl;
    place = refl;
    in_file = refl;
    in_places = refl;
    sees = refl;
    stands = λ k. refl;
    body = λ k. record { routine = refl; no_loop = refl; no_clause = refl; first = refl; in_sight = refl; finds = (tt, (told.holds file_sees have).0) };
  }

  pub all_known : All (IsOfProgram path t) (sequences_of path t)
  all_known = All-from_recursion (IsOfProgram path t) (sequences_of path t) (file_known, by_all (IsOfProgram path t) within (all_of (IsOfProgram path t) within known))

  pub each_known : AllByRecursion (IsOfProgram path t) (sequences_of path t)
  each_known = (file_known, by_all (IsOfProgram path t) within (all_of (IsOfProgram path t) within known))

  -- each stands in the table where its number says
  pub numbered : (n : ℕ) → n < length (sequences_of path t) → (sequence_at path t n).inner.number ≡ n
  unfolding sequence_at
  numbered zero less = refl
  numbered (suc k) less =
      let c = get_or (by_places within) k (compiled_file path t) in
      let known_here : IsKnown (routines path t) (bodies path t) (wheres path t) path t path (places t) c =
      All-from_recursion (IsKnown (routines path t) (bodies path t) (wheres path t) path t path (places t)) (by_places within) (by_all (IsKnown (routines path t) (bodies path t) (wheres path t) path t path (places t)) within known_within) k (compiled_file path t) (omega arith) in
      known_here.number ∙ ap suc (subst (λ qs. count_below c.place qs ≡ k) told.same (those_before (compiled_file path t) within k (subst (IsDistinct nat_eq) (sym told.same) apart) (omega arith)))
