-- The sequences of a text's file have the places of its tree, and each stands in the program where its number says.
use Rattle.std.proofs.Common.{◌≡◌, suc, ◌+◌, sym, subst, nat_eq, List, length, get_or, All, arith}
use Rattle.std.specs.List.{IsDistinct}
use Rattle.std.proofs.lemmas.List.Elements.{All-from_recursion}
use Rattle.std.proofs.lemmas.List.Sorted.{length_permutation}
use Rattle.ruby_lexer.specs.Bytes.{Bytes as Source}
use Rattle.ruby_tree.specs.Names.{Bytes}
use Rattle.ruby_tree.specs.Tree.{Tree}
use Rattle.ruby_tree.specs.Reading.{Reads}
use Rattle.ruby_meaning.specs.Sequences.{places, count_below, sequence_number}
use Rattle.compile_table.specs.Sequences.{Compiled, in_file, sequences, by_places, compiled_file, sequences_of, sequence_at, routines, bodies}
use Rattle.tree_laws.proofs.Apart.{places_apart}
use Rattle.tree_laws.proofs.LocalsHeld.{housed}
use Rattle.tree_laws.proofs.TextsFormed.{text_formed}
use Rattle.compile_laws.proofs.ByPlaces.{In, all_of, in_its_place}
use Rattle.compile_laws.proofs.FoundTrees.{tree_told}
use Rattle.yarv_compile.specs.Children.{places_in}
use Rattle.yarv_compile.proofs.ByPlaces.{by_same}

pub counted : (path : Bytes) (t : Tree) → length (sequences_of path t) ≡ length (sequences (in_file path t) t) + 1
counted path t = let e = length_permutation (by_places (sequences (in_file path t) t)) (sequences (in_file path t) t) (by_same (sequences (in_file path t) t)) in omega (arith, e)

module _ (path : Bytes) (source : Source) (t : Tree) (R : Reads source t) where
  abbrev within : List Compiled
  within = sequences (in_file path t) t

  pub placed : places_in within ≡ places t
  placed = (tree_told (routines path t) (bodies path t) (λ n. in_file path t) path t t (in_file path t) (text_formed source t R) (housed source t R)).same

  pub apart : IsDistinct nat_eq (places_in within)
  apart = subst (IsDistinct nat_eq) (sym placed) (places_apart source t R)

  at_number : (c : Compiled) → In c within → sequence_at path t (sequence_number (places t) c.place) ≡ c
  unfolding sequence_at
  at_number c i = subst (λ qs. get_or (sequences_of path t) (suc (count_below c.place qs)) (compiled_file path t) ≡ c) placed (in_its_place c (compiled_file path t) within apart i)

  pub numbered : All (λ c. sequence_at path t (sequence_number (places t) c.place) ≡ c) within
  numbered = All-from_recursion _ within (all_of _ within at_number)
