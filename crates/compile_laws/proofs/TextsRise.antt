-- Of a text's program: the rescue parts of its sequences rise, and each sequence has a number above that of the one around it.
use Rattle.std.proofs.Common.{◌≡◌, ℕ, zero, suc, ◌≤◌, ◌<◌, true, List, [], ◌∷◌, map, length, get_or, slice_get, All, Some, unwrap_or, refl, sym, ap, subst, arith}
use Rattle.std.specs.List.{AllByRecursion}
use Rattle.std.proofs.lemmas.List.Elements.{All-from_recursion}
use Rattle.ruby_lexer.specs.Bytes.{Bytes as Source}
use Rattle.ruby_tree.specs.Names.{Bytes}
use Rattle.ruby_tree.specs.Tree.{Tree}
use Rattle.ruby_tree.specs.Reading.{Reads}
use Rattle.iseq_types.specs.declared.sequences.IndexRow.{IndexRow}
use Rattle.iseq_types.specs.Index.{IsIndexRow, AreIndexRows}
use Rattle.iseq_types.specs.Sound.{IsOrdered}
use Rattle.ruby_meaning.specs.Sequences.{places}
use Rattle.code_meaning.specs.Code.{finish}
use Rattle.compile_table.specs.Order.{are_in_order}
use Rattle.compile_table.specs.Shapes.{shape}
use Rattle.compile_table.specs.Sequences.{Compiled, in_file, sequences, by_places, compiled_file, sequences_of, index_row, unit_of, sequence_at}
use Rattle.tree_laws.proofs.Apart.{places_apart}
use Rattle.tree_laws.proofs.LocalsHeld.{housed}
use Rattle.tree_laws.proofs.TextsFormed.{text_formed}
use Rattle.tree_laws.proofs.Nests.{nested}
use Rattle.compile_laws.specs.Rising.{Rises}
use Rattle.compile_laws.proofs.RowsTrees as rows
use Rattle.compile_laws.proofs.ByPlaces.{by_all}
use Rattle.compile_laws.proofs.FoundPrograms.{numbered}
use Rattle.compile_laws.proofs.NestedRise.{rises}
use Rattle.compile_laws.proofs.NumberedSequences.{IsRising, IsNumbered, tree_is}

every : (P Q : Compiled → Type 0) → ((c : Compiled) → P c → Q c) → (cs : List Compiled) → AllByRecursion P cs → AllByRecursion Q cs
every P Q f [] h = tt
every P Q f (c ∷ cs) h = (f c h.0, every P Q f cs h.1)

module _ (path : Bytes) (source : Source) (t : Tree) (R : Reads source t) where
  -- those that stand in the file
  abbrev inner : List Compiled
  inner = sequences (in_file path t) t

  all_numbered : AllByRecursion IsNumbered inner
  all_numbered = (tree_is (in_file path t) t (nested source t R) (record { holds = λ x h. (h, omega arith) })).each

  first_by_recursion : AllByRecursion (λ c. c.parent < c.inner.number) inner
  first_by_recursion = every IsNumbered (λ c. c.parent < c.inner.number) (λ c h. h.behind_parent) inner all_numbered

  pub parents_first : All (λ c. c.parent < c.inner.number) inner
  parents_first = All-from_recursion (λ c. c.parent < c.inner.number) inner first_by_recursion

  file_rising : IsRising (compiled_file path t)
  file_rising = record { rising = (tt, rises (places t) t (nested source t R) (record { holds = λ x h. h })); depth = 0; rows_are = refl }

  all_rising : All IsRising (sequences_of path t)
  all_rising = All-from_recursion IsRising (sequences_of path t) (file_rising, by_all IsRising inner (every IsNumbered IsRising (λ c h. h.is_rising) inner all_numbered))

  pub rise : All (λ c. Rises c.inner.places c.tree) (sequences_of path t)
  rise k d less = (all_rising k d less).rising

  pub order : All (λ c. are_in_order c.body.rows ≡ true) (sequences_of path t)
  order k d less =
      let c = get_or (sequences_of path t) k d in
      let r = all_rising k d less in
      subst (λ xs. are_in_order xs ≡ true) (sym r.rows_are) (rows.in_order c.inner c.tree r.depth 0 r.rising)

  pub ordered : All (λ c. All IsOrdered c.body.rows) (sequences_of path t)
  ordered k d less =
      let c = get_or (sequences_of path t) k d in
      let r = all_rising k d less in
      subst (λ xs. All IsOrdered xs) (sym r.rows_are) (rows.ordered c.inner c.tree r.depth 0 r.rising)

  pub inside : All (λ c. All (λ row. row.to ≤ finish 0 (shape c.inner c.tree)) c.body.rows) (sequences_of path t)
  inside k d less =
      let c = get_or (sequences_of path t) k d in
      let r = all_rising k d less in
      subst (λ xs. All (λ row. row.to ≤ finish 0 (shape c.inner c.tree)) xs) (sym r.rows_are) (λ j e lower. (rows.inside c.inner c.tree r.depth 0 r.rising j e lower).1)

-- a row of the index is that of the sequence that stands there
row_at : (cs : List Compiled) (k : ℕ) (d : Compiled) (row : IndexRow) → slice_get (map index_row cs) k ≡ Some row → (k < length cs) × (index_row (get_or cs k d) ≡ row)
row_at [] k d row e = absurd cc
row_at (c ∷ cs) zero d row e = (omega arith, ap (λ x. unwrap_or x row) e)
row_at (c ∷ cs) (suc k) d row e = let n = row_at cs k d row e in (omega (arith, n.0), n.1)

module _ (path : Bytes) (source : Source) (t : Tree) (R : Reads source t) where
  row_is : (id : ℕ) (row : IndexRow) → slice_get (map index_row (sequences_of path t)) id ≡ Some row → IsIndexRow id row
  unfolding sequence_at
  row_is zero row e =
      let is : index_row (compiled_file path t) ≡ row = ap (λ x. unwrap_or x row) e in
      subst (IsIndexRow 0) is (record { file = ((λ h. refl), (λ h. refl)); top = λ h. refl; below = λ h. absurd (omega (arith, h)) })
  row_is (suc k) row e =
      let cs = inner path source t R in
      let n = row_at (by_places cs) k (compiled_file path t) row e in
      let c = get_or (by_places cs) k (compiled_file path t) in
      let known : IsNumbered c = All-from_recursion IsNumbered (by_places cs) (by_all IsNumbered cs (all_numbered path source t R)) k (compiled_file path t) n.0 in
      let is : c.inner.number ≡ suc k = numbered path t (text_formed source t R) (housed source t R) (places_apart source t R) (suc k) (omega (arith, n.0)) in
      let less : c.parent < suc k = subst (λ m. c.parent < m) is known.behind_parent in
      subst (IsIndexRow (suc k)) n.1 (record { file = ((λ h. absurd (known.within h)), (λ h. absurd (omega (arith, h)))); top = λ h. absurd (omega (arith, h)); below = λ h. less })

  pub index_is : AreIndexRows (unit_of path t).rows
  unfolding unit_of
  index_is = record { some = omega arith; each = row_is }
