-- The sequences of a program are sound, and its unit can be dumped.
use Rattle.std.proofs.Common.{◌≡◌, ℕ, ◌≤◌, ◌<◌, false, nat_eq, refl, sym, subst, ap, ◌∙◌, arith, List, [], length, get_or, map, Some, None}
use Rattle.std.specs.Prelude.{slice_get, unwrap_or}
use Rattle.std.specs.List.{AllByRecursion, IsDistinct}
use Rattle.std.proofs.lemmas.List.Elements.{All-from_recursion}
use Rattle.std.proofs.lemmas.Option.{same_Some, slice_get_past, slice_get_within, unwrap_or-slice_get, get_or_from_slice_get}
use Rattle.ruby_lexer.specs.Bytes.{Bytes as Source}
use Rattle.ruby_tree.specs.Names.{Bytes}
use Rattle.ruby_tree.specs.Tree.{Tree}
use Rattle.ruby_tree.specs.Reading.{Reads}
use Rattle.iseq_types.specs.declared.sequences.IndexRow.{IndexRow}
use Rattle.iseq_types.specs.declared.sequences.SeqKind.TheVariants as kinds
use Rattle.iseq_types.specs.Index.{AreIndexRows}
use Rattle.iseq_types.specs.Sound.{IsSound}
use Rattle.iseq_types.proofs.Homes.{homes_file}
use Rattle.iseq_dump.specs.Dump.{CanBeDumped, HasSoundBodies}
use Rattle.iseq_dump.proofs.Placed.{sound_dumped}
use Rattle.ruby_meaning.specs.Loads.{file_body}
use Rattle.ruby_meaning.specs.Sequences.{places}
use Rattle.ruby_meaning.specs.Levels.{file_sight, IsHoused}
use Rattle.compile_table.specs.Sequences.{Compiled, in_file, sequences, compiled_file, sequences_of, index_row, unit_of, sequence_at}
use Rattle.tree_laws.specs.Formed.{IsFormed, IsBody}
use Rattle.tree_laws.proofs.Apart.{places_apart}
use Rattle.tree_laws.proofs.LocalsHeld.{housed}
use Rattle.tree_laws.proofs.TextsFormed.{text_formed}
use Rattle.compile_laws.specs.Found.{IsOfProgram}
use Rattle.compile_laws.proofs.ByPlaces.{all_of, by_all}
use Rattle.compile_laws.proofs.FoundPrograms.{known, file_known, numbered}
use Rattle.compile_laws.proofs.Units.{body_there, row_there, bodies_counted, rows_counted}
use Rattle.compile_laws.proofs.ShapeSound.{split_at}
use Rattle.compile_laws.proofs.FineTrees.{Children}
use Rattle.compile_laws.proofs.HomedLocals.{Homed, file_locals}
use Rattle.compile_laws.proofs.SoundBodies.{HasRow, IsHomed, locals_at, sound_body}
use Rattle.compile_laws.proofs.SoundTrees.{SoundAt, trees_in}
use Rattle.compile_laws.proofs.TextsRise.{index_is}

module _ (path : Bytes) (t : Tree) (fm : IsFormed false t) (hs : IsHoused None (file_sight t) t) (apart : IsDistinct nat_eq (places t)) (index : AreIndexRows (unit_of path t).rows) where
  abbrev rows : List IndexRow
  rows = (unit_of path t).rows

  -- none stands behind the last
  in_bounds : (c : Compiled) → sequence_at path t c.inner.number ≡ c → c.inner.number < length (sequences_of path t)
  unfolding sequence_at
  in_bounds c e = split_at c.inner.number (length (sequences_of path t)) (λ less. less) (λ more. beyond more)
    where
      beyond : length (sequences_of path t) ≤ c.inner.number → c.inner.number < length (sequences_of path t)
      beyond more =
          let file : get_or (sequences_of path t) c.inner.number (compiled_file path t) ≡ compiled_file path t =
          sym (unwrap_or-slice_get (sequences_of path t) c.inner.number (compiled_file path t)) ∙ ap (λ o. unwrap_or o (compiled_file path t)) (slice_get_past (sequences_of path t) c.inner.number more) in
          let none : c.inner.number ≡ 0 = ap (λ (d : Compiled). d.inner.number) (sym e ∙ file) in
          omega arith

  has_row : (c : Compiled) → IsOfProgram path t c → HasRow rows index c
  has_row c k = row_there path t c.inner.number (in_bounds c k.numbered) ∙ ap (λ d. Some (index_row d)) k.numbered

  children : Children rows (sequences (in_file path t) t)
  children = all_of (HasRow rows index) (sequences (in_file path t) t) (λ c i. has_row c (known path t fm hs apart c i))

  file_row : HasRow rows index (compiled_file path t)
  file_row = has_row (compiled_file path t) (file_known path t fm hs apart)

  file_homed : IsHomed rows index (in_file path t)
  file_homed =
      subst (λ hs. Homed rows hs (file_sight t).scopes) (sym (homes_file rows index))
      (locals_at rows index 0 (index_row (compiled_file path t)) file_row ∙ ap (λ names. length names) (sym (file_locals false t fm)), tt)

  file_formed : IsBody (file_body t)
  unfolding IsDistinct
  file_formed = ((tt, tt), (tt, fm))

  file_sound : SoundAt rows index (compiled_file path t)
  file_sound = sound_body rows index (in_file path t) (in_file path t) kinds.File [] (file_body t) file_row refl (λ e. absurd cc) file_formed (tt, hs) file_homed children

  all_sound : AllByRecursion (SoundAt rows index) (sequences_of path t)
  all_sound = (file_sound, by_all (SoundAt rows index) (sequences (in_file path t) t) (trees_in rows index t (in_file path t) false fm hs file_homed children))

  pub sound_at : (n : ℕ) (c : Compiled) → slice_get (sequences_of path t) n ≡ Some c → IsSound c.body rows n
  unfolding sequence_at
  sound_at n c e =
      let less : n < length (sequences_of path t) = slice_get_within (sequences_of path t) n c e in
      let same : get_or (sequences_of path t) n (compiled_file path t) ≡ c = get_or_from_slice_get (sequences_of path t) n c (compiled_file path t) e in
      let sound : SoundAt rows index c = subst (SoundAt rows index) same (All-from_recursion (SoundAt rows index) (sequences_of path t) all_sound n (compiled_file path t) less) in
      subst (λ m. IsSound c.body rows m) (ap (λ (d : Compiled). d.inner.number) (sym same) ∙ numbered path t fm hs apart n less) sound

  pub bodies_sound : HasSoundBodies (unit_of path t)
  unfolding sequence_at
  bodies_sound n body e =
      let less : n < length (sequences_of path t) = let a = slice_get_within (unit_of path t).bodies n body e in let b = bodies_counted path t in omega (arith, a, b) in
      let c = get_or (sequences_of path t) n (compiled_file path t) in
      let same : c.body ≡ body = same_Some c.body body (sym (body_there path t n less) ∙ e) in
      let sound : SoundAt rows index c = All-from_recursion (SoundAt rows index) (sequences_of path t) all_sound n (compiled_file path t) less in
      subst (λ b. IsSound b rows n) same (subst (λ m. IsSound c.body rows m) (numbered path t fm hs apart n less) sound)

  pub can_be_dumped : CanBeDumped (unit_of path t)
  can_be_dumped = sound_dumped (unit_of path t) index (bodies_counted path t ∙ sym (rows_counted path t)) bodies_sound

-- those of a text
module _ (path : Bytes) (source : Source) (t : Tree) (R : Reads source t) where
  pub text_rows : AreIndexRows (map index_row (sequences_of path t))
  unfolding unit_of
  text_rows = index_is path source t R

  pub text_sound : (n : ℕ) (c : Compiled) → slice_get (sequences_of path t) n ≡ Some c → IsSound c.body (map index_row (sequences_of path t)) n
  unfolding unit_of
  text_sound = sound_at path t (text_formed source t R) (housed source t R) (places_apart source t R) (index_is path source t R)

  pub text_bodies : HasSoundBodies (unit_of path t)
  text_bodies = bodies_sound path t (text_formed source t R) (housed source t R) (places_apart source t R) (index_is path source t R)

  pub text_dumped : CanBeDumped (unit_of path t)
  text_dumped = can_be_dumped path t (text_formed source t R) (housed source t R) (places_apart source t R) (index_is path source t R)
