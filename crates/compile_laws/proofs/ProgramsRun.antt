-- The bodies of programs begin where they stand, and run as what they mean.
use Rattle.std.proofs.Common.{◌≡◌, ℕ, false, refl, sym, ap, ap₂, ◌∙◌, subst, List, [], ◌∷◌, Option}
use Rattle.ruby_lexer.specs.Bytes.{Bytes as Source}
use Rattle.ruby_tree.specs.Names.{Bytes}
use Rattle.ruby_tree.specs.Tree.{Tree}
use Rattle.ruby_tree.specs.Reading.{Reads}
use Rattle.iseq_types.specs.declared.sequences.SeqKind.{SeqKind}
use Rattle.iseq_types.specs.declared.sequences.SeqKind.TheVariants as kinds
use Rattle.ruby_meaning.specs.Value.{Code}
use Rattle.ruby_meaning.specs.Locals.{first_line_of, locals_of}
use Rattle.ruby_meaning.specs.Sequences.{places}
use Rattle.ruby_meaning.specs.World.{World, Frame, Outcome}
use Rattle.ruby_meaning.specs.Loads.{file_body}
use Rattle.ruby_meaning.specs.Files.{Files}
use Rattle.ruby_meaning.specs.Levels.{Sight, Scopes, names_seen}
use Rattle.ruby_meaning.specs.InSight.{InSight}
use Rattle.ruby_meaning.specs.Evaluation.{evaluate}
use Rattle.code_meaning.specs.Code.{Routine}
use Rattle.code_meaning.specs.Machine.{Runs}
use Rattle.code_meaning.specs.Frames.{running, returning, Turns}
use Rattle.code_meaning.proofs.Frames.{turns_keep}
use Rattle.compile_table.specs.Sequences.{Compiled, in_file, compiled_file, routine_of, sequence_at, routines, bodies}
use Rattle.tree_laws.proofs.Apart.{places_apart}
use Rattle.tree_laws.proofs.LocalsHeld.{housed}
use Rattle.tree_laws.proofs.TextsFormed.{text_formed}
use Rattle.compile_laws.specs.Finds.{Stands, FindsBody, start_of}
use Rattle.compile_laws.specs.Begins.{Begins, IsCodeAt}
use Rattle.compile_laws.specs.Found.{IsBodyKind, sight_in, IsFoundBody, IsOfProgram, tables, entry_frame, entry_world, IsCodeOf}
use Rattle.compile_laws.proofs.BodyRuns.{body_runs}
use Rattle.compile_laws.proofs.FramesBegin.{file_begins}
use Rattle.compile_laws.proofs.FoundPrograms.{file_known}

module _ (path : Bytes) (t : Tree) where
  pub begins_here : (c : Compiled) (frame : Frame) (w : World) → IsOfProgram path t c → IsBodyKind c.kind → Stands (first_line_of c.tree) path (places t) c.tree frame → InSight c.inner.sight frame w → frame.in_loop ≡ false
      → Begins (tables path t) c.inner c.tree frame w
  begins_here c frame w o k s sees out =
      let b : IsFoundBody (routines path t) (bodies path t) c = o.body k in
      record {
        no_loop = b.no_loop;
        no_clause = b.no_clause;
        stands = record {
          of_first = s.of_first ∙ sym b.first;
          of_path = s.of_path ∙ sym o.in_file;
          of_places = s.of_places ∙ sym o.in_places;
          of_body = s.of_body ∙ sym b.in_sight;
        };
        sight = sees;
        finds = b.finds;
        outside = out;
      }

  -- a code whose body sees its own locals before those of these scopes
  code_at : (c : Compiled) (code : Code) (seen : List Bytes) (scopes : Scopes) → IsOfProgram path t c → IsBodyKind c.kind → IsCodeOf path (places t) seen c.tree code → c.inner.sight.seen ≡ seen → c.inner.sight.scopes ≡ locals_of seen c.tree ∷ scopes
      → IsCodeAt (tables path t) c.inner scopes code
  code_at c code seen scopes o k is around e =
      let b : IsFoundBody (routines path t) (bodies path t) c = o.body k in
      record {
        no_loop = b.no_loop;
        no_clause = b.no_clause;
        first = ap first_line_of is.body ∙ sym b.first;
        path = is.in_file ∙ sym o.in_file;
        places = is.in_places ∙ sym o.in_places;
        body = is.body ∙ sym b.in_sight;
        seen = is.sees ∙ sym around;
        locals = is.locals;
        sight = e ∙ ap (λ xs. xs ∷ scopes) (ap₂ (λ (s : List Bytes) (u : Tree). locals_of s u) (sym is.sees) (sym is.body) ∙ sym is.locals);
        finds = subst (λ u. FindsBody (routines path t) (bodies path t) c.inner u) (sym is.body) b.finds;
      }

  -- what is in sight in a sequence of this kind
  sight_by : (c : Compiled) (kind : SeqKind) → IsOfProgram path t c → c.kind ≡ kind → c.inner.sight ≡ sight_in t kind (sequence_at path t c.parent).inner.sight c.tree
  sight_by c kind o e = o.sees ∙ ap (λ k. sight_in t k (sequence_at path t c.parent).inner.sight c.tree) e

  pub method_stands : (c : Compiled) (code : Code) → IsOfProgram path t c → c.kind ≡ kinds.Method → IsCodeOf path (places t) [] c.tree code → IsCodeAt (tables path t) c.inner [] code
  method_stands c code o e is = code_at c code [] [] o (subst IsBodyKind (sym e) tt) is (ap (λ (s : Sight). s.seen) (sight_by c kinds.Method o e)) (ap (λ (s : Sight). s.scopes) (sight_by c kinds.Method o e))

  pub block_stands : (c : Compiled) (code : Code) → IsOfProgram path t c → c.kind ≡ kinds.Block → IsCodeOf path (places t) (names_seen (sequence_at path t c.parent).inner.sight c.tree) c.tree code
      → IsCodeAt (tables path t) c.inner (sequence_at path t c.parent).inner.sight.scopes code
  block_stands c code o e is =
      let around : Sight = (sequence_at path t c.parent).inner.sight in
      code_at c code (names_seen around c.tree) around.scopes o (subst IsBodyKind (sym e) tt) is (ap (λ (s : Sight). s.seen) (sight_by c kinds.Block o e)) (ap (λ (s : Sight). s.scopes) (sight_by c kinds.Block o e))

module _ (files : Files) (path : Bytes) (t : Tree) where
  pub runs_whole : (c : Compiled) (frame : Frame) (w : World) → IsOfProgram path t c → IsBodyKind c.kind → Begins (tables path t) c.inner c.tree frame w
      → Runs files (evaluate files) (routines path t) (bodies path t) (routines path t c.inner.number) frame (start_of c.inner c.tree frame.given) [] w (evaluate files c.tree frame w)
  runs_whole c frame w o k h =
      subst (λ (r : Routine). Runs files (evaluate files) (routines path t) (bodies path t) r frame (start_of c.inner c.tree frame.given) [] w (evaluate files c.tree frame w))
      (sym (ap routine_of o.numbered ∙ (o.body k).routine))
      (body_runs files (routines path t) (bodies path t) c.tree c.inner c.kind c.body.name frame w h.no_loop h.no_clause h.stands h.sight.scopes h.finds h.outside)

  -- a machine that begins with a sequence comes to what it runs to
  pub ends_so : (r : Routine) (frame : Frame) (p : ℕ) (w : World) (o c : Outcome) → Runs files (evaluate files) (routines path t) (bodies path t) r frame p [] w c
      → Turns files (evaluate files) (running (tables path t) r frame p [] w []) (returning o []) → o ≡ c
  ends_so r frame p w o c h ts = turns_keep files (evaluate files) ts c (c, h, refl)

module _ (path : Bytes) (load : Option ℕ) (source : Source) (t : Tree) (outside : Option (Bytes × ℕ)) (inside calling : List ℕ) (w : World) (R : Reads source t) where
  file_found : IsOfProgram path t (compiled_file path t)
  file_found = file_known path t (text_formed source t R) (housed source t R) (places_apart source t R)

  pub file_entered : Begins (tables path t) (in_file path t) (file_body t) (entry_frame path load t outside inside calling w) (entry_world t w)
  file_entered = file_begins (tables path t) path load t outside inside calling w (file_found.body tt).finds

  pub file_runs : (files : Files) → Runs files (evaluate files) (routines path t) (bodies path t) (routines path t 0) (entry_frame path load t outside inside calling w) 0 [] (entry_world t w)
      (evaluate files (file_body t) (entry_frame path load t outside inside calling w) (entry_world t w))
  file_runs files = runs_whole files path t (compiled_file path t) (entry_frame path load t outside inside calling w) (entry_world t w) file_found tt file_entered
