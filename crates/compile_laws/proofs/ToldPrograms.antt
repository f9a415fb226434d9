-- In the files of a run and in its prelude each body is found, and so is each code that stands in a world that such a run reaches.
use Rattle.std.proofs.Common.{◌≡◌, ℕ, zero, suc, Bool, true, false, cond, refl, sym, ap, ◌∙◌, subst, List, [], ◌∷◌, get_or, nat_eq, Option, Some, None}
use Rattle.std.specs.List.{AllByRecursion, IsDistinct}
use Rattle.std.proofs.lemmas.Bool.{eq-eqb}
use Rattle.std.proofs.lemmas.Option.{same_Some, none-some}
use Rattle.ruby_lexer.specs.Bytes.{same}
use Rattle.ruby_tree.specs.Names.{Bytes}
use Rattle.ruby_tree.specs.Tree.{Tree}
use Rattle.iseq_types.specs.declared.sequences.SeqKind.{SeqKind}
use Rattle.iseq_types.specs.declared.sequences.SeqKind.TheVariants as kinds
use Rattle.ruby_meaning.specs.Value.{Code}
use Rattle.ruby_meaning.specs.World.{Environment, Closure}
use Rattle.ruby_meaning.specs.Locals.{place_of, first_line_of, locals_of}
use Rattle.ruby_meaning.specs.Sequences.{places, sequence_number}
use Rattle.ruby_meaning.specs.Files.{Files, RubyFile, no_ruby, ruby_fault, ruby_tree}
use Rattle.ruby_meaning.specs.Levels.{Scopes, Sight, file_sight, body_sight, block_sight, BodyTable, IsHoused}
use Rattle.ruby_meaning.specs.Housed.{source_of, CodeHoused, MadeIn, AreHoused}
use Rattle.compile_table.specs.Sequences.{Compiled, in_file, compiled_file, sequences_of, routine_of, sequence_at, routines, bodies}
use Rattle.tree_laws.specs.Formed.{IsFormed}
use Rattle.tree_laws.proofs.Gathering.{same_is, itself}
use Rattle.compile_laws.specs.Finds.{FindsBody}
use Rattle.compile_laws.specs.Found.{IsBodyKind, IsFoundBody, IsOfProgram, tables}
use Rattle.compile_laws.specs.Told.{told_in, told_of, bodies_of_tree, bodies_of_file, bodies_of, told_by, IsTreeOf, HasSequence, IsOfItsFile}
use Rattle.compile_laws.proofs.ByPlaces.{In, all_of}
use Rattle.compile_laws.proofs.FoundPrograms.{within, at_number, known, each_known, file_known}
use Rattle.compile_laws.proofs.ToldTrees.{Has, tree_has}

-- A tree of which the sequences are told apart by their places.
pub record IsKept (t : Tree) : Type 0 where
  pub formed : IsFormed false t
  pub housed : IsHoused None (file_sight t) t
  pub apart : IsDistinct nat_eq (places t)

told_kind : (k : SeqKind) (s : Sight) (u : Tree) → IsBodyKind k → told_in k s u ≡ Some (s, u)
told_kind kinds.File s u is = refl
told_kind kinds.Method s u is = refl
told_kind kinds.Class s u is = refl
told_kind kinds.Block s u is = refl
told_kind kinds.Rescue s u is = absurd is
told_kind kinds.Ensure s u is = absurd is

-- a body is told of the place at which it begins
told_here : (c : Compiled) (n : ℕ) → place_of c.tree ≡ n → IsBodyKind c.kind → told_of c n ≡ Some (c.inner.sight, c.tree)
told_here c n here is = ap (λ b. cond b (told_in c.kind c.inner.sight c.tree) None) (eq-eqb (place_of c.tree) n here) ∙ told_kind c.kind c.inner.sight c.tree is

-- what is told by a kind is told of a body
kind_told : (k : SeqKind) (s y : Sight) (u t : Tree) → told_in k s u ≡ Some (y, t) → IsBodyKind k × (◌≡◌ {A = Sight × Tree} (s, u) (y, t))
kind_told kinds.File s y u t e = (tt, same_Some (s, u) (y, t) e)
kind_told kinds.Method s y u t e = (tt, same_Some (s, u) (y, t) e)
kind_told kinds.Class s y u t e = (tt, same_Some (s, u) (y, t) e)
kind_told kinds.Block s y u t e = (tt, same_Some (s, u) (y, t) e)
kind_told kinds.Rescue s y u t e = absurd (none-some (y, t) e)
kind_told kinds.Ensure s y u t e = absurd (none-some (y, t) e)

if_some : (b : Bool) (o : Option (Sight × Tree)) (x : Sight × Tree) → cond b o None ≡ Some x → (b ≡ true) × (o ≡ Some x)
if_some true o x e = (refl, e)
if_some false o x e = absurd (none-some x e)

at_any : (P : Compiled → Type 0) (cs : List Compiled) (d : Compiled) (n : ℕ) → AllByRecursion P cs → P d → P (get_or cs n d)
at_any P [] d n all p = p
at_any P (c ∷ cs) d zero all p = all.0
at_any P (c ∷ cs) d (suc n) all p = at_any P cs d n all.1 p

module _ (path : Bytes) (t : Tree) (kept : IsKept t) where
  any_known : (n : ℕ) → IsOfProgram path t (sequence_at path t n)
  unfolding sequence_at
  any_known n = at_any (IsOfProgram path t) (sequences_of path t) (compiled_file path t) n (each_known path t kept.formed kept.housed kept.apart) (file_known path t kept.formed kept.housed kept.apart)

  module _ (load : Option ℕ) where
    abbrev table : BodyTable
    table = bodies_of_tree (source_of path load t) t

    has_each : (c : Compiled) → In c (within path t kept.formed kept.housed kept.apart) → Has table c
    has_each c i k =
        subst (λ b. cond b (told_of (sequence_at path t (sequence_number (places t) c.place)) c.place) None ≡ Some (c.inner.sight, c.tree)) (sym (itself (places t)))
        (ap (λ d. told_of d c.place) (at_number path t kept.formed kept.housed kept.apart c i) ∙ told_here c c.place (known path t kept.formed kept.housed kept.apart c i).place k)

    pub tree_found : IsHoused (Some table) (file_sight t) t
    tree_found = tree_has table t (in_file path t) kept.housed (all_of (Has table) (within path t kept.formed kept.housed kept.apart) has_each)

-- what the tables have by the number of a code's sequence
pub by_number : (files : Files) (prelude : Tree) (code : Code) → (of : HasSequence files prelude code) →
    ((tables code.source.path of.tree).seqs of.sequence.inner.number ≡ routine_of of.sequence) × ((tables code.source.path of.tree).bodies of.sequence.inner.number ≡ code.body)
by_number files prelude code of = (ap routine_of of.of_program.numbered, ap (λ (c : Compiled). c.tree) of.of_program.numbered ∙ of.body)

-- A code of which the body is told, in this sight.
module _ (files : Files) (prelude t : Tree) (kept : IsKept t) (code : Code) (its : IsTreeOf files prelude code.source code.source.load t) (s : Sight) (scopes : Scopes) (found : bodies_of_tree code.source t (place_of code.body) ≡ Some (s, code.body))
    (body : s.body ≡ code.body) (seen : s.seen ≡ code.seen) (locals : code.locals ≡ locals_of code.seen code.body) (around : s.scopes ≡ code.locals ∷ scopes) where
  abbrev here : Compiled
  here = sequence_at code.source.path t (sequence_number (places t) (place_of code.body))

  code_is : (l : Compiled) → IsOfProgram code.source.path t l → (same code.source.places (places t) ≡ true) × (told_of l (place_of code.body) ≡ Some (s, code.body)) → IsOfItsFile files prelude scopes code
  code_is l o h =
      let told = if_some (nat_eq (place_of l.tree) (place_of code.body)) (told_in l.kind l.inner.sight l.tree) (s, code.body) h.1 in
      let k = kind_told l.kind l.inner.sight s l.tree code.body told.1 in
      let b : IsFoundBody (routines code.source.path t) (bodies code.source.path t) l = o.body k.0 in
      let same_sight : l.inner.sight ≡ s = ap (λ (x : Sight × Tree). x.0) k.1 in
      let same_tree : l.tree ≡ code.body = ap (λ (x : Sight × Tree). x.1) k.1 in
      record {
        has = record { tree = t; of_file = its; sequence = l; of_program = o; of_body = k.0; body = same_tree };
        stands = record {
          no_loop = b.no_loop;
          no_clause = b.no_clause;
          first = sym (b.first ∙ ap first_line_of same_tree);
          path = sym o.in_file;
          places = same_is code.source.places (places t) h.0 ∙ sym o.in_places;
          body = sym (ap (λ (x : Sight). x.body) same_sight ∙ body);
          seen = sym (ap (λ (x : Sight). x.seen) same_sight ∙ seen);
          locals = locals;
          sight = ap (λ (x : Sight). x.scopes) same_sight ∙ around;
          finds = subst (λ u. FindsBody (routines code.source.path t) (bodies code.source.path t) l.inner u) same_tree b.finds;
        };
      }

  pub code_found : IsOfItsFile files prelude scopes code
  code_found = code_is here (any_known code.source.path t kept (sequence_number (places t) (place_of code.body))) (if_some (same code.source.places (places t)) (told_of here (place_of code.body)) (s, code.body) found)

module _ (files : Files) (prelude : Tree) (fine : (path : Bytes) (t : Tree) → files.ruby path ≡ ruby_tree t → IsKept t) (kept : IsKept prelude) where
  pub files_found : AreHoused (told_by files prelude) files
  files_found path load t e =
      subst (λ r. IsHoused (Some (bodies_of_file (source_of path (Some load) t) r)) (file_sight t) t) (sym e) (tree_found path t (fine path t e) (Some load))

  pub prelude_found : IsHoused (told_by files prelude (source_of [] None prelude)) (file_sight prelude) prelude
  prelude_found = tree_found [] prelude kept None

  -- what is told in a file is told of its tree
  in_a_file : (code : Code) (s : Sight) (scopes : Scopes) (load : ℕ) → code.source.load ≡ Some load → (r : RubyFile) → files.ruby code.source.path ≡ r → bodies_of_file code.source r (place_of code.body) ≡ Some (s, code.body) →
      s.body ≡ code.body → s.seen ≡ code.seen → code.locals ≡ locals_of code.seen code.body → s.scopes ≡ code.locals ∷ scopes → IsOfItsFile files prelude scopes code
  in_a_file code s scopes load e no_ruby is found body seen locals around = absurd (none-some (s, code.body) found)
  in_a_file code s scopes load e (ruby_fault line) is found body seen locals around = absurd (none-some (s, code.body) found)
  in_a_file code s scopes load e (ruby_tree t) is found body seen locals around =
      code_found files prelude t (fine code.source.path t is) code (subst (λ o. IsTreeOf files prelude code.source o t) (sym e) is) s scopes found body seen locals around

  of_file : (code : Code) (s : Sight) (scopes : Scopes) (o : Option ℕ) → code.source.load ≡ o → bodies_of files prelude code.source o (place_of code.body) ≡ Some (s, code.body) →
      s.body ≡ code.body → s.seen ≡ code.seen → code.locals ≡ locals_of code.seen code.body → s.scopes ≡ code.locals ∷ scopes → IsOfItsFile files prelude scopes code
  of_file code s scopes None e found body seen locals around =
      code_found files prelude prelude kept code (subst (λ o. IsTreeOf files prelude code.source o prelude) (sym e) refl) s scopes found body seen locals around
  of_file code s scopes (Some load) e found body seen locals around = in_a_file code s scopes load e (files.ruby code.source.path) refl found body seen locals around

  -- the code of a method that stands is one of its file
  pub method_found : (code : Code) → CodeHoused (told_by files prelude) code → IsOfItsFile files prelude [] code
  method_found code h =
      of_file code (body_sight code.body) [] code.source.load refl h.told_body refl (sym h.seen) (h.locals ∙ ap (λ xs. locals_of xs code.body) (sym h.seen)) (ap (λ xs. xs ∷ []) (sym h.locals))

  -- and so is that of a block
  pub block_found : (s : Sight) (all : List Environment) (k : Closure) → MadeIn (told_by files prelude) s all k → IsOfItsFile files prelude s.scopes k.code
  block_found s all k h =
      of_file k.code (block_sight s k.code.body) s.scopes k.code.source.load refl h.told_body refl (sym h.seen) (h.locals ∙ ap (λ xs. locals_of xs k.code.body) (sym h.seen)) (ap (λ xs. xs ∷ s.scopes) (sym h.locals))
