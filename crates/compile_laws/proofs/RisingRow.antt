-- A tree whose rescue parts rise: three that stand in one another, in a loop.
use Rattle.std.proofs.Common.{◌≡◌, ◌⊎◌, inl, inr, ℕ, ◌<◌, Bool, true, false, refl, sym, subst, ◌∙◌, List, [], ◌∷◌}
use Rattle.std.specs.Prelude.{⊤}
use Rattle.std.proofs.lemmas.Bool.{false≢true, ltb-true}
use Rattle.std.specs.Prelude.{None}
use Rattle.ruby_tree.specs.Tree.{Tree, at, Form, rescue, ensure, statements, no_more, rescue_sequence, clause, no_clause}
use Rattle.ruby_meaning.specs.Locals.{place_of}
use Rattle.ruby_meaning.specs.Sequences.{sequence_number}
use Rattle.compile_table.specs.Worked.{num, at_place, held_by, nested_form}
use Rattle.compile_laws.specs.Rising.{Protects, direct, ensured, inner, first, Rises}

-- a tree that may be protected by other clauses than those around it
abbrev begins_form : Form → Bool
begins_form (rescue a o c) = true
begins_form (ensure a c) = true
begins_form (statements ts) = true
begins_form f = false

abbrev begins : Tree → Bool
begins (at s f) = begins_form f

protected : (d t : Tree) → Protects d t → begins t ≡ true
protected d _ (direct s a o) = refl
protected d _ (ensured s a) = refl
protected d _ (inner s a o e h) = refl
protected d _ (first s t ts h) = refl

none_there : {X : Type 0} (d t : Tree) → begins t ≡ false → Protects d t → X
none_there d t e h = absurd (false≢true (sym e ∙ protected d t h))

-- the clauses that protect a rescue, or what it protects
abbrev clauses_in : Tree → Tree → Type 0
clauses_in d (at s (rescue a o c)) = (d ≡ c) ⊎ Protects d a
clauses_in d t = ⊤

parted : (d t : Tree) → Protects d t → clauses_in d t
parted d _ (direct s a o) = inl refl
parted d _ (ensured s a) = tt
parted d _ (inner s a o e h) = inr h
parted d _ (first s t ts h) = tt

-- the places of its parts
abbrev parts : List ℕ
parts = 10 ∷ 20 ∷ 30 ∷ []

abbrev part_at : ℕ → Tree
part_at p = at_place p (rescue_sequence (clause no_more None (num 9) no_clause))

abbrev Before : Tree → ℕ → Type 0
Before d p = sequence_number parts (place_of d) < sequence_number parts p

ten_first : (p : ℕ) → sequence_number parts 10 < sequence_number parts p → (d : Tree) → Protects d (held_by (num 1) 10) → Before d p
ten_first p h d g = by (parted d (held_by (num 1) 10) g)
  where
    by : (d ≡ part_at 10) ⊎ Protects d (num 1) → Before d p
    by (inl e) = subst (λ x. Before x p) (sym e) h
    by (inr e) = none_there d (num 1) refl e

twenty_first : (p : ℕ) → sequence_number parts 10 < sequence_number parts p → sequence_number parts 20 < sequence_number parts p → (d : Tree) → Protects d (held_by (held_by (num 1) 10) 20) → Before d p
twenty_first p h k d g = by (parted d (held_by (held_by (num 1) 10) 20) g)
  where
    by : (d ≡ part_at 20) ⊎ Protects d (held_by (num 1) 10) → Before d p
    by (inl e) = subst (λ x. Before x p) (sym e) k
    by (inr e) = ten_first p h d e

pub nested_rises : Rises parts (at_place 0 nested_form)
nested_rises = (
  (
    (
      (tt, tt, λ d g. none_there d (num 1) refl g),
      tt,
      λ d g. ten_first 20 (ltb-true _ _ refl) d g,
    ),
    tt,
    λ d g. twenty_first 30 (ltb-true _ _ refl) (ltb-true _ _ refl) d g,
  ),
  tt,
)
