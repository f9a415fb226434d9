-- The places of the parts of a tree are places of the tree.
use Rattle.std.proofs.Common.{ℕ, ◌<◌, List, [], ◌∷◌, ◌++◌, inl, inr, refl, arith}
use Rattle.ruby_tree.specs.Tree.{Tree, at, rescue_sequence, ensure_sequence, body}
use Rattle.ruby_meaning.specs.Locals.{place_of}
use Rattle.ruby_meaning.specs.Sequences.{places, trees_places, other_places, sequence_number}
use Rattle.tree_laws.specs.Numbering.{Has}
use Rattle.tree_laws.specs.Nesting.{Behind, Before, Begins, Nested}
use Rattle.tree_laws.proofs.Numbering.{numbers_rise}
use Rattle.compile_laws.specs.Rising.{Protects, direct, ensured, inner, first}

has_first : (x : ℕ) (xs ys : List ℕ) → Has x xs → Has x (xs ++ ys)
has_first x [] ys h = absurd h
has_first x (y ∷ xs) ys (inl e) = inl e
has_first x (y ∷ xs) ys (inr h) = inr (has_first x xs ys h)

has_rest : (x : ℕ) (xs ys : List ℕ) → Has x ys → Has x (xs ++ ys)
has_rest x [] ys h = h
has_rest x (y ∷ xs) ys h = inr (has_rest x xs ys h)

is_before : (x q : ℕ) (xs : List ℕ) → Has x xs → Before q xs → x < q
is_before x q [] h b = absurd h
is_before x q (y ∷ xs) (inl e) b = omega (arith, e, b.0)
is_before x q (y ∷ xs) (inr h) b = is_before x q xs h b.1

is_behind : (x q : ℕ) (xs : List ℕ) → Has x xs → Behind q xs → q < x
is_behind x q [] h b = absurd h
is_behind x q (y ∷ xs) (inl e) b = omega (arith, e, b.0)
is_behind x q (y ∷ xs) (inr h) b = is_behind x q xs h b.1

-- It holds of each of the places.
pub record Each (Q : ℕ → Type 0) (xs : List ℕ) : Type 0 where
  pub holds : (x : ℕ) → Has x xs → Q x

-- each of them is one of all
abbrev pub Inside : List ℕ → List ℕ → Type 0
Inside all xs = Each (λ x. Has x all) xs

pub turned : {Q R : ℕ → Type 0} {xs : List ℕ} → ((x : ℕ) → Q x → R x) → Each Q xs → Each R xs
turned f i = record { holds = λ x h. f x (i.holds x h) }

pub of_first : {Q : ℕ → Type 0} {xs : List ℕ} (ys : List ℕ) → Each Q (xs ++ ys) → Each Q xs
of_first {xs = xs} ys i = record { holds = λ x h. i.holds x (has_first x xs ys h) }

pub of_rest : {Q : ℕ → Type 0} {ys : List ℕ} (xs : List ℕ) → Each Q (xs ++ ys) → Each Q ys
of_rest {ys = ys} xs i = record { holds = λ x h. i.holds x (has_rest x xs ys h) }

pub of_inner : {Q : ℕ → Type 0} {xs : List ℕ} (p : ℕ) → Each Q (p ∷ xs) → Each Q xs
of_inner p i = record { holds = λ x h. i.holds x (inr h) }

-- a sequence's own place is one of those of its tree
pub begins_there : (c : Tree) → Begins c → Has (place_of c) (places c)
begins_there (at s (rescue_sequence cs)) h = inl refl
begins_there (at s (ensure_sequence a)) h = inl refl
begins_there (at s (body ps a)) h = inl refl
begins_there (at s f) h = absurd cc

-- the clauses that protect a tree from its beginning on stand in it
protecting : (d a : Tree) → Protects d a → Nested a → Has (place_of d) (places a)
protecting d _ (direct s a o) n = has_rest (place_of d) (places a) (other_places o ++ places d) (has_rest (place_of d) (other_places o) (places d) (begins_there d n.1.0))
protecting d _ (ensured s a) n = has_rest (place_of d) (places a) (places d) (begins_there d n.1.0)
protecting d _ (inner s a o e h) n = has_first (place_of d) (places a) (other_places o ++ places e) (protecting d a h n.0.0)
protecting d _ (first s t ts h) n = has_first (place_of d) (places t) (trees_places ts) (protecting d t h n.0)

-- they have a lower number than clauses that stand behind the tree
pub protecting_first : (all : List ℕ) (a c : Tree) → Nested a → Before (place_of c) (places a) → Inside all (places a) → (d : Tree) → Protects d a → sequence_number all (place_of d) < sequence_number all (place_of c)
protecting_first all a c n b i d g =
    let h = protecting d a g n in numbers_rise all (place_of d) (place_of c) (i.holds (place_of d) h) (is_before (place_of d) (place_of c) (places a) h b)

-- the number of a sequence is less than those of the sequences within it
pub number_first : (all : List ℕ) (p : ℕ) (xs : List ℕ) → Behind p xs → Inside all (p ∷ xs) → Each (λ x. Has x all × (sequence_number all p < sequence_number all x)) xs
number_first all p xs b i = record { holds = λ x h. (i.holds x (inr h), numbers_rise all p x (i.holds p (inl refl)) (is_behind x p xs h b)) }
