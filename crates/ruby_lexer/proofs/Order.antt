-- Lists of forms in which no later one is longer: the first that is there is the longest.
use Rattle.std.proofs.Common.{◌≡◌, ℕ, ◌≤◌, List, [], ◌∷◌, length, inl, inr, refl, subst, arith, Option, Some, None}
use Rattle.ruby_lexer.specs.Bytes.{Bytes}
use Rattle.ruby_lexer.specs.Pieces.{Piece}
use Rattle.ruby_lexer.specs.Forms.{OneOf}
use Rattle.ruby_lexer.specs.Scan.{first_some}
use Rattle.ruby_lexer.proofs.Each.{Each, taken, nothing, each_of}

abbrev pub Found : Type 0
Found = Option (Piece × Bytes)

abbrev pub pair : Piece → Bytes → Piece × Bytes
pair k r = (k, r)

abbrev pub no_piece : Found
no_piece = None

-- y is no longer than x, and is x where it is as long
abbrev pub Later : Found → Found → Type 0
Later None y = Unit {0}
Later (Some x) None = Unit {0}
Later (Some x) (Some y) = (length x.1 ≤ length y.1) × (length y.1 ≤ length x.1 → y ≡ x)

abbrev pub AllLater : Found → List Found → Type 0
AllLater x [] = Unit {0}
AllLater x (y ∷ ys) = Later x y × AllLater x ys

abbrev pub Ordered : List Found → Type 0
Ordered [] = Unit {0}
Ordered (x ∷ xs) = AllLater x xs × Ordered xs

-- what was found leaves no more than n bytes
abbrev pub Short : ℕ → Found → Type 0
Short n None = Unit {0}
Short n (Some x) = length x.1 ≤ n

abbrev pub AllShort : ℕ → List Found → Type 0
AllShort n [] = Unit {0}
AllShort n (x ∷ xs) = Short n x × AllShort n xs

-- Something is found that is as long as (k, r) or longer, and is that where it is as long.
pub record Best (k : Piece) (r : Bytes) (o : Found) : Type 0 where
  pub piece : Piece
  pub rest : Bytes
  pub is : o ≡ Some (piece, rest)
  pub least : length rest ≤ length r
  pub same : length r ≤ length rest → pair k r ≡ pair piece rest

some_is : (x : Piece × Bytes) (k : Piece) (r : Bytes) → Some x ≡ Some (k, r) → pair k r ≡ x
some_is x k r e = cc

none_is : {X : Type 0} (k : Piece) (r : Bytes) → no_piece ≡ Some (k, r) → X
none_is k r e = cc

-- the later one is found where the first is there
later_best : (x : Piece × Bytes) (xs : List Found) (k : Piece) (r : Bytes) → AllLater (Some x) xs → OneOf xs k r → (length x.1 ≤ length r) × (length r ≤ length x.1 → pair k r ≡ x)
later_best x [] k r h o = absurd o
later_best x (None ∷ xs) k r h (inl e) = none_is k r e
later_best x (Some y ∷ xs) k r h (inl e) = let is : y ≡ pair k r = cc in subst (λ (z : Piece × Bytes). (length x.1 ≤ length z.1) × (length z.1 ≤ length x.1 → z ≡ x)) is h.0
later_best x (y ∷ xs) k r h (inr o) = later_best x xs k r h.1 o

pub one_best : (xs : List Found) (k : Piece) (r : Bytes) → Ordered xs → OneOf xs k r → Best k r (first_some xs)
one_best [] k r h o = absurd o
one_best (None ∷ xs) k r h (inl e) = none_is k r e
one_best (None ∷ xs) k r h (inr o) = one_best xs k r h.1 o
one_best (Some x ∷ xs) k r h (inl e) = let is = some_is x k r e in record { piece = x.0; rest = x.1; is = refl; least = subst (λ (z : Piece × Bytes). length z.1 ≤ length r) is (omega arith); same = λ _. is }
one_best (Some x ∷ xs) k r h (inr o) = let b = later_best x xs k r h.0 o in record { piece = x.0; rest = x.1; is = refl; least = b.0; same = b.1 }

pub one_is : (xs : List Found) → Each (OneOf xs) (first_some xs)
one_is [] = nothing
one_is (None ∷ xs) = each_of (one_is xs) (λ k r o. inr o)
one_is (Some x ∷ xs) = taken {t = x.0} {r = x.1} (inl refl)

pub one_short : (n : ℕ) (xs : List Found) (k : Piece) (r : Bytes) → AllShort n xs → OneOf xs k r → length r ≤ n
one_short n [] k r h o = absurd o
one_short n (None ∷ xs) k r h (inl e) = none_is k r e
one_short n (Some x ∷ xs) k r h (inl e) = let is : x ≡ pair k r = cc in subst (λ (z : Piece × Bytes). length z.1 ≤ n) is h.0
one_short n (x ∷ xs) k r h (inr o) = one_short n xs k r h.1 o
