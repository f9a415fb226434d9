-- The depths at the places of code, from its shape, and what makes them right.
use Rattle.std.proofs.Common.{◌≡◌, ℕ, zero, suc, ◌+◌, ◌-◌, ◌≤◌, ◌<◌, ◌⊎◌, cond, refl, sym, subst, ap, ◌∙◌, arith, List, [], ◌∷◌, ◌++◌, length, Option, Some, None, append_assoc, append-nil, length-append}
use Rattle.std.specs.Prelude.{⊤, slice_get, nat_lt}
use Rattle.std.proofs.Math.Seq.{get_or-append_seam}
use Rattle.std.proofs.lemmas.Option.{slice_get-get_or}
use Rattle.std.proofs.lemmas.Bool.{le-ltb}
use Rattle.iseq_types.specs.declared.instructions.Instr.{Instr}
use Rattle.iseq_types.specs.declared.instructions.Instr.TheVariants.{Pop, SetN, Jump, BranchIf, BranchUnless, BranchNil}
use Rattle.iseq_types.specs.declared.sequences.CatchKind.{CatchKind}
use Rattle.iseq_types.specs.declared.sequences.CatchKind.TheVariants as catches
use Rattle.iseq_types.specs.Instructions.{needs_of, takes_of, leaves_of, depth_after, target_of, goes_on}
use Rattle.iseq_types.specs.Depths.{DepthAt}
use Rattle.code_meaning.specs.Code.{Shape, done, op, ahead, behind, deep, part, held, size, finish}
use Rattle.code_meaning.proofs.Sizes.{finish_size}

-- The depth at which an instruction stands that none falls into: where a value is dropped or replaced it is there.
abbrev begins_at : ℕ → Instr → ℕ
begins_at h Pop = h + 1
begins_at h (SetN n) = h + n + 1
begins_at h i = h

-- the same for code over a depth
abbrev pub begins : ℕ → Shape → ℕ
begins h done = h + 1
begins h (op l i s) = begins_at h i
begins h (ahead l j n s) = h
begins h (behind l j n s) = h
begins h (deep l j s) = h
begins h (part d a s) = h + d
begins h (held k far q a s) = h

-- the depth behind an instruction at this one
abbrev pub past : Instr → ℕ → ℕ → Shape → ℕ
past i h c s = cond (goes_on i) (depth_after i c) (begins h s)

-- The depths at the places of code that stands over a depth and begins at another one.
abbrev pub depths_of : ℕ → ℕ → Shape → List (Option ℕ)
depths_of h c done = []
depths_of h c (op l i s) = Some c ∷ depths_of h (past i h c s) s
depths_of h c (ahead l j n s) = Some c ∷ depths_of h (past (j 0) h c s) s
depths_of h c (behind l j n s) = Some c ∷ depths_of h (past (j 0) h c s) s
depths_of h c (deep l j s) = Some c ∷ depths_of h (past (j h) h c s) s
depths_of h c (part d a s) = depths_of (h + d) (h + d) a ++ depths_of h (h + d + 1) s
depths_of h c (held k far q a s) = depths_of h c a ++ depths_of h (h + 1) s

pub depths_length : (s : Shape) (h c : ℕ) → length (depths_of h c s) ≡ size s
depths_length done h c = refl
depths_length (op l i s) h c = let e = depths_length s h (past i h c s) in omega arith
depths_length (ahead l j n s) h c = let e = depths_length s h (past (j 0) h c s) in omega arith
depths_length (behind l j n s) h c = let e = depths_length s h (past (j 0) h c s) in omega arith
depths_length (deep l j s) h c = let e = depths_length s h (past (j h) h c s) in omega arith
depths_length (part d a s) h c = let e = depths_length a (h + d) (h + d) in let f = depths_length s h (h + d + 1) in omega (arith, length-append (depths_of (h + d) (h + d) a) (depths_of h (h + d + 1) s))
depths_length (held k far q a s) h c = let e = depths_length a h c in let f = depths_length s h (h + 1) in omega (arith, length-append (depths_of h c a) (depths_of h (h + 1) s))

-- the depth so many places behind the first, of which all behind the last are the depth of one value
abbrev pub look : ℕ → ℕ → Shape → ℕ → ℕ
look h c s zero = c
look h c done (suc n) = h + 1
look h c (op l i s) (suc n) = look h (past i h c s) s n
look h c (ahead l j m s) (suc n) = look h (past (j 0) h c s) s n
look h c (behind l j m s) (suc n) = look h (past (j 0) h c s) s n
look h c (deep l j s) (suc n) = look h (past (j h) h c s) s n
look h c (part d a s) (suc n) = cond (nat_lt (suc n) (size a)) (look (h + d) (h + d) a (suc n)) (look h (h + d + 1) s (suc n - size a))
look h c (held k far q a s) (suc n) = cond (nat_lt (suc n) (size a)) (look h c a (suc n)) (look h (h + 1) s (suc n - size a))

-- an instruction that leads to a place
pub record Leaps (j : ℕ → Instr) : Type 0 where
  pub target : (t : ℕ) → target_of (j t) ≡ Some t
  pub needs : (t : ℕ) → needs_of (j t) ≡ takes_of (j 0)
  pub takes : (t : ℕ) → takes_of (j t) ≡ takes_of (j 0)
  pub leaves : (t : ℕ) → leaves_of (j t) ≡ leaves_of (j 0)
  pub on : (t : ℕ) → goes_on (j t) ≡ goes_on (j 0)

pub leaps_jump : Leaps Jump
leaps_jump = record { target = λ t. refl; needs = λ t. refl; takes = λ t. refl; leaves = λ t. refl; on = λ t. refl }

pub leaps_if : Leaps BranchIf
leaps_if = record { target = λ t. refl; needs = λ t. refl; takes = λ t. refl; leaves = λ t. refl; on = λ t. refl }

pub leaps_unless : Leaps BranchUnless
leaps_unless = record { target = λ t. refl; needs = λ t. refl; takes = λ t. refl; leaves = λ t. refl; on = λ t. refl }

pub leaps_nil : Leaps BranchNil
leaps_nil = record { target = λ t. refl; needs = λ t. refl; takes = λ t. refl; leaves = λ t. refl; on = λ t. refl }

-- What stands around code: how many places behind it a jump may reach (none or one), how far back the place stands that a jump back leads
-- to and its depth, and how far behind the code a place stands that has one value.
pub record Edges : Type 0 where
  pub room : ℕ
  pub back : Option ℕ
  pub entered : ℕ
  pub outer : Option ℕ

abbrev pub farther : ℕ → Option ℕ → Option ℕ
farther k None = None
farther k (Some m) = Some (m + k)

abbrev pub step : ℕ → Edges → Edges
step k e = record { room = e.room; back = farther k e.back; entered = e.entered; outer = e.outer }

abbrev pub within_part : Edges
within_part = record { room = 1; back = None; entered = 0; outer = None }

abbrev pub outer_of : ℕ → ℕ → Option ℕ
outer_of zero n = None
outer_of (suc x) n = Some n

abbrev pub within_held : Edges → Shape → Edges
within_held e s = record { room = 1; back = None; entered = 0; outer = outer_of e.room (size s) }

abbrev pub behind_held : Edges → ℕ → Shape → Edges
behind_held e c a = record { room = e.room; back = Some (size a); entered = c; outer = e.outer }

-- where what a row catches goes on there is one value
abbrev pub GoesOn : Edges → ℕ → ℕ → Shape → Type 0
GoesOn e h far s = ((far < size s + e.room) × (look h (h + 1) s far ≡ h + 1)) ⊎ ((m : ℕ) × (e.outer ≡ Some m) × (far ≡ size s + m))

-- Code that stands over a depth and begins at another one finds what it needs, takes nothing from below, and leaves one value; what its
-- instructions lead to has the depth that they leave.
abbrev pub Fits : Edges → ℕ → ℕ → Shape → Type 0
Fits e h c done = c ≡ h + 1
Fits e h c (op l i s) = (needs_of i ≤ c) × (h + takes_of i ≤ c) × (target_of i ≡ None) × Fits (step 1 e) h (past i h c s) s
Fits e h c (ahead l j n s) = Leaps j × (h + takes_of (j 0) ≤ c) × (n < size s + e.room) × (look h (past (j 0) h c s) s n ≡ depth_after (j 0) c) × Fits (step 1 e) h (past (j 0) h c s) s
Fits e h c (behind l j n s) = Leaps j × (h + takes_of (j 0) ≤ c) × (e.back ≡ Some n) × (e.entered ≡ depth_after (j 0) c) × Fits (step 1 e) h (past (j 0) h c s) s
Fits e h c (deep l j s) = (needs_of (j h) ≤ c) × (h + takes_of (j h) ≤ c) × (target_of (j h) ≡ None) × Fits (step 1 e) h (past (j h) h c s) s
Fits e h c (part d a s) = (c ≡ h + d) × (0 < size a) × (0 < size s + e.room) × Fits within_part (h + d) (h + d) a × Fits (step (size a) e) h (h + d + 1) s
Fits e h c (held k far q a s) = (k ≡ catches.Rescue → c ≡ h) × (0 < size a) × (0 < size s + e.room) × GoesOn e h far s × Fits (within_held e s) h c a × Fits (behind_held e c a) h (h + 1) s

-- the same whatever stands around it
pub record Fit (x h c : ℕ) (s : Shape) : Type 0 where
  pub fits : (back : Option ℕ) (entered : ℕ) (outer : Option ℕ) → Fits (record { room = x; back = back; entered = entered; outer = outer }) h c s

-- ---- how far

pub look_on : (h c l : ℕ) (i : Instr) (s : Shape) (m n : ℕ) → m ≡ suc n → look h c (op l i s) m ≡ look h (past i h c s) s n
look_on h c l i s m n e = ap (look h c (op l i s)) e

pub look_over : (h c l : ℕ) (j : ℕ → Instr) (k : ℕ) (s : Shape) (m n : ℕ) → m ≡ suc n → look h c (ahead l j k s) m ≡ look h (past (j 0) h c s) s n
look_over h c l j k s m n e = ap (look h c (ahead l j k s)) e

pub look_part : (h c d : ℕ) (a s : Shape) (m n : ℕ) → 0 < size a → m ≡ size a + n → look h c (part d a s) m ≡ look h (h + d + 1) s n
look_part h c d a s zero n less e = absurd (omega (arith, less, e))
look_part h c d a s (suc m) n less e =
    ap (λ x. cond x (look (h + d) (h + d) a (suc m)) (look h (h + d + 1) s (suc m - size a))) (le-ltb (suc m) (size a) (omega (arith, e))) ∙ ap (look h (h + d + 1) s) (omega (arith, e))

pub look_held : (h c : ℕ) (k : CatchKind) (far q : ℕ) (a s : Shape) (m n : ℕ) → 0 < size a → m ≡ size a + n → look h c (held k far q a s) m ≡ look h (h + 1) s n
look_held h c k far q a s zero n less e = absurd (omega (arith, less, e))
look_held h c k far q a s (suc m) n less e =
    ap (λ x. cond x (look h c a (suc m)) (look h (h + 1) s (suc m - size a))) (le-ltb (suc m) (size a) (omega (arith, e))) ∙ ap (look h (h + 1) s) (omega (arith, e))

pub look_end : (s : Shape) (e : Edges) (h c n : ℕ) → Fits e h c s → n ≡ size s → look h c s n ≡ h + 1
look_end done e h c n f g = ap (look h c done) g ∙ f
look_end (op l i s) e h c n f g = ap (look h c (op l i s)) g ∙ look_end s (step 1 e) h (past i h c s) (size s) f.3 refl
look_end (ahead l j m s) e h c n f g = ap (look h c (ahead l j m s)) g ∙ look_end s (step 1 e) h (past (j 0) h c s) (size s) f.4 refl
look_end (behind l j m s) e h c n f g = ap (look h c (behind l j m s)) g ∙ look_end s (step 1 e) h (past (j 0) h c s) (size s) f.4 refl
look_end (deep l j s) e h c n f g = ap (look h c (deep l j s)) g ∙ look_end s (step 1 e) h (past (j h) h c s) (size s) f.3 refl
look_end (part d a s) e h c n f g = look_part h c d a s n (size s) f.1 g ∙ look_end s (step (size a) e) h (h + d + 1) (size s) f.4 refl
look_end (held k far q a s) e h c n f g = look_held h c k far q a s n (size s) f.1 g ∙ look_end s (behind_held e c a) h (h + 1) (size s) f.5 refl

-- ---- the depths stand in a list

module _ (found : List (Option ℕ)) where
  -- they stand from a place on
  abbrev pub Marked : ℕ → ℕ → ℕ → Shape → Type 0
  Marked h c p done = ⊤
  Marked h c p (op l i s) = DepthAt found p c × Marked h (past i h c s) (p + 1) s
  Marked h c p (ahead l j n s) = DepthAt found p c × Marked h (past (j 0) h c s) (p + 1) s
  Marked h c p (behind l j n s) = DepthAt found p c × Marked h (past (j 0) h c s) (p + 1) s
  Marked h c p (deep l j s) = DepthAt found p c × Marked h (past (j h) h c s) (p + 1) s
  Marked h c p (part d a s) = Marked (h + d) (h + d) p a × Marked h (h + d + 1) (finish p a) s
  Marked h c p (held k far q a s) = Marked h c p a × Marked h (h + 1) (finish p a) s

  mark_here : (pre post : List (Option ℕ)) (c p : ℕ) → found ≡ pre ++ (Some c ∷ post) → length pre ≡ p → DepthAt found p c
  mark_here pre post c p e n =
      let within : length pre < length (pre ++ (Some c ∷ post)) = omega (arith, length-append pre (Some c ∷ post)) in
      let at : slice_get (pre ++ (Some c ∷ post)) (length pre) ≡ Some (Some c) = slice_get-get_or (pre ++ (Some c ∷ post)) (length pre) (Some c) within ∙ ap Some (get_or-append_seam pre (Some c) post (Some c)) in
      subst (λ y. slice_get y p ≡ Some (Some c)) (sym e) (subst (λ m. slice_get (pre ++ (Some c ∷ post)) m ≡ Some (Some c)) n at)

  next_length : (pre : List (Option ℕ)) (c p : ℕ) → length pre ≡ p → length (pre ++ Some c ∷ []) ≡ p + 1
  next_length pre c p n = omega (arith, length-append pre (Some c ∷ []), n)

  marking : (s : Shape) (h c p : ℕ) (pre post : List (Option ℕ)) → found ≡ pre ++ (depths_of h c s ++ post) → length pre ≡ p → Marked h c p s
  marking done h c p pre post e n = tt
  marking (op l i s) h c p pre post e n = (
    mark_here pre _ c p e n,
    marking s h (past i h c s) (p + 1) (pre ++ Some c ∷ []) post (e ∙ sym (append_assoc pre (Some c ∷ []) _)) (next_length pre c p n),
  )
  marking (ahead l j m s) h c p pre post e n = (
    mark_here pre _ c p e n,
    marking s h (past (j 0) h c s) (p + 1) (pre ++ Some c ∷ []) post (e ∙ sym (append_assoc pre (Some c ∷ []) _)) (next_length pre c p n),
  )
  marking (behind l j m s) h c p pre post e n = (
    mark_here pre _ c p e n,
    marking s h (past (j 0) h c s) (p + 1) (pre ++ Some c ∷ []) post (e ∙ sym (append_assoc pre (Some c ∷ []) _)) (next_length pre c p n),
  )
  marking (deep l j s) h c p pre post e n = (
    mark_here pre _ c p e n,
    marking s h (past (j h) h c s) (p + 1) (pre ++ Some c ∷ []) post (e ∙ sym (append_assoc pre (Some c ∷ []) _)) (next_length pre c p n),
  )
  marking (part d a s) h c p pre post e n = (
    marking a (h + d) (h + d) p pre (depths_of h (h + d + 1) s ++ post) (e ∙ ap (λ y. pre ++ y) (append_assoc (depths_of (h + d) (h + d) a) _ post)) n,
    marking s h (h + d + 1) (finish p a) (pre ++ depths_of (h + d) (h + d) a) post
        (e ∙ ap (λ y. pre ++ y) (append_assoc (depths_of (h + d) (h + d) a) _ post) ∙ sym (append_assoc pre (depths_of (h + d) (h + d) a) _))
        (omega (arith, n, length-append pre (depths_of (h + d) (h + d) a), depths_length a (h + d) (h + d), finish_size a p)),
  )
  marking (held k far q a s) h c p pre post e n = (
    marking a h c p pre (depths_of h (h + 1) s ++ post) (e ∙ ap (λ y. pre ++ y) (append_assoc (depths_of h c a) _ post)) n,
    marking s h (h + 1) (finish p a) (pre ++ depths_of h c a) post
        (e ∙ ap (λ y. pre ++ y) (append_assoc (depths_of h c a) _ post) ∙ sym (append_assoc pre (depths_of h c a) _))
        (omega (arith, n, length-append pre (depths_of h c a), depths_length a h c, finish_size a p)),
  )

-- those of a whole sequence
pub marked : (s : Shape) (h c : ℕ) → Marked (depths_of h c s) h c 0 s
marked s h c = marking (depths_of h c s) s h c 0 [] [] (sym (append-nil (depths_of h c s))) refl
