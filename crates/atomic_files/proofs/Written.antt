-- How a temporary fills, and what its renaming adds.
use Rattle.std.proofs.Common.{◌≡◌, ◌⊎◌, inl, inr, true, ◌==◌, ℕ, ◌-◌, ◌≤◌, List, [], ◌∷◌, ◌++◌, length, take, drop, sym, ◌∙◌, ap, subst, arith, append_assoc, length-drop, take-append-drop}
use Rattle.std.proofs.lemmas.Bool.{eqb-true}
use Rattle.std.proofs.lemmas.List.{append-nil, take_all}
use Rattle.bs_outside.specs.History.{History, Since, IsLast}
use Rattle.bs_outside.specs.declared.names.CacheName.{CacheName}
use Rattle.bs_outside.proofs.Since.{since-then}

-- the bytes so far and those to come are all, after an append too
pub appended : (before after piece all : List ℕ) (n : ℕ) → n ≤ length piece → after ≡ before ++ take n piece → before ++ piece ≡ all → after ++ take (length piece - n) (drop n piece) ≡ all
appended before after piece all n within is so_far =
    let whole : take (length piece - n) (drop n piece) ≡ drop n piece = take_all _ _ (omega (arith, length-drop n piece)) in
    ap (λ (l : List ℕ). after ++ l) whole
    ∙ ap (λ (l : List ℕ). l ++ drop n piece) is
    ∙ append_assoc before (take n piece) (drop n piece)
    ∙ ap (λ (l : List ℕ). before ++ l) (take-append-drop n piece)
    ∙ so_far

pub all_written : (written rest all : List ℕ) → written ++ rest ≡ all → true ≡ (length rest == 0) → written ≡ all
all_written written [] all so_far is_empty = sym (append-nil written) ∙ so_far
all_written written (b ∷ rest) all so_far is_empty = let none : length (b ∷ rest) ≡ 0 = eqb-true _ _ (sym is_empty) in absurd (omega arith)

-- an item joined, last of all
abbrev pub JoinsLast : History → History → CacheName → List ℕ → Type 0
JoinsLast old new name bytes = Since old new ((name, bytes) ∷ []) [] × IsLast (name, bytes) new.past

pub joins_last : (old mid new : History) (name : CacheName) (written bytes : List ℕ) → Since old mid [] [] → written ≡ bytes → JoinsLast mid new name written → JoinsLast old new name bytes
joins_last old mid new name written bytes so_far same joins =
    subst (λ (b : List ℕ). JoinsLast old new name b) same (since-then old mid new [] ((name, written) ∷ []) [] [] so_far joins.0, joins.1)

pub joins_or_not : (old mid new : History) (name : CacheName) (written bytes : List ℕ) → Since old mid [] [] → written ≡ bytes → Since mid new [] [] ⊎ JoinsLast mid new name written → Since old new [] [] ⊎ JoinsLast old new name bytes
joins_or_not old mid new name written bytes so_far same (inl not) = inl (since-then old mid new [] [] [] [] so_far not)
joins_or_not old mid new name written bytes so_far same (inr joins) = inr (joins_last old mid new name written bytes so_far same joins)
