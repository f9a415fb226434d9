use Rattle.std.proofs.Common.{◌≡◌, ℕ, ◌++◌, List, [], Option, None, Some, Result, Ok, Err, OnErr, refl, sym, ◌∙◌, ap, append_assoc, append-nil, take, drop, take-append-drop}
use Rattle.bs_outside.specs.Told.{added, Owes, AddsPrefix}

-- what comes in two pieces comes in one
pub added-added : {A : Type 0} (told : Option (List A)) (xs ys : List A) → added (added told xs) ys ≡ added told (xs ++ ys)
added-added None xs ys = refl
added-added (Some before) xs ys = ap Some (append_assoc before xs ys)

pub added-nil : {A : Type 0} (told : Option (List A)) → added told [] ≡ told
added-nil None = refl
added-nil (Some before) = ap Some (append-nil before)

-- at first all is owed
pub owes_all : {A : Type 0} (told : Option (List A)) (all : List A) → Owes told told all all
owes_all told all = record { came = []; split = refl; told = sym (added-nil told) }

-- a piece came
pub owes_rest : {A : Type 0} {before now next : Option (List A)} {all rest : List A} (piece left : List A) → Owes before now all rest → rest ≡ piece ++ left → next ≡ added now piece → Owes before next all left
owes_rest {A} {before} {now} {next} {all} {rest} piece left o e t =
    record {
      came = o.came ++ piece;
      split = append_assoc o.came piece left ∙ ap (λ l. o.came ++ l) (sym e) ∙ o.split;
      told = t ∙ ap (λ b. added b piece) o.told ∙ added-added before o.came piece;
    }

-- the first items of what is owed came
pub owes_drop : {A : Type 0} {before now next : Option (List A)} {all rest : List A} (n : ℕ) → Owes before now all rest → next ≡ added now (take n rest) → Owes before next all (drop n rest)
owes_drop {rest = rest} n o t = owes_rest (take n rest) (drop n rest) o (sym (take-append-drop n rest)) t

-- some of a piece came, and no more of it will
pub owes_prefix : {A : Type 0} {before now next : Option (List A)} {all rest : List A} (piece left : List A) → Owes before now all rest → rest ≡ piece ++ left → AddsPrefix now next piece → AddsPrefix before next all
owes_prefix piece left o e f =
    record { rest = f.rest ++ left; owes = owes_rest f.owes.came (f.rest ++ left) o (e ∙ ap (λ l. l ++ left) (sym f.owes.split) ∙ append_assoc f.owes.came f.rest left) f.owes.told }

-- of a first part of what is owed, all but a rest came
pub owes_then : {A : Type 0} {before now next : Option (List A)} {all first rest : List A} (left : List A) → Owes before now all (first ++ left) → Owes now next first rest → Owes before next all (rest ++ left)
owes_then {rest = rest} left o p = owes_rest p.came (rest ++ left) o (ap (λ l. l ++ left) (sym p.split) ∙ append_assoc p.came rest left) p.told

-- nothing more will come
pub owes_stop : {A : Type 0} {before now : Option (List A)} {all : List A} (rest : List A) → Owes before now all rest → AddsPrefix before now all
owes_stop rest o = record { rest = rest; owes = o }

-- all came
pub owes_none : {A : Type 0} {before now : Option (List A)} {all : List A} → Owes before now all [] → now ≡ added before all
owes_none {before = before} o = o.told ∙ ap (added before) (sym (append-nil o.came) ∙ o.split)

-- some of all that is owed came, and no more of it will
pub owes_cut : {A : Type 0} {before now next : Option (List A)} {all rest : List A} → Owes before now all rest → AddsPrefix now next rest → AddsPrefix before next all
owes_cut {rest = rest} o f = owes_prefix rest [] o (sym (append-nil rest)) f

-- what holds at any rate holds of an error
pub on_err : {T E Q : Type 0} (r : Result T E) → Q → OnErr r Q
on_err (Ok x) q = tt
on_err (Err e) q = q

-- nothing came
pub none_came : {A : Type 0} (told : Option (List A)) (all : List A) → AddsPrefix told told all
none_came told all = owes_stop all (owes_all told all)

-- all came at once
pub all_came : {A : Type 0} {told now : Option (List A)} {all : List A} → now ≡ added told all → Owes told now all []
all_came {all = all} e = record { came = all; split = append-nil all; told = e }

-- where all came, a prefix did
pub whole_prefix : {A : Type 0} {told now : Option (List A)} {all : List A} → now ≡ added told all → AddsPrefix told now all
whole_prefix e = owes_stop [] (all_came e)

-- what tactics take of this file
pub ruleset owing = (owes_all, owes_drop, owes_cut, owes_none, none_came, all_came, whole_prefix)
