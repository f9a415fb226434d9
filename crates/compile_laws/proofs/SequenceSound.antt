-- A sequence whose code fits has depths at all its places, and they are right.
use Rattle.std.proofs.Common.{◌≡◌, ℕ, zero, suc, ◌+◌, ◌≤◌, ◌<◌, refl, subst, ap, ◌∙◌, arith, List, [], ◌∷◌, ◌++◌, length, Option, Some, None, All, length-append, get_or}
use Rattle.std.specs.Prelude.{⊤, IfSome, slice_get}
use Rattle.std.specs.List.{AllByRecursion}
use Rattle.std.proofs.lemmas.Option.{slice_get-get_or, slice_get_within}
use Rattle.std.proofs.lemmas.List.Elements.{All-from_recursion, All-from_get_or, All-weaker}
use Rattle.iseq_types.specs.declared.instructions.Instr.TheVariants.{Pop}
use Rattle.iseq_types.specs.declared.sequences.CatchRow.{CatchRow}
use Rattle.iseq_types.specs.declared.sequences.Line.{Line}
use Rattle.iseq_types.specs.declared.sequences.SeqKind.{SeqKind}
use Rattle.iseq_types.specs.declared.sequences.Sequence.{Sequence}
use Rattle.iseq_types.specs.Instructions.{target_of}
use Rattle.iseq_types.specs.Depths.{DepthAt, HasRow, CoversWays, KeepsFloor}
use Rattle.iseq_types.specs.Sound.{IsInside, IsOrdered}
use Rattle.iseq_types.specs.Ways.{start_depth}
use Rattle.code_meaning.specs.Code.{at_line, Shape, done, op, ahead, behind, deep, part, held, size, finish, lines_of, rows_of}
use Rattle.code_meaning.proofs.Sizes.{finish_size}
use Rattle.code_meaning.proofs.Placing.{placed}
use Rattle.compile_laws.proofs.ShapeDepths.{past, depths_of, depths_length, Edges, Fit, marked}
use Rattle.compile_laws.proofs.ShapeSound.{Led, RowRight, Right, backs_none, outers_none, at_first, right}
use Rattle.compile_laws.proofs.FitSteps.{fit_size}

pub lines_size : (s : Shape) (h p : ℕ) → length (lines_of h p s) ≡ size s
lines_size done h p = refl
lines_size (op l i s) h p = let e = lines_size s h (p + 1) in omega arith
lines_size (ahead l j n s) h p = let e = lines_size s h (p + 1) in omega arith
lines_size (behind l j n s) h p = let e = lines_size s h (p + 1) in omega arith
lines_size (deep l j s) h p = let e = lines_size s h (p + 1) in omega arith
lines_size (part d a s) h p = let e = lines_size a (h + d) p in let f = lines_size s h (finish p a) in omega (arith, length-append (lines_of (h + d) p a) (lines_of h (finish p a) s))
lines_size (held k far q a s) h p = let e = lines_size a h p in let f = lines_size s h (finish p a) in omega (arith, length-append (lines_of h p a) (lines_of h (finish p a) s))

-- each place has a depth
abbrev AllSome : List (Option ℕ) → Type 0
AllSome [] = ⊤
AllSome (None ∷ xs) = ⊥
AllSome (Some d ∷ xs) = AllSome xs

some_both : (xs ys : List (Option ℕ)) → AllSome xs → AllSome ys → AllSome (xs ++ ys)
some_both [] ys a b = b
some_both (None ∷ xs) ys a b = a
some_both (Some d ∷ xs) ys a b = some_both xs ys a b

all_some : (s : Shape) (h c : ℕ) → AllSome (depths_of h c s)
all_some done h c = tt
all_some (op l i s) h c = all_some s h (past i h c s)
all_some (ahead l j n s) h c = all_some s h (past (j 0) h c s)
all_some (behind l j n s) h c = all_some s h (past (j 0) h c s)
all_some (deep l j s) h c = all_some s h (past (j h) h c s)
all_some (part d a s) h c = some_both (depths_of (h + d) (h + d) a) (depths_of h (h + d + 1) s) (all_some a (h + d) (h + d)) (all_some s h (h + d + 1))
all_some (held k far q a s) h c = some_both (depths_of h c a) (depths_of h (h + 1) s) (all_some a h c) (all_some s h (h + 1))

some_at : (xs : List (Option ℕ)) (k : ℕ) (z : Option ℕ) → AllSome xs → k < length xs → (d : ℕ) × (get_or xs k z ≡ Some d)
some_at [] k z a less = absurd (omega (arith, less))
some_at (None ∷ xs) k z a less = absurd a
some_at (Some d ∷ xs) zero z a less = (d, refl)
some_at (Some d ∷ xs) (suc k) z a less = some_at xs k z a (omega (arith, less))

if_some : (P : ℕ → Type 0) (o : Option ℕ) → ((t : ℕ) → o ≡ Some t → P t) → IfSome o P
if_some P None f = tt
if_some P (Some t) f = f t refl

pub all_by : {X : Type 0} (P Q : X → Type 0) (xs : List X) → ((x : X) → P x → Q x) → AllByRecursion P xs → All Q xs
all_by P Q xs f a = All-weaker P Q f xs (All-from_recursion P xs a)

-- the sequence with this code over a depth
abbrev pub with_code : Sequence → ℕ → Shape → Sequence
with_code seq h s = record seq { rows = rows_of h 0 s; code = lines_of h 0 s }

-- what the depths of a sequence show
pub record HasDepths (seq : Sequence) (kind : SeqKind) : Type 0 where
  pub depths : List (Option ℕ)
  pub covers : CoversWays seq kind depths
  pub floors : All (KeepsFloor seq depths) seq.rows
  pub inside : IsInside seq
  pub ordered : All IsOrdered seq.rows

-- an entry lies in the code, and has no depth
abbrev pub IsEntry : List Line → List (Option ℕ) → ℕ → Type 0
IsEntry lines found entry = (entry < length lines) × DepthAt found entry 0

pub has_depths : (seq : Sequence) (kind : SeqKind) (h : ℕ) (s : Shape) → Fit 0 h h s → h ≡ start_depth kind → AllByRecursion (IsEntry (lines_of h 0 s) (depths_of h h s)) seq.entries → HasDepths (with_code seq h s) kind
has_depths seq kind h s f e entries = record {
  depths = found;
  covers = record {
    first = subst (DepthAt found 0) e (at_first found lines table end s edges h h 0 (fit_size s f) (f.fits None 0 None) (marked s h h));
    entries = all_by (IsEntry lines found) (λ entry. DepthAt found entry 0) seq.entries (λ entry x. x.1) entries;
    rows = all_by (RowRight found lines table end) (HasRow found) table (λ row x. x.has) r.caught;
    leads = λ place depth line d g. let x = led place depth line d g in record { enough = x.enough; next = x.next; jump = λ target t. (x.jump target t).1 };
  };
  floors = all_by (RowRight found lines table end) (KeepsFloor (with_code seq h s) found) table (λ row x place depth line q d g. x.kept place depth line q.0 q.1 d g) r.caught;
  inside = record {
    targets = All-from_get_or (λ (line : Line). IfSome (target_of line.instr) (λ target. target < end)) lines (at_line 0 Pop) (λ k less. target_inside k less);
    entries = all_by (IsEntry lines found) (λ entry. entry < end) seq.entries (λ entry x. x.0) entries;
    rows = all_by (RowRight found lines table end) (λ row. (row.from < end) × (row.to ≤ end) × (row.cont < end)) table (λ row x. (x.from, x.to, x.cont)) r.caught;
  };
  ordered = all_by (RowRight found lines table end) IsOrdered table (λ row x. x.ordered) r.caught;
}
  where
    found : List (Option ℕ)
    found = depths_of h h s

    lines : List Line
    lines = lines_of h 0 s

    table : List CatchRow
    table = rows_of h 0 s

    end : ℕ
    end = length lines

    edges : Edges
    edges = record { room = 0; back = None; entered = 0; outer = None }

    same : end ≡ finish 0 s
    same = lines_size s h 0 ∙ (let z = finish_size s 0 in omega arith)

    r : Right found lines table end h 0 (finish 0 s) table
    r = right found lines table end s edges h h 0 [] (omega arith) (f.fits None 0 None) (marked s h h) (placed s h) (let z = same in omega arith) (λ less. absurd (let z = same in omega (arith, less))) (backs_none found lines table end 0 0) (outers_none found lines table end (finish 0 s) h)

    led : (place depth : ℕ) (line : Line) → DepthAt found place depth → slice_get lines place ≡ Some line → Led found lines table end place depth line
    led place depth line d g = r.led place depth line (omega arith) (let z = same in let y = slice_get_within lines place line g in omega arith) d g

    target_inside : (k : ℕ) → k < end → IfSome (target_of (get_or lines k (at_line 0 Pop)).instr) (λ target. target < end)
    target_inside k less =
        let line = get_or lines k (at_line 0 Pop) in
        let many : k < length found = let z = lines_size s h 0 in let y = depths_length s h h in omega arith in
        let d = some_at found k None (all_some s h h) many in
        let here : DepthAt found k d.0 = slice_get-get_or found k None many ∙ ap Some d.1 in
        if_some (λ target. target < end) (target_of line.instr) (λ t e. ((led k d.0 line here (slice_get-get_or lines k (at_line 0 Pop) less)).jump t e).0)
