-- What the fine code of a sequence shows of its lines, its rows and its throws.
use Rattle.std.proofs.Common.{◌≡◌, ◌≢◌, ℕ, zero, suc, ◌+◌, ◌-◌, ◌≤◌, ◌<◌, ◌⊎◌, inl, inr, Bool, true, false, not, ◌&&◌, refl, sym, subst, ap, ◌∙◌, arith, List, [], ◌∷◌, Some}
use Rattle.std.specs.Prelude.{nat_lt, slice_get}
use Rattle.std.specs.List.{Any, AllByRecursion}
use Rattle.std.proofs.lemmas.Bool.{ltb-true, ltb-false}
use Rattle.std.proofs.lemmas.Option.{same_Some, slice_get_within}
use Rattle.std.proofs.ByRecursion.{All-append}
use Rattle.iseq_types.specs.declared.instructions.Instr.{Instr}
use Rattle.iseq_types.specs.declared.instructions.Instr.TheVariants.{Throw, Leave}
use Rattle.iseq_types.specs.declared.sequences.CatchKind.{CatchKind}
use Rattle.iseq_types.specs.declared.sequences.CatchKind.TheVariants as catches
use Rattle.iseq_types.specs.declared.sequences.CatchRow.{CatchRow}
use Rattle.iseq_types.specs.declared.sequences.IndexRow.{IndexRow}
use Rattle.iseq_types.specs.declared.sequences.Line.{Line}
use Rattle.iseq_types.specs.declared.sequences.SeqKind.{SeqKind}
use Rattle.iseq_types.specs.declared.sequences.SeqKind.TheVariants as kinds
use Rattle.iseq_types.specs.declared.sequences.Sequence.{Sequence}
use Rattle.iseq_types.specs.Catch.{Holds}
use Rattle.iseq_types.specs.Sound.{EachInstr, EachThrow, FindsLocal, NamesChildren, InstrNamesChild, SeqIsRight, SpreadsBelow, HasKnownOperands}
use Rattle.code_meaning.specs.Code.{at_line, row_over, holds, keep, rows_at, Shape, done, op, ahead, behind, deep, part, held, finish, lines_of, rows_of, Placed}
use Rattle.code_meaning.proofs.Sizes.{finish_size}
use Rattle.code_meaning.proofs.Placing.{placed}
use Rattle.compile_laws.proofs.ShapeSound.{split_at}
use Rattle.compile_laws.proofs.SequenceSound.{lines_size, all_by, with_code}
use Rattle.compile_laws.proofs.FineCode.{MayPend, ThrowsWell, IsFine, ensured, AreFine, Fine}

-- ---- the rows that hold a place

abbrev HasEnsure : List CatchRow → Type 0
HasEnsure [] = ⊥
HasEnsure (r ∷ rs) = (r.kind ≡ catches.Ensure) ⊎ HasEnsure rs

both_true : (a b : Bool) → (not a && b) ≡ true → (a ≡ false) × (b ≡ true)
both_true true b e = absurd cc
both_true false b e = (refl, e)

it_holds : (r : CatchRow) (q : ℕ) → holds r q ≡ true → Holds r q
it_holds r q e = let x = both_true (nat_lt q r.from) (nat_lt q r.to) e in (ltb-false q r.from x.0, ltb-true q r.to x.1)

abbrev EnsuredBy : List CatchRow → ℕ → Type 0
EnsuredBy table q = Any (λ (row : CatchRow). (row.kind ≡ catches.Ensure) × Holds row q) table

later : (r : CatchRow) (rs : List CatchRow) (q : ℕ) → EnsuredBy rs q → EnsuredBy (r ∷ rs) q
later r rs q a = (suc a.0, a.1, omega (arith, a.2), a.3, a.4)

ensured_here : (q : ℕ) (r : CatchRow) (rs : List CatchRow) (b : Bool) → holds r q ≡ b → (HasEnsure (rows_at q rs) → EnsuredBy rs q) → HasEnsure (keep b r (rows_at q rs)) → EnsuredBy (r ∷ rs) q
ensured_here q r rs true e f (inl k) = (zero, r, omega arith, refl, (k, it_holds r q e))
ensured_here q r rs true e f (inr k) = later r rs q (f k)
ensured_here q r rs false e f k = later r rs q (f k)

ensured_by : (q : ℕ) (table : List CatchRow) → HasEnsure (rows_at q table) → EnsuredBy table q
ensured_by q [] a = absurd a
ensured_by q (r ∷ rs) a = ensured_here q r rs (holds r q) refl (λ k. ensured_by q rs k) a

module _ (rows : List IndexRow) (id : ℕ) (kind : SeqKind) where
  -- ---- lines

  abbrev FineLine : Line → Type 0
  FineLine line = (b : Bool) × IsFine rows id kind b line.instr

  lines_fine : (s : Shape) (b : Bool) (h p : ℕ) → AreFine rows id kind b s → AllByRecursion FineLine (lines_of h p s)
  lines_fine done b h p f = tt
  lines_fine (op l i s) b h p f = ((b, f.0), lines_fine s b h (p + 1) f.1)
  lines_fine (ahead l j n s) b h p f = ((b, f.0 (p + 1 + n)), lines_fine s b h (p + 1) f.1)
  lines_fine (behind l j n s) b h p f = ((b, f.0 (p - n)), lines_fine s b h (p + 1) f.1)
  lines_fine (deep l j s) b h p f = ((b, f.0 h), lines_fine s b h (p + 1) f.1)
  lines_fine (part d a s) b h p f = All-append FineLine (lines_of (h + d) p a) (lines_of h (finish p a) s) (lines_fine a b (h + d) p f.0) (lines_fine s b h (finish p a) f.1)
  lines_fine (held k far q a s) b h p f =
      All-append FineLine (lines_of h p a) (lines_of h (finish p a) s) (lines_fine a (ensured rows id kind k b) h p f.1) (lines_fine s b h (finish p a) f.2)

  -- ---- rows

  abbrev NamesRight : CatchRow → Type 0
  NamesRight row = SeqIsRight rows id row.kind row.seq

  rows_fine : (s : Shape) (b : Bool) (h p : ℕ) → AreFine rows id kind b s → AllByRecursion NamesRight (rows_of h p s)
  rows_fine done b h p f = tt
  rows_fine (op l i s) b h p f = rows_fine s b h (p + 1) f.1
  rows_fine (ahead l j n s) b h p f = rows_fine s b h (p + 1) f.1
  rows_fine (behind l j n s) b h p f = rows_fine s b h (p + 1) f.1
  rows_fine (deep l j s) b h p f = rows_fine s b h (p + 1) f.1
  rows_fine (part d a s) b h p f = All-append NamesRight (rows_of (h + d) p a) (rows_of h (finish p a) s) (rows_fine a b (h + d) p f.0) (rows_fine s b h (finish p a) f.1)
  rows_fine (held k far q a s) b h p f =
      All-append NamesRight (rows_of h p a) (row_over k h p (finish p a) far q ∷ rows_of h (finish p a) s) (rows_fine a (ensured rows id kind k b) h p f.1) (f.0, rows_fine s b h (finish p a) f.2)

  -- ---- throws

  module _ (lines : List Line) (table : List CatchRow) where
    -- what a throw at a place shows
    record Throwing (place n : ℕ) : Type 0 where
      number : n ≤ 7
      pending : (n ≡ 0) ⊎ (n ≡ 7) → MayPend rows id kind
      ensured : n ≡ 6 → EnsuredBy table place

    abbrev Thrown : ℕ → ℕ → Type 0
    Thrown lo hi = (place n : ℕ) (line : Line) → lo ≤ place → place < hi → slice_get lines place ≡ Some line → line.instr ≡ Throw n → Throwing place n

    thrown_both : (p m q : ℕ) → Thrown p m → Thrown m q → Thrown p q
    thrown_both p m q a b place n line lo hi e f = split_at place m (λ less. a place n line lo less e f) (λ more. b place n line more hi e f)

    thrown_on : (b : Bool) (p q : ℕ) (x : Line) (out : List CatchRow) → slice_get lines p ≡ Some x → rows_at p table ≡ out → IsFine rows id kind b x.instr → (b ≡ true → HasEnsure out) → Thrown (p + 1) q → Thrown p q
    thrown_on b p q x out e o fine ens more place n line lo hi f t = split_at p place (λ less. more place n line (omega (arith, less)) hi f t) (λ below. here (omega (arith, below, lo)))
      where
        here : p ≡ place → Throwing place n
        here same =
            let same_line : x ≡ line = same_Some x line (sym (subst (λ y. slice_get lines y ≡ Some x) same e) ∙ f) in
            let w : ThrowsWell rows id kind b (Throw n) = subst (ThrowsWell rows id kind b) (ap (λ (y : Line). y.instr) same_line ∙ t) fine.4 in
            record { number = w.0; pending = w.1; ensured = λ six. subst (EnsuredBy table) same (ensured_by p table (subst HasEnsure (sym o) (ens (w.2 six)))) }

    in_held : (k : CatchKind) (b : Bool) (r : CatchRow) (out : List CatchRow) → r.kind ≡ k → (b ≡ true → HasEnsure out) → ensured rows id kind k b ≡ true → HasEnsure (r ∷ out)
    in_held catches.Ensure b r out e f g = inl e
    in_held catches.Rescue b r out e f g = inr (f g)
    in_held catches.Break b r out e f g = inr (f g)
    in_held catches.Next b r out e f g = inr (f g)

    thrown : (s : Shape) (b : Bool) (h p : ℕ) (out : List CatchRow) → AreFine rows id kind b s → Placed lines table out h p s → (b ≡ true → HasEnsure out) → Thrown p (finish p s)
    thrown done b h p out f g e = λ place n line lo hi. absurd (omega (arith, lo, hi))
    thrown (op l i s) b h p out f g e = thrown_on b p (finish (p + 1) s) (at_line l i) out g.0 g.1 f.0 e (thrown s b h (p + 1) out f.1 g.2 e)
    thrown (ahead l j n s) b h p out f g e = thrown_on b p (finish (p + 1) s) (at_line l (j (p + 1 + n))) out g.0 g.1 (f.0 (p + 1 + n)) e (thrown s b h (p + 1) out f.1 g.2 e)
    thrown (behind l j n s) b h p out f g e = thrown_on b p (finish (p + 1) s) (at_line l (j (p - n))) out g.0 g.1 (f.0 (p - n)) e (thrown s b h (p + 1) out f.1 g.2 e)
    thrown (deep l j s) b h p out f g e = thrown_on b p (finish (p + 1) s) (at_line l (j h)) out g.0 g.1 (f.0 h) e (thrown s b h (p + 1) out f.1 g.2 e)
    thrown (part d a s) b h p out f g e = thrown_both p (finish p a) (finish (finish p a) s) (thrown a b (h + d) p out f.0 g.0 e) (thrown s b h (finish p a) out f.1 g.1 e)
    thrown (held k far q a s) b h p out f g e =
        thrown_both p (finish p a) (finish (finish p a) s)
        (thrown a (ensured rows id kind k b) h p (row_over k h p (finish p a) far q ∷ out) f.1 g.0 (in_held k b (row_over k h p (finish p a) far q) out refl e))
        (thrown s b h (finish p a) out f.2 g.1 e)

  -- ---- a sequence

  no_leave : (i : Instr) (b : Bool) → IsFine rows id kind b i → kind ≡ kinds.Ensure → i ≢ Leave
  no_leave i b f e same = subst (ThrowsWell rows id kind b) same f.4 e

  -- what the operands of a sequence show
  pub record HasOperands (seq : Sequence) : Type 0 where
    pub locals : EachInstr seq (FindsLocal rows id)
    pub children : NamesChildren seq rows id
    pub splats : EachInstr seq SpreadsBelow
    pub operands : EachInstr seq HasKnownOperands
    pub leaves : kind ≡ kinds.Ensure → EachInstr seq (λ i. i ≢ Leave)
    pub throws : EachThrow seq kind

  pub has_operands : (seq : Sequence) (h : ℕ) (s : Shape) → Fine rows id kind false s → HasOperands (with_code seq h s)
  has_operands seq h s f = record {
    locals = all_by FineLine (λ (line : Line). FindsLocal rows id line.instr) lines (λ line x. x.1.0) fine;
    children = record {
      instructions = all_by FineLine (λ (line : Line). InstrNamesChild rows id line.instr) lines (λ line x. x.1.1) fine;
      catches = all_by NamesRight NamesRight (rows_of h 0 s) (λ row x. x) (rows_fine s false h 0 f.all);
    };
    splats = all_by FineLine (λ (line : Line). SpreadsBelow line.instr) lines (λ line x. x.1.2) fine;
    operands = all_by FineLine (λ (line : Line). HasKnownOperands line.instr) lines (λ line x. x.1.3) fine;
    leaves = λ e. all_by FineLine (λ (line : Line). line.instr ≢ Leave) lines (λ line x. no_leave line.instr x.0 x.1 e) fine;
    throws = λ place n line e t.
        let z = finish_size s 0 in let y = lines_size s h 0 in let u = slice_get_within lines place line e in
        let x = thrown lines (rows_of h 0 s) s false h 0 [] f.all (placed s h) (λ w. absurd cc) place n line (omega arith) (omega (arith, z, y, u)) e t in
        record { number = x.number; pending = x.pending; ensured = x.ensured };
  }
    where
      lines : List Line
      lines = lines_of h 0 s

      fine : AllByRecursion FineLine (lines_of h 0 s)
      fine = lines_fine s false h 0 f.all
