-- Code that fits is right at each of its places, and so are its rows.
use Rattle.std.proofs.Common.{◌≡◌, ℕ, zero, suc, ◌+◌, ◌-◌, ◌≤◌, ◌<◌, ◌⊎◌, inl, inr, cond, refl, sym, subst, ap, ◌∙◌, arith, List, ◌∷◌, Option, Some, None}
use Rattle.std.specs.Prelude.{IsTrue, slice_get}
use Rattle.std.specs.List.{AllByRecursion}
use Rattle.std.proofs.lemmas.Bool.{lt-ltb, cases_lt}
use Rattle.std.proofs.lemmas.Option.{none-some, same_Some}
use Rattle.std.proofs.ByRecursion.{All-append}
use Rattle.iseq_types.specs.declared.instructions.Instr.{Instr}
use Rattle.iseq_types.specs.declared.sequences.CatchKind.{CatchKind}
use Rattle.iseq_types.specs.declared.sequences.CatchKind.TheVariants as catches
use Rattle.iseq_types.specs.declared.sequences.CatchRow.{CatchRow}
use Rattle.iseq_types.specs.declared.sequences.Line.{Line}
use Rattle.iseq_types.specs.Instructions.{needs_of, takes_of, leaves_of, depth_after, target_of, goes_on}
use Rattle.iseq_types.specs.Depths.{DepthAt, HasRow}
use Rattle.iseq_types.specs.Sound.{IsOrdered}
use Rattle.code_meaning.specs.Code.{at_line, row_over, Shape, done, op, ahead, behind, deep, part, held, size, finish, rows_of, Placed}
use Rattle.code_meaning.proofs.Sizes.{finish_size}
use Rattle.compile_laws.proofs.ShapeDepths.{begins, past, look, look_part, look_held, Leaps, Edges, farther, step, within_part, outer_of, within_held, behind_held, GoesOn, Fits, Marked}

-- below a number or not
pub split_at : {X : Type 0} (a b : ℕ) → (a < b → X) → (b ≤ a → X) → X
split_at {X} a b f g = pick (cases_lt a b)
  where
    pick : (a < b) ⊎ (b ≤ a) → X
    pick (inl e) = f e
    pick (inr e) = g e

after_leap : (j : ℕ → Instr) → Leaps j → (t c : ℕ) → depth_after (j t) c ≡ depth_after (j 0) c
after_leap j e t c = ap (λ x. c - x + leaves_of (j t)) (e.takes t) ∙ ap (λ x. c - takes_of (j 0) + x) (e.leaves t)

past_on : (i : Instr) (h c : ℕ) (s : Shape) → IsTrue (goes_on i) → past i h c s ≡ depth_after i c
past_on i h c s e = ap (λ x. cond x (depth_after i c) (begins h s)) e

module _ (found : List (Option ℕ)) (lines : List Line) (table : List CatchRow) (end : ℕ) where
  -- what holds at the places from one to another, by the depths of the list
  abbrev pub Span : (ℕ → ℕ → Line → Type 0) → ℕ → ℕ → Type 0
  Span Q lo hi = (place depth : ℕ) (line : Line) → lo ≤ place → place < hi → DepthAt found place depth → slice_get lines place ≡ Some line → Q place depth line

  -- the instruction finds enough, and where it leads has the depth after it
  pub record Led (place depth : ℕ) (line : Line) : Type 0 where
    pub enough : needs_of line.instr ≤ depth
    pub next : IsTrue (goes_on line.instr) → place + 1 < end → DepthAt found (place + 1) (depth_after line.instr depth)
    pub jump : (target : ℕ) → target_of line.instr ≡ Some target → (target < end) × DepthAt found target (depth_after line.instr depth)

  abbrev pub Spares : ℕ → ℕ → ℕ → Line → Type 0
  Spares h place depth line = h + takes_of line.instr ≤ depth

  pub record RowRight (row : CatchRow) : Type 0 where
    pub from : row.from < end
    pub to : row.to ≤ end
    pub ordered : IsOrdered row
    pub cont : row.cont < end
    pub has : HasRow found row
    pub kept : Span (Spares row.sp) row.from row.to

  -- code over a depth is right from one place to another
  pub record Right (h p q : ℕ) (rows : List CatchRow) : Type 0 where
    pub led : Span Led p q
    pub spared : Span (Spares h) p q
    pub caught : AllByRecursion RowRight rows

  span_none : (Q : ℕ → ℕ → Line → Type 0) (p : ℕ) → Span Q p p
  span_none Q p place depth line lo hi d f = absurd (omega (arith, lo, hi))

  span_both : (Q : ℕ → ℕ → Line → Type 0) (p m q : ℕ) → Span Q p m → Span Q m q → Span Q p q
  span_both Q p m q a b place depth line lo hi d f = split_at place m (λ e. a place depth line lo e d f) (λ e. b place depth line e hi d f)

  span_on : (Q : ℕ → ℕ → Line → Type 0) (p q c : ℕ) (x : Line) → DepthAt found p c → slice_get lines p ≡ Some x → Q p c x → Span Q (p + 1) q → Span Q p q
  span_on Q p q c x m e good more place depth line lo hi d f = split_at p place (λ less. more place depth line (omega (arith, less)) hi d f) (λ below. here (omega (arith, below, lo)))
    where
      here : p ≡ place → Q place depth line
      here same =
          let same_depth : c ≡ depth = same_Some c depth (same_Some (Some c) (Some depth) (sym (subst (λ y. DepthAt found y c) same m) ∙ d)) in
          let same_line : x ≡ line = same_Some x line (sym (subst (λ y. slice_get lines y ≡ Some x) same e) ∙ f) in
          subst (λ y. Q y depth line) same (subst (λ y. Q p y line) same_depth (subst (Q p c) same_line good))

  spares_less : (h k p q : ℕ) → h ≤ k → Span (Spares k) p q → Span (Spares h) p q
  spares_less h k p q e a place depth line lo hi d f = let b = a place depth line lo hi d f in omega arith

  at_op : (h p q c : ℕ) (x : Line) (rows : List CatchRow) → DepthAt found p c → slice_get lines p ≡ Some x → Led p c x → h + takes_of x.instr ≤ c → Right h (p + 1) q rows → Right h p q rows
  at_op h p q c x rows m e good spare r = record {
    led = span_on Led p q c x m e good r.led;
    spared = span_on (Spares h) p q c x m e spare r.spared;
    caught = r.caught;
  }

  -- behind the code there is one value
  abbrev pub Behind : ℕ → ℕ → Type 0
  Behind h q = q < end → DepthAt found q (h + 1)

  abbrev pub Backs : Option ℕ → ℕ → ℕ → Type 0
  Backs b p h = (m : ℕ) → b ≡ Some m → (m ≤ p) × DepthAt found (p - m) h

  abbrev pub Outers : Option ℕ → ℕ → ℕ → Type 0
  Outers b q h = (m : ℕ) → b ≡ Some m → (q + m < end) × DepthAt found (q + m) (h + 1)

  pub backs_none : (p h : ℕ) → Backs None p h
  backs_none p h m e = absurd (none-some m e)

  pub outers_none : (p h : ℕ) → Outers None p h
  outers_none p h m e = absurd (none-some m e)

  backs_farther : (k p q h : ℕ) (b : Option ℕ) → q ≡ p + k → Backs b p h → Backs (farther k b) q h
  backs_farther k p q h None e f m g = absurd (none-some m g)
  backs_farther k p q h (Some n) e f m g =
      let same : n + k ≡ m = same_Some (n + k) m g in let r = f n refl in
      (omega (arith, same, e, r.0), subst (λ y. DepthAt found y h) (omega (arith, same, e, r.0)) r.1)

  pub at_first : (s : Shape) (e : Edges) (h c p : ℕ) → 0 < size s → Fits e h c s → Marked found h c p s → DepthAt found p c
  at_first done e h c p less f m = absurd (omega (arith, less))
  at_first (op l i s) e h c p less f m = m.0
  at_first (ahead l j n s) e h c p less f m = m.0
  at_first (behind l j n s) e h c p less f m = m.0
  at_first (deep l j s) e h c p less f m = m.0
  at_first (part d a s) e h c p less f m = subst (DepthAt found p) (sym f.0) (at_first a within_part (h + d) (h + d) p f.1 f.3 m.0)
  at_first (held k far q a s) e h c p less f m = at_first a (within_held e s) h c p f.1 f.4 m.0

  at_start : (s : Shape) (e : Edges) (h c p : ℕ) → Fits e h c s → Marked found h c p s → Behind h (finish p s) → p < end → DepthAt found p c
  at_start done e h c p f m b less = subst (DepthAt found p) (sym f) (b less)
  at_start (op l i s) e h c p f m b less = m.0
  at_start (ahead l j n s) e h c p f m b less = m.0
  at_start (behind l j n s) e h c p f m b less = m.0
  at_start (deep l j s) e h c p f m b less = m.0
  at_start (part d a s) e h c p f m b less = at_first (part d a s) e h c p (omega (arith, f.1)) f m
  at_start (held k far q a s) e h c p f m b less = at_first (held k far q a s) e h c p (omega (arith, f.1)) f m

  -- the depth that stands so many places behind the first
  look_right : (s : Shape) (e : Edges) (h c p n : ℕ) → Fits e h c s → Marked found h c p s → Behind h (finish p s) → p + n < end → n ≤ size s → DepthAt found (p + n) (look h c s n)
  look_right s e h c p zero f m b less le = subst (λ q. DepthAt found q c) (omega arith) (at_start s e h c p f m b (omega (arith, less)))
  look_right done e h c p (suc n) f m b less le = absurd (omega (arith, le))
  look_right (op l i s) e h c p (suc n) f m b less le =
      subst (λ q. DepthAt found q (look h (past i h c s) s n)) (omega arith) (look_right s (step 1 e) h (past i h c s) (p + 1) n f.3 m.1 b (omega (arith, less)) (omega (arith, le)))
  look_right (ahead l j k s) e h c p (suc n) f m b less le =
      subst (λ q. DepthAt found q (look h (past (j 0) h c s) s n)) (omega arith) (look_right s (step 1 e) h (past (j 0) h c s) (p + 1) n f.4 m.1 b (omega (arith, less)) (omega (arith, le)))
  look_right (behind l j k s) e h c p (suc n) f m b less le =
      subst (λ q. DepthAt found q (look h (past (j 0) h c s) s n)) (omega arith) (look_right s (step 1 e) h (past (j 0) h c s) (p + 1) n f.4 m.1 b (omega (arith, less)) (omega (arith, le)))
  look_right (deep l j s) e h c p (suc n) f m b less le =
      subst (λ q. DepthAt found q (look h (past (j h) h c s) s n)) (omega arith) (look_right s (step 1 e) h (past (j h) h c s) (p + 1) n f.3 m.1 b (omega (arith, less)) (omega (arith, le)))
  look_right (part d a s) e h c p (suc n) f m b less le =
      split_at (suc n) (size a)
      (λ small. subst (DepthAt found (p + suc n)) (sym (ap (λ x. cond x (look (h + d) (h + d) a (suc n)) (look h (h + d + 1) s (suc n - size a))) (lt-ltb (suc n) (size a) small)))
      (look_right a within_part (h + d) (h + d) p (suc n) f.3 m.0 (at_start s (step (size a) e) h (h + d + 1) (finish p a) f.4 m.1 b) less (omega arith)))
      (λ large. let g = finish_size a p in
      subst (DepthAt found (p + suc n)) (sym (look_part h c d a s (suc n) (suc n - size a) f.1 (omega (arith, large))))
      (subst (λ q. DepthAt found q (look h (h + d + 1) s (suc n - size a))) (omega (arith, large, g))
      (look_right s (step (size a) e) h (h + d + 1) (finish p a) (suc n - size a) f.4 m.1 b (omega (arith, large, g, less)) (omega (arith, large, le)))))
  look_right (held k far r a s) e h c p (suc n) f m b less le =
      split_at (suc n) (size a)
      (λ small. subst (DepthAt found (p + suc n)) (sym (ap (λ x. cond x (look h c a (suc n)) (look h (h + 1) s (suc n - size a))) (lt-ltb (suc n) (size a) small)))
      (look_right a (within_held e s) h c p (suc n) f.4 m.0 (at_start s (behind_held e c a) h (h + 1) (finish p a) f.5 m.1 b) less (omega arith)))
      (λ large. let g = finish_size a p in
      subst (DepthAt found (p + suc n)) (sym (look_held h c k far r a s (suc n) (suc n - size a) f.1 (omega (arith, large))))
      (subst (λ q. DepthAt found q (look h (h + 1) s (suc n - size a))) (omega (arith, large, g))
      (look_right s (behind_held e c a) h (h + 1) (finish p a) (suc n - size a) f.5 m.1 b (omega (arith, large, g, less)) (omega (arith, large, le)))))

  outers_held : (h q m : ℕ) (e : Edges) (s : Shape) (room : ℕ) → e.room ≡ room → finish q s + room ≤ end → Behind h (finish q s) → outer_of room (size s) ≡ Some m → (q + m < end) × DepthAt found (q + m) (h + 1)
  outers_held h q m e s zero same inside b g = absurd (none-some m g)
  outers_held h q m e s (suc n) same inside b g =
      let t : size s ≡ m = same_Some (size s) m g in let z = finish_size s q in
      (omega (arith, t, z, inside), subst (λ y. DepthAt found y (h + 1)) (omega (arith, t, z)) (b (omega (arith, inside))))

  row_has : (h c p far : ℕ) (k : CatchKind) (r : ℕ) (a s : Shape) (e : Edges) → (k ≡ catches.Rescue → c ≡ h) → 0 < size a → Fits (within_held e s) h c a → Marked found h c p a
      → DepthAt found (finish p a + far) (h + 1) → HasRow found (row_over k h p (finish p a) far r)
  row_has h c p far k r a s e same less f m g = record { cont = g; from = λ x. subst (DepthAt found p) (same x) (at_first a (within_held e s) h c p less f m) }

  pub right : (s : Shape) (e : Edges) (h c p : ℕ) (out : List CatchRow) → e.room ≤ 1 → Fits e h c s → Marked found h c p s → Placed lines table out h p s → finish p s + e.room ≤ end → Behind h (finish p s)
      → Backs e.back p e.entered → Outers e.outer (finish p s) h → Right h p (finish p s) (rows_of h p s)
  right done e h c p out one f m g room b k o = record { led = span_none Led p; spared = span_none (Spares h) p; caught = tt }
  right (op l i s) e h c p out one f m g room b k o =
      let z = finish_size s (p + 1) in
      at_op h p (finish (p + 1) s) c (at_line l i) (rows_of h (p + 1) s) m.0 g.0
      (record {
        enough = f.0;
        next = λ on less. subst (DepthAt found (p + 1)) (past_on i h c s on) (at_start s (step 1 e) h (past i h c s) (p + 1) f.3 m.1 b less);
        jump = λ t is. absurd (none-some t (sym f.2 ∙ is));
      })
      f.1 (right s (step 1 e) h (past i h c s) (p + 1) out one f.3 m.1 g.2 room b (backs_farther 1 p (p + 1) e.entered e.back refl k) o)
  right (ahead l j n s) e h c p out one f m g room b k o =
      let z = finish_size s (p + 1) in let t = p + 1 + n in
      at_op h p (finish (p + 1) s) c (at_line l (j t)) (rows_of h (p + 1) s) m.0 g.0
      (record {
        enough = omega (arith, (f.0).needs t, f.1);
        next = λ on less. subst (DepthAt found (p + 1)) (past_on (j 0) h c s (subst IsTrue ((f.0).on t) on) ∙ sym (after_leap j f.0 t c)) (at_start s (step 1 e) h (past (j 0) h c s) (p + 1) f.4 m.1 b less);
        jump = λ u is.
            let same : t ≡ u = same_Some t u (sym ((f.0).target t) ∙ is) in
            let less : t < end = omega (arith, f.2, z, room) in (
              subst (λ y. y < end) same less,
              subst (λ y. DepthAt found y (depth_after (j t) c)) same
                  (subst (DepthAt found t) (f.3 ∙ sym (after_leap j f.0 t c)) (look_right s (step 1 e) h (past (j 0) h c s) (p + 1) n f.4 m.1 b less (omega (arith, f.2, one)))),
            );
      })
      (omega (arith, (f.0).takes t, f.1)) (right s (step 1 e) h (past (j 0) h c s) (p + 1) out one f.4 m.1 g.2 room b (backs_farther 1 p (p + 1) e.entered e.back refl k) o)
  right (behind l j n s) e h c p out one f m g room b k o =
      let z = finish_size s (p + 1) in let t = p - n in
      let w = k n f.2 in
      at_op h p (finish (p + 1) s) c (at_line l (j t)) (rows_of h (p + 1) s) m.0 g.0
      (record {
        enough = omega (arith, (f.0).needs t, f.1);
        next = λ on less. subst (DepthAt found (p + 1)) (past_on (j 0) h c s (subst IsTrue ((f.0).on t) on) ∙ sym (after_leap j f.0 t c)) (at_start s (step 1 e) h (past (j 0) h c s) (p + 1) f.4 m.1 b less);
        jump = λ u is.
            let same : t ≡ u = same_Some t u (sym ((f.0).target t) ∙ is) in
            (subst (λ y. y < end) same (omega (arith, z, room)), subst (λ y. DepthAt found y (depth_after (j t) c)) same (subst (DepthAt found t) (f.3 ∙ sym (after_leap j f.0 t c)) w.1));
      })
      (omega (arith, (f.0).takes t, f.1)) (right s (step 1 e) h (past (j 0) h c s) (p + 1) out one f.4 m.1 g.2 room b (backs_farther 1 p (p + 1) e.entered e.back refl k) o)
  right (deep l j s) e h c p out one f m g room b k o =
      let z = finish_size s (p + 1) in
      at_op h p (finish (p + 1) s) c (at_line l (j h)) (rows_of h (p + 1) s) m.0 g.0
      (record {
        enough = f.0;
        next = λ on less. subst (DepthAt found (p + 1)) (past_on (j h) h c s on) (at_start s (step 1 e) h (past (j h) h c s) (p + 1) f.3 m.1 b less);
        jump = λ t is. absurd (none-some t (sym f.2 ∙ is));
      })
      f.1 (right s (step 1 e) h (past (j h) h c s) (p + 1) out one f.3 m.1 g.2 room b (backs_farther 1 p (p + 1) e.entered e.back refl k) o)
  right (part d a s) e h c p out one f m g room b k o =
      let y = finish_size a p in let z = finish_size s (finish p a) in
      let inner : Right (h + d) p (finish p a) (rows_of (h + d) p a) =
      right a within_part (h + d) (h + d) p out (omega arith) f.3 m.0 g.0 (omega (arith, f.2, z, room)) (at_start s (step (size a) e) h (h + d + 1) (finish p a) f.4 m.1 b) (backs_none p 0) (outers_none (finish p a) (h + d)) in
      let rest : Right h (finish p a) (finish (finish p a) s) (rows_of h (finish p a) s) = right s (step (size a) e) h (h + d + 1) (finish p a) out one f.4 m.1 g.1 room b (backs_farther (size a) p (finish p a) e.entered e.back y k) o in
      record {
        led = span_both Led p (finish p a) (finish (finish p a) s) inner.led rest.led;
        spared = span_both (Spares h) p (finish p a) (finish (finish p a) s) (spares_less h (h + d) p (finish p a) (omega arith) inner.spared) rest.spared;
        caught = All-append RowRight (rows_of (h + d) p a) (rows_of h (finish p a) s) inner.caught rest.caught;
      }
  right (held kind far r a s) e h c p out one f m g room b k o =
      let y = finish_size a p in let z = finish_size s (finish p a) in
      let inner : Right h p (finish p a) (rows_of h p a) =
      right a (within_held e s) h c p (row_over kind h p (finish p a) far r ∷ out) (omega arith) f.4 m.0 g.0 (omega (arith, f.2, z, room)) (at_start s (behind_held e c a) h (h + 1) (finish p a) f.5 m.1 b) (backs_none p 0)
      (λ n is. outers_held h (finish p a) n e s e.room refl room b is) in
      let rest : Right h (finish p a) (finish (finish p a) s) (rows_of h (finish p a) s) =
      right s (behind_held e c a) h (h + 1) (finish p a) out one f.5 m.1 g.1 room b
      (λ n is. let same : size a ≡ n = same_Some (size a) n is in (omega (arith, same, y), subst (λ x. DepthAt found x c) (omega (arith, same, y)) (at_first a (within_held e s) h c p f.1 f.4 m.0))) o in
      let goes : (finish p a + far < end) × DepthAt found (finish p a + far) (h + 1) = on_from y z f.3 in
      record {
        led = span_both Led p (finish p a) (finish (finish p a) s) inner.led rest.led;
        spared = span_both (Spares h) p (finish p a) (finish (finish p a) s) inner.spared rest.spared;
        caught = All-append RowRight (rows_of h p a) (row_over kind h p (finish p a) far r ∷ rows_of h (finish p a) s) inner.caught
            (record { from = omega (arith, f.1, y, z, room); to = omega (arith, z, room); ordered = (omega (arith, f.1, y), omega arith); cont = goes.0; has = row_has h c p far kind r a s e f.0 f.1 f.4 m.0 goes.1; kept = inner.spared }, rest.caught);
      }
    where
      on_from : finish p a ≡ p + size a → finish (finish p a) s ≡ finish p a + size s → GoesOn e h far s → (finish p a + far < end) × DepthAt found (finish p a + far) (h + 1)
      on_from y z (inl x) =
          let less : finish p a + far < end = omega (arith, x.0, z, room) in
          (less, subst (DepthAt found (finish p a + far)) x.1 (look_right s (behind_held e c a) h (h + 1) (finish p a) far f.5 m.1 b less (omega (arith, x.0, one))))
      on_from y z (inr x) = let w = o x.0 x.1 in (omega (arith, w.0, x.2, z), subst (λ q. DepthAt found q (h + 1)) (omega (arith, x.2, z)) w.1)
