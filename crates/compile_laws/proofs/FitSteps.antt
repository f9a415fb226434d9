-- Instructions, jumps and parts before code that fits.
use Rattle.std.proofs.Common.{◌≡◌, ℕ, suc, ◌+◌, ◌≤◌, ◌<◌, false, cond, refl, sym, subst, ap, ◌∙◌, arith, None}
use Rattle.std.specs.Prelude.{IsTrue}
use Rattle.iseq_types.specs.declared.instructions.Instr.{Instr}
use Rattle.iseq_types.specs.declared.sequences.CatchKind.{CatchKind}
use Rattle.iseq_types.specs.Instructions.{needs_of, takes_of, depth_after, target_of, goes_on}
use Rattle.code_meaning.specs.Code.{Shape, done, op, ahead, part, held, size}
use Rattle.compile_laws.proofs.ShapeDepths.{past, begins, look, look_on, look_over, look_part, look_held, look_end, Leaps, Edges, farther, Fits, Fit}

pub finished : {x h c : ℕ} → c ≡ h + 1 → Fit x h c done
finished e = record { fits = λ b n o. e }

pub at_depth : {x h c : ℕ} (c1 : ℕ) {s : Shape} → c1 ≡ c → Fit x h c1 s → Fit x h c s
at_depth {x} {h} c1 {s} e f = subst (λ y. Fit x h y s) e f

-- no code that leaves a value over nothing is empty
fits_size : (s : Shape) (e : Edges) (h : ℕ) → Fits e h h s → 0 < size s
fits_size done e h f = absurd (omega (arith, f))
fits_size (op l i s) e h f = omega arith
fits_size (ahead l j n s) e h f = omega arith
fits_size (Shape.behind l j n s) e h f = omega arith
fits_size (Shape.deep l j s) e h f = omega arith
fits_size (part d a s) e h f = omega (arith, f.1)
fits_size (held k far q a s) e h f = omega (arith, f.1)

pub fit_size : {x h : ℕ} (s : Shape) → Fit x h h s → 0 < size s
fit_size {x} {h} s f = fits_size s (record { room = x; back = None; entered = 0; outer = None }) h (f.fits None 0 None)

-- an instruction that goes on
pub on : {x h c l : ℕ} {i : Instr} {s : Shape} (c1 : ℕ) → needs_of i ≤ c → h + takes_of i ≤ c → target_of i ≡ None → IsTrue (goes_on i) → depth_after i c ≡ c1 → Fit x h c1 s → Fit x h c (op l i s)
on {x} {h} {c} {l} {i} {s} c1 n t a g d f = record {
  fits = λ b m o. (n, t, a, subst (λ y. Fits (record { room = x; back = farther 1 b; entered = m; outer = o }) h y s) (sym (ap (λ z. cond z (depth_after i c) (begins h s)) g ∙ d)) (f.fits (farther 1 b) m o));
}

-- one that does not
pub off : {x h c l : ℕ} {i : Instr} {s : Shape} (c1 : ℕ) → needs_of i ≤ c → h + takes_of i ≤ c → target_of i ≡ None → goes_on i ≡ false → begins h s ≡ c1 → Fit x h c1 s → Fit x h c (op l i s)
off {x} {h} {c} {l} {i} {s} c1 n t a g d f = record {
  fits = λ b m o. (n, t, a, subst (λ y. Fits (record { room = x; back = farther 1 b; entered = m; outer = o }) h y s) (sym (ap (λ z. cond z (depth_after i c) (begins h s)) g ∙ d)) (f.fits (farther 1 b) m o));
}

pub deep_on : {x h c l : ℕ} {j : ℕ → Instr} {s : Shape} (c1 : ℕ) → needs_of (j h) ≤ c → h + takes_of (j h) ≤ c → target_of (j h) ≡ None → IsTrue (goes_on (j h)) → depth_after (j h) c ≡ c1 → Fit x h c1 s → Fit x h c (Shape.deep l j s)
deep_on {x} {h} {c} {l} {j} {s} c1 n t a g d f = record {
  fits = λ b m o. (n, t, a, subst (λ y. Fits (record { room = x; back = farther 1 b; entered = m; outer = o }) h y s) (sym (ap (λ z. cond z (depth_after (j h) c) (begins h s)) g ∙ d)) (f.fits (farther 1 b) m o));
}

-- so many places behind the first, the code has this depth
pub record Looks (h c : ℕ) (s : Shape) (n d : ℕ) : Type 0 where
  pub is : look h c s n ≡ d

pub looks_on : {h c l m d : ℕ} {i : Instr} {s : Shape} (c1 n : ℕ) → m ≡ suc n → past i h c s ≡ c1 → Looks h c1 s n d → Looks h c (op l i s) m d
looks_on {h} {c} {l} {m} {d} {i} {s} c1 n e f g = record { is = look_on h c l i s m n e ∙ ap (λ y. look h y s n) f ∙ g.is }

pub looks_over : {h c l k m d : ℕ} {j : ℕ → Instr} {s : Shape} (c1 n : ℕ) → m ≡ suc n → past (j 0) h c s ≡ c1 → Looks h c1 s n d → Looks h c (ahead l j k s) m d
looks_over {h} {c} {l} {k} {m} {d} {j} {s} c1 n e f g = record { is = look_over h c l j k s m n e ∙ ap (λ y. look h y s n) f ∙ g.is }

pub looks_part : {h c k m d : ℕ} {a s : Shape} (c1 n : ℕ) → 0 < size a → m ≡ size a + n → h + k + 1 ≡ c1 → Looks h c1 s n d → Looks h c (part k a s) m d
looks_part {h} {c} {k} {m} {d} {a} {s} c1 n less e f g = record { is = look_part h c k a s m n less e ∙ ap (λ y. look h y s n) f ∙ g.is }

pub looks_held : {h c far q m d : ℕ} {k : CatchKind} {a s : Shape} (c1 n : ℕ) → 0 < size a → m ≡ size a + n → h + 1 ≡ c1 → Looks h c1 s n d → Looks h c (held k far q a s) m d
looks_held {h} {c} {far} {q} {m} {d} {k} {a} {s} c1 n less e f g = record { is = look_held h c k far q a s m n less e ∙ ap (λ y. look h y s n) f ∙ g.is }

-- at the first place, and at the end
pub looks_here : {h c d n : ℕ} {s : Shape} → n ≡ 0 → c ≡ d → Looks h c s n d
looks_here {h} {c} {d} {n} {s} e f = record { is = ap (look h c s) e ∙ f }

pub looks_end : {x h c n d : ℕ} {s : Shape} → n ≡ size s → h + 1 ≡ d → Fit x h c s → Looks h c s n d
looks_end {x} {h} {c} {n} {d} {s} e g f = record { is = look_end s (record { room = x; back = None; entered = 0; outer = None }) h c n (f.fits None 0 None) e ∙ g }

-- a jump to a place of the rest
pub leap : {x h c l n d : ℕ} {j : ℕ → Instr} {s : Shape} (c1 : ℕ) → Leaps j → h + takes_of (j 0) ≤ c → n < size s + x → d ≡ depth_after (j 0) c → past (j 0) h c s ≡ c1 → Looks h c1 s n d → Fit x h c1 s → Fit x h c (ahead l j n s)
leap {x} {h} {c} {l} {n} {d} {j} {s} c1 g t less k e r f = record {
  fits = λ b m o. (g, t, less, ap (λ y. look h y s n) e ∙ r.is ∙ k, subst (λ y. Fits (record { room = x; back = farther 1 b; entered = m; outer = o }) h y s) (sym e) (f.fits (farther 1 b) m o));
}

-- a jump to the end
pub leap_end : {h c l n : ℕ} {j : ℕ → Instr} {s : Shape} (c1 : ℕ) → Leaps j → h + takes_of (j 0) ≤ c → n ≡ size s → depth_after (j 0) c ≡ h + 1 → past (j 0) h c s ≡ c1 → Fit 1 h c1 s → Fit 1 h c (ahead l j n s)
leap_end {h} {c} {l} {n} {j} {s} c1 g t e k d f = leap {d = h + 1} c1 g t (omega (arith, e)) (sym k) d (looks_end e refl f) f

-- a part
pub inside : {x h c d : ℕ} {a s : Shape} → c ≡ h + d → 0 < size s + x → Fit 1 (h + d) (h + d) a → Fit x h (h + d + 1) s → Fit x h c (part d a s)
inside {x} {h} {c} {d} {a} {s} e less f g = record {
  fits = λ b m o. (e, fit_size a f, less, f.fits None 0 None, g.fits (farther (size a) b) m o);
}
