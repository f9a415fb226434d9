-- The first row of several kinds that fits.
use Rattle.std.proofs.Common.{ℕ, ◌≤◌, List, ◌∷◌, arith, ⊎_elim, inl, inr}
use Rattle.iseq_types.specs.declared.sequences.CatchRow.{CatchRow}
use Rattle.iseq_types.specs.declared.sequences.CatchKind.{CatchKind}
use Rattle.iseq_types.specs.Catch.{IsFirstFit, NoneFits, NoneFitsOneOf, IsFirstOneOf}

pub neither : (rows : List CatchRow) (kind : CatchKind) (others : List CatchKind) (place low high : ℕ) → NoneFits rows kind place low high → NoneFitsOneOf rows others place low high → NoneFitsOneOf rows (kind ∷ others) place low high
neither rows kind others place low high a b k row l h at fits =
    ⊎_elim (λ is. a k row l h at (is, fits.1)) (λ other. b k row l h at (other, fits.1)) fits.0

pub sooner : (rows : List CatchRow) (kind : CatchKind) (others : List CatchKind) (place low found : ℕ) → IsFirstFit rows kind place low found → NoneFitsOneOf rows others place low found → IsFirstOneOf rows (kind ∷ others) place low found
sooner rows kind others place low found a b = record {
  after = a.after;
  fits = (a.fits.0, a.fits.1, (inl a.fits.2.0, a.fits.2.1));
  first = neither rows kind others place low found a.first b;
}

pub later : (rows : List CatchRow) (kind : CatchKind) (others : List CatchKind) (place low found : ℕ) → NoneFits rows kind place low found → IsFirstOneOf rows others place low found → IsFirstOneOf rows (kind ∷ others) place low found
later rows kind others place low found a b = record {
  after = b.after;
  fits = (b.fits.0, b.fits.1, (inr b.fits.2.0, b.fits.2.1));
  first = neither rows kind others place low found a b.first;
}

pub below : (rows : List CatchRow) (kind : CatchKind) (place low high other : ℕ) → NoneFits rows kind place low high → other ≤ high → NoneFits rows kind place low other
below rows kind place low high other none le k row l h at = none k row l (omega (arith, h, le)) at

pub below_one_of : (rows : List CatchRow) (kinds : List CatchKind) (place low high other : ℕ) → NoneFitsOneOf rows kinds place low high → other ≤ high → NoneFitsOneOf rows kinds place low other
below_one_of rows kinds place low high other none le k row l h at = none k row l (omega (arith, h, le)) at
