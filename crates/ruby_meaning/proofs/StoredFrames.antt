-- What a frame has that fits a placed tree: the defaults for what stands elsewhere are not reached.
use Rattle.std.proofs.Common.{◌≡◌, ℕ, Bool, true, false, refl, sym, List, Option, Some, None}
use Rattle.std.specs.Prelude.{not, ◌||◌, is_some}
use Rattle.std.proofs.lemmas.Bool.{false≢true}
use Rattle.ruby_meaning.proofs.Truths.{holds}
use Rattle.ruby_tree.specs.Tree.{SourcePosition, at, super, bare_super, return_with, break_with, Trees, Other}
use Rattle.ruby_tree.specs.Placement.{Around, is_method, is_class, all_required}
use Rattle.ruby_tree.specs.Placement as placement
use Rattle.ruby_meaning.specs.Value.{Objects}
use Rattle.ruby_meaning.specs.World.{Home, in_file, in_method, in_class, Running, Frame}
use Rattle.reference_laws.specs.Placed.{IsPlaced}
use Rattle.ruby_meaning.specs.Stored.{HomeFits, FrameFits}

first : (a b : Bool) → (a || b) ≡ false → a ≡ false
first true b h = h
first false b h = refl

method_runs : (h : placement.Home) (k : Home) (m : Option Running) → HomeFits h k m → is_method h ≡ true → is_some m ≡ true
method_runs placement.file k m f e = absurd (false≢true e)
method_runs placement.in_class k m f e = absurd (false≢true e)
method_runs (placement.in_method r) (in_method n) (Some m) f e = refl
method_runs (placement.in_method r) (in_method n) None f e = absurd f
method_runs (placement.in_method r) (in_file n) m f e = absurd f
method_runs (placement.in_method r) in_class m f e = absurd f

file_differs : (n : ℕ) → in_file n ≡ in_class → ⊥
file_differs n same = absurd (cc)

method_differs : (n : ℕ) → in_method n ≡ in_class → ⊥
method_differs n same = absurd (cc)

no_class : (h : placement.Home) (k : Home) (m : Option Running) → HomeFits h k m → is_class h ≡ false → k ≡ in_class → ⊥
no_class h (in_file n) m f e same = file_differs n same
no_class h (in_method n) m f e same = method_differs n same
no_class placement.file in_class m f e same = f
no_class (placement.in_method r) in_class m f e same = f
no_class placement.in_class in_class m f e same = false≢true (sym e)

module _ (c : Around) (frame : Frame) (store : Objects) (o : SourcePosition) (fits : FrameFits c frame store) where
  pub super_has_method : (ts : Trees) (ks : List ℕ) (v b : Other) → IsPlaced c (at o (super ts ks v b)) → is_some frame.method ≡ true
  super_has_method ts ks v b p = method_runs c.home frame.home frame.method fits.home (holds (is_method c.home) (first (not (is_method c.home)) c.block p.0))

  pub bare_super_has_method : (b : Other) → IsPlaced c (at o (bare_super b)) → is_some frame.method ≡ true
  bare_super_has_method b p = method_runs c.home frame.home frame.method fits.home (holds (is_method c.home) (first (not (is_method c.home)) c.block (first (not (is_method c.home) || c.block) (not (all_required c.home)) p.0)))

  pub return_has_home : (ts : Trees) → IsPlaced c (at o (return_with ts)) → frame.home ≡ in_class → ⊥
  return_has_home ts p same = no_class c.home frame.home frame.method fits.home p.0 same

  pub break_has_target : (ts : Trees) → IsPlaced c (at o (break_with ts)) → (frame.in_loop || is_some frame.in_block) ≡ true
  break_has_target ts p = fits.loop (holds c.loop p.0)
