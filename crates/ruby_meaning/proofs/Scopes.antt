-- Environments keep their names, and one that is opened has its own before those of its parent.
use Rattle.std.proofs.Common.{◌≡◌, ℕ, zero, suc, ◌≤◌, ◌++◌, arith, refl, sym, ◌∙◌, subst, ap, List, [], ◌∷◌, length, length-append, Option, Some, None}
use Rattle.std.specs.Prelude.{slice_get}
use Rattle.std.proofs.lemmas.Option.{same_Some, none-some}
use Rattle.ruby_tree.specs.Names.{Bytes}
use Rattle.ruby_meaning.specs.Value.{Value}
use Rattle.ruby_meaning.specs.World.{Environment, World, Frame}
use Rattle.ruby_meaning.specs.Calls.{with_environment, next_environment}
use Rattle.ruby_meaning.specs.Laws.{names_in, EnvironmentsStay}
use Rattle.ruby_meaning.specs.Levels.{Scopes}
use Rattle.ruby_meaning.specs.InSight.{HaveNames, HasScopes}
use Rattle.ruby_meaning.proofs.Leading.{stay_push}

-- what stands has its parent and its names; more may stand behind it
stays_at : (all after : List Environment) (n : ℕ) (e : Environment) → EnvironmentsStay all after → slice_get all n ≡ Some e
    → (d : Environment) × (slice_get after n ≡ Some d) × (d.parent ≡ e.parent) × (names_in d.locals ≡ names_in e.locals)
stays_at [] after n e h there = absurd (none-some e there)
stays_at (c ∷ all) [] n e h there = absurd h
stays_at (c ∷ all) (d ∷ after) zero e h there = (d, refl, h.0 ∙ ap (λ y. y.parent) (same_Some c e there), h.1 ∙ ap (λ y. names_in y.locals) (same_Some c e there))
stays_at (c ∷ all) (d ∷ after) (suc n) e h there = stays_at all after n e h.2 there

-- environments that stay are as many at least
pub as_long : (all after : List Environment) → EnvironmentsStay all after → length all ≤ length after
as_long [] after h = omega arith
as_long (e ∷ all) [] h = absurd h
as_long (e ∷ all) (d ∷ after) h = let le : length all ≤ length after = as_long all after h.2 in omega arith

have_more : (below more : ℕ) (scopes : Scopes) (all after : List Environment) (p : Option ℕ) → below ≤ more → EnvironmentsStay all after → HaveNames below scopes all p → HaveNames more scopes after p
have_more below more [] all after p le stay h = tt
have_more below more (names ∷ scopes) all after None le stay h = h
have_more below more (names ∷ scopes) all after (Some n) le stay h =
    let d = stays_at all after n h.1 stay h.2 in
    (omega (arith, le, h.0), d.0, d.1, d.3 ∙ h.3, subst (λ q. HaveNames n scopes after q) (sym d.2) (have_more n n scopes all after h.1.parent (omega arith) stay h.4))

-- names stay with environments that stay
pub names_stay : (scopes : Scopes) (all after : List Environment) (p : Option ℕ) → EnvironmentsStay all after → HaveNames (length all) scopes all p → HaveNames (length after) scopes after p
names_stay scopes all after p stay h = have_more (length all) (length after) scopes all after p (as_long all after stay) stay h

pub scopes_stay : (scopes : Scopes) (frame : Frame) (w z : World) → HasScopes scopes frame w → EnvironmentsStay w.environments z.environments → HasScopes scopes frame z
scopes_stay scopes frame w z h stay = names_stay scopes w.environments z.environments (Some frame.environment) stay h

pushed_there : (all : List Environment) (e : Environment) → slice_get (all ++ e ∷ []) (length all) ≡ Some e
pushed_there [] e = refl
pushed_there (d ∷ all) e = pushed_there all e

-- an environment that is opened has its names before those of its parent
pub names_open : (scopes : Scopes) (parent : Option ℕ) (locals : List (Bytes × Value)) (w : World) → HaveNames (length w.environments) scopes w.environments parent
    → HaveNames (length (with_environment parent locals w).environments) (names_in locals ∷ scopes) (with_environment parent locals w).environments (Some (next_environment w))
names_open scopes parent locals w h =
    let z : World = with_environment parent locals w in
    let e : Environment = record { parent = parent; locals = locals } in (
      omega (arith, length-append w.environments (e ∷ [])),
      e,
      pushed_there w.environments e,
      refl,
      have_more (length w.environments) (length w.environments) scopes w.environments z.environments parent (omega arith) (stay_push w.environments e) h,
    )

pub scopes_open : (scopes : Scopes) (parent : Option ℕ) (locals : List (Bytes × Value)) (frame : Frame) (w : World) → frame.environment ≡ next_environment w → HaveNames (length w.environments) scopes w.environments parent
    → HasScopes (names_in locals ∷ scopes) frame (with_environment parent locals w)
scopes_open scopes parent locals frame w is h =
    let z : World = with_environment parent locals w in
    subst (λ n. HaveNames (length z.environments) (names_in locals ∷ scopes) z.environments (Some n)) (sym is) (names_open scopes parent locals w h)
