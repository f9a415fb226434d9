-- Loops that count down, and where the bodies of a case begin.
use Rattle.std.proofs.Common.{◌≡◌, ◌<◌, ◌≤◌, ℕ, zero, suc, ◌+◌, ◌-◌, List, [], ◌∷◌, ◌++◌, length, reverse, drop, get_or, Vec, refl, ap, sym, ◌∙◌, arith, append_assoc}
use Rattle.std.specs.declared.alloc.Global.{Global}
use Rattle.std.proofs.lemmas.List.{drop_more, length-reverse}
use Rattle.std.proofs.lemmas.Grind.{reverse_onto}
use Rattle.ruby_tree.specs.declared.node.Node.{Node}
use Rattle.ruby_tree.specs.Names.{Texts}
use Rattle.ruby_tree.specs.Tree.{Tree, Trees, Whens, when}
use Rattle.ruby_tree.specs.Views.{read_whens}
use Rattle.code_meaning.specs.Code.{Shape, size}
use Rattle.code_writer.specs.Writing.{Writing, grown}
use Rattle.code_writer.proofs.Growing.{grown_length}
use Rattle.emit_control.specs.Starts.{starts}

-- an item before those behind it
pub drop_at : {X : Type 0} (xs : List X) (i : ℕ) (d : X) → 0 < i → i ≤ length xs → drop (i - 1) xs ≡ get_or xs (i - 1) d ∷ drop i xs
drop_at xs i d some within =
    let more : i - 1 + 1 ≡ i = omega (arith, some) in
    drop_more xs (i - 1) d (omega (arith, some, within)) ∙ ap (λ (n : ℕ). get_or xs (i - 1) d ∷ drop n xs) more

pub drop_before : {X : Type 0} (xs : List X) (i : ℕ) (x : X) → 0 < i → i ≤ length xs → x ≡ get_or xs (i - 1) x → drop (i - 1) xs ≡ x ∷ drop i xs
drop_before xs i x some within is = drop_at xs i x some within ∙ ap (λ y. y ∷ drop i xs) (sym is)

-- what is found before those found behind it
pub found_before : {X : Type 0} (first old new found one : List X) → old ≡ first ++ found → new ≡ old ++ one → new ≡ first ++ (found ++ one)
found_before first old new found one is told = told ∙ ap (λ xs. xs ++ one) is ∙ append_assoc first found one

pub places_count : (texts : Texts) (bodies : Whens → Shape) (n : ℕ) (ps : List (Vec Node Global × Node)) → length (starts bodies n (read_whens texts ps)) ≡ length ps
places_count texts bodies n [] = refl
places_count texts bodies n (p ∷ ps) = ap suc (places_count texts bodies n ps)

-- as many places as bodies, once they stand in order
pub places_counted : (texts : Texts) (bodies : Whens → Shape) (n : ℕ) (ps : List (Vec Node Global × Node)) (old new : List ℕ) → old ≡ reverse (starts bodies n (read_whens texts ps)) → new ≡ reverse old → length new ≡ length ps
places_counted texts bodies n ps old new is told = ap length told ∙ length-reverse old ∙ ap length is ∙ length-reverse (starts bodies n (read_whens texts ps)) ∙ places_count texts bodies n ps

pub place_at : (texts : Texts) (bodies : Whens → Shape) (n i d : ℕ) (ps : List (Vec Node Global × Node)) → i < length ps → get_or (starts bodies n (read_whens texts ps)) i d ≡ size (bodies (read_whens texts (drop i ps))) + n
place_at texts bodies n i d [] less = absurd (omega (arith, less))
place_at texts bodies n zero d (p ∷ ps) less = refl
place_at texts bodies n (suc i) d (p ∷ ps) less = place_at texts bodies n i d ps (omega (arith, less))

-- the place of a body, noted behind those of the bodies behind it
pub places_step : (bodies : Whens → Shape) (h place : ℕ) (ts : Trees) (t : Tree) (ws : Whens) (first new : Writing) (before after : List ℕ) → new ≡ grown h (bodies (when ts t ws)) first → place ≡ length new.steps → before ≡ reverse (starts bodies (length first.steps) ws) → after ≡ before ++ place ∷ [] → after ≡ reverse (starts bodies (length first.steps) (when ts t ws))
places_step bodies h place ts t ws first new before after is here noted told =
    let counts = ap (λ (v : Writing). length v.steps) is in
    let grows = grown_length h (bodies (when ts t ws)) first in
    let place_is : place ≡ size (bodies (when ts t ws)) + length first.steps = omega arith in
    told
    ∙ ap (λ ps. ps ++ place ∷ []) noted
    ∙ ap (λ (p : ℕ). reverse (starts bodies (length first.steps) ws) ++ p ∷ []) place_is
    ∙ sym (reverse_onto (starts bodies (length first.steps) ws) (size (bodies (when ts t ws)) + length first.steps) [])
