-- Lines of a text.
use Rattle.std.proofs.Common.{◌≡◌, ℕ, ◌<◌, ◌+◌, ◌==◌, if◌then◌else◌, List, [], ◌∷◌, ◌++◌, length, take, get_or, ◌∙◌, ap, add-one, arith}
use Rattle.std.proofs.lemmas.Bool.Decides.{nat_tests}
use Rattle.std.proofs.Math.Seq.{take-suc}
use Rattle.data_text.specs.Lines.{newlines}

newlines_append : (a b : List ℕ) → newlines (a ++ b) ≡ newlines a + newlines b
newlines_append [] b = omega arith
newlines_append (x ∷ a) b = let more = newlines_append a b in omega (arith, more)

pub is_newline : (b : ℕ) → b ≡ 10 → ◌≡◌ {A = ℕ} (if b == 10 then 1 else 0) 1
is_newline b h = grind (arith, nat_tests)

pub no_newline : (b : ℕ) → (b ≡ 10 → ⊥) → ◌≡◌ {A = ℕ} (if b == 10 then 1 else 0) 0
no_newline b h = grind (arith, nat_tests)

pub newline_more : (text : List ℕ) (i : ℕ) → i < length text → newlines (take (i + 1) text) ≡ newlines (take i text) + (if get_or text i 0 == 10 then 1 else 0)
newline_more text i h =
    let split : take (i + 1) text ≡ take i text ++ get_or text i 0 ∷ [] = rw add-one (take-suc text i 0 h) in
    let sum = newlines_append (take i text) (get_or text i 0 ∷ []) in
    ap newlines split ∙ sum ∙ ap (λ v. newlines (take i text) + v) (omega arith)
