use Rattle.std.proofs.Common.{◌≡◌, true, false, ◌&&◌, sym, ◌∙◌, ap}
use Rattle.bs_outside.specs.Paths.{same_bytes}
use Rattle.cache_key.specs.Key.{key_version, key_head, key_tail, has_constants}
use Rattle.cache_key.proofs.keys.has_constants.Goals as goal
use Rattle.std.proofs.Common.{take, drop, Bool}

pub returns-then-eq : goal.returns-then-eq
unfolding has_constants
returns-then-eq c =
    let front : true ≡ same_bytes (take 16 c.args.key.now) (key_head key_version) = sym c.if-eq.true ∙ c.eq.ensures in
    c.eq-then-eq.ensures ∙ ap (λ (t : Bool). t && same_bytes (take 16 (drop 48 c.args.key.now)) key_tail) front

pub returns-else-eq : goal.returns-else-eq
unfolding has_constants
returns-else-eq c =
    let front : false ≡ same_bytes (take 16 c.args.key.now) (key_head key_version) = sym c.if-eq.false ∙ c.eq.ensures in
    c.if-eq.false ∙ ap (λ (t : Bool). t && same_bytes (take 16 (drop 48 c.args.key.now)) key_tail) front
