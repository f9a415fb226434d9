use Rattle.std.proofs.Common.{◌≡◌, ℕ, ◌+◌, ◌-◌, ◌<◌, ◌∙◌, Bool, true, false, not, List, ◌++◌, ◌∷◌, [], MatchBool, ap, subst, sym, inl, inr, arith}
use Rattle.std.proofs.lemmas.Bool.{cases_eq}
use Rattle.std.proofs.lemmas.Grind.{common_steps}
use Rattle.msgpack_codec.specs.Values.{IsLive, IsFree, is_in}
use Rattle.msgpack_codec.proofs.Keys.{whole_live, whole_dead, room_live, free_longer, free_not_whole, none_longer}
use Rattle.msgpack_codec.proofs.live.+has_unused_body.Goals as goal

whole : (used : List (List ℕ)) (w : List ℕ) (has : Bool) → IsFree w 0 → has ≡ is_in used w → MatchBool (not has) (IsLive used w) (IsLive used w → ⊥)
whole used w true free e = whole_dead used w free (sym e)
whole used w false free e = whole_live used w free (sym e)

pub returns-then-missing-eq0-clause-live : goal.returns-then-missing-eq0-clause-live
returns-then-missing-eq0-clause-live t c =
    whole c.args.used.now c.args.text.now.items c.has.result (subst (IsFree c.args.text.now.items) c.if-missing-eq0.true c.requires.free)
    (c.has.ensures ∙ ap (is_in c.args.used.now) c.as_slice.ensures.value)

pub returns-then-missing-gt3-clause-live : goal.returns-then-missing-gt3-clause-live
returns-then-missing-gt3-clause-live t c = room_live c.args.used.now c.args.text.now.items c.args.missing c.requires.few c.requires.free c.if-missing-gt3.true

pub has_unused_body-requires : goal.has_unused_body-requires
has_unused_body-requires t c =
    let text = c.in_ok-push.ensures.items ∙ ap (λ w. w ++ c.loop-byte.byte ∷ []) c.loop-byte.invariant.same in (
      omega arith,
      (
        c.requires.few,
        subst (λ w. IsFree w (c.args.missing - 1)) (sym text) (free_longer c.args.used.now c.args.text.now.items c.args.missing c.loop-byte.byte c.requires.free c.if-missing-eq0.false c.loop-byte-test.true),
      ),
    )

-- a byte more that leads to no key
next_dead : (used : List (List ℕ)) (w longer : List ℕ) (n : ℕ) (found : Bool) → found ≡ false → longer ≡ w ++ n ∷ [] → MatchBool found (IsLive used longer) (IsLive used longer → ⊥)
    → ((b : ℕ) → b < n → IsLive used (w ++ b ∷ []) → ⊥) → (b : ℕ) → b < n + 1 → IsLive used (w ++ b ∷ []) → ⊥
next_dead used w longer n true e is h dead b small live = absurd (let k : true ≡ false = e in cc)
next_dead used w longer n false e is h dead b small live =
    elim (cases_eq b n) [
      | inl k ↦ h (subst (IsLive used) (ap (λ v. w ++ v ∷ []) k ∙ sym is) live)
      | inr k ↦ dead b (omega arith) live
    ]

pub loop-byte-preserved : goal.loop-byte-preserved
loop-byte-preserved t c =
    let text = c.in_ok-push.ensures.items ∙ ap (λ w. w ++ c.loop-byte.byte ∷ []) c.loop-byte.invariant.same in
    record {
      same = grind (arith, common_steps);
      dead = next_dead c.args.used.now c.args.text.now.items c.push.new.self.items c.loop-byte.byte c.in_ok-found.found c.if-found.false text c.in_ok-found.ensures.live c.loop-byte.invariant.dead;
    }

pub returns-clause-live : goal.returns-clause-live
returns-clause-live t c =
    none_longer c.args.used.now c.args.text.now.items (free_not_whole c.args.used.now c.args.text.now.items c.args.missing c.requires.free c.if-missing-eq0.false)
    (λ b small. c.loop-byte.invariant.dead b (omega arith))
