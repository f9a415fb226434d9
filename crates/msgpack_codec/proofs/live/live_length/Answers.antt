use Rattle.std.proofs.Common.{◌≡◌, ◌≤◌, ◌<◌, ◌+◌, ◌-◌, ◌∙◌, ℕ, Bool, true, false, List, length, take, MatchBool, ap, subst, sym, arith}
use Rattle.std.proofs.Math.Seq.{take-length}
use Rattle.std.proofs.lemmas.List.{take-take}
use Rattle.msgpack_codec.specs.Values.{IsLive}
use Rattle.msgpack_codec.proofs.Keys.{live_same, empty_live}
use Rattle.msgpack_codec.proofs.live.live_length.Goals as goal

pub loop-length-init : goal.loop-length-init
loop-length-init c = record {
  text = c.in_ok-text.ensures.items ∙ sym (take-length c.args.front.now);
  within = omega arith;
  no_longer = λ less. absurd (omega arith);
}

pub returns-then-branch-clause-within : goal.returns-then-branch-clause-within
returns-then-branch-clause-within c = c.loop-length.invariant.within

is_live : (used : List (List ℕ)) (w : List ℕ) (found : Bool) → found ≡ true → MatchBool found (IsLive used w) (IsLive used w → ⊥) → IsLive used w
is_live used w true e h = h
is_live used w false e h = absurd (let k : false ≡ true = e in cc)

is_dead : (used : List (List ℕ)) (w : List ℕ) (found : Bool) → found ≡ false → MatchBool found (IsLive used w) (IsLive used w → ⊥) → IsLive used w → ⊥
is_dead used w false e h = h
is_dead used w true e h = absurd (let k : true ≡ false = e in cc)

pub returns-then-branch-clause-live : goal.returns-then-branch-clause-live
returns-then-branch-clause-live c =
    let here = is_live c.in_ok-copies.copies c.loop-length.text.items c.in_ok-has_unused.field-0 c.if-branch.true c.in_ok-has_unused.ensures.live in
    subst (IsLive c.args.used.now) c.loop-length.invariant.text (live_same c.in_ok-copies.copies c.args.used.now c.in_ok-copies.ensures.same c.loop-length.text.items here)

pub returns-then-branch-clause-no_longer : goal.returns-then-branch-clause-no_longer
returns-then-branch-clause-no_longer c = c.loop-length.invariant.no_longer

pub loop-length-preserved : goal.loop-length-preserved
loop-length-preserved c =
    let above : 1 ≤ c.loop-length.length = omega arith in
    let less : c.loop-length.length - 1 ≤ c.loop-length.length = omega arith in
    let n : c.loop-length.length - 1 + 1 ≡ c.loop-length.length = omega arith in
    record {
      text = c.truncate.ensures.items ∙ ap (take (c.loop-length.length - 1)) (c.in_ok-has_unused.ensures.same ∙ c.loop-length.invariant.text) ∙ take-take (c.loop-length.length - 1) c.loop-length.length c.args.front.now less;
      within = omega (arith, c.loop-length.invariant.within);
      no_longer = λ under live.
          is_dead c.in_ok-copies.copies c.loop-length.text.items c.in_ok-has_unused.field-0 c.if-branch.false c.in_ok-has_unused.ensures.live
          (live_same c.args.used.now c.in_ok-copies.copies (λ t. sym (c.in_ok-copies.ensures.same t)) c.loop-length.text.items
          (subst (IsLive c.args.used.now) (ap (λ k. take k c.args.front.now) n ∙ sym c.loop-length.invariant.text) live));
    }

pub returns-clause-live : goal.returns-clause-live
returns-clause-live c = empty_live c.args.used.now c.requires

pub returns-clause-no_longer : goal.returns-clause-no_longer
returns-clause-no_longer c =
    let none : c.loop-length.length ≡ 0 = omega arith in
    subst (λ n. n < length c.args.front.now → IsLive c.args.used.now (take (n + 1) c.args.front.now) → ⊥) none c.loop-length.invariant.no_longer
