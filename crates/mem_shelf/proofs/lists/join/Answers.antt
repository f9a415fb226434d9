use Rattle.std.proofs.Common.{◌≡◌, ℕ, [], ◌∷◌, ◌++◌, List, take, length, sym, ◌∙◌, ap, append_assoc}
use Rattle.bs_outside.specs.Cache.{CacheItem}
use Rattle.bs_outside.proofs.Owing.{on_err}
use Rattle.mem_shelf.specs.Keeping.{due_at}
use Rattle.mem_shelf.proofs.Joining.{due_at-more, due_at-front}
use Rattle.mem_shelf.proofs.lists.join.Goals as goal

pub returns-in_err-join_one-clause-err : goal.returns-in_err-join_one-clause-err
returns-in_err-join_one-clause-err c =
    let front = due_at c.args.call (take c.loop-guest.guest-index c.args.guests.now) in
    let joined : (n : ℕ) × (c.join_one.new.past.items ≡ c.args.past.now.items ++ take n (due_at c.args.call c.args.guests.now)) = (
      length front,
      c.in_err-join_one.ensures.err ∙ c.loop-guest.invariant
          ∙ ap (λ (l : List CacheItem). c.args.past.now.items ++ l) (due_at-front c.args.call c.args.guests.now c.loop-guest.guest-index),
    ) in
    on_err _ joined

pub loop-guest-preserved : goal.loop-guest-preserved
loop-guest-preserved c =
    let due = due_at c.args.call in
    c.in_ok-join_one.ensures.ok
    ∙ ap (λ (l : List CacheItem). l ++ due (c.guest-item.result ∷ [])) c.loop-guest.invariant
    ∙ append_assoc c.args.past.now.items (due (take c.loop-guest.guest-index c.args.guests.now)) (due (c.guest-item.result ∷ []))
    ∙ ap (λ (l : List CacheItem). c.args.past.now.items ++ l) (sym (due_at-more c.args.call c.args.guests.now c.loop-guest.guest-index _ c.loop-guest-test.true c.guest-item.is))
