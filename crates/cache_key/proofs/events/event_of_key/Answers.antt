use Rattle.std.proofs.Common.{◌∙◌, true, false, refl, sym, ap, arith}
use Rattle.cache_key.specs.Event.{is_digest}
use Rattle.cache_key.proofs.EventLemmas.{number_is, equal, unequal, event_is}
use Rattle.cache_key.proofs.events.event_of_key.Goals as goal
use Rattle.cache_key.proofs.events.event_of_key.Goals.{then-not-is_entry-via-then-not-is_entry, then-not-is_entry-via-else-not-is_entry+then-number_at-stat}

pub returns-then-not-is_entry : goal.returns-then-not-is_entry
returns-then-not-is_entry c bytes key_is len_is =
    let stat = c.args.stat.now in
    elim c.then-not-is_entry.branch [
      | then-not-is_entry-via-then-not-is_entry w ↦
          event_is bytes stat c.args.digest false _ _ _ (sym w.if-not-is_entry.true ∙ c.is_entry.ensures bytes key_is len_is) refl refl refl
      | then-not-is_entry-via-else-not-is_entry+then-number_at-stat w ↦
          event_is bytes stat c.args.digest true false _ _ (sym w.if-not-is_entry.false ∙ c.is_entry.ensures bytes key_is len_is)
          (unequal _ _ _ (number_is 16 _ _ bytes (omega arith) key_is w.number_at.ensures) w.if-number_at-stat.true) refl refl
    ]

pub returns-then-number_at-stat-2 : goal.returns-then-number_at-stat-2
returns-then-number_at-stat-2 c bytes key_is len_is =
    event_is bytes c.args.stat.now c.args.digest true true true _ (sym c.if-not-is_entry.false ∙ c.is_entry.ensures bytes key_is len_is)
    (equal _ _ _ (number_is 16 _ _ bytes (omega arith) key_is c.number_at.ensures) c.if-number_at-stat.false)
    (equal _ _ _ (number_is 24 _ _ bytes (omega arith) key_is c.number_at-2.ensures) c.if-number_at-stat-2.true) refl

pub returns-then-is_digest : goal.returns-then-is_digest
returns-then-is_digest c bytes key_is len_is =
    event_is bytes c.args.stat.now c.args.digest true true false true (sym c.if-not-is_entry.false ∙ c.is_entry.ensures bytes key_is len_is)
    (equal _ _ _ (number_is 16 _ _ bytes (omega arith) key_is c.number_at.ensures) c.if-number_at-stat.false)
    (unequal _ _ _ (number_is 24 _ _ bytes (omega arith) key_is c.number_at-2.ensures) c.if-number_at-stat-2.false)
    (sym c.if-is_digest.true ∙ c.is_digest.ensures ∙ ap (is_digest c.args.digest) (number_is 40 _ _ bytes (omega arith) key_is c.number_at-else-number_at-stat-2.ensures))

pub returns-else-is_digest : goal.returns-else-is_digest
returns-else-is_digest c bytes key_is len_is =
    event_is bytes c.args.stat.now c.args.digest true true false false (sym c.if-not-is_entry.false ∙ c.is_entry.ensures bytes key_is len_is)
    (equal _ _ _ (number_is 16 _ _ bytes (omega arith) key_is c.number_at.ensures) c.if-number_at-stat.false)
    (unequal _ _ _ (number_is 24 _ _ bytes (omega arith) key_is c.number_at-2.ensures) c.if-number_at-stat-2.false)
    (sym c.if-is_digest.false ∙ c.is_digest.ensures ∙ ap (is_digest c.args.digest) (number_is 40 _ _ bytes (omega arith) key_is c.number_at-else-number_at-stat-2.ensures))
