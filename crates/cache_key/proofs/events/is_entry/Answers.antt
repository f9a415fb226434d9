use Rattle.std.proofs.Common.{◌≡◌, ◌∙◌, ◌&&◌, ◌==◌, ◌-◌, refl}
use Rattle.std.proofs.lemmas.Bool.{eq-eqb, ne_eqb}
use Rattle.cache_key.specs.Key.{key_version, has_constants}
use Rattle.cache_key.proofs.EventLemmas.{is_entry-cut}
use Rattle.cache_key.proofs.events.is_entry.Goals as goal

pub returns-then-len-number_at : goal.returns-then-len-number_at
returns-then-len-number_at c bytes key_is len_is =
    let same : c.has_constants.result ≡ (c.args.len - 64 == c.number_at.result) && c.has_constants.result = rw (eq-eqb _ _ c.if-len-number_at.true) refl in
    same ∙ is_entry-cut key_version _ _ _ _ bytes key_is len_is c.requires c.number_at.ensures c.has_constants.ensures

pub returns-else-len-number_at : goal.returns-else-len-number_at
returns-else-len-number_at c bytes key_is len_is =
    let constants = has_constants key_version c.args.key.now in
    let same : (c.args.len - 64 == c.number_at.result) ≡ (c.args.len - 64 == c.number_at.result) && constants = rw (ne_eqb _ _ c.if-len-number_at.false) refl in
    same ∙ is_entry-cut key_version _ _ constants _ bytes key_is len_is c.requires c.number_at.ensures refl
