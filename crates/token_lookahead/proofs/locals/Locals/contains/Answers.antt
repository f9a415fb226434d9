use Rattle.std.proofs.Common.{nat_eq, not, sym, ◌∙◌, ap}
use Rattle.token_lookahead.proofs.LocalIndex.{listed, unlisted, place_there, no_place, within_texts}
use Rattle.token_lookahead.proofs.LocalKeys.{found_at, found_none}
use Rattle.token_lookahead.proofs.locals.Locals.contains.Goals as goal

pub returns-in-Some-get : goal.returns-in-Some-get
returns-in-Some-get c =
    let h = c.self.invariant in
    rw (← c.self.view_is) (ap (λ k. not (nat_eq k 0)) (place_there _ _ _ _ c.deref.ensures.value c.in-Some-get.ensures.lookup.0 c.in-Some-get.ensures.lookup.1 ∙ h.newest_is c.in-Some.number) ∙ sym (listed _ _ c.in-Some.number h.apart (found_at c.args.name.now c.self.inside.texts.keys c.in-Some.number c.in-Some.ensures.index) _ (within_texts _ _ _ _ h)))

pub returns-in-None-get : goal.returns-in-None-get
returns-in-None-get c =
    let h = c.self.invariant in
    rw (← c.self.view_is) (ap (λ k. not (nat_eq k 0)) (no_place _ _ _ c.deref.ensures.value c.in-None-get.ensures.lookup.0 ∙ h.newest_is c.in-Some.number) ∙ sym (listed _ _ c.in-Some.number h.apart (found_at c.args.name.now c.self.inside.texts.keys c.in-Some.number c.in-Some.ensures.index) _ (within_texts _ _ _ _ h)))

pub returns-in-None : goal.returns-in-None
returns-in-None c =
    rw (← c.self.view_is) (sym (unlisted _ _ (found_none c.args.name.now c.self.inside.texts.keys c.in-None.ensures.found) _ (within_texts _ _ _ _ c.self.invariant)))
