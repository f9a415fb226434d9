use Rattle.std.proofs.Common.{◌≡◌, map, reverse, arith}
use Rattle.bs_outside.proofs.Owing.{on_err}
use Rattle.token_lookahead.specs.LocalNames.{name_of}
use Rattle.token_lookahead.proofs.LocalKeys.{text_of_key, roomy, same_names}
use Rattle.token_lookahead.proofs.LocalSteps.{one_more, names_more, place_at}
use Rattle.token_lookahead.proofs.locals.Locals.declare.Goals as goal

pub returns-in_err-number-clause-err : goal.returns-in_err-number-clause-err
returns-in_err-number-clause-err c =
    on_err _ (same_names c.self.inside.texts.keys c.number_of.new.texts.keys _ _ _ _ c.self.invariant c.number_of.ensures.extends c.self.view_is)

pub invariant_of-self-in_err-make_room : goal.invariant_of-self-in_err-make_room
invariant_of-self-in_err-make_room c =
    roomy c.self.inside.texts.keys c.number_of.new.texts.keys _ _ _ _ c.in_ok-number.number c.args.name.now c.self.invariant c.number_of.ensures.apart c.number_of.ensures.longer c.in_ok-number.ensures.ok c.make_room.ensures.same c.make_room.ensures.longer c.make_room.ensures.fits

pub returns-in_err-make_room-clause-err : goal.returns-in_err-make_room-clause-err
returns-in_err-make_room-clause-err c =
    on_err _ (same_names c.self.inside.texts.keys c.number_of.new.texts.keys _ _ _ _ c.self.invariant c.number_of.ensures.extends c.self.view_is)

pub invariant_of-self-in_err-push : goal.invariant_of-self-in_err-push
invariant_of-self-in_err-push c =
    rw c.in_err-push.ensures.items (roomy c.self.inside.texts.keys c.number_of.new.texts.keys _ _ _ _ c.in_ok-number.number c.args.name.now c.self.invariant c.number_of.ensures.apart c.number_of.ensures.longer c.in_ok-number.ensures.ok c.make_room.ensures.same c.make_room.ensures.longer c.make_room.ensures.fits)

pub returns-in_err-push-clause-err : goal.returns-in_err-push-clause-err
returns-in_err-push-clause-err c =
    let P : Type 0 = map (name_of (map text_of_key c.number_of.new.texts.keys)) (reverse (map (λ d. d.number) c.push.new.self.items)) ≡ c.args.self.now in
    on_err {Q = P} _ (rw c.in_err-push.ensures.items (same_names c.self.inside.texts.keys c.number_of.new.texts.keys _ _ _ _ c.self.invariant c.number_of.ensures.extends c.self.view_is))

pub invariant_of-self-2 : goal.invariant_of-self-2
invariant_of-self-2 c =
    one_more _ _ _ _ _ _ _
    (roomy c.self.inside.texts.keys c.number_of.new.texts.keys _ _ _ _ c.in_ok-number.number c.args.name.now c.self.invariant c.number_of.ensures.apart c.number_of.ensures.longer c.in_ok-number.ensures.ok c.make_room.ensures.same c.make_room.ensures.longer c.make_room.ensures.fits)
    c.in_ok-push.ensures.items
    (place_at _ _ _ c.in_ok-make_room.ensures.within c.index-before.ensures)
    c.in_ok-make_room.ensures.within
    (omega (arith, c.len.ensures, c.in_ok-push.ensures.len, c.self.inside.declared.ok.0))

pub returns-clause-ok : goal.returns-clause-ok
returns-clause-ok c =
    names_more _ _ _ _ _ _ _ c.in_ok-push.ensures.items c.in_ok-number.ensures.ok
    (same_names c.self.inside.texts.keys c.number_of.new.texts.keys _ _ _ _ c.self.invariant c.number_of.ensures.extends c.self.view_is)
