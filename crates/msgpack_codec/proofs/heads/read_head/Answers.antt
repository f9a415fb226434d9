use Rattle.std.proofs.Common.{◌≡◌, ◌<◌, ◌∙◌, sym, ap, subst, true, false, MatchResult, arith}
use Rattle.msgpack_codec.specs.Heads.{form_of, can_stand, IsSoundForm, Follows}
use Rattle.msgpack_codec.specs.Reading.{Found, Stopped}
use Rattle.msgpack_codec.proofs.Firsts.{short_head, refused_head, head_result, can_used}
use Rattle.msgpack_codec.proofs.Forms.{sound_form}
use Rattle.msgpack_codec.proofs.heads.read_head.Goals as goal

pub returns-in_default : goal.returns-in_default
returns-in_default c = short_head c.args.nests c.args.bytes.now c.in_default.ensures.cases

pub returns-then-not-can_stand : goal.returns-then-not-can_stand
returns-then-not-can_stand c =
    let stands : can_stand (form_of c.in-Some.first.now) c.args.nests ≡ false = ap (λ f. can_stand f c.args.nests) (sym c.form_of-form.ensures) ∙ sym c.can_stand.ensures ∙ c.if-not-can_stand.true in
    refused_head c.args.nests c.in-Some.first.now c.in-Some.rest.now c.args.bytes.now c.in-Some.ensures.cases.0 stands

pub read_rest-requires-clause-sound : goal.read_rest-requires-clause-sound
read_rest-requires-clause-sound c = subst IsSoundForm (sym c.form_of-form.ensures) (sound_form c.in-Some.first.now)

pub read_rest-requires-clause-used : goal.read_rest-requires-clause-used
read_rest-requires-clause-used c = can_used c.form_of-form.result c.args.nests (sym c.can_stand.ensures ∙ c.if-not-can_stand.false)

pub returns : goal.returns
returns c =
    let small : c.in-Some.first.now < 256 = omega arith in
    let stands : can_stand (form_of c.in-Some.first.now) c.args.nests ≡ true = ap (λ f. can_stand f c.args.nests) (sym c.form_of-form.ensures) ∙ sym c.can_stand.ensures ∙ c.if-not-can_stand.false in
    head_result c.args.nests c.in-Some.first.now c.in-Some.rest.now c.args.bytes.now c.in-Some.ensures.cases.0 small stands c.read_rest.result
    (subst (λ f. MatchResult c.read_rest.result (λ r. Found (Follows f) r.0 c.in-Some.rest.now r.1.now) (λ e. Stopped (Follows f) c.in-Some.rest.now e)) c.form_of-form.ensures c.read_rest.ensures)
