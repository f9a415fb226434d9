use Rattle.std.proofs.Common.{refl, arith}
use Rattle.iseq_dump.proofs.PublicAnswers.{sound_more, all_sound, on_some}
use Rattle.iseq_dump.proofs.loading.are_sound.Goals as goal

pub loop-id-preserved : goal.loop-id-preserved
loop-id-preserved c =
    sound_more c.as_slice-bodies.result.now c.as_slice-rows.result.now c.loop-id.id c.index-bodies-id.result (omega arith) c.index-bodies-id.is
    (on_some c.in_ok-check_body_in.field-0 _ c.if-is_none.ensures c.in_ok-check_body_in.ensures.sound) c.loop-id.invariant

pub returns : goal.returns
returns c =
    (λ t. all_sound c.args.unit.now c.as_slice-bodies.result.now c.as_slice-rows.result.now c.loop-id.id c.as_slice-bodies.ensures c.as_slice-rows.ensures c.loop-id-test.false c.loop-id.invariant, λ h. refl)
