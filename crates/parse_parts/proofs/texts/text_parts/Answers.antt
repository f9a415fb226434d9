use Rattle.std.proofs.Common.{◌≡◌, ◌-◌, length, take, drop, ap, sym, ◌∙◌}
use Rattle.ruby_lexer.specs.Pieces.{seen_part, seen_parts, seen_all}
use Rattle.ruby_lexer.specs.Pieces as token
use Rattle.tree_builder.proofs.GoesOn.{pieces_later}
use Rattle.parse_state.proofs.Steps.{wanting, handed}
use Rattle.parse_parts.proofs.Pieces.{begun, ended, none_left, parts_and, left_is, plain_more, code_more, code_failed, plain_seen, code_seen}
use Rattle.parse_parts.proofs.texts.text_parts.Goals as goal

pub loop-left-init : goal.loop-left-init
loop-left-init g c = λ w s a. begun _ _ a (c.new-pieces.ensures _)

pub returns-in_err-new-in-Plain : goal.returns-in_err-new-in-Plain
returns-in_err-new-in-Plain g c = record { reads = λ w s a. wanting _ c.from_residual.ensures.1 }

pub returns-in_err-push_plain-in-Plain : goal.returns-in_err-push_plain-in-Plain
returns-in_err-push_plain-in-Plain g c = record { reads = λ w s a. wanting _ c.from_residual-in_err-push_plain-in-Plain.ensures.1 }

pub returns-in_err-push_code-in-Code : goal.returns-in_err-push_code-in-Code
returns-in_err-push_code-in-Code g c = record { reads = λ w s a. wanting _ c.from_residual-in_err-push_code-in-Code.ensures.1 }

pub returns-in_err-code_part-in-Code : goal.returns-in_err-code_part-in-Code
returns-in_err-code_part-in-Code g c = record {
  reads = λ w s a.
      let front : seen_parts c.loop-left.left.now ≡ token.code (seen_all c.as_slice-in-Code.result.now) (seen_parts (take (length c.loop-left.left.now - 1) (drop 1 c.loop-left.left.now))) = parts_and _ _ c.in-len1-up.len_at_least c.part-item.is ∙ ap (λ p. seen_part p (seen_parts (take (length c.loop-left.left.now - 1) (drop 1 c.loop-left.left.now)))) c.in-Code.is ∙ code_seen _ _ ∙ ap (λ x. token.code x (seen_parts (take (length c.loop-left.left.now - 1) (drop 1 c.loop-left.left.now)))) (ap seen_all (sym c.as_slice-in-Code.ensures)) in
      handed _ _ c.from_residual-in_err-code_part-in-Code.ensures.1 (code_failed c.args.context.source.now (g.N.Nested.readers c.args.nested.now c.args.context.source.now) c.in_err-code_part-in-Code.ensures.reads (left_is c.args.context.source.now (g.N.Nested.readers c.args.nested.now c.args.context.source.now) front (c.loop-left.invariant w s a)));
}

pub loop-left-preserved-in_ok-push_plain-in-Plain : goal.loop-left-preserved-in_ok-push_plain-in-Plain
loop-left-preserved-in_ok-push_plain-in-Plain g c = λ w s a.
    let front : seen_parts c.loop-left.left.now ≡ token.plain c.in_ok-new-in-Plain.field-0 (seen_parts (take (length c.loop-left.left.now - 1) (drop 1 c.loop-left.left.now))) = parts_and _ _ c.in-len1-up.len_at_least c.part-item.is ∙ ap (λ p. seen_part p (seen_parts (take (length c.loop-left.left.now - 1) (drop 1 c.loop-left.left.now)))) c.in-Plain.is ∙ plain_seen _ _ ∙ ap (λ x. token.plain x (seen_parts (take (length c.loop-left.left.now - 1) (drop 1 c.loop-left.left.now)))) (sym (c.in_ok-new-in-Plain.ensures ∙ c.as_slice.ensures)) in
    plain_more c.args.context.source.now (g.N.Nested.readers c.args.nested.now c.args.context.source.now) (λ x h. c.in_ok-push_plain-in-Plain.ensures _ x h) (left_is c.args.context.source.now (g.N.Nested.readers c.args.nested.now c.args.context.source.now) front (c.loop-left.invariant w s a))

pub loop-left-preserved : goal.loop-left-preserved
loop-left-preserved g c = λ w s a.
    let front : seen_parts c.loop-left.left.now ≡ token.code (seen_all c.as_slice-in-Code.result.now) (seen_parts (take (length c.loop-left.left.now - 1) (drop 1 c.loop-left.left.now))) = parts_and _ _ c.in-len1-up.len_at_least c.part-item.is ∙ ap (λ p. seen_part p (seen_parts (take (length c.loop-left.left.now - 1) (drop 1 c.loop-left.left.now)))) c.in-Code.is ∙ code_seen _ _ ∙ ap (λ x. token.code x (seen_parts (take (length c.loop-left.left.now - 1) (drop 1 c.loop-left.left.now)))) (ap seen_all (sym c.as_slice-in-Code.ensures)) in
    code_more c.args.context.source.now (g.N.Nested.readers c.args.nested.now c.args.context.source.now) (λ x t h i l. c.in_ok-push_code-in-Code.ensures _ x t (pieces_later _ _ l.names _ _ h) i) c.in_ok-code_part-in-Code.ensures.reads (left_is c.args.context.source.now (g.N.Nested.readers c.args.nested.now c.args.context.source.now) front (c.loop-left.invariant w s a))

pub returns : goal.returns
returns g c = record { reads = λ w s a. ended c.args.context.source.now (g.N.Nested.readers c.args.nested.now c.args.context.source.now) (left_is c.args.context.source.now (g.N.Nested.readers c.args.nested.now c.args.context.source.now) (none_left _ c.in_default.len_below) (c.loop-left.invariant w s a)) }
