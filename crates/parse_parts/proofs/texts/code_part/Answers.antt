use Rattle.reference_parser.specs.Fronts.{is_empty}
use Rattle.parse_parts.proofs.PassingSteps.{failed_up, then_up}
use Rattle.parse_state.proofs.Seen.{seen, sees}
use Rattle.parse_state.proofs.Steps.{handed, later_of, no, yes}
use Rattle.parse_state.specs.Gives.{gave, no_syntax}
use Rattle.ruby_lexer.specs.Pieces.{seen_all}
use Rattle.std.proofs.Common.{le_refl, refl}
use Rattle.parse_parts.proofs.texts.code_part.Goals as goal

pub returns-in_err-code : goal.returns-in_err-code
returns-in_err-code g c = record { reads = λ w s a. handed _ _ c.from_residual.ensures.1 (failed_up _ (c.in_err-code.ensures.reads (seen_all c.args.tokens.now) s (record { tokens = refl; locals = a.locals; clause = a.clause }))) }

pub returns-then-is_empty : goal.returns-then-is_empty
returns-then-is_empty g c = record {
  reads = λ w s a. then_up (c.in_ok-code.ensures.reads (seen_all c.args.tokens.now) s (record { tokens = refl; locals = a.locals; clause = a.clause })) (λ t r y b h.
      let l = later_of (c.in_ok-code.ensures.reads (seen_all c.args.tokens.now) s (record { tokens = refl; locals = a.locals; clause = a.clause })) in
      yes _ (seen (λ u. is_empty u) c.is_empty.ensures (sees c.lookahead.ensures.rest b) c.if-is_empty.true) (gave (record { tokens = a.tokens; locals = b.locals; clause = b.clause }) (record { names = l.names; locals = l.locals; rest = le_refl _ }) h));
}

pub returns : goal.returns
returns g c = record { reads = λ w s a. then_up (c.in_ok-code.ensures.reads (seen_all c.args.tokens.now) s (record { tokens = refl; locals = a.locals; clause = a.clause })) (λ t r y b h. no _ (seen (λ u. is_empty u) c.is_empty.ensures (sees c.lookahead.ensures.rest b) c.if-is_empty.false) no_syntax) }
