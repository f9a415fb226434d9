use Rattle.std.proofs.Common.{sym, ap, ◌∙◌, Some}
use Rattle.ruby_lexer.specs.Bytes.{Bytes}
use Rattle.ruby_tree.specs.Rules.{position}
use Rattle.ruby_tree.specs.Tree.{at}
use Rattle.token_lookahead.specs.Lookaheads.{do_owner_of}
use Rattle.tree_builder.proofs.GoesOn.{named_later}
use Rattle.reference_parser.specs.Fronts.{label_at}
use Rattle.reference_parser.specs.ReadItems.{pair_by}
use Rattle.parse_state.specs.Gives.{gave, no_syntax}
use Rattle.parse_state.proofs.Steps.{named, and_then, failed, handed, wanting, step, cut, from, later_of, later_same, later_then}
use Rattle.parse_state.proofs.Seen.{sees}
use Rattle.parse_parts.proofs.Parts.{spot_held}
use Rattle.parse_parts.proofs.pairs.labeled.Goals as goal

pub returns-in_err-text : goal.returns-in_err-text
returns-in_err-text g c = record { reads = λ w s a. wanting _ c.from_residual.ensures.1 }

pub returns-in_default : goal.returns-in_default
unfolding pair_by
returns-in_default g c = record { reads = λ w s a. named (ap (λ o. pair_by c.args.context.source.now (g.N.Nested.readers c.args.nested.now c.args.context.source.now) (do_owner_of c.args.do_owner) w s o) (sym (c.in_ok-text.ensures ∙ ap (λ t. label_at t) (sees c.lookahead-lookahead.ensures.rest a)) ∙ c.in_default.is)) no_syntax }

pub returns-in_err-name : goal.returns-in_err-name
returns-in_err-name g c = record { reads = λ w s a. handed _ _ c.from_residual-in_err-name.ensures.1 (cut (c.in_err-name.ensures.gives w s a)) }

pub returns-in_err-value : goal.returns-in_err-value
unfolding pair_by
returns-in_err-value g c = record {
  reads = λ w s a.
      let is = sym (c.in_ok-text.ensures ∙ ap (λ t. label_at t) (sees c.lookahead-lookahead.ensures.rest a)) ∙ c.in-Some.is ∙ ap (λ (f : Bytes). Some f) (sym c.as_slice.ensures) in
      handed _ _ c.from_residual-in_err-value.ensures.1 (named (ap (λ o. pair_by c.args.context.source.now (g.N.Nested.readers c.args.nested.now c.args.context.source.now) (do_owner_of c.args.do_owner) w s o) is) (step (c.in_ok-name.ensures.gives w s a) (λ b i. from c.bump.ensures.later (failed _ (c.in_err-value.ensures.reads _ _ (c.bump.ensures.at w s b))))));
}

pub returns : goal.returns
unfolding pair_by
returns g c = record {
  reads = λ w s a.
      let is = sym (c.in_ok-text.ensures ∙ ap (λ t. label_at t) (sees c.lookahead-lookahead.ensures.rest a)) ∙ c.in-Some.is ∙ ap (λ (f : Bytes). Some f) (sym c.as_slice.ensures) in
      named (ap (λ o. pair_by c.args.context.source.now (g.N.Nested.readers c.args.nested.now c.args.context.source.now) (do_owner_of c.args.do_owner) w s o) is) (step (c.in_ok-name.ensures.gives w s a) (λ b i. from c.bump.ensures.later (and_then (c.in_ok-value.ensures.reads _ _ (c.bump.ensures.at w s b)) (λ v r z f k.
      let l = later_then c.bump.ensures.later (later_of (c.in_ok-value.ensures.reads _ _ (c.bump.ensures.at w s b))) in
      gave f (later_same _) (record { key = spot_held (c.position.ensures ∙ ap (λ t. position t) (sees c.lookahead-lookahead.ensures.rest a)) (c.symbol-key.ensures.made _ _ (named_later _ _ l.names _ _ i)); value = k })))));
}
