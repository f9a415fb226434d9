use Rattle.std.proofs.Common.{subst, ◌++◌, codes}
use Rattle.ruby_lexer.specs.Bytes.{Bytes}
use Rattle.ruby_tree.specs.Rules.{word}
use Rattle.tree_builder.specs.Subtrees.{IsNamed}
use Rattle.tree_builder.proofs.GoesOn.{named_later}
use Rattle.parse_state.specs.Gives.{finds}
use Rattle.parse_state.proofs.Steps.{finds_handed, finds_step, finds_cut, later_then}
use Rattle.parse_state.proofs.Seen.{sees, seen_as}
use Rattle.parse_state.proofs.standing.Parser.setter_name.Goals as goal

pub returns-in_err-name : goal.returns-in_err-name
returns-in_err-name c = record { finds = λ w s a. finds_handed _ _ c.from_residual.ensures.1 (finds_cut (c.in_err-name.ensures.gives w s a)) }

pub returns : goal.returns
returns c = record {
  finds = λ w s a. finds_step (c.in_ok-name.ensures.gives w s a) (λ b h.
      let l = later_then c.bump.ensures.later c.bump-2.ensures.later in
      finds (c.bump-2.ensures.at _ _ (c.bump.ensures.at w s b)) l
      (subst (λ (f : Bytes). IsNamed c.bump-2.new.self.symbols c.in_ok-name.name (f ++ codes "=")) (seen_as (λ x t. word x t) c.word.ensures c.lookahead.ensures.source (sees c.lookahead.ensures.rest a)) (named_later _ _ l.names _ _ h)));
}
