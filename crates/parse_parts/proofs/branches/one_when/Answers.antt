use Rattle.std.proofs.Common.{codes}
use Rattle.parse_parts.proofs.PassingSteps.{bumped_word, finds_later, turn_found, turn_missed}
use Rattle.parse_parts.proofs.Turning.{turn_failed, turn_handed, turn_no, turn_then, turn_wanting, turn_yes}
use Rattle.parse_parts.specs.Turns.{ends, goes_on}
use Rattle.parse_state.proofs.Steps.{later_of, later_same, later_then}
use Rattle.tree_builder.proofs.GoesOn.{all_later, whens_later}
use Rattle.ruby_tree.specs.Rules.{word}
use Rattle.std.proofs.Common.{sym, ◌∙◌}
use Rattle.parse_parts.proofs.branches.one_when.Goals as goal

pub returns-in_err-values : goal.returns-in_err-values
returns-in_err-values g c = record { turns = λ w s cs k a h. turn_handed _ _ c.from_residual.ensures.1 (turn_failed _ (c.in_err-values.ensures.reads w s a)) }

pub returns-in_err-skip_then : goal.returns-in_err-skip_then
returns-in_err-skip_then g c = record { turns = λ w s cs k a h. turn_handed _ _ c.from_residual-in_err-skip_then.ensures.1 (turn_then (c.in_ok-values.ensures.reads w s a) (λ ts q y b i. turn_missed _ (c.in_err-skip_then.ensures.finds q y b))) }

pub returns-in_err-code : goal.returns-in_err-code
returns-in_err-code g c = record { turns = λ w s cs k a h. turn_handed _ _ c.from_residual-in_err-code.ensures.1 (turn_then (c.in_ok-values.ensures.reads w s a) (λ ts q y b i. turn_found (c.in_ok-skip_then.ensures.finds q y b) (λ e v f _. turn_failed _ (c.in_err-code.ensures.reads v y f)))) }

pub returns-in_err-push : goal.returns-in_err-push
returns-in_err-push g c = record { turns = λ w s cs k a h. turn_wanting _ c.from_residual-in_err-push.ensures.1 }

pub returns-then-is_word : goal.returns-then-is_word
returns-then-is_word g c = record {
  turns = λ w s cs k a h. turn_then (c.in_ok-values.ensures.reads w s a) (λ ts q y b i. turn_found (c.in_ok-skip_then.ensures.finds q y b) (λ e v f _. turn_then (c.in_ok-code.ensures.reads v y f) (λ t r z n o.
      let third = later_of (c.in_ok-code.ensures.reads v y f) in
      let second = later_then (finds_later (c.in_ok-skip_then.ensures.finds q y b)) third in
      let first = later_then (later_of (c.in_ok-values.ensures.reads w s a)) second in
      let all = c.in_ok-push.ensures _ cs ts t (whens_later _ _ first.names _ _ h) (all_later _ _ second.names _ _ i) o in
      let word = sym (c.is_word.ensures r z n) ∙ c.if-is_word.true in
      turn_yes _ word (goes_on (c.bump.ensures.at r z n) c.bump.ensures.later (bumped_word c.args.context.source.now (codes "when") n word c.bump.ensures.rest) (whens_later _ _ c.bump.ensures.later.names _ _ all)))));
}

pub returns : goal.returns
returns g c = record {
  turns = λ w s cs k a h. turn_then (c.in_ok-values.ensures.reads w s a) (λ ts q y b i. turn_found (c.in_ok-skip_then.ensures.finds q y b) (λ e v f _. turn_then (c.in_ok-code.ensures.reads v y f) (λ t r z n o.
      let third = later_of (c.in_ok-code.ensures.reads v y f) in
      let second = later_then (finds_later (c.in_ok-skip_then.ensures.finds q y b)) third in
      let first = later_then (later_of (c.in_ok-values.ensures.reads w s a)) second in
      let all = c.in_ok-push.ensures _ cs ts t (whens_later _ _ first.names _ _ h) (all_later _ _ second.names _ _ i) o in
      turn_no _ (sym (c.is_word.ensures r z n) ∙ c.if-is_word.false) (ends n (later_same _) all))));
}
