use Rattle.std.proofs.Common.{codes}
use Rattle.parse_parts.proofs.PassingSteps.{bumped_word, finds_later, turn_found, turn_missed}
use Rattle.parse_parts.proofs.Turning.{turn_failed, turn_from, turn_handed, turn_no, turn_then, turn_wanting, turn_yes}
use Rattle.parse_parts.specs.Turns.{ends, goes_on}
use Rattle.parse_state.proofs.Steps.{later_of, later_same, later_then}
use Rattle.tree_builder.proofs.GoesOn.{all_later, later, other_name_later, rescues_later}
use Rattle.ruby_tree.specs.Rules.{word}
use Rattle.std.proofs.Common.{sym, ◌∙◌}
use Rattle.parse_parts.proofs.clauses.one_clause.Goals as goal

pub returns-in_err-classes : goal.returns-in_err-classes
returns-in_err-classes g c = record { turns = λ w s cs k a h. turn_handed _ _ c.from_residual.ensures.1 (turn_from c.enter_clause.ensures.later (turn_failed _ (c.in_err-classes.ensures.reads _ _ (c.enter_clause.ensures.at w s a)))) }

pub returns-in_err-name : goal.returns-in_err-name
returns-in_err-name g c = record { turns = λ w s cs k a h. turn_handed _ _ c.from_residual-in_err-name.ensures.1 (turn_from c.enter_clause.ensures.later (turn_then (c.in_ok-classes.ensures.reads _ _ (c.enter_clause.ensures.at w s a)) (λ ts p y b i. turn_failed _ (c.in_err-name.ensures.reads p y b)))) }

pub returns-in_err-skip_then : goal.returns-in_err-skip_then
returns-in_err-skip_then g c = record { turns = λ w s cs k a h. turn_handed _ _ c.from_residual-in_err-skip_then.ensures.1 (turn_from c.enter_clause.ensures.later (turn_then (c.in_ok-classes.ensures.reads _ _ (c.enter_clause.ensures.at w s a)) (λ ts p y b i. turn_then (c.in_ok-name.ensures.reads p y b) (λ x q u d j. turn_missed _ (c.in_err-skip_then.ensures.finds q u d))))) }

pub returns-in_err-code : goal.returns-in_err-code
returns-in_err-code g c = record { turns = λ w s cs k a h. turn_handed _ _ c.from_residual-in_err-code.ensures.1 (turn_from c.enter_clause.ensures.later (turn_then (c.in_ok-classes.ensures.reads _ _ (c.enter_clause.ensures.at w s a)) (λ ts p y b i. turn_then (c.in_ok-name.ensures.reads p y b) (λ x q u d j. turn_found (c.in_ok-skip_then.ensures.finds q u d) (λ e v f _. turn_failed _ (c.in_err-code.ensures.reads v u f)))))) }

pub returns-in_err-push : goal.returns-in_err-push
returns-in_err-push g c = record { turns = λ w s cs k a h. turn_wanting _ c.from_residual-in_err-push.ensures.1 }

pub returns-then-is_word : goal.returns-then-is_word
returns-then-is_word g c = record {
  turns = λ w s cs k a h. turn_from c.enter_clause.ensures.later (turn_then (c.in_ok-classes.ensures.reads _ _ (c.enter_clause.ensures.at w s a)) (λ ts p y b i. turn_then (c.in_ok-name.ensures.reads p y b) (λ x q u d j. turn_found (c.in_ok-skip_then.ensures.finds q u d) (λ e v f _. turn_then (c.in_ok-code.ensures.reads v u f) (λ t r z n o.
      let fourth = later_then (later_of (c.in_ok-code.ensures.reads v u f)) c.go_behind.ensures.later in
      let third = later_then (finds_later (c.in_ok-skip_then.ensures.finds q u d)) fourth in
      let second = later_then (later_of (c.in_ok-name.ensures.reads p y b)) third in
      let first = later_then (later_then c.enter_clause.ensures.later (later_of (c.in_ok-classes.ensures.reads _ _ (c.enter_clause.ensures.at w s a)))) second in
      let back = c.go_behind.ensures.at r s z (sym a.clause) n in
      let all = c.in_ok-push.ensures _ cs ts x t (rescues_later _ _ first.names _ _ h) (all_later _ _ second.names _ _ i) (other_name_later _ _ third.names _ _ j) (later _ _ c.go_behind.ensures.later.names _ _ o) in
      turn_from c.go_behind.ensures.later (
      let word = sym (c.is_word.ensures r _ back) ∙ c.if-is_word.true in
      turn_yes _ word (goes_on (c.bump.ensures.at r _ back) c.bump.ensures.later (bumped_word c.args.context.source.now (codes "rescue") back word c.bump.ensures.rest) (rescues_later _ _ c.bump.ensures.later.names _ _ all))))))));
}

pub returns : goal.returns
returns g c = record {
  turns = λ w s cs k a h. turn_from c.enter_clause.ensures.later (turn_then (c.in_ok-classes.ensures.reads _ _ (c.enter_clause.ensures.at w s a)) (λ ts p y b i. turn_then (c.in_ok-name.ensures.reads p y b) (λ x q u d j. turn_found (c.in_ok-skip_then.ensures.finds q u d) (λ e v f _. turn_then (c.in_ok-code.ensures.reads v u f) (λ t r z n o.
      let fourth = later_then (later_of (c.in_ok-code.ensures.reads v u f)) c.go_behind.ensures.later in
      let third = later_then (finds_later (c.in_ok-skip_then.ensures.finds q u d)) fourth in
      let second = later_then (later_of (c.in_ok-name.ensures.reads p y b)) third in
      let first = later_then (later_then c.enter_clause.ensures.later (later_of (c.in_ok-classes.ensures.reads _ _ (c.enter_clause.ensures.at w s a)))) second in
      let back = c.go_behind.ensures.at r s z (sym a.clause) n in
      let all = c.in_ok-push.ensures _ cs ts x t (rescues_later _ _ first.names _ _ h) (all_later _ _ second.names _ _ i) (other_name_later _ _ third.names _ _ j) (later _ _ c.go_behind.ensures.later.names _ _ o) in
      turn_from c.go_behind.ensures.later (turn_no _ (sym (c.is_word.ensures r _ back) ∙ c.if-is_word.false) (ends back (later_same _) all)))))));
}
