use Rattle.std.proofs.Common.{sym, ◌∙◌}
use Rattle.tree_builder.proofs.GoesOn.{later}
use Rattle.reference_parser.specs.ReadLevels.{chosen}
use Rattle.parse_state.specs.Gives.{gave}
use Rattle.parse_state.proofs.Steps.{from, and_then, failed, handed, wanting, expected, unexpected, yes, no, later_same, later_then, later_of}
use Rattle.parse_operators.proofs.Parts.{at_spot, met_later}
use Rattle.parse_operators.proofs.climbing.chosen.Goals as goal

pub returns-in_err-first : goal.returns-in_err-first
unfolding chosen
returns-in_err-first g c = record { reads = λ o t at h w s a. handed _ _ c.from_residual.ensures.1 (yes _ (sym (c.is_mark.ensures w s a) ∙ c.if-is_mark.true) (from c.bump.ensures.later (failed _ (c.in_err-first.ensures.reads _ _ (c.bump.ensures.at w s a))))) }

pub returns-in_err-expect_mark : goal.returns-in_err-expect_mark
unfolding chosen
returns-in_err-expect_mark g c = record {
  reads = λ o t at h w s a. handed _ _ c.from_residual-in_err-expect_mark.ensures.1 (yes _ (sym (c.is_mark.ensures w s a) ∙ c.if-is_mark.true) (from c.bump.ensures.later (and_then (c.in_ok-first.ensures.reads _ _ (c.bump.ensures.at w s a)) (λ x r z b k. unexpected _ (c.in_err-expect_mark.ensures.expects r z b)))));
}

pub returns-in_err-second : goal.returns-in_err-second
unfolding chosen
returns-in_err-second g c = record {
  reads = λ o t at h w s a. handed _ _ c.from_residual-in_err-second.ensures.1 (yes _ (sym (c.is_mark.ensures w s a) ∙ c.if-is_mark.true) (from c.bump.ensures.later (and_then (c.in_ok-first.ensures.reads _ _ (c.bump.ensures.at w s a)) (λ x r z b k. expected (c.in_ok-expect_mark.ensures.expects r z b) (λ e. failed _ (c.in_err-second.ensures.reads _ _ e))))));
}

pub returns-in_err-second-2 : goal.returns-in_err-second-2
returns-in_err-second-2 g c = record { reads = λ o t at h w s a. wanting _ c.from_residual-in_err-second-2.ensures.1 }

pub returns-in_err-if_else : goal.returns-in_err-if_else
returns-in_err-if_else g c = record { reads = λ o t at h w s a. wanting _ c.from_residual-in_err-if_else.ensures.1 }

pub returns-then-is_mark : goal.returns-then-is_mark
unfolding chosen
returns-then-is_mark g c = record {
  reads = λ o t at h w s a.
      let first = c.in_ok-first.ensures.reads _ _ (c.bump.ensures.at w s a) in
      yes _ (sym (c.is_mark.ensures w s a) ∙ c.if-is_mark.true) (from c.bump.ensures.later (and_then first (λ x r z b k.
      let mark = c.in_ok-expect_mark.ensures.expects r z b in
      expected mark (λ e.
      let second = c.in_ok-second.ensures.reads _ _ e in
      let on = later_then (met_later mark) (later_of second) in
      let whole = later_then c.bump.ensures.later (later_then (later_of first) on) in
      and_then second (λ y q v f i. gave f (later_same _) (at_spot at (c.in_ok-if_else.ensures.made _ t x _ (later _ _ whole.names _ _ h) (later _ _ on.names _ _ k) (c.in_ok-second-2.ensures _ y i))))))));
}

pub returns : goal.returns
unfolding chosen
returns g c = record { reads = λ o t at h w s a. no _ (sym (c.is_mark.ensures w s a) ∙ c.if-is_mark.false) (gave a (later_same _) h) }
