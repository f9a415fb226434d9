use Rattle.std.proofs.Common.{sym, ◌∙◌, refl}
use Rattle.ruby_tree.specs.Tree.{at, hash}
use Rattle.ruby_tree.specs.Rules.{position}
use Rattle.tree_builder.proofs.GoesOn.{pairs_later}
use Rattle.reference_parser.specs.ReadItems.{end_pairs, no_passing}
use Rattle.parse_state.specs.Gives.{gave}
use Rattle.parse_state.proofs.Steps.{yes, no, from, handed, failed, and_then, later_of, later_same, later_then}
use Rattle.parse_parts.proofs.Parts.{spot_held}
use Rattle.parse_parts.proofs.pairs.end_pairs.Goals as goal

pub returns-in_err-passing : goal.returns-in_err-passing
unfolding end_pairs
returns-in_err-passing g c = record { reads = λ o ps e h w s a. handed _ _ c.from_residual.ensures.1 (yes _ (sym (c.more_passed.ensures w s a) ∙ c.if-more_passed.true) (from c.bump.ensures.later (failed _ (c.in_err-passing.ensures.reads _ _ (c.bump.ensures.at w s a))))) }

pub returns-then-more_passed : goal.returns-then-more_passed
unfolding end_pairs
returns-then-more_passed g c = record {
  reads = λ o ps e h w s a. yes _ (sym (c.more_passed.ensures w s a) ∙ c.if-more_passed.true) (from c.bump.ensures.later (and_then (c.in_ok-passing.ensures.reads _ _ (c.bump.ensures.at w s a)) (λ p q y b i.
      let l = later_then c.bump.ensures.later (later_of (c.in_ok-passing.ensures.reads _ _ (c.bump.ensures.at w s a))) in
      gave b (later_same _) (record { tree = at (position o) (hash ps); passing = p; hash = spot_held e (c.hash-hash.ensures.made _ ps (pairs_later _ _ l.names _ _ h)); passed = i; is = refl }))));
}

pub returns : goal.returns
unfolding end_pairs
returns g c = record { reads = λ o ps e h w s a. no _ (sym (c.more_passed.ensures w s a) ∙ c.if-more_passed.false) (gave a (later_same _) (record { tree = at (position o) (hash ps); passing = no_passing; hash = spot_held e (c.hash-hash-2.ensures.made _ ps h); passed = c.none-passing.ensures _; is = refl })) }
