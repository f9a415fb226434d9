use Rattle.std.proofs.Common.{ap, sym}
use Rattle.ruby_tree.specs.Build.{symbol_of}
use Rattle.reference_parser.specs.Answers.{taken}
use Rattle.reference_parser.specs.ReadItems.{passing_by, read_passed}
use Rattle.parse_state.proofs.Steps.{named, from, handed, failed, and_then}
use Rattle.parse_state.proofs.Seen.{sees}
use Rattle.parse_parts.proofs.passing.passed.Goals as goal

pub returns-in_err-part : goal.returns-in_err-part
unfolding read_passed
returns-in_err-part g c = record { reads = λ w s a. handed _ _ c.from_residual.ensures.1 (from c.bump.ensures.later (failed _ (c.in_err-part.ensures.reads _ _ (c.bump.ensures.at w s a)))) }

pub returns : goal.returns
unfolding read_passed
returns g c = record {
  reads = λ w s a. from c.bump.ensures.later (and_then (c.in_ok-part.ensures.reads _ _ (c.bump.ensures.at w s a)) (λ t r z b h.
      named (ap (λ v. taken (passing_by v t (symbol_of t)) r z) (sym (sees c.lookahead-lookahead.ensures.rest a))) (c.by_symbol.ensures.gives r z t b h)));
}
