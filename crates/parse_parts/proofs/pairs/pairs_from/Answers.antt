use Rattle.parse_state.proofs.Steps.{named, handed, failed, and_then}
use Rattle.parse_parts.proofs.Gathering.{pairs_from_is}
use Rattle.parse_parts.proofs.pairs.pairs_from.Goals as goal

pub returns-in_err-pairs : goal.returns-in_err-pairs
returns-in_err-pairs g c = record { reads = λ o p e h w s a. handed _ _ c.from_residual.ensures.1 (named (pairs_from_is _ _ _ o p w s) (failed _ (c.in_err-pairs.ensures.reads p h w s a))) }

pub returns : goal.returns
returns g c = record { reads = λ o p e h w s a. named (pairs_from_is _ _ _ o p w s) (and_then (c.in_ok-pairs.ensures.reads p h w s a) (λ ps q y b i. c.end_pairs.ensures.reads o ps e i q y b)) }
