use Rattle.yarv_compile.proofs.ByNumbers.{placed, apart, numbered, counted}
use Rattle.yarv_compile.proofs.laws.sequences_stand_by_their_numbers.Goals as goal

pub returns : goal.returns
returns c = record { places = placed; apart = apart; numbered = numbered; counted = counted }
