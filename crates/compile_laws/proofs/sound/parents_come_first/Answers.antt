use Rattle.compile_laws.proofs.TextsRise as texts
use Rattle.compile_laws.proofs.sound.parents_come_first.Goals as goal

pub returns : goal.returns
returns c = record { first = texts.parents_first; index = texts.index_is }
