use Rattle.compile_laws.proofs.TextsRise as texts
use Rattle.compile_laws.proofs.sound.texts_rise.Goals as goal

pub returns : goal.returns
returns c = record { rise = texts.rise; order = texts.order; ordered = texts.ordered; inside = texts.inside }
