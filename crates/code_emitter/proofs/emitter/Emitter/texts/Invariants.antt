use Rattle.std.proofs.Common.{◌≡◌, map, take}
use Rattle.ruby_tree.specs.Read.{text_of_name}
use Rattle.code_emitter.specs.Emitting.{texts_of}
use Rattle.code_emitter.proofs.emitter.Emitter.texts.Given as goal

abbrev pub invariant-loop-name : goal.invariant-loop-name
invariant-loop-name l = l.texts ≡ map (text_of_name (texts_of l.self)) (take l.name-index l.names)
