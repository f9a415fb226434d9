use Rattle.std.proofs.Common.{◌∙◌, refl, Some}
use Rattle.ruby_meaning.specs.World.{no_block}
use Rattle.compile_laws.specs.Calling.{at_block, taken}
use Rattle.compile_laws.proofs.CallsCome.{full_locals, block_given_by}
use Rattle.compile_laws.proofs.Enters as enter
use Rattle.compile_laws.proofs.calls.blocks_are_entered.Goals as goal

pub returns : goal.returns
returns c = record {
  enters = λ frame line k vs d turns w e may. enter.block_enters frame line k vs d turns w e may;
  missing = λ frame line k vs w e b. enter.no_closure b frame line k vs w e;
  spent = λ frame line k vs d w e t b. enter.block_found b frame line k vs d w e ∙ enter.block_spent frame line k vs d w t b;
  too_deep = λ frame line k vs d turns w e t f b. enter.block_found b frame line k vs d w e ∙ enter.block_too_deep frame line k vs d w turns t f b;
  full = λ frame line k vs d turns w z e t f g b.
      enter.block_found b frame line k vs d w e
      ∙ enter.block_full frame line k vs d w turns z t f (λ go. full_locals (Some d.environment) d.code (taken d.code vs (at_block d.code turns w)) no_block go (at_block d.code turns w) z g) b;
  given = λ frame line k given vs w o e comes b. block_given_by b frame line k given vs w e ∙ comes b;
  none_given = λ frame line vs w b. refl;
}
