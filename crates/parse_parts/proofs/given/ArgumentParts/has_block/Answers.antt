use Rattle.std.proofs.Common.{sym, ap, ◌∙◌, true, if◌then◌else◌}
use Rattle.ruby_tree.specs.Build.{is_there}
use Rattle.parse_parts.proofs.given.ArgumentParts.has_block.Goals as goal

pub returns-then-is_some : goal.returns-then-is_some
returns-then-is_some c = λ T g h. c.if-is_some.true ∙ sym (ap (λ b. if b then true else is_there g.block) (sym (c.is_some.ensures T g.value h.value) ∙ c.if-is_some.true))

pub returns-else-is_some : goal.returns-else-is_some
returns-else-is_some c = λ T g h. c.is_some-else-is_some.ensures T g.block h.block ∙ sym (ap (λ b. if b then true else is_there g.block) (sym (c.is_some.ensures T g.value h.value) ∙ c.if-is_some.false))
