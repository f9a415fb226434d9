use Rattle.std.proofs.Common.{sym, ap, ◌∙◌, not, ◌&&◌, Bool, codes}
use Rattle.ruby_tree.specs.Rules.{is_mark}
use Rattle.parse_parts.proofs.calls.is_key.Goals as goal

pub returns-then-not-element : goal.returns-then-not-element
returns-then-not-element c = λ w s a. c.is_mark.ensures w s a ∙ sym (ap (λ (b : Bool). not b && is_mark c.args.context.source.now (codes "=>") w) c.if-not-element.true)
