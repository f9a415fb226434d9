use Rattle.std.proofs.Common.{sym, ap, ◌∙◌, ◌&&◌, Bool}
use Rattle.ruby_tree.specs.Build.{is_body}
use Rattle.parse_statements.proofs.sequences.is_begun.Goals as goal

pub returns-then-begins : goal.returns-then-begins
returns-then-begins c = λ T t h small. c.is_body.ensures T t h small ∙ sym (ap (λ (x : Bool). x && is_body t) c.if-begins.true)
