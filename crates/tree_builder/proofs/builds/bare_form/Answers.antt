use Rattle.std.proofs.Common.{◌≡◌, Bool, true, false, ◌&&◌, [], codes, sym, ap, subst, ◌∙◌, if◌then◌else◌}
use Rattle.ruby_lexer.specs.Bytes.{Bytes, same}
use Rattle.ruby_tree.specs.Tree.{Form, at, bare_raise, send, without, no_more}
use Rattle.ruby_tree.specs.Rules.{Scope}
use Rattle.ruby_tree.specs.Build.{bare_form}
use Rattle.ruby_tree.specs.SourcePositions.{position_of}
use Rattle.tree_builder.specs.Subtrees.{Holds}
use Rattle.tree_builder.proofs.builds.bare_form.Goals as goal

form_is : (s : Scope) (x : Bytes) (b d : Bool) → s.clause ≡ b → d ≡ (b && same x (codes "raise")) → bare_form s x ≡ (if d then bare_raise else send without no_more [] without x true without)
form_is s x b d is e = ap (λ (i : Bool). if i then bare_raise else send without no_more [] without x true without) (ap (λ (i : Bool). i && same x (codes "raise")) is ∙ sym e)

pub returns-then-raises : goal.returns-then-raises
returns-then-raises c = record {
  made = λ T s is n.
      subst (λ (f : Form). Holds T c.bare_raise.result (at (position_of c.args.here) f)) (sym (form_is s c.args.text.now _ true is c.if-raises.ensures)) (c.bare_raise.ensures.made T);
}

pub returns : goal.returns
returns c = record {
  made = λ T s is n.
      subst (λ (f : Form). Holds T c.send_with.result (at (position_of c.args.here) f)) (sym (form_is s c.args.text.now _ false is c.if-raises.ensures))
      (c.send_with.ensures T without no_more c.args.text.now (c.none.ensures T) (c.new.ensures T) n);
}
