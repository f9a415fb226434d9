use Rattle.std.proofs.Common.{◌≡◌, true, Some, slice_get, subst}
use Rattle.indexmap.specs.IndexSet.{insert_key}
use Rattle.ruby_tree.specs.Names.{Bytes, Texts}
use Rattle.ruby_tree.proofs.Numbers.{same, interned}
use Rattle.ruby_tree.proofs.names.SymbolTable.intern.Goals as goal

pub returns-clause-ok : goal.returns-clause-ok
returns-clause-ok c =
    let text_is : c.in_ok-text.text ≡ c.args.text.now = c.in_ok-text.ensures in
    let old_is : c.self.inside.texts.keys ≡ c.args.self.now = c.self.view_is in
    let by : Bytes → Texts → Type 0 = λ text old. (c.insert_full.new.self.keys ≡ insert_key same old text) × ((k : Bytes) × (slice_get c.insert_full.new.self.keys c.in_ok-number.number ≡ Some k) × (same text k ≡ true)) in
    let there : by c.in_ok-text.text c.self.inside.texts.keys = (c.in_ok-number.ensures.keys, c.in_ok-number.ensures.stored) in
    let given : by c.args.text.now c.args.self.now = subst (λ t. by t c.args.self.now) text_is (subst (λ o. by c.in_ok-text.text o) old_is there) in
    interned _ _ _ _ c.insert_full.ensures.unique given.0 given.1
