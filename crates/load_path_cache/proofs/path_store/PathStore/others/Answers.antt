use Rattle.std.proofs.Common.{◌-◌, ◌∙◌, cond, length, ap, sym}
use Rattle.std.specs.FinMap as finite
use Rattle.load_path_cache.proofs.Stores.{others_are}
use Rattle.load_path_cache.proofs.path_store.PathStore.others.Goals as goal

pub returns-then-contains_key : goal.returns-then-contains_key
returns-then-contains_key c =
    ap (λ n. n - 1) c.len-count.ensures.len
    ∙ sym (others_are c.self.inside.items.entries c.args.root.now c.self.invariant.sorted
    ∙ ap (λ b. cond b (length c.self.inside.items.entries - 1) (length c.self.inside.items.entries)) (sym c.contains_key.ensures ∙ c.if-contains_key.true))
    ∙ ap (λ s. finite.len (finite.remove s c.args.root.now)) c.self.view_is

pub returns-else-contains_key : goal.returns-else-contains_key
returns-else-contains_key c =
    c.len-count.ensures.len
    ∙ sym (others_are c.self.inside.items.entries c.args.root.now c.self.invariant.sorted
    ∙ ap (λ b. cond b (length c.self.inside.items.entries - 1) (length c.self.inside.items.entries)) (sym c.contains_key.ensures ∙ c.if-contains_key.false))
    ∙ ap (λ s. finite.len (finite.remove s c.args.root.now)) c.self.view_is
