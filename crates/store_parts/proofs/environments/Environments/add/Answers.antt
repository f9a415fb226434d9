use Rattle.std.proofs.Common.{rules, ◌≡◌, ◌++◌, ◌∷◌, [], length, replicate, refl, ◌∙◌, ap}
use Rattle.std.specs.Option.{option_map}
use Rattle.store_values.specs.declared.values.Value.TheVariants as value
use Rattle.store_parts.specs.Extents.{scopes_of, Follow}
use Rattle.store_parts.proofs.Extended.{extended}
use Rattle.store_parts.proofs.environments.Environments.add.Goals as goal

both : (c : goal.In-Ok) → Follow 0 c.push.new.self.items (length c.resize.new.self.items) × (scopes_of c.push.new.self.items c.resize.new.self.items ≡ scopes_of c.self.inside.extents.items c.self.inside.slots.items ++ record { parent = option_map (λ e. e.number) c.args.parent; slots = replicate c.args.size value.Nil } ∷ [])
both c =
    extended c.self.inside.extents.items c.reserve.new.self.items c.push.new.self.items c.self.inside.slots.items c.resize.new.self.items
    (record { parent = c.args.parent; start = c.len-start.result; end = c.in-Some.end }) c.args.size c.in-Some.end
    c.self.invariant c.in_ok-reserve.ensures.items c.in-Ok.ensures.items (search rules) (search rules) refl (search rules)

pub invariant_of-self-in-Ok : goal.invariant_of-self-in-Ok
invariant_of-self-in-Ok c = (both c).0

pub returns-in-Ok-clause-added : goal.returns-in-Ok-clause-added
returns-in-Ok-clause-added c = (both c).1 ∙ ap (λ l. l ++ record { parent = option_map (λ e. e.number) c.args.parent; slots = replicate c.args.size value.Nil } ∷ []) c.self.view_is
